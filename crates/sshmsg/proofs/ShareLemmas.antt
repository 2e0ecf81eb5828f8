-- What is spelled in an exchange is a message of that exchange.

use Rattle.std.proofs.Common.{◌≡◌, ◌≢◌, ℕ, List, Some, inl, inr, refl, sym, ◌∙◌, eqb}
use Rattle.std.proofs.lemmas.Bool.{cases_Bool, eqb-false, eqb-true}
use Rattle.sshwire.specs.declared.share_form.ShareForm.{ShareForm}
use Rattle.sshwire.specs.declared.share_form.ShareForm.TheVariants.{Hybrid, Mpint, OctetString}
use Rattle.sshmsg.specs.MessageData.{Form, form_of, init_of, KexdhInit, KexdhReply, KexEcdhInit, KexEcdhReply, MessageData, reply_of}
use Rattle.sshmsg.specs.Form.{Done, FillsForm, Of, Rest, Then}
use Rattle.sshmsg.specs.Messages.{Spells}
use Rattle.sshmsg.specs.Numbers.{number_of}
use Rattle.sshmsg.specs.Written.{IsMessageOf}
use Rattle.sshmsg.proofs.NumberLemmas.{number_told}

-- each message of the form is one of the exchange
abbrev Within : ShareForm → Form → Type 0
Within shares (Done c) = IsMessageOf shares c
Within shares (Then f next) = (value : Of f) → Within shares (next value)
Within shares (Rest next) = (bytes : List ℕ) → IsMessageOf shares (next bytes)

fills_within : (shares : ShareForm) (form : Form) (m : MessageData) (fields : List ℕ) → Within shares form → FillsForm form m fields → IsMessageOf shares m
fills_within shares (Done c) m fields h (same, none) = rw same h
fills_within shares (Then f next) m fields h (value, text, rest, t, fills, parts) = fills_within shares (next value) m rest (h value) fills
fills_within shares (Rest next) m fields h same = rw same (h fields)

init_within : (shares : ShareForm) → Within shares (init_of shares)
init_within Mpint = λ e. refl
init_within OctetString = λ share e. (let no : ⊥ = cc in no)
init_within Hybrid = λ share e. (let no : ⊥ = cc in no)

reply_within : (shares : ShareForm) → Within shares (reply_of shares)
reply_within Mpint = λ host_key f signature. refl
reply_within OctetString = λ host_key share signature e. (let no : ⊥ = cc in no)
reply_within Hybrid = λ host_key share signature e. (let no : ⊥ = cc in no)

-- any other message is one of each exchange
other_within : (shares : ShareForm) (m : MessageData) → number_of m ≢ 30 → number_of m ≢ 31 → IsMessageOf shares m
other_within shares (KexdhInit e) not_init not_reply = absurd (not_init refl)
other_within shares (KexdhReply host_key f signature) not_init not_reply = absurd (not_reply refl)
other_within shares (KexEcdhInit share) not_init not_reply = absurd (not_init refl)
other_within shares (KexEcdhReply host_key share signature) not_init not_reply = absurd (not_reply refl)
other_within shares _ not_init not_reply = tt

init_form : (shares : ShareForm) (form : Form) → form_of shares 30 ≡ Some form → init_of shares ≡ form
unfolding form_of
init_form shares form e = cc

reply_form : (shares : ShareForm) (form : Form) → form_of shares 31 ≡ Some form → reply_of shares ≡ form
unfolding form_of
reply_form shares form e = cc

by_number : (shares : ShareForm) (n : ℕ) (form : Form) (m : MessageData) (fields : List ℕ) → number_of m ≡ n → form_of shares n ≡ Some form → FillsForm form m fields → IsMessageOf shares m
by_number shares n form m fields tells known fills = elim (cases_Bool (eqb n 30)) [
  | inl init ↦
      let is : n ≡ 30 = eqb-true n 30 init in
      let row : form_of shares 30 ≡ Some form = rw is at known in
      let of : FillsForm (init_of shares) m fields = rw (init_form shares form row) fills in
      fills_within shares (init_of shares) m fields (init_within shares) of
  | inr not_init ↦ elim (cases_Bool (eqb n 31)) [
    | inl reply ↦
        let is : n ≡ 31 = eqb-true n 31 reply in
        let row : form_of shares 31 ≡ Some form = rw is at known in
        let of : FillsForm (reply_of shares) m fields = rw (reply_form shares form row) fills in
        fills_within shares (reply_of shares) m fields (reply_within shares) of
    | inr not_reply ↦
        other_within shares m (λ e. eqb-false n 30 not_init (sym tells ∙ e)) (λ e. eqb-false n 31 not_reply (sym tells ∙ e))
  ]
]

pub spelled_within : (shares : ShareForm) (payload : List ℕ) (m : MessageData) → Spells shares m payload → IsMessageOf shares m
spelled_within shares payload m s = by_number shares s.number s.form m s.fields (number_told shares payload m s) s.known s.fills
