-- The first byte of a payload is the number of the message, and what a refusal says of a payload.

use Rattle.std.proofs.Common.{◌≡◌, ◌≢◌, ℕ, zero, suc, Bool, true, false, List, [], ◌∷◌, ◌++◌, Option, None, Some, Result, Ok, Err, refl, sym, ap, ◌∙◌, cond, codes}
use Rattle.std.specs.Str.{bytes_eq}
use Rattle.std.proofs.lemmas.Bool.{ne_eqb}
use Rattle.sshwire.specs.declared.fault.WireFault.{WireFault}
use Rattle.sshwire.specs.Types.{IsBytes}
use Rattle.sshwire.specs.declared.share_form.ShareForm.{ShareForm}
use Rattle.sshwire.specs.declared.share_form.ShareForm.TheVariants.{Hybrid, OctetString}
use Rattle.sshmsg.specs.declared.fault.MsgFault.{MsgFault}
use Rattle.sshmsg.specs.declared.fault.MsgFault.TheVariants.{Malformed, Memory, Unrecognised}
use Rattle.sshmsg.specs.MessageData.{ext_info, extensions, Fields, Form, form_of, kexinit, MessageData, method_form, password, publickey, userauth_request, With}
use Rattle.sshmsg.specs.Form.{Done, FillsForm, Of, Rest, Then, field_at, form_at}
use Rattle.sshmsg.specs.Messages.{Spells, in_form, message_in, whole_form}
use Rattle.sshmsg.specs.Numbers.{IsRefused, message_number, number_of}
use Rattle.sshmsg.proofs.FormLemmas.{bind_ok, whole_ok}
use Rattle.sshmsg.proofs.TableLemmas.{LaysOut, each_form}

-- each message of the form has the number
abbrev Numbered : ℕ → Form → Type 0
Numbered n (Done c) = number_of c ≡ n
Numbered n (Then f next) = (value : Of f) → Numbered n (next value)
Numbered n (Rest next) = (bytes : List ℕ) → number_of (next bytes) ≡ n

fills_numbered : (n : ℕ) (form : Form) (m : MessageData) (fields : List ℕ) → Numbered n form → FillsForm form m fields → number_of m ≡ n
fills_numbered n (Done c) m fields h (same, none) = ap number_of same ∙ h
fills_numbered n (Then f next) m fields h (value, text, rest, t, fills, parts) = fills_numbered n (next value) m rest (h value) fills
fills_numbered n (Rest next) m fields h same = ap number_of same ∙ h fields

either : (n : ℕ) (b : Bool) (x y : Form) → Numbered n x → Numbered n y → Numbered n (cond b x y)
either n true x y h k = h
either n false x y h k = k

extensions_numbered : (count : ℕ) (found : List (List ℕ × List ℕ)) → Numbered 7 (extensions count found)
unfolding extensions
extensions_numbered zero found = refl
extensions_numbered (suc n) found = λ name value. extensions_numbered n (found ++ (name, value) ∷ [])

ext_info_numbered : Numbered 7 ext_info
unfolding ext_info
ext_info_numbered = λ count. extensions_numbered count []

kexinit_numbered : Numbered 20 kexinit
unfolding kexinit
kexinit_numbered = λ a b c d e f g h i j k l m. refl

password_numbered : (user service : List ℕ) → Numbered 50 (password user service)
unfolding password
password_numbered user service = λ change. either 50 change _ _ (λ old new. refl) (λ secret. refl)

publickey_numbered : (user service : List ℕ) → Numbered 50 (publickey user service)
unfolding publickey
publickey_numbered user service = λ signed algorithm key. either 50 signed _ _ (λ signature. refl) refl

method_numbered : (user service method : List ℕ) → Numbered 50 (method_form user service method)
method_numbered user service method =
    either 50 (bytes_eq method (codes "none")) _ _ refl
    (either 50 (bytes_eq method (codes "password")) _ _ (password_numbered user service)
    (either 50 (bytes_eq method (codes "publickey")) _ _ (publickey_numbered user service) (λ fields. refl)))

request_numbered : Numbered 50 userauth_request
unfolding userauth_request
request_numbered = λ user service method. method_numbered user service method

laid_out_numbered : (n : ℕ) (before : Fields → Fields) (form : Form) → LaysOut n before form → Numbered n form
laid_out_numbered n before (Done c) lays = ap (λ (l : ℕ × Fields). l.0) lays
laid_out_numbered n before (Then f next) lays = λ value. laid_out_numbered n (λ fields. before (With f value fields)) (next value) (lays value)
laid_out_numbered n before (Rest next) lays = absurd lays

numbered : (shares : ShareForm) (number : ℕ) (form : Form) → form_of shares number ≡ Some form → Numbered number form
numbered shares =
    each_form shares Numbered (record { ext_info = ext_info_numbered; kexinit = kexinit_numbered; userauth_request = request_numbered })
    (λ n form. laid_out_numbered n (λ fields. fields) form)

pub number_told : (shares : ShareForm) (payload : List ℕ) (m : MessageData) (s : Spells shares m payload) → number_of m ≡ s.number
number_told shares payload m s = fills_numbered s.number s.form m s.fields (numbered shares s.number s.form s.known) s.fills

pub number_tells : (shares : ShareForm) (payload : List ℕ) (m : MessageData) → Spells shares m payload → (fields : List ℕ) × (payload ≡ number_of m ∷ fields)
number_tells shares payload m s =
    let n : number_of m ≡ s.number = number_told shares payload m s in
    (s.fields, rw n s.payload_is)

-- what a form reads has the form's number
read_numbered : (n : ℕ) (form : Form) (bytes : List ℕ) (m : MessageData) (rest : List ℕ) → Numbered n form → form_at form bytes ≡ Ok (m, rest) → number_of m ≡ n
read_numbered n (Done c) bytes m rest h e = let same : ◌≡◌ {A = MessageData × List ℕ} (c, bytes) (m, rest) = cc in ap (λ (p : MessageData × List ℕ). number_of p.0) (sym same) ∙ h
read_numbered n (Then f next) bytes m rest h e =
    let b = bind_ok (field_at f bytes) (λ (x : Of f × List ℕ). form_at (next x.0) x.1) (m, rest) e in
    read_numbered n (next b.0.0) b.0.1 m rest (h b.0.0) b.2
read_numbered n (Rest next) bytes m rest h e = let same : ◌≡◌ {A = MessageData × List ℕ} (next bytes, []) (m, rest) = cc in ap (λ (p : MessageData × List ℕ). number_of p.0) (sym same) ∙ h bytes

kind_from : (shares : ShareForm) (n : ℕ) (fields : List ℕ) (form : Option Form) (m : MessageData) → form_of shares n ≡ form → in_form n fields form ≡ Ok m → n ≡ number_of m
kind_from shares n fields None m known e = cc
kind_from shares n fields (Some form) m known e = sym (read_numbered n form fields m [] (numbered shares n form known) (whole_ok n (form_at form fields) m e))

pub message_number_tells : (shares : ShareForm) (payload : List ℕ) (m : MessageData) → message_in shares payload ≡ Ok m → message_number payload ≡ number_of m
unfolding message_in
message_number_tells shares [] m e = cc
message_number_tells shares (n ∷ fields) m e = kind_from shares n fields (form_of shares n) m refl e

-- the reading answers what is spelled, and nothing else
abbrev pub Complete : Type 0
Complete = (shares : ShareForm) (payload : List ℕ) (m : MessageData) → Spells shares m payload → message_in shares payload ≡ Ok m

abbrev pub Sound : Type 0
Sound = (shares : ShareForm) (payload : List ℕ) (m : MessageData) → IsBytes payload → message_in shares payload ≡ Ok m → Spells shares m payload

-- a refusal in terms of the form
whole_refused : (n : ℕ) (r : Result (MessageData × List ℕ) WireFault) (e : MsgFault) → whole_form n r ≡ Err e → e ≡ Malformed n
whole_refused n (Ok (content, [])) e h = cc
whole_refused n (Ok (content, b ∷ bs)) e h = cc
whole_refused n (Err d) e h = cc

refused_from : (shares : ShareForm) (n : ℕ) (fields : List ℕ) (form : Option Form) (e : MsgFault) → form_of shares n ≡ form → in_form n fields form ≡ Err e
    → ((m : MessageData) → Spells shares m (n ∷ fields) → ⊥) → IsRefused shares (n ∷ fields) e
refused_from shares n fields None e none h against = let is : e ≡ Unrecognised n = cc in rw is (refl, none)
refused_from shares n fields (Some form) e some h against =
    let is : e ≡ Malformed n = whole_refused n (form_at form fields) e h in
    rw is (refl, (λ none. (let bad : ◌≡◌ {A = Option Form} (Some form) None = sym some ∙ none in let no : ⊥ = cc in no)), against)

not_both : (shares : ShareForm) (payload : List ℕ) (m : MessageData) (e : MsgFault) → message_in shares payload ≡ Ok m → message_in shares payload ≡ Err e → ⊥
not_both shares payload m e h k = let bad : ◌≡◌ {A = Result MessageData MsgFault} (Ok m) (Err e) = sym h ∙ k in cc

pub refused_sound : Complete → (shares : ShareForm) (payload : List ℕ) (e : MsgFault) → message_in shares payload ≡ Err e → IsRefused shares payload e
unfolding message_in
refused_sound complete shares [] e h = cc
refused_sound complete shares (n ∷ fields) e h =
    refused_from shares n fields (form_of shares n) e refl h (λ m s. not_both shares (n ∷ fields) m e (complete shares (n ∷ fields) m s) h)

-- and back
none_whole : (n k : ℕ) (r : Result (MessageData × List ℕ) WireFault) → k ≡ n → ((m : MessageData) → whole_form n r ≡ Ok m → ⊥) → whole_form n r ≡ Err (Malformed k)
none_whole n k (Ok (content, [])) is none = absurd (none content refl)
none_whole n k (Ok (content, b ∷ bs)) is none = cc
none_whole n k (Err d) is none = cc

back_from : (shares : ShareForm) (n : ℕ) (fields : List ℕ) (form : Option Form) (e : MsgFault) → form_of shares n ≡ form
    → ((m : MessageData) → in_form n fields form ≡ Ok m → Spells shares m (n ∷ fields)) → IsRefused shares (n ∷ fields) e → in_form n fields form ≡ Err e
back_from shares n fields None (Unrecognised k) known sound h = let is : k ≡ n = h.0 in cc
back_from shares n fields None (Malformed k) known sound h = absurd (h.1 known)
back_from shares n fields (Some form) (Unrecognised k) known sound h =
    let bad : ◌≡◌ {A = Option Form} (Some form) None = sym known ∙ h.1 in cc
back_from shares n fields (Some form) (Malformed k) known sound h =
    none_whole n k (form_at form fields) h.0 (λ m e. h.2 m (sound m e))
back_from shares n fields form Memory known sound h = absurd h

pub refused_complete : Sound → (shares : ShareForm) (payload : List ℕ) (e : MsgFault) → IsBytes payload → IsRefused shares payload e → message_in shares payload ≡ Err e
unfolding message_in
refused_complete sound shares [] e bytes h = rw h refl
refused_complete sound shares (n ∷ fields) e bytes h = back_from shares n fields (form_of shares n) e refl (λ m k. sound shares (n ∷ fields) m bytes k) h

-- The form of the shares decides 30 and 31 alone.
alike_rows : (shares other : ShareForm) (n : ℕ) → n ≢ 30 → n ≢ 31 → form_of shares n ≡ form_of other n
unfolding form_of
alike_rows shares other n not_init not_reply = rw (ne_eqb n 30 not_init, ne_eqb n 31 not_reply) refl

pub reads_alike : (shares other : ShareForm) (payload : List ℕ) → message_number payload ≢ 30 → message_number payload ≢ 31 → message_in shares payload ≡ message_in other payload
unfolding message_in
reads_alike shares other [] not_init not_reply = refl
reads_alike shares other (n ∷ fields) not_init not_reply = ap (λ (form : Option Form). in_form n fields form) (alike_rows shares other n not_init not_reply)

pub octets_alike : (payload : List ℕ) → message_in OctetString payload ≡ message_in Hybrid payload
unfolding message_in form_of
octets_alike [] = refl
octets_alike (n ∷ fields) = refl
