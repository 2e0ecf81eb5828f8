-- Before a choice nothing depends on the form of shares.

use Rattle.std.proofs.Common.{◌≡◌, ◌≢◌, ℕ, Bool, false, List, Result, Ok, Err, refl, sym, ap, ◌∙◌, arith}
use Rattle.sshwire.specs.declared.share_form.ShareForm.{ShareForm}
use Rattle.sshmsg.specs.declared.fault.MsgFault.{MsgFault}
use Rattle.sshmsg.specs.MessageData.{KexEcdhInit, KexEcdhReply, KexInit, KexdhInit, KexdhReply, MessageData}
use Rattle.sshmsg.specs.Messages.{message_in}
use Rattle.sshmsg.specs.Numbers.{message_number, number_of}
use Rattle.sshneg.specs.declared.side.Side.{Side}
use Rattle.sshcore.specs.declared.phase_table.Disposition.{Disposition}
use Rattle.sshcore.specs.declared.phase_table.Disposition.TheVariants as disposition
use Rattle.sshcore.specs.declared.phase_table.Phase.TheVariants as phase
use Rattle.sshcore.specs.KnownBefore.{Known}
use Rattle.sshcore.specs.EndpointParts.{Setup}
use Rattle.sshcore.specs.Plan.{is_waiting}
use Rattle.sshcore.specs.Replies.{allowed, disposition_reply, read_reply}
use Rattle.sshcore.specs.Table.{disposition_by}
use Rattle.sshcore.specs.Work.{kexinit_reply}
use Rattle.sshcore.proofs.StepLemmas.{request_reply, work_is, worked}
use Rattle.sshcore.proofs.LawsBelow.{Below}
use Rattle.sshcore.proofs.StrictLemmas.{leaving_kexinit}
use Rattle.sshcore.proofs.TableLemmas.{Closing, Dropped, Leaving, OffGuess, OffPhase, Sees, Staying, Useless, sees}

no_share : (role : Side) (strict : Bool) (n : ℕ) → Sees role phase.KexInit strict false n disposition.Reads → (n ≢ 30) × (n ≢ 31)
no_share role strict n (Closing one is) = (λ q. omega arith, λ q. omega arith)
no_share role strict n (Dropped one due r is) = absurd cc
no_share role strict n (OffGuess one due r out is) = absurd cc
no_share role strict n (OffPhase one none r out is) = absurd cc
no_share role strict n (Leaving none here is) =
    let twenty : n ≡ 20 = here ∙ leaving_kexinit role in
    (λ q. omega arith, λ q. omega arith)
no_share role strict n (Staying none off out calm e) = (calm.init, calm.reply)
no_share role strict n (Useless none off out is) = absurd cc

module _ (below : Below) (setup : Setup) where
  alike_work : (known : Known) (form : ShareForm) (c : MessageData) → number_of c ≢ 30 → number_of c ≢ 31 → worked setup (record known { shares = form }) c ≡ worked setup known c
  unfolding worked kexinit_reply request_reply
  alike_work known form (KexInit peer) a b = refl
  alike_work known form (KexdhInit e) a b = absurd (a refl)
  alike_work known form (KexEcdhInit share) a b = absurd (a refl)
  alike_work known form (KexdhReply key f signature) a b = absurd (b refl)
  alike_work known form (KexEcdhReply key share signature) a b = absurd (b refl)
  alike_work known form _ a b = refl

  alike_read : (known : Known) (form : ShareForm) (payload : List ℕ) → message_number payload ≢ 30 → message_number payload ≢ 31
      → read_reply setup (record known { shares = form }) (message_number payload) (message_in form payload) ≡ read_reply setup known (message_number payload) (message_in known.shares payload)
  alike_read known form payload a b =
      ap (λ r. read_reply setup (record known { shares = form }) (message_number payload) r) (below.alike form known.shares payload a b) ∙ by (message_in known.shares payload) refl
    where
      by : (r : Result MessageData MsgFault) → message_in known.shares payload ≡ r → read_reply setup (record known { shares = form }) (message_number payload) r ≡ read_reply setup known (message_number payload) r
      by (Ok c) e = let is = below.numbers known.shares payload c e in work_is setup (record known { shares = form }) c ∙ (alike_work known form c (λ q. a (is ∙ q)) (λ q. b (is ∙ q)) ∙ sym (work_is setup known c))
      by (Err f) e = refl

  alike_disposition : (known : Known) (packet : ℕ) (payload : List ℕ) (form : ShareForm) (strict : Bool) (l : Disposition) → Sees setup.role phase.KexInit strict false (message_number payload) l
      → disposition_reply setup (record known { shares = form }) packet l payload ≡ disposition_reply setup known packet l payload
  unfolding disposition_reply
  alike_disposition known packet payload form strict disposition.Reads s = let two = no_share setup.role strict (message_number payload) s in ap (allowed known payload) (alike_read known form payload two.0 two.1)
  alike_disposition known packet payload form strict disposition.Drops s = refl
  alike_disposition known packet payload form strict disposition.Deviates s = refl
  alike_disposition known packet payload form strict disposition.Unknown s = refl
  alike_disposition known packet payload form strict disposition.Unexpected s = refl

  pub formless : (known : Known) (packet : ℕ) (payload : List ℕ) (form : ShareForm)
      → disposition_reply setup (record known { shares = form }) packet (disposition_by setup.role phase.KexInit known.strict false (is_waiting known.left) (message_number payload)) payload
      ≡ disposition_reply setup known packet (disposition_by setup.role phase.KexInit known.strict false (is_waiting known.left) (message_number payload)) payload
  formless known packet payload form =
      alike_disposition known packet payload form known.strict (disposition_by setup.role phase.KexInit known.strict false (is_waiting known.left) (message_number payload)) (sees setup.role phase.KexInit known.strict (is_waiting known.left) (message_number payload) false)
