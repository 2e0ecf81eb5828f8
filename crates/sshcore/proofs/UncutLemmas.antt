-- What is received never ends an endpoint as its owner does.

use Rattle.std.proofs.Common.{◌≡◌, ℕ, false, List, [], ◌∷◌, Option, None, Some, Result, Ok, Err, refl, ap, ◌∙◌}
use Rattle.sshmsg.specs.declared.fault.MsgFault.{MsgFault}
use Rattle.sshmsg.specs.MessageData.{MessageData, Unimplemented}
use Rattle.sshmsg.specs.Messages.{message_in}
use Rattle.sshmsg.specs.Numbers.{message_number}
use Rattle.sshpacket.specs.declared.fault.PacketFault.TheVariants as packet
use Rattle.sshpacket.specs.Parse.{OfLine, OfPacket, Refusal}
use Rattle.sshpacket.specs.Stream.{Units}
use Rattle.sshcore.specs.declared.phase_table.Disposition.{Disposition}
use Rattle.sshcore.specs.declared.phase_table.Disposition.TheVariants as disposition
use Rattle.sshcore.specs.Counting.{number_in}
use Rattle.sshcore.specs.EndData.{EndData, Failed, Open, Reply, by_owner, goes}
use Rattle.sshcore.specs.KnownBefore.{Known, known_at}
use Rattle.sshcore.specs.EndpointParts.{Setup}
use Rattle.sshcore.specs.Replies.{Ends, disposition_at, disposition_reply, end_at, ended, fault_of, goes_on, read_reply, refusal_reply}
use Rattle.sshcore.specs.Work.{work}
use Rattle.sshmsg.specs.Written.{written_message}
use Rattle.sshcore.proofs.IgnoredLimitLemmas.{by_allowance}
use Rattle.sshcore.proofs.AuthenticatedLemmas.{Early, Requested, Succeeded, WorkEnds, early_uncut, work_ends}

-- what is received never ends as an owner does
abbrev pub IsUncut : EndData → Type 0
IsUncut end = by_owner end ≡ false

uncut_refusal : (r : Option Refusal) → IsUncut (refusal_reply r).end
uncut_refusal None = refl
uncut_refusal (Some (OfLine f)) = refl
uncut_refusal (Some (OfPacket packet.Length)) = refl
uncut_refusal (Some (OfPacket packet.Padding)) = refl
uncut_refusal (Some (OfPacket packet.Empty)) = refl
uncut_refusal (Some (OfPacket packet.Mac)) = refl
uncut_refusal (Some (OfPacket packet.Memory)) = refl

module _ (setup : Setup) where
  uncut_work : (known : Known) (c : MessageData) → IsUncut (work setup known c).end
  uncut_work known c = by (work_ends setup known c)
    where
      by : WorkEnds setup.suite setup.decisions setup.config known c (work setup known c).end → IsUncut (work setup known c).end
      by (Early h) = early_uncut (work setup known c).end h
      by (Requested _ _ _ same has successful done is) = ap by_owner is
      by (Succeeded _ _ same left is) = ap by_owner is

  uncut_read : (known : Known) (n : ℕ) (r : Result MessageData MsgFault) → IsUncut (read_reply setup known n r).end
  uncut_read known n (Ok c) = uncut_work known c
  uncut_read known n (Err f) = refl

  uncut_disposition : (known : Known) (packet : ℕ) (l : Disposition) (payload : List ℕ) → IsUncut (disposition_reply setup known packet l payload).end
  unfolding disposition_reply
  uncut_disposition known packet disposition.Reads payload =
      by_allowance (λ (r : Reply). IsUncut r.end) known payload (read_reply setup known (message_number payload) (message_in known.shares payload)) refl (uncut_read known (message_number payload) (message_in known.shares payload))
  uncut_disposition known packet disposition.Drops payload = refl
  uncut_disposition known packet disposition.Deviates payload = refl
  uncut_disposition known packet disposition.Unknown payload = by_allowance (λ (r : Reply). IsUncut r.end) known payload (goes (written_message (Unimplemented packet) ∷ [])) refl refl
  uncut_disposition known packet disposition.Unexpected payload = refl

  pub uncut_unit : (before : Units) (unit : List ℕ) → IsUncut (end_at setup before unit)
  uncut_unit [] unit = refl
  uncut_unit (version ∷ before) unit = uncut_disposition (known_at setup version before) (number_in setup.role setup.config before) (disposition_at setup.role setup.config before unit) unit

  pub uncut_received : (units : Units) (r : Option Refusal) (end : EndData) → Ends setup units r end → IsUncut end
  uncut_received units r end (goes_on stays e) = ap by_owner e ∙ uncut_refusal r
  uncut_received units r end (ended before last is stays e shut none) = ap by_owner e ∙ uncut_unit before last

-- so an endpoint that stands open, that was refused something, or that replied to a unit wasn't ended by its owner
still_uncut : (end wanted : EndData) → end ≡ wanted → IsUncut wanted → IsUncut end
still_uncut end wanted is uncut = ap by_owner is ∙ uncut

pub open_stays : (end : EndData) → end ≡ Open → IsUncut end
open_stays end is = still_uncut end Open is refl

pub refusal_stays : (r : Refusal) (end : EndData) → end ≡ Failed (fault_of r) → IsUncut end
refusal_stays r end is = still_uncut end (Failed (fault_of r)) is (uncut_refusal (Some r))

pub unit_stays : (setup : Setup) (before : Units) (unit : List ℕ) (end : EndData)
    → end ≡ end_at setup before unit → IsUncut end
unit_stays setup before unit end is = still_uncut end (end_at setup before unit) is (uncut_unit setup before unit)
