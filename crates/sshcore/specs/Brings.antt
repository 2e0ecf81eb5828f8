-- What a packet does to what an endpoint keeps, and what is sent to it.

use Rattle.std.specs.Prelude.{◌≡◌, ◌⊎◌, ℕ, ◌==◌, Bool, true, false, if◌then◌else◌, List, ◌++◌, Some}
use Rattle.sshmsg.specs.declared.numbers.TheConstants.{SSH_MSG_DISCONNECT, SSH_MSG_USERAUTH_REQUEST}
use Rattle.sshmsg.specs.MessageData.{KexInitData}
use Rattle.sshmsg.specs.Numbers.{message_number}
use Rattle.sshneg.specs.ExchangeEnd.{offer_in}
use Rattle.sshneg.specs.Markers.{other}
use Rattle.sshpacket.specs.KeysData.{KeysData}
use Rattle.sshpacket.specs.Suite.{SuiteData}
use Rattle.sshcore.specs.declared.phase_table.Phase.{Phase}
use Rattle.sshcore.specs.declared.phase_table.Phase.TheVariants as phase
use Rattle.sshcore.specs.IgnoredLimit.{allowance_after}
use Rattle.sshcore.specs.Before.{wrong_guess}
use Rattle.sshcore.specs.EndData.{AgreedData, Authenticated, EndData, Open, Reply}
use Rattle.sshcore.specs.Exchange.{keys_by}
use Rattle.sshcore.specs.History.{AllFit}
use Rattle.sshcore.specs.StateData.{Carried, StateData, with_exchange}
use Rattle.sshcore.specs.KnownBefore.{Known}
use Rattle.sshcore.specs.Output.{sending_from, sent_from}
use Rattle.sshcore.specs.EndpointParts.{ConfigData, DecisionsData, Setup}
use Rattle.sshcore.specs.Phases.{leaving, next_phase, past_exchange}
use Rattle.sshcore.specs.Plan.{is_waiting}
use Rattle.sshcore.specs.Replies.{disposition_reply}
use Rattle.sshcore.specs.Standing.{LeavesNone, after_exchange, after_offer, after_payload, exchange_received}
use Rattle.sshcore.specs.Table.{disposition_by}
use Rattle.sshcore.specs.Tries.{last_key, successful_key_in}

-- the session goes on: the endpoint is open, or the user is authenticated
abbrev pub IsOngoing : EndData → Type 0
IsOngoing end = (end ≡ Open) ⊎ ((a : AgreedData) × (end ≡ Authenticated a))

-- what is known with one payload more, which changes nothing else
abbrev pub received_one : Known → Known
received_one known = record known { first = false }

-- what is known with one payload more, which counts if it says nothing (profile)
abbrev pub received_counted : Known → List ℕ → Known
received_counted known payload = record known { first = false; allowance = allowance_after known.allowance payload }

-- what is known after NEWKEYS: from then on there is a limit of messages that say nothing (profile)
abbrev pub received_newkeys : ConfigData → Known → Known
received_newkeys config known = record known { first = false; allowance = config.ignored_limit }

-- what is carried along after a payload that is neither dropped nor the first KEXINIT nor the exchange message: the key of a
-- request that was successful
abbrev pub carried_after : SuiteData → DecisionsData → ConfigData → Known → Carried → List ℕ → Carried
carried_after m d config known c payload = record c {
  user_key = if message_number payload == SSH_MSG_USERAUTH_REQUEST then last_key c.user_key (successful_key_in m d config known.session known.request payload) else c.user_key;
}

-- It gives this reply: it ends so, and sends these answers, padded from this seed, with these keys after a NEWKEYS.
pub record Gives (m : SuiteData) (seed : List ℕ) (strict : Bool) (next : KeysData) (old new : StateData) (before after : List ℕ) (r : Reply) : Type 0 where
  pub ends : new.end ≡ r.end
  pub output : after ≡ before ++ sent_from m seed strict next old.sending r.answers
  pub sends : new.sending ≡ sending_from m strict next old.sending r.answers
  pub fits : AllFit r.answers

-- an endpoint that keeps this is in this phase, the packet of a wrong guess is due or not, and this is known
pub record StandsAt (new : StateData) (p : Phase) (guess : Bool) (known : Known) : Type 0 where
  pub phase_is : new.phase ≡ p
  pub guess_is : new.guess ≡ guess
  pub known_is : new.known ≡ known

-- How a payload moves what is kept: after the peer's KEXINIT; after the packet of a wrong guess; after the exchange
-- message, which brings the keys of what is received; after every other message that leaves a phase; and after one that
-- leaves none.
pub data Moves (setup : Setup) (payload : List ℕ) (old new : StateData) : Type 0 where
  Offers : (peer : KexInitData) → old.phase ≡ phase.KexInit → old.guess ≡ false → offer_in payload ≡ Some peer → new.carried ≡ old.carried
      → new.known.shares ≡ setup.suite.share_form new.known.algorithms.kex
      → StandsAt new phase.Exchange (wrong_guess setup.role setup.config.offer (Some peer)) (after_offer setup.suite setup.role setup.config old.known payload peer) → Moves setup payload old new
  Drops : old.guess ≡ true → (message_number payload == SSH_MSG_DISCONNECT) ≡ false → new.carried ≡ old.carried
      → StandsAt new old.phase false (received_one old.known) → Moves setup payload old new
  Exchanges : old.phase ≡ phase.Exchange → old.guess ≡ false → message_number payload ≡ leaving setup.role phase.Exchange
      → new.carried ≡ with_exchange setup.config (keys_by setup.suite old.known.algorithms (exchange_received setup.suite setup.role setup.config old.known payload) (other setup.role))
      (exchange_received setup.suite setup.role setup.config old.known payload).host_key old.carried
      → StandsAt new phase.NewKeys false (after_exchange setup.suite setup.role setup.config old.known payload) → Moves setup payload old new
  Leaves : old.guess ≡ false → past_exchange old.phase ≡ true → message_number payload ≡ leaving setup.role old.phase → new.carried ≡ carried_after setup.suite setup.decisions setup.config old.known old.carried payload
      → StandsAt new (next_phase old.phase) false (after_payload setup.suite setup.decisions setup.config old.known payload) → Moves setup payload old new
  Stays : old.guess ≡ false → LeavesNone setup.role (message_number payload) → new.carried ≡ carried_after setup.suite setup.decisions setup.config old.known old.carried payload
      → StandsAt new old.phase false (after_payload setup.suite setup.decisions setup.config old.known payload) → Moves setup payload old new

-- What a packet brings: this reply, and where the session goes on the endpoint stands after the packet.
pub record Works (setup : Setup) (old new : StateData) (payload before after : List ℕ) (r : Reply) : Type 0 where
  pub gives : Gives setup.suite setup.config.seed old.known.strict (keys_by setup.suite old.known.algorithms (exchange_received setup.suite setup.role setup.config old.known payload) setup.role) old new before after r
  pub moves : IsOngoing new.end → Moves setup payload old new

-- What a packet with this sequence number brings: the reply of its line of the phase table.
abbrev pub Brings : Setup → StateData → StateData → ℕ → List ℕ → List ℕ → List ℕ → Type 0
Brings setup old new packet payload before after =
    Works setup old new payload before after
    (disposition_reply setup old.known packet (disposition_by setup.role old.phase old.known.strict old.guess (is_waiting old.known.left) (message_number payload)) payload)
