-- Where an endpoint stands between two payloads: its phase, whether the packet of a wrong guess is due, and what it knows.

use Rattle.std.specs.Prelude.{◌≡◌, ℕ, ◌+◌, ◌==◌, Bool, true, false, if◌then◌else◌, List, [], None, Some}
use Rattle.sshwire.specs.declared.share_form.ShareForm.TheVariants.{Mpint}
use Rattle.sshmsg.specs.declared.numbers.TheConstants.{SSH_MSG_KEXINIT, SSH_MSG_NEWKEYS, SSH_MSG_USERAUTH_REQUEST}
use Rattle.sshmsg.specs.MessageData.{KexInitData}
use Rattle.sshmsg.specs.Messages.{message_in}
use Rattle.sshmsg.specs.Numbers.{message_number}
use Rattle.sshneg.specs.declared.side.Side.{Side}
use Rattle.sshneg.specs.Derivations.{ExchangeData}
use Rattle.sshneg.specs.ExchangeEnd.{exchange_hash}
use Rattle.sshpacket.specs.Stream.{Units}
use Rattle.sshpacket.specs.Suite.{SuiteData}
use Rattle.sshcore.specs.declared.phase_table.Phase.{Phase}
use Rattle.sshcore.specs.declared.phase_table.Phase.TheVariants as phase
use Rattle.sshcore.specs.IgnoredLimit.{allowance_after}
use Rattle.sshcore.specs.Before.{expects_guess, offered, stood, strict_towards}
use Rattle.sshcore.specs.Exchange.{choice_with, chosen_or, exchange_with, no_algorithms, shares_by}
use Rattle.sshcore.specs.KnownBefore.{Known, known_at}
use Rattle.sshcore.specs.EndpointParts.{ConfigData, DecisionsData, Setup}
use Rattle.sshcore.specs.Phases.{leaving, past_exchange, past_kexinit, past_newkeys, past_service}
use Rattle.sshcore.specs.Plan.{is_answer, left_after_one}
use Rattle.sshcore.specs.CompletedMethods.{completed_after, none_completed}
use Rattle.sshcore.specs.Tries.{tried_in}

-- of the messages that leave phases, those stood that are past in the phase
pub record Tied (role : Side) (own : KexInitData) (before : Units) (p : Phase) : Type 0 where
  pub offer : offered before ≡ past_kexinit p
  pub kexinit : stood role own SSH_MSG_KEXINIT before ≡ past_kexinit p
  pub exchange : stood role own (leaving role phase.Exchange) before ≡ past_exchange p
  pub newkeys : stood role own SSH_MSG_NEWKEYS before ≡ past_newkeys p
  pub service : stood role own (leaving role phase.Service) before ≡ past_service p

-- a number that leaves no phase
pub record LeavesNone (role : Side) (n : ℕ) : Type 0 where
  pub kexinit : (n == SSH_MSG_KEXINIT) ≡ false
  pub exchange : (n == leaving role phase.Exchange) ≡ false
  pub newkeys : (n == SSH_MSG_NEWKEYS) ≡ false
  pub service : (n == leaving role phase.Service) ≡ false

-- what is known before the peer's KEXINIT
abbrev pub nothing_known : ConfigData → List ℕ → Known
nothing_known config version = record {
  version = version;
  kexinit = [];
  algorithms = no_algorithms;
  shares = Mpint;
  session = [];
  request = 1;
  left = config.plan;
  completed = none_completed;
  strict = false;
  first = true;
  allowance = None;
}

-- what is known after the first KEXINIT, which is this payload and offers this (RFC 4253 section 7.1)
abbrev pub after_offer : SuiteData → Side → ConfigData → Known → List ℕ → KexInitData → Known
after_offer m role config known payload peer = record {
  version = known.version;
  kexinit = payload;
  algorithms = chosen_or (choice_with m role config.offer (Some peer));
  shares = shares_by m (choice_with m role config.offer (Some peer));
  session = known.session;
  request = known.request;
  left = known.left;
  completed = known.completed;
  strict = strict_towards role config.strict (Some peer);
  first = false;
  allowance = known.allowance;
}

-- What is known after a payload that is neither dropped nor the first KEXINIT nor the exchange message (RFC 4252 sections 5 and 5.1). A
-- request counts, and may complete a method. After an answer the attempt itself or the next one is made. From NEWKEYS on there is a limit of
-- messages that say nothing.
abbrev pub after_payload : SuiteData → DecisionsData → ConfigData → Known → List ℕ → Known
after_payload m d config known payload = record known {
  request = if message_number payload == SSH_MSG_USERAUTH_REQUEST then known.request + 1 else known.request;
  left = if is_answer (message_number payload) then left_after_one known.left payload else known.left;
  completed = if message_number payload == SSH_MSG_USERAUTH_REQUEST
      then completed_after known.completed (tried_in m d config known.session known.request payload) else known.completed;
  first = false;
  allowance = if message_number payload == SSH_MSG_NEWKEYS then config.ignored_limit else allowance_after known.allowance payload;
}

-- what is hashed, once this payload is the exchange message (RFC 4253 section 8)
abbrev pub exchange_received : SuiteData → Side → ConfigData → Known → List ℕ → ExchangeData
exchange_received m role config known payload =
    exchange_with m role config known.algorithms known.version known.kexinit (message_in known.shares payload)

-- what is known after the exchange message: the session identifier besides (RFC 4253 section 7.2)
abbrev pub after_exchange : SuiteData → Side → ConfigData → Known → List ℕ → Known
after_exchange m role config known payload =
    record known { session = exchange_hash m known.algorithms.kex (exchange_received m role config known payload) }

-- An endpoint that has received this version and these payloads stands so.
pub record Sits (setup : Setup) (version : List ℕ) (before : Units) (p : Phase) (guess : Bool) (known : Known) : Type 0 where
  pub tied : Tied setup.role setup.config.offer before p
  pub due : expects_guess setup.role setup.config.offer before ≡ guess
  pub knows : known_at setup version before ≡ known
