-- What is known at a place before its payload is read.

use Rattle.std.specs.Prelude.{ℕ, ◌+◌, ◌==◌, Bool, List, length, Option}
use Rattle.sshwire.specs.declared.share_form.ShareForm.{ShareForm}
use Rattle.sshmsg.specs.declared.numbers.TheConstants.{SSH_MSG_USERAUTH_REQUEST}
use Rattle.sshneg.specs.declared.side.Side.{Side}
use Rattle.sshneg.specs.Fields.{AlgorithmsData}
use Rattle.sshpacket.specs.Stream.{Units}
use Rattle.sshcore.specs.IgnoredLimit.{allowance_at}
use Rattle.sshcore.specs.Before.{all_kept, count_kept, kexinit, strict_at}
use Rattle.sshcore.specs.ConfigParts.{AttemptData}
use Rattle.sshcore.specs.Exchange.{algorithms_at, shares_at}
use Rattle.sshcore.specs.EndpointParts.{ConfigData, Setup}
use Rattle.sshcore.specs.Plan.{is_answer, is_waiting, left_after}
use Rattle.sshcore.specs.CompletedMethods.{CompletedMethodsData, completed_after, none_completed}
use Rattle.sshcore.specs.Tries.{session_known, tried_at}

-- the text of the peer's version line, the payload of its first KEXINIT, the algorithms chosen, the form of shares in 30 and
-- 31, the session identifier, the number of the next request (from 1), what is left of the plan, which methods
-- are completed, whether the endpoint is strict, whether no payload stood before, and how many bytes of packets that say
-- nothing may still come, where there is a limit; nothing stands for what isn't known yet
pub record Known : Type 0 where
  pub version : List ℕ
  pub kexinit : List ℕ
  pub algorithms : AlgorithmsData
  pub shares : ShareForm
  pub session : List ℕ
  pub request : ℕ
  pub left : List AttemptData
  pub completed : CompletedMethodsData
  pub strict : Bool
  pub first : Bool
  pub allowance : Option ℕ

-- what is left of the client's plan, after these payloads
abbrev pub left_at : Side → ConfigData → Units → List AttemptData
left_at role config before = left_after config.plan (all_kept role config.offer is_answer before)

-- a query of the client waits for its answer, after these payloads (RFC 4252 section 7)
abbrev pub waits_at : Side → ConfigData → Units → Bool
waits_at role config before = is_waiting (left_at role config before)

-- all that is known at a place, after these payloads
abbrev pub known_at : Setup → List ℕ → Units → Known
known_at setup version before = record {
  version = version;
  kexinit = kexinit before;
  algorithms = algorithms_at setup.suite setup.role setup.config before;
  shares = shares_at setup.suite setup.role setup.config before;
  session = session_known setup.suite setup.role setup.config version before;
  request = count_kept setup.role setup.config.offer SSH_MSG_USERAUTH_REQUEST before + 1;
  left = left_at setup.role setup.config before;
  completed = completed_after none_completed (tried_at setup version before);
  strict = strict_at setup.role setup.config before;
  first = length before == 0;
  allowance = allowance_at setup.role setup.config before;
}
