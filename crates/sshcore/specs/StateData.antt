-- What an endpoint keeps between two packets, besides its reader.

use Rattle.std.specs.Prelude.{ℕ, Bool, true, false, List, [], map, string_bytes, Option, None, Some}
use Rattle.sshneg.specs.Fields.{AlgorithmsData}
use Rattle.sshpacket.specs.KeysData.{KeysData}
use Rattle.sshcore.specs.declared.session.UserKey.{UserKey}
use Rattle.sshcore.specs.declared.state.CompletedMethods as completed_methods
use Rattle.sshcore.specs.declared.state.State.{State}
use Rattle.sshcore.specs.declared.phase_table.Phase.{Phase}
use Rattle.sshcore.specs.declared.phase_table.Phase.TheVariants as phase
use Rattle.sshcore.specs.ConfigParts.{AttemptData}
use Rattle.sshcore.specs.ConfigView.{attempt_data}
use Rattle.sshcore.specs.EndData.{EndData, Open, end_data}
use Rattle.sshcore.specs.Exchange.{no_algorithms}
use Rattle.sshcore.specs.KnownBefore.{Known}
use Rattle.sshcore.specs.Output.{Sending}
use Rattle.sshcore.specs.EndpointParts.{ConfigData, UserKeyData}
use Rattle.sshcore.specs.Plan.{confirmed}
use Rattle.sshcore.specs.CompletedMethods.{CompletedMethodsData}
use Rattle.sshcore.specs.Standing.{nothing_known}

-- What is carried along, on which no reply depends (RFC 4253 sections 7.3 and 8, RFC 4252 section 7). The keys of what is received, from
-- the exchange up to NEWKEYS. From the exchange on, the own version line and the server's public host key. The public key of the last
-- signed request that was successful.
pub record Carried : Type 0 where
  pub pending : Option KeysData
  pub own_version : List ℕ
  pub host_key : List ℕ
  pub user_key : Option UserKeyData

-- after the exchange, by which these are the keys of what is received and this is the host key (RFC 4253 section 8)
abbrev pub with_exchange : ConfigData → KeysData → List ℕ → Carried → Carried
with_exchange config keys host_key c = record c { pending = Some keys; own_version = config.version; host_key = host_key }

-- How it stands; its phase; whether the packet of a wrong guess is due; what it knows; what it carries along; and what it sends
-- packets with.
pub record StateData : Type 0 where
  pub end : EndData
  pub phase : Phase
  pub guess : Bool
  pub known : Known
  pub carried : Carried
  pub sending : Sending

-- the algorithms of a choice, or no names before it
abbrev pub algorithms_or : Option AlgorithmsData → AlgorithmsData
algorithms_or (Some a) = a
algorithms_or None = no_algorithms

-- what is left of the plan, of which the first attempt may be confirmed
abbrev pub left_of : Bool → List AttemptData → List AttemptData
left_of true attempts = confirmed attempts
left_of false attempts = attempts

-- a user's key, without where its texts lie in memory
abbrev pub user_key_data : Option UserKey → Option UserKeyData
user_key_data None = None
user_key_data (Some k) = Some (record { algorithm = string_bytes k.algorithm; blob = k.blob.items })

-- what is completed, without where its texts lie in memory
abbrev pub completed_methods_data : completed_methods.CompletedMethods → CompletedMethodsData
completed_methods_data r = record { user = string_bytes r.user; service = string_bytes r.service; password = r.password; publickey = r.publickey }

-- the twin of the state that an endpoint keeps
abbrev pub state_data : State → StateData
state_data s = record {
  end = end_data s.end;
  phase = s.phase;
  guess = s.guess;
  known = record {
    version = s.version.items;
    kexinit = s.kexinit.items;
    algorithms = algorithms_or s.algorithms;
    shares = s.shares;
    session = s.session.items;
    request = s.request;
    left = left_of s.confirmed (map attempt_data s.left.now);
    completed = completed_methods_data s.completed;
    strict = s.strict;
    first = s.first;
    allowance = s.allowance;
  };
  carried = record { pending = s.pending; own_version = s.own_version.items; host_key = s.host_key.items; user_key = user_key_data s.user_key };
  sending = record { keys = s.keys_out; number = s.number_out };
}

-- what an endpoint keeps before any byte is received
abbrev pub begun : ConfigData → StateData
begun config = record {
  end = Open;
  phase = phase.KexInit;
  guess = false;
  known = nothing_known config [];
  carried = record { pending = None; own_version = []; host_key = []; user_key = None };
  sending = record { keys = None; number = 0 };
}

-- The keys of what is received that are taken into use, and those that are left, by the phase: right after NEWKEYS they are handed
-- over, once, and none are left (RFC 4253 section 7.3).
abbrev pub keys_due : Phase → Option KeysData → Option KeysData
keys_due phase.Service pending = pending
keys_due _ pending = None

-- the keys of what is received that aren't in use yet, after they are due
abbrev pub keys_left : Phase → Option KeysData → Option KeysData
keys_left phase.Service pending = None
keys_left _ pending = pending
