use Rattle.std.proofs.Common.{Bool, map, take}
use Rattle.sshpacket.specs.KeysData.{KeysData}
use Rattle.sshcore.specs.EndpointConfig.{config_data}
use Rattle.sshcore.specs.StateData.{state_data}
use Rattle.sshcore.proofs.ReplyLemmas.{HasSent}
use Rattle.sshcore.proofs.state.State.send_answers.Given as goal

-- the answers so far are sent
abbrev pub invariant-loop-payload : goal.invariant-loop-payload
invariant-loop-payload g l = (strict : Bool) (next : KeysData) → HasSent (g.S.Suite.meaning l.fn.suite) (config_data l.fn.config).seed strict next
    (state_data l.fn.self) (state_data l.self) l.fn.sent.items l.sent.items (map (λ p. p.items) (take l.payload-index l.payload-items))
