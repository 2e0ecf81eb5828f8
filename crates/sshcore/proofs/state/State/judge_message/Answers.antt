use Rattle.std.proofs.Common.{refl}
use Rattle.sshcore.specs.EndpointConfig.{config_data, role_of}
use Rattle.sshcore.specs.StateData.{state_data}
use Rattle.sshcore.proofs.JudgingLemmas.{malformed, malformed_calm}
use Rattle.sshcore.proofs.state.State.judge_message.Goals as goal

pub returns-in_default : goal.returns-in_default
returns-in_default g c = (
  refl,
  λ d packet. malformed (g.S.Suite.meaning c.args.suite.now) (role_of c.args.config.now) (config_data c.args.config.now) (state_data c.args.self.now) c.args.payload.now d packet
      c.message_number.result c.message_number.ensures c.requires.reads c.requires.within c.in-Err.fault (c.in-Err.ensures.exact c.in_default.not-Memory),
  malformed_calm (g.S.Suite.meaning c.args.suite.now) (role_of c.args.config.now) (config_data c.args.config.now) (state_data c.args.self.now) c.args.payload.now c.in-Err.fault c.requires.reads (c.in-Err.ensures.exact c.in_default.not-Memory),
)
