use Rattle.std.proofs.Common.{sym, ap, refl, ◌∙◌}
use Rattle.sshmsg.specs.Numbers.{message_number}
use Rattle.sshcore.specs.declared.phase_table.Disposition.TheVariants as disposition
use Rattle.sshcore.specs.EndpointConfig.{config_data, role_of}
use Rattle.sshcore.specs.IgnoredLimit.{is_taken}
use Rattle.sshcore.specs.StateData.{state_data}
use Rattle.sshcore.proofs.BringsLemmas.{disposition_is, taken_within}
use Rattle.sshcore.proofs.JudgingLemmas.{deviates, overspent, overspent_calm, unexpected, unread_calm}
use Rattle.sshcore.proofs.state.State.judge.Goals as goal

pub returns-then-takes_too_much : goal.returns-then-takes_too_much
returns-then-takes_too_much g c =
    let is = disposition_is c.disposition_of-disposition.result (role_of c.args.config.now) _ _ _ _ _ _ (message_number c.args.payload.now) _ c.role.ensures c.waits-waits.ensures c.message_number-number.ensures c.disposition_of-disposition.ensures in (
      refl,
      λ d packet. overspent (g.S.Suite.meaning c.args.suite.now) (role_of c.args.config.now) (config_data c.args.config.now) (state_data c.args.self.now) c.args.payload.now d packet c.disposition_of-disposition.result is (sym c.takes_too_much.ensures ∙ c.if-takes_too_much.true),
      overspent_calm (g.S.Suite.meaning c.args.suite.now) (role_of c.args.config.now) (config_data c.args.config.now) (state_data c.args.self.now) c.args.payload.now (λ x read. c.numbers_law.ensures.message_number _ _ x read) c.disposition_of-disposition.result is
          (sym c.takes_too_much.ensures ∙ c.if-takes_too_much.true),
    )

pub judge_message-requires-clause-reads : goal.judge_message-requires-clause-reads
judge_message-requires-clause-reads g c = disposition_is disposition.Reads (role_of c.args.config.now) _ _ _ _ _ _ (message_number c.args.payload.now) _ c.role.ensures c.waits-waits.ensures c.message_number-number.ensures (sym c.in-Reads.is ∙ c.disposition_of-disposition.ensures)

pub judge_message-requires-clause-within : goal.judge_message-requires-clause-within
judge_message-requires-clause-within g c = taken_within c.disposition_of-disposition.result _ _ (ap is_taken c.in-Reads.is) c.takes_too_much.ensures c.if-takes_too_much.false

pub returns-in-Drops : goal.returns-in-Drops
returns-in-Drops g c = disposition_is disposition.Drops (role_of c.args.config.now) _ _ _ _ _ _ (message_number c.args.payload.now) _ c.role.ensures c.waits-waits.ensures c.message_number-number.ensures (sym c.in-Drops.is ∙ c.disposition_of-disposition.ensures)

pub returns-in-Deviates : goal.returns-in-Deviates
returns-in-Deviates g c =
    let is = disposition_is disposition.Deviates (role_of c.args.config.now) _ _ _ _ _ _ (message_number c.args.payload.now) _ c.role.ensures c.waits-waits.ensures c.message_number-number.ensures (sym c.in-Deviates.is ∙ c.disposition_of-disposition.ensures) in (
      refl,
      λ d packet. deviates (g.S.Suite.meaning c.args.suite.now) (role_of c.args.config.now) (config_data c.args.config.now) (state_data c.args.self.now) c.args.payload.now d packet c.message_number-number.result c.message_number-number.ensures is,
      unread_calm (g.S.Suite.meaning c.args.suite.now) (role_of c.args.config.now) (config_data c.args.config.now) (state_data c.args.self.now) c.args.payload.now disposition.Deviates is (λ e. cc),
    )

pub returns-in-Unknown : goal.returns-in-Unknown
returns-in-Unknown g c = (
  disposition_is disposition.Unknown (role_of c.args.config.now) _ _ _ _ _ _ (message_number c.args.payload.now) _ c.role.ensures c.waits-waits.ensures c.message_number-number.ensures (sym c.in-Unknown.is ∙ c.disposition_of-disposition.ensures),
  taken_within c.disposition_of-disposition.result _ _ (ap is_taken c.in-Unknown.is) c.takes_too_much.ensures c.if-takes_too_much.false,
)

pub returns-in-Unexpected : goal.returns-in-Unexpected
returns-in-Unexpected g c =
    let is = disposition_is disposition.Unexpected (role_of c.args.config.now) _ _ _ _ _ _ (message_number c.args.payload.now) _ c.role.ensures c.waits-waits.ensures c.message_number-number.ensures (sym c.in-Unexpected.is ∙ c.disposition_of-disposition.ensures) in (
      refl,
      λ d packet. unexpected (g.S.Suite.meaning c.args.suite.now) (role_of c.args.config.now) (config_data c.args.config.now) (state_data c.args.self.now) c.args.payload.now d packet c.message_number-number.result c.message_number-number.ensures is,
      unread_calm (g.S.Suite.meaning c.args.suite.now) (role_of c.args.config.now) (config_data c.args.config.now) (state_data c.args.self.now) c.args.payload.now disposition.Unexpected is (λ e. cc),
    )
