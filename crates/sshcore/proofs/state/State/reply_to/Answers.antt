use Rattle.std.proofs.Common.{◌≡◌, true, subst, sym, refl}
use Rattle.std.proofs.lemmas.Result.{IfOk-weaker}
use Rattle.sshmsg.specs.View.{message_data}
use Rattle.sshmsg.specs.declared.message.Message.{Message}
use Rattle.sshcore.specs.declared.judging.Judged.{Judged}
use Rattle.sshcore.specs.declared.judging.Judged.TheVariants as judged
use Rattle.sshcore.specs.declared.reply.Reply as reply
use Rattle.sshcore.specs.Comes.{ComesTo}
use Rattle.sshcore.specs.EndpointConfig.{config_data, role_of, setup_of}
use Rattle.sshcore.specs.Judging.{IsCalm, IsJudged, is_at_once, is_unread}
use Rattle.sshcore.specs.StateData.{state_data}
use Rattle.sshcore.proofs.BringsLemmas.{message_comes}
use Rattle.sshcore.proofs.state.State.reply_to.Goals as goal

-- what asks nothing and isn't read is answered unread
unread : (j : Judged) → ((message : Message) → j ≡ judged.Reads message → ⊥) → is_at_once j ≡ true → is_unread j ≡ true
unread (judged.Reads message) none calm = absurd (none message refl)
unread (judged.Asks message p) none calm = absurd cc
unread _ none calm = refl

pub work-requires-clause-reads : goal.work-requires-clause-reads
work-requires-clause-reads g c =
    (subst (IsJudged (g.S.Suite.meaning c.args.suite.now) (role_of c.args.config.now) (config_data c.args.config.now) (state_data c.args.self.now) c.args.payload.now) c.in-Reads.is c.requires.judged).read.reads

pub work-requires-clause-spelled : goal.work-requires-clause-spelled
work-requires-clause-spelled g c =
    (subst (IsJudged (g.S.Suite.meaning c.args.suite.now) (role_of c.args.config.now) (config_data c.args.config.now) (state_data c.args.self.now) c.args.payload.now) c.in-Reads.is c.requires.judged).read.spelled

pub work-requires-clause-calm : goal.work-requires-clause-calm
work-requires-clause-calm g c =
    (subst (IsJudged (g.S.Suite.meaning c.args.suite.now) (role_of c.args.config.now) (config_data c.args.config.now) (state_data c.args.self.now) c.args.payload.now) c.in-Reads.is c.requires.judged).calm

pub returns-in-Reads-clause-comes : goal.returns-in-Reads-clause-comes
returns-in-Reads-clause-comes g c =
    let is : IsCalm (g.S.Suite.meaning c.args.suite.now) (role_of c.args.config.now) (config_data c.args.config.now) (state_data c.args.self.now) c.args.payload.now (message_data c.in-Reads.message) =
    subst (IsJudged (g.S.Suite.meaning c.args.suite.now) (role_of c.args.config.now) (config_data c.args.config.now) (state_data c.args.self.now) c.args.payload.now) c.in-Reads.is c.requires.judged in
    IfOk-weaker c.work.result _ _ (λ made comes d form. message_comes (setup_of (g.S.Suite.meaning c.args.suite.now) d c.args.config.now) _ _ c.args.packet c.args.payload.now made (message_data c.in-Reads.message) is.read
    (c.messages_law.ensures.complete _ _ _ is.read.spelled) (comes d form)) c.work.ensures.comes

pub reply_unread-requires-clause-unread : goal.reply_unread-requires-clause-unread
reply_unread-requires-clause-unread g c = unread c.args.judged.now c.in_default.not-Reads c.requires.calm

pub returns-in_ok-reply_unread-in_default : goal.returns-in_ok-reply_unread-in_default
returns-in_ok-reply_unread-in_default g c =
    let m = g.S.Suite.meaning c.args.suite.now in
    let role = role_of c.args.config.now in
    let config = config_data c.args.config.now in
    record {
      comes = λ d form. subst (λ (r : reply.Reply). ComesTo (setup_of m d c.args.config.now) (state_data c.args.self.now) (state_data c.reply_unread.new.self) c.args.packet c.args.payload.now r) (sym c.into_reply.ensures)
          (c.in_ok-reply_unread-in_default.ensures.comes m role config d c.requires.judged);
      kept = c.in_ok-reply_unread-in_default.ensures.kept m role config c.requires.judged;
    }
