use Rattle.std.proofs.Common.{◌≡◌, Bor, List, ℕ, false, refl, sym, subst}
use Rattle.sshwire.specs.declared.mpint.Mpint as mpint
use Rattle.sshmsg.specs.Numbers.{number_of}
use Rattle.sshmsg.specs.declared.message.Message.{Message}
use Rattle.sshmsg.specs.declared.message.Message.TheVariants as message
use Rattle.sshmsg.specs.View.{message_data}
use Rattle.sshcore.specs.declared.reply.Reply as reply
use Rattle.sshcore.specs.Comes.{Comes}
use Rattle.sshcore.specs.EndpointConfig.{setup_of}
use Rattle.sshcore.specs.StateData.{state_data}
use Rattle.sshcore.specs.Table.{is_of_method}
use Rattle.sshcore.specs.Work.{work}
use Rattle.sshcore.proofs.state.State.work.Goals as goal

-- every message that the code doesn't name is none of the method of key exchange
others : (x : Message) → ((e : mpint.Mpint) → x ≡ message.KexdhInit e → ⊥) → ((host_key : Bor (List ℕ)) (f : mpint.Mpint) (signature : Bor (List ℕ)) → x ≡ message.KexdhReply host_key f signature → ⊥)
    → ((share : Bor (List ℕ)) → x ≡ message.KexEcdhInit share → ⊥) → ((host_key share signature : Bor (List ℕ)) → x ≡ message.KexEcdhReply host_key share signature → ⊥)
    → is_of_method (number_of (message_data x)) ≡ false
others (message.KexdhInit e) a b i r = absurd (a e refl)
others (message.KexdhReply host_key f signature) a b i r = absurd (b host_key f signature refl)
others (message.KexEcdhInit share) a b i r = absurd (i share refl)
others (message.KexEcdhReply host_key share signature) a b i r = absurd (r host_key share signature refl)
others _ a b i r = refl

pub work_plainly-requires-clause-other : goal.work_plainly-requires-clause-other
work_plainly-requires-clause-other g c = others c.args.message.now c.in_default.not-KexdhInit c.in_default.not-KexdhReply c.in_default.not-KexEcdhInit c.in_default.not-KexEcdhReply

pub returns-in_ok-work_plainly-in_default : goal.returns-in_ok-work_plainly-in_default
returns-in_ok-work_plainly-in_default g c = record {
  comes = λ d form.
      let setup = setup_of (g.S.Suite.meaning c.args.suite.now) d c.args.config.now in
      subst (λ (r : reply.Reply). Comes setup (state_data c.args.self.now) (state_data c.work_plainly.new.self) c.args.payload.now r (work setup (state_data c.args.self.now).known (message_data c.args.message.now))) (sym c.into_reply.ensures)
      (c.in_ok-work_plainly-in_default.ensures.comes d);
  kept = c.in_ok-work_plainly-in_default.ensures.kept;
}
