use Rattle.std.proofs.Common.{◌≡◌, ℕ, Bool, true, false, List, [], ◌∷◌, refl, sym, ap, ◌∙◌, cond}
use Rattle.std.specs.Prelude.{◌&&◌, not}
use Rattle.std.proofs.lemmas.Bool.{true≢false}
use Rattle.sshneg.specs.declared.side.Side.{Side}
use Rattle.sshneg.specs.declared.side.Side.TheVariants.{Client, Server}
use Rattle.sshpacket.specs.Stream.{Units}
use Rattle.sshpacket.specs.Suite.{SuiteData}
use Rattle.sshcore.specs.EndpointConfig.{config_data, role_of}
use Rattle.sshcore.specs.Negotiated.{sends_init}
use Rattle.sshcore.specs.EndpointParts.{ConfigData}
use Rattle.sshcore.specs.Work.{init_for}
use Rattle.std.proofs.lemmas.Result.{IfOk-weaker}
use Rattle.sshcore.proofs.GivesLemmas.{quiet_init}
use Rattle.sshcore.proofs.MadeLemmas.{made_plain}
use Rattle.sshcore.proofs.kex_init.init_answers.Goals as goal

unsent_by : (b : Bool) (xs : Units) → not b ≡ false → [] ≡ cond b [] xs
unsent_by true xs e = refl
unsent_by false xs e = absurd cc

sent_by : (b : Bool) (xs : Units) → not b ≡ true → xs ≡ cond b [] xs
sent_by true xs e = absurd cc
sent_by false xs e = refl

module _ (m : SuiteData) (config : ConfigData) (right : Bool) (kex : List ℕ) (opens : Bool) where
  unsent : (role : Side) → (role ≡ Client → opens ≡ not (config.offer.first_kex_packet_follows && right)) → opens ≡ false → [] ≡ sends_init m role config right kex
  unsent Server client e = refl
  unsent Client client e = unsent_by (config.offer.first_kex_packet_follows && right) (init_for m config kex ∷ []) (sym (client refl) ∙ e)

  sent : (role : Side) → (role ≡ Client → opens ≡ not (config.offer.first_kex_packet_follows && right)) → (role ≡ Server → opens ≡ false) → opens ≡ true
      → init_for m config kex ∷ [] ≡ sends_init m role config right kex
  sent Server client server e = absurd (true≢false (sym e ∙ server refl))
  sent Client client server e = sent_by (config.offer.first_kex_packet_follows && right) (init_for m config kex ∷ []) (sym (client refl) ∙ e)

pub returns-then-not-opens : goal.returns-then-not-opens
returns-then-not-opens g c = c.none.ensures
    ∙ unsent (g.S.Suite.meaning c.args.suite.now) (config_data c.args.config.now) c.args.negotiated.now.right c.args.negotiated.now.algorithms.kex
    c.opens.result (role_of c.args.config.now) c.opens.ensures.client c.if-not-opens.true

pub one-requires : goal.one-requires
one-requires g c = made_plain _ _ c.in_ok-init.ensures (quiet_init (g.S.Suite.meaning c.args.suite.now) (config_data c.args.config.now) c.kex.result.now)

pub returns : goal.returns
returns g c = IfOk-weaker c.one.result _ _ (λ answers alone.
    alone ∙ (ap (λ (p : List ℕ). p ∷ []) c.in_ok-init.ensures.same
    ∙ (ap (λ (kex : List ℕ). init_for (g.S.Suite.meaning c.args.suite.now) (config_data c.args.config.now) kex ∷ []) c.kex.ensures.kex
    ∙ sent (g.S.Suite.meaning c.args.suite.now) (config_data c.args.config.now) c.args.negotiated.now.right c.args.negotiated.now.algorithms.kex
    c.opens.result (role_of c.args.config.now) c.opens.ensures.client c.opens.ensures.server c.if-not-opens.false))) c.one.ensures
