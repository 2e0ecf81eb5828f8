use Rattle.std.proofs.Common.{◌≡◌, Bool, true, false, Some, refl, sym, ap, ◌∙◌}
use Rattle.std.specs.Prelude.{◌&&◌, not}
use Rattle.std.proofs.lemmas.Result.{IfOk-weaker}
use Rattle.sshmsg.specs.View.{kexinit_data}
use Rattle.sshcore.specs.Before.{strict_towards}
use Rattle.sshcore.specs.EndpointConfig.{config_data, role_of}
use Rattle.sshcore.specs.StateData.{state_data}
use Rattle.sshcore.proofs.KexInitLemmas.{chosen, not_chosen, strictly_refused}
use Rattle.sshcore.proofs.state.State.receive_kexinit.Goals as goal
use Rattle.sshcore.proofs.state.State.receive_kexinit.Goals.{else-strict-via-then-strict+else-not-self, else-strict-via-else-strict}

-- the KEXINIT isn't refused for strictness: it stood first, or the endpoint isn't strict
first_on : (b first : Bool) → first ≡ true → (b && not first) ≡ false
first_on true first e = ap not e
first_on false first e = refl

strict_off : (b first : Bool) → b ≡ false → (b && not first) ≡ false
strict_off b first e = ap (λ (x : Bool). x && not first) e

pub returns-then-not-self-clause-gives : goal.returns-then-not-self-clause-gives
returns-then-not-self-clause-gives g c = IfOk-weaker c.fail.result _ _ (λ answers given.
    given ∙ (strictly_refused (g.S.Suite.meaning c.args.suite.now) (role_of c.args.config.now) (config_data c.args.config.now) (state_data c.args.self.now).known (kexinit_data c.args.peer.now)
    (sym c.is_strict-strict.ensures ∙ c.if-strict.true) c.if-not-self.true)) c.fail.ensures.gives

pub returns-in-Err-clause-gives : goal.returns-in-Err-clause-gives
returns-in-Err-clause-gives g c =
    let off : (strict_towards (role_of c.args.config.now) (config_data c.args.config.now).strict (Some (kexinit_data c.args.peer.now)) && not c.args.self.now.first) ≡ false =
    elim c.else-strict.branch [
      | else-strict-via-then-strict+else-not-self w ↦ first_on (strict_towards (role_of c.args.config.now) (config_data c.args.config.now).strict (Some (kexinit_data c.args.peer.now))) c.args.self.now.first w.if-not-self.false
      | else-strict-via-else-strict w ↦ strict_off (strict_towards (role_of c.args.config.now) (config_data c.args.config.now).strict (Some (kexinit_data c.args.peer.now))) c.args.self.now.first (sym c.is_strict-strict.ensures ∙ w.if-strict.false)
    ] in
    IfOk-weaker c.fail-in-Err.result _ _ (λ answers given.
    given ∙ (not_chosen (g.S.Suite.meaning c.args.suite.now) (role_of c.args.config.now) (config_data c.args.config.now) (state_data c.args.self.now).known (kexinit_data c.args.peer.now) off
    c.in_ok-field.field-0 c.in-Err.field c.in_ok-field.ensures c.in-Err.is)) c.fail-in-Err.ensures.gives

pub returns-after-peer-clause-gives : goal.returns-after-peer-clause-gives
returns-after-peer-clause-gives g c =
    let off : (strict_towards (role_of c.args.config.now) (config_data c.args.config.now).strict (Some (kexinit_data c.args.peer.now)) && not c.args.self.now.first) ≡ false =
    elim c.else-strict.branch [
      | else-strict-via-then-strict+else-not-self w ↦ first_on (strict_towards (role_of c.args.config.now) (config_data c.args.config.now).strict (Some (kexinit_data c.args.peer.now))) c.args.self.now.first w.if-not-self.false
      | else-strict-via-else-strict w ↦ strict_off (strict_towards (role_of c.args.config.now) (config_data c.args.config.now).strict (Some (kexinit_data c.args.peer.now))) c.args.self.now.first (sym c.is_strict-strict.ensures ∙ w.if-strict.false)
    ] in
    IfOk-weaker c.open_exchange.result _ _ (λ answers given.
    given ∙ (chosen (g.S.Suite.meaning c.args.suite.now) (role_of c.args.config.now) (config_data c.args.config.now) (state_data c.args.self.now).known (kexinit_data c.args.peer.now) off
    c.in_ok-field.field-0 c.in-Ok.negotiated c.in_ok-field.ensures c.in-Ok.is)) c.open_exchange.ensures.gives
