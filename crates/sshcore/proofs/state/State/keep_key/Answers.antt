use Rattle.std.proofs.Common.{◌≡◌, true, Some, ap, subst, refl, rules, ◌∙◌, string_bytes}
use Rattle.sshwire.specs.TypeReadings.{is_name}
use Rattle.sshcore.specs.Authenticating.{HasName, tried_key}
use Rattle.sshcore.specs.QuestionsView.{claim_method}
use Rattle.sshcore.specs.StateData.{state_data}
use Rattle.sshcore.specs.declared.pending.Claim.{Claim}
use Rattle.sshcore.proofs.state.State.keep_key.Goals as goal

pub returns : goal.returns
returns c =
    let named : is_name (string_bytes c.in-Key.algorithm) ≡ true = subst (λ (x : Claim). HasName (claim_method x)) c.in-Key.is c.requires in
    let kept : tried_key (state_data c.args.self.now).carried (claim_method c.args.claim.now) true
    ≡ record (state_data c.args.self.now).carried { user_key = Some (record { algorithm = string_bytes c.in-Key.algorithm; blob = c.in-Key.blob.items }) } =
    ap (λ (x : Claim). tried_key (state_data c.args.self.now).carried (claim_method x) true) c.in-Key.is ∙ rw named refl in
    rw kept (search rules)
