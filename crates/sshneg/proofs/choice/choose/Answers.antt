use Rattle.std.proofs.Common.{ap, refl, sym, ◌∙◌, Result}
use Rattle.std.proofs.lemmas.Result.{err_from_is_err_and}
use Rattle.sshmsg.specs.View.{kexinit_data}
use Rattle.sshneg.specs.declared.choice.NoCommon.{NoCommon}
use Rattle.sshneg.specs.ChoiceReadings.{answer, answered, choice}
use Rattle.sshneg.specs.Fields.{AlgorithmsData}
use Rattle.sshneg.proofs.ChoiceLaws.{choice_steps}
use Rattle.sshneg.proofs.ChoicePlaces.{kex_stands, told_when}
use Rattle.sshneg.proofs.PositionLemmas.{found_err, found_ok}
use Rattle.sshneg.proofs.choice.choose.Goals as goal

pub returns-in_err-kex-clause-exact : goal.returns-in_err-kex-clause-exact
unfolding answer choice
returns-in_err-kex-clause-exact g c =
    let last = found_err _ _ _ _ (sym c.choose_kex.ensures ∙ c.in_err-kex.was) in
    let p = err_from_is_err_and c.from_residual.result c.from_residual.ensures.1 in
    rw (p.1, p.2, ← last.1, last.0) refl

pub returns-in_err-kex-clause-tells : goal.returns-in_err-kex-clause-tells
returns-in_err-kex-clause-tells g c = told_when _ _ _ c.from_residual.result (returns-in_err-kex-clause-exact g c)

pub choose_host_key-requires : goal.choose_host_key-requires
choose_host_key-requires g c =
    let s = found_ok _ _ _ _ (sym c.choose_kex.ensures ∙ c.in_ok-kex.was) in
    (kex_stands (g.S.Suite.meaning c.args.suite.now) (kexinit_data c.args.client.now) (kexinit_data c.args.server.now) s.name c.in_ok-kex.kex s.is s.at).within

pub returns-in_err-host_key-clause-exact : goal.returns-in_err-host_key-clause-exact
unfolding answer choice
returns-in_err-host_key-clause-exact g c =
    let s = found_ok _ _ _ _ (sym c.choose_kex.ensures ∙ c.in_ok-kex.was) in
    let stands = kex_stands (g.S.Suite.meaning c.args.suite.now) (kexinit_data c.args.client.now) (kexinit_data c.args.server.now) s.name c.in_ok-kex.kex s.is s.at in
    let gave = c.choose_host_key.ensures s.name stands.gets in
    let last = found_err _ _ _ _ (sym gave ∙ c.in_err-host_key.was) in
    let p = err_from_is_err_and c.from_residual-in_err-host_key.result c.from_residual-in_err-host_key.ensures.1 in
    rw (p.1, p.2, ← last.1, s.is, last.0) refl

pub returns-in_err-host_key-clause-tells : goal.returns-in_err-host_key-clause-tells
returns-in_err-host_key-clause-tells g c = told_when _ _ _ c.from_residual-in_err-host_key.result (returns-in_err-host_key-clause-exact g c)

pub returns-clause-exact : goal.returns-clause-exact
unfolding answer
returns-clause-exact g c =
    let s = found_ok _ _ _ _ (sym c.choose_kex.ensures ∙ c.in_ok-kex.was) in
    let stands = kex_stands (g.S.Suite.meaning c.args.suite.now) (kexinit_data c.args.client.now) (kexinit_data c.args.server.now) s.name c.in_ok-kex.kex s.is s.at in
    let gave = c.choose_host_key.ensures s.name stands.gets in
    let t = found_ok _ _ _ _ (sym gave ∙ c.in_ok-host_key.was) in
    let steps = choice_steps (g.S.Suite.meaning c.args.suite.now) (kexinit_data c.args.client.now) (kexinit_data c.args.server.now) s.name t.name s.is t.is in
    c.choose_directions.ensures s.name t.name s.at t.at
    ∙ ap (λ (r : Result AlgorithmsData NoCommon). answered (kexinit_data c.args.client.now) r) (sym steps)

pub returns-clause-tells : goal.returns-clause-tells
returns-clause-tells g c = told_when _ _ _ c.choose_directions.result (returns-clause-exact g c)
