use Rattle.std.proofs.Common.{Result, Ok, Err, arith}
use Rattle.std.specs.Result.{OnOk}
use Rattle.sshcore.specs.declared.config_fault.ConfigFault.TheVariants as fault
use Rattle.sshpromises.proofs.RequestLemmas.{few_requests}
use Rattle.sshpromises.proofs.worlds.settles_from_anywhere.Goals as goal

where_done : {T E : Type 0} {P Q : Type 0} (r : Result T E) → (P → Q) → OnOk r P → OnOk r Q
where_done (Ok x) f p = f p
where_done (Err e) f p = tt

pub returns : goal.returns
returns g c =
    let w = c.args.world.now in
    where_done c.settle.result (λ bound. bound (c.follows_law.ensures.compatible (g.S.Suite.meaning w.suite) (g.D.Decisions.policy w.decisions) w.client_config w.server_config
    (g.met.S.AgreeingSuite.agrees w.suite) c.complete.ensures.holds.client_accepted c.complete.ensures.holds.server_accepted) c.requires.memory (omega (arith, few_requests w.client_config.plan, c.complete.ensures.holds.client_accepted.keeps fault.Plan))) c.settle.ensures.bound
