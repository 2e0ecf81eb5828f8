use Rattle.std.proofs.Common.{◌≡◌, ◌∙◌, sym, refl, Err, Result}
use Rattle.sshcore.specs.declared.config_fault.ConfigFault.{ConfigFault}
use Rattle.sshcore.specs.declared.config_fault.ConfigFault.TheVariants as fault
use Rattle.sshcore.proofs.ConfigAccepted.{server_accepted, server_kept, server_not_memory, server_refused}
use Rattle.sshcore.proofs.config_server.ServerConfig.new.Goals as goal

err_same : {A : Type 0} (x y : ConfigFault) → ◌≡◌ {A = Result A ConfigFault} (Err x) (Err y) → x ≡ y
err_same x y e = cc

pub returns-in-Some-clause-refused : goal.returns-in-Some-clause-refused
returns-in-Some-clause-refused c =
    λ _. server_refused c.names_law.ensures.name c.names_law.ensures.version c.args.parts c.in-Some.fault (sym c.server_refusal.ensures ∙ c.in-Some.is)

pub returns-in-Some-clause-memory : goal.returns-in-Some-clause-memory
returns-in-Some-clause-memory c =
    λ e. absurd (server_not_memory c.names_law.ensures.name c.names_law.ensures.version c.args.parts c.in-Some.fault (sym c.server_refusal.ensures ∙ c.in-Some.is)
    (err_same c.in-Some.fault fault.Memory e))

pub returns-in-Err-clause-memory : goal.returns-in-Err-clause-memory
returns-in-Err-clause-memory c =
    λ _. server_kept c.names_law.ensures.name c.names_law.ensures.version c.args.parts (sym c.server_refusal.ensures ∙ c.in-None.is)

pub invariant_of-result : goal.invariant_of-result
invariant_of-result c =
    (c.in-Ok.ensures, server_accepted c.names_law.ensures.name c.names_law.ensures.version c.args.parts (sym c.server_refusal.ensures ∙ c.in-None.is) c.side_law.ensures)

pub returns-in-Ok-clause-accepted : goal.returns-in-Ok-clause-accepted
returns-in-Ok-clause-accepted c =
    (refl, server_accepted c.names_law.ensures.name c.names_law.ensures.version c.args.parts (sym c.server_refusal.ensures ∙ c.in-None.is) c.side_law.ensures)
