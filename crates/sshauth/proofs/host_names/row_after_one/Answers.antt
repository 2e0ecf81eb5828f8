use Rattle.std.proofs.Common.{◌∙◌, ◌∷◌, Bool, List, ℕ, ap, false, map}
use Rattle.std.proofs.lemmas.Iterator.{YieldsList-from_slice, YieldsList-from_zip}
use Rattle.std.proofs.lemmas.Iterator.Consumers.{YieldsList-end}
use Rattle.std.specs.Prelude.{◌&&◌}
use Rattle.sshauth.specs.HostNames.{is_like}
use Rattle.sshauth.proofs.host_names.row_after_one.Goals as goal

pub returns : goal.returns
returns c =
    let end = YieldsList-end (YieldsList-from_zip (YieldsList-from_slice c.args.text.now (cc)) (YieldsList-from_slice c.args.row.now (cc)))
    c.loop-own.yielded c.loop-own.own-iterator c.loop-own.yielded_by _ c.next.new.self c.in-None.is c.next.ensures.steps in
    c.loop-own.invariant ∙ ap (λ (pairs : List (ℕ × Bool)). false ∷ map (λ (pair : ℕ × Bool). is_like c.args.byte pair.0 && pair.1) pairs) end.0
