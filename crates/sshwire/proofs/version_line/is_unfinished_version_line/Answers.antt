use Rattle.std.proofs.Common.{◌≡◌, [], ◌∷◌, true, false, nat_eq, sym, ◌∙◌}
use Rattle.std.specs.List.{ends_with}
use Rattle.sshwire.proofs.VersionText.{unfinished_test}
use Rattle.sshwire.proofs.version_line.is_unfinished_version_line.Goals as goal

pub returns-then-ends_with : goal.returns-then-ends_with
returns-then-ends_with c =
    let t : ends_with nat_eq c.args.line.now (13 ∷ []) ≡ true = sym c.ends_with.ensures.value ∙ c.if-ends_with.true in
    let e = unfinished_test c.args.line.now in
    c.is_version_text.ensures ∙ (rw t at e)

pub returns-else-ends_with : goal.returns-else-ends_with
returns-else-ends_with c =
    let t : ends_with nat_eq c.args.line.now (13 ∷ []) ≡ false = sym c.ends_with.ensures.value ∙ c.if-ends_with.false in
    let e = unfinished_test c.args.line.now in
    c.if-ends_with.false ∙ (rw t at e)
