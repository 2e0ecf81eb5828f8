use Rattle.std.proofs.Common.{◌+◌, ◌≤◌, ℕ, length, take, drop, sym, ap, ◌∙◌, arith}
use Rattle.std.proofs.lemmas.List.{take_rest, take_all, drop_all}
use Rattle.std.specs.List.{position_or_len}
use Rattle.sshwire.specs.Reading.{is_space}
use Rattle.sshwire.proofs.VersionText.{position_some, position_none}
use Rattle.sshwire.proofs.version_line.split_at_space.Goals as goal

pub returns-in-Some-clause-before : goal.returns-in-Some-clause-before
returns-in-Some-clause-before c =
    ap (λ (n : ℕ). take n c.args.bytes.now) (position_some c.args.bytes.now c.in-Some.end (sym c.in-Some.ensures))

pub returns-in-Some-clause-after : goal.returns-in-Some-clause-after
returns-in-Some-clause-after c =
    take_rest c.args.bytes.now _
    ∙ ap (λ (n : ℕ). drop (n + 1) c.args.bytes.now) (position_some c.args.bytes.now c.in-Some.end (sym c.in-Some.ensures))

pub returns-in-None-clause-before : goal.returns-in-None-clause-before
returns-in-None-clause-before c =
    sym (take_all _ c.args.bytes.now (position_none c.args.bytes.now (sym c.in-None.ensures)))

pub returns-in-None-clause-after : goal.returns-in-None-clause-after
returns-in-None-clause-after c =
    let past : length c.args.bytes.now ≤ position_or_len is_space c.args.bytes.now = position_none c.args.bytes.now (sym c.in-None.ensures) in
    sym (drop_all _ c.args.bytes.now (omega arith))
