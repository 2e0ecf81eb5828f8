use Rattle.std.proofs.Common.{◌≡◌, ◌-◌, List, [], ℕ}
use Rattle.sshmsg.specs.Form.{form_at}
use Rattle.sshmsg.specs.MessageData.{extensions}
use Rattle.sshmsg.proofs.lists.pass_extensions.Given as goal

-- after some pairs so many are left
abbrev pub invariant-loop : goal.invariant-loop
invariant-loop l =
    (found : List (List ℕ × List ℕ)) × (form_at (extensions (l.count - l.counter) found) l.reader ≡ form_at (extensions l.count []) l.fn.reader)
