use Rattle.std.proofs.Common.{◌≡◌, ◌-◌}
use Rattle.sshmsg.specs.Form.{form_at}
use Rattle.sshmsg.specs.MessageData.{extensions}
use Rattle.sshmsg.specs.View.{pairs_of}
use Rattle.sshmsg.proofs.lists.keep_extensions.Given as goal

abbrev pub invariant-loop : goal.invariant-loop
invariant-loop l =
    form_at (extensions (l.count - l.counter) (pairs_of l.found.items)) l.reader ≡ form_at (extensions l.count (pairs_of l.fn.found.items)) l.fn.reader
