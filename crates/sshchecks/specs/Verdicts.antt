-- What is told of a peer, by the word of what it did.

use Rattle.std.specs.Prelude.{ℕ, ◌==◌, Bool, true, false, List, codes, if◌then◌else◌}
use Rattle.std.specs.List.{list_any, slice_split}
use Rattle.std.specs.Str.{bytes_eq}
use Rattle.sshchecks.specs.declared.check.Asked.{Asked}
use Rattle.sshchecks.specs.declared.check.Asked.TheVariants.{Must, Should, Practice, Nothing}
use Rattle.sshchecks.specs.declared.verdict.Verdict.{Verdict}
use Rattle.sshchecks.specs.declared.verdict.Verdict.TheVariants.{Keeps, Deviates, Hole, Unclear}

-- a word is one of those with `|` between
abbrev pub is_among : List ℕ → List ℕ → Bool
is_among words word = list_any (λ own. bytes_eq own word) (slice_split (λ b. b == 124) words)

-- nothing is asked of the peer
abbrev pub asks_nothing : Asked → Bool
asks_nothing Nothing = true
asks_nothing Must = false
asks_nothing Should = false
asks_nothing Practice = false

-- What is expected keeps, also where it would be a hole elsewhere; what is a hole is told as one, whatever binds the peer; a
-- check that doesn't apply, a peer that says nothing more, and a check that asks nothing tell nothing against it; all else deviates.
abbrev pub verdict : Asked → List ℕ → List ℕ → List ℕ → Verdict
verdict asked expect hole did =
    if is_among expect did then Keeps
    else if is_among hole did then Hole
    else if asks_nothing asked then Unclear
    else if bytes_eq did (codes "not_here") then Unclear
    else if bytes_eq did (codes "silent") then Unclear
    else Deviates
