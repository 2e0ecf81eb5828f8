-- What a person types: groups of a fingerprint's characters, which the program draws.

use Rattle.std.specs.Prelude.{ℕ, ◌%◌, ◌*◌, ◌+◌, ◌-◌, ◌==◌, ◌&&◌, ◌||◌, ◌∷◌, [], ◌++◌, Bool, List, None, Option, Some, drop, if◌then◌else◌, length, max, min, nat_lt, not, option_map, take}
use Rattle.std.specs.List.{filter, list_any}
use Rattle.std.specs.Option.{option_and_then}
use Rattle.std.specs.Str.{bytes_eq}
use Rattle.sshauth.specs.declared.asked_groups.AskedGroups.{AskedGroups}

-- nothing, LF, or CR LF
abbrev pub is_line_end : List ℕ → Bool
is_line_end rest = length rest == 0 || bytes_eq rest (10 ∷ []) || bytes_eq rest (13 ∷ 10 ∷ [])

-- a line is a word with nothing after it but the line's end
abbrev pub is_line_of : List ℕ → List ℕ → Bool
is_line_of line word = bytes_eq (take (length word) line) word && is_line_end (drop (length word) line)

-- a space or a tab
abbrev pub is_space : ℕ → Bool
is_space byte = byte == 32 || byte == 9

-- a line is an answer if it is the word that was asked for, once its spaces are taken out
abbrev pub is_answer : List ℕ → List ℕ → Bool
is_answer line word = is_line_of (filter (λ byte. not (is_space byte)) line) word

-- the four characters of a group; groups are counted from zero
abbrev pub group_of : List ℕ → ℕ → List ℕ
group_of digits group = take 4 (drop (4 * group) digits)

-- the word that is asked for: the characters of the three groups
abbrev pub asked_word : List ℕ → AskedGroups → List ℕ
asked_word digits groups = group_of digits groups.first ++ group_of digits groups.second ++ group_of digits groups.third

-- the group is one of these
abbrev pub has_group : List ℕ → ℕ → Bool
has_group groups group = list_any (λ own. own == group) groups

-- A byte below 250 means its remainder by ten, so that as many bytes mean each of the ten groups; here one that isn't taken.
abbrev pub is_other : List ℕ → ℕ → Bool
is_other taken byte = nat_lt byte 250 && not (has_group taken (byte % 10))

-- the first group that drawn bytes mean and that isn't taken
unfoldable pub drawn_group : List ℕ → List ℕ → Option ℕ
drawn_group taken [] = None
drawn_group taken (byte ∷ drawn) = if is_other taken byte then Some (byte % 10) else drawn_group taken drawn

-- three groups in ascending order
abbrev pub ascending : ℕ → ℕ → ℕ → List ℕ
ascending one two three =
    let low = min one (min two three) in
    let high = max one (max two three) in
    low ∷ (one + two + three - low - high) ∷ high ∷ []

-- the first three groups that drawn bytes mean and that aren't the same, in ascending order
abbrev pub asked_groups : List ℕ → Option (List ℕ)
asked_groups drawn =
    option_and_then (λ one. option_and_then (λ two. option_map (ascending one two) (drawn_group (one ∷ two ∷ []) drawn)) (drawn_group (one ∷ []) drawn)) (drawn_group [] drawn)

-- the groups as a list
abbrev pub groups_of : AskedGroups → List ℕ
groups_of groups = groups.first ∷ groups.second ∷ groups.third ∷ []
