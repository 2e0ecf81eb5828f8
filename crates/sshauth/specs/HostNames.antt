-- Which names at the front of a line of known_hosts mean a host: sshd(8), "SSH_KNOWN_HOSTS FILE FORMAT".

use Rattle.std.specs.Prelude.{ℕ, ◌-◌, ◌==◌, ◌&&◌, ◌||◌, bit_xor, nat_eq, not, Bool, false, true, List, [], ◌∷◌, ◌++◌, codes, drop, if◌then◌else◌, length, map, Option, Some, replicate}
use Rattle.std.specs.List.{after_first, before_first, list_any, slice_split, starts_with}
use Rattle.std.specs.Char.{to_ascii_lowercase}
use Rattle.std.specs.Str.{bytes_eq}
use Rattle.sha1.specs.Sha1.{sha1}
use Rattle.sshauth.specs.Spelled.{spelled}

-- one of the ends of a text passes
abbrev pub any_end : (List ℕ → Bool) → List ℕ → Bool
any_end test [] = test []
any_end test (b ∷ bs) = test (b ∷ bs) || any_end test bs

-- a byte of a pattern, which is no `*`, means this byte: `?` any one, another itself, a letter in either case
abbrev pub is_like : ℕ → ℕ → Bool
is_like p b = p == 63 || to_ascii_lowercase p == to_ascii_lowercase b

-- the text begins with a byte that this one means, and what stands after it passes
abbrev pub one_then : ℕ → (List ℕ → Bool) → List ℕ → Bool
one_then p test [] = false
one_then p test (b ∷ bs) = is_like p b && test bs

-- The text is one that the pattern means: `*` means any bytes.
unfoldable pub matches : List ℕ → List ℕ → Bool
matches [] [] = true
matches [] (b ∷ bs) = false
matches (p ∷ ps) text = if p == 42 then any_end (matches ps) text else one_then p (matches ps) text

-- a pattern that says which host isn't meant
abbrev pub is_negated : List ℕ → Bool
is_negated pattern = starts_with nat_eq pattern (codes "!")

-- a pattern without `!` that means the host
abbrev pub includes : List ℕ → List ℕ → Bool
includes host pattern = not (is_negated pattern) && matches pattern host

-- a pattern with `!` that means the host after it
abbrev pub excludes : List ℕ → List ℕ → Bool
excludes host pattern = is_negated pattern && matches (drop 1 pattern) host

-- what stands between the commas
abbrev pub patterns_in : List ℕ → List (List ℕ)
patterns_in names = slice_split (λ byte. byte == 44) names

-- patterns mean a host that one of them means and none of those with `!`
abbrev pub are_patterns_of : List ℕ → List ℕ → Bool
are_patterns_of names host = list_any (includes host) (patterns_in names) && not (list_any (excludes host) (patterns_in names))

-- the key filled up with zeros to 64 bytes, each XOR this byte (RFC 2104)
abbrev pub padded : ℕ → List ℕ → List ℕ
padded byte key = map (λ own. bit_xor own byte) (key ++ replicate (64 - length key) 0)

-- HMAC by SHA-1 of a text, by a key of at most 64 bytes (RFC 2104)
abbrev pub hmac_sha1 : List ℕ → List ℕ → List ℕ
hmac_sha1 key text = sha1 (padded 92 key ++ sha1 (padded 54 key ++ text))

-- a name's hash, by a salt of 20 bytes
abbrev pub is_hash_of : List ℕ → List ℕ → List ℕ → Bool
is_hash_of salt hash host = length salt == 20 && bytes_eq hash (hmac_sha1 salt (map to_ascii_lowercase host))

-- a name's hash by this salt, where both could be read
abbrev pub is_hash_by : Option (List ℕ) → Option (List ℕ) → List ℕ → Bool
is_hash_by (Some salt) (Some hash) host = is_hash_of salt hash host
is_hash_by _ _ host = false

-- the byte is `|`
abbrev pub is_bar : ℕ → Bool
is_bar byte = byte == 124

-- SALT|HASH in base64
abbrev pub is_hashed_name : List ℕ → List ℕ → Bool
is_hashed_name hashed host = is_hash_by (spelled (before_first is_bar hashed)) (spelled (after_first is_bar hashed)) host

-- The names mean the host: |1|SALT|HASH is a name that is hashed, in lower case.
unfoldable pub mean : List ℕ → List ℕ → Bool
mean names host = if starts_with nat_eq names (codes "|1|") then is_hashed_name (drop 3 names) host else are_patterns_of names host
