-- Which lines of a text give which public keys: authorized_keys and known_hosts (sshd(8)).

use Rattle.std.specs.Prelude.{ℕ, ◌==◌, ◌&&◌, ◌||◌, nat_eq, not, Bool, List, Option, None, Some, codes, if◌then◌else◌, drop, length, position}
use Rattle.std.specs.List.{before_first, filter_map, position_or_len, slice_split, starts_with}
use Rattle.std.specs.Option.{is_some, option_and_then}
use Rattle.std.specs.Str.{bytes_eq}
use Rattle.sshwire.specs.Types.{string}
use Rattle.sshauth.specs.HostNames.{mean}
use Rattle.sshauth.specs.Spelled.{spelled}
use Rattle.sshauth.specs.declared.key_lines.KeyLine.{KeyLine}
use Rattle.sshauth.specs.declared.key_lines.KeyLine.TheVariants as line

-- space, tab, and CR, which may stand before LF
abbrev pub is_blank : ℕ → Bool
is_blank byte = byte == 32 || byte == 9 || byte == 13

-- what a text is after its first blanks
unfoldable pub unblanked : List ℕ → List ℕ
unblanked text = drop (position_or_len (λ byte. not (is_blank byte)) text) text

-- the first word of a text, which blanks end
unfoldable pub first_word : List ℕ → List ℕ
first_word text = before_first is_blank (unblanked text)

-- what stands after it
unfoldable pub after_word : List ℕ → List ℕ
after_word text = drop (position_or_len is_blank (unblanked text)) (unblanked text)

-- a word is no names: there is none, or it is a comment or a mark
abbrev pub is_no_names : List ℕ → Bool
is_no_names word = length word == 0 || starts_with nat_eq word (codes "#") || starts_with nat_eq word (codes "@")

-- a word is names that mean the host
abbrev pub means : List ℕ → List ℕ → Bool
means word host = not (is_no_names word) && mean word host

-- Of a line that is looked for, what stands where a key has to: the whole line; what stands after names that mean the host; after
-- `@revoked` and names, whatever these mean; after `@cert-authority` and names that mean the host.
abbrev pub key_text : KeyLine → List ℕ → Option (List ℕ)
key_text line.Authorized text = Some text
key_text (line.Known host) text = if means (first_word text) host.now then Some (after_word text) else None
key_text line.Revoked text = if bytes_eq (first_word text) (codes "@revoked") then Some (after_word (after_word text)) else None
key_text (line.Authority host) text =
    if bytes_eq (first_word text) (codes "@cert-authority") && means (first_word (after_word text)) host.now then Some (after_word (after_word text)) else None

-- what the bytes of a key of a known kind begin with: the kind's name (RFC 4253 section 6.6)
abbrev pub front_of : List ℕ → Option (List ℕ)
front_of kind =
    if bytes_eq kind (codes "ssh-ed25519") then Some (string (codes "ssh-ed25519"))
    else if bytes_eq kind (codes "ssh-rsa") then Some (string (codes "ssh-rsa"))
    else None

-- the key that digits spell, if they spell one that begins so
abbrev pub key_of : List ℕ → List ℕ → Option (List ℕ)
key_of front digits = option_and_then (λ key. if starts_with nat_eq key front then Some key else None) (spelled digits)

-- the key at the front of a text, `KIND DIGITS`: one of a known kind, by the word and in itself
unfoldable pub key_at : List ℕ → Option (List ℕ)
key_at text = option_and_then (λ front. key_of front (first_word (after_word text))) (front_of (first_word text))

-- the key of a line that is looked for
unfoldable pub key_in : KeyLine → List ℕ → Option (List ℕ)
key_in kind text = option_and_then key_at (key_text kind text)

-- the keys of the lines of a text that are looked for, and of no others
unfoldable pub keys_in : KeyLine → List ℕ → List (List ℕ)
keys_in kind text = filter_map (key_in kind) (slice_split (λ byte. byte == 10) text)

-- a line is one that is looked for, whatever the kind of its key
abbrev pub is_line : KeyLine → List ℕ → Bool
is_line kind text = is_some (key_text kind text)

-- how many lines stand before the first one that is looked for
unfoldable pub first_line : KeyLine → List ℕ → Option ℕ
first_line kind text = position (is_line kind) (slice_split (λ byte. byte == 10) text)
