-- How long the payload of a message is, by its parts.

use Rattle.std.specs.Prelude.{◌≡◌, ℕ, ◌+◌, ◌≤◌, List, [], ◌∷◌, ◌++◌, length, nat_le}
use Rattle.sshwire.specs.declared.limits.TheConstants.{PAYLOAD_LIMIT}
use Rattle.sshwire.specs.Types.{names_body}
use Rattle.sshmsg.specs.MessageData.{End, Fields, KexInitData, layout, MessageData, OfMethod, MethodData, NoMethod, OfKexInit, OtherMethod, Pairs, Password, PasswordChange, PublicKey, PublicKeyQuery, With}
use Rattle.sshmsg.specs.Form.{BigNumber, Bytes, Cookie, Field, Flag, Names, Number, Of, Reserved, Utf8}

-- the pairs of an EXT_INFO: two strings each
abbrev pub pairs_length : List (List ℕ × List ℕ) → ℕ
pairs_length [] = 0
pairs_length (pair ∷ pairs) = length pair.0 + length pair.1 + 8 + pairs_length pairs

-- the fields after a method's name
abbrev pub method_length : MethodData → ℕ
method_length NoMethod = 0
method_length (Password password) = length password + 5
method_length (PasswordChange old new) = length old + length new + 9
method_length (PublicKey algorithm key signature) = length algorithm + length key + length signature + 13
method_length (PublicKeyQuery algorithm key) = length algorithm + length key + 9
method_length (OtherMethod name fields) = length fields

-- the names of a KEXINIT's ten lists with their commas
abbrev pub offer_length : KexInitData → ℕ
offer_length offer =
    length (names_body offer.kex_algorithms) + length (names_body offer.server_host_key_algorithms)
    + length (names_body offer.encryption_client_to_server) + length (names_body offer.encryption_server_to_client)
    + length (names_body offer.mac_client_to_server) + length (names_body offer.mac_server_to_client)
    + length (names_body offer.compression_client_to_server) + length (names_body offer.compression_server_to_client)
    + length (names_body offer.languages_client_to_server) + length (names_body offer.languages_server_to_client)

-- the bytes of a field whose count varies
abbrev pub varying : (f : Field) → Of f → List ℕ
varying Flag value = []
varying Number value = []
varying Bytes value = length value ∷ []
varying Utf8 value = length value ∷ []
varying BigNumber value = length value ∷ []
varying Names value = length (names_body value) ∷ []
varying Cookie value = length value ∷ []
varying Reserved value = []

-- how many bytes a field of this kind has in any case, whatever it contains
abbrev pub fixed : Field → ℕ
fixed Flag = 1
fixed Number = 4
fixed Bytes = 4
fixed Utf8 = 4
fixed BigNumber = 4
fixed Names = 4
fixed Cookie = 0
fixed Reserved = 4

-- the bytes of all fields whose count varies, field by field
abbrev pub all_varying : Fields → List ℕ
all_varying End = []
all_varying (With f value more) = varying f value ++ all_varying more
all_varying (Pairs pairs) = pairs_length pairs ∷ []
all_varying (OfKexInit offer) = length offer.cookie ∷ offer_length offer ∷ []
all_varying (OfMethod m) = method_length m ∷ []

-- how many bytes these fields have together in any case; a KEXINIT's are the ten lengths of its lists, the flag and the reserved number
abbrev pub all_fixed : Fields → ℕ
all_fixed End = 0
all_fixed (With f value more) = fixed f + all_fixed more
all_fixed (Pairs pairs) = 0
all_fixed (OfKexInit offer) = 45
all_fixed (OfMethod m) = 0

-- numbers added up from the first on
abbrev pub added : ℕ → List ℕ → ℕ
added n [] = n
added n (m ∷ more) = added (n + m) more

-- the sum of the numbers, from the first on
abbrev pub total : List ℕ → ℕ
total [] = 0
total (n ∷ more) = added n more

-- the bytes that vary, those that don't, and the number in front
abbrev pub payload_length : MessageData → ℕ
payload_length m = total (all_varying (layout m).1) + (1 + all_fixed (layout m).1)

-- the number is this length, or both are above the limit
unfoldable pub IsCapped : ℕ → ℕ → Type 0
IsCapped number len = (nat_le number PAYLOAD_LIMIT ≡ nat_le len PAYLOAD_LIMIT) × (len ≤ PAYLOAD_LIMIT → number ≡ len)
