-- Signatures of rsa-sha2-256 and rsa-sha2-512 (RFC 8332), which are RSASSA-PKCS1-v1_5 (RFC 8017 section 8.2).

use Rattle.std.specs.Prelude.{ℕ, ◌-◌, ◌%◌, ◌^◌, ◌==◌, ◌&&◌, ◌||◌, nat_le, nat_lt, if◌then◌else◌, Bool, false, List, [], ◌∷◌, ◌++◌, codes, length, replicate, Result, Ok, Err}
use Rattle.std.specs.Str.{bytes_eq}
use Rattle.sha2.specs.Sha256.{sha256}
use Rattle.sha2.specs.Sha512.{sha512}
use Rattle.sshwire.specs.TypeReadings.{◌>>=◌, string_at}
use Rattle.sshwire.specs.Types.{string}
use Rattle.sshwire.specs.declared.fault.WireFault.{WireFault}
use Rattle.sshwire.specs.declared.fault.WireFault.TheVariants.{NotCanonical}
use Rattle.sshsuite.specs.Group14.{is_positive_body, number_high}

-- whether this is the name of rsa-sha2-256 (RFC 8332 section 3)
unfoldable pub is_rsa_256 : List ℕ → Bool
is_rsa_256 alg = bytes_eq alg (codes "rsa-sha2-256")

-- whether this is the name of rsa-sha2-512 (RFC 8332 section 3)
unfoldable pub is_rsa_512 : List ℕ → Bool
is_rsa_512 alg = bytes_eq alg (codes "rsa-sha2-512")

-- a name of signatures by RSA
unfoldable pub is_rsa : List ℕ → Bool
is_rsa alg = is_rsa_256 alg || is_rsa_512 alg

-- DigestInfo of SHA-256 up to the digest (RFC 8017 section 9.2, note 1)
abbrev pub info_256 : List ℕ
info_256 =
    0x30 ∷ 0x31 ∷ 0x30 ∷ 0x0d ∷ 0x06 ∷ 0x09 ∷ 0x60 ∷ 0x86 ∷ 0x48 ∷ 0x01 ∷ 0x65 ∷ 0x03 ∷ 0x04 ∷ 0x02 ∷ 0x01 ∷ 0x05 ∷ 0x00 ∷ 0x04 ∷ 0x20 ∷ []

-- DigestInfo of SHA-512 up to the digest (RFC 8017 section 9.2, note 1)
abbrev pub info_512 : List ℕ
info_512 =
    0x30 ∷ 0x51 ∷ 0x30 ∷ 0x0d ∷ 0x06 ∷ 0x09 ∷ 0x60 ∷ 0x86 ∷ 0x48 ∷ 0x01 ∷ 0x65 ∷ 0x03 ∷ 0x04 ∷ 0x02 ∷ 0x03 ∷ 0x05 ∷ 0x00 ∷ 0x04 ∷ 0x40 ∷ []

-- T: DigestInfo with the digest of what is signed
unfoldable pub digest_info : List ℕ → List ℕ → List ℕ
digest_info alg input = if is_rsa_512 alg then info_512 ++ sha512 input else info_256 ++ sha256 input

-- EM of so many bytes (RFC 8017 section 9.2, step 5)
unfoldable pub encoded : ℕ → List ℕ → List ℕ
encoded size info = 0 ∷ 1 ∷ replicate (size - length info - 3) 255 ++ 0 ∷ info

-- a public key, of the bodies of e and n (RFC 4253 section 6.6)
abbrev pub key_blob : List ℕ → List ℕ → List ℕ
key_blob e n = string (codes "ssh-rsa") ++ string e ++ string n

-- a signature of this algorithm, of s (RFC 8332 section 3)
abbrev pub signature_blob : List ℕ → List ℕ → List ℕ
signature_blob alg s = string alg ++ string s

-- the bodies of e and n in a public key, after which nothing stands
unfoldable pub key_in : List ℕ → Result (List ℕ × List ℕ) WireFault
key_in blob = do
  name ← string_at blob
  e ← string_at name.1
  n ← string_at e.1
  if bytes_eq name.0 (codes "ssh-rsa") && (length n.1 == 0) then Ok (e.0, n.0) else Err NotCanonical

-- s in a signature of this algorithm, after which nothing stands
unfoldable pub signature_in : List ℕ → List ℕ → Result (List ℕ) WireFault
signature_in alg found = do
  name ← string_at found
  s ← string_at name.1
  if bytes_eq name.0 alg && (length s.1 == 0) then Ok s.0 else Err NotCanonical

-- the bytes of a positive number, by its mpint's body (RFC 4251 section 5)
unfoldable pub digits : List ℕ → List ℕ
digits [] = []
digits (b ∷ bytes) = if b == 0 then bytes else b ∷ bytes

-- the exponent is odd, from 3 to below 2^24 (the upper limit is profile)
unfoldable pub is_exponent : List ℕ → Bool
is_exponent e = nat_le (length e) 3 && (nat_le 3 (number_high e) && (number_high e % 2 == 1))

-- the modulus is odd, of 2048 to 8192 bits (profile)
unfoldable pub is_modulus : List ℕ → Bool
is_modulus n = nat_le (length n) 1024 && (nat_le (2 ^ 2047) (number_high n) && (number_high n % 2 == 1))

-- s, which has no more bytes than n and is below it, to e is EM, modulo n (RFC 8017 section 8.2.2)
unfoldable pub is_signed : ℕ → List ℕ → List ℕ → List ℕ → Bool
is_signed e n info s =
    nat_le (length s) (length n) && (nat_lt (number_high s) (number_high n)
    && (number_high s ^ e % number_high n == number_high (encoded (length n) info)))

-- the signature is valid by these bodies of e and n, where they are such numbers (RFC 8017 section 8.2.2)
unfoldable pub is_signed_by : List ℕ → List ℕ → List ℕ → List ℕ → Bool
is_signed_by e n info s =
    if is_positive_body e && is_positive_body n && is_exponent (digits e)
    then (if is_modulus (digits n) then is_signed (number_high (digits e)) (digits n) info s else false) else false

-- the signature is valid by a public key and a signature as they were read
unfoldable pub verifies_by : List ℕ → List ℕ → Result (List ℕ × List ℕ) WireFault → Result (List ℕ) WireFault → Bool
verifies_by alg input (Err e) s = false
verifies_by alg input (Ok key) (Err e) = false
verifies_by alg input (Ok key) (Ok s) = is_signed_by key.0 key.1 (digest_info alg input) s

-- whether the signature is valid, by the public key in the blob (RFC 8332 section 3)
unfoldable pub rsa_verify : List ℕ → List ℕ → List ℕ → List ℕ → Bool
rsa_verify alg blob input found = verifies_by alg input (key_in blob) (signature_in alg found)
