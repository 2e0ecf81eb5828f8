-- Decapsulation gives the secret that was encapsulated, where the message is decrypted.

use Rattle.std.proofs.Common.{◌≡◌, ℕ, true, List, ◌++◌, length, drop, take, refl, ap, ◌∙◌, cond}
use Rattle.std.proofs.lemmas.List.{append_assoc, drop_at, take_at}
use Rattle.std.proofs.lemmas.Slice.Eq.{bytes_eq-Decides}
use Rattle.std.specs.Str.{bytes_eq}
use Rattle.sshkeccak.specs.Sponge.{sha3_256, sha3_512}
use Rattle.sshmlkem.specs.Kem.{decapsulated, encapsulated, keys_of}
use Rattle.sshmlkem.specs.KemBytes.{encoded_vector, key_bytes, short_digest_bytes}
use Rattle.sshmlkem.specs.Pke.{decrypted, encrypted, pke_keys}

-- the parts of a decapsulation key
module _ (p e h z : List ℕ) (p_long : length p ≡ 1152) (e_long : length e ≡ 1184) (h_long : length h ≡ 32) where
  front : take 1152 ((p ++ e) ++ (h ++ z)) ≡ p
  front = ap (take 1152) (append_assoc p e (h ++ z)) ∙ take_at p (e ++ (h ++ z)) 1152 p_long

  rest : drop 1152 ((p ++ e) ++ (h ++ z)) ≡ e ++ (h ++ z)
  rest = ap (drop 1152) (append_assoc p e (h ++ z)) ∙ drop_at p (e ++ (h ++ z)) 1152 p_long

  key : take 1184 (drop 1152 ((p ++ e) ++ (h ++ z))) ≡ e
  key = ap (take 1184) rest ∙ take_at e (h ++ z) 1184 e_long

  after_key : drop 1184 (drop 1152 ((p ++ e) ++ (h ++ z))) ≡ h ++ z
  after_key = ap (drop 1184) rest ∙ drop_at e (h ++ z) 1184 e_long

  digest : take 32 (drop 1184 (drop 1152 ((p ++ e) ++ (h ++ z)))) ≡ h
  digest = ap (take 32) after_key ∙ take_at h z 32 h_long

-- by the parts of a key
decapsulated_by : (p e h c m rejected : List ℕ) → h ≡ sha3_256 e → decrypted p c ≡ m → c ≡ encrypted e m (drop 32 (sha3_512 (m ++ sha3_256 e)))
    → cond (bytes_eq c (encrypted e (decrypted p c) (drop 32 (sha3_512 (decrypted p c ++ h))))) (take 32 (sha3_512 (decrypted p c ++ h))) rejected
    ≡ take 32 (sha3_512 (m ++ sha3_256 e))
decapsulated_by p e h c m rejected digest_is message_is made =
    let same : bytes_eq c (encrypted e m (drop 32 (sha3_512 (m ++ sha3_256 e)))) ≡ true =
    (bytes_eq-Decides c (encrypted e m (drop 32 (sha3_512 (m ++ sha3_256 e))))).1 made in
    rw (message_is, digest_is, same) refl

secret_long : (d : List ℕ) → length (pke_keys d).decryption_key ≡ 1152
unfolding pke_keys
secret_long d = let are = encoded_vector _ in are.long

pub agreed : (d z m : List ℕ) → (let made = encapsulated (keys_of d z).encapsulation_key m in
    decrypted (pke_keys d).decryption_key made.ciphertext ≡ m → decapsulated (keys_of d z).decapsulation_key made.ciphertext ≡ made.secret)
unfolding keys_of encapsulated decapsulated
agreed d z m message_is =
    let p : List ℕ = (pke_keys d).decryption_key in
    let e : List ℕ = (pke_keys d).encryption_key in
    let h : List ℕ = sha3_256 e in
    let p_long : length p ≡ 1152 = secret_long d in
    let e_are = key_bytes d z in
    let h_are = short_digest_bytes e in
    rw (front p e h z p_long e_are.long h_are.long, key p e h z p_long e_are.long h_are.long, digest p e h z p_long e_are.long h_are.long)
    (decapsulated_by p e h _ m _ refl message_is refl)
