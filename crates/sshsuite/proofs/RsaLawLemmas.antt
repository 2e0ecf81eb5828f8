-- What a public key and a signature of RSA are read as, and that nothing else is read.

use Rattle.std.proofs.Common.{◌≡◌, ℕ, ◌^◌, ◌<◌, List, [], ◌∷◌, ◌++◌, length, ap, refl, sym, ◌∙◌, arith, Bool, true, false, cond, eqb, Ok, Err}
use Rattle.std.proofs.lemmas.Bool.{and_parts, eqb-true, false≢true}
use Rattle.std.proofs.lemmas.List.{append-nil}
use Rattle.std.proofs.lemmas.Slice.Eq.{bytes_eq-Decides}
use Rattle.std.specs.Prelude.{codes, ◌&&◌, ◌||◌, Result}
use Rattle.std.specs.Str.{bytes_eq}
use Rattle.sshwire.specs.TypeReadings.{◌>>=◌, string_at}
use Rattle.sshwire.specs.Types.{IsBytes, string}
use Rattle.sshwire.specs.declared.fault.WireFault.{WireFault}
use Rattle.sshwire.specs.declared.fault.WireFault.TheVariants.{NotCanonical}
use Rattle.sshwire.proofs.TypeLemmas.{bind_ok, bytes_after, string_complete, string_taken}
use Rattle.sshsuite.specs.Deployed.{verify}
use Rattle.sshsuite.specs.Rsa.{digest_info, is_rsa, is_rsa_256, is_rsa_512, is_signed_by, key_blob, key_in, rsa_verify, signature_blob, signature_in, verifies_by}
use Rattle.sshsuite.specs.SealingLaws.{same_bytes}

-- Names.
name_short : (alg : List ℕ) → is_rsa alg ≡ true → length alg < 2 ^ 32
unfolding is_rsa is_rsa_256 is_rsa_512
name_short alg e = either (bytes_eq alg (codes "rsa-sha2-256")) (bytes_eq alg (codes "rsa-sha2-512")) refl refl e
  where
    long : (name : List ℕ) → alg ≡ name → length name < 2 ^ 32 → length alg < 2 ^ 32
    long name is h = rw is h

    either : (x y : Bool) → bytes_eq alg (codes "rsa-sha2-256") ≡ x → bytes_eq alg (codes "rsa-sha2-512") ≡ y → (x || y) ≡ true → length alg < 2 ^ 32
    either true y first second e = long (codes "rsa-sha2-256") ((bytes_eq-Decides alg (codes "rsa-sha2-256")).0 first) (omega arith)
    either false true first second e = long (codes "rsa-sha2-512") ((bytes_eq-Decides alg (codes "rsa-sha2-512")).0 second) (omega arith)
    either false false first second e = absurd (false≢true e)

-- What stands there is read.
last_string : (s : List ℕ) → length s < 2 ^ 32 → string_at (string s) ≡ Ok (s, [])
last_string s h = ap string_at (sym (append-nil (string s))) ∙ string_complete s [] h

key_read : (e n : List ℕ) → length e < 2 ^ 32 → length n < 2 ^ 32 → key_in (key_blob e n) ≡ Ok (e, n)
unfolding key_in
key_read e n he hn =
    let first = string_complete (codes "ssh-rsa") (string e ++ string n) (omega arith) in
    let second = string_complete e (string n) he in
    let third = last_string n hn in
    rw (first, second, third) refl

signature_read : (alg s : List ℕ) → length alg < 2 ^ 32 → length s < 2 ^ 32 → signature_in alg (signature_blob alg s) ≡ Ok s
unfolding signature_in
signature_read alg s ha hs =
    let first = string_complete alg (string s) ha in
    let second = last_string s hs in
    rw (first, second, same_bytes alg) refl

pub verified_by : (alg input e n s : List ℕ) → is_rsa alg ≡ true → length e < 2 ^ 32 → length n < 2 ^ 32 → length s < 2 ^ 32
    → verify alg (key_blob e n) input (signature_blob alg s) ≡ is_signed_by e n (digest_info alg input) s
unfolding verify rsa_verify verifies_by
verified_by alg input e n s is he hn hs =
    let key = key_read e n he hn in
    let own = signature_read alg s (name_short alg is) hs in
    rw (is, key, own) refl

-- What is read stands there.
no_bytes : (xs : List ℕ) → length xs ≡ 0 → xs ≡ []
no_bytes [] e = refl
no_bytes (x ∷ xs) e = absurd (omega (arith, e))

given_ok : {A : Type 0} (b : Bool) (x y : A) → cond b (Ok x) (Err NotCanonical) ≡ Ok y → (b ≡ true) × (x ≡ y)
given_ok true x y e = (refl, cc)
given_ok false x y e = cc

rest_of : (bytes s rest : List ℕ) → IsBytes bytes → bytes ≡ string s ++ rest → IsBytes rest
rest_of bytes s rest h e = bytes_after (string s) rest (rw e at h)

key_taken : (blob : List ℕ) (key : List ℕ × List ℕ) → IsBytes blob → key_in blob ≡ Ok key → blob ≡ key_blob key.0 key.1
unfolding key_in
key_taken blob key h e =
    let last : List ℕ → List ℕ → List ℕ × List ℕ → Result (List ℕ × List ℕ) WireFault =
    λ (name own : List ℕ) (n : List ℕ × List ℕ). cond (bytes_eq name (codes "ssh-rsa") && eqb (length n.1) 0) (Ok (own, n.0)) (Err NotCanonical) in
    let b1 = bind_ok (string_at blob) (λ (x : List ℕ × List ℕ). string_at x.1 >>= (λ (y : List ℕ × List ℕ). string_at y.1 >>= (λ (z : List ℕ × List ℕ). last x.0 y.0 z))) key e in
    let x : List ℕ × List ℕ = b1.0 in
    let b2 = bind_ok (string_at x.1) (λ (y : List ℕ × List ℕ). string_at y.1 >>= (λ (z : List ℕ × List ℕ). last x.0 y.0 z)) key b1.2 in
    let y : List ℕ × List ℕ = b2.0 in
    let b3 = bind_ok (string_at y.1) (λ (z : List ℕ × List ℕ). last x.0 y.0 z) key b2.2 in
    let z : List ℕ × List ℕ = b3.0 in
    let g = given_ok (bytes_eq x.0 (codes "ssh-rsa") && eqb (length z.1) 0) (y.0, z.0) key b3.2 in
    let t1 = string_taken blob x.0 x.1 h b1.1 in
    let h1 = rest_of blob x.0 x.1 h t1.bytes_are in
    let t2 = string_taken x.1 y.0 y.1 h1 b2.1 in
    let t3 = string_taken y.1 z.0 z.1 (rest_of x.1 y.0 y.1 h1 t2.bytes_are) b3.1 in
    let name : x.0 ≡ codes "ssh-rsa" = (bytes_eq-Decides x.0 (codes "ssh-rsa")).0 (and_parts (bytes_eq x.0 (codes "ssh-rsa")) (eqb (length z.1) 0) g.0).0 in
    let none : z.1 ≡ [] = no_bytes z.1 (eqb-true (length z.1) 0 (and_parts (bytes_eq x.0 (codes "ssh-rsa")) (eqb (length z.1) 0) g.0).1) in
    let end : y.1 ≡ string z.0 = t3.bytes_are ∙ ap (λ (t : List ℕ). string z.0 ++ t) none ∙ append-nil (string z.0) in
    let middle : x.1 ≡ string y.0 ++ string z.0 = t2.bytes_are ∙ ap (λ (t : List ℕ). string y.0 ++ t) end in
    t1.bytes_are ∙ ap (λ (t : List ℕ). string x.0 ++ t) middle ∙ ap (λ (t : List ℕ). string t ++ (string y.0 ++ string z.0)) name ∙ ap (λ (k : List ℕ × List ℕ). key_blob k.0 k.1) g.1

signature_taken : (alg found s : List ℕ) → IsBytes found → signature_in alg found ≡ Ok s → found ≡ signature_blob alg s
unfolding signature_in
signature_taken alg found s h e =
    let last : List ℕ → List ℕ × List ℕ → Result (List ℕ) WireFault = λ (name : List ℕ) (y : List ℕ × List ℕ). cond (bytes_eq name alg && eqb (length y.1) 0) (Ok y.0) (Err NotCanonical) in
    let b1 = bind_ok (string_at found) (λ (x : List ℕ × List ℕ). string_at x.1 >>= (λ (y : List ℕ × List ℕ). last x.0 y)) s e in
    let x : List ℕ × List ℕ = b1.0 in
    let b2 = bind_ok (string_at x.1) (λ (y : List ℕ × List ℕ). last x.0 y) s b1.2 in
    let y : List ℕ × List ℕ = b2.0 in
    let g = given_ok (bytes_eq x.0 alg && eqb (length y.1) 0) y.0 s b2.2 in
    let t1 = string_taken found x.0 x.1 h b1.1 in
    let t2 = string_taken x.1 y.0 y.1 (rest_of found x.0 x.1 h t1.bytes_are) b2.1 in
    let name : x.0 ≡ alg = (bytes_eq-Decides x.0 alg).0 (and_parts (bytes_eq x.0 alg) (eqb (length y.1) 0) g.0).0 in
    let none : y.1 ≡ [] = no_bytes y.1 (eqb-true (length y.1) 0 (and_parts (bytes_eq x.0 alg) (eqb (length y.1) 0) g.0).1) in
    let end : x.1 ≡ string y.0 = t2.bytes_are ∙ ap (λ (t : List ℕ). string y.0 ++ t) none ∙ append-nil (string y.0) in
    t1.bytes_are ∙ ap (λ (t : List ℕ). string x.0 ++ t) end ∙ ap (λ (t : List ℕ). string t ++ string y.0) name ∙ ap (λ (t : List ℕ). string alg ++ string t) g.1

both_read : (alg input : List ℕ) (k : Result (List ℕ × List ℕ) WireFault) (s : Result (List ℕ) WireFault) → verifies_by alg input k s ≡ true
    → ((key : List ℕ × List ℕ) × (k ≡ Ok key)) × ((own : List ℕ) × (s ≡ Ok own))
unfolding verifies_by
both_read alg input (Err d) s e = absurd (false≢true e)
both_read alg input (Ok key) (Err d) e = absurd (false≢true e)
both_read alg input (Ok key) (Ok own) e = ((key, refl), (own, refl))

pub nothing_else : (alg blob input found : List ℕ) → is_rsa alg ≡ true → IsBytes blob → IsBytes found → verify alg blob input found ≡ true
    → (e n s : List ℕ) × (blob ≡ key_blob e n) × (found ≡ signature_blob alg s)
unfolding verify rsa_verify
nothing_else alg blob input found is hb hf e =
    let read = both_read alg input (key_in blob) (signature_in alg found) (rw is at e) in
    let key : List ℕ × List ℕ = read.0.0 in
    let own : List ℕ = read.1.0 in
    (key.0, key.1, own, key_taken blob key hb read.0.1, signature_taken alg found own hf read.1.1)
