-- The tests of decisions say what is meant.

use Rattle.std.proofs.Common.{◌≡◌, ◌↔◌, ℕ, zero, suc, ◌<◌, inl, inr, Bool, true, false, List, [], ◌∷◌, ◌∙◌, length, get_or, refl, sym, ap, arith, eq-eqb}
use Rattle.std.specs.Prelude.{◌==◌, ◌&&◌, not}
use Rattle.std.specs.List.{Contains, list_any}
use Rattle.std.specs.Str.{bytes_eq}
use Rattle.std.proofs.lemmas.Bool.{and_from, and_parts, eqb-true, or_cases, or_left, or_right}
use Rattle.std.proofs.lemmas.Slice.Eq.{bytes_eq-Decides}
use Rattle.sshcore.specs.EndpointParts.{KeyProof, NoProof, PasswordProof, ProofData}
use Rattle.sshlabsuites.specs.LabDecisionsData.{AllowedData, LabDecisionsData, accepts, is_proof, lab_policy}

module _ {X : Type 0} (same : X → Bool) (q : X) where
  found : ((x : X) → same x ≡ true → x ≡ q) → (xs : List X) → list_any same xs ≡ true → Contains xs q
  found is [] e = cc
  found is (x ∷ xs) e = elim (or_cases (same x) (list_any same xs) e) [
    | inl t ↦ (0, omega arith, is x t)
    | inr t ↦ let c = found is xs t in let within : c.0 < length xs = c.1 in (suc c.0, omega arith, c.2)
  ]

  finds : same q ≡ true → (xs : List X) (k : ℕ) → k < length xs → get_or xs k q ≡ q → list_any same xs ≡ true
  finds hit [] k within e = absurd (omega arith)
  finds hit (x ∷ xs) zero within e = or_left _ _ (ap same e ∙ hit)
  finds hit (x ∷ xs) (suc k) within e = or_right _ _ (finds hit xs k (omega arith) e)

  pub any_is : ((x : X) → same x ≡ true → x ≡ q) → same q ≡ true → (xs : List X) → (list_any same xs ≡ true) ↔ Contains xs q
  any_is is hit xs = (found is xs, λ c. finds hit xs c.0 c.1 c.2)

same_proof : (own proof : ProofData) → is_proof own proof ≡ true → own ≡ proof
same_proof NoProof NoProof e = refl
same_proof NoProof (PasswordProof password) e = cc
same_proof NoProof (KeyProof algorithm blob) e = cc
same_proof (PasswordProof own) NoProof e = cc
same_proof (PasswordProof own) (PasswordProof password) e = ap PasswordProof ((bytes_eq-Decides own password).0 e)
same_proof (PasswordProof own) (KeyProof algorithm blob) e = cc
same_proof (KeyProof own own_blob) NoProof e = cc
same_proof (KeyProof own own_blob) (PasswordProof password) e = cc
same_proof (KeyProof own own_blob) (KeyProof algorithm blob) e =
    let parts = and_parts (bytes_eq own algorithm) (bytes_eq own_blob blob) e in
    let name = (bytes_eq-Decides own algorithm).0 parts.0 in
    let key = (bytes_eq-Decides own_blob blob).0 parts.1 in cc

own_bytes : (bytes : List ℕ) → bytes_eq bytes bytes ≡ true
own_bytes bytes = (bytes_eq-Decides bytes bytes).1 refl

own_proof_data : (proof : ProofData) → is_proof proof proof ≡ true
own_proof_data NoProof = refl
own_proof_data (PasswordProof password) = own_bytes password
own_proof_data (KeyProof algorithm blob) = and_from _ _ (own_bytes algorithm) (own_bytes blob)

pair : List ℕ → ProofData → AllowedData
pair user proof = record { user = user; proof = proof }

same_pair : (allowance : AllowedData) (user : List ℕ) (proof : ProofData) → accepts allowance user proof ≡ true → allowance ≡ pair user proof
unfolding pair
same_pair allowance user proof e =
    let parts = and_parts (bytes_eq allowance.user user) (is_proof allowance.proof proof) e in
    let name = (bytes_eq-Decides allowance.user user).0 parts.0 in
    let proves = same_proof allowance.proof proof parts.1 in
    ap (λ u. pair u allowance.proof) name ∙ ap (pair user) proves

pub allowed_is : (allowed : List AllowedData) (user : List ℕ) (proof : ProofData)
    → (list_any (λ allowance. accepts allowance user proof) allowed ≡ true) ↔ Contains allowed (record { user = user; proof = proof })
unfolding pair
allowed_is allowed user proof =
    any_is (λ allowance. accepts allowance user proof) (pair user proof) (λ allowance e. same_pair allowance user proof e)
    (and_from _ _ (own_bytes user) (own_proof_data proof)) allowed

pub distrusted_is : (names : List (List ℕ)) (algorithm : List ℕ) → (list_any (λ name. bytes_eq name algorithm) names ≡ true) ↔ Contains names algorithm
distrusted_is names algorithm =
    any_is (λ name. bytes_eq name algorithm) algorithm (λ name e. (bytes_eq-Decides name algorithm).0 e) (own_bytes algorithm) names

pub denied_is : (numbers : List ℕ) (number : ℕ) → (list_any (λ denied. denied == number) numbers ≡ true) ↔ Contains numbers number
denied_is numbers number = any_is (λ denied. denied == number) number (λ denied e. eqb-true denied number e) (eq-eqb number number refl) numbers

-- the decisions, read
not_is : (b : Bool) (P : Type 0) → (b ≡ true) ↔ P → (not b ≡ false) ↔ P
not_is true P is = (λ e. is.0 refl, λ p. refl)
not_is false P is = (λ e. is.0 (sym e), λ p. sym (is.1 p))

both_is : (b d : Bool) (P Q : Type 0) → (b ≡ true) ↔ P → (d ≡ true) ↔ Q → ((b && not d) ≡ true) ↔ (P × (Q → ⊥))
both_is true true P Q is denies = (λ e. cc, λ h. absurd (h.1 (denies.0 refl)))
both_is true false P Q is denies = (λ e. (is.0 refl, λ q. let e = denies.1 q in cc), λ h. refl)
both_is false d P Q is denies = (λ e. cc, λ h. is.1 h.0)

pub distrusts : (rules : LabDecisionsData) (algorithm blob : List ℕ) → ((lab_policy rules).host_key algorithm blob ≡ false) ↔ Contains rules.distrusted algorithm
unfolding lab_policy
distrusts rules algorithm blob = not_is _ _ (distrusted_is rules.distrusted algorithm)

pub admits : (rules : LabDecisionsData) (number : ℕ) (user service : List ℕ) (proof : ProofData)
    → ((lab_policy rules).user number user service proof ≡ true)
    ↔ (Contains rules.allowed (record { user = user; proof = proof }) × (Contains rules.denied number → ⊥))
unfolding lab_policy
admits rules number user service proof = both_is _ _ _ _ (allowed_is rules.allowed user proof) (denied_is rules.denied number)
