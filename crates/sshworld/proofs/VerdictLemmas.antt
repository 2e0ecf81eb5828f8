-- The verdict as a function is the one that the places have.

use Rattle.std.proofs.Common.{◌≡◌, ℕ, ◌+◌, List, [], ◌∷◌, ◌++◌, length, Option, None, Some, refl, sym, ap, subst, ◌∙◌, append_assoc, append-nil}
use Rattle.std.specs.Prelude.{◌↔◌}
use Rattle.sshpacket.specs.Places.{EachPlace}
use Rattle.sshpacket.specs.Suite.{SuiteData}
use Rattle.sshpacket.proofs.Places.{each-push}
use Rattle.sshcore.specs.ConfigParts.{ClientData, ServerData}
use Rattle.sshcore.specs.EndpointParts.{DecisionsData}
use Rattle.sshworld.specs.Offered.{offered}
use Rattle.sshworld.specs.VerdictLaw.{AtNone, AtOne, IsVerdict, NoneEnds}
use Rattle.sshworld.specs.Verdicts.{Exhausted, How, Verdict, ends_by, verdict, verdict_after, verdict_here}

module _ {R : Type 0} (ends : List R → R → Option How) where
  -- what is left has a verdict, after requests none of which ends them
  is_after : (made later : List R) → NoneEnds ends made → IsVerdict ends (made ++ later) (verdict_after ends made later)
  is_after made [] none = subst (λ (q : List R). IsVerdict ends q (record { requests = length made; how = Exhausted })) (sym (append-nil made))
      (AtNone (record { number = refl; none = none; how = refl }))
  is_after made (r ∷ later) none = here (ends made r) refl (λ e. is_after (made ++ r ∷ []) later (each-push (λ b x. ends b x ≡ None) [] made r none e))
    where
      here : (o : Option How) → ends made r ≡ o → (ends made r ≡ None → IsVerdict ends ((made ++ r ∷ []) ++ later) (verdict_after ends (made ++ r ∷ []) later))
          → IsVerdict ends (made ++ r ∷ later) (verdict_here made o (verdict_after ends (made ++ r ∷ []) later))
      here (Some how) e next = AtOne (record { before = made; last = r; later = later; parts = refl; number = refl; none_before = none; how = e })
      here None e next = subst (λ (q : List R). IsVerdict ends q (verdict_after ends (made ++ r ∷ []) later)) (append_assoc made (r ∷ []) later) (next e)

  pub is_verdict : (requests : List R) → IsVerdict ends requests (verdict_after ends [] requests)
  is_verdict requests = is_after [] requests tt

  -- requests that end nothing are passed
  passes : (made before later : List R) → EachPlace (λ b r. ends b r ≡ None) made before → verdict_after ends made (before ++ later) ≡ verdict_after ends (made ++ before) later
  passes made [] later none = ap (λ (q : List R). verdict_after ends q later) (sym (append-nil made))
  passes made (r ∷ before) later (here, none) =
      ap (λ o. verdict_here made o (verdict_after ends (made ++ r ∷ []) (before ++ later))) here
      ∙ (passes (made ++ r ∷ []) before later none ∙ ap (λ (q : List R). verdict_after ends q later) (append_assoc made (r ∷ []) before))

  same : (v : Verdict) (n : ℕ) (h : How) → v.requests ≡ n → v.how ≡ h → v ≡ record { requests = n; how = h }
  same v n h a b = ap (λ q. record { requests = q; how = v.how }) a ∙ ap (λ q. record { requests = n; how = q }) b

  pub only : (requests : List R) (v : Verdict) → IsVerdict ends requests v → v ≡ verdict_after ends [] requests
  only requests v (AtOne e) =
      same v (length e.before + 1) v.how e.number refl
      ∙ sym (ap (λ q. verdict_after ends [] q) e.parts ∙ (passes [] e.before (e.last ∷ e.later) e.none_before ∙ ap (λ o. verdict_here e.before o (verdict_after ends (e.before ++ e.last ∷ []) e.later)) e.how))
  only requests v (AtNone e) =
      same v (length requests) Exhausted e.number e.how
      ∙ sym (ap (λ q. verdict_after ends [] q) (sym (append-nil requests)) ∙ passes [] requests [] e.none)

-- of what a client offers to a server
pub offered_verdict : (m : SuiteData) (d : DecisionsData) (c : ClientData) (s : ServerData) (v : Verdict) → IsVerdict (ends_by m d s) (offered m d s c.plan) v ↔ (v ≡ verdict m d c s)
unfolding verdict
offered_verdict m d c s v = (
  only (ends_by m d s) (offered m d s c.plan) v,
  λ e. subst (λ (w : Verdict). IsVerdict (ends_by m d s) (offered m d s c.plan) w) (sym e) (is_verdict (ends_by m d s) (offered m d s c.plan)),
)
