-- The requests of a plan, one attempt at a time.

use Rattle.std.proofs.Common.{◌≡◌, ◌∙◌, ℕ, ◌≤◌, Bool, true, false, List, [], ◌∷◌, ◌++◌, length, map, inl, inr, ◌⊎◌, if◌then◌else◌, Option, None, Some, refl, sym, ap, arith, append_assoc, append-nil}
use Rattle.std.specs.List.{list_any}
use Rattle.std.proofs.lemmas.List.{length-map}
use Rattle.sshneg.specs.ChoiceReadings.{is_in}
use Rattle.sshpacket.specs.Suite.{SuiteData}
use Rattle.sshcore.specs.declared.config_fault.ConfigFault.TheVariants as fault
use Rattle.sshcore.specs.declared.config_parts.Attempt as attempt_parts
use Rattle.sshcore.specs.declared.config_parts.ClientParts.{ClientParts}
use Rattle.sshcore.specs.ConfigParts.{AttemptData, ClientData, ServerData}
use Rattle.sshcore.specs.ConfigRules.{IsClient}
use Rattle.sshcore.specs.ConfigView.{attempt_data, client_data}
use Rattle.sshcore.specs.EndpointParts.{DecisionsData}
use Rattle.sshcore.specs.Plan.{proving_name}
use Rattle.sshworld.specs.Offered.{is_made, offered_after, requests_for}
use Rattle.sshworld.specs.JudgedView.{IsSoFar, ends_among, first_end}
use Rattle.sshworld.specs.Verdicts.{How, Verdict, ends_by, verdict, verdict_after, verdict_here}
use Rattle.sshworld.specs.declared.progress.Progress.{Progress}

-- a test of a list is that of what it is a view of
pub any_map : {X : Type 0} (view : X → List ℕ) (test : List ℕ → Bool) (xs : List X) → list_any (λ x. test (view x)) xs ≡ list_any test (map view xs)
any_map view test [] = refl
any_map view test (x ∷ xs) = rw (any_map view test xs) refl

-- an accepted plan has few attempts
pub few_attempts : (parts : ClientParts) (client : ClientData) (plan : List attempt_parts.Attempt) → client_data parts ≡ client → IsClient client
    → plan ≡ parts.plan.items → length plan ≤ 64
few_attempts parts client plan same is at =
    let held : map attempt_data plan ≡ client.plan = ap (map attempt_data) at ∙ ap (λ (c : ClientData). c.plan) same in
    let few : length (map attempt_data plan) ≤ 64 = rw held (is.keeps fault.Plan) in
    let same_length : length (map attempt_data plan) ≡ length plan = length-map plan attempt_data in
    omega arith

module _ {R : Type 0} (ends : List R → R → Option How) where
  -- requests none of which ends those before it are passed
  pub among_none : (made xs later : List R) → ends_among ends made xs ≡ None → verdict_after ends made (xs ++ later) ≡ verdict_after ends (made ++ xs) later
  among_none made [] later none = ap (λ (q : List R). verdict_after ends q later) (sym (append-nil made))
  among_none made (x ∷ xs) later none = by (ends made x) refl none (among_none (made ++ x ∷ []) xs later)
    where
      by : (o : Option How) → ends made x ≡ o → first_end o (ends_among ends (made ++ x ∷ []) xs) ≡ None
          → (ends_among ends (made ++ x ∷ []) xs ≡ None → verdict_after ends (made ++ x ∷ []) (xs ++ later) ≡ verdict_after ends ((made ++ x ∷ []) ++ xs) later)
          → verdict_after ends made ((x ∷ xs) ++ later) ≡ verdict_after ends (made ++ x ∷ xs) later
      by (Some how) e some more = absurd (cc (some))
      by None e rest more =
          ap (λ o. verdict_here made o (verdict_after ends (made ++ x ∷ []) (xs ++ later))) e
          ∙ (more rest ∙ ap (λ (q : List R). verdict_after ends q later) (append_assoc made (x ∷ []) xs))

  -- the first one that does gives the verdict
  pub among_some : (made xs later : List R) (how : How) → ends_among ends made xs ≡ Some how → (verdict_after ends made (xs ++ later)).how ≡ how
  among_some made [] later how none = absurd (cc (none))
  among_some made (x ∷ xs) later how some = by (ends made x) refl some (among_some (made ++ x ∷ []) xs later how)
    where
      by : (o : Option How) → ends made x ≡ o → first_end o (ends_among ends (made ++ x ∷ []) xs) ≡ Some how
          → (ends_among ends (made ++ x ∷ []) xs ≡ Some how → (verdict_after ends (made ++ x ∷ []) (xs ++ later)).how ≡ how)
          → (verdict_after ends made ((x ∷ xs) ++ later)).how ≡ how
      by (Some first) e same more = ap (λ o. (verdict_here made o (verdict_after ends (made ++ x ∷ []) (xs ++ later))).how) e ∙ (let q : first ≡ how = cc (same) in q)
      by None e rest more = ap (λ o. (verdict_here made o (verdict_after ends (made ++ x ∷ []) (xs ++ later))).how) e ∙ more rest

module _ (m : SuiteData) (d : DecisionsData) (s : ServerData) where
  -- the verdict on what is left of a plan, after the requests made
  abbrev pub verdict_left : List AttemptData → List AttemptData → Verdict
  verdict_left made plan = verdict_after (ends_by m d s) made (offered_after m d s made plan)

  -- these requests were made, and what is left of the plan has the verdict of the whole
  pub record Left (whole : Verdict) (p : Progress) (plan : List AttemptData) : Type 0 where
    pub made : List AttemptData
    pub so_far : IsSoFar m d s made p
    pub same : whole ≡ verdict_left made plan

  -- with one attempt more
  module _ (whole : Verdict) (p : Progress) (x : AttemptData) (plan : List AttemptData) (l : Left whole p (x ∷ plan)) where
    abbrev requests : List AttemptData
    requests = requests_for m d s l.made x

    -- it isn't made
    pub left_skipped : (p.requests ≡ 0 → ⊥) → is_in s.methods (proving_name x.proving) ≡ false → Left whole p plan
    left_skipped some unlisted = record {
      made = l.made;
      so_far = l.so_far;
      same = l.same ∙ ap (λ (b : Bool). verdict_after (ends_by m d s) l.made (if b then requests ++ offered_after m d s (l.made ++ requests) plan else offered_after m d s l.made plan)) (by l.made l.so_far.counted);
    }
      where
        by : (made : List AttemptData) → p.requests ≡ length made → is_made s.methods made x ≡ false
        by [] none = absurd (some none)
        by (b ∷ made) counted = unlisted

    -- it is made
    module _ (is : (p.requests ≡ 0) ⊎ (is_in s.methods (proving_name x.proving) ≡ true)) where
      offered_now : offered_after m d s l.made (x ∷ plan) ≡ requests ++ offered_after m d s (l.made ++ requests) plan
      offered_now = ap (λ (b : Bool). if b then requests ++ offered_after m d s (l.made ++ requests) plan else offered_after m d s l.made plan) (by l.made l.so_far.counted is)
        where
          by : (made : List AttemptData) → p.requests ≡ length made → (p.requests ≡ 0) ⊎ (is_in s.methods (proving_name x.proving) ≡ true) → is_made s.methods made x ≡ true
          by [] counted _ = refl
          by (b ∷ made) counted (inl none) = absurd (omega (arith, counted, none))
          by (b ∷ made) counted (inr listed) = listed

      pub left_made : (q : Progress) → None ≡ ends_among (ends_by m d s) l.made requests → IsSoFar m d s (l.made ++ requests) q → Left whole q plan
      left_made q none so_far = record {
        made = l.made ++ requests;
        so_far = so_far;
        same = l.same ∙ (ap (verdict_after (ends_by m d s) l.made) offered_now ∙ among_none (ends_by m d s) l.made requests (offered_after m d s (l.made ++ requests) plan) (sym none));
      }

      pub left_ended : (how : How) → Some how ≡ ends_among (ends_by m d s) l.made requests → how ≡ whole.how
      left_ended how some =
          sym (ap (λ (v : Verdict). v.how) (l.same ∙ ap (verdict_after (ends_by m d s) l.made) offered_now)
          ∙ among_some (ends_by m d s) l.made requests (offered_after m d s (l.made ++ requests) plan) how (sym some))

-- before any request
pub left_begins : (m : SuiteData) (d : DecisionsData) (c : ClientData) (s : ServerData) (p : Progress) (plan : List AttemptData) → plan ≡ c.plan → IsSoFar m d s [] p
    → Left m d s (verdict m d c s) p plan
unfolding verdict
left_begins m d c s p plan same so_far = record { made = []; so_far = so_far; same = rw same refl }
