-- The bytes that an endpoint received decide what it has sent and how it ends.

use Rattle.std.proofs.Common.{◌≡◌, ℕ, List, [], ◌∷◌, ◌++◌, Option, refl, sym, ap, ◌∙◌, subst}
use Rattle.sshpacket.specs.Parse.{Refusal}
use Rattle.sshpacket.specs.Places.{flat_places}
use Rattle.sshpacket.specs.Stream.{Same, Units}
use Rattle.sshpacket.proofs.Places.{each-last}
use Rattle.sshcore.specs.Directions.{spells}
use Rattle.sshcore.specs.EndData.{EndData, Open}
use Rattle.sshcore.specs.History.{History, IsOneHistory}
use Rattle.sshcore.specs.EndpointParts.{Setup}
use Rattle.sshcore.specs.Replies.{Ends, StaysOpen, answers_at, end_at, ended, goes_on, refusal_reply}
use Rattle.sshcore.specs.Work.{making}

last_same : (b c : Units) (x y : List ℕ) → b ++ x ∷ [] ≡ c ++ y ∷ [] → (b ≡ c) × (x ≡ y)
last_same [] [] x y e = (refl, cc)
last_same [] (c ∷ []) x y e = absurd cc
last_same [] (c ∷ d ∷ ds) x y e = absurd cc
last_same (b ∷ []) [] x y e = absurd cc
last_same (b ∷ c ∷ cs) [] x y e = absurd cc
last_same (b ∷ bs) (c ∷ cs) x y e = let t = last_same bs cs x y cc in (let first : b ≡ c = cc in let after : bs ≡ cs = t.0 in cc, t.1)

module _ (setup : Setup) where
  -- where an endpoint stays open, its last unit leaves it open
  pub last_open : (units before : Units) (last : List ℕ) → units ≡ before ++ last ∷ [] → StaysOpen setup units → end_at setup before last ≡ Open
  last_open units before last is stays =
      each-last (λ b u. end_at setup b u ≡ Open) [] before last (subst (StaysOpen setup) is stays)

  same_end : (units : Units) (refusal : Option Refusal) (x y : EndData) → Ends setup units refusal x → Ends setup units refusal y → x ≡ y
  same_end units refusal x y (goes_on a e) (goes_on b f) = e ∙ sym f
  same_end units refusal x y (goes_on a e) (ended before last is stays f shut none) = absurd (shut (f ∙ last_open units before last is a))
  same_end units refusal x y (ended before last is stays e shut none) (goes_on b f) = absurd (shut (e ∙ last_open units before last is b))
  same_end units refusal x y (ended before last is stays e shut none) (ended other end is_too stays_too f shut_too none_too) =
      let t = last_same before other last end (sym is ∙ is_too) in
      e ∙ ap (λ (b : Units). end_at setup b last) t.0 ∙ ap (λ (u : List ℕ). end_at setup other u) t.1 ∙ sym f

  pub one_by : (units other_units : Units) (refusal other_refusal : Option Refusal) (sizes other_sizes rest other_rest : List ℕ) (answers other_answers : Units) (end other_end : EndData) (h s t : List ℕ)
      → Same units other_units rest other_rest refusal other_refusal
      → History setup units sizes rest refusal answers end h s → History setup other_units other_sizes other_rest other_refusal other_answers other_end h t
      → IsOneHistory units other_units rest other_rest refusal other_refusal answers other_answers end other_end s t
  one_by units other_units refusal other_refusal sizes other_sizes rest other_rest answers other_answers end other_end h s t same a b =
      let replied : answers ≡ other_answers =
      a.replies.in_order
      ∙ ap (λ (us : Units). making setup.suite setup.role setup.config ++ (flat_places (answers_at setup) [] us ++ (refusal_reply refusal).answers)) same.same_units
      ∙ ap (λ (r : Option Refusal). making setup.suite setup.role setup.config ++ (flat_places (answers_at setup) [] other_units ++ (refusal_reply r).answers)) same.same_refusal
      ∙ sym b.replies.in_order in
      record {
        same_units = same.same_units;
        same_rest = same.same_rest;
        same_refusal = same.same_refusal;
        same_answers = replied;
        same_end = same_end other_units other_refusal end other_end
            (subst (λ (r : Option Refusal). Ends setup other_units r end) same.same_refusal (subst (λ (us : Units). Ends setup us refusal end) same.same_units a.replies.ends))
            b.replies.ends;
        same_sent = a.sent.spelled
            ∙ ap (λ (us : Units). flat_places (spells setup.suite setup.role setup.config us) [] (setup.config.version ∷ answers)) same.same_units
            ∙ ap (λ (l : Units). flat_places (spells setup.suite setup.role setup.config other_units) [] (setup.config.version ∷ l)) replied
            ∙ sym b.sent.spelled;
      }
