-- The strict clause of an endpoint, from how it ends.

use Rattle.std.proofs.Common.{◌≡◌, inl, inr, ℕ, true, List, [], ◌∷◌, ◌++◌, Option, sym, ap, ◌∙◌, subst}
use Rattle.sshmsg.specs.Numbers.{message_number}
use Rattle.sshpacket.specs.Parse.{Refusal}
use Rattle.sshpacket.specs.Stream.{Units}
use Rattle.sshpacket.proofs.Places.{each-after, each-prefix}
use Rattle.sshcore.specs.declared.phase_table.Phase.TheVariants as phase
use Rattle.sshcore.specs.Before.{strict_at}
use Rattle.sshcore.specs.Directions.{payloads_in}
use Rattle.sshcore.specs.EndData.{EndData, Open}
use Rattle.sshcore.specs.EndpointParts.{Setup}
use Rattle.sshcore.specs.Phases.{past_newkeys, phase_at}
use Rattle.sshcore.specs.Replies.{Ends, StaysOpen, end_at, ended, goes_on}
use Rattle.sshcore.specs.StrictClause.{KeepsStrict}
use Rattle.sshcore.specs.StrictSequence.{BeginsStrictly, Conforms, EndsStrictly}
use Rattle.sshcore.proofs.LawsBelow.{Below}
use Rattle.sshcore.proofs.StrictLaws.{begun_none, cut, deviates, not_open, past, past_open, stands}

module _ (below : Below) (setup : Setup) where
  abbrev IsPast : Units → Type 0
  IsPast payloads = past_newkeys (phase_at setup.role setup.config.offer payloads) ≡ true

  abbrev IsStrictNow : Units → Type 0
  IsStrictNow payloads = strict_at setup.role setup.config payloads ≡ true

  open_past : (units : Units) → StaysOpen setup units → IsStrictNow (payloads_in units) → IsPast (payloads_in units) → BeginsStrictly setup.role setup.config.offer (payloads_in units)
  open_past [] stays s h = past_open setup.role setup.config [] phase.KexInit (begun_none below setup) s h
  open_past (version ∷ before) stays s h =
      let f = stands below setup version [] before phase.KexInit (begun_none below setup) stays.1 in
      past_open setup.role setup.config before f.0 f.1 s h

  last_past : (before : Units) (last : List ℕ) → StaysOpen setup before → IsStrictNow (payloads_in (before ++ last ∷ [])) → IsPast (payloads_in (before ++ last ∷ []))
      → BeginsStrictly setup.role setup.config.offer (payloads_in (before ++ last ∷ []))
  last_past [] last stays s h = past_open setup.role setup.config [] phase.KexInit (begun_none below setup) s h
  last_past (version ∷ before) last stays s h =
      let f = stands below setup version [] before phase.KexInit (begun_none below setup) stays.1 in
      past setup.role setup.config before last f.0 f.1 s h

  deviating : (version : List ℕ) (before : Units) (payload : List ℕ) → StaysOpen setup (version ∷ before) → strict_at setup.role setup.config (before ++ payload ∷ []) ≡ true
      → (Conforms setup.role setup.config.offer (before ++ payload ∷ []) → ⊥) → EndsStrictly (message_number payload) (end_at setup (version ∷ before) payload)
  deviating version before payload stays s not =
      let f = stands below setup version [] before phase.KexInit (begun_none below setup) stays.1 in
      deviates below setup version before payload f.0 f.1 s not

  -- no deviation stands where the endpoint stays open
  none_open : (version : List ℕ) (before : Units) (payload : List ℕ) (more : Units) → StaysOpen setup (version ∷ (before ++ payload ∷ more))
      → strict_at setup.role setup.config (before ++ payload ∷ []) ≡ true → (Conforms setup.role setup.config.offer (before ++ payload ∷ []) → ⊥) → ⊥
  none_open version before payload more stays s not =
      let Q = λ (b : Units) (u : List ℕ). end_at setup b u ≡ Open in
      let front : StaysOpen setup (version ∷ before) = each-prefix Q [] (version ∷ before) (payload ∷ more) stays in
      let here : end_at setup (version ∷ before) payload ≡ Open = (each-after Q [] (version ∷ before) (payload ∷ more) stays).0 in
      not_open (message_number payload) _ (deviating version before payload front s not) here

  pub keeps_strict : (units : Units) (refusal : Option Refusal) (end : EndData) → Ends setup units refusal end → KeepsStrict setup.role setup.config units end
  keeps_strict units refusal end (goes_on stays is) = record {
    sequence = open_past units stays;
    deviation = λ version before payload more units_are s not.
        absurd (none_open version before payload more (subst (StaysOpen setup) units_are stays) s not);
  }
  keeps_strict units refusal end (ended b last units_are stays is shut none) = record {
    sequence = subst (λ (l : Units). IsStrictNow (payloads_in l) → IsPast (payloads_in l) → BeginsStrictly setup.role setup.config.offer (payloads_in l)) (sym units_are) (last_past b last stays);
    deviation = λ version before payload more same s not. elim (cut b (version ∷ before) more last payload (sym units_are ∙ same)) [
      | inl t ↦ (
        subst (EndsStrictly (message_number payload))
            (sym (is ∙ (ap (λ (l : Units). end_at setup l last) t.1 ∙ ap (λ (p : List ℕ). end_at setup (version ∷ before) p) t.2)))
            (deviating version before payload (subst (StaysOpen setup) t.1 stays) s not),
        t.0,
      )
      | inr t ↦ absurd (none_open version before payload t.0 (subst (StaysOpen setup) t.1 stays) s not)
    ];
  }
