-- What an endpoint had sent and where it stood when it had received some of its units.

use Rattle.std.proofs.Common.{◌≡◌, inl, inr, ℕ, ◌<◌, true, List, [], ◌∷◌, ◌++◌, length, Option, None, refl, sym, ap, subst, ◌∙◌, append_assoc, append-nil, length-append, arith}
use Rattle.std.proofs.lemmas.Bool.{cases_Bool, true≢false}
use Rattle.sshpacket.specs.Parse.{Refusal}
use Rattle.sshpacket.specs.Places.{EachPlace, IsPrefix, flat_places}
use Rattle.sshpacket.specs.Stream.{Sent, Units}
use Rattle.sshpacket.proofs.Places.{each-prefix, each-push, flat-append}
use Rattle.sshcore.specs.declared.phase_table.Phase.TheVariants as phase
use Rattle.sshcore.specs.Counting.{switched_out}
use Rattle.sshcore.specs.Directions.{payloads_in, spells}
use Rattle.sshcore.specs.EndData.{EndData, Open}
use Rattle.sshcore.specs.History.{IsReady}
use Rattle.sshcore.specs.EndpointParts.{Setup}
use Rattle.sshcore.specs.Replies.{Ends, Replies, StaysOpen, answers_at, end_at, ended, goes_on, refusal_reply}
use Rattle.sshcore.specs.Work.{making}
use Rattle.sshcore.proofs.LawsBelow.{Below}
use Rattle.sshcore.proofs.KeyedLemmas.{keyed, still_making}
use Rattle.sshcore.proofs.StreamLemmas.{ready_more, sent_stays, switched_append}
use Rattle.sshcore.proofs.StrictLaws.{begun_none, stands}
use Rattle.sshworld.proofs.PartLemmas.{prefix_shorter}

nothing_switched : switched_out [] ≡ true → ⊥
unfolding switched_out
nothing_switched on = true≢false (sym on)

module _ (setup : Setup) where
  abbrev pub sent_so : Units → Units
  sent_so us = making setup.suite setup.role setup.config ++ flat_places (answers_at setup) [] us

  abbrev pub open_at : Units → List ℕ → Type 0
  open_at before unit = end_at setup before unit ≡ Open

  -- it stood open before the last of its units, and had replied to what it had received
  pub stays_so : (units us more : Units) (refusal : Option Refusal) (end : EndData) → units ≡ us ++ more → length us < length units → Ends setup units refusal end → StaysOpen setup us
  stays_so units us more refusal end e less (goes_on stays is) = each-prefix open_at [] us more (subst (λ (l : Units). EachPlace open_at [] l) e stays)
  stays_so units us more refusal end e less (ended before last are stays is shut none) =
      let f : IsPrefix us before = prefix_shorter us before more (last ∷ []) (sym e ∙ are) (omega (arith, less, ap length are, length-append before (last ∷ []))) in
      each-prefix open_at [] us f.rest (subst (λ (l : Units). EachPlace open_at [] l) f.whole_is stays)

  pub replies_so : (us : Units) → StaysOpen setup us → Replies setup us None (sent_so us) Open
  replies_so us stays = record {
    in_order = ap (λ (l : Units). making setup.suite setup.role setup.config ++ l) (sym (append-nil (flat_places (answers_at setup) [] us)));
    ends = goes_on stays refl;
  }

  -- what it had sent is a prefix of all that it sent, in payloads and in bytes
  pub sent_more : (units us more answers : Units) (refusal : Option Refusal) (end : EndData) → units ≡ us ++ more → Replies setup units refusal answers end → IsPrefix (sent_so us) answers
  sent_more units us more answers refusal end e r =
      let first : Units = flat_places (answers_at setup) [] us in
      let later : Units = flat_places (answers_at setup) us more in
      let last : Units = (refusal_reply refusal).answers in
      record {
        rest = later ++ last;
        whole_is = r.in_order
            ∙ ap (λ (l : Units). making setup.suite setup.role setup.config ++ (flat_places (answers_at setup) [] l ++ last)) e
            ∙ ap (λ (l : Units). making setup.suite setup.role setup.config ++ (l ++ last)) (flat-append (answers_at setup) [] us more)
            ∙ ap (λ (l : Units). making setup.suite setup.role setup.config ++ l) (append_assoc first later last)
            ∙ sym (append_assoc (making setup.suite setup.role setup.config) first (later ++ last));
      }

  pub bytes_so : (units us more answers : Units) (s : List ℕ) → units ≡ us ++ more → IsPrefix (sent_so us) answers → (switched_out (sent_so us) ≡ true → IsReady setup.role setup.config (payloads_in us))
      → Sent (spells setup.suite setup.role setup.config units) s (setup.config.version ∷ answers) → IsPrefix (flat_places (spells setup.suite setup.role setup.config us) [] (setup.config.version ∷ sent_so us)) s
  bytes_so units us more answers s e f ready sent =
      let now : List ℕ = flat_places (spells setup.suite setup.role setup.config us) [] (setup.config.version ∷ sent_so us) in
      let still : Sent (spells setup.suite setup.role setup.config (us ++ more)) now (setup.config.version ∷ sent_so us) = sent_stays setup.suite setup.role setup.config us more (sent_so us) now ready (record { spelled = refl }) in
      let later : List ℕ = flat_places (spells setup.suite setup.role setup.config (us ++ more)) (setup.config.version ∷ sent_so us) f.rest in
      record {
        rest = later;
        whole_is = sent.spelled
            ∙ ap (λ (l : Units). flat_places (spells setup.suite setup.role setup.config l) [] (setup.config.version ∷ answers)) e
            ∙ ap (λ (l : Units). flat_places (spells setup.suite setup.role setup.config (us ++ more)) [] (setup.config.version ∷ l)) f.whole_is
            ∙ flat-append (spells setup.suite setup.role setup.config (us ++ more)) [] (setup.config.version ∷ sent_so us) f.rest
            ∙ ap (λ (b : List ℕ). b ++ later) (sym still.spelled);
      }

  module _ (below : Below) where
    -- NEWKEYS was sent only where the exchange was received
    ready_from : (version : List ℕ) (before us : Units) → StaysOpen setup (version ∷ before) → EachPlace open_at (version ∷ before) us
        → switched_out (flat_places (answers_at setup) (version ∷ before) us) ≡ true → IsReady setup.role setup.config (before ++ us)
    ready_from version before [] stays each on = absurd (nothing_switched on)
    ready_from version before (u ∷ us) stays each on =
        subst (λ (l : Units). IsReady setup.role setup.config l) (append_assoc before (u ∷ []) us) (elim (cases_Bool (switched_out (answers_at setup (version ∷ before) u))) [
          | inl here ↦
              let f = stands below setup version [] before phase.KexInit (begun_none below setup) stays.1 in
              ready_more setup.role setup.config (before ++ u ∷ []) us (keyed below setup version before u f.0 f.1.tied here)
          | inr off ↦ ready_from version (before ++ u ∷ []) us (each-push open_at [] (version ∷ before) u stays each.0) each.1
              (sym (switched_append (answers_at setup (version ∷ before) u) (flat_places (answers_at setup) (version ∷ (before ++ u ∷ [])) us) ∙ rw off refl) ∙ on)
        ])

    pub ready_so : (us : Units) → StaysOpen setup us → switched_out (sent_so us) ≡ true → IsReady setup.role setup.config (payloads_in us)
    ready_so us stays on = by us stays (sym (switched_append (making setup.suite setup.role setup.config) (flat_places (answers_at setup) [] us) ∙ rw (still_making setup.suite setup.role setup.config) refl) ∙ on)
      where
        by : (us : Units) → StaysOpen setup us → switched_out (flat_places (answers_at setup) [] us) ≡ true → IsReady setup.role setup.config (payloads_in us)
        by [] stays on = absurd (nothing_switched on)
        by (version ∷ us) stays on = ready_from version [] us (stays.0, tt) stays.1 on
