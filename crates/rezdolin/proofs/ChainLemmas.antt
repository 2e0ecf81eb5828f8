-- Calls that are chained.

use Rattle.std.proofs.Common.{◌≡◌, ◌≢◌, ◌∙◌, ℕ, List, [], ◌∷◌, ◌++◌, None, Some, append_assoc, ap, inl, inr, refl, subst, sym, take}
use Rattle.std.proofs.lemmas.List.{append-nil}
use Rattle.std.proofs.Math.Seq.{take-length}
use Rattle.sshcore.specs.EndData.{end_data}
use Rattle.sshcore.specs.EndpointParts.{DecisionsData}
use Rattle.sshcore.specs.Questions.{AnswerData, decided}
use Rattle.rezdolin.specs.declared.answers.TheConstants.{END_ASKS}
use Rattle.rezdolin.specs.declared.parts_of.Parts.{Parts}
use Rattle.rezdolin.specs.declared.steps.Came.{Came}
use Rattle.rezdolin.specs.Chains.{AreNext, Call, IsNext, IsTheirs, Replied, StandsAs, Stepped, all_sent, all_used, came_of, last_of, used_by}
use Rattle.rezdolin.specs.Endpoints.{AreAllowed, digest_of, setup_of}
use Rattle.rezdolin.specs.Steps.{Begins, IsAnswered, IsReply, StandsHere}
use Rattle.rezdolin.proofs.StepLemmas.{decisions_of, no_question, open_quiet}

module _ (parts : Parts) (d : DecisionsData) (allowed : AreAllowed parts d) where
  -- an endpoint that goes on stands by its record
  here : (h s : List ℕ) (before : Came) → StandsAs parts d h s before → before.record.items ≢ [] → StandsHere (digest_of parts) before.record.items (setup_of parts d) h s
  here h s before (inl stands) some = (stands.0, stands.1)
  here h s before (inr gone) some = absurd (some gone.0)

  -- and asks what it has told
  asking : (h s : List ℕ) (before : Came) (number : ℕ) (signature : List ℕ) (a : AnswerData) → StandsAs parts d h s before → before.end.end ≡ END_ASKS
      → IsTheirs d before.told.items number signature → IsReply number signature a → (setup_of parts d).decisions ≡ d
      → IsAnswered a (digest_of parts) before.record.items (setup_of parts d) h s
  asking h s before number signature a (inl (Some question, by, end_is, told_is)) asks theirs is same =
      (question, by, ap (λ (o : DecisionsData). decided o question) same ∙ theirs a is question told_is)
  asking h s before number signature a (inl (None, by, end_is, told_is)) asks theirs is same = absurd (open_quiet None before.end end_is refl asks)
  asking h s before number signature a (inr gone) asks theirs is same = absurd (no_question (end_data gone.1.state.end) before.end gone.1.end_is asks)

  -- one call more
  one_more : (h s : List ℕ) (before : Came) (call : Call) → StandsAs parts d h s before → before.record.items ≢ [] → IsNext parts d before call
      → StandsAs parts d (h ++ used_by call) (s ++ (came_of call).sent.items) (came_of call)
  one_more h s before (Stepped piece came) stands some (inl reads) = reads.3.1 d allowed h s (here h s before stands some)
  one_more h s before (Stepped piece came) stands some (inr holds) =
      let all : take came.used piece ≡ piece = ap (λ (n : ℕ). take n piece) holds.all ∙ take-length piece in
      let by = holds.stands parts d h s (here h s before stands some) in
      subst (λ (x : List ℕ). StandsAs parts d (h ++ x) (s ++ came.sent.items) came) (sym all)
      (subst (λ (x : List ℕ). StandsAs parts d (h ++ piece) (s ++ x) came) (sym holds.none_sent)
      (subst (λ (x : List ℕ). StandsAs parts d (h ++ piece) x came) (sym (append-nil s))
      (inl (None, by, holds.end_is, holds.none_told))))
  one_more h s before (Replied number signature came) stands some next =
      next.0.4.1 d allowed h s (asking h s before number signature next.0.0 stands next.1 next.2 next.0.1 (decisions_of parts d))

  all_more : (calls : List Call) (before : Came) (h s : List ℕ) → StandsAs parts d h s before → AreNext parts d before calls
      → StandsAs parts d (h ++ all_used calls) (s ++ all_sent calls) (last_of before calls)
  all_more [] before h s stands next =
      subst (λ (x : List ℕ). StandsAs parts d x (s ++ []) before) (sym (append-nil h)) (subst (λ (x : List ℕ). StandsAs parts d h x before) (sym (append-nil s)) stands)
  all_more (call ∷ calls) before h s stands next =
      subst (λ (x : List ℕ). StandsAs parts d x (s ++ ((came_of call).sent.items ++ all_sent calls)) (last_of (came_of call) calls)) (append_assoc h (used_by call) (all_used calls))
      (subst (λ (x : List ℕ). StandsAs parts d ((h ++ used_by call) ++ all_used calls) x (last_of (came_of call) calls)) (append_assoc s (came_of call).sent.items (all_sent calls))
      (all_more calls (came_of call) (h ++ used_by call) (s ++ (came_of call).sent.items) (one_more h s before call stands next.0 next.1) next.2))

  pub chained_so : (first : Came) (calls : List Call) → Begins parts first → AreNext parts d first calls
      → StandsAs parts d (all_used calls) (first.sent.items ++ all_sent calls) (last_of first calls)
  chained_so first calls begins next = all_more calls first [] first.sent.items (begins.1.1 d allowed [] [] (refl, refl)) next
