-- Whatever a caller answered, some decisions give all its answers, and under them the endpoint stands as after what it was given.

use Rattle.std.proofs.Common.{◌≡◌, ◌≢◌, ℕ, List, [], ◌∷◌, ◌++◌, Option, None, Some, refl, sym, ap, ◌∙◌, subst, append_assoc}
use Rattle.std.specs.List.{AllByRecursion}
use Rattle.std.proofs.lemmas.List.{append-nil}
use Rattle.sshpacket.specs.Stream.{Units}
use Rattle.sshpacket.specs.Suite.{SuiteData}
use Rattle.sshcore.specs.declared.end.Fault.TheVariants as fault
use Rattle.sshcore.specs.AskedQuestions.{AnsweredData, ComesLater, GiveAll, IsAskedOnce, IsTaken}
use Rattle.sshcore.specs.Asking.{Answered, AskingAfter, AskingFed, IsSameAsking, asked_at, asked_by, asking_end}
use Rattle.sshcore.specs.AskingData.{AskingData, WaitingData, asking_setup}
use Rattle.sshcore.specs.Dialogue.{Answers, AsksByPacket, Cuts, Dialogue, Feeds, IsRested, Leaves, Makes, Rests}
use Rattle.sshcore.specs.EndData.{Disconnected, EndData, Failed, Open}
use Rattle.sshcore.specs.EndpointParts.{DecisionsData, Setup}
use Rattle.sshcore.specs.Questions.{AnswerData, HostKeyQuestion, QuestionData, SignatureQuestion, UserQuestion, decided, decided_by, taken}
use Rattle.sshcore.proofs.AnsweredLemmas.{Rises, asked_once, questions_of, some_decisions}
use Rattle.sshcore.proofs.AskedOnceLemmas.{Numbered}
use Rattle.sshcore.proofs.AskedNothing.{asked_none}
use Rattle.sshcore.proofs.AskingLawLemmas.{WaitsAfter, asked_so, asks_later, setup_same, waits_here}
use Rattle.sshcore.proofs.HistoryLemmas.{Streams}

-- one answer more
all_push : (P : AnsweredData → Type 0) (xs : List AnsweredData) (a : AnsweredData) → AllByRecursion P xs → P a → AllByRecursion P (xs ++ a ∷ [])
all_push P [] a all p = (p, tt)
all_push P (x ∷ xs) a all p = (all.0, all_push P xs a all.1 p)

all_front : (P : AnsweredData → Type 0) (xs : List AnsweredData) (a : AnsweredData) → AllByRecursion P (xs ++ a ∷ []) → AllByRecursion P xs × P a
all_front P [] a all = (tt, all.0)
all_front P (x ∷ xs) a all = let rest = all_front P xs a all.1 in ((all.0, rest.0), rest.1)

all_weaker : (P Q : AnsweredData → Type 0) → ((a : AnsweredData) → P a → Q a) → (xs : List AnsweredData) → AllByRecursion P xs → AllByRecursion Q xs
all_weaker P Q f [] all = tt
all_weaker P Q f (x ∷ xs) all = (f x all.0, all_weaker P Q f xs all.1)

questions_push : (P : QuestionData → Type 0) (xs : List AnsweredData) (a : AnsweredData) → AllByRecursion P (questions_of xs) → P a.question → AllByRecursion P (questions_of (xs ++ a ∷ []))
questions_push P [] a all p = (p, tt)
questions_push P (x ∷ xs) a all p = (all.0, questions_push P xs a all.1 p)

rises_push : (xs : List AnsweredData) (a : AnsweredData) → Rises (questions_of xs) → AllByRecursion (λ (b : AnsweredData). ComesLater b.question a.question) xs → Rises (questions_of (xs ++ a ∷ []))
rises_push [] a r all = (tt, tt)
rises_push (x ∷ xs) a r all = (questions_push (ComesLater x.question) xs a r.0 all.0, rises_push xs a r.1 all.1)

-- what is taken for an answer is one
taken_twice : (q : QuestionData) (answer : AnswerData) → taken q (taken q answer) ≡ taken q answer
taken_twice (HostKeyQuestion algorithm blob) answer = refl
taken_twice (UserQuestion number user service proof signed) answer = refl
taken_twice (SignatureQuestion number algorithm blob input) answer = refl

abbrev GivesOne : DecisionsData → AnsweredData → Type 0
GivesOne d a = decided d a.question ≡ a.answer

longer : (more taken : List ℕ) → (taken ≡ [] → more ≢ []) → more ++ taken ≢ []
longer [] [] f e = f refl refl
longer [] (b ∷ taken) f e = absurd cc
longer (b ∷ more) taken f e = absurd cc

module _ {S : Type 0} (meaning : S → SuiteData) where
  asks_nothing : (e : AskingData S) → e.waiting ≡ None → (r : QuestionData) → asked_by e ≡ Some r → ⊥
  asks_nothing e none r is = let bad : ◌≡◌ {A = Option QuestionData} None (Some r) = sym (asked_none (asking_end e)) ∙ ap (asked_at (asking_end e)) (sym none) ∙ is in cc (bad)

  ended_nothing : (e : AskingData S) (end : EndData) → asking_end e ≡ end → asked_at end e.waiting ≡ None → (r : QuestionData) → asked_by e ≡ Some r → ⊥
  ended_nothing e end same none r is = let bad : ◌≡◌ {A = Option QuestionData} None (Some r) = sym none ∙ ap (λ (x : EndData). asked_at x e.waiting) (sym same) ∙ is in cc (bad)

  -- a question was asked before the last of these bytes, and if one is asked now, more came after it
  record WasAsked (d : DecisionsData) (e : AskingData S) (h : List ℕ) (q : QuestionData) : Type 0 where
    units : Units
    w : WaitingData
    front : List ℕ
    more : List ℕ
    is : w.question ≡ q
    received : h ≡ front ++ more
    waits : WaitsAfter (asking_setup meaning d e) units w front
    some : (r : QuestionData) → asked_by e ≡ Some r → more ≢ []

  -- what holds after a dialogue
  record Holds (e : AskingData S) (answers : List AnsweredData) (h s : List ℕ) : Type 0 where
    after : (d : DecisionsData) → GiveAll d answers → AskingAfter meaning d e h s
    all_asked : (d : DecisionsData) → GiveAll d answers → AllByRecursion (λ (a : AnsweredData). WasAsked d e h a.question) answers
    rises : Rises (questions_of answers)
    kinds : AllByRecursion IsTaken answers

  same_setup : (d : DecisionsData) (old new : AskingData S) → IsSameAsking old new → asking_setup meaning d old ≡ asking_setup meaning d new
  same_setup d old new same = sym (setup_same meaning d old.role new.role old.config new.config old.suite new.suite same.same_role same.same_config same.same_suite)

  -- another call
  asked_then : (d : DecisionsData) (old new : AskingData S) → IsSameAsking old new → (g taken : List ℕ) → ((more : List ℕ) → ((r : QuestionData) → asked_by old ≡ Some r → more ≢ []) → (r : QuestionData) → asked_by new ≡ Some r → more ++ taken ≢ [])
      → (q : QuestionData) → WasAsked d old g q → WasAsked d new (g ++ taken) q
  asked_then d old new same g taken f q b = record {
    units = b.units;
    w = b.w;
    front = b.front;
    more = b.more ++ taken;
    is = b.is;
    received = ap (λ (l : List ℕ). l ++ taken) b.received ∙ append_assoc b.front b.more taken;
    waits = subst (λ (x : Setup). WaitsAfter x b.units b.w b.front) (same_setup d old new same) b.waits;
    some = f b.more b.some;
  }

  holds_fed : (old new : AskingData S) (answers : List AnsweredData) (g t taken before after : List ℕ) → Holds old answers g t → (fed : AskingFed meaning old new taken before after)
      → (taken ≡ [] → asked_by new ≡ asked_by old) → Holds new answers (g ++ taken) (t ++ fed.added)
  holds_fed old new answers g t taken before after holds fed nothing = record {
    after = λ d gives. fed.follows d g t (holds.after d gives);
    all_asked = λ d gives. all_weaker (λ (a : AnsweredData). WasAsked d old g a.question) (λ (a : AnsweredData). WasAsked d new (g ++ taken) a.question)
        (λ a b. asked_then d old new fed.same g taken (λ more some r asks. longer more taken (λ none. some r (sym (nothing none) ∙ asks))) a.question b)
        answers (holds.all_asked d gives);
    rises = holds.rises;
    kinds = holds.kinds;
  }

  -- a pause, after which the same is asked
  holds_rested : (old new : AskingData S) (answers : List AnsweredData) (h t : List ℕ) → Holds old answers h t → IsRested meaning old new → Holds new answers h t
  holds_rested old new answers h t holds rested = record {
    after = λ d gives. rested.follows d h t (rested.pauses d h t (holds.after d gives));
    all_asked = λ d gives. all_weaker (λ (a : AnsweredData). WasAsked d old h a.question) (λ (a : AnsweredData). WasAsked d new h a.question)
        (λ a b. subst (λ (l : List ℕ). WasAsked d new l a.question) (append-nil h)
        (asked_then d old new same h [] (λ more some r asks. longer more [] (λ none. some r (sym (rested.asks ∙ rested.asked) ∙ asks))) a.question b))
        answers (holds.all_asked d gives);
    rises = holds.rises;
    kinds = holds.kinds;
  }
    where
      same : IsSameAsking old new
      same = record { same_role = rested.resumes.is_role; same_config = rested.resumes.is_config; same_suite = rested.resumes.is_suite }

  -- a call that used nothing, after which nothing is asked
  holds_quiet : (old new : AskingData S) (answers : List AnsweredData) (h t s : List ℕ) → Holds old answers h t → IsSameAsking old new
      → ((d : DecisionsData) → AskingAfter meaning d old h t → AskingAfter meaning d new h s) → ((r : QuestionData) → asked_by new ≡ Some r → ⊥) → Holds new answers h s
  holds_quiet old new answers h t s holds same follows none = record {
    after = λ d gives. follows d (holds.after d gives);
    all_asked = λ d gives. all_weaker (λ (a : AnsweredData). WasAsked d old h a.question) (λ (a : AnsweredData). WasAsked d new h a.question)
        (λ a b. subst (λ (l : List ℕ). WasAsked d new l a.question) (append-nil h) (asked_then d old new same h [] (λ more some r asks. absurd (none r asks)) a.question b))
        answers (holds.all_asked d gives);
    rises = holds.rises;
    kinds = holds.kinds;
  }

  module _ (streams : Streams) (numbers : Numbered) where
    -- what is asked now comes later than all that was answered
    comes_later : (old : AskingData S) (earlier : List AnsweredData) (h t : List ℕ) (q : QuestionData) → Holds old earlier h t → AsksByPacket meaning old → asked_by old ≡ Some q
        → AllByRecursion (λ (b : AnsweredData). ComesLater b.question q) earlier
    comes_later old earlier h t q holds packet asks = all_weaker (λ (a : AnsweredData). WasAsked d old h a.question) (λ (a : AnsweredData). ComesLater a.question q) by earlier (holds.all_asked d gives)
      where
        d : DecisionsData
        d = (some_decisions earlier (asked_once (questions_of earlier) holds.rises) holds.kinds).0

        gives : GiveAll d earlier
        gives = (some_decisions earlier (asked_once (questions_of earlier) holds.rises) holds.kinds).1

        x : (asking_end old ≡ Open) × (w : WaitingData) × (old.waiting ≡ Some w) × (w.question ≡ q)
        x = asked_so (asking_end old) old.waiting q asks

        here : WaitsAfter (asking_setup meaning d old) (holds.after d gives).stands.units x.1 h
        here = waits_here meaning d streams old packet h t (holds.after d gives) x.1 x.2 x.0

        by : (a : AnsweredData) → WasAsked d old h a.question → ComesLater a.question q
        by a b =
            subst (λ (z : QuestionData). ComesLater z q) b.is (subst (λ (z : QuestionData). ComesLater b.w.question z) x.3
            (asks_later streams (asking_setup meaning d old) numbers b.units (holds.after d gives).stands.units b.w x.1 b.front b.more (b.some q asks) b.waits
            (subst (λ (l : List ℕ). WaitsAfter (asking_setup meaning d old) (holds.after d gives).stands.units x.1 l) b.received here)))

    holds_answered : (old new : AskingData S) (earlier : List AnsweredData) (question : QuestionData) (answer : AnswerData) (h t before after : List ℕ) → Holds old earlier h t → AsksByPacket meaning old
        → asked_by old ≡ Some question → (answered : Answered meaning (taken question answer) old new before after)
        → Holds new (earlier ++ record { question = question; answer = taken question answer } ∷ []) h (t ++ answered.added)
    holds_answered old new earlier question answer h t before after holds packet asks answered = record {
      after = λ d gives. let parts = all_front (GivesOne d) earlier last gives in answered.follows d (ap (decided_by d) asks ∙ parts.1) h t (holds.after d parts.0);
      all_asked = λ d gives. let parts = all_front (GivesOne d) earlier last gives in
          all_push (λ (a : AnsweredData). WasAsked d new h a.question) earlier last
          (all_weaker (λ (a : AnsweredData). WasAsked d old h a.question) (λ (a : AnsweredData). WasAsked d new h a.question)
          (λ a b. subst (λ (l : List ℕ). WasAsked d new l a.question) (append-nil h) (asked_then d old new answered.same h [] (λ more some r is. absurd (none r is)) a.question b))
          earlier (holds.all_asked d parts.0))
          (now d (holds.after d parts.0));
      rises = rises_push earlier last holds.rises (comes_later old earlier h t question holds packet asks);
      kinds = all_push IsTaken earlier last holds.kinds (taken_twice question answer);
    }
      where
        last : AnsweredData
        last = record { question = question; answer = taken question answer }

        none : (r : QuestionData) → asked_by new ≡ Some r → ⊥
        none = asks_nothing new answered.waits_for_none

        x : (asking_end old ≡ Open) × (w : WaitingData) × (old.waiting ≡ Some w) × (w.question ≡ question)
        x = asked_so (asking_end old) old.waiting question asks

        now : (d : DecisionsData) → AskingAfter meaning d old h t → WasAsked d new h question
        now d a = record {
          units = a.stands.units;
          w = x.1;
          front = h;
          more = [];
          is = x.3;
          received = sym (append-nil h);
          waits = subst (λ (z : Setup). WaitsAfter z a.stands.units x.1 h) (same_setup d old new answered.same) (waits_here meaning d streams old packet h t a x.1 x.2 x.0);
          some = λ r is. absurd (none r is);
        }

    holds : (e : AskingData S) (answers : List AnsweredData) (h s : List ℕ) → Dialogue meaning e answers h s → Holds e answers h s
    holds e answers h s (Makes role config suite new before after made) = record { after = λ d gives. made.begins d; all_asked = λ d gives. tt; rises = tt; kinds = tt }
    holds e answers h s (Feeds old new given g t taken before after dialogue fed nothing) = holds_fed old new given g t taken before after (holds old given g t dialogue) fed nothing
    holds e answers h s (Answers old new earlier question answer g t before after dialogue packet asks answered) =
        holds_answered old new earlier question answer g t before after (holds old earlier g t dialogue) packet asks answered
    holds e answers h s (Rests old new given g t dialogue rested) = holds_rested old new given g t (holds old given g t dialogue) rested
    holds e answers h s (Cuts old new given g t dialogue cuts) =
        holds_quiet old new given g t t (holds old given g t dialogue) cuts.same (λ d a. cuts.follows d g t a) (ended_nothing new (Failed fault.Cut) cuts.cut refl)
    holds e answers h s (Leaves old new given reason description g t before after dialogue leaves) =
        holds_quiet old new given g t t (holds old given g t dialogue) leaves.same (λ d a. leaves.follows d g t a) (ended_nothing new (Disconnected reason) leaves.left refl)

    pub answered_once : (e : AskingData S) (answers : List AnsweredData) (h s : List ℕ) → Dialogue meaning e answers h s → IsAskedOnce (questions_of answers)
    answered_once e answers h s dialogue = asked_once (questions_of answers) (holds e answers h s dialogue).rises

    pub stands_by : (e : AskingData S) (answers : List AnsweredData) (h s : List ℕ) → Dialogue meaning e answers h s → (d : DecisionsData) → GiveAll d answers → AskingAfter meaning d e h s
    stands_by e answers h s dialogue = (holds e answers h s dialogue).after

    pub decisions_of : (e : AskingData S) (answers : List AnsweredData) (h s : List ℕ) → Dialogue meaning e answers h s → (d : DecisionsData) × GiveAll d answers × AskingAfter meaning d e h s
    decisions_of e answers h s dialogue =
        let some = some_decisions answers (answered_once e answers h s dialogue) (holds e answers h s dialogue).kinds in
        (some.0, some.1, stands_by e answers h s dialogue some.0 some.1)
