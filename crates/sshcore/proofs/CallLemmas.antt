-- Calls of an endpoint, one after another.

use Rattle.std.proofs.Common.{◌≡◌, ℕ, ◌+◌, ◌-◌, ◌≤◌, true, List, [], ◌++◌, length, take, drop, Option, None, Some, Result, Ok, Err, refl, sym, ap, subst, ◌∙◌, append_assoc, arith}
use Rattle.std.specs.Prelude.{IfSome, is_some}
use Rattle.std.proofs.lemmas.Bool.{true≢false}
use Rattle.std.proofs.lemmas.List.{append-nil, length-drop}
use Rattle.std.proofs.Math.Seq.{take-add, take-length}
use Rattle.std.specs.Result.{OnErr}
use Rattle.sshneg.specs.declared.side.Side.{Side}
use Rattle.sshpacket.specs.Suite.{SuiteData}
use Rattle.sshcore.specs.Asking.{Answered, AskingAfter, AskingBreaks, AskingCuts, AskingFed, AskingLeaves, IsSameAsking, asked_at, asked_by, asking_end}
use Rattle.sshcore.specs.AskingData.{AskingData, WaitingData, asking_setup}
use Rattle.sshcore.specs.EndData.{EndData, Open, by_owner}
use Rattle.sshcore.specs.Endpoints.{Breaks, Cuts, EndpointAfter, Fed, IsSameEndpoint, Leaves, endpoint_end}
use Rattle.sshcore.specs.EndpointData.{EndpointData, endpoint_setup}
use Rattle.sshcore.specs.History.{BrokenOff}
use Rattle.sshcore.specs.EndpointParts.{ConfigData, DecisionsData, setup_with}
use Rattle.sshcore.specs.Questions.{decided_by}
use Rattle.sshcore.specs.Unread.{IsUnread}
use Rattle.sshcore.proofs.AskedNothing.{asked_none}
use Rattle.sshcore.proofs.AskingLemmas as asking
use Rattle.sshcore.proofs.AskingLemmas.{stands_at_once}
use Rattle.sshcore.proofs.HistoryLemmas.{broken}

-- what follows a place, as code cuts it out
pub tail_is : (n : ℕ) (piece : List ℕ) → take (length piece - n) (drop n piece) ≡ drop n piece
tail_is n piece = ap (λ k. take k (drop n piece)) (sym (length-drop n piece)) ∙ take-length (drop n piece)

pub on_err : {T E P : Type 0} (r : Result T E) → P → OnErr r P
on_err (Ok x) p = tt
on_err (Err e) p = p

module _ {S D : Type 0} where
  pub same_none : (e : EndpointData S D) → IsSameEndpoint e e
  same_none e = record { same_role = refl; same_config = refl; same_suite = refl; same_decisions = refl }

  pub same_then : (old mid new : EndpointData S D) → IsSameEndpoint old mid → IsSameEndpoint mid new → IsSameEndpoint old new
  same_then old mid new a b = record {
    same_role = b.same_role ∙ a.same_role;
    same_config = b.same_config ∙ a.same_config;
    same_suite = b.same_suite ∙ a.same_suite;
    same_decisions = b.same_decisions ∙ a.same_decisions;
  }

module _ {S D : Type 0} (meaning : S → SuiteData) (policy : D → DecisionsData) where
  pub fed_none : (e : EndpointData S D) (out : List ℕ) → Fed meaning policy e e [] out out
  fed_none e out = record {
    added = [];
    appended = sym (append-nil out);
    follows = λ h s a. subst (λ (x : List ℕ). EndpointAfter meaning policy e x (s ++ [])) (sym (append-nil h)) (subst (λ (x : List ℕ). EndpointAfter meaning policy e h x) (sym (append-nil s)) a);
    uncut = λ h s a owned. refl;
    same = same_none e;
  }

  pub fed_then : (old mid new : EndpointData S D) (t u o0 o1 o2 : List ℕ) → Fed meaning policy old mid t o0 o1 → Fed meaning policy mid new u o1 o2 → Fed meaning policy old new (t ++ u) o0 o2
  fed_then old mid new t u o0 o1 o2 f g = record {
    added = f.added ++ g.added;
    appended = g.appended ∙ ap (λ (x : List ℕ). x ++ g.added) f.appended ∙ append_assoc o0 f.added g.added;
    follows = λ h s a. subst (λ (x : List ℕ). EndpointAfter meaning policy new x (s ++ (f.added ++ g.added))) (append_assoc h t u)
        (subst (λ (x : List ℕ). EndpointAfter meaning policy new ((h ++ t) ++ u) x) (append_assoc s f.added g.added) (g.follows (h ++ t) (s ++ f.added) (f.follows h s a)));
    uncut = λ h s a owned.
        let stays : endpoint_end mid ≡ endpoint_end new = g.uncut (h ++ t) (s ++ f.added) (f.follows h s a) owned in
        f.uncut h s a (ap by_owner stays ∙ owned) ∙ stays;
    same = same_then old mid new f.same g.same;
  }

  pub fed_as : (old new : EndpointData S D) (t u o0 o1 : List ℕ) → t ≡ u → Fed meaning policy old new t o0 o1 → Fed meaning policy old new u o0 o1
  fed_as old new t u o0 o1 e f = subst (λ (x : List ℕ). Fed meaning policy old new x o0 o1) e f

  -- memory runs out before anything is sent
  pub breaks_none : (e new : EndpointData S D) (piece out : List ℕ) → IsSameEndpoint e new → Breaks meaning policy e new piece out out
  breaks_none e new piece out same = record {
    used = 0;
    within = omega arith;
    added = [];
    appended = sym (append-nil out);
    follows = λ h s a. subst (λ (x : List ℕ). BrokenOff (endpoint_setup meaning policy e) x (s ++ [])) (sym (append-nil h))
        (subst (λ (x : List ℕ). BrokenOff (endpoint_setup meaning policy e) h x) (sym (append-nil s))
        (broken (endpoint_setup meaning policy e) a.units a.sizes a.rest a.refusal a.answers a.received_end h s a.history));
    same = same;
  }

  broken_as : (m n : SuiteData) (d c : DecisionsData) (r q : Side) (p o : ConfigData) (h k s t : List ℕ) → m ≡ n → d ≡ c → r ≡ q → p ≡ o → h ≡ k → s ≡ t → BrokenOff (setup_with m d r p) h s → BrokenOff (setup_with n c q o) k t
  broken_as m n d c r q p o h k s t em ed er ep eh es x =
      subst (λ (m : SuiteData). BrokenOff (setup_with m c q o) k t) em (subst (λ (d : DecisionsData). BrokenOff (setup_with m d q o) k t) ed (subst (λ (r : Side). BrokenOff (setup_with m d r o) k t) er
      (subst (λ (p : ConfigData). BrokenOff (setup_with m d r p) k t) ep (subst (λ (h : List ℕ). BrokenOff (setup_with m d r p) h t) eh (subst (λ (s : List ℕ). BrokenOff (setup_with m d r p) h s) es x)))))

  -- memory runs out after what went well
  pub breaks_then : (old mid new : EndpointData S D) (piece : List ℕ) (n : ℕ) (o0 o1 o2 : List ℕ) → n ≤ length piece → Fed meaning policy old mid (take n piece) o0 o1
      → Breaks meaning policy mid new (drop n piece) o1 o2 → Breaks meaning policy old new piece o0 o2
  breaks_then old mid new piece n o0 o1 o2 low f b =
      let left : b.used ≤ length (drop n piece) = b.within in
      let size : length (drop n piece) ≡ length piece - n = length-drop n piece in
      record {
        used = n + b.used;
        within = omega arith;
        added = f.added ++ b.added;
        appended = b.appended ∙ ap (λ (x : List ℕ). x ++ b.added) f.appended ∙ append_assoc o0 f.added b.added;
        follows = λ h s a. broken_as (meaning mid.suite) (meaning old.suite) (policy mid.decisions) (policy old.decisions) mid.role old.role mid.config old.config
            ((h ++ take n piece) ++ take b.used (drop n piece)) (h ++ take (n + b.used) piece) ((s ++ f.added) ++ b.added) (s ++ (f.added ++ b.added))
            (ap meaning f.same.same_suite) (ap policy f.same.same_decisions) f.same.same_role f.same.same_config
            (append_assoc h (take n piece) (take b.used (drop n piece)) ∙ ap (λ (x : List ℕ). h ++ x) (sym (take-add n b.used piece)))
            (append_assoc s f.added b.added)
            (b.follows (h ++ take n piece) (s ++ f.added) (f.follows h s a));
        same = same_then old mid new f.same b.same;
      }

  -- a call that ran out of memory sent nothing
  pub breaks_same : (e new : EndpointData S D) (piece before after : List ℕ) → IsSameEndpoint e new → after ≡ before → Breaks meaning policy e new piece before after
  breaks_same e new piece before after same is = subst (λ (l : List ℕ). Breaks meaning policy e new piece before l) (sym is) (breaks_none e new piece before same)

-- An endpoint that asks and waits for nothing, with decisions.
module _ {S D : Type 0} (meaning : S → SuiteData) (policy : D → DecisionsData) (decisions : D) where
  abbrev pub endpoint_of : AskingData S → EndpointData S D
  endpoint_of a = record { role = a.role; config = a.config; suite = a.suite; decisions = decisions; input = a.input; state = a.state }

  abbrev pub as_asking : (a : AskingData S) (h s : List ℕ) → a.waiting ≡ None → EndpointAfter meaning policy (endpoint_of a) h s → AskingAfter meaning (policy decisions) a h s
  as_asking a h s none e = record {
    earlier = h;
    reader = a.input;
    stands = e;
    unread = subst (λ (w : Option WaitingData). IsUnread (meaning a.suite) a.input h w a.input h) (sym none) (refl, refl);
  }

  pub as_endpoint : (a : AskingData S) (h s : List ℕ) → a.waiting ≡ None → AskingAfter meaning (policy decisions) a h s → EndpointAfter meaning policy (endpoint_of a) h s
  as_endpoint a h s none x = stands_at_once meaning (policy decisions) a h s none x

  pub same_of : (a b : AskingData S) → IsSameAsking a b → IsSameEndpoint (endpoint_of a) (endpoint_of b)
  same_of a b same = record { same_role = same.same_role; same_config = same.same_config; same_suite = same.same_suite; same_decisions = refl }

  pub none_asked : (a : AskingData S) → a.waiting ≡ None → asked_by a ≡ None
  none_asked a none = ap (asked_at (asking_end a)) none ∙ asked_none (asking_end a)

  -- a step that asked nothing
  fed_quiet : (old new : AskingData S) (taken before after : List ℕ) → old.waiting ≡ None → new.waiting ≡ None → AskingFed meaning old new taken before after
      → Fed meaning policy (endpoint_of old) (endpoint_of new) taken before after
  fed_quiet old new taken before after none quiet f = record {
    added = f.added;
    appended = f.appended;
    follows = λ h s e. as_endpoint new (h ++ taken) (s ++ f.added) quiet (f.follows (policy decisions) h s (as_asking old h s none e));
    uncut = λ h s e owned. f.uncut (policy decisions) h s (as_asking old h s none e) owned;
    same = same_of old new f.same;
  }

  -- a step that asked, and was answered by the decisions
  fed_decided : (old mid new : AskingData S) (taken before between after : List ℕ) → old.waiting ≡ None → AskingFed meaning old mid taken before between
      → Answered meaning (decided_by (policy decisions) (asked_by mid)) mid new between after → Fed meaning policy (endpoint_of old) (endpoint_of new) taken before after
  fed_decided old mid new taken before between after none f g = record {
    added = f.added ++ g.added;
    appended = g.appended ∙ ap (λ (x : List ℕ). x ++ g.added) f.appended ∙ append_assoc before f.added g.added;
    follows = λ h s e. subst (λ (x : List ℕ). EndpointAfter meaning policy (endpoint_of new) (h ++ taken) x) (append_assoc s f.added g.added)
        (as_endpoint new (h ++ taken) ((s ++ f.added) ++ g.added) g.waits_for_none
        (g.follows (policy decisions) refl (h ++ taken) (s ++ f.added) (f.follows (policy decisions) h s (as_asking old h s none e))));
    uncut = λ h s e owned. absurd (true≢false (sym owned ∙ g.uncut (policy decisions) refl (h ++ taken) (s ++ f.added) (f.follows (policy decisions) h s (as_asking old h s none e))));
    same = same_of old new (asking.same_then old mid new f.same g.same);
  }

  -- one of both: then it waits for nothing
  pub fed_of : (old mid new : AskingData S) (taken before between after : List ℕ) → old.waiting ≡ None → AskingFed meaning old mid taken before between
      → IfSome mid.waiting (λ w. (asking_end mid ≡ Open) × (between ≡ before)) → (asked_by mid ≡ None → (new ≡ mid) × (after ≡ between))
      → (is_some (asked_by mid) ≡ true → Answered meaning (decided_by (policy decisions) (asked_by mid)) mid new between after)
      → (new.waiting ≡ None) × Fed meaning policy (endpoint_of old) (endpoint_of new) taken before after
  fed_of old mid new taken before between after none f waits quiet decided = by mid.waiting refl
    where
      by : (w : Option WaitingData) → mid.waiting ≡ w → (new.waiting ≡ None) × Fed meaning policy (endpoint_of old) (endpoint_of new) taken before after
      by None is =
          let same = quiet (none_asked mid is) in (
            ap (λ (a : AskingData S). a.waiting) same.0 ∙ is,
            subst (λ (a : AskingData S). Fed meaning policy (endpoint_of old) (endpoint_of a) taken before after) (sym same.0)
                (subst (λ (l : List ℕ). Fed meaning policy (endpoint_of old) (endpoint_of mid) taken before l) (sym same.1) (fed_quiet old mid taken before between none is f)),
          )
      by (Some w) is =
          let is_open = (subst (λ (x : Option WaitingData). IfSome x (λ w. (asking_end mid ≡ Open) × (between ≡ before))) is waits).0 in
          let g = decided (ap is_some (ap (asked_at (asking_end mid)) is ∙ ap (λ (e : EndData). asked_at e (Some w)) is_open)) in
          (g.waits_for_none, fed_decided old mid new taken before between after none f g)

  -- memory ran out in the step
  pub breaks_of : (old new : AskingData S) (piece before after : List ℕ) → old.waiting ≡ None → AskingBreaks meaning old new piece before after → Breaks meaning policy (endpoint_of old) (endpoint_of new) piece before after
  breaks_of old new piece before after none b = record {
    used = b.used;
    within = b.within;
    added = b.added;
    appended = b.appended;
    follows = λ h s e.
        let x = b.follows (policy decisions) h s (as_asking old h s none e) in
        subst (λ (l : List ℕ). BrokenOff (asking_setup meaning (policy decisions) old) l (s ++ b.added))
        (sym (x.received ∙ ap (λ (u : List ℕ). x.earlier ++ u) (x.all none) ∙ append-nil x.earlier)) x.broken;
    same = same_of old new b.same;
  }

  -- or in the answer: then something was asked, and nothing was sent
  pub breaks_deciding : (old mid new : AskingData S) (piece before between after : List ℕ) → IfSome mid.waiting (λ w. (asking_end mid ≡ Open) × (between ≡ before)) → (asked_by mid ≡ None → ⊥)
      → IsSameAsking old mid → IsSameAsking mid new → after ≡ between → Breaks meaning policy (endpoint_of old) (endpoint_of new) piece before after
  breaks_deciding old mid new piece before between after waits asked one two is =
      breaks_same meaning policy (endpoint_of old) (endpoint_of new) piece before after (same_of old new (asking.same_then old mid new one two)) (is ∙ by mid.waiting refl)
    where
      by : (w : Option WaitingData) → mid.waiting ≡ w → between ≡ before
      by None none = absurd (asked (none_asked mid none))
      by (Some w) some = (subst (λ (x : Option WaitingData). IfSome x (λ w. (asking_end mid ≡ Open) × (between ≡ before))) some waits).1

  pub cuts_of : (old new : AskingData S) → old.waiting ≡ None → new.waiting ≡ old.waiting → AskingCuts meaning old new → Cuts meaning policy (endpoint_of old) (endpoint_of new)
  cuts_of old new none same c = record {
    cut = c.cut;
    follows = λ h s e. as_endpoint new h s (same ∙ none) (c.follows (policy decisions) h s (as_asking old h s none e));
    same = same_of old new c.same;
  }

  pub leaves_of : (old new : AskingData S) (reason : ℕ) (description before after : List ℕ) → old.waiting ≡ None → new.waiting ≡ old.waiting → AskingLeaves meaning old new reason description before after
      → Leaves meaning policy (endpoint_of old) (endpoint_of new) reason description before after
  leaves_of old new reason description before after none same l = record {
    left = l.left;
    added = l.added;
    appended = l.appended;
    follows = λ h s e. as_endpoint new h s (same ∙ none) (l.follows (policy decisions) h s (as_asking old h s none e));
    sent = λ h s e. l.sent (policy decisions) h s (as_asking old h s none e);
    same = same_of old new l.same;
  }
