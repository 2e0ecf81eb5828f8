-- What a server keeps of the methods that are completed is the unbroken run of requests.

use Rattle.std.proofs.Common.{◌≡◌, ℕ, Bool, true, false, cond, List, [], ◌∷◌, ◌++◌, codes, Option, None, Some, inl, inr, refl, sym, ap, subst, ◌∙◌, append_assoc, append-nil}
use Rattle.std.specs.Prelude.{◌&&◌, ◌||◌}
use Rattle.std.specs.List.{AllByRecursion, list_all, list_any}
use Rattle.std.specs.Str.{bytes_eq}
use Rattle.std.proofs.lemmas.Bool.{and_from, and_parts, or_cases}
use Rattle.std.proofs.lemmas.List.Folds.{list_all-append, list_any-append}
use Rattle.std.proofs.lemmas.Slice.Eq.{bytes_eq-Decides}
use Rattle.sshcore.specs.ConfigRules.{IsListed}
use Rattle.sshcore.specs.CompletedMethods.{CompletedMethodsData, FromBreak, FromFront, IsRun, Tried, are_completed, completed_after, completed_after_one, has_completed, is_complete, is_for, is_method, is_successful_for, kept_completed, none_completed, run_of, successful_completed}
use Rattle.sshcore.proofs.PlanLemmas.{completed_push}

pub same_bytes : (a b : List ℕ) → bytes_eq a b ≡ true → a ≡ b
same_bytes a b e = (bytes_eq-Decides a b).0 e

pub bytes_self : (a : List ℕ) → bytes_eq a a ≡ true
bytes_self a = (bytes_eq-Decides a a).1 refl

pub bytes_turned : (a b : List ℕ) → bytes_eq a b ≡ bytes_eq b a
bytes_turned a b = by (bytes_eq a b) (bytes_eq b a) (λ e. let q = same_bytes a b e in rw q (bytes_self b)) (λ e. let q = same_bytes b a e in rw q (bytes_self a))
  where
    by : (x y : Bool) → (x ≡ true → y ≡ true) → (y ≡ true → x ≡ true) → x ≡ y
    by true y f g = sym (f refl)
    by false true f g = g refl
    by false false f g = refl

and_true : (x : Bool) → (x && true) ≡ x
and_true true = refl
and_true false = refl

and_false : (x : Bool) → (x && false) ≡ false
and_false true = refl
and_false false = refl

or_false : (x : Bool) → (x || false) ≡ x
or_false true = refl
or_false false = refl

module _ (user service : List ℕ) where
  -- with one request more the run goes on, or is broken off
  pub run_push : (xs : List Tried) (t : Tried) → run_of user service (xs ++ t ∷ []) ≡ cond (is_for user service t) (run_of user service xs ++ t ∷ []) []
  run_push [] t = by (is_for user service t) refl
    where
      by : (b : Bool) → is_for user service t ≡ b → run_of user service (t ∷ []) ≡ cond b (t ∷ []) []
      by true e = rw e refl
      by false e = rw e refl
  run_push (x ∷ xs) t =
      ap (λ (b : Bool). cond (is_for user service x && b) (x ∷ (xs ++ t ∷ [])) (run_of user service (xs ++ t ∷ []))) (list_all-append (is_for user service) xs (t ∷ []))
      ∙ by (is_for user service t) refl (run_push xs t)
    where
      by : (b : Bool) → is_for user service t ≡ b → run_of user service (xs ++ t ∷ []) ≡ cond b (run_of user service xs ++ t ∷ []) []
          → cond (is_for user service x && (list_all (is_for user service) xs && list_all (is_for user service) (t ∷ []))) (x ∷ (xs ++ t ∷ [])) (run_of user service (xs ++ t ∷ []))
          ≡ cond b (run_of user service (x ∷ xs) ++ t ∷ []) []
      by true e more = rw (e, more, and_true (list_all (is_for user service) xs)) (here (is_for user service x && list_all (is_for user service) xs))
        where
          here : (c : Bool) → cond c (x ∷ (xs ++ t ∷ [])) (run_of user service xs ++ t ∷ []) ≡ cond c (x ∷ xs) (run_of user service xs) ++ t ∷ []
          here true = refl
          here false = refl
      by false e more = rw (e, more, and_false (list_all (is_for user service) xs), and_false (is_for user service x)) refl

  -- whether the flag of a method is set for this user and service
  abbrev of_them : CompletedMethodsData → Bool → Bool
  of_them r flag = (bytes_eq user r.user && bytes_eq service r.service) && flag

  -- what is kept of one method, by its flag
  module _ (method : List ℕ) (flag : CompletedMethodsData → Bool)
      (none : flag none_completed ≡ false) (emptied : (r : CompletedMethodsData) → flag (record r { password = false; publickey = false }) ≡ false)
      (adds : (r : CompletedMethodsData) (t : Tried) (successful : List ℕ) → flag (successful_completed r t (Some successful)) ≡ (flag r || bytes_eq method successful)) where
    or_turned : (a b : Bool) → (a || b) ≡ (b || a)
    or_turned true true = refl
    or_turned true false = refl
    or_turned false true = refl
    or_turned false false = refl

    flag_kept : (r : CompletedMethodsData) (t : Tried) → flag (kept_completed r t) ≡ (is_for r.user r.service t && flag r)
    flag_kept r t = by (is_for r.user r.service t)
      where
        by : (b : Bool) → flag (cond b r (record r { password = false; publickey = false })) ≡ (b && flag r)
        by true = refl
        by false = emptied r

    -- a request for them
    mine : (r : CompletedMethodsData) (t : Tried) (was : Bool) → is_for user service t ≡ true → of_them r (flag r) ≡ was
        → of_them (completed_after_one r t) (flag (completed_after_one r t)) ≡ (was || is_successful_for method t)
    mine r t was e before = by t.successful refl
      where
        eu : user ≡ t.user
        eu = same_bytes user t.user (and_parts (bytes_eq user t.user) (bytes_eq service t.service) e).0

        es : service ≡ t.service
        es = same_bytes service t.service (and_parts (bytes_eq user t.user) (bytes_eq service t.service) e).1

        -- it is for those of the last successful request exactly if these are
        turn : is_for r.user r.service t ≡ (bytes_eq user r.user && bytes_eq service r.service)
        turn =
            ap (λ (x : List ℕ). bytes_eq r.user x && bytes_eq r.service t.service) (sym eu)
            ∙ ap (λ (x : List ℕ). bytes_eq r.user user && bytes_eq r.service x) (sym es)
            ∙ ap (λ (b : Bool). b && bytes_eq r.service service) (bytes_turned r.user user)
            ∙ ap (λ (b : Bool). bytes_eq user r.user && b) (bytes_turned r.service service)

        kept_is : flag (kept_completed r t) ≡ was
        kept_is =
            let whole : (is_for r.user r.service t && flag r) ≡ was = ap (λ (b : Bool). b && flag r) turn ∙ before in
            flag_kept r t ∙ whole

        by : (o : Option (List ℕ)) → t.successful ≡ o → of_them (successful_completed (kept_completed r t) t o) (flag (successful_completed (kept_completed r t) t o)) ≡ (was || is_method method o)
        by None is = kept_so (is_for r.user r.service t) turn ∙ sym (or_false was)
          where
            kept_so : (b : Bool) → b ≡ (bytes_eq user r.user && bytes_eq service r.service)
                → of_them (cond b r (record r { password = false; publickey = false })) (flag (cond b r (record r { password = false; publickey = false }))) ≡ was
            kept_so true q = before
            kept_so false q =
                let none_here : (bytes_eq user r.user && bytes_eq service r.service) ≡ false = sym q in
                let none_was : false ≡ was = rw none_here at before in
                rw none_here none_was
        by (Some successful) is =
            ap (λ (c : Bool). c && flag (successful_completed (kept_completed r t) t (Some successful))) e
            ∙ (adds (kept_completed r t) t successful ∙ ap (λ (c : Bool). c || bytes_eq method successful) kept_is)

    -- a request for others
    foreign : (r : CompletedMethodsData) (t : Tried) → is_for user service t ≡ false → of_them (completed_after_one r t) (flag (completed_after_one r t)) ≡ false
    foreign r t e = by t.successful
      where
        by : (o : Option (List ℕ)) → of_them (successful_completed (kept_completed r t) t o) (flag (successful_completed (kept_completed r t) t o)) ≡ false
        by (Some successful) = ap (λ (c : Bool). c && flag (successful_completed (kept_completed r t) t (Some successful))) e
        by None = kept_so (is_for r.user r.service t) refl
          where
            kept_so : (b : Bool) → is_for r.user r.service t ≡ b
                → of_them (cond b r (record r { password = false; publickey = false })) (flag (cond b r (record r { password = false; publickey = false }))) ≡ false
            kept_so true q =
                let u : r.user ≡ t.user = same_bytes r.user t.user (and_parts _ _ q).0 in
                let s : r.service ≡ t.service = same_bytes r.service t.service (and_parts _ _ q).1 in
                let none_here : (bytes_eq user r.user && bytes_eq service r.service) ≡ false = rw (u, s) e in
                rw none_here refl
            kept_so false q = ap (λ (c : Bool). (bytes_eq user r.user && bytes_eq service r.service) && c) (emptied r) ∙ and_false (bytes_eq user r.user && bytes_eq service r.service)

    run_from : (r : CompletedMethodsData) (before later : List Tried) → of_them r (flag r) ≡ list_any (is_successful_for method) (run_of user service before)
        → of_them (completed_after r later) (flag (completed_after r later)) ≡ list_any (is_successful_for method) (run_of user service (before ++ later))
    run_from r before [] h = h ∙ ap (λ (l : List Tried). list_any (is_successful_for method) (run_of user service l)) (sym (append-nil before))
    run_from r before (t ∷ later) h =
        run_from (completed_after_one r t) (before ++ t ∷ []) later (one (is_for user service t) refl)
        ∙ ap (λ (l : List Tried). list_any (is_successful_for method) (run_of user service l)) (append_assoc before (t ∷ []) later)
      where
        one : (b : Bool) → is_for user service t ≡ b → of_them (completed_after_one r t) (flag (completed_after_one r t)) ≡ list_any (is_successful_for method) (run_of user service (before ++ t ∷ []))
        one true e =
            mine r t (list_any (is_successful_for method) (run_of user service before)) e h
            ∙ (sym (list_any-append (is_successful_for method) (run_of user service before) (t ∷ []) ∙ ap (λ (c : Bool). list_any (is_successful_for method) (run_of user service before) || c) (or_false (is_successful_for method t)))
            ∙ ap (list_any (is_successful_for method)) (sym (run_push before t ∙ ap (λ (c : Bool). cond c (run_of user service before ++ t ∷ []) []) e)))
        one false e =
            foreign r t e ∙ ap (list_any (is_successful_for method)) (sym (run_push before t ∙ ap (λ (c : Bool). cond c (run_of user service before ++ t ∷ []) []) e))

    pub flag_is : (tried : List Tried) → of_them (completed_after none_completed tried) (flag (completed_after none_completed tried)) ≡ list_any (is_successful_for method) (run_of user service tried)
    flag_is tried = run_from none_completed [] tried (ap (λ (b : Bool). (bytes_eq user [] && bytes_eq service []) && b) none ∙ and_false (bytes_eq user [] && bytes_eq service []))

  pub password_is : (tried : List Tried) → of_them (completed_after none_completed tried) (completed_after none_completed tried).password
      ≡ list_any (is_successful_for (codes "password")) (run_of user service tried)
  password_is = flag_is (codes "password") (λ r. r.password) refl (λ r. refl) (λ r t successful. adds r.password successful)
    where
      adds : (a : Bool) (successful : List ℕ) → (a || bytes_eq successful (codes "password")) ≡ (a || bytes_eq (codes "password") successful)
      adds a successful = ap (λ (b : Bool). a || b) (bytes_turned successful (codes "password"))

  pub publickey_is : (tried : List Tried) → of_them (completed_after none_completed tried) (completed_after none_completed tried).publickey
      ≡ list_any (is_successful_for (codes "publickey")) (run_of user service tried)
  publickey_is = flag_is (codes "publickey") (λ r. r.publickey) refl (λ r. refl) (λ r t successful. adds r.publickey successful)
    where
      adds : (a : Bool) (successful : List ℕ) → (a || bytes_eq successful (codes "publickey")) ≡ (a || bytes_eq (codes "publickey") successful)
      adds a successful = ap (λ (b : Bool). a || b) (bytes_turned successful (codes "publickey"))

  -- the run as a claim
  run_all : (ys : List Tried) → list_all (is_for user service) ys ≡ true → run_of user service ys ≡ ys
  run_all [] e = refl
  run_all (y ∷ ys) e = rw e refl

  run_append : (xs ys : List Tried) → list_all (is_for user service) ys ≡ true → run_of user service (xs ++ ys) ≡ run_of user service xs ++ ys
  run_append [] ys e = run_all ys e
  run_append (x ∷ xs) ys e =
      ap (λ (b : Bool). cond (is_for user service x && b) (x ∷ (xs ++ ys)) (run_of user service (xs ++ ys))) (list_all-append (is_for user service) xs ys)
      ∙ (rw (e, run_append xs ys e, and_true (list_all (is_for user service) xs)) (by (is_for user service x && list_all (is_for user service) xs)))
    where
      by : (b : Bool) → cond b (x ∷ (xs ++ ys)) (run_of user service xs ++ ys) ≡ cond b (x ∷ xs) (run_of user service xs) ++ ys
      by true = refl
      by false = refl

  pub run_only : (tried run : List Tried) → IsRun user service tried run → run ≡ run_of user service tried
  run_only tried run (FromFront all is) = sym (ap (run_of user service) is ∙ run_all run all)
  run_only tried run (FromBreak before other all off is) =
      sym (ap (run_of user service) is ∙ run_append (before ++ other ∷ []) run all
      ∙ ap (λ (l : List Tried). l ++ run) (run_push before other ∙ ap (λ (b : Bool). cond b (run_of user service before ++ other ∷ []) []) off))

  pub run_is : (tried : List Tried) → IsRun user service tried (run_of user service tried)
  run_is tried = from [] tried (FromFront refl refl)
    where
      -- one request more
      one : (xs run : List Tried) (t : Tried) → IsRun user service xs run → (b : Bool) → is_for user service t ≡ b → IsRun user service (xs ++ t ∷ []) (cond b (run ++ t ∷ []) [])
      one xs run t (FromFront all is) true e =
          FromFront (list_all-append (is_for user service) run (t ∷ []) ∙ rw (all, e) refl) (ap (λ (l : List Tried). l ++ t ∷ []) is)
      one xs run t (FromBreak before other all off is) true e =
          FromBreak before other (list_all-append (is_for user service) run (t ∷ []) ∙ rw (all, e) refl) off
          (ap (λ (l : List Tried). l ++ t ∷ []) is ∙ append_assoc (before ++ other ∷ []) run (t ∷ []))
      one xs run t r false e = FromBreak xs t refl e (sym (append-nil (xs ++ t ∷ [])))

      from : (xs later : List Tried) → IsRun user service xs (run_of user service xs) → IsRun user service (xs ++ later) (run_of user service (xs ++ later))
      from xs [] r = subst (λ (l : List Tried). IsRun user service l (run_of user service l)) (sym (append-nil xs)) r
      from xs (t ∷ later) r =
          subst (λ (l : List Tried). IsRun user service l (run_of user service l)) (append_assoc xs (t ∷ []) later)
          (from (xs ++ t ∷ []) later (subst (IsRun user service (xs ++ t ∷ [])) (sym (run_push xs t)) (one xs (run_of user service xs) t r (is_for user service t) refl)))

-- After a successful request all required methods are completed exactly if those of its run complete them.
successful_user : (r : CompletedMethodsData) (t : Tried) (successful : List ℕ) → t.successful ≡ Some successful → ((completed_after_one r t).user ≡ t.user) × ((completed_after_one r t).service ≡ t.service)
successful_user r t successful e = by t.successful e
  where
    by : (o : Option (List ℕ)) → o ≡ Some successful → ((successful_completed (kept_completed r t) t o).user ≡ t.user) × ((successful_completed (kept_completed r t) t o).service ≡ t.service)
    by None e = absurd (cc (e))
    by (Some x) e = (refl, refl)

module _ (tried : List Tried) (t : Tried) (successful : List ℕ) (is : t.successful ≡ Some successful) where
  abbrev now : CompletedMethodsData
  now = completed_after none_completed (tried ++ t ∷ [])

  now_is : now ≡ completed_after_one (completed_after none_completed tried) t
  now_is = completed_push none_completed tried (t ∷ [])

  them : (bytes_eq t.user now.user && bytes_eq t.service now.service) ≡ true
  them =
      let g = successful_user (completed_after none_completed tried) t successful is in
      let u : now.user ≡ t.user = ap (λ (r : CompletedMethodsData). r.user) now_is ∙ g.0 in
      let s : now.service ≡ t.service = ap (λ (r : CompletedMethodsData). r.service) now_is ∙ g.1 in
      rw (u, s) (and_from _ _ (bytes_self t.user) (bytes_self t.service))

  pub password_now : (completed_after none_completed (tried ++ t ∷ [])).password ≡ list_any (is_successful_for (codes "password")) (run_of t.user t.service (tried ++ t ∷ []))
  password_now = sym (ap (λ (b : Bool). b && now.password) them) ∙ password_is t.user t.service (tried ++ t ∷ [])

  pub publickey_now : (completed_after none_completed (tried ++ t ∷ [])).publickey ≡ list_any (is_successful_for (codes "publickey")) (run_of t.user t.service (tried ++ t ∷ []))
  publickey_now = sym (ap (λ (b : Bool). b && now.publickey) them) ∙ publickey_is t.user t.service (tried ++ t ∷ [])

  abbrev reaches : List ℕ → Bool
  reaches method = list_any (is_successful_for method) (run_of t.user t.service (tried ++ t ∷ []))

  one_completed : (method : List ℕ) → IsListed method → has_completed now method ≡ reaches method
  one_completed method (inl e) = rw e (or_false now.password ∙ password_now)
  one_completed method (inr e) = rw e publickey_now

  one_sound : (method : List ℕ) → has_completed now method ≡ true → reaches method ≡ true
  one_sound method h = elim (or_cases _ _ h) [
    | inl a ↦ let p = and_parts _ _ a in ap reaches (same_bytes method (codes "password") p.0) ∙ (sym password_now ∙ p.1)
    | inr a ↦ let p = and_parts _ _ a in ap reaches (same_bytes method (codes "publickey") p.0) ∙ (sym publickey_now ∙ p.1)
  ]

  all_completed : (required : List (List ℕ)) → AllByRecursion IsListed required → is_complete required now ≡ are_completed required t.user t.service (tried ++ t ∷ [])
  all_completed [] all = refl
  all_completed (method ∷ required) (first, all) = rw (one_completed method first, all_completed required all) refl

  pub complete_is : (required : List (List ℕ)) → AllByRecursion IsListed required
      → is_complete required (completed_after_one (completed_after none_completed tried) t) ≡ are_completed required t.user t.service (tried ++ t ∷ [])
  complete_is required all = ap (is_complete required) (sym now_is) ∙ all_completed required all

  all_sound : (required : List (List ℕ)) → is_complete required now ≡ true → are_completed required t.user t.service (tried ++ t ∷ []) ≡ true
  all_sound [] h = refl
  all_sound (method ∷ required) h = let p = and_parts _ _ h in and_from _ _ (one_sound method p.0) (all_sound required p.1)

  pub complete_sound : (required : List (List ℕ)) → is_complete required (completed_after_one (completed_after none_completed tried) t) ≡ true
      → are_completed required t.user t.service (tried ++ t ∷ []) ≡ true
  complete_sound required h = all_sound required (ap (is_complete required) now_is ∙ h)
