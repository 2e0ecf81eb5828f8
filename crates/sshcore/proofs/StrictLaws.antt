-- The strict clause over plain lists.

use Rattle.std.proofs.Common.{◌≡◌, ◌≢◌, ◌⊎◌, inl, inr, ℕ, ◌==◌, Bool, true, false, cond, List, [], ◌∷◌, ◌++◌, refl, sym, ap, ◌∙◌, subst, arith, append_assoc}
use Rattle.std.proofs.lemmas.Bool.{and_parts, cases_Bool, eqb-true, true≢false}
use Rattle.std.proofs.lemmas.List.{append-nil}
use Rattle.sshmsg.specs.Numbers.{message_number}
use Rattle.sshneg.specs.declared.side.Side.{Side}
use Rattle.sshneg.specs.declared.side.Side.TheVariants.{Client, Server}
use Rattle.sshpacket.specs.Places.{EachPlace}
use Rattle.sshpacket.specs.Stream.{Units}
use Rattle.sshcore.specs.declared.phase_table.Phase.{Phase}
use Rattle.sshcore.specs.declared.phase_table.Phase.TheVariants as phase
use Rattle.sshcore.specs.Before.{expects_guess, kept, offered, stood, strict_at}
use Rattle.sshcore.specs.EndData.{EndData, Open}
use Rattle.sshcore.specs.EndpointParts.{ConfigData, Setup}
use Rattle.sshcore.specs.Phases.{leaving, past_newkeys, phase_at, phase_by}
use Rattle.sshcore.specs.Replies.{end_at}
use Rattle.sshcore.specs.StrictSequence.{AsClosed, AsMalformed, AsStrict, Begins, BeginsStrictly, Conforms, EndsStrictly, Guessed, IsBegun, share_number}
use Rattle.sshcore.proofs.LawsBelow.{Below}
use Rattle.sshcore.proofs.GuessLemmas.{strict_none}
use Rattle.sshcore.proofs.PhaseLemmas.{offered_push, stood_push, tied_none}
use Rattle.sshcore.proofs.StrictLemmas.{begins_more, completes, leaving_newkeys, strict_before}
use Rattle.sshcore.proofs.StrictStages.{Follows, SoFar}
use Rattle.sshcore.proofs.StrictSteps.{Fails, Goes, Off, Step, step}

-- where an endpoint stands, the payloads conform
conforms : (role : Side) (config : ConfigData) (us : Units) (q : Phase) → SoFar role config.offer us q → (q ≢ phase.KexInit) → Conforms role config.offer us
conforms role config us phase.KexInit s not = absurd (not refl)
conforms role config us phase.Exchange s not = elim (cases_Bool (expects_guess role config.offer us)) [
  | inl due ↦ IsBegun (s.1.kexinit ∷ ((30 ∷ []) ∷ (share_number role ∷ []) ∷ (21 ∷ []) ∷ [])) ((30 ∷ []) ∷ (share_number role ∷ []) ∷ (21 ∷ []) ∷ []) (record {
    peer = s.1.peer;
    kexinit = s.1.kexinit;
    guess = (30 ∷ []) ∷ [];
    share = share_number role ∷ [];
    newkeys = 21 ∷ [];
    payloads_are = refl;
    offered = s.1.offered;
    guess_part = Guessed (s.1.wrong due) (30 ∷ []) (record { number = 30; low = omega arith; high = omega arith; has = record { fields = []; payload_is = refl } }) refl;
    share_has = record { fields = []; payload_is = refl };
    newkeys_has = record { fields = []; payload_is = refl };
  }) (sym (ap (λ (l : Units). l ++ ((30 ∷ []) ∷ (share_number role ∷ []) ∷ (21 ∷ []) ∷ [])) (s.1.payloads_are ∙ ap (λ (l : Units). s.1.kexinit ∷ l) (s.1.due due))))
  | inr none ↦ IsBegun (s.1.kexinit ∷ (s.0 ++ (share_number role ∷ []) ∷ (21 ∷ []) ∷ [])) ((share_number role ∷ []) ∷ (21 ∷ []) ∷ []) (record {
    peer = s.1.peer;
    kexinit = s.1.kexinit;
    guess = s.0;
    share = share_number role ∷ [];
    newkeys = 21 ∷ [];
    payloads_are = refl;
    offered = s.1.offered;
    guess_part = s.1.part none;
    share_has = record { fields = []; payload_is = refl };
    newkeys_has = record { fields = []; payload_is = refl };
  }) (sym (ap (λ (l : Units). l ++ ((share_number role ∷ []) ∷ (21 ∷ []) ∷ [])) s.1.payloads_are))
]
conforms role config us phase.NewKeys s not = IsBegun (s.kexinit ∷ (s.guess ++ s.share ∷ (21 ∷ []) ∷ [])) ((21 ∷ []) ∷ []) (record {
  peer = s.peer;
  kexinit = s.kexinit;
  guess = s.guess;
  share = s.share;
  newkeys = 21 ∷ [];
  payloads_are = refl;
  offered = s.offered;
  guess_part = s.part;
  share_has = s.has;
  newkeys_has = record { fields = []; payload_is = refl };
}) (sym (ap (λ (l : Units). l ++ (21 ∷ []) ∷ []) s.payloads_are ∙ ap (λ (l : Units). s.kexinit ∷ l) (append_assoc s.guess (s.share ∷ []) ((21 ∷ []) ∷ []))))
conforms role config us phase.Service s not = Begins s
conforms role config us phase.Auth s not = Begins s

-- an endpoint that is past phase newkeys: the three messages stood
pub past_parts : (k e n s : Bool) → past_newkeys (phase_by k e n s) ≡ true → (e ≡ true) × (n ≡ true)
past_parts true true true s h = (refl, refl)
past_parts true true false s h = absurd (true≢false (sym h))
past_parts true false n s h = absurd (true≢false (sym h))
past_parts false e n s h = absurd (true≢false (sym h))

apart : (role : Side) (n : ℕ) → n ≡ 21 → n ≡ leaving role phase.Exchange → ⊥
apart Client n a b = absurd (omega arith)
apart Server n a b = absurd (omega arith)

module _ (role : Side) (config : ConfigData) (before : Units) (payload : List ℕ) where
  stood_now : (k : ℕ) → stood role config.offer k before ≡ false → stood role config.offer k (before ++ payload ∷ []) ≡ true → message_number payload ≡ k
  stood_now k none now =
      let here : kept role config.offer k before payload ≡ true = sym (stood_push role config.offer before payload k ∙ rw none refl) ∙ now in
      eqb-true (message_number payload) k (and_parts _ _ here).0

  -- a strict endpoint that stood open before this payload, and is past phase newkeys after it
  pub past : (p : Phase) → Follows role config before p → strict_at role config (before ++ payload ∷ []) ≡ true
      → past_newkeys (phase_at role config.offer (before ++ payload ∷ [])) ≡ true → BeginsStrictly role config.offer (before ++ payload ∷ [])
  past p f s h = by p f (past_parts _ _ _ _ h)
    where
      by : (p : Phase) → Follows role config before p
          → (stood role config.offer (leaving role phase.Exchange) (before ++ payload ∷ []) ≡ true) × (stood role config.offer 21 (before ++ payload ∷ []) ≡ true)
          → BeginsStrictly role config.offer (before ++ payload ∷ [])
      by phase.KexInit f two = absurd (apart role (message_number payload) (stood_now 21 f.tied.newkeys two.1) (stood_now (leaving role phase.Exchange) f.tied.exchange two.0))
      by phase.Exchange f two = absurd (apart role (message_number payload) (stood_now 21 f.tied.newkeys two.1) (stood_now (leaving role phase.Exchange) f.tied.exchange two.0))
      by phase.NewKeys f two =
          completes role config before payload f (stood_now 21 f.tied.newkeys two.1 ∙ sym (leaving_newkeys role)) (strict_before role config before payload phase.NewKeys f.tied refl s)
      by phase.Service f two = begins_more role config.offer before payload (f.so_far (strict_before role config before payload phase.Service f.tied refl s))
      by phase.Auth f two = begins_more role config.offer before payload (f.so_far (strict_before role config before payload phase.Auth f.tied refl s))

-- and one that stands open
pub past_open : (role : Side) (config : ConfigData) (us : Units) (p : Phase) → Follows role config us p → strict_at role config us ≡ true
    → past_newkeys (phase_at role config.offer us) ≡ true → BeginsStrictly role config.offer us
past_open role config us p f s h = by p f (past_parts _ _ _ _ h)
  where
    by : (p : Phase) → Follows role config us p → (stood role config.offer (leaving role phase.Exchange) us ≡ true) × (stood role config.offer 21 us ≡ true) → BeginsStrictly role config.offer us
    by phase.KexInit f two = absurd (true≢false (sym two.1 ∙ f.tied.newkeys))
    by phase.Exchange f two = absurd (true≢false (sym two.1 ∙ f.tied.newkeys))
    by phase.NewKeys f two = absurd (true≢false (sym two.1 ∙ f.tied.newkeys))
    by phase.Service f two = f.so_far s
    by phase.Auth f two = f.so_far s

pub not_open : (n : ℕ) (end : EndData) → EndsStrictly n end → end ≢ Open
not_open n end (AsStrict e) q = absurd cc
not_open n end (AsClosed one reason e) q = absurd cc
not_open n end (AsMalformed one e) q = absurd cc

module _ (below : Below) (setup : Setup) where
  module _ (version : List ℕ) (before : Units) (payload : List ℕ) where
    -- a payload that shows the marker and a deviation
    pub deviates : (p : Phase) → Follows setup.role setup.config before p → strict_at setup.role setup.config (before ++ payload ∷ []) ≡ true → (Conforms setup.role setup.config.offer (before ++ payload ∷ []) → ⊥)
        → EndsStrictly (message_number payload) (end_at setup (version ∷ before) payload)
    deviates p f s not = by (step below setup version before payload p f)
      where
        is_phase : (q : Phase) → (q ≡ phase.KexInit) ⊎ (q ≢ phase.KexInit)
        is_phase phase.KexInit = inl refl
        is_phase phase.Exchange = inr (λ e. absurd cc)
        is_phase phase.NewKeys = inr (λ e. absurd cc)
        is_phase phase.Service = inr (λ e. absurd cc)
        is_phase phase.Auth = inr (λ e. absurd cc)

        unoffered : (b k : Bool) → cond b true k ≡ false → (b ≡ false) × (k ≡ false)
        unoffered true k e = absurd (true≢false e)
        unoffered false k e = (refl, e)

        by : Step setup.role setup.config before payload (end_at setup (version ∷ before) payload) → EndsStrictly (message_number payload) (end_at setup (version ∷ before) payload)
        by (Off e) = e
        by (Fails shut c) = absurd (not (c s))
        by (Goes q g) = elim (is_phase q) [
          | inl e ↦
              let h : Follows setup.role setup.config (before ++ payload ∷ []) phase.KexInit = subst (Follows setup.role setup.config (before ++ payload ∷ [])) e g in
              let two = unoffered (offered before) (message_number payload == 20) (sym (offered_push before payload) ∙ h.tied.offer) in
              absurd (true≢false (sym s ∙ strict_none setup.role setup.config before payload two.0 two.1))
          | inr e ↦ absurd (not (conforms setup.role setup.config (before ++ payload ∷ []) q (g.so_far s) e))
        ]

  -- where an endpoint that stays open at each of these stands
  pub stands : (version : List ℕ) (before us : Units) (p : Phase) → Follows setup.role setup.config before p → EachPlace (λ b u. end_at setup b u ≡ Open) (version ∷ before) us
      → (q : Phase) × Follows setup.role setup.config (before ++ us) q
  stands version before [] p f each = (p, subst (λ (l : Units). Follows setup.role setup.config l p) (sym (append-nil before)) f)
  stands version before (u ∷ us) p f each = on version before u us each.0 (step below setup version before u p f)
      (λ q g. subst (λ (l : Units). (q : Phase) × Follows setup.role setup.config l q) (append_assoc before (u ∷ []) us) (stands version (before ++ u ∷ []) us q g each.1))
    where
      on : (version : List ℕ) (before : Units) (u : List ℕ) (us : Units) → end_at setup (version ∷ before) u ≡ Open → Step setup.role setup.config before u (end_at setup (version ∷ before) u)
          → ((q : Phase) → Follows setup.role setup.config (before ++ u ∷ []) q → (r : Phase) × Follows setup.role setup.config (before ++ u ∷ us) r) → (r : Phase) × Follows setup.role setup.config (before ++ u ∷ us) r
      on version before u us stays (Goes q g) next = next q g
      on version before u us stays (Off e) next = absurd (not_open (message_number u) _ e stays)
      on version before u us stays (Fails shut c) next = absurd (shut stays)

  pub begun_none : Follows setup.role setup.config [] phase.KexInit
  begun_none = record { tied = tied_none setup.role setup.config.offer; none_due = λ e. absurd (true≢false (sym e)); so_far = λ _. tt }

-- the last element of a list that ends both ways
record Cut (b before more : Units) (last u : List ℕ) : Type 0 where
  same : (more ≡ []) × (b ≡ before) × (last ≡ u)

pub cut : (b before more : Units) (last u : List ℕ) → b ++ last ∷ [] ≡ before ++ u ∷ more
    → ((more ≡ []) × (b ≡ before) × (last ≡ u)) ⊎ ((mid : Units) × (b ≡ before ++ u ∷ mid))
cut [] [] more last u e = inl (cc, refl, cc)
cut [] (x ∷ []) more last u e = absurd cc
cut [] (x ∷ y ∷ ys) more last u e = absurd cc
cut (x ∷ xs) [] more last u e = inr (xs, cc)
cut (x ∷ xs) (y ∷ ys) more last u e = elim (cut xs ys more last u cc) [
  | inl t ↦ inl (t.0, cc, t.2)
  | inr t ↦ inr (t.0, cc)
]
