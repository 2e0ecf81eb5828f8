-- The phase and what stood, with one payload more.

use Rattle.std.proofs.Common.{◌≡◌, ℕ, ◌==◌, ◌&&◌, Bool, true, false, cond, List, [], ◌∷◌, ◌++◌, refl, sym, ap, ◌∙◌}
use Rattle.std.proofs.lemmas.Bool.{and_parts, and_right}
use Rattle.sshmsg.specs.MessageData.{KexInitData}
use Rattle.sshmsg.specs.Numbers.{message_number}
use Rattle.sshneg.specs.declared.side.Side.{Side}
use Rattle.sshneg.specs.declared.side.Side.TheVariants.{Client, Server}
use Rattle.sshpacket.specs.Stream.{Units}
use Rattle.sshpacket.proofs.Places.{first-push, stands-push}
use Rattle.sshcore.specs.declared.phase_table.Phase.{Phase}
use Rattle.sshcore.specs.declared.phase_table.Phase.TheVariants as phase
use Rattle.sshcore.specs.Before.{expects_guess, is_kexinit, kept, kexinit, offered, stood}
use Rattle.sshcore.specs.Phases.{leaving, next_phase, past_exchange, past_kexinit, past_newkeys, past_service, phase_at, phase_by}
use Rattle.sshcore.specs.Standing.{LeavesNone, Tied}

pub and_true : (x : Bool) → (x && true) ≡ x
and_true true = refl
and_true false = refl

cond_none : (x : Bool) → cond x true false ≡ x
cond_none true = refl
cond_none false = refl

pub offered_push : (before : Units) (payload : List ℕ) → offered (before ++ payload ∷ []) ≡ cond (offered before) true (message_number payload == 20)
unfolding offered
offered_push before payload = stands-push is_kexinit [] before payload

pub kexinit_push : (before : Units) (payload : List ℕ)
    → kexinit (before ++ payload ∷ []) ≡ cond (offered before) (kexinit before) (cond (message_number payload == 20) payload [])
unfolding offered kexinit
kexinit_push before payload = first-push [] is_kexinit [] before payload

module _ (role : Side) (own : KexInitData) (before : Units) (payload : List ℕ) where
  pub stood_push : (k : ℕ) → stood role own k (before ++ payload ∷ []) ≡ cond (stood role own k before) true (kept role own k before payload)
  unfolding stood
  stood_push k = stands-push (kept role own k) [] before payload

  pub kept_free : (k : ℕ) → expects_guess role own before ≡ false → kept role own k before payload ≡ (message_number payload == k)
  kept_free k none = rw none (and_true (message_number payload == k))

  pub kept_dropped : (k : ℕ) → expects_guess role own before ≡ true → (message_number payload == 1) ≡ false → kept role own k before payload ≡ false
  kept_dropped k due one = rw (due, one) (and_right (message_number payload == k) false refl)

  pub guess_offered : expects_guess role own before ≡ true → offered before ≡ true
  unfolding expects_guess
  guess_offered due = (and_parts _ _ due).0

  -- nothing that leaves a phase stood
  stays_by : (k : ℕ) (b : Bool) → stood role own k before ≡ b → kept role own k before payload ≡ false → stood role own k (before ++ payload ∷ []) ≡ b
  stays_by k b e none = stood_push k ∙ rw (none, e) (cond_none b)

  pub tied_dropped : (p : Phase) → Tied role own before p → expects_guess role own before ≡ true → (message_number payload == 1) ≡ false → Tied role own (before ++ payload ∷ []) p
  tied_dropped p t due one = record {
    offer = offered_push before payload ∙ rw (guess_offered due) (sym (guess_offered due) ∙ t.offer);
    kexinit = stays_by 20 (past_kexinit p) t.kexinit (kept_dropped 20 due one);
    exchange = stays_by (leaving role phase.Exchange) (past_exchange p) t.exchange (kept_dropped (leaving role phase.Exchange) due one);
    newkeys = stays_by 21 (past_newkeys p) t.newkeys (kept_dropped 21 due one);
    service = stays_by (leaving role phase.Service) (past_service p) t.service (kept_dropped (leaving role phase.Service) due one);
  }

  pub tied_stays : (p : Phase) → Tied role own before p → expects_guess role own before ≡ false → LeavesNone role (message_number payload) → Tied role own (before ++ payload ∷ []) p
  tied_stays p t none l = record {
    offer = offered_push before payload ∙ rw (l.kexinit, t.offer) (cond_none (past_kexinit p));
    kexinit = stays_by 20 (past_kexinit p) t.kexinit (kept_free 20 none ∙ l.kexinit);
    exchange = stays_by (leaving role phase.Exchange) (past_exchange p) t.exchange (kept_free (leaving role phase.Exchange) none ∙ l.exchange);
    newkeys = stays_by 21 (past_newkeys p) t.newkeys (kept_free 21 none ∙ l.newkeys);
    service = stays_by (leaving role phase.Service) (past_service p) t.service (kept_free (leaving role phase.Service) none ∙ l.service);
  }

  leaves_by : (k : ℕ) (p : Phase) (b : Bool) → stood role own k before ≡ b → expects_guess role own before ≡ false → message_number payload ≡ leaving role p
      → stood role own k (before ++ payload ∷ []) ≡ cond b true (leaving role p == k)
  leaves_by k p b e none is = stood_push k ∙ (rw (kept_free k none, e) refl ∙ ap (λ n. cond b true (n == k)) is)

-- the number that leaves a phase adds what is past in the phase after it
record LeavesTo (role : Side) (p : Phase) : Type 0 where
  kexinit : cond (past_kexinit p) true (leaving role p == 20) ≡ past_kexinit (next_phase p)
  exchange : cond (past_exchange p) true (leaving role p == leaving role phase.Exchange) ≡ past_exchange (next_phase p)
  newkeys : cond (past_newkeys p) true (leaving role p == 21) ≡ past_newkeys (next_phase p)
  service : cond (past_service p) true (leaving role p == leaving role phase.Service) ≡ past_service (next_phase p)

leaves_to : (role : Side) (p : Phase) → LeavesTo role p
leaves_to Client phase.KexInit = record { kexinit = refl; exchange = refl; newkeys = refl; service = refl }
leaves_to Client phase.Exchange = record { kexinit = refl; exchange = refl; newkeys = refl; service = refl }
leaves_to Client phase.NewKeys = record { kexinit = refl; exchange = refl; newkeys = refl; service = refl }
leaves_to Client phase.Service = record { kexinit = refl; exchange = refl; newkeys = refl; service = refl }
leaves_to Client phase.Auth = record { kexinit = refl; exchange = refl; newkeys = refl; service = refl }
leaves_to Server phase.KexInit = record { kexinit = refl; exchange = refl; newkeys = refl; service = refl }
leaves_to Server phase.Exchange = record { kexinit = refl; exchange = refl; newkeys = refl; service = refl }
leaves_to Server phase.NewKeys = record { kexinit = refl; exchange = refl; newkeys = refl; service = refl }
leaves_to Server phase.Service = record { kexinit = refl; exchange = refl; newkeys = refl; service = refl }
leaves_to Server phase.Auth = record { kexinit = refl; exchange = refl; newkeys = refl; service = refl }

pub tied_leaves : (role : Side) (own : KexInitData) (before : Units) (payload : List ℕ) (p : Phase) → Tied role own before p → expects_guess role own before ≡ false
    → message_number payload ≡ leaving role p → Tied role own (before ++ payload ∷ []) (next_phase p)
tied_leaves role own before payload p t none is =
    let to = leaves_to role p in
    record {
      offer = offered_push before payload ∙ (rw t.offer refl ∙ ap (λ n. cond (past_kexinit p) true (n == 20)) is) ∙ to.kexinit;
      kexinit = leaves_by role own before payload 20 p (past_kexinit p) t.kexinit none is ∙ to.kexinit;
      exchange = leaves_by role own before payload (leaving role phase.Exchange) p (past_exchange p) t.exchange none is ∙ to.exchange;
      newkeys = leaves_by role own before payload 21 p (past_newkeys p) t.newkeys none is ∙ to.newkeys;
      service = leaves_by role own before payload (leaving role phase.Service) p (past_service p) t.service none is ∙ to.service;
    }

phase_by_past : (p : Phase) → phase_by (past_kexinit p) (past_exchange p) (past_newkeys p) (past_service p) ≡ p
phase_by_past phase.KexInit = refl
phase_by_past phase.Exchange = refl
phase_by_past phase.NewKeys = refl
phase_by_past phase.Service = refl
phase_by_past phase.Auth = refl

pub tied_phase : (role : Side) (own : KexInitData) (before : Units) (p : Phase) → Tied role own before p → phase_at role own before ≡ p
tied_phase role own before p t = rw (t.kexinit, t.exchange, t.newkeys, t.service) (phase_by_past p)

pub tied_none : (role : Side) (own : KexInitData) → Tied role own [] phase.KexInit
unfolding offered stood
tied_none role own = record { offer = refl; kexinit = refl; exchange = refl; newkeys = refl; service = refl }
