-- One payload more at an endpoint, of strictness.

use Rattle.std.proofs.Common.{◌≡◌, ℕ, ◌<◌, ◌≤◌, true, false, List, [], ◌∷◌, ◌++◌, Some, refl, sym, ap, ◌∙◌, arith, append_assoc}
use Rattle.std.proofs.lemmas.Bool.{true≢false}
use Rattle.std.proofs.lemmas.List.{append-nil}
use Rattle.sshmsg.specs.MessageData.{KexInitData}
use Rattle.sshmsg.specs.Numbers.{message_number}
use Rattle.sshneg.specs.declared.side.Side.{Side}
use Rattle.sshneg.specs.declared.side.Side.TheVariants.{Client, Server}
use Rattle.sshneg.specs.ExchangeEnd.{offer_in}
use Rattle.sshpacket.specs.Stream.{Units}
use Rattle.sshcore.specs.declared.phase_table.Phase.{Phase}
use Rattle.sshcore.specs.declared.phase_table.Phase.TheVariants as phase
use Rattle.sshcore.specs.Before.{expects_guess, offered, strict_at, wrong_guess}
use Rattle.sshcore.specs.EndpointParts.{ConfigData}
use Rattle.sshcore.specs.Phases.{leaving, past_exchange, past_kexinit}
use Rattle.sshcore.specs.Standing.{Tied}
use Rattle.sshcore.specs.StrictSequence.{BeginsStrictly, Guessed, NotGuessed, share_number}
use Rattle.sshcore.specs.Table.{is_of_method, is_ruled}
use Rattle.sshcore.proofs.LawsBelow.{Below}
use Rattle.sshcore.proofs.GuessLemmas.{first_guess, has_number, no_guess, strict_push, wrong_complete, wrong_sound}
use Rattle.sshcore.proofs.PhaseLemmas.{guess_offered}
use Rattle.sshcore.proofs.StrictStages.{Follows, SoFar, StoodKexinit, StoodShare}
use Rattle.sshcore.proofs.TableLemmas.{in_range}

pub leaving_kexinit : (role : Side) → leaving role phase.KexInit ≡ 20
leaving_kexinit Client = refl
leaving_kexinit Server = refl

pub leaving_newkeys : (role : Side) → leaving role phase.NewKeys ≡ 21
leaving_newkeys Client = refl
leaving_newkeys Server = refl

pub leaving_exchange : (role : Side) → leaving role phase.Exchange ≡ share_number role
leaving_exchange Client = refl
leaving_exchange Server = refl

pub share_some : (role : Side) → 0 < share_number role
share_some Client = omega arith
share_some Server = omega arith

pub begins_more : (role : Side) (own : KexInitData) (before : Units) (payload : List ℕ) → BeginsStrictly role own before → BeginsStrictly role own (before ++ payload ∷ [])
begins_more role own before payload b = record {
  sequence = b.sequence;
  rest = b.rest ++ payload ∷ [];
  is_sequence = b.is_sequence;
  payloads_are = ap (λ (l : Units). l ++ payload ∷ []) b.payloads_are ∙ append_assoc b.sequence b.rest (payload ∷ []);
}

module _ (role : Side) (config : ConfigData) (before : Units) (payload : List ℕ) where
  abbrev pub more : Units
  more = before ++ payload ∷ []

  -- the packet of a wrong guess
  pub dropped_guess : (p : Phase) → Follows role config before p → expects_guess role config.offer before ≡ true
      → (is_ruled p (strict_at role config before) ≡ true → is_of_method (message_number payload) ≡ true) → strict_at role config before ≡ true → SoFar role config.offer more p
  dropped_guess phase.KexInit f due ruled s = tt
  dropped_guess phase.Exchange f due ruled s =
      let k = (f.so_far s).1 in
      let r = in_range 30 49 (message_number payload) (ruled s) in
      let low : 30 ≤ message_number payload = r.0 in (
        ((f.so_far s).0 ++ payload ∷ []),
        record {
          peer = k.peer;
          kexinit = k.kexinit;
          payloads_are = ap (λ (l : Units). l ++ payload ∷ []) k.payloads_are;
          offered = k.offered;
          wrong = λ again. absurd (true≢false (sym again ∙ no_guess role config.offer before payload (guess_offered role config.offer before payload due)));
          part = λ _. Guessed (k.wrong due) payload (record { number = message_number payload; low = r.0; high = r.1; has = has_number payload (message_number payload) refl (omega arith) })
              (ap (λ (l : Units). l ++ payload ∷ []) (k.due due));
          due = λ again. absurd (true≢false (sym again ∙ no_guess role config.offer before payload (guess_offered role config.offer before payload due)));
        },
      )
  dropped_guess phase.NewKeys f due ruled s = absurd (true≢false (sym due ∙ f.none_due refl))
  dropped_guess phase.Service f due ruled s = absurd (true≢false (sym due ∙ f.none_due refl))
  dropped_guess phase.Auth f due ruled s = absurd (true≢false (sym due ∙ f.none_due refl))

  -- what leaves no phase
  pub stays_so_far : (p : Phase) → Follows role config before p → is_ruled p (strict_at role config before) ≡ false → strict_at role config before ≡ true → SoFar role config.offer more p
  stays_so_far phase.KexInit f off s = tt
  stays_so_far phase.Exchange f off s = absurd (true≢false (sym s ∙ off))
  stays_so_far phase.NewKeys f off s = absurd (true≢false (sym s ∙ off))
  stays_so_far phase.Service f off s = begins_more role config.offer before payload (f.so_far s)
  stays_so_far phase.Auth f off s = begins_more role config.offer before payload (f.so_far s)

  pub past_offer : (p : Phase) → Tied role config.offer before p → past_exchange p ≡ true → offered before ≡ true
  past_offer phase.KexInit t e = absurd (true≢false (sym e))
  past_offer phase.Exchange t e = t.offer
  past_offer phase.NewKeys t e = t.offer
  past_offer phase.Service t e = t.offer
  past_offer phase.Auth t e = t.offer

  -- once the KEXINIT has stood
  pub strict_before : (p : Phase) → Tied role config.offer before p → past_kexinit p ≡ true → strict_at role config more ≡ true → strict_at role config before ≡ true
  strict_before p t e s = sym (strict_push role config before payload (t.offer ∙ e)) ∙ s

  pub shares : Follows role config before phase.Exchange → expects_guess role config.offer before ≡ false → message_number payload ≡ leaving role phase.Exchange
      → strict_at role config before ≡ true → StoodShare role config.offer more
  shares f none is s =
      let k = (f.so_far s).1 in
      record {
        peer = k.peer;
        kexinit = k.kexinit;
        guess = (f.so_far s).0;
        share = payload;
        payloads_are = ap (λ (l : Units). l ++ payload ∷ []) k.payloads_are;
        offered = k.offered;
        part = k.part none;
        has = has_number payload (share_number role) (is ∙ leaving_exchange role) (share_some role);
      }

  pub completes : Follows role config before phase.NewKeys → message_number payload ≡ leaving role phase.NewKeys → strict_at role config before ≡ true → BeginsStrictly role config.offer more
  completes f is s =
      let k = f.so_far s in
      record {
        sequence = before ++ payload ∷ [];
        rest = [];
        is_sequence = record {
          peer = k.peer;
          kexinit = k.kexinit;
          guess = k.guess;
          share = k.share;
          newkeys = payload;
          payloads_are = ap (λ (l : Units). l ++ payload ∷ []) k.payloads_are ∙ ap (λ (l : Units). k.kexinit ∷ l) (append_assoc k.guess (k.share ∷ []) (payload ∷ []));
          offered = k.offered;
          guess_part = k.part;
          share_has = k.has;
          newkeys_has = has_number payload 21 (is ∙ leaving_newkeys role) (omega arith);
        };
        payloads_are = sym (append-nil (before ++ payload ∷ []));
      }

  -- a KEXINIT in the first place
  pub opens : Below → (peer : KexInitData) → before ≡ [] → offered before ≡ false → message_number payload ≡ 20 → offer_in payload ≡ Some peer → StoodKexinit role config.offer more []
  opens below peer none not_offered is offers =
      let alone : before ++ payload ∷ [] ≡ payload ∷ [] = ap (λ (l : Units). l ++ payload ∷ []) none in
      let due : expects_guess role config.offer (before ++ payload ∷ []) ≡ wrong_guess role config.offer (Some peer)
      = first_guess role config.offer before payload not_offered is ∙ ap (λ o. wrong_guess role config.offer o) offers in
      record {
        peer = peer;
        kexinit = payload;
        payloads_are = alone;
        offered = record { has = has_number payload 20 is (omega arith); offers = offers };
        wrong = λ e. wrong_sound below role config.offer peer (sym due ∙ e);
        part = λ e. NotGuessed (wrong_complete below role config.offer peer (sym due ∙ e)) refl;
        due = λ _. refl;
      }
