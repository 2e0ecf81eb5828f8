-- What a server tells a client that asks for extensions.

use Rattle.std.proofs.Common.{◌≡◌, ℕ, ◌==◌, Bool, true, false, List, [], ◌∷◌, length, map, refl, arith}
use Rattle.std.proofs.lemmas.Bool.{eqb-true, true≢false}
use Rattle.sshwire.specs.Types.{names_body}
use Rattle.sshmsg.specs.MessageData.{ExtInfo}
use Rattle.sshmsg.specs.Numbers.{message_number}
use Rattle.sshmsg.specs.Written.{written_message}
use Rattle.sshmsg.specs.Messages.{message_in}
use Rattle.sshcore.specs.Work.{asks_for_extensions, extensions_by, server_sig_algs}

module _ {X : Type 0} (view : X → List ℕ) where
  -- nothing where there is no list
  pub told_none : (xs : List X) (names : List (List ℕ)) (asks : Bool) → map view xs ≡ names → (length xs == 0) ≡ true → [] ≡ extensions_by names asks
  told_none [] names asks same none = rw (← same) refl
  told_none (x ∷ xs) names asks same none = absurd (let e : length (x ∷ xs) ≡ 0 = eqb-true (length (x ∷ xs)) 0 none in omega arith)

  -- the list where there is one, and the client asks
  pub told_some : (xs : List X) (names : List (List ℕ)) (b asks : Bool) → map view xs ≡ names → (length xs == 0) ≡ false → b ≡ asks → b ≡ true
      → written_message (ExtInfo ((server_sig_algs, names_body (map view xs)) ∷ [])) ∷ [] ≡ extensions_by names asks
  told_some [] names b asks same some is on = absurd (true≢false some)
  told_some (x ∷ xs) names b asks same some is on = rw (← same, ← is, on) refl

-- and nothing where the client doesn't ask
pub told_unasked : (names : List (List ℕ)) (b asks : Bool) → b ≡ asks → b ≡ false → [] ≡ extensions_by names asks
told_unasked [] b asks is off = refl
told_unasked (name ∷ names) b asks is off = rw (← is, off) refl

-- no bytes ask
pub none_asked : (bytes : List ℕ) → bytes ≡ [] → false ≡ asks_for_extensions bytes
unfolding message_in
none_asked bytes e = rw e refl

-- it is no NEWKEYS
pub extensions_quiet : (body : List ℕ) → (message_number (written_message (ExtInfo ((server_sig_algs, body) ∷ []))) == 21) ≡ false
unfolding written_message
extensions_quiet body = refl
