-- The pairs of an EXT_INFO, one after another.

use Rattle.std.proofs.Common.{◌≡◌, ℕ, suc, ◌+◌, ◌-◌, ◌<◌, List, [], ◌∷◌, ◌++◌, Ok, Err, refl, arith}
use Rattle.sshwire.specs.declared.fault.WireFault.{WireFault}
use Rattle.sshwire.specs.TypeReadings.{◌>>=◌}
use Rattle.sshmsg.specs.MessageData.{extensions, ExtInfo}
use Rattle.sshmsg.specs.Form.{form_at}
use Rattle.sshmsg.specs.Lists.{pair_at}
use Rattle.sshmsg.proofs.OfferLemmas.{bind_bind}

step : (count counter : ℕ) → counter < count → count - counter ≡ suc (count - (counter + 1))
step count counter h = omega arith

one_more : (n : ℕ) (found : List (List ℕ × List ℕ)) (bytes : List ℕ) → form_at (extensions (suc n) found) bytes
    ≡ (pair_at bytes >>= λ p. form_at (extensions n (found ++ p.0 ∷ [])) p.1)
unfolding extensions pair_at
one_more n found bytes = simp bind_bind

pub one_pair : (count counter : ℕ) (found : List (List ℕ × List ℕ)) (bytes : List ℕ) (pair : List ℕ × List ℕ) (after : List ℕ) → counter < count
    → pair_at bytes ≡ Ok (pair, after)
    → form_at (extensions (count - counter) found) bytes ≡ form_at (extensions (count - (counter + 1)) (found ++ pair ∷ [])) after
one_pair count counter found bytes pair after h e = rw (step count counter h, one_more (count - (counter + 1)) found bytes, e) refl

pub no_pair : (count counter : ℕ) (found : List (List ℕ × List ℕ)) (bytes : List ℕ) (code : WireFault) → counter < count
    → pair_at bytes ≡ Err code → form_at (extensions (count - counter) found) bytes ≡ Err code
no_pair count counter found bytes code h e = rw (step count counter h, one_more (count - (counter + 1)) found bytes, e) refl

pub no_more : (count counter : ℕ) (found : List (List ℕ × List ℕ)) (bytes : List ℕ) → count - counter ≡ 0
    → form_at (extensions (count - counter) found) bytes ≡ Ok (ExtInfo found, bytes)
unfolding extensions
no_more count counter found bytes e = rw e refl
