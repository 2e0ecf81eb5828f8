-- A string that is UTF-8 text, or isn't.

use Rattle.std.proofs.Common.{◌≡◌, ℕ, Bool, true, false, List, Ok, Err, refl}
use Rattle.std.specs.Str.{IsUtf8, is_utf8}
use Rattle.std.proofs.lemmas.Str.{IsUtf8-from_is_utf8, is_utf8-from_IsUtf8}
use Rattle.sshwire.specs.declared.fault.WireFault.{WireFault}
use Rattle.sshwire.specs.declared.fault.WireFault.TheVariants.{Name}
use Rattle.sshwire.specs.TypeReadings.{string_at}
use Rattle.sshmsg.specs.Form.{utf8_at}

pub is_text : (bytes text rest : List ℕ) → string_at bytes ≡ Ok (text, rest) → IsUtf8 text → utf8_at bytes ≡ Ok (text, rest)
unfolding utf8_at
is_text bytes text rest e h = rw (e, is_utf8-from_IsUtf8 text h) refl

not_utf8 : (text : List ℕ) → (IsUtf8 text → ⊥) → (b : Bool) → is_utf8 text ≡ b → is_utf8 text ≡ false
not_utf8 text against true e = absurd (against (IsUtf8-from_is_utf8 text e))
not_utf8 text against false e = e

pub no_text : (bytes text rest : List ℕ) → string_at bytes ≡ Ok (text, rest) → (IsUtf8 text → ⊥) → utf8_at bytes ≡ Err Name
unfolding utf8_at
no_text bytes text rest e against = rw (e, not_utf8 text against (is_utf8 text) refl) refl

pub no_string : (bytes : List ℕ) (code : WireFault) → string_at bytes ≡ Err code → utf8_at bytes ≡ Err code
unfolding utf8_at
no_string bytes code e = rw e refl
