-- Texts of a record that are read.

use Rattle.std.specs.Prelude.{⊤}
use Rattle.std.proofs.Common.{◌≡◌, ◌∙◌, ◌<◌, ◌^◌, ℕ, Bool, true, false, List, ◌++◌, length, Option, None, Some, IfSome, OnOk, Result, Ok, Err, refl, subst, sym}
use Rattle.std.proofs.lemmas.Bool.{true≢false}
use Rattle.sshwire.proofs.TypeLemmas.{string_reading}
use Rattle.sshwire.specs.Types.{StringText, string}
use Rattle.sshpacket.specs.KeysData.{KeysData}
use Rattle.sshcore.specs.declared.record_reading.RecordReader.{RecordReader}
use Rattle.sshcore.specs.RecordReads.{Reads}
use Rattle.sshcore.specs.RecordData.{OfLines, OfPackets, ReaderRecord}
use Rattle.sshcore.specs.RecordText.{flag_text, keys_text, number_text, option_text, reader_text}

-- of two strings that stand at one place both are the same
pub string_one : (s x new rest old text : List ℕ) → StringText s text → old ≡ text ++ new → length x < 2 ^ 32 → old ≡ string x ++ rest → (s ≡ x) × (new ≡ rest)
string_one s x new rest old text is e short other = string_reading.one s x text (string x) new rest is (short, refl) (sym e ∙ other)

-- what is written after something else
pub on_ok : {A E P Q : Type 0} (result : Result A E) → (P → Q) → OnOk result P → OnOk result Q
on_ok (Ok x) f p = f p
on_ok (Err e) f p = tt

-- Of what may be missing: where the flag is read as false nothing is there, and else it is.
module _ {X : Type 0} (text : X → List ℕ → List ℕ) (old new : RecordReader) (flag : Bool) (reads : Reads flag_text (λ _. ⊤) old flag new) where
  pub absent : (x : Option X) (rest : List ℕ) → flag ≡ false → old.reader ≡ option_text text x rest
      → (None ≡ x) × (new.reader ≡ rest) × (new.is_whole ≡ old.is_whole)
  absent None rest off e = let read = reads false rest tt e in (refl, read.1, read.2)
  absent (Some a) rest off e = let read = reads true (text a rest) tt e in absurd (true≢false (sym read.0 ∙ off))

  pub there : (x : Option X) (rest : List ℕ) → flag ≡ true → old.reader ≡ option_text text x rest
      → (a : X) × (x ≡ Some a) × (new.reader ≡ text a rest) × (new.is_whole ≡ old.is_whole)
  there None rest on e = let read = reads false rest tt e in absurd (true≢false (sym on ∙ read.0))
  there (Some a) rest on e = let read = reads true (text a rest) tt e in (a, refl, read.1, read.2)

some_is : {X : Type 0} (b a : X) → ◌≡◌ {A = Option X} (Some b) (Some a) → b ≡ a
some_is b a e = cc

-- and what fits is what is there
pub fits_there : {X : Type 0} (P : X → Type 0) (x : Option X) (a : X) → IfSome x P → x ≡ Some a → P a
fits_there P (Some b) a fits is = subst P (some_is b a is) fits
fits_there P None a fits is = absurd cc

-- a reader of lines, or of packets, by what its flag is read as
pub record Lines (x : ReaderRecord) (old new : RecordReader) (rest : List ℕ) : Type 0 where
  pub others : ℕ
  pub line : List ℕ
  pub is : x ≡ OfLines others line
  pub left : new.reader ≡ number_text others rest
  pub whole : new.is_whole ≡ old.is_whole

pub record Packets (x : ReaderRecord) (old new : RecordReader) (rest : List ℕ) : Type 0 where
  pub keys : Option KeysData
  pub number : ℕ
  pub held : List ℕ
  pub is : x ≡ OfPackets keys number held
  pub left : new.reader ≡ option_text keys_text keys (number_text number rest)
  pub whole : new.is_whole ≡ old.is_whole

module _ (old new : RecordReader) (flag : Bool) (reads : Reads flag_text (λ _. ⊤) old flag new) where
  pub lines_there : (x : ReaderRecord) (rest : List ℕ) → flag ≡ false → old.reader ≡ reader_text x rest → Lines x old new rest
  lines_there (OfLines others line) rest off e =
      let read = reads false (number_text others rest) tt e in
      record { others = others; line = line; is = refl; left = read.1; whole = read.2 }
  lines_there (OfPackets keys number held) rest off e =
      absurd (true≢false (sym (reads true (option_text keys_text keys (number_text number rest)) tt e).0 ∙ off))

  pub packets_there : (x : ReaderRecord) (rest : List ℕ) → flag ≡ true → old.reader ≡ reader_text x rest → Packets x old new rest
  packets_there (OfLines others line) rest on e =
      absurd (true≢false (sym on ∙ (reads false (number_text others rest) tt e).0))
  packets_there (OfPackets keys number held) rest on e =
      let read = reads true (option_text keys_text keys (number_text number rest)) tt e in
      record { keys = keys; number = number; held = held; is = refl; left = read.1; whole = read.2 }
