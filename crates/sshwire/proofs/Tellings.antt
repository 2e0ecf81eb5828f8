-- What an open reader answers is what all bytes together mean.

use Rattle.std.proofs.Common.{◌≡◌, ◌≢◌, ℕ, ◌+◌, ◌-◌, ◌<◌, ◌≤◌, ◌⊎◌, inl, inr, List, [], ◌++◌, length, take, drop, Result, Ok, Err, refl, sym, ap, ◌∙◌, arith, subst}
use Rattle.std.proofs.lemmas.List.{append_assoc, append_cancel_right, length-append, length-drop, take-append-drop}
use Rattle.sshwire.specs.declared.fault.WireFault.{WireFault}
use Rattle.sshwire.specs.declared.fault.WireFault.TheVariants.{Line, TooLong, TooManyLines, Short, Name, NotCanonical, Memory}
use Rattle.sshwire.specs.declared.line_reader.LineStep.{LineStep}
use Rattle.sshwire.specs.declared.line_reader.LineStep.TheVariants as step
use Rattle.sshwire.specs.declared.line_form.LineForm.{LineForm}
use Rattle.sshwire.specs.declared.peer_line_reader.PeerStep.{PeerStep}
use Rattle.sshwire.specs.Lines.{LineOpen, LineRefusedBy, PreambleBy}
use Rattle.sshwire.specs.Reading.{Reading, More, Got, Stop, Stops, reading_by, then_on_by}
use Rattle.sshwire.specs.Meaning.{EndsPreambleBy, EndsRefusedBy, ReadingMeansBy}
use Rattle.sshwire.specs.LineReaderData.{LineReaderData, Progress, Waits, Finished, Refused}
use Rattle.sshwire.specs.Feeding.{NoneRefusedBy, OnlyPreambleAnswerBy, FeedAnswer, StandsOpen, PreambleAnswerBy, TellsRefusalBy, answer_of}
use Rattle.sshwire.proofs.Readings.{open_read, preamble_read, reading-append}
use Rattle.sshwire.proofs.Refusals.{reading_sound, refused_read, refused_within}

-- memory ran out in the words of either reader
pub memory_of : (result : Result PeerStep WireFault) → result ≡ Err Memory → answer_of result ≡ Err Memory
memory_of result e = ap answer_of e

module _ (form : LineForm) where
  -- after the bytes received so far the piece reads as it does after the unfinished line
  joined_reading : (k left : ℕ) (line received piece : List ℕ) → LineOpen k received left line → reading_by form k [] (received ++ piece) ≡ reading_by form left line piece
  joined_reading k left line received piece o =
      reading-append form k [] received piece ∙ ap (λ (r : Reading). then_on_by form r piece) (open_read form k received left line o)

  means_of : (k left : ℕ) (line received piece : List ℕ) (r : Reading) → LineOpen k received left line → reading_by form left line piece ≡ r → ReadingMeansBy form k (received ++ piece) r
  means_of k left line received piece r o read =
      subst (λ (x : Reading). ReadingMeansBy form k (received ++ piece) x) (joined_reading k left line received piece o ∙ read) (reading_sound form k (received ++ piece))

  -- the preamble ends with the last byte used
  ends_at_used : (k : ℕ) (received piece text : List ℕ) (used : ℕ) → EndsPreambleBy form k (received ++ piece) text (drop used piece)
      → PreambleBy form k text (received ++ take used piece)
  ends_at_used k received piece text used ends =
      let cut : (received ++ take used piece) ++ drop used piece ≡ ends.prefix ++ drop used piece
      = append_assoc received (take used piece) (drop used piece) ∙ (ap (λ (xs : List ℕ). received ++ xs) (take-append-drop used piece) ∙ ends.bytes_are) in
      let same : received ++ take used piece ≡ ends.prefix = append_cancel_right (received ++ take used piece) ends.prefix (drop used piece) cut in
      rw same ends.preamble

  refusal_place : (k : ℕ) (received piece : List ℕ) (code : WireFault) (taken : ℕ) → taken ≤ length piece
      → EndsRefusedBy form k (received ++ piece) code (drop taken piece)
      → (place : ℕ) × (place + 1 ≡ length received + taken) × LineRefusedBy form k (received ++ piece) place code
  refusal_place k received piece code taken within ends =
      let all : length (received ++ piece) ≡ length received + length piece = length-append received piece in
      let dropped : length (drop taken piece) ≡ length piece - taken = length-drop taken piece in
      let after : length (drop taken piece) ≡ length (received ++ piece) - (ends.place + 1)
      = ap (λ (xs : List ℕ). length xs) ends.rest_is ∙ length-drop (ends.place + 1) (received ++ piece) in
      let inside : ends.place < length (received ++ piece) = refused_within form k (received ++ piece) ends.place code ends.refused in
      (ends.place, omega arith, ends.refused)

  memory_or_not : (code : WireFault) → (code ≡ Memory) ⊎ (code ≢ Memory)
  memory_or_not Memory = inl refl
  memory_or_not Line = inr (λ e. cc)
  memory_or_not TooLong = inr (λ e. cc)
  memory_or_not TooManyLines = inr (λ e. cc)
  memory_or_not Short = inr (λ e. cc)
  memory_or_not Name = inr (λ e. cc)
  memory_or_not NotCanonical = inr (λ e. cc)

  tells_refusal : (k left : ℕ) (line received piece : List ℕ) (code : WireFault) (new : LineReaderData) → LineOpen k received left line
      → new.taken ≤ length piece → Stops code (reading_by form left line piece) (drop new.taken piece) → TellsRefusalBy form k received piece code new
  tells_refusal k left line received piece code new o within stops = λ other.
      let means : EndsRefusedBy form k (received ++ piece) code (drop new.taken piece) = means_of k left line received piece (Stop code (drop new.taken piece)) o (stops.refusal other) in
      refusal_place k received piece code new.taken within means

  tells_waiting : (k left : ℕ) (line received piece : List ℕ) (result : Result LineStep WireFault) (new : LineReaderData) → LineOpen k received left line
      → new.taken ≤ length piece → FeedAnswer (reading_by form left line piece) piece result new → PreambleAnswerBy form k received piece result new
  tells_waiting k left line received piece (Ok step.More) new o within (left', line', read, waits, taken) =
      let means : LineOpen k (received ++ piece) left' line' = means_of k left line received piece (More left' line') o read in
      (rw waits means, taken)
  tells_waiting k left line received piece (Ok (step.Done text used)) new o within (read, finished, taken) =
      let means : EndsPreambleBy form k (received ++ piece) text (drop used piece) = means_of k left line received piece (Got text (drop used piece)) o read in
      (rw (← taken) within, ends_at_used k received piece text used means, finished, taken)
  tells_waiting k left line received piece (Err code) new o within (stops, refused) =
      (tells_refusal k left line received piece code new o within stops, refused)

  -- an open reader waits
  pub tells : (k : ℕ) (received piece : List ℕ) (result : Result LineStep WireFault) (old : Progress) (new : LineReaderData) → StandsOpen k received old
      → new.taken ≤ length piece → ((left : ℕ) (line : List ℕ) → old ≡ Waits left line → FeedAnswer (reading_by form left line piece) piece result new)
      → PreambleAnswerBy form k received piece result new
  tells k received piece result (Waits left line) new o within reads = tells_waiting k left line received piece result new o within (reads left line refl)
  tells k received piece result Finished new o within reads = absurd o
  tells k received piece result (Refused code) new o within reads = absurd o

  -- No other answer comes.
  answer_of_more : (result : Result LineStep WireFault) (r : Reading) (piece : List ℕ) (new : LineReaderData) (left : ℕ) (line : List ℕ)
      → r ≡ More left line → FeedAnswer r piece result new → (result ≡ Ok step.More) ⊎ (result ≡ Err Memory)
  answer_of_more (Ok step.More) r piece new left line e reads = inl refl
  answer_of_more (Ok (step.Done text used)) r piece new left line e reads = let bad : More left line ≡ Got text (drop used piece) = sym e ∙ reads.0 in cc
  answer_of_more (Err code) r piece new left line e reads = elim (memory_or_not code) [
    | inl memory ↦ inr (ap Err memory)
    | inr known ↦ let bad : More left line ≡ Stop code (drop new.taken piece) = sym e ∙ reads.0.refusal known in cc
  ]

  answer_of_got : (result : Result LineStep WireFault) (r : Reading) (piece : List ℕ) (new : LineReaderData) (text : List ℕ) (used : ℕ) → used ≤ length piece
      → new.taken ≤ length piece → r ≡ Got text (drop used piece) → FeedAnswer r piece result new → (result ≡ Ok (step.Done text used)) ⊎ (result ≡ Err Memory)
  answer_of_got (Ok step.More) r piece new text used fits within e (left, line, read, waits, taken) =
      let bad : Got text (drop used piece) ≡ More left line = sym e ∙ read in cc
  answer_of_got (Ok (step.Done text' used')) r piece new text used fits within e (read, finished, taken) =
      let same : Got text (drop used piece) ≡ Got text' (drop used' piece) = sym e ∙ read in
      let rests : drop used piece ≡ drop used' piece = cc in
      let lengths : length piece - used ≡ length piece - used' = sym (length-drop used piece) ∙ (ap (λ (xs : List ℕ). length xs) rests ∙ length-drop used' piece) in
      let one : used' ≡ used = omega arith in
      let texts : text' ≡ text = cc in
      inl cc
  answer_of_got (Err code) r piece new text used fits within e reads = elim (memory_or_not code) [
    | inl memory ↦ inr (ap Err memory)
    | inr known ↦ let bad : Got text (drop used piece) ≡ Stop code (drop new.taken piece) = sym e ∙ reads.0.refusal known in cc
  ]

  answer_of_stop : (result : Result LineStep WireFault) (r : Reading) (piece : List ℕ) (new : LineReaderData) (code : WireFault) (rest : List ℕ)
      → r ≡ Stop code rest → FeedAnswer r piece result new → (result ≡ Err code) ⊎ (result ≡ Err Memory)
  answer_of_stop (Ok step.More) r piece new code rest e (left, line, read, waits, taken) =
      let bad : Stop code rest ≡ More left line = sym e ∙ read in cc
  answer_of_stop (Ok (step.Done text used)) r piece new code rest e reads = let bad : Stop code rest ≡ Got text (drop used piece) = sym e ∙ reads.0 in cc
  answer_of_stop (Err other) r piece new code rest e reads = elim (memory_or_not other) [
    | inl memory ↦ inr (ap Err memory)
    | inr known ↦ let same : Stop code rest ≡ Stop other (drop new.taken piece) = sym e ∙ reads.0.refusal known in let codes : other ≡ code = cc in inl (ap Err codes)
  ]

  only_waiting : (k left : ℕ) (line received piece : List ℕ) (result : Result LineStep WireFault) (new : LineReaderData) → LineOpen k received left line
      → new.taken ≤ length piece → FeedAnswer (reading_by form left line piece) piece result new → OnlyPreambleAnswerBy form k received piece result
  only_waiting k left line received piece result new o within reads =
      let joins : reading_by form k [] (received ++ piece) ≡ reading_by form left line piece = joined_reading k left line received piece o in
      record {
        more = λ left' line' stands. answer_of_more result (reading_by form left line piece) piece new left' line'
            (sym joins ∙ open_read form k (received ++ piece) left' line' stands) reads;
        done = λ used text fits preamble.
            let cut : (received ++ take used piece) ++ drop used piece ≡ received ++ piece
            = append_assoc received (take used piece) (drop used piece) ∙ ap (λ (xs : List ℕ). received ++ xs) (take-append-drop used piece) in
            let read : reading_by form k [] (received ++ piece) ≡ Got text (drop used piece)
            = ap (λ (xs : List ℕ). reading_by form k [] xs) (sym cut) ∙ preamble_read form k text (received ++ take used piece) (drop used piece) preamble in
            answer_of_got result (reading_by form left line piece) piece new text used fits within (sym joins ∙ read) reads;
        refused = λ place code stands.
            let s = refused_read form k (received ++ piece) place code stands in
            answer_of_stop result (reading_by form left line piece) piece new code s.rest (sym joins ∙ s.stops) reads;
      }

  pub only : (k : ℕ) (received piece : List ℕ) (result : Result LineStep WireFault) (old : Progress) (new : LineReaderData) → StandsOpen k received old
      → new.taken ≤ length piece → ((left : ℕ) (line : List ℕ) → old ≡ Waits left line → FeedAnswer (reading_by form left line piece) piece result new)
      → OnlyPreambleAnswerBy form k received piece result
  only k received piece result (Waits left line) new o within reads = only_waiting k left line received piece result new o within (reads left line refl)
  only k received piece result Finished new o within reads = absurd o
  only k received piece result (Refused code) new o within reads = absurd o

  -- Where memory ran out no refusal was due.
  none_waiting : (k left : ℕ) (line received piece : List ℕ) (result : Result LineStep WireFault) (new : LineReaderData) → LineOpen k received left line
      → FeedAnswer (reading_by form left line piece) piece result new → result ≡ Err Memory → NoneRefusedBy form k (received ++ take new.taken piece)
  none_waiting k left line received piece (Ok x) new o reads e place code refused = cc
  none_waiting k left line received piece (Err fault) new o reads e place code refused =
      let used : List ℕ = take new.taken piece in
      let rest : List ℕ = drop new.taken piece in
      let memory : fault ≡ Memory = cc in
      let s = refused_read form k (received ++ used) place code refused in
      let stops : reading_by form left line used ≡ Stop code s.rest = sym (joined_reading k left line received used o) ∙ s.stops in
      let cut : reading_by form left line piece ≡ then_on_by form (reading_by form left line used) rest
      = ap (λ (xs : List ℕ). reading_by form left line xs) (sym (take-append-drop new.taken piece)) ∙ reading-append form left line used rest in
      let less : length (s.rest ++ rest) < length rest = reads.0.memory memory code (s.rest ++ rest) (cut ∙ ap (λ (r : Reading). then_on_by form r rest) stops) in
      let long : length (s.rest ++ rest) ≡ length s.rest + length rest = length-append s.rest rest in
      omega arith

  pub none_refused : (k : ℕ) (received piece : List ℕ) (result : Result LineStep WireFault) (old : Progress) (new : LineReaderData) → StandsOpen k received old
      → ((left : ℕ) (line : List ℕ) → old ≡ Waits left line → FeedAnswer (reading_by form left line piece) piece result new)
      → result ≡ Err Memory → NoneRefusedBy form k (received ++ take new.taken piece)
  none_refused k received piece result (Waits left line) new o reads e = none_waiting k left line received piece result new o (reads left line refl) e
  none_refused k received piece result Finished new o reads e = absurd o
  none_refused k received piece result (Refused code) new o reads e = absurd o
