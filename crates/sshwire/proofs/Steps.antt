-- What the readers answer, by what was taken of the piece.

use Rattle.std.proofs.Common.{◌≡◌, ◌≢◌, ℕ, true, List, length, drop, Option, None, Some, Result, Ok, Err, Vec, refl, sym, ap, ◌∙◌, subst}
use Rattle.sshwire.specs.declared.fault.WireFault.{WireFault}
use Rattle.sshwire.specs.declared.fault.WireFault.TheVariants.{Memory}
use Rattle.sshwire.specs.declared.line_form.LineForm.{LineForm}
use Rattle.sshwire.specs.declared.line_form.LineForm.TheVariants.{Strict}
use Rattle.sshwire.specs.declared.line_reader.LineStep.TheVariants as step
use Rattle.sshwire.specs.declared.peer_line_reader.Ending.{Ending}
use Rattle.sshwire.specs.declared.peer_line_reader.Ending.TheVariants as ending
use Rattle.sshwire.specs.declared.peer_line_reader.PeerStep.{PeerStep}
use Rattle.sshwire.specs.declared.peer_line_reader.PeerStep.TheVariants as peer
use Rattle.sshwire.specs.Feeding.{FeedAnswer, TakeAnswer, answer_of}
use Rattle.sshwire.specs.LineReaderData.{Finished, LineReaderData, PeerLineReaderData, Refused, Waits}
use Rattle.sshwire.specs.Lines.{text_in, with_lf}
use Rattle.sshwire.specs.PeerLineReaderInside.{progress_of}
use Rattle.sshwire.specs.Reading.{Got, More, Reading, Stop, before_cr, is_line_by, reading, reading_by, text_by}
use Rattle.sshwire.proofs.DeployedText.{taken}

-- where all of a piece is read and more is wanted
pub more_reads : (Z : Type 0) (form : LineForm) (e : Ending) (l : ℕ) (held : List ℕ) (left : ℕ) (line piece : List ℕ) (new : LineReaderData)
    → progress_of e l held ≢ Finished → new.progress ≡ progress_of e left line → new.taken ≡ length piece → reading_by form l held piece ≡ More left line
    → (k : ℕ) (text : List ℕ) → progress_of e l held ≡ Waits k text → TakeAnswer {Z = Z} form (reading_by form k text piece) piece (Ok None) new
more_reads Z form ending.Open l held left line piece new some is all read k text waits =
    let count : l ≡ k = cc in
    let same : held ≡ text = cc in
    (left, line, rw (← count, ← same) read, is, all)
more_reads Z form ending.Done l held left line piece new some is all read k text waits = cc
more_reads Z form (ending.Refused code) l held left line piece new some is all read k text waits = cc

module _ {Z : Type 0} (form : LineForm) (r : Reading) (piece : List ℕ) (new : LineReaderData) (field : Option (Vec ℕ Z)) where
  -- what was taken is the step of it
  more_answer : field ≡ None → TakeAnswer form r piece (Ok field) new → FeedAnswer r piece (Ok step.More) new
  more_answer none t = (let a : TakeAnswer {Z = Z} form r piece (Ok None) new = rw none at t in a)

  some_taken : (line : Vec ℕ Z) → field ≡ Some line → TakeAnswer form r piece (Ok field) new → TakeAnswer {Z = Z} form r piece (Ok (Some line)) new
  some_taken line some t = rw some at t

  done_answer : (line : Vec ℕ Z) (version : List ℕ) (used : ℕ) → field ≡ Some line → version ≡ text_by form line.items → used ≡ new.taken
      → TakeAnswer form r piece (Ok field) new → FeedAnswer r piece (Ok (step.Done version used)) new
  done_answer line version used some is at t =
      let a = some_taken line some t in
      (a.0.1 ∙ (ap (λ (text : List ℕ). Got text (drop new.taken piece)) (sym is) ∙ ap (λ (n : ℕ). Got version (drop n piece)) (sym at)), a.1, sym at)

  -- the same of a peer's step
  pub peer_more : (result : Result PeerStep WireFault) → result ≡ Ok peer.More → field ≡ None → TakeAnswer form r piece (Ok field) new
      → FeedAnswer r piece (answer_of result) new
  peer_more result is none t = rw is (more_answer none t)

  pub peer_done : (result : Result PeerStep WireFault) (line : Vec ℕ Z) (version : List ℕ) (used : ℕ) → result ≡ Ok (peer.Done version used) → field ≡ Some line
      → is_line_by form line.items ≡ true → version ≡ before_cr line.items → used ≡ new.taken → TakeAnswer form r piece (Ok field) new
      → FeedAnswer r piece (answer_of result) new
  peer_done result line version used is some test text at t =
      rw is (done_answer line version used some (text ∙ sym (taken form line.items test).text_is) at t)

pub peer_refused : (Z : Type 0) (form : LineForm) (r : Reading) (piece : List ℕ) (new : LineReaderData) (result : Result PeerStep WireFault) (code : WireFault)
    → result ≡ Err code → TakeAnswer {Z = Z} form r piece (Err code) new → FeedAnswer r piece (answer_of result) new
peer_refused Z form r piece new result code is t = rw is t

-- By the letter, where the fields of a reader are of that form.
module _ {Z : Type 0} (old now : LineReaderData) (form : LineForm) (piece : List ℕ) (new : LineReaderData) (field : Option (Vec ℕ Z)) (same : old ≡ now) (is : form ≡ Strict)
    (reads : (left : ℕ) (line : List ℕ) → old.progress ≡ Waits left line → TakeAnswer form (reading_by form left line piece) piece (Ok field) new) where
  strict_take : (left : ℕ) (line : List ℕ) → now.progress ≡ Waits left line → TakeAnswer Strict (reading left line piece) piece (Ok field) new
  strict_take left line waits =
      subst (λ (f : LineForm). TakeAnswer f (reading_by f left line piece) piece (Ok field) new) is (reads left line (ap (λ (d : LineReaderData). d.progress) same ∙ waits))

  pub strict_more : field ≡ None → (left : ℕ) (line : List ℕ) → now.progress ≡ Waits left line → FeedAnswer (reading left line piece) piece (Ok step.More) new
  strict_more none left line waits = more_answer Strict (reading left line piece) piece new field none (strict_take left line waits)

  pub strict_done : (had : Vec ℕ Z) (version : List ℕ) (used : ℕ) → field ≡ Some had → version ≡ text_in (with_lf had.items) → used ≡ new.taken
      → (left : ℕ) (line : List ℕ) → now.progress ≡ Waits left line → FeedAnswer (reading left line piece) piece (Ok (step.Done version used)) new
  strict_done had version used some text at left line waits =
      done_answer Strict (reading left line piece) piece new field had version used some text at (strict_take left line waits)

  -- where memory runs out for the LF, nothing was refused
  pub strict_memory : (had : Vec ℕ Z) (after : PeerLineReaderData) (own : LineForm) → field ≡ Some had
      → after ≡ record { state = record { progress = Refused Memory; taken = new.taken }; form = own }
      → (left : ℕ) (line : List ℕ) → now.progress ≡ Waits left line → FeedAnswer (reading left line piece) piece (Err Memory) after.state
  strict_memory had after own some stands left line waits =
      let a = some_taken Strict (reading left line piece) piece new field had some (strict_take left line waits) in
      rw stands (
        record {
          refusal = λ other. absurd (other refl);
          memory = λ e code rest stop. (let bad : Got (text_in (with_lf had.items)) (drop new.taken piece) ≡ Stop code rest = sym a.0.1 ∙ stop in cc);
        },
        refl,
      )
