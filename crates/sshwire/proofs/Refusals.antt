-- A refusal is where the reading stops: at the least place at which a cause stands, before any preamble ends.

use Rattle.std.proofs.Common.{◌≡◌, ℕ, ◌+◌, ◌-◌, ◌<◌, ◌≤◌, inl, inr, false, List, [], ◌∷◌, ◌++◌, length, take, drop, refl, sym, ap, ◌∙◌, arith, eqb, leb, subst}
use Rattle.std.specs.List.{AllByRecursion, starts_with}
use Rattle.std.proofs.lemmas.Bool.{cases_Bool, both_ways, false_from_ne_true}
use Rattle.std.proofs.lemmas.List.{append_assoc, length-append, take_at, drop_at, take-append-drop, length-take, length-drop}
use Rattle.sshwire.specs.declared.fault.WireFault.{WireFault}
use Rattle.sshwire.specs.declared.fault.WireFault.TheVariants.{Line, TooLong, TooManyLines, Short, Name, NotCanonical, Memory}
use Rattle.sshwire.specs.declared.line_form.LineForm.{LineForm}
use Rattle.sshwire.specs.declared.line_form.LineForm.TheVariants.{Strict}
use Rattle.sshwire.specs.Lines.{IsVersionText, version_line, HasCauseBy, HasNoLf, IsCauseBy, IsLineByte, IsOtherLine, IsPlace, LineOpen, LineRefusedBy, PreambleBy, joined, ssh}
use Rattle.sshwire.specs.Reading.{Reading, More, Got, Stop, is_line_by, reading, reading_by, text_by, then_on_by}
use Rattle.sshwire.specs.Meaning.{EndsPreambleBy, EndsRefusedBy, IsLeftOf, ReadingMeansBy}
use Rattle.sshwire.proofs.DeployedText.{line_wider, tested_wider, text_wider}
use Rattle.sshwire.proofs.Readings.{Parts, Stopped, open_read, preamble_read, read_parts, reading-append, reads_no_version, reads_nul, reads_too_long, reads_too_many}

module _ (form : LineForm) where
  -- Bytes are cut into lines in one way.
  no_lf_line : (line : List ℕ) → AllByRecursion IsLineByte line → HasNoLf line
  no_lf_line [] each = tt
  no_lf_line (b ∷ bs) each = (each.0.no_lf, no_lf_line bs each.1)

  no_lf_lines : (lines : List (List ℕ)) → AllByRecursion IsOtherLine lines → AllByRecursion HasNoLf lines
  no_lf_lines [] each = tt
  no_lf_lines (line ∷ lines) each = (no_lf_line line each.0.unfinished.bytes, no_lf_lines lines each.1)

  record SamePrefix (a b x y : List ℕ) : Type 0 where
    prefix : a ≡ b
    rest : x ≡ y

  -- two lines that end at their first LF
  same_line : (a b x y : List ℕ) → HasNoLf a → HasNoLf b → a ++ 10 ∷ x ≡ b ++ 10 ∷ y → SamePrefix a b x y
  same_line [] [] x y p q e = record { prefix = refl; rest = cc }
  same_line [] (d ∷ b) x y p q e = let is : d ≡ 10 = cc in absurd (q.0 is)
  same_line (c ∷ a) [] x y p q e = let is : c ≡ 10 = cc in absurd (p.0 is)
  same_line (c ∷ a) (d ∷ b) x y p q e =
      let head : c ≡ d = cc in
      let tail : a ++ 10 ∷ x ≡ b ++ 10 ∷ y = cc in
      let s = same_line a b x y p.1 q.1 tail in
      record { prefix = (let f : a ≡ b = s.prefix in cc); rest = s.rest }

  -- no LF stands in a line that has none
  no_lf_in : (a b x : List ℕ) → HasNoLf a → a ≡ b ++ 10 ∷ x → ⊥
  no_lf_in [] [] x p e = cc
  no_lf_in [] (d ∷ b) x p e = cc
  no_lf_in (c ∷ a) [] x p e = let is : c ≡ 10 = cc in p.0 is
  no_lf_in (c ∷ a) (d ∷ b) x p e = let tail : a ≡ b ++ 10 ∷ x = cc in no_lf_in a b x p.1 tail

  record SameCut (ls ms : List (List ℕ)) (l m : List ℕ) : Type 0 where
    lines : ls ≡ ms
    line : l ≡ m

  joined-cons : (a : List ℕ) (more : List (List ℕ)) (l : List ℕ) → joined (a ∷ more) ++ l ≡ a ++ 10 ∷ (joined more ++ l)
  joined-cons a more l = search append_assoc

  same_cut : (ls ms : List (List ℕ)) (l m : List ℕ) → AllByRecursion HasNoLf ls → HasNoLf l → AllByRecursion HasNoLf ms → HasNoLf m
      → joined ls ++ l ≡ joined ms ++ m → SameCut ls ms l m
  same_cut [] [] l m p p' q q' e = record { lines = refl; line = e }
  same_cut [] (b ∷ ms) l m p p' q q' e = absurd (no_lf_in l b (joined ms ++ m) p' (e ∙ joined-cons b ms m))
  same_cut (a ∷ ls) [] l m p p' q q' e = absurd (no_lf_in m a (joined ls ++ l) q' (sym e ∙ joined-cons a ls l))
  same_cut (a ∷ ls) (b ∷ ms) l m p p' q q' e =
      let s = same_line a b (joined ls ++ l) (joined ms ++ m) p.0 q.0 (sym (joined-cons a ls l) ∙ (e ∙ joined-cons b ms m)) in
      let r = same_cut ls ms l m p.1 p' q.1 q' s.rest in
      record { lines = (let f : a ≡ b = s.prefix in let g : ls ≡ ms = r.lines in cc); line = r.line }

  -- A cause after other lines and an unfinished one stops the reading.
  cause_stops : (k left : ℕ) (lines : List (List ℕ)) (line : List ℕ) (byte : ℕ) (code : WireFault) (bs : List ℕ)
      → length lines + left ≡ k → IsCauseBy form k lines line byte code → reading_by form left line (byte ∷ bs) ≡ Stop code bs
  cause_stops k left lines line byte Line bs few (inl nul) = reads_nul form left line byte bs nul
  cause_stops k left lines line byte Line bs few (inr (lf, begins, never)) = reads_no_version form left line byte bs lf begins never
  cause_stops k left lines line byte TooLong bs few (no_nul, no_lf, long) = reads_too_long form left line byte bs no_nul no_lf long
  cause_stops k left lines line byte TooManyLines bs few (lf, other, each, all) =
      let none : left ≡ 0 = omega arith in rw none (reads_too_many form line byte bs lf other.no_ssh)
  cause_stops k left lines line byte Short bs few c = absurd c
  cause_stops k left lines line byte Name bs few c = absurd c
  cause_stops k left lines line byte NotCanonical bs few c = absurd c
  cause_stops k left lines line byte Memory bs few c = absurd c

  -- what stands before a place, and after it
  record PlaceCuts (bytes : List ℕ) (i : ℕ) (lines : List (List ℕ)) (line : List ℕ) (byte : ℕ) (rest : List ℕ) : Type 0 where
    before : take i bytes ≡ joined lines ++ line
    after : rest ≡ drop (i + 1) bytes
    cut : bytes ≡ take i bytes ++ byte ∷ rest
    long : i + 1 + length rest ≡ length bytes

  place_cuts : (bytes : List ℕ) (i : ℕ) (lines : List (List ℕ)) (line : List ℕ) (byte : ℕ) (at : IsPlace bytes i lines line byte)
      → PlaceCuts bytes i lines line byte at.rest
  place_cuts bytes i lines line byte at =
      let front : List ℕ = joined lines ++ line in
      let cut : bytes ≡ front ++ byte ∷ at.rest = at.bytes_are ∙ sym (append_assoc (joined lines) line (byte ∷ at.rest)) in
      let before : take i bytes ≡ front = ap (λ (xs : List ℕ). take i xs) cut ∙ take_at front (byte ∷ at.rest) i (sym at.place) in
      let next : bytes ≡ (front ++ byte ∷ []) ++ at.rest = cut ∙ sym (append_assoc front (byte ∷ []) at.rest) in
      let long : length (front ++ byte ∷ []) ≡ i + 1 = length-append front (byte ∷ []) ∙ (let place : i ≡ length front = at.place in omega arith) in
      let all : length bytes ≡ length front + length (byte ∷ at.rest) = ap (λ (xs : List ℕ). length xs) cut ∙ length-append front (byte ∷ at.rest) in
      let place : i ≡ length front = at.place in
      record {
        before = before;
        after = sym (ap (λ (xs : List ℕ). drop (i + 1) xs) next ∙ drop_at (front ++ byte ∷ []) at.rest (i + 1) long);
        cut = cut ∙ ap (λ (xs : List ℕ). xs ++ byte ∷ at.rest) (sym before);
        long = omega arith;
      }

  -- A cause at a place that the reading comes to stops it there.
  pub record StopsAt (k : ℕ) (bytes : List ℕ) (i : ℕ) (code : WireFault) : Type 0 where
    pub rest : List ℕ
    pub stops : reading_by form k [] bytes ≡ Stop code rest
    pub after : rest ≡ drop (i + 1) bytes
    pub long : i + 1 + length rest ≡ length bytes

  cause_at : (k : ℕ) (bytes : List ℕ) (i : ℕ) (code : WireFault) (left : ℕ) (line : List ℕ) → HasCauseBy form k bytes i code
      → reading_by form k [] (take i bytes) ≡ More left line → StopsAt k bytes i code
  cause_at k bytes i code left line has read =
      let cuts = place_cuts bytes i has.lines has.line has.byte has.at in
      let o : LineOpen k (take i bytes) left line = (let p = read_parts form k (take i bytes) in rw read at p) in
      let same = same_cut has.lines o.others has.line line has.at.each_line has.at.own_line
      (no_lf_lines o.others o.each) (no_lf_line line o.unfinished.bytes) (sym cuts.before ∙ o.bytes_are) in
      let few : length has.lines + left ≡ k = ap (λ (xs : List (List ℕ)). length xs + left) same.lines ∙ o.few in
      let whole : reading_by form k [] bytes ≡ reading_by form left line (has.byte ∷ has.at.rest)
      = ap (λ (xs : List ℕ). reading_by form k [] xs) cuts.cut
      ∙ (reading-append form k [] (take i bytes) (has.byte ∷ has.at.rest) ∙ ap (λ (r : Reading). then_on_by form r (has.byte ∷ has.at.rest)) read) in
      let stop : reading_by form left line (has.byte ∷ has.at.rest) ≡ Stop code has.at.rest
      = rw (← same.line) (cause_stops k left has.lines has.line has.byte code has.at.rest few has.cause) in
      record { rest = has.at.rest; stops = whole ∙ stop; after = cuts.after; long = cuts.long }

  -- The place at which a reading stops, and its cause.
  abbrev stopped_place : (k : ℕ) (bytes : List ℕ) (code : WireFault) (rest : List ℕ) → (s : Stopped form k bytes code rest)
      → IsPlace bytes (length (joined s.others ++ s.line)) s.others s.line s.byte
  stopped_place k bytes code rest s = record {
    rest = rest;
    bytes_are = s.bytes_are;
    place = refl;
    each_line = no_lf_lines s.others s.each;
    own_line = no_lf_line s.line s.unfinished.bytes;
  }

  -- More bytes after them change no place.
  cause_kept : (k : ℕ) (bytes more : List ℕ) (i : ℕ) (code : WireFault) → HasCauseBy form k bytes i code → HasCauseBy form k (bytes ++ more) i code
  cause_kept k bytes more i code has = record {
    lines = has.lines;
    line = has.line;
    byte = has.byte;
    at = record {
      rest = has.at.rest ++ more;
      bytes_are = ap (λ (xs : List ℕ). xs ++ more) has.at.bytes_are ∙ search append_assoc;
      place = has.at.place;
      each_line = has.at.each_line;
      own_line = has.at.own_line;
    };
    cause = has.cause;
  }

  then_on_cut : (k i : ℕ) (bytes : List ℕ) → reading_by form k [] bytes ≡ then_on_by form (reading_by form k [] (take i bytes)) (drop i bytes)
  then_on_cut k i bytes =
      ap (λ (xs : List ℕ). reading_by form k [] xs) (sym (take-append-drop i bytes)) ∙ reading-append form k [] (take i bytes) (drop i bytes)

  -- What stands there is read: a refusal.
  refused_read_from : (k : ℕ) (bytes : List ℕ) (i : ℕ) (code : WireFault) (r : Reading) → LineRefusedBy form k bytes i code
      → reading_by form k [] (take i bytes) ≡ r → Parts form k (take i bytes) r → StopsAt k bytes i code
  refused_read_from k bytes i code (More left line) refused read parts = cause_at k bytes i code left line refused.cause read
  refused_read_from k bytes i code (Got text rest) refused read parts =
      let front : List ℕ = parts.prefix in
      let all : length (take i bytes) ≡ length front + length rest = ap (λ (xs : List ℕ). length xs) parts.bytes_are ∙ length-append front rest in
      let within : length front ≤ i = (let cut = length-take i bytes in omega arith) in
      let same : take (length front) bytes ≡ front
      = ap (λ (xs : List ℕ). take (length front) xs) (sym (take-append-drop i bytes) ∙ (ap (λ (xs : List ℕ). xs ++ drop i bytes) parts.bytes_are ∙ append_assoc front rest (drop i bytes)))
      ∙ take_at front (rest ++ drop i bytes) (length front) refl in
      let ends : PreambleBy form k text (take (length front) bytes) = rw same parts.preamble in
      absurd (refused.no_preamble (length front) text within ends)
  refused_read_from k bytes i code (Stop other rest) refused read parts =
      let j : ℕ = length (joined parts.others ++ parts.line) in
      let at = stopped_place k (take i bytes) other rest parts in
      let has : HasCauseBy form k (take i bytes) j other = record { lines = parts.others; line = parts.line; byte = parts.byte; at = at; cause = parts.cause } in
      let cuts = place_cuts (take i bytes) j parts.others parts.line parts.byte at in
      let long : j + 1 + length rest ≡ length (take i bytes) = cuts.long in
      let before : j < i = (let cut = length-take i bytes in omega arith) in
      let kept : HasCauseBy form k bytes j other = (let h = cause_kept k (take i bytes) (drop i bytes) j other has in rw (take-append-drop i bytes) at h) in
      absurd (refused.least j other before kept)

  pub refused_read : (k : ℕ) (bytes : List ℕ) (i : ℕ) (code : WireFault) → LineRefusedBy form k bytes i code → StopsAt k bytes i code
  refused_read k bytes i code refused = refused_read_from k bytes i code (reading_by form k [] (take i bytes)) refused refl (read_parts form k (take i bytes))

  -- Where the reading stops, the bytes are refused.
  least_from : (k : ℕ) (bytes : List ℕ) (i : ℕ) (code : WireFault) (rest : List ℕ) (j : ℕ) (other : WireFault) (r : Reading)
      → reading_by form k [] bytes ≡ Stop code rest → i + 1 + length rest ≡ length bytes → j < i → HasCauseBy form k bytes j other
      → reading_by form k [] (take j bytes) ≡ r → ⊥
  least_from k bytes i code rest j other (More left line) stop long before has read =
      let s = cause_at k bytes j other left line has read in
      let same : Stop code rest ≡ Stop other s.rest = sym stop ∙ s.stops in
      let rests : rest ≡ s.rest = cc in
      let lengths : length rest ≡ length s.rest = ap (λ (xs : List ℕ). length xs) rests in
      let at : j + 1 + length s.rest ≡ length bytes = s.long in
      omega arith
  least_from k bytes i code rest j other (Got text front) stop long before has read =
      let e : Stop code rest ≡ Got text (front ++ drop j bytes) = sym stop ∙ (then_on_cut k j bytes ∙ ap (λ (r : Reading). then_on_by form r (drop j bytes)) read) in
      cc
  least_from k bytes i code rest j other (Stop code' front) stop long before has read =
      let e : Stop code rest ≡ Stop code' (front ++ drop j bytes) = sym stop ∙ (then_on_cut k j bytes ∙ ap (λ (r : Reading). then_on_by form r (drop j bytes)) read) in
      let rests : rest ≡ front ++ drop j bytes = cc in
      let lengths : length rest ≡ length front + length (drop j bytes) = ap (λ (xs : List ℕ). length xs) rests ∙ length-append front (drop j bytes) in
      let dropped = length-drop j bytes in
      omega arith

  no_preamble_from : (k : ℕ) (bytes : List ℕ) (code : WireFault) (rest : List ℕ) (j : ℕ) (text : List ℕ)
      → reading_by form k [] bytes ≡ Stop code rest → PreambleBy form k text (take j bytes) → ⊥
  no_preamble_from k bytes code rest j text stop p =
      let e : Stop code rest ≡ Got text (drop j bytes)
      = sym stop ∙ (ap (λ (xs : List ℕ). reading_by form k [] xs) (sym (take-append-drop j bytes)) ∙ preamble_read form k text (take j bytes) (drop j bytes) p) in
      cc

  stopped_refused : (k : ℕ) (bytes : List ℕ) (code : WireFault) (rest : List ℕ) → reading_by form k [] bytes ≡ Stop code rest
      → Stopped form k bytes code rest → EndsRefusedBy form k bytes code rest
  stopped_refused k bytes code rest stop s =
      let i : ℕ = length (joined s.others ++ s.line) in
      let at = stopped_place k bytes code rest s in
      let cuts = place_cuts bytes i s.others s.line s.byte at in
      record {
        place = i;
        refused = record {
          cause = record { lines = s.others; line = s.line; byte = s.byte; at = at; cause = s.cause };
          least = λ j other before has. least_from k bytes i code rest j other (reading_by form k [] (take j bytes)) stop cuts.long before has refl;
          no_preamble = λ j text within p. no_preamble_from k bytes code rest j text stop p;
        };
        rest_is = cuts.after;
      }

  sound_from : (k : ℕ) (bytes : List ℕ) (r : Reading) → reading_by form k [] bytes ≡ r → Parts form k bytes r → ReadingMeansBy form k bytes r
  sound_from k bytes (More left line) read parts = parts
  sound_from k bytes (Got text rest) read parts = parts
  sound_from k bytes (Stop code rest) read parts = stopped_refused k bytes code rest read parts

  pub reading_sound : (k : ℕ) (bytes : List ℕ) → ReadingMeansBy form k bytes (reading_by form k [] bytes)
  reading_sound k bytes = sound_from k bytes (reading_by form k [] bytes) refl (read_parts form k bytes)

  pub reading_complete : (k : ℕ) (bytes : List ℕ) (r : Reading) → ReadingMeansBy form k bytes r → reading_by form k [] bytes ≡ r
  reading_complete k bytes (More left line) m = open_read form k bytes left line m
  reading_complete k bytes (Got text rest) m = ap (λ (xs : List ℕ). reading_by form k [] xs) m.bytes_are ∙ preamble_read form k text m.prefix rest m.preamble
  reading_complete k bytes (Stop code rest) m =
      let s = refused_read k bytes m.place code m.refused in
      s.stops ∙ ap (λ (xs : List ℕ). Stop code xs) (s.after ∙ sym m.rest_is)

  pub one_meaning : (k : ℕ) (bytes : List ℕ) (r s : Reading) → ReadingMeansBy form k bytes r → ReadingMeansBy form k bytes s → r ≡ s
  one_meaning k bytes r s m n = sym (reading_complete k bytes r m) ∙ reading_complete k bytes s n

  pub refused_within : (k : ℕ) (bytes : List ℕ) (place : ℕ) (code : WireFault) → LineRefusedBy form k bytes place code → place < length bytes
  refused_within k bytes place code refused =
      let s = refused_read k bytes place code refused in
      let long : place + 1 + length s.rest ≡ length bytes = s.long in
      omega arith

  -- What is read stays read, whatever follows.
  pub preamble_after : (k : ℕ) (bytes text rest : List ℕ) → reading_by form k [] bytes ≡ Got text rest → IsLeftOf bytes rest
  preamble_after k bytes text rest read =
      let means : EndsPreambleBy form k bytes text rest = (let m = reading_sound k bytes in rw read at m) in
      let all : length bytes ≡ length means.prefix + length rest = ap (λ (xs : List ℕ). length xs) means.bytes_are ∙ length-append means.prefix rest in
      (length means.prefix, omega arith, sym (ap (λ (xs : List ℕ). drop (length means.prefix) xs) means.bytes_are ∙ drop_at means.prefix rest (length means.prefix) refl))

  pub refused_stays : (k : ℕ) (bytes more : List ℕ) (place : ℕ) (code : WireFault) → LineRefusedBy form k bytes place code
      → LineRefusedBy form k (bytes ++ more) place code
  refused_stays k bytes more place code refused =
      let s = refused_read k bytes place code refused in
      let on : reading_by form k [] (bytes ++ more) ≡ Stop code (s.rest ++ more)
      = reading-append form k [] bytes more ∙ ap (λ (r : Reading). then_on_by form r more) s.stops in
      let long : length (bytes ++ more) ≡ length bytes + length more = length-append bytes more in
      let longer : length (s.rest ++ more) ≡ length s.rest + length more = length-append s.rest more in
      let at : place + 1 + length s.rest ≡ length bytes = s.long in
      record {
        cause = cause_kept k bytes more place code refused.cause;
        least = λ j other before has. least_from k (bytes ++ more) place code (s.rest ++ more) j other (reading_by form k [] (take j (bytes ++ more))) on (omega arith) before has refl;
        no_preamble = λ j text within p. no_preamble_from k (bytes ++ more) code (s.rest ++ more) j text on p;
      }

  -- What was read up to a refusal is refused alone.
  pub refused_used : (k : ℕ) (bytes : List ℕ) (code : WireFault) (rest : List ℕ) → reading_by form k [] bytes ≡ Stop code rest
      → (used : List ℕ) × (bytes ≡ used ++ rest) × (reading_by form k [] used ≡ Stop code [])
  refused_used k bytes code rest stop =
      let s : Stopped form k bytes code rest = (let p = read_parts form k bytes in rw stop at p) in
      let before : List ℕ = joined s.others ++ s.line in
      let left : ℕ = k - length s.others in
      let few : length s.others + left ≡ k = (let most : length s.others ≤ k = s.few in omega arith) in
      let open_line : LineOpen k before left s.line = record { others = s.others; few = few; each = s.each; unfinished = s.unfinished; bytes_are = refl } in
      let cut : joined s.others ++ (s.line ++ s.byte ∷ rest) ≡ (before ++ s.byte ∷ []) ++ rest = search append_assoc in (
        before ++ s.byte ∷ [],
        s.bytes_are ∙ cut,
        reading-append form k [] before (s.byte ∷ [])
            ∙ (ap (λ (r : Reading). then_on_by form r (s.byte ∷ [])) (open_read form k before left s.line open_line)
            ∙ cause_stops k left s.others s.line s.byte code [] few s.cause),
      )

-- A version line is read as its text, whatever follows.
pub version_line_read : (k : ℕ) (text rest : List ℕ) → IsVersionText text → reading k [] (version_line text ++ rest) ≡ Got text rest
version_line_read k text rest v =
    preamble_read Strict k text (version_line text) rest (record { others = []; few = omega arith; each = tt; version = v; bytes_are = refl })

-- What is a preamble by the letter is one by each form, and what is read by the letter is read so.
pub preamble_wider : (form : LineForm) (k : ℕ) (text bytes : List ℕ) → PreambleBy Strict k text bytes → PreambleBy form k text bytes
preamble_wider form k text bytes p = record {
  others = p.others;
  few = p.few;
  each = p.each;
  version = text_wider form text p.version;
  bytes_are = line_wider form (joined p.others) text bytes p.bytes_are;
}

pub read_wider : (form : LineForm) (k : ℕ) (bytes text rest : List ℕ) → reading k [] bytes ≡ Got text rest → reading_by form k [] bytes ≡ Got text rest
read_wider form k bytes text rest read =
    let means : EndsPreambleBy Strict k bytes text rest = (let m = reading_sound Strict k bytes in rw read at m) in
    ap (λ (xs : List ℕ). reading_by form k [] xs) means.bytes_are
    ∙ preamble_read form k text means.prefix rest (preamble_wider form k text means.prefix means.preamble)

-- Where a form stops, the letter stops there by the same code.
pub stops_strictly : (form : LineForm) (left : ℕ) (line bytes : List ℕ) (code : WireFault) (rest : List ℕ) → reading_by form left line bytes ≡ Stop code rest
    → reading_by Strict left line bytes ≡ Stop code rest
stops_strictly form left line [] code rest e = cc
stops_strictly form left line (b ∷ bs) code rest e = elim (cases_Bool (eqb b 0)) [
  | inl t ↦ let is : Stop Line bs ≡ Stop code rest = rw t at e in rw t is
  | inr f ↦ elim (cases_Bool (eqb b 10)) [
    | inl t₁ ↦ elim (cases_Bool (starts_with eqb line ssh)) [
      | inl t₂ ↦ elim (cases_Bool (is_line_by form line)) [
        | inl t₃ ↦ let is : Got (text_by form line) bs ≡ Stop code rest = rw (f, t₁, t₂, t₃) at e in cc
        | inr f₃ ↦
            let is : Stop Line bs ≡ Stop code rest = rw (f, t₁, t₂, f₃) at e in
            let never : is_line_by Strict line ≡ false = false_from_ne_true _ (λ t. both_ways (is_line_by form line) f₃ (tested_wider form line t).test) in
            rw (f, t₁, t₂, never) is
      ]
      | inr f₂ ↦ elim (cases_Bool (eqb left 0)) [
        | inl t₃ ↦ let is : Stop TooManyLines bs ≡ Stop code rest = rw (f, t₁, f₂, t₃) at e in rw (f, t₁, f₂, t₃) is
        | inr f₃ ↦ let is : reading_by form (left - 1) [] bs ≡ Stop code rest = rw (f, t₁, f₂, f₃) at e in
            rw (f, t₁, f₂, f₃) (stops_strictly form (left - 1) [] bs code rest is)
      ]
    ]
    | inr f₁ ↦ elim (cases_Bool (leb 254 (length line))) [
      | inl t₂ ↦ let is : Stop TooLong bs ≡ Stop code rest = rw (f, f₁, t₂) at e in rw (f, f₁, t₂) is
      | inr f₂ ↦ let is : reading_by form left (line ++ b ∷ []) bs ≡ Stop code rest = rw (f, f₁, f₂) at e in
          rw (f, f₁, f₂) (stops_strictly form left (line ++ b ∷ []) bs code rest is)
    ]
  ]
]

pub refused_strictly : (form : LineForm) (k : ℕ) (bytes : List ℕ) (place : ℕ) (code : WireFault) → LineRefusedBy form k bytes place code
    → LineRefusedBy Strict k bytes place code
refused_strictly form k bytes place code refused =
    let s = refused_read form k bytes place code refused in
    let strict : reading_by Strict k [] bytes ≡ Stop code s.rest = stops_strictly form k [] bytes code s.rest s.stops in
    let means : EndsRefusedBy Strict k bytes code s.rest = (let m = reading_sound Strict k bytes in rw strict at m) in
    let after : length s.rest ≡ length bytes - (means.place + 1) = ap (λ (xs : List ℕ). length xs) means.rest_is ∙ length-drop (means.place + 1) bytes in
    let inside : means.place < length bytes = refused_within Strict k bytes means.place code means.refused in
    let long : place + 1 + length s.rest ≡ length bytes = s.long in
    let same : means.place ≡ place = omega (arith, after, inside, long) in
    subst (λ (i : ℕ). LineRefusedBy Strict k bytes i code) same means.refused
