-- Packets and lines are read one unit at a time, however the bytes are cut.

use Rattle.std.proofs.Common.{◌≡◌, ℕ, ◌+◌, ◌-◌, ◌<◌, ◌≤◌, Bool, true, false, List, [], ◌++◌, length, drop, take, refl, sym, ap, ◌∙◌, arith, cond, ltb, leb, eqb, slice_index, subst, Option, None, Some}
use Rattle.std.specs.Prelude.{◌||◌}
use Rattle.std.proofs.lemmas.Bool.{ltb-false, ltb-true}
use Rattle.std.proofs.lemmas.List.{append-nil, length-append, length-drop, length-take-le, take-append-drop, take-append-le, take-take}
use Rattle.std.proofs.Math.Seq.{take-append_seam}
use Rattle.sshwire.specs.declared.fault.WireFault.{WireFault}
use Rattle.sshwire.specs.declared.line_form.LineForm.{LineForm}
use Rattle.sshwire.specs.declared.line_form.LineForm.TheVariants.{Strict}
use Rattle.sshwire.specs.Lines.{LineRefusedBy, PreambleBy}
use Rattle.sshwire.specs.Meaning.{EndsPreambleBy, EndsRefusedBy, ReadingMeansBy}
use Rattle.sshwire.specs.Reading.{Reading, Got, More, Stop, reading_by, then_on_by}
use Rattle.sshpacket.specs.Parse.{Parse, ProtectionData, OfLine, OfPacket, parse_packet, is_length, opened, refused, total, unfinished, unsealed, whole}
use Rattle.sshpacket.specs.declared.fault.PacketFault.TheVariants.{Empty, Length, Padding}
use Rattle.sshpacket.specs.PreambleParser.{PreambleMeansBy, parse_preamble, preamble_parser_by}
use Rattle.sshpacket.specs.Stream.{IsIncremental, Parser}
use Rattle.sshpacket.proofs.ParseLemmas.{parse_bad, parse_full, parse_part, parse_short}

-- nothing stands in no bytes
parse_none : (w : ProtectionData) → parse_packet w [] ≡ unfinished
unfolding parse_packet
parse_none w = refl

take_more : (n : ℕ) (bytes more : List ℕ) → n ≤ length bytes → take n (bytes ++ more) ≡ take n bytes
take_more n bytes more h = take-append-le n bytes more h

total_more : (w : ProtectionData) (bytes more : List ℕ) → 4 ≤ length bytes → total w (bytes ++ more) ≡ total w bytes
total_more w bytes more h = ap (λ (head : List ℕ). 4 + w.head head + w.tag) (take_more 4 bytes more h)

length_more : (w : ProtectionData) (bytes more : List ℕ) (b : Bool) → 4 ≤ length bytes → is_length w.counts w.block w.tag (w.head (take 4 bytes)) ≡ b
    → is_length w.counts w.block w.tag (w.head (take 4 (bytes ++ more))) ≡ b
length_more w bytes more b h e = ap (λ (head : List ℕ). is_length w.counts w.block w.tag (w.head head)) (take_more 4 bytes more h) ∙ e

-- more bytes after them change no answer
parse_more_by : (w : ProtectionData) (bytes more : List ℕ) (s t u : Bool) → ltb (length bytes) 4 ≡ s → is_length w.counts w.block w.tag (w.head (take 4 bytes)) ≡ t → ltb (length bytes) (total w bytes) ≡ u
    → (parse_packet w bytes ≡ unfinished → ⊥) → parse_packet w (bytes ++ more) ≡ parse_packet w bytes
parse_more_by w bytes more true t u a b c some = absurd (some (parse_short w bytes (ltb-true (length bytes) 4 a)))
parse_more_by w bytes more false false u a b c some =
    let headed : 4 ≤ length bytes = ltb-false (length bytes) 4 a in
    let longer : length (bytes ++ more) ≡ length bytes + length more = length-append bytes more in
    parse_bad w (bytes ++ more) (omega arith) (length_more w bytes more false headed b) ∙ sym (parse_bad w bytes headed b)
parse_more_by w bytes more false true true a b c some =
    absurd (some (parse_part w bytes (ltb-false (length bytes) 4 a) b (ltb-true (length bytes) (total w bytes) c)))
parse_more_by w bytes more false true false a b c some =
    let headed : 4 ≤ length bytes = ltb-false (length bytes) 4 a in
    let full : total w bytes ≤ length bytes = ltb-false (length bytes) (total w bytes) c in
    let longer : length (bytes ++ more) ≡ length bytes + length more = length-append bytes more in
    let size : total w (bytes ++ more) ≡ total w bytes = total_more w bytes more headed in
    let all : take (total w (bytes ++ more)) (bytes ++ more) ≡ take (total w bytes) bytes = ap (λ (n : ℕ). take n (bytes ++ more)) size ∙ take_more (total w bytes) bytes more full in
    parse_full w (bytes ++ more) (omega arith) (length_more w bytes more true headed b) (omega (arith, size, full))
    ∙ (ap (λ (head : List ℕ). unsealed (w.unseal head) (total w (bytes ++ more))) all
    ∙ (ap (λ (n : ℕ). unsealed (w.unseal (take (total w bytes) bytes)) n) size ∙ sym (parse_full w bytes headed b full)))

parse_more : (w : ProtectionData) (bytes more : List ℕ) → (parse_packet w bytes ≡ unfinished → ⊥) → parse_packet w (bytes ++ more) ≡ parse_packet w bytes
parse_more w bytes more = parse_more_by w bytes more _ _ _ refl refl refl

-- where an answer ends
abbrev place_of : Parse → ℕ
place_of unfinished = 0
place_of (whole unit len) = len
place_of (refused r len) = len

-- the bytes up to there are enough to answer
record IsAgain (parser : Parser) (bytes : List ℕ) (answer : Parse) : Type 0 where
  there : place_of answer ≤ length bytes
  again : parser (take (place_of answer) bytes) ≡ answer

again_at : (parser : Parser) (bytes : List ℕ) (answer : Parse) (len : ℕ) → place_of answer ≡ len → len ≤ length bytes → parser (take len bytes) ≡ answer → IsAgain parser bytes answer
again_at parser bytes answer len size low e = record { there = omega (arith, size, low); again = ap (λ (n : ℕ). parser (take n bytes)) size ∙ e }

parser_of_again : (parser : Parser) → parser [] ≡ unfinished → ((bytes more : List ℕ) → (parser bytes ≡ unfinished → ⊥) → parser (bytes ++ more) ≡ parser bytes)
    → ((bytes : List ℕ) (answer : Parse) → parser bytes ≡ answer → (answer ≡ unfinished → ⊥) → IsAgain parser bytes answer) → IsIncremental parser
parser_of_again parser none more each = record {
  none = none;
  more = more;
  within = λ bytes unit len e. let a : IsAgain parser bytes (whole unit len) = each bytes (whole unit len) e (λ bad. cc) in a.there;
  whole_again = λ bytes unit len e. let a : IsAgain parser bytes (whole unit len) = each bytes (whole unit len) e (λ bad. cc) in a.again;
  refused_again = λ bytes r len e. let a : IsAgain parser bytes (refused r len) = each bytes (refused r len) e (λ bad. cc) in (a.there, a.again);
}

opened_place_by : (padding none : Bool) (payload : List ℕ) (all : ℕ)
    → place_of (cond padding (refused (OfPacket Padding) all) (cond none (refused (OfPacket Empty) all) (whole payload all))) ≡ all
opened_place_by true none payload all = refl
opened_place_by false true payload all = refl
opened_place_by false false payload all = refl

-- a packet that is opened has all the bytes that are there
opened_place : (clear : List ℕ) (all : ℕ) → place_of (opened clear all) ≡ all
unfolding opened
opened_place clear all = opened_place_by (ltb (slice_index clear 4) 4 || leb (length clear - 4) (slice_index clear 4)) (eqb (slice_index clear 4 + 1) (length clear - 4)) (take (length clear - 4 - slice_index clear 4 - 1) (drop 5 clear)) all

unsealed_place : (clear : Option (List ℕ)) (all : ℕ) → place_of (unsealed clear all) ≡ all
unsealed_place None all = refl
unsealed_place (Some clear) all = opened_place clear all

-- the bytes of a packet are enough to answer it, and four bytes to refuse its length
parse_again_by : (w : ProtectionData) (bytes : List ℕ) (answer : Parse) (s t u : Bool) → ltb (length bytes) 4 ≡ s → is_length w.counts w.block w.tag (w.head (take 4 bytes)) ≡ t → ltb (length bytes) (total w bytes) ≡ u
    → parse_packet w bytes ≡ answer → (answer ≡ unfinished → ⊥) → IsAgain (parse_packet w) bytes answer
parse_again_by w bytes answer true t u a b c e some = absurd (some (sym e ∙ parse_short w bytes (ltb-true (length bytes) 4 a)))
parse_again_by w bytes answer false false u a b c e some =
    let headed : 4 ≤ length bytes = ltb-false (length bytes) 4 a in
    let is : answer ≡ refused (OfPacket Length) 4 = sym e ∙ parse_bad w bytes headed b in
    let head : take 4 (take 4 bytes) ≡ take 4 bytes = take-take 4 4 bytes (omega arith) in
    let size : length (take 4 bytes) ≡ 4 = length-take-le 4 bytes headed in
    let bad : is_length w.counts w.block w.tag (w.head (take 4 (take 4 bytes))) ≡ false = ap (λ (xs : List ℕ). is_length w.counts w.block w.tag (w.head xs)) head ∙ b in
    again_at (parse_packet w) bytes answer 4 (ap place_of is) headed (parse_bad w (take 4 bytes) (omega (arith, size)) bad ∙ sym is)
parse_again_by w bytes answer false true true a b c e some =
    absurd (some (sym e ∙ parse_part w bytes (ltb-false (length bytes) 4 a) b (ltb-true (length bytes) (total w bytes) c)))
parse_again_by w bytes answer false true false a b c e some =
    let headed : 4 ≤ length bytes = ltb-false (length bytes) 4 a in
    let all : ℕ = total w bytes in
    let full : all ≤ length bytes = ltb-false (length bytes) (total w bytes) c in
    let is : answer ≡ unsealed (w.unseal (take all bytes)) all = sym e ∙ parse_full w bytes headed b full in
    let head : take 4 (take all bytes) ≡ take 4 bytes = take-take 4 all bytes (omega arith) in
    let size : length (take all bytes) ≡ all = length-take-le all bytes full in
    let fits : is_length w.counts w.block w.tag (w.head (take 4 (take all bytes))) ≡ true = ap (λ (xs : List ℕ). is_length w.counts w.block w.tag (w.head xs)) head ∙ b in
    let same : total w (take all bytes) ≡ all = ap (λ (xs : List ℕ). 4 + w.head xs + w.tag) head in
    let own : take (total w (take all bytes)) (take all bytes) ≡ take all bytes = ap (λ (n : ℕ). take n (take all bytes)) same ∙ take-take all all bytes (omega arith) in
    again_at (parse_packet w) bytes answer all (ap place_of is ∙ unsealed_place (w.unseal (take all bytes)) all) full
    (parse_full w (take all bytes) (omega (arith, size)) fits (omega (arith, size, same))
    ∙ (ap (λ (xs : List ℕ). unsealed (w.unseal xs) (total w (take all bytes))) own
    ∙ (ap (λ (n : ℕ). unsealed (w.unseal (take all bytes)) n) same ∙ sym is)))

pub packets_parser : (w : ProtectionData) → IsIncremental (parse_packet w)
packets_parser w = parser_of_again (parse_packet w) (parse_none w) (parse_more w) (λ bytes answer. parse_again_by w bytes answer _ _ _ refl refl refl)

module _ (form : LineForm) where
  -- the laws of the reading of lines that are used here
  pub record IsLinesLaw : Type 0 where
    pub sound : (k : ℕ) (bytes : List ℕ) → ReadingMeansBy form k bytes (reading_by form k [] bytes)
    pub complete : (k : ℕ) (bytes : List ℕ) (r : Reading) → ReadingMeansBy form k bytes r → reading_by form k [] bytes ≡ r
    pub within : (k : ℕ) (bytes : List ℕ) (place : ℕ) (code : WireFault) → LineRefusedBy form k bytes place code → place < length bytes
    pub cut : (k : ℕ) (bytes more : List ℕ) → reading_by form k [] (bytes ++ more) ≡ then_on_by form (reading_by form k [] bytes) more
    pub written : (k : ℕ) (text bytes rest : List ℕ) → PreambleBy form k text bytes → reading_by form k [] (bytes ++ rest) ≡ Got text rest
    pub used : (k : ℕ) (bytes : List ℕ) (code : WireFault) (rest : List ℕ) → reading_by form k [] bytes ≡ Stop code rest
        → (used : List ℕ) × (bytes ≡ used ++ rest) × (reading_by form k [] used ≡ Stop code [])

  -- more bytes after it are more that is left
  lines_more : (all more : List ℕ) (r : Reading) → (parse_preamble (length all) r ≡ unfinished → ⊥) → parse_preamble (length (all ++ more)) (then_on_by form r more) ≡ parse_preamble (length all) r
  lines_more all more (More left line) some = absurd (some refl)
  lines_more all more (Got text rest) some =
      let longer : length (all ++ more) ≡ length all + length more = length-append all more in
      let further : length (rest ++ more) ≡ length rest + length more = length-append rest more in
      ap (λ (n : ℕ). whole text n) (omega arith)
  lines_more all more (Stop code rest) some =
      let longer : length (all ++ more) ≡ length all + length more = length-append all more in
      let further : length (rest ++ more) ≡ length rest + length more = length-append rest more in
      ap (λ (n : ℕ). refused (OfLine code) n) (omega arith)

  -- the bytes in front of the rest
  record IsCut (bytes used rest : List ℕ) (len : ℕ) : Type 0 where
    low : len ≤ length bytes
    size : length used ≡ len
    same : take len bytes ≡ used

  cut_at : (bytes used rest : List ℕ) → bytes ≡ used ++ rest → IsCut bytes used rest (length bytes - length rest)
  cut_at bytes used rest e =
      let all : length bytes ≡ length used + length rest = ap length e ∙ length-append used rest in
      let size : length used ≡ length bytes - length rest = omega (arith, all) in
      record {
        low = omega arith;
        size = size;
        same = ap (λ (n : ℕ). take n bytes) (sym size) ∙ (ap (λ (xs : List ℕ). take (length used) xs) e ∙ take-append_seam used rest);
      }

  module _ (law : IsLinesLaw) (k : ℕ) where
    -- the bytes in front of the rest, read alone
    lines_alone : (used : List ℕ) (r : Reading) → reading_by form k [] used ≡ r → preamble_parser_by form k used ≡ parse_preamble (length used) r
    unfolding preamble_parser_by
    lines_alone used r e = ap (λ (x : Reading). parse_preamble (length used) x) e

    lines_again_by : (bytes : List ℕ) (answer : Parse) (r : Reading) → reading_by form k [] bytes ≡ r → ReadingMeansBy form k bytes r → parse_preamble (length bytes) r ≡ answer
        → (answer ≡ unfinished → ⊥) → IsAgain (preamble_parser_by form k) bytes answer
    lines_again_by bytes answer (More left line) read m e some = absurd (some (sym e))
    lines_again_by bytes answer (Got text rest) read m e some =
        let len : ℕ = length bytes - length rest in
        let cut : IsCut bytes m.prefix rest len = cut_at bytes m.prefix rest m.bytes_are in
        let alone : reading_by form k [] m.prefix ≡ Got text [] = ap (λ (xs : List ℕ). reading_by form k [] xs) (sym (append-nil m.prefix)) ∙ law.written k text m.prefix [] m.preamble in
        again_at (preamble_parser_by form k) bytes answer len (ap place_of (sym e)) cut.low
        (ap (λ (xs : List ℕ). preamble_parser_by form k xs) cut.same
        ∙ (lines_alone m.prefix (Got text []) alone
        ∙ (ap (λ (n : ℕ). whole text n) (let size : length m.prefix ≡ len = cut.size in omega (arith, size)) ∙ e)))
    lines_again_by bytes answer (Stop code rest) read m e some =
        let (used, is, alone) = law.used k bytes code rest read in
        let len : ℕ = length bytes - length rest in
        let cut : IsCut bytes used rest len = cut_at bytes used rest is in
        again_at (preamble_parser_by form k) bytes answer len (ap place_of (sym e)) cut.low
        (ap (λ (xs : List ℕ). preamble_parser_by form k xs) cut.same
        ∙ (lines_alone used (Stop code []) alone
        ∙ (ap (λ (n : ℕ). refused (OfLine code) n) (let size : length used ≡ len = cut.size in omega (arith, size)) ∙ e)))

    -- the lines up to the version, or to a refused byte, are enough to answer
    lines_again : (bytes : List ℕ) (answer : Parse) → preamble_parser_by form k bytes ≡ answer → (answer ≡ unfinished → ⊥) → IsAgain (preamble_parser_by form k) bytes answer
    unfolding preamble_parser_by
    lines_again bytes answer = lines_again_by bytes answer (reading_by form k [] bytes) refl (law.sound k bytes)

    lines_more_after : (bytes more : List ℕ) → (preamble_parser_by form k bytes ≡ unfinished → ⊥) → preamble_parser_by form k (bytes ++ more) ≡ preamble_parser_by form k bytes
    unfolding preamble_parser_by
    lines_more_after bytes more some = ap (λ (r : Reading). parse_preamble (length (bytes ++ more)) r) (law.cut k bytes more) ∙ lines_more bytes more (reading_by form k [] bytes) some

    lines_none : preamble_parser_by form k [] ≡ unfinished
    unfolding preamble_parser_by
    lines_none = refl

    pub lines_parser : IsIncremental (preamble_parser_by form k)
    lines_parser = parser_of_again (preamble_parser_by form k) lines_none lines_more_after lines_again

  -- a preamble is read as its version, whatever follows
  pub preamble_seen : IsLinesLaw → (k : ℕ) (text bytes more : List ℕ) → PreambleBy form k text bytes → preamble_parser_by form k (bytes ++ more) ≡ whole text (length bytes)
  unfolding preamble_parser_by
  preamble_seen law k text bytes more p =
      let longer : length (bytes ++ more) ≡ length bytes + length more = length-append bytes more in
      ap (λ (r : Reading). parse_preamble (length (bytes ++ more)) r) (law.written k text bytes more p) ∙ ap (λ (n : ℕ). whole text n) (omega arith)

  -- what is read stands there
  found_by : IsLinesLaw → (k : ℕ) (bytes : List ℕ) (r : Reading) → ReadingMeansBy form k bytes r → PreambleMeansBy form k bytes (parse_preamble (length bytes) r)
  found_by law k bytes (More left line) o = (left, line, o)
  found_by law k bytes (Got text rest) m =
      let size : length bytes ≡ length m.prefix + length rest = ap length m.bytes_are ∙ length-append m.prefix rest in
      let len : length m.prefix ≡ length bytes - length rest = omega (arith, size) in
      let same : m.prefix ≡ take (length bytes - length rest) bytes = sym (take-append_seam m.prefix rest) ∙ (ap (λ (b : List ℕ). take (length m.prefix) b) (sym m.bytes_are) ∙ ap (λ (n : ℕ). take n bytes) len) in
      (omega arith, subst (λ (b : List ℕ). PreambleBy form k text b) same m.preamble)
  found_by law k bytes (Stop code rest) m =
      let low : m.place < length bytes = law.within k bytes m.place code m.refused in
      let size : length rest ≡ length bytes - (m.place + 1) = ap length m.rest_is ∙ length-drop (m.place + 1) bytes in
      (m.place, omega (arith, low, size), m.refused)

  pub lines_found : IsLinesLaw → (k : ℕ) (bytes : List ℕ) → PreambleMeansBy form k bytes (preamble_parser_by form k bytes)
  unfolding preamble_parser_by
  lines_found law k bytes = found_by law k bytes (reading_by form k [] bytes) (law.sound k bytes)

  -- and what stands there is read
  pub lines_only : IsLinesLaw → (k : ℕ) (bytes : List ℕ) (f : Parse) → PreambleMeansBy form k bytes f → preamble_parser_by form k bytes ≡ f
  unfolding preamble_parser_by
  lines_only law k bytes unfinished (left, line, o) = ap (λ (r : Reading). parse_preamble (length bytes) r) (law.complete k bytes (More left line) o)
  lines_only law k bytes (whole text len) (low, p) =
      let ends : EndsPreambleBy form k bytes text (drop len bytes) = record { prefix = take len bytes; bytes_are = sym (take-append-drop len bytes); preamble = p } in
      let size : length (drop len bytes) ≡ length bytes - len = length-drop len bytes in
      ap (λ (r : Reading). parse_preamble (length bytes) r) (law.complete k bytes (Got text (drop len bytes)) ends) ∙ ap (λ (n : ℕ). whole text n) (omega (arith, low, size))
  lines_only law k bytes (refused (OfLine code) len) (place, e, h) =
      let ends : EndsRefusedBy form k bytes code (drop (place + 1) bytes) = record { place = place; refused = h; rest_is = refl } in
      let low : place < length bytes = law.within k bytes place code h in
      let size : length (drop (place + 1) bytes) ≡ length bytes - (place + 1) = length-drop (place + 1) bytes in
      ap (λ (r : Reading). parse_preamble (length bytes) r) (law.complete k bytes (Stop code (drop (place + 1) bytes)) ends) ∙ ap (λ (n : ℕ). refused (OfLine code) n) (omega (arith, low, size, e))
  lines_only law k bytes (refused (OfPacket code) len) h = absurd h

-- What is read by the letter is read so by each form, where a preamble by the letter is one by each.
pub lines_wider : (form : LineForm) → IsLinesLaw Strict → IsLinesLaw form → ((k : ℕ) (text bytes : List ℕ) → PreambleBy Strict k text bytes → PreambleBy form k text bytes)
    → (k : ℕ) (bytes text : List ℕ) (len : ℕ) → preamble_parser_by Strict k bytes ≡ whole text len → preamble_parser_by form k bytes ≡ whole text len
lines_wider form strict law wider k bytes text len read =
    let means : PreambleMeansBy Strict k bytes (whole text len) = (let m = lines_found Strict strict k bytes in rw read at m) in
    lines_only form law k bytes (whole text len) (means.0, wider k text (take len bytes) means.1)
