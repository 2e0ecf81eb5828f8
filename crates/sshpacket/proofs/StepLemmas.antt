-- The steps of the packet reader, on plain bytes.

use Rattle.std.proofs.Common.{◌≡◌, ◌⊎◌, inl, inr, ℕ, ◌+◌, ◌-◌, ◌<◌, ◌≤◌, Bool, true, false, List, ◌++◌, length, take, drop, Result, Ok, Err, refl, sym, ap, ◌∙◌, arith}
use Rattle.std.proofs.lemmas.Bool.{cases_lt, le-ltb, lt-ltb}
use Rattle.std.proofs.lemmas.List.{append_assoc, length-append, length-take-le, take-append-drop, take-append-le, take_all, take_at}
use Rattle.std.specs.Prelude.{IfOk}
use Rattle.sshpacket.specs.declared.fault.PacketFault.{PacketFault}
use Rattle.sshpacket.specs.declared.fault.PacketFault.TheVariants.{Length}
use Rattle.sshpacket.specs.declared.reader.Filled.{Filled}
use Rattle.sshpacket.specs.declared.reader.Filled.TheVariants as filled
use Rattle.sshpacket.specs.declared.reader.Gathered.{Gathered}
use Rattle.sshpacket.specs.declared.reader.Gathered.TheVariants as gathered
use Rattle.sshpacket.specs.Parse.{Parse, OfPacket, ProtectionData, parse_packet, is_length, refused, total, unfinished, unsealed}
use Rattle.sshpacket.specs.ReaderSteps.{Counts, Fills, FillsBody, FillsPacket, FilledSome, HasRoom, OpensFilled, GatheredRoom, ReadsOn, needed}
use Rattle.sshpacket.proofs.ParseLemmas.{parse_bad, parse_full, parse_part, parse_short}

module _ (target : ℕ) (piece held new : List ℕ) (used : ℕ) (f : Fills target piece held new used) where
  filled_length : length new ≡ length held + used
  filled_length =
      let both : length new ≡ length held + length (take used piece) = ap (λ (xs : List ℕ). length xs) f.appended ∙ length-append held (take used piece) in
      let one : length (take used piece) ≡ used = length-take-le used piece f.within in
      omega arith

  pub filled_grows : (length held ≤ length new) × (length new ≤ length held + length piece)
  filled_grows = let size : length new ≡ length held + used = filled_length in let low : used ≤ length piece = f.within in (omega arith, omega arith)

  -- too little for the target: all of the piece is taken
  pub filled_all : length new < target → new ≡ held ++ piece
  filled_all less =
      let size : length new ≡ length held + used = filled_length in
      let all : used ≡ length piece = f.all (omega arith) in
      f.appended ∙ (ap (λ (k : ℕ). held ++ take k piece) all ∙ ap (λ (xs : List ℕ). held ++ xs) (take_all (length piece) piece (omega arith)))

  -- enough for it: exactly that many
  pub filled_up : target ≤ length new → length new ≡ target
  filled_up full = let size : length new ≡ length held + used = filled_length in let upto : length held + used ≤ target = f.upto in omega arith

  -- and the rest of the piece stands after them
  pub filled_rest : held ++ piece ≡ new ++ drop used piece
  filled_rest =
      ap (λ (xs : List ℕ). held ++ xs) (sym (take-append-drop used piece))
      ∙ (sym (append_assoc held (take used piece) (drop used piece)) ∙ ap (λ (xs : List ℕ). xs ++ drop used piece) (sym f.appended))

  -- what a part and all of a packet say
  pub body_part : length new < target → (new ≡ held ++ piece) × (target ≡ target) × (length new < target)
  body_part less = (filled_all less, refl, less)

  pub body_whole : target ≤ length new → (length new ≡ target) × (k : ℕ) × (k ≤ length piece) × (new ≡ held ++ take k piece)
  body_whole full = (filled_up full, used, f.within, f.appended)

pub needed_long : (w : ProtectionData) (held : List ℕ) → 4 ≤ length held → needed w held ≡ total w held
needed_long w held h = rw (le-ltb (length held) 4 h) refl

pub needed_short : (w : ProtectionData) (held : List ℕ) → length held < 4 → needed w held ≡ 4
needed_short w held h = rw (lt-ltb (length held) 4 h) refl

-- the first four bytes stay the same
counts_on : (w : ProtectionData) (old new more : List ℕ) (len : ℕ) → new ≡ old ++ more → 4 ≤ length old → Counts w (take 4 old) len → Counts w (take 4 new) len
counts_on w old new more len is headed k =
    let first : take 4 new ≡ take 4 old = ap (λ (xs : List ℕ). take 4 xs) is ∙ take-append-le 4 old more headed in
    rw first k

-- the packet isn't there yet
part_parse : (w : ProtectionData) (bytes : List ℕ) (len : ℕ) → Counts w (take 4 bytes) len → 4 ≤ length bytes → length bytes < len
    → (parse_packet w bytes ≡ unfinished) × (len ≡ needed w bytes)
part_parse w bytes len k headed less =
    let size : len ≡ 4 + w.head (take 4 bytes) + w.tag = k.len_is in
    (parse_part w bytes headed k.taken (omega arith), size ∙ sym (needed_long w bytes headed))

-- all of it is there, and something after it
whole_parse : (w : ProtectionData) (new rest : List ℕ) (len : ℕ) → 4 ≤ length new → length new ≡ len → Counts w (take 4 new) len
    → parse_packet w (new ++ rest) ≡ unsealed (w.unseal new) (length new)
whole_parse w new rest len headed full k =
    let long : length (new ++ rest) ≡ length new + length rest = length-append new rest in
    let first : take 4 (new ++ rest) ≡ take 4 new = take-append-le 4 new rest headed in
    let head : w.head (take 4 (new ++ rest)) ≡ w.head (take 4 new) = ap (λ (xs : List ℕ). w.head xs) first in
    let size : len ≡ 4 + w.head (take 4 new) + w.tag = k.len_is in
    let counts : total w (new ++ rest) ≡ length new = omega arith in
    parse_full w (new ++ rest) (omega arith) (ap (λ (n : ℕ). is_length w.counts w.block w.tag n) head ∙ k.taken) (omega arith)
    ∙ (ap (λ (n : ℕ). unsealed (w.unseal (take n (new ++ rest))) n) counts
    ∙ ap (λ (xs : List ℕ). unsealed (w.unseal xs) (length new)) (take_at new rest (length new) refl))

-- What was filled up to the length of the packet, after bytes with its length field.
pub packet_of_body : (w : ProtectionData) (len : ℕ) (held piece own more new : List ℕ) (result : Result Filled PacketFault) → held ++ piece ≡ own ++ more → 4 ≤ length own
    → Counts w (take 4 own) len → FillsBody len more own new result → FillsPacket w held piece new result
packet_of_body w len held piece own more new (Err e) same headed k memory = λ other. absurd (other memory)
packet_of_body w len held piece own more new (Ok (filled.Part target)) same headed k part =
    let is : new ≡ own ++ more = part.0 in
    let size : length new ≡ length own + length more = ap (λ (xs : List ℕ). length xs) is ∙ length-append own more in
    let less : length new < len = part.2 in
    let told = part_parse w new len (counts_on w own new more len is headed k) (omega arith) less in
    (is ∙ sym same, ap (λ (xs : List ℕ). parse_packet w xs) (same ∙ sym is) ∙ told.0, part.1 ∙ told.1)
packet_of_body w len held piece own more new (Ok filled.Whole) same headed k whole =
    let full : length new ≡ len = whole.0 in
    let used : ℕ = whole.1 in
    let is : new ≡ own ++ take used more = whole.3 in
    let size : length new ≡ length own + length (take used more) = ap (λ (xs : List ℕ). length xs) is ∙ length-append own (take used more) in
    let parts : own ++ more ≡ new ++ drop used more
    = ap (λ (xs : List ℕ). own ++ xs) (sym (take-append-drop used more))
    ∙ (sym (append_assoc own (take used more) (drop used more)) ∙ ap (λ (xs : List ℕ). xs ++ drop used more) (sym is)) in
    ap (λ (xs : List ℕ). parse_packet w xs) (same ∙ parts)
    ∙ whole_parse w new (drop used more) len (omega arith) full (counts_on w own new (take used more) len is headed k)

-- the same where the length field was filled first
pub packet_of_head : (w : ProtectionData) (len : ℕ) (piece held mid first more new : List ℕ) (used : ℕ) (result : Result Filled PacketFault) → Fills 4 piece held mid used
    → first ≡ take 4 mid → 4 ≤ length mid → more ≡ drop used piece → Counts w first len → FillsBody len more mid new result → FillsPacket w held piece new result
packet_of_head w len piece held mid first more new used result f is headed after k body =
    packet_of_body w len held piece mid more new result (filled_rest 4 piece held mid used f ∙ ap (λ (xs : List ℕ). mid ++ xs) (sym after)) headed (rw (← is) k) body

-- where the length was judged and more is wanted, the target is the packet's length
counts_by : (w : ProtectionData) (held : List ℕ) (b : Bool) → 4 ≤ length held → parse_packet w held ≡ unfinished → is_length w.counts w.block w.tag (w.head (take 4 held)) ≡ b
    → is_length w.counts w.block w.tag (w.head (take 4 held)) ≡ true
counts_by w held true headed e t = t
counts_by w held false headed e t =
    let bad : ◌≡◌ {A = Parse} unfinished (refused (OfPacket Length) 4) = sym e ∙ parse_bad w held headed t in cc

pub waits_counts : (w : ProtectionData) (held : List ℕ) (target : ℕ) → 4 ≤ length held → parse_packet w held ≡ unfinished → target ≡ needed w held → Counts w (take 4 held) target
waits_counts w held target headed e is = record {
  taken = counts_by w held (is_length w.counts w.block w.tag (w.head (take 4 held))) headed e refl;
  len_is = is ∙ needed_long w held headed;
}

-- Fewer bytes more than are wanted leave a packet unfinished, and as many wanted in all.
still_waits_so : (w : ProtectionData) (held more : List ℕ) → parse_packet w held ≡ unfinished → length held + length more < needed w held → (length held < 4) ⊎ (4 ≤ length held)
    → (parse_packet w (held ++ more) ≡ unfinished) × (needed w (held ++ more) ≡ needed w held)
still_waits_so w held more e less (inl short) =
    let few : needed w held ≡ 4 = needed_short w held short in
    let size : length (held ++ more) ≡ length held + length more = length-append held more in
    (parse_short w (held ++ more) (omega arith), needed_short w (held ++ more) (omega arith) ∙ sym few)
still_waits_so w held more e less (inr headed) =
    let size : length (held ++ more) ≡ length held + length more = length-append held more in
    let counts = waits_counts w held (needed w held) headed e refl in
    let told = part_parse w (held ++ more) (needed w held) (counts_on w held (held ++ more) more (needed w held) refl headed counts) (omega arith) (omega arith) in
    (told.0, sym told.1)

pub still_waits : (w : ProtectionData) (held more : List ℕ) → parse_packet w held ≡ unfinished → length held + length more < needed w held
    → (parse_packet w (held ++ more) ≡ unfinished) × (needed w (held ++ more) ≡ needed w held)
still_waits w held more e less = still_waits_so w held more e less (cases_lt (length held) 4)

-- after fewer than four bytes: the first four are not taken, or there are fewer
pub head_refused : (w : ProtectionData) (piece held new : List ℕ) (used : ℕ) → Fills 4 piece held new used → 4 ≤ length new
    → is_length w.counts w.block w.tag (w.head (take 4 new)) ≡ false → parse_packet w (held ++ piece) ≡ refused (OfPacket Length) (length new)
head_refused w piece held new used f headed bad =
    let four : length new ≡ 4 = filled_up 4 piece held new used f headed in
    let rest : List ℕ = drop used piece in
    let long : length (new ++ rest) ≡ length new + length rest = length-append new rest in
    let first : take 4 (new ++ rest) ≡ take 4 new = take-append-le 4 new rest headed in
    ap (λ (xs : List ℕ). parse_packet w xs) (filled_rest 4 piece held new used f)
    ∙ (parse_bad w (new ++ rest) (omega arith) (ap (λ (xs : List ℕ). is_length w.counts w.block w.tag (w.head xs)) first ∙ bad)
    ∙ ap (λ (n : ℕ). refused (OfPacket Length) n) (sym four))

pub head_part : (w : ProtectionData) (piece held new : List ℕ) (used : ℕ) → Fills 4 piece held new used → length new < 4
    → (new ≡ held ++ piece) × (parse_packet w (held ++ piece) ≡ unfinished) × (4 ≡ needed w new)
head_part w piece held new used f few =
    let is : new ≡ held ++ piece = filled_all 4 piece held new used f few in
    let same : length new ≡ length (held ++ piece) = ap (λ (xs : List ℕ). length xs) is in
    (is, parse_short w (held ++ piece) (omega arith), sym (needed_short w new few))

-- What was filled, and then opened.
pub reads_on : (w : ProtectionData) (held piece mid new : List ℕ) (used : ℕ) (f : Result Filled PacketFault) (result : Result Gathered PacketFault)
    → FillsPacket w held piece mid f → OpensFilled w mid new f result → length held ≤ length mid → used ≡ length mid - length held
    → ReadsOn w held piece new used result
reads_on w held piece mid new used (Err e) result fills opens grows is =
    let size : length mid ≡ length held + used = omega arith in
    rw opens.0 (λ other. fills other ∙ ap (λ (n : ℕ). refused (OfPacket e) n) size)
reads_on w held piece mid new used (Ok (filled.Part target)) result fills opens grows is =
    let all : mid ≡ held ++ piece = fills.0 in
    let size : length mid ≡ length held + length piece = ap (λ (xs : List ℕ). length xs) all ∙ length-append held piece in
    let told : ReadsOn w held piece new used (Ok (gathered.Part target))
    = (opens.1 ∙ all, omega arith, fills.1, fills.2 ∙ ap (λ (xs : List ℕ). needed w xs) (sym opens.1)) in
    rw opens.0 told
reads_on w held piece mid new used (Ok filled.Whole) (Ok (gathered.Part target)) fills opens grows is = absurd opens
reads_on w held piece mid new used (Ok filled.Whole) (Ok (gathered.Whole opened)) fills opens grows is =
    let size : length mid ≡ length held + used = omega arith in
    (opens.0, (fills ∙ opens.1) ∙ ap (λ (n : ℕ). Parse.whole (take opened.payload_len (drop 5 opened.packet.items)) n) size)
reads_on w held piece mid new used (Ok filled.Whole) (Err e) fills opens grows is =
    let size : length mid ≡ length held + used = omega arith in
    λ other. (fills ∙ opens other) ∙ ap (λ (n : ℕ). refused (OfPacket e) n) size

pub read_room : (w : ProtectionData) (held mid new : List ℕ) (used : ℕ) (f : Result Filled PacketFault) (result : Result Gathered PacketFault)
    → IfOk f (λ x. HasRoom (length mid) x) → IfOk f (λ x. FilledSome (length held) (length mid) x) → OpensFilled w mid new f result → used ≡ length mid - length held
    → IfOk result (λ x. GatheredRoom new used x)
read_room w held mid new used (Err e) result room grows opens is = rw opens.0 tt
read_room w held mid new used (Ok (filled.Part target)) result room grows opens is =
    let told : GatheredRoom new used (gathered.Part target) = rw opens.1 room in rw opens.0 told
read_room w held mid new used (Ok filled.Whole) (Ok (gathered.Part target)) room grows opens is = absurd opens
read_room w held mid new used (Ok filled.Whole) (Ok (gathered.Whole opened)) room grows opens is = let more : length held < length mid = grows in (opens.0, omega arith)
read_room w held mid new used (Ok filled.Whole) (Err e) room grows opens is = tt
