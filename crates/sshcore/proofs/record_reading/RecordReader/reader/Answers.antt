use Rattle.std.proofs.Common.{◌≡◌, ◌∙◌, List, ℕ, Option, ap, subst, sym}
use Rattle.sshpacket.specs.KeysData.{KeysData}
use Rattle.sshcore.specs.RecordData.{OfLines, OfPackets, held_in}
use Rattle.sshcore.specs.RecordText.{FitsReader}
use Rattle.sshcore.proofs.RecordLemmas.{lines_there, packets_there}
use Rattle.sshcore.proofs.record_reading.RecordReader.reader.Goals as goal

same_packets : (k l : Option KeysData) (n m : ℕ) (h i : List ℕ) → k ≡ l → n ≡ m → h ≡ i → OfPackets k n h ≡ OfPackets l m i
same_packets _ _ _ _ _ _ a b c = cc

same_lines : (n m : ℕ) (h i : List ℕ) → n ≡ m → h ≡ i → OfLines n h ≡ OfLines m i
same_lines _ _ _ _ a b = cc

pub returns-then-flag : goal.returns-then-flag
returns-then-flag c = λ x rest fits e.
    let found = packets_there c.args.self.now c.flag.new.self c.flag.result c.flag.ensures x rest c.if-flag.true e in
    let f = subst FitsReader found.is fits.0 in
    let held = sym (sym (ap held_in found.is) ∙ fits.1) in
    let keyed = c.keys-keys.ensures found.keys _ f.0 found.left in
    let numbered = c.number-number.ensures found.number rest f.1 keyed.1 in
    (same_packets _ _ _ _ _ _ keyed.0 numbered.0 held ∙ sym found.is, numbered.1, numbered.2 ∙ (keyed.2 ∙ found.whole))

pub returns-else-flag : goal.returns-else-flag
returns-else-flag c = λ x rest fits e.
    let found = lines_there c.args.self.now c.flag.new.self c.flag.result c.flag.ensures x rest c.if-flag.false e in
    let f = subst FitsReader found.is fits.0 in
    let held = sym (sym (ap held_in found.is) ∙ fits.1) in
    let numbered = c.number-others.ensures found.others rest f found.left in
    (same_lines _ _ _ _ numbered.0 held ∙ sym found.is, numbered.1, numbered.2 ∙ found.whole)
