-- When the packet reader waits for more.

use Rattle.std.proofs.Common.{◌≡◌, ◌<◌, ◌-◌, ℕ, List, [], ◌++◌, ◌+◌, length, refl, Option, None, Some, lit<, sym, ap, ◌∙◌, arith}
use Rattle.std.proofs.lemmas.List.{length-append}
use Rattle.sshpacket.specs.declared.fault.PacketFault.{PacketFault}
use Rattle.sshpacket.specs.declared.reader.PacketReader.{PacketReader}
use Rattle.sshpacket.specs.Parse.{ProtectionData, parse_packet, unfinished}
use Rattle.sshpacket.specs.KeysData.{KeysData}
use Rattle.sshpacket.specs.PacketReaderData.{PacketReaderData, ReaderWaits, ahead, missing_of, packet_reader_data, protection_at, target_len}
use Rattle.sshpacket.specs.ReaderSteps.{needed}
use Rattle.sshpacket.specs.Suite.{SuiteData}
use Rattle.sshpacket.proofs.ParseLemmas.{parse_short}
use Rattle.sshpacket.proofs.StepLemmas.{needed_short, still_waits}

none_unfinished : (w : ProtectionData) (held : List ℕ) → held ≡ [] → parse_packet w held ≡ unfinished
none_unfinished w held none = ap (λ (xs : List ℕ). parse_packet w xs) none ∙ parse_short w [] (lit< tt)

none_needed : (w : ProtectionData) (held : List ℕ) → held ≡ [] → needed w held ≡ 4
none_needed w held none = ap (λ (xs : List ℕ). needed w xs) none ∙ needed_short w [] (lit< tt)

-- where nothing is held, whatever the suite
pub waits_empty : (m : SuiteData) (r : PacketReader) → r.fault ≡ None → r.unfinished.items ≡ [] → r.target ≡ 4 → ReaderWaits m r
unfolding packet_reader_data target_len
waits_empty m r no_fault none four = record {
  no_fault = no_fault;
  unfinished_is = none_unfinished (protection_at m (packet_reader_data r)) r.unfinished.items none;
  knows = four ∙ sym (none_needed (protection_at m (packet_reader_data r)) r.unfinished.items none);
}

-- with fewer bytes more than are missing the packet stays unfinished
pub fewer_unfinished : (m : SuiteData) (r : PacketReader) (piece : List ℕ) → ReaderWaits m r → length piece < missing_of r → ahead m (packet_reader_data r) piece ≡ unfinished
fewer_unfinished m r piece waits few =
    let w = protection_at m (packet_reader_data r) in
    let held = (packet_reader_data r).held in
    let knows : target_len r ≡ needed w held = waits.knows in
    (still_waits w held piece waits.unfinished_is (omega arith)).0

-- the reader that holds these bytes more, and waits for the rest of the packet
some_fault : (f : Option PacketFault) (x : PacketFault) → f ≡ None → f ≡ Some x → ⊥
some_fault f x none e = cc

module _ (m : SuiteData) (r : PacketReader) (piece : List ℕ) (waits : ReaderWaits m r) (few : length piece < missing_of r) where
  pub holding : PacketReader
  unfolding packet_reader_data target_len
  holding = record r {
    unfinished = record { items = r.unfinished.items ++ piece; spare = r.unfinished.spare };
    room = let size : length (r.unfinished.items ++ piece) ≡ length r.unfinished.items + length piece = length-append r.unfinished.items piece in omega arith;
    none_held = λ x e. absurd (some_fault r.fault x waits.no_fault e);
  }

  pub holding_more : packet_reader_data holding ≡ record (packet_reader_data r) { held = (packet_reader_data r).held ++ piece }
  unfolding packet_reader_data holding
  holding_more = refl

  pub holding_fewer : missing_of holding ≡ missing_of r - length piece
  unfolding packet_reader_data target_len holding
  holding_fewer = let size : length (r.unfinished.items ++ piece) ≡ length r.unfinished.items + length piece = length-append r.unfinished.items piece in omega arith

  pub holding_waits : ReaderWaits m holding
  unfolding packet_reader_data target_len holding
  holding_waits =
      let w = protection_at m (packet_reader_data r) in
      let held = (packet_reader_data r).held in
      let knows : target_len r ≡ needed w held = waits.knows in
      let still = still_waits w held piece waits.unfinished_is (omega arith) in
      record { no_fault = waits.no_fault; unfinished_is = still.0; knows = knows ∙ sym still.1 }

pub none_held : (held : List ℕ) → held ≡ [] → length held < 4
none_held held none = let zero : length held ≡ 0 = ap (λ (xs : List ℕ). length xs) none in omega arith

-- a finished packet leaves nothing held, and the keys of the next one
pub finished : (keys next : Option KeysData) (seq : ℕ) (fault : Option PacketFault) (held : List ℕ) → held ≡ [] → keys ≡ next
    → ◌≡◌ {A = PacketReaderData} (record { keys = keys; seq = seq; held = held; fault = fault }) (record { keys = next; seq = seq; held = []; fault = fault })
finished keys next seq fault held none same =
    ap (λ (xs : List ℕ). let s : PacketReaderData = record { keys = keys; seq = seq; held = xs; fault = fault } in s) none
    ∙ ap (λ (k : Option KeysData). let s : PacketReaderData = record { keys = k; seq = seq; held = []; fault = fault } in s) same
