use Rattle.std.proofs.Common.{lit≤, true}
use Rattle.sshpacket.specs.Written.{written}
use Rattle.sshpacket.proofs.Writings.{IsBytesLaw, clear_again, sealed_again, size_is, written_bytes, written_is}
use Rattle.sshpacket.proofs.packet_laws.writing_law.Goals as goal

bytes : (c : goal.After-bytes_law) → IsBytesLaw
bytes c = record { append = c.bytes_law.ensures.append; cons = c.bytes_law.ensures.cons; number = c.bytes_law.ensures.uint32 }

pub returns-clause-written : goal.returns-clause-written
returns-clause-written c = written_is

pub returns-clause-bytes : goal.returns-clause-bytes
returns-clause-bytes c = written_bytes (bytes c)

pub returns-clause-clear : goal.returns-clause-clear
returns-clause-clear c = λ m law seed seq payload rest some short.
    clear_again c.types_law.ensures.uint32 m seq payload (written m true 8 seed seq payload) rest
    (written_is m law true 8 0 seed seq payload (lit≤ tt) (lit≤ tt) some short).spells

pub returns-clause-sealed : goal.returns-clause-sealed
returns-clause-sealed c = λ m law keys seed seq payload rest low each some short.
    sealed_again c.types_law.ensures.uint32 m law keys seq payload (written m (m.counts_length keys.cipher keys.mac) (m.block keys.cipher) seed seq payload) rest low
    (written_bytes (bytes c) m law (m.counts_length keys.cipher keys.mac) (m.block keys.cipher) seed seq payload (law.block_high keys.cipher) each)
    (written_is m law (m.counts_length keys.cipher keys.mac) (m.block keys.cipher) (m.tag_len keys.cipher keys.mac) seed seq payload (law.block_high keys.cipher)
    (law.tag_high keys.cipher keys.mac) some short).spells

pub returns-clause-size : goal.returns-clause-size
returns-clause-size c = λ m law keys seed seq payload low each some short.
    size_is (bytes c) m law keys seed seq payload low each
    (written_is m law (m.counts_length keys.cipher keys.mac) (m.block keys.cipher) (m.tag_len keys.cipher keys.mac) seed seq payload (law.block_high keys.cipher)
    (law.tag_high keys.cipher keys.mac) some short).spells
