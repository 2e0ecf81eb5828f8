use Rattle.std.proofs.Common.{◌≡◌, ℕ, ◌++◌, List, length, refl, sym, subst, Some, []}
use Rattle.std.proofs.lemmas.List.{append-nil, take_at}
use Rattle.sshwire.specs.Types.{IsBytes}
use Rattle.sshpacket.specs.Written.{written}
use Rattle.sshpacket.specs.Parse.{parse_packet, protection, whole}
use Rattle.sshpacket.specs.ProtectedPacket.{IsProtectedPacket, PacketMeans}
use Rattle.sshcore.specs.Linked.{sealed_by}
use Rattle.sshcore.proofs.PairLemmas.{begins_linked, counts_by, fresh_by, goes_on_linked, opens_linked}
use Rattle.sshcore.proofs.link_laws.link_law.Goals as goal

pub returns-clause-begins : goal.returns-clause-begins
returns-clause-begins c = begins_linked

pub returns-clause-opens : goal.returns-clause-opens
returns-clause-opens c = λ m law o i l payload rest each can.
    let sealed : List ℕ = sealed_by m o payload in
    let w = protection m (Some o.keys) o.number in
    let whole_is : parse_packet w (sealed ++ []) ≡ whole payload (length sealed)
    = c.writing_law.ensures.sealed m law o.keys o.seed o.number payload [] l.in_range each can.some can.short in
    let means : PacketMeans w (sealed ++ []) (whole payload (length sealed))
    = subst (λ p. PacketMeans w (sealed ++ []) p) whole_is (c.packet_law.ensures.found w (sealed ++ []) (c.packet_law.ensures.faithful m law (Some o.keys) o.number l.in_range)
    (subst (λ (xs : List ℕ). IsBytes xs) (sym (append-nil sealed)) (law.seal_bytes o.keys o.number (written m (m.counts_length o.keys.cipher o.keys.mac) (m.block o.keys.cipher) o.seed o.number payload)
    (c.writing_law.ensures.bytes m law (m.counts_length o.keys.cipher o.keys.mac) (m.block o.keys.cipher) o.seed o.number payload (law.block_high o.keys.cipher) each)))) in
    opens_linked m o i l payload rest
    (subst (λ (xs : List ℕ). IsProtectedPacket w payload xs) (take_at sealed [] (length sealed) refl) means.1)

pub returns-clause-goes_on : goal.returns-clause-goes_on
returns-clause-goes_on c = goes_on_linked

pub returns-clause-size : goal.returns-clause-size
returns-clause-size c = λ m law o payload low each can. c.writing_law.ensures.size m law o.keys o.seed o.number payload low each can.some can.short

pub returns-clause-counts : goal.returns-clause-counts
returns-clause-counts c = counts_by

pub returns-clause-fresh : goal.returns-clause-fresh
returns-clause-fresh c = fresh_by
