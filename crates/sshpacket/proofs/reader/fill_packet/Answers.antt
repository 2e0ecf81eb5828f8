use Rattle.std.proofs.Common.{rules, refl, List, ℕ}
use Rattle.sshpacket.specs.Parse.{ProtectionData, protection}
use Rattle.sshpacket.proofs.StepLemmas.{head_part, head_refused, packet_of_body, packet_of_head, waits_counts}
use Rattle.sshpacket.proofs.reader.fill_packet.Goals as goal

pub returns-then-len-ge4-clause-fills : goal.returns-then-len-ge4-clause-fills
returns-then-len-ge4-clause-fills g c = λ unfinished wanted.
    let w : ProtectionData = protection (g.S.Suite.meaning c.args.guard.now.suite.now) c.args.guard.now.keys.now c.args.guard.now.seq in
    let held : List ℕ = c.args.held.now.items in
    packet_of_body w c.args.target held c.args.piece.now held c.args.piece.now _ _ refl (search rules) (waits_counts w held c.args.target (search rules) unfinished wanted)
    c.fill_body.ensures.fills

pub returns-in_default-clause-fills : goal.returns-in_default-clause-fills
returns-in_default-clause-fills g c = λ unfinished wanted.
    let w : ProtectionData = protection (g.S.Suite.meaning c.args.guard.now.suite.now) c.args.guard.now.keys.now c.args.guard.now.seq in
    head_part w c.args.piece.now c.args.held.now.items c.fill.new.held.items c.in_ok-used.used c.in_ok-used.ensures.ok (search rules)

pub returns-in-Some-packet_len-clause-fills : goal.returns-in-Some-packet_len-clause-fills
returns-in-Some-packet_len-clause-fills g c = λ unfinished wanted.
    let w : ProtectionData = protection (g.S.Suite.meaning c.args.guard.now.suite.now) c.args.guard.now.keys.now c.args.guard.now.seq in
    packet_of_head w c.in-Some-packet_len.len c.args.piece.now c.args.held.now.items c.fill.new.held.items c.in-Some.first _ _ c.in_ok-used.used _
    c.in_ok-used.ensures.ok (search rules) (search rules) c.after.ensures (search rules) c.fill_body-in-Some-packet_len.ensures.fills

pub returns-in-None-clause-fills : goal.returns-in-None-clause-fills
returns-in-None-clause-fills g c = λ unfinished wanted other.
    let w : ProtectionData = protection (g.S.Suite.meaning c.args.guard.now.suite.now) c.args.guard.now.keys.now c.args.guard.now.seq in
    head_refused w c.args.piece.now c.args.held.now.items c.fill.new.held.items c.in_ok-used.used c.in_ok-used.ensures.ok (search rules) (search rules)
