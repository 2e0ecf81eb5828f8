use Rattle.sshpacket.proofs.write.sealed_is_packet.Goals as goal

pub returns : goal.returns
returns g c =
    let m = g.S.Suite.meaning c.args.suite.now in
    let law = g.met.S.Suite.lawful c.args.suite.now in
    let keys = c.args.keys.now in
    c.writing_law.ensures.written m law (m.counts_length keys.cipher keys.mac) (m.block keys.cipher) (m.tag_len keys.cipher keys.mac) c.args.seed.now c.args.seq c.args.payload.now
    (law.block_high keys.cipher) (law.tag_high keys.cipher keys.mac) c.requires.some c.requires.payload
