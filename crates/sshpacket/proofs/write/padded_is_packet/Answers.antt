use Rattle.sshpacket.specs.Packet.{packet}
use Rattle.sshpacket.proofs.Writings.{clear_again, padded_is}
use Rattle.sshpacket.proofs.write.padded_is_packet.Goals as goal

pub returns-clause-packet : goal.returns-clause-packet
returns-clause-packet c = padded_is c.args.payload.now c.args.padding.now c.requires.some c.requires.payload c.requires.padding c.requires.short

pub returns-clause-again : goal.returns-clause-again
returns-clause-again c = λ m seq rest. clear_again c.types_law.ensures.uint32 m seq c.args.payload.now (packet c.args.payload.now c.args.padding.now) rest
    (padded_is c.args.payload.now c.args.padding.now c.requires.some c.requires.payload c.requires.padding c.requires.short)
