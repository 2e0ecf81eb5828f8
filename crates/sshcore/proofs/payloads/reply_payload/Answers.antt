use Rattle.std.proofs.Common.{arith}
use Rattle.sshcore.proofs.PayloadLemmas.{number_is, reply_number, reply_octets, taken}
use Rattle.sshcore.proofs.payloads.reply_payload.Goals as goal

pub unwrap-requires : goal.unwrap-requires
unwrap-requires c =
    taken c.types_law.ensures.canonical c.args.form c.args.share.now c.new.result c.in-Mpint.is (λ i. omega (arith, c.type_inv.share i)) c.requires.share c.new.ensures.err

pub payload_from-requires : goal.payload_from-requires
payload_from-requires c =
    rw (number_is c.args.share.now c.unwrap.result c.new.result c.new.ensures.ok c.unwrap.ensures)
    (reply_number c.lengths_law.ensures.written c.args.form c.args.host_key.now c.args.share.now c.args.signature.now c.requires.share c.requires.host_key c.requires.signature)

pub payload_from-requires-in-OctetString : goal.payload_from-requires-in-OctetString
payload_from-requires-in-OctetString c =
    reply_octets c.lengths_law.ensures.written c.args.form c.args.host_key.now c.args.share.now c.args.signature.now c.requires.share c.requires.host_key c.requires.signature
