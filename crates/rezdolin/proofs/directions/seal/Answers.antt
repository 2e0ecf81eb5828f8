use Rattle.std.proofs.Common.{◌≡◌, ◌∙◌, ◌<◌, ◌≤◌, List, ℕ, ap, length, sym, true, arith}
use Rattle.std.proofs.lemmas.Grind.{common_steps}
use Rattle.sshwire.specs.declared.limits.TheConstants.{PAYLOAD_LIMIT}
use Rattle.sshpacket.specs.Suite.{advanced}
use Rattle.sshpacket.specs.Written.{written_sealed}
use Rattle.sshsuite.specs.Deployed.{deployed}
use Rattle.rezdolin.specs.Directions.{IsPut}
use Rattle.rezdolin.proofs.DirectionLemmas.{before_next, sealed_by}
use Rattle.rezdolin.proofs.directions.seal.Goals as goal

pub raise-requires-clause-state : goal.raise-requires-clause-state
raise-requires-clause-state c =
    let now = c.in_ok-next.next in
    before_next now.place (length c.in-Ok.packet.items) now.keys c.sealed.new.keys c.args.state.now c.in_ok-next.ensures.0 c.in-Ok.ensures.next

pub returns-clause-sealed : goal.returns-clause-sealed
returns-clause-sealed c =
    let now = c.in_ok-next.next in
    let packet = c.deref.result.now in
    let some : 0 < length c.args.payload.now = grind (arith, common_steps) in
    let short : length c.args.payload.now ≤ PAYLOAD_LIMIT = omega arith in
    let there : c.is_copied.result ≡ true = grind (arith, common_steps) in
    let is : packet ≡ written_sealed deployed now.keys c.args.padding_seed.now now.place.number c.args.payload.now = c.deref.ensures.value ∙ c.in-Ok.ensures.sealed in
    let next : c.sealed.new.keys ≡ advanced deployed now.keys (length packet)
    = c.in-Ok.ensures.next ∙ ap (λ (xs : List ℕ). advanced deployed now.keys (length xs)) (sym c.deref.ensures.value) in
    let len : c.len-len.result ≡ length packet = c.len-len.ensures ∙ sym c.deref.ensures.len in
    let copied = c.is_copied.ensures.put there in
    let put : IsPut packet c.args.out.now c.len-len.result c.is_copied.new.out = (copied.0, len, copied.2) in
    sealed_by now.place now.keys c.sealed.new.keys c.args.padding_seed.now c.args.payload.now
    packet c.args.state.now c.raise.new.state c.args.out.now c.is_copied.new.out c.len-len.result
    c.in_ok-next.ensures.0 c.in_ok-next.ensures.1 c.in_ok-next.ensures.2 next c.raise.ensures (c.is_uniform.ensures.no c.if-is_uniform.false) some short is put c.in-Ok.ensures.packet
