use Rattle.std.proofs.Common.{◌≡◌, ◌∙◌, ◌<◌, ◌^◌, ◌++◌, List, ℕ, ap, arith, length, rules, sym}
use Rattle.std.proofs.lemmas.Grind.{common_steps}
use Rattle.sshwire.specs.Types.{IsBytes}
use Rattle.sshpacket.specs.Suite.{advanced}
use Rattle.sshpacket.specs.Written.{written_sealed}
use Rattle.sshsuite.specs.Deployed.{deployed}
use Rattle.sshsuite.specs.DeployedLaws.{deployed_lawful}
use Rattle.rezdolin.proofs.directions.sealed.Goals as goal

pub returns-clause-next : goal.returns-clause-next
returns-clause-next c =
    let keys = c.args.keys.now in
    let payload = c.args.payload.now in
    let sealed = written_sealed deployed keys c.args.padding_seed.now c.args.number payload in
    let low : c.args.number < 2 ^ 32 = grind (arith, common_steps) in
    let bytes : IsBytes payload = search rules in
    let is : c.write_next.new.out.items ≡ sealed = c.in_ok-write_next.ensures.appends ∙ ap (λ (xs : List ℕ). xs ++ sealed) c.new-packet.ensures.items in
    let size = c.writing_law.ensures.size deployed deployed_lawful keys c.args.padding_seed.now c.args.number payload low bytes c.requires.some c.requires.short in
    c.in_ok-write_next.ensures.next ∙ ap (advanced deployed keys) (sym (ap length is ∙ size))
