use Rattle.std.proofs.Common.{List, ℕ, ap, ap₂, ◌∙◌}
use Rattle.std.specs.Int.{w128, to_be_bytes}
use Rattle.std.specs.Prelude.{bit_xor}
use Rattle.sshsuite.specs.Aes.{cipher}
use Rattle.sshsuite.specs.Ghash.{ghash}
use Rattle.sshsuite.proofs.StreamLemmas.{first_key, first_mask}
use Rattle.sshsuite.proofs.gcm.tag.Goals as goal

pub returns : goal.returns
returns c =
    let blocks = c.args.blocks.now in
    let hash = c.ghash-hash.ensures
    ∙ (ap (λ (key : ℕ). ghash key c.split_at.result.0.now c.split_at.result.1.now) (first_key blocks.keys.now blocks.first blocks.counter c.requires.first)
    ∙ ap₂ (λ (additional body : List ℕ). ghash (cipher blocks.keys.now 0) additional body) c.split_at.ensures.front c.split_at.ensures.back) in
    c.to_be_bytes.ensures ∙ ap (to_be_bytes w128) (ap₂ bit_xor (first_mask blocks.keys.now blocks.first blocks.counter c.requires.first) hash)
