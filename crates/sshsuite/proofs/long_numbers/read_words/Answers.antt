use Rattle.std.proofs.Common.{◌≡◌, length, arith, refl, rules, ◌*◌, ◌∙◌}
use Rattle.std.proofs.lemmas.List.{length-set}
use Rattle.std.specs.Prelude.{slice_set}
use Rattle.sshsuite.proofs.ByteNumberLemmas.{read_all, read_more, read_none}
use Rattle.sshsuite.proofs.long_numbers.read_words.Goals as goal

pub loop-i-init : goal.loop-i-init
loop-i-init c = (refl, read_none c.args.words.now c.args.bytes.now (8 * length c.args.words.now) (omega (arith, c.requires)))

pub loop-i-preserved : goal.loop-i-preserved
loop-i-preserved c =
    let same : length (slice_set c.loop-i.words c.loop-i.i c.high_word_at.result) ≡ length c.args.words.now =
    length-set c.loop-i.words c.loop-i.i c.high_word_at.result ∙ c.loop-i.invariant.0 in
    (same, rw c.high_word_at.ensures (read_more c.loop-i.words c.args.bytes.now (length c.args.words.now) c.loop-i.i c.requires (search rules) c.loop-i.invariant.0 c.loop-i.invariant.1))

pub returns : goal.returns
returns c = read_all c.loop-i.words c.args.bytes.now (length c.args.words.now) c.loop-i.i (search rules) c.loop-i.invariant.0 c.loop-i.invariant.1
