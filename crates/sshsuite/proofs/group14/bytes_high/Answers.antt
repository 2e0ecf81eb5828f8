use Rattle.std.proofs.Common.{◌+◌, ◌-◌, ◌*◌, ◌++◌, ℕ, ap, arith, drop, rules, sym, ◌∙◌}
use Rattle.std.specs.Int.{to_be_bytes, w64}
use Rattle.std.specs.Prelude.{slice_index}
use Rattle.sshsuite.proofs.ByteNumberLemmas.{bytes_more, put_dropped, written_all}
use Rattle.sshsuite.proofs.group14.bytes_high.Goals as goal

pub loop-i-preserved : goal.loop-i-preserved
loop-i-preserved c =
    let i : ℕ = c.loop-i.i in
    put_dropped (248 - 8 * i) (248 - 8 * i + 8 - (248 - 8 * i)) (256 - 8 * i) (256 - 8 * (i + 1)) c.loop-i.bytes c.copy_from_slice.new.self (omega (arith, c.loop-i-test.array_long)) (omega arith) (omega arith)
    ∙ ap (λ t. t ++ drop (256 - 8 * i) c.loop-i.bytes) (c.copy_from_slice.ensures.after ∙ c.to_be_bytes.ensures)
    ∙ ap (λ t. to_be_bytes w64 (slice_index c.args.number.now i) ++ t) c.loop-i.invariant ∙ sym (bytes_more c.args.number.now i (λ k. c.fits-number k))

pub returns : goal.returns
returns c = written_all c.loop-i.bytes c.args.number.now c.loop-i.i (omega arith) (search rules) c.loop-i.invariant
