use Rattle.std.proofs.Common.{refl}
use Rattle.rezdolin.proofs.FrameLemmas.{differs, frame_other}
use Rattle.rezdolin.proofs.frame.text_in.Goals as goal

pub returns-in_default-clause-refused : goal.returns-in_default-clause-refused
returns-in_default-clause-refused c = c.in_default.ensures.none refl

pub returns-then-not-is_same_secret-clause-refused : goal.returns-then-not-is_same_secret-clause-refused
returns-then-not-is_same_secret-clause-refused c =
    frame_other c.args.bytes.now c.in-Some.frame.digest.now c.in-Some.frame.text.now c.args.digest.now c.in-Some.ensures.frame.0 c.in-Some.ensures.frame.1
    (differs c.in-Some.frame.digest.now c.args.digest.now c.is_same_secret.result c.is_same_secret.ensures c.if-not-is_same_secret.true)
