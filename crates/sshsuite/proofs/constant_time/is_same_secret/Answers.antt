use Rattle.std.proofs.Common.{◌≡◌, length, arith}
use Rattle.sshsuite.proofs.SecretLemmas.{told_all}
use Rattle.sshsuite.proofs.constant_time.is_same_secret.Goals as goal

pub returns : goal.returns
returns c =
    let all : c.loop-i.i ≡ length c.args.presented.now = omega arith in
    told_all c.args.stored.now c.args.presented.now c.loop-i.difference (rw all at c.loop-i.invariant)
