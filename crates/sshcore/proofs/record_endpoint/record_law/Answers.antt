use Rattle.std.proofs.Common.{ap}
use Rattle.sshcore.specs.StateData.{StateData}
use Rattle.sshcore.specs.Paused.{kept_by}
use Rattle.sshcore.proofs.RecordLawLemmas.{asked_as, asking_as, reading_of}
use Rattle.sshcore.proofs.record_endpoint.record_law.Goals as goal

pub returns-clause-after : goal.returns-clause-after
returns-clause-after g c = λ setup h s same after.
    let one = c.args.one.now in
    let other = c.args.other.now in
    asking_as setup (kept_by setup.config one) (kept_by setup.config other) one.input other.input one.waiting other.waiting h s same.kept same.input same.waiting after

pub returns-clause-end : goal.returns-clause-end
returns-clause-end g c = λ role config same. ap (λ (k : StateData). k.end) same.kept

pub returns-clause-asks : goal.returns-clause-asks
returns-clause-asks g c = λ role config same. asked_as _ _ c.args.one.now.waiting c.args.other.now.waiting (ap (λ (k : StateData). k.end) same.kept) same.waiting

pub returns-clause-reading : goal.returns-clause-reading
returns-clause-reading g c = λ setup h s after is. reading_of setup (kept_by setup.config c.args.one.now) c.args.one.now.input c.args.one.now.waiting h s is after
