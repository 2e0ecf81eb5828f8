use Rattle.std.proofs.Common.{rules, ◌≡◌, [], Err, sym, ◌∙◌, arith}
use Rattle.sshwire.specs.declared.fault.WireFault.{WireFault}
use Rattle.sshmsg.specs.Form.{form_at}
use Rattle.sshmsg.specs.Lists.{pair_at}
use Rattle.sshmsg.specs.MessageData.{extensions}
use Rattle.sshmsg.specs.View.{pair_of}
use Rattle.sshmsg.proofs.ExtensionLemmas.{no_more, no_pair}
use Rattle.sshmsg.proofs.ListLemmas.{pass_pair}
use Rattle.sshmsg.proofs.lists.pass_extensions.Goals as goal

pub returns-in_err-read_extension : goal.returns-in_err-read_extension
returns-in_err-read_extension c =
    let none : (code : WireFault) → pair_at c.loop.reader ≡ Err code → form_at (extensions c.args.count []) c.args.reader.now ≡ Err code =
    λ code e. sym c.loop.invariant.1 ∙ no_pair c.args.count c.loop.counter c.loop.invariant.0 c.loop.reader code c.loop-test.true e in
    search (rules, none)

pub loop-preserved : goal.loop-preserved
loop-preserved c =
    pass_pair c.args.count c.loop.counter c.args.reader.now c.loop.reader (pair_of c.in_ok-read_extension.field-0) c.read_extension.new.reader
    c.loop-test.true c.in_ok-read_extension.ensures c.loop.invariant

pub returns : goal.returns
returns c = (c.loop.invariant.0, sym c.loop.invariant.1 ∙ no_more c.args.count c.loop.counter c.loop.invariant.0 c.loop.reader (omega arith))
