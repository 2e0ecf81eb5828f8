use Rattle.std.proofs.Common.{rules, ◌≡◌, [], ◌∷◌, ◌++◌, Err, sym, ◌∙◌, arith}
use Rattle.std.proofs.lemmas.List.{map_push}
use Rattle.sshwire.specs.declared.fault.WireFault.{WireFault}
use Rattle.sshmsg.specs.Form.{form_at}
use Rattle.sshmsg.specs.Lists.{pair_at}
use Rattle.sshmsg.specs.MessageData.{extensions}
use Rattle.sshmsg.specs.View.{pair_of, pairs_of}
use Rattle.sshmsg.proofs.ExtensionLemmas.{no_more, no_pair, one_pair}
use Rattle.sshmsg.proofs.lists.keep_extensions.Goals as goal

pub returns-in_err-extension : goal.returns-in_err-extension
returns-in_err-extension c =
    let none : (code : WireFault) → pair_at c.loop.reader ≡ Err code → form_at (extensions c.args.count (pairs_of c.args.found.now.items)) c.args.reader.now ≡ Err code =
    λ code e. sym c.loop.invariant ∙ no_pair c.args.count c.loop.counter (pairs_of c.loop.found.items) c.loop.reader code c.loop-test.true e in
    search (rules, none)

pub loop-preserved : goal.loop-preserved
loop-preserved c =
    let pairs : pairs_of c.push.new.self.items ≡ pairs_of c.loop.found.items ++ pair_of c.in_ok-extension.extension ∷ [] = search (rules, map_push) in
    rw pairs
    (sym (one_pair c.args.count c.loop.counter (pairs_of c.loop.found.items) c.loop.reader (pair_of c.in_ok-extension.extension) c.read_extension.new.reader
    c.loop-test.true c.in_ok-extension.ensures)
    ∙ c.loop.invariant)

pub returns : goal.returns
returns c = sym c.loop.invariant ∙ no_more c.args.count c.loop.counter (pairs_of c.loop.found.items) c.loop.reader (omega arith)
