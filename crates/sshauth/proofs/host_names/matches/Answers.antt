use Rattle.std.proofs.Common.{rules, ◌∙◌, Bor, ℕ, map, sym}
use Rattle.std.proofs.lemmas.Iterator.Consumers.{YieldsList-end}
use Rattle.std.proofs.lemmas.Iterator.Adapters.{YieldsList-from_rev_slice}
use Rattle.sshauth.proofs.HostNameLemmas.{row_more, row_of-none, row_whole}
use Rattle.sshauth.proofs.host_names.matches.Goals as goal

pub returns : goal.returns
returns c =
    let end = YieldsList-end (YieldsList-from_rev_slice c.args.pattern.now (search rules))
    c.loop-byte.yielded _ c.loop-byte.yielded_by _ _ c.in-None.is c.next.ensures.steps in
    let told = rw (c.deref-2.ensures.value) at c.last_of.ensures in
    told ∙ row_whole c.args.pattern.now (map (λ (byte : Bor ℕ). byte.now) c.loop-byte.yielded) c.args.text.now c.loop-byte.row.items c.loop-byte.invariant end.0

pub loop-byte-init : goal.loop-byte-init
loop-byte-init c = c.in_ok-row.ensures ∙ sym (row_of-none c.args.text.now)

pub loop-byte-preserved : goal.loop-byte-preserved
loop-byte-preserved c =
    row_more (λ (byte : Bor ℕ). byte.now) c.loop-byte.yielded c.in-Some.byte c.args.text.now c.in_ok-turned.turned.items c.loop-byte.row.items c.in_ok-row-2.row.items
    c.loop-byte.invariant (search rules) (search rules)
