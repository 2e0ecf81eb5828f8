use Rattle.std.proofs.Common.{◌∙◌, ap}
use Rattle.sshneg.specs.declared.choice.NoCommon.TheVariants as field
use Rattle.sshworld.specs.AlgorithmsView.{algorithms_named}
use Rattle.sshworld.proofs.SessionLemmas.{hashed, if_ok}
use Rattle.sshworld.proofs.session.session.Goals as goal

pub digest-requires-clause-kex : goal.digest-requires-clause-kex
digest-requires-clause-kex g c = c.requires.names field.Kex

pub returns : goal.returns
returns g c =
    let m = g.S.Suite.meaning c.args.suite.now in
    let names = algorithms_named c.args.names.now in
    if_ok c.digest.result (λ hash e. hashed m c.args.client.now c.args.server.now names c.in_ok-shares.shares c.in_ok-input.input.items hash.items
    c.in_ok-shares.ensures.shares c.in_ok-input.ensures.input (e ∙ ap (m.digest names.kex) c.deref.ensures.value)) c.digest.ensures
