use Rattle.std.proofs.Common.{◌∙◌, ap, length}
use Rattle.sshcore.proofs.ExchangeLemmas.{share_short}
use Rattle.sshworld.proofs.SessionLemmas.{if_ok}
use Rattle.sshworld.proofs.session.share_of.Goals as goal

pub returns-clause-short : goal.returns-clause-short
returns-clause-short g c =
    let m = g.S.Suite.meaning c.args.suite.now in
    let kex = c.args.kex.now in
    let random = c.exchange_random.result.now in
    let long = ap length c.exchange_random.ensures.random ∙ c.exchange_random.ensures.long in
    let short = share_short (m.share_form kex) (m.share kex random) ((g.met.S.Suite.lawful c.args.suite.now).share_fits kex random long) in
    if_ok c.public.result (λ share e. rw e short) c.public.ensures
