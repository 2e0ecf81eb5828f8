use Rattle.std.proofs.Common.{◌∙◌, ap, length}
use Rattle.sshpacket.specs.Suite.{response_data}
use Rattle.sshcore.proofs.ExchangeLemmas.{share_short, shared_short}
use Rattle.sshworld.proofs.SessionLemmas.{responded}
use Rattle.sshworld.proofs.session.answer_of.Goals as goal

pub returns-in-Some-clause-share : goal.returns-in-Some-clause-share
returns-in-Some-clause-share g c =
    let m = g.S.Suite.meaning c.args.suite.now in
    let kex = c.args.kex.now in
    let random = c.exchange_random.result.now in
    let share = c.args.share.now in
    let answer = c.in-Some.answer in
    let long = ap length c.exchange_random.ensures.random ∙ c.exchange_random.ensures.long in
    let is = responded c.in_ok-answer.field-0 answer (m.respond kex random share) c.in_ok-answer.ensures c.in-Some.is in
    share_short (m.share_form kex) answer.share.items ((g.met.S.Suite.lawful c.args.suite.now).response_fits kex random share (response_data answer) long is).0

pub returns-in-Some-clause-shared : goal.returns-in-Some-clause-shared
returns-in-Some-clause-shared g c =
    let m = g.S.Suite.meaning c.args.suite.now in
    let kex = c.args.kex.now in
    let random = c.exchange_random.result.now in
    let share = c.args.share.now in
    let answer = c.in-Some.answer in
    let long = ap length c.exchange_random.ensures.random ∙ c.exchange_random.ensures.long in
    let is = responded c.in_ok-answer.field-0 answer (m.respond kex random share) c.in_ok-answer.ensures c.in-Some.is in
    shared_short (m.share_form kex) answer.shared.items ((g.met.S.Suite.lawful c.args.suite.now).response_fits kex random share (response_data answer) long is).1
