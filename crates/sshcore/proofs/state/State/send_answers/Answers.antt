use Rattle.std.proofs.Common.{◌≡◌, ℕ, ◌<◌, ◌≤◌, List, [], map, take, length, sym, ap, subst, ◌∙◌, false}
use Rattle.std.proofs.lemmas.List.{take_all}
use Rattle.sshwire.specs.declared.limits.TheConstants.{PAYLOAD_LIMIT}
use Rattle.sshpacket.specs.KeysData.{KeysData}
use Rattle.sshpacket.specs.Stream.{Units}
use Rattle.sshcore.specs.EndpointConfig.{config_data}
use Rattle.sshcore.specs.StateData.{StateData, state_data}
use Rattle.sshcore.proofs.ReplyLemmas.{HasSent, all_sent, none_sent, one_sent, plain_at, taken_more}
use Rattle.sshcore.proofs.state.State.send_answers.Goals as goal

pub loop-payload-init : goal.loop-payload-init
loop-payload-init g c = λ strict next. none_sent _ _ strict next _ _

pub send-requires-clause-some : goal.send-requires-clause-some
send-requires-clause-some g c =
    let plain = plain_at (λ p. p.items) c.payloads-payload-items.result.now c.loop-payload.payload-index c.payload-item.result c.loop-payload-test.true c.payload-item.is
    (rw c.payloads-payload-items.ensures.payloads c.payloads-payload-items.ensures.plain) in
    subst (λ (l : List ℕ). 0 < length l) (sym c.deref.ensures.value) plain.fits.some

pub send-requires-clause-short : goal.send-requires-clause-short
send-requires-clause-short g c =
    let plain = plain_at (λ p. p.items) c.payloads-payload-items.result.now c.loop-payload.payload-index c.payload-item.result c.loop-payload-test.true c.payload-item.is
    (rw c.payloads-payload-items.ensures.payloads c.payloads-payload-items.ensures.plain) in
    subst (λ (l : List ℕ). length l ≤ PAYLOAD_LIMIT) (sym c.deref.ensures.value) plain.fits.short

pub loop-payload-preserved : goal.loop-payload-preserved
loop-payload-preserved g c = λ strict next.
    let m = g.S.Suite.meaning c.args.suite.now in
    let seed = (config_data c.args.config.now).seed in
    let old = state_data c.args.self.now in
    let mid = state_data c.loop-payload.self in
    let new = state_data c.send.new.self in
    let items = c.payloads-payload-items.result.now in
    let front = map (λ p. p.items) (take c.loop-payload.payload-index items) in
    let payload = c.payload-item.result.items in
    let value : c.deref.result.now ≡ payload = c.deref.ensures.value in
    let plain = plain_at (λ p. p.items) items c.loop-payload.payload-index c.payload-item.result c.loop-payload-test.true c.payload-item.is
    (rw c.payloads-payload-items.ensures.payloads c.payloads-payload-items.ensures.plain) in
    subst (λ (a : Units). HasSent m seed strict next old new c.args.sent.now.items c.send.new.sent.items a)
    (sym (taken_more (λ p. p.items) items c.loop-payload.payload-index c.payload-item.result c.loop-payload-test.true c.payload-item.is))
    (one_sent m seed strict next old mid new c.args.sent.now.items c.loop-payload.sent.items c.send.new.sent.items front payload plain (c.loop-payload.invariant strict next)
    (rw (← value) c.in_ok-send.ensures.spells) (rw (← value) c.in_ok-send.ensures.counts))

pub returns-clause-gives : goal.returns-clause-gives
returns-clause-gives g c = λ strict next.
    let m = g.S.Suite.meaning c.args.suite.now in
    let seed = (config_data c.args.config.now).seed in
    let items = c.payloads-payload-items.result.now in
    let all : map (λ p. p.items) (take c.loop-payload.payload-index items) ≡ c.args.answers.now =
    ap (map (λ p. p.items)) (take_all c.loop-payload.payload-index items c.loop-payload-test.false) ∙ c.payloads-payload-items.ensures.payloads in
    all_sent m seed strict next (state_data c.args.self.now) (state_data c.loop-payload.self) c.args.sent.now.items c.loop-payload.sent.items c.args.answers.now c.payloads-payload-items.ensures.plain
    (subst (λ (a : Units). HasSent m seed strict next (state_data c.args.self.now) (state_data c.loop-payload.self) c.args.sent.now.items c.loop-payload.sent.items a) all (c.loop-payload.invariant strict next))

-- any keys
no_keys : KeysData
no_keys = record { cipher = []; mac = []; iv = []; enc = []; mac_key = [] }

pub returns-clause-stays : goal.returns-clause-stays
returns-clause-stays g c =
    let kept = (c.loop-payload.invariant false no_keys).kept in
    kept ∙ ap (λ o. record (state_data c.args.self.now) { sending = o }) (sym (ap (λ (k : StateData). k.sending) kept))
