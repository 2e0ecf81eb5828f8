use Rattle.std.proofs.Common.{◌≡◌, ◌∙◌, ℕ, List, Option, Some, true, false, rules, string_bytes}
use Rattle.sshpacket.specs.Suite.{response_data}
use Rattle.sshcore.specs.EndpointConfig.{config_data, role_of}
use Rattle.sshcore.specs.Exchange.{secret_of}
use Rattle.sshcore.specs.Questions.{QuestionData, SignatureQuestion}
use Rattle.sshcore.specs.StateData.{state_data}
use Rattle.sshcore.proofs.ExchangeLemmas.{held_asks_none, none_prepared, prepared_is, refused_asks_none, unheld_asks}
use Rattle.sshcore.proofs.state.State.pending_init.Goals as goal

same_signature : (a x b y i j : List ℕ) → a ≡ x → b ≡ y → i ≡ j → ◌≡◌ {A = Option QuestionData} (Some (SignatureQuestion 0 a b i)) (Some (SignatureQuestion 0 x y j))
same_signature a x b y i j p q r = cc

pub returns-then-holds-clause-asks : goal.returns-then-holds-clause-asks
returns-then-holds-clause-asks g c = λ message read.
    let m = g.S.Suite.meaning c.args.suite.now in
    let config = config_data c.args.config.now in
    let known = (state_data c.args.self.now).known in
    let held : m.holds known.algorithms.host_key (secret_of config.host_keys known.algorithms.host_key) ≡ true = search rules in
    held_asks_none m config known message c.args.share.now read held

pub returns-in-None-clause-asks : goal.returns-in-None-clause-asks
returns-in-None-clause-asks g c = λ message read.
    let m = g.S.Suite.meaning c.args.suite.now in
    let config = config_data c.args.config.now in
    let known = (state_data c.args.self.now).known in
    refused_asks_none m config known message c.args.share.now read
    (none_prepared m (role_of c.args.config.now) config known c.args.share.now c.in_ok-prepare_init.field-0 c.in-None.is c.in_ok-prepare_init.ensures)

pub returns-in_ok-algorithm-in-Some-clause-asks : goal.returns-in_ok-algorithm-in-Some-clause-asks
returns-in_ok-algorithm-in-Some-clause-asks g c = λ message read.
    let m = g.S.Suite.meaning c.args.suite.now in
    let role = role_of c.args.config.now in
    let config = config_data c.args.config.now in
    let known = (state_data c.args.self.now).known in
    let p = c.in-Some.prepared in
    let is = prepared_is m role config known c.args.share.now c.in_ok-prepare_init.field-0 p c.in-Some.is c.in_ok-prepare_init.ensures in
    let off : m.holds known.algorithms.host_key (secret_of config.host_keys known.algorithms.host_key) ≡ false = search rules in
    let name : string_bytes c.in_ok-algorithm-in-Some.algorithm ≡ known.algorithms.host_key = search rules in
    same_signature _ _ _ _ _ _ name is.host_key is.hash ∙ unheld_asks m config known message c.args.share.now read role (response_data p.response) c.requires.server is.response off
