use Rattle.std.proofs.Common.{◌≡◌, ◌≤◌, arith, length, rules}
use Rattle.sshneg.specs.ExchangeEnd.{exchange_hash}
use Rattle.sshpacket.specs.declared.limits.TheConstants.{BLOB_LIMIT, SHARE_LIMIT}
use Rattle.sshpacket.specs.Suite.{response_data}
use Rattle.sshcore.specs.EndpointConfig.{config_data, role_of}
use Rattle.sshcore.specs.Exchange.{secret_of}
use Rattle.sshcore.specs.Exchanged.{exchanged, server_shares}
use Rattle.sshcore.specs.StateData.{state_data}
use Rattle.sshcore.proofs.ExchangeLemmas.{given_answer, given_none, share_short}
use Rattle.sshcore.proofs.state.State.prepare_init.Goals as goal

pub returns-in-None : goal.returns-in-None
returns-in-None g c =
    let m = g.S.Suite.meaning c.args.suite.now in
    given_none c.in_ok-respond.field-0 (m.respond (state_data c.args.self.now).known.algorithms.kex (config_data c.args.config.now).random c.args.share.now) c.in_ok-respond.ensures c.in-None.is

pub hash-requires-clause-server_share : goal.hash-requires-clause-server_share
hash-requires-clause-server_share g c =
    let m = g.S.Suite.meaning c.args.suite.now in
    let kex = (state_data c.args.self.now).known.algorithms.kex in
    let given = given_answer c.in_ok-respond.field-0 (m.respond kex (config_data c.args.config.now).random c.args.share.now) c.in-Some.response c.in_ok-respond.ensures c.in-Some.is in
    let short : length c.in-Some.response.share.items ≤ SHARE_LIMIT =
    share_short (m.share_form kex) c.in-Some.response.share.items (c.answer_law.ensures.share kex c.args.share.now (response_data c.in-Some.response) given) in
    rw c.deref-in-Some.ensures.value (omega arith)

pub hash-requires-clause-shared : goal.hash-requires-clause-shared
hash-requires-clause-shared g c =
    let m = g.S.Suite.meaning c.args.suite.now in
    let kex = (state_data c.args.self.now).known.algorithms.kex in
    let given = given_answer c.in_ok-respond.field-0 (m.respond kex (config_data c.args.config.now).random c.args.share.now) c.in-Some.response c.in_ok-respond.ensures c.in-Some.is in
    rw c.deref-in-Some-2.ensures.value (c.answer_law.ensures.shared kex c.args.share.now (response_data c.in-Some.response) given)

pub returns-in_ok-hash-in-Some : goal.returns-in_ok-hash-in-Some
returns-in_ok-hash-in-Some g c =
    let m = g.S.Suite.meaning c.args.suite.now in
    let role = role_of c.args.config.now in
    let config = config_data c.args.config.now in
    let known = (state_data c.args.self.now).known in
    let answer = response_data c.in-Some.response in
    let given = given_answer c.in_ok-respond.field-0 (m.respond known.algorithms.kex config.random c.args.share.now) c.in-Some.response c.in_ok-respond.ensures c.in-Some.is in
    let blob : c.in_ok-host_key-in-Some.host_key.items ≡ m.blob known.algorithms.host_key (secret_of config.host_keys known.algorithms.host_key) = search rules in
    let short : length c.in_ok-host_key-in-Some.host_key.items ≤ BLOB_LIMIT = search rules in
    let hash : c.in_ok-hash-in-Some.hash.items ≡ exchange_hash m known.algorithms.kex (exchanged role config known (server_shares m config known c.args.share.now answer)) = search rules in
    record {
      response = given;
      host_key = blob;
      hash = hash;
      fits = record {
        share = c.answer_law.ensures.share known.algorithms.kex c.args.share.now answer given;
        shared = c.answer_law.ensures.shared known.algorithms.kex c.args.share.now answer given;
        host_key = short;
        hash = c.in_ok-hash-in-Some.ensures.short;
      };
    }
