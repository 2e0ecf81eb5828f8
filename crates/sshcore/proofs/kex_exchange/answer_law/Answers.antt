use Rattle.sshcore.specs.EndpointConfig.{config_data}
use Rattle.sshcore.proofs.ExchangeLemmas.{shared_short}
use Rattle.sshcore.proofs.kex_exchange.answer_law.Goals as goal

pub returns-clause-share : goal.returns-clause-share
returns-clause-share g c = λ kex share r given.
    ((g.met.S.Suite.lawful c.args.suite.now).response_fits kex (config_data c.args.config.now).random share r c.exchange_random.ensures.random_length given).0

pub returns-clause-shared : goal.returns-clause-shared
returns-clause-shared g c = λ kex share r given.
    shared_short ((g.S.Suite.meaning c.args.suite.now).share_form kex) r.shared
    ((g.met.S.Suite.lawful c.args.suite.now).response_fits kex (config_data c.args.config.now).random share r c.exchange_random.ensures.random_length given).1
