use Rattle.std.proofs.Common.{[], false, refl}
use Rattle.sshpacket.specs.KeysData.{KeysData}
use Rattle.sshcore.specs.EndpointConfig.{config_data, role_of}
use Rattle.sshcore.specs.WaitingView.{waiting_of}
use Rattle.sshcore.proofs.AskingLemmas.{breaks_same, leaves_by}
use Rattle.sshcore.proofs.asking_endpoint.AskingEndpoint.disconnect.Goals as goal

pub returns-in-Ok-clause-leaves : goal.returns-in-Ok-clause-leaves
returns-in-Ok-clause-leaves g c =
    let next : KeysData = record { cipher = []; mac = []; iv = []; enc = []; mac_key = [] } in
    rw (← c.self.view_is) (λ is. leaves_by g.S.Suite.meaning (role_of c.self.inside.config) (config_data c.self.inside.config) c.self.inside.suite.now c.stream_law.ensures.sent_append
    c.self.inside.input c.self.inside.state c.disconnect-sent.new.self (waiting_of c.self.inside.waiting) c.args.reason c.args.description.now
    c.args.out.now.items c.disconnect-sent.new.out.items false next is (c.in-Ok.ensures.gives false next))

pub returns-in-Err-clause-memory : goal.returns-in-Err-clause-memory
returns-in-Err-clause-memory g c = (
  refl,
  c.in-Err.ensures.memory,
  breaks_same g.S.Suite.meaning c.args.self.now _ [] c.args.out.now.items c.disconnect-sent.new.out.items
      (rw (← c.self.view_is) (record { same_role = refl; same_config = refl; same_suite = refl })) c.in-Err.ensures.memory,
)
