use Rattle.sshpromises.proofs.sessions.hand_over.Goals as goal

pub returns : goal.returns
returns g c = λ are.
    let j = are.joined in
    let of_client = c.into_session-of_client.ensures.session are.client_received are.client_sent j.client_after are.of_client are.client_ended in
    let of_server = c.into_session-of_server.ensures.session are.server_received are.server_sent j.server_after are.of_server are.server_ended in (
      (of_client.0, of_server.0),
      c.both.ensures.there of_client.0 of_server.0 of_client.1 of_server.1,
      c.session_law.ensures.crosswise are.client_config are.server_config c.args.client c.args.server are.client_received are.client_sent are.server_received are.server_sent
          are.is_client are.is_server are.compatible j are.of_client are.of_server are.client_ended are.server_ended of_client.0 of_server.0 of_client.2 of_server.2,
    )
