use Rattle.std.proofs.Common.{◌++◌, length}
use Rattle.sshwire.specs.declared.line_form.LineForm.TheVariants.{Strict}
use Rattle.sshworld.proofs.ReceiveLemmas.{both_receive}
use Rattle.sshpromises.proofs.RoundLemmas.{rounds_use_all}
use Rattle.sshpromises.proofs.rounds.rounds_law.Goals as goal

pub returns : goal.returns
returns g c = λ client_config server_config suite decisions old_client old_server client server rounds compatible on.
    let m = g.S.Suite.meaning suite in
    let d = g.D.Decisions.policy decisions in
    let lawful = g.met.S.Suite.lawful suite in
    let is_client = on.stand.client_accepted in
    let is_server = on.stand.server_accepted in
    rounds_use_all g.S.Suite.meaning g.D.Decisions.policy client_config server_config suite decisions
    (record {
      clear = c.writing_law.ensures.clear;
      sealed = c.writing_law.ensures.sealed;
      size = c.writing_law.ensures.size;
      preamble = λ form k text bytes more p. c.parser_by_law.ensures.wider form k (bytes ++ more) text (length bytes)
          (c.parser_by_law.ensures.preamble Strict k text bytes more p);
      parsers = c.history_law.ensures.parsers;
      link = c.stream_law.ensures.link;
      sizes = c.stream_law.ensures.sizes;
      all = c.stream_law.ensures.all;
      nothing = c.stream_law.ensures.nothing;
      one = c.stream_law.ensures.one;
    })
    lawful
    (both_receive m d client_config server_config is_client is_server
    (c.keeps_law.ensures.keeps m d client_config server_config lawful compatible is_client is_server)
    (c.follows_law.ensures.places m d client_config server_config lawful compatible is_client is_server)
    (c.follows_law.ensures.keys m d client_config server_config lawful compatible is_client is_server))
    rounds old_client old_server client server on
