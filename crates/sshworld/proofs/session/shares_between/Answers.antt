use Rattle.std.proofs.Common.{◌∙◌, ap}
use Rattle.sshneg.specs.declared.choice.NoCommon.TheVariants as field
use Rattle.sshcore.specs.Exchange.{answer_or, secret_of}
use Rattle.sshworld.specs.AlgorithmsView.{algorithms_named}
use Rattle.sshworld.proofs.session.shares_between.Goals as goal

pub share_of-requires : goal.share_of-requires
share_of-requires g c = c.requires.names field.Kex

pub answer_of-requires-clause-kex : goal.answer_of-requires-clause-kex
answer_of-requires-clause-kex g c = c.requires.names field.Kex

pub answer_of-requires-clause-share : goal.answer_of-requires-clause-share
answer_of-requires-clause-share g c = rw c.deref.ensures.value c.in_ok-client_share.ensures.short

pub returns-clause-shares : goal.returns-clause-shares
returns-clause-shares g c =
    let m = g.S.Suite.meaning c.args.suite.now in
    let names = algorithms_named c.args.names.now in
    record {
      host_key = c.requires.host_key;
      client_share = c.in_ok-client_share.ensures.share;
      answer = c.in_ok-answer.ensures.answer
          ∙ ap (λ share. answer_or (m.respond names.kex c.args.server.now.side.random share)) (c.deref.ensures.value ∙ c.in_ok-client_share.ensures.share);
    }

pub returns-clause-short : goal.returns-clause-short
returns-clause-short g c =
    let names = algorithms_named c.args.names.now in
    let secret = secret_of c.args.server.now.host_keys names.host_key in
    record {
      host_key = rw c.requires.host_key ((g.met.S.Suite.lawful c.args.suite.now).blob_high names.host_key secret (c.requires.names field.HostKey));
      client_share = c.in_ok-client_share.ensures.short;
      server_share = c.in_ok-answer.ensures.share;
      shared = c.in_ok-answer.ensures.shared;
    }
