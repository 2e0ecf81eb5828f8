use Rattle.std.proofs.Common.{true, [], ◌∷◌, codes}
use Rattle.sshwire.specs.Types.{boolean, string}
use Rattle.sshneg.specs.Derivations.{signed_text}
use Rattle.sshneg.proofs.PartLemmas.{eight_parts}
use Rattle.sshneg.proofs.derivations.signed_request.Goals as goal

pub returns : goal.returns
unfolding signed_text
returns c =
    rw (
      c.in_ok-put_string-6.ensures.appends,
      c.in_ok-put_string-5.ensures.appends,
      c.in_ok-put_boolean.ensures.appends,
      c.in_ok-put_string-4.ensures.appends,
      c.in_ok-put_string-3.ensures.appends,
      c.in_ok-put_string-2.ensures.appends,
      c.in_ok-push.ensures.items,
      c.in_ok-put_string.ensures.appends,
      c.new-out.ensures.items,
      c.as_bytes.ensures.value,
      c.as_bytes-2.ensures.value,
    )
    (eight_parts (string c.args.session.now) (50 ∷ []) (string c.args.user.now) (string c.args.service.now) (string (codes "publickey")) (boolean true)
    (string c.args.algorithm.now) (string c.args.key.now))
