use Rattle.std.proofs.Common.{◌≤◌, [], ◌∷◌, length, arith}
use Rattle.std.proofs.lemmas.List.{append_assoc}
use Rattle.sshwire.specs.Types.{uint32}
use Rattle.sshmsg.specs.View.{pairs_of}
use Rattle.sshmsg.specs.Written.{pairs_written, written_message}
use Rattle.sshmsg.proofs.PutLemmas.{few_extensions, keeps_on, well_formed_pairs}
use Rattle.sshmsg.proofs.writing.put_ext_info.Goals as goal

pub overflow_cast-count : goal.overflow_cast-count
unfolding written_message
overflow_cast-count c =
    let few : length c.args.extensions.now ≤ length (pairs_written (pairs_of c.args.extensions.now)) = few_extensions c.args.extensions.now in
    omega (arith, c.requires)

pub returns-clause-err : goal.returns-clause-err
returns-clause-err c =
    keeps_on c.put_extensions.result c.args.out.now.items (7 ∷ uint32 (length c.args.extensions.now)) c.put_u32.new.out.items c.put_extensions.new.out.items
    (rw (c.in_ok-put_u32.ensures.appends, c.in_ok-push.ensures.items) (append_assoc c.args.out.now.items (7 ∷ []) (uint32 (length c.args.extensions.now))))
    c.put_extensions.ensures.err

pub returns-clause-well : goal.returns-clause-well
returns-clause-well c = well_formed_pairs c.put_extensions.result c.args.extensions.now c.requires
