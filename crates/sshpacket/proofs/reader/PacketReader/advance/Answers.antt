use Rattle.std.proofs.Common.{refl, ℕ, ◌+◌, ap, ◌∙◌}
use Rattle.sshpacket.specs.PacketReaderData.{last_used, packet_reader_data, target_len}
use Rattle.sshpacket.specs.Suite.{next_keys}
use Rattle.sshpacket.proofs.WaitLemmas.{finished, waits_empty}
use Rattle.sshpacket.proofs.reader.PacketReader.advance.Goals as goal

pub returns-in-Ok-Whole-clause-advances : goal.returns-in-Ok-Whole-clause-advances
unfolding packet_reader_data last_used target_len
returns-in-Ok-Whole-clause-advances g c = λ waits.
    let old = c.args.self.now in
    let read = rw (c.in-Ok-Whole.is, c.in-Ok-Whole.field-0-is) at (c.read_on-taken.ensures.reads waits.unfinished_is waits.knows) in (
      finished c.go_on.new.keys _ _ old.fault c.read_on-taken.new.held.items read.0
          (c.go_on.ensures ∙ ap (λ (n : ℕ). next_keys (g.S.Suite.meaning c.args.suite.now) old.keys (n + c.read_on-taken.result.0)) c.len-before.ensures.value),
      read.1,
      waits_empty (g.S.Suite.meaning c.args.suite.now) _ waits.no_fault read.0 refl,
    )
