use Rattle.sshcore.specs.RecordText.{bytes_text, number_text}
use Rattle.rezdolin.specs.PartsText.{attempt_text, counted, key_text, side_text, unless_asks}
use Rattle.rezdolin.proofs.PartsLemmas.{adds_six}
use Rattle.rezdolin.proofs.StepLemmas.{on_ok}
use Rattle.rezdolin.proofs.parts_digest.put_client.Goals as goal

pub returns : goal.returns
returns c =
    let client = c.args.client.now in
    on_ok c.put_trusted.result (λ last. adds_six (side_text client.side) (bytes_text client.server_host_key_algorithms.now) (counted attempt_text client.plan.now)
    (number_text client.guess) (number_text client.asks) (unless_asks client.asks (counted key_text client.trusted_host_keys.now))
    c.args.out.now.items c.put_side.new.out.items c.put_bytes.new.out.items c.put_plan.new.out.items c.put_number.new.out.items c.put_number-2.new.out.items c.put_trusted.new.out.items
    c.in_ok-put_side.ensures c.in_ok-put_bytes.ensures c.in_ok-put_plan.ensures c.in_ok-put_number.ensures c.in_ok-put_number-2.ensures last) c.put_trusted.ensures
