use Rattle.sshcore.specs.RecordText.{bytes_text, number_text}
use Rattle.rezdolin.specs.PartsText.{counted, host_key_text, key_text, side_text, unless_asks, user_text}
use Rattle.rezdolin.proofs.PartsLemmas.{adds_ten}
use Rattle.rezdolin.proofs.StepLemmas.{on_ok}
use Rattle.rezdolin.proofs.parts_digest.put_server.Goals as goal

pub returns : goal.returns
returns c =
    let server = c.args.server.now in
    on_ok c.put_accepted.result (λ last. adds_ten (side_text server.side) (counted host_key_text server.host_keys.now) (bytes_text server.services.now) (bytes_text server.methods.now)
    (bytes_text server.required.now) (bytes_text server.banner.now) (counted key_text server.notice_lines.now) (number_text server.tries)
    (number_text server.asks) (unless_asks server.asks (counted user_text server.users.now))
    c.args.out.now.items c.put_side.new.out.items c.put_host_keys.new.out.items c.put_bytes.new.out.items c.put_bytes-2.new.out.items c.put_bytes-3.new.out.items c.put_bytes-4.new.out.items c.put_lent.new.out.items c.put_number.new.out.items c.put_number-2.new.out.items c.put_accepted.new.out.items
    c.in_ok-put_side.ensures c.in_ok-put_host_keys.ensures c.in_ok-put_bytes.ensures c.in_ok-put_bytes-2.ensures c.in_ok-put_bytes-3.ensures c.in_ok-put_bytes-4.ensures c.in_ok-put_lent.ensures c.in_ok-put_number.ensures c.in_ok-put_number-2.ensures last) c.put_accepted.ensures
