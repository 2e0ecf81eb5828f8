use Rattle.std.proofs.Common.{◌≡◌, ◌&&◌, false, not, true}
use Rattle.sshmsg.specs.View.{kexinit_data}
use Rattle.sshneg.specs.Choice.{serves}
use Rattle.sshneg.specs.ChoiceReadings.{is_in, same_first}
use Rattle.sshneg.specs.Markers.{is_marker}
use Rattle.sshneg.proofs.PositionLemmas.{position_found}
use Rattle.sshneg.proofs.SearchLemmas.{kex_first, kex_searched, together}
use Rattle.sshneg.proofs.choice.find_kex.Goals as goal

pub returns-then-same_name : goal.returns-then-same_name
returns-then-same_name g c =
    let same : same_first (kexinit_data c.args.client.now) (kexinit_data c.args.server.now) ≡ true
    = rw (← c.first_method.ensures, ← c.first_method-2.ensures, ← c.same_name.ensures) c.if-same_name.true in
    rw (
      kex_first (g.S.Suite.meaning c.args.suite.now) (kexinit_data c.args.client.now) (kexinit_data c.args.server.now) same,
      c.first_unmarked.ensures,
    ) (position_found (λ name. not (is_marker name)) c.args.client.now.kex_algorithms)

pub returns : goal.returns
returns g c =
    let m = g.S.Suite.meaning c.args.suite.now in
    let client = kexinit_data c.args.client.now in
    let server = kexinit_data c.args.server.now in
    let other : same_first client server ≡ false
    = rw (← c.first_method.ensures, ← c.first_method-2.ensures, ← c.same_name.ensures) c.if-same_name.false in
    let common = together m client.server_host_key_algorithms server.server_host_key_algorithms
    c.common_capability-common.result c.common_capability-common.ensures.signature c.common_capability-common.ensures.encryption in
    let found = position_found
    (λ name. not (is_marker name) && (is_in server.kex_algorithms name && serves (m.need name) c.common_capability-common.result)) client.kex_algorithms in
    rw (kex_searched m client server c.common_capability-common.result common other, c.first_usable.ensures) found
