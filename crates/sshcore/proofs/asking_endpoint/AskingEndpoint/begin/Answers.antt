use Rattle.std.proofs.Common.{◌≡◌, true, [], refl, ap, ◌∙◌, subst}
use Rattle.sshwire.specs.declared.line_form.LineForm.{LineForm}
use Rattle.sshpacket.specs.KeysData.{KeysData}
use Rattle.sshcore.specs.EndpointConfig.{config_data, role_of, setup_of}
use Rattle.sshcore.specs.Brings.{Gives}
use Rattle.sshneg.specs.declared.side.Side.{Side}
use Rattle.sshcore.specs.Directions.{preamble_of}
use Rattle.sshcore.specs.EndData.{goes}
use Rattle.sshcore.specs.Inputs.{Begins}
use Rattle.sshcore.specs.StateData.{StateData, begun, state_data}
use Rattle.sshcore.specs.Work.{making}
use Rattle.sshcore.proofs.AskingLemmas.{asks_none}
use Rattle.sshcore.proofs.LawsBelow.{Below}
use Rattle.sshcore.proofs.BeginLemmas.{begins_stands}
use Rattle.sshcore.proofs.HistoryLemmas.{Streams}
use Rattle.sshcore.proofs.KeepingLemmas.{begins_reading, begun_fits}
use Rattle.sshcore.proofs.asking_endpoint.AskingEndpoint.begin.Goals as goal

pub returns-clause-made : goal.returns-clause-made
returns-clause-made g c =
    let below : Below = record { numbers = c.numbers_law.ensures.message_number; alike = c.numbers_law.ensures.alike; right = c.markers_law.ensures.right } in
    let streams : Streams = record {
      packets = c.parser_by_law.ensures.packets;
      lines = c.parser_by_law.ensures.lines;
      nothing = c.stream_law.ensures.nothing;
      unit = c.stream_law.ensures.received_unit;
      refusal = c.stream_law.ensures.received_refusal;
      part = c.stream_law.ensures.received_part;
      one = c.stream_law.ensures.one;
      front = c.stream_law.ensures.prefix;
      more = c.stream_law.ensures.read_more;
      sent = c.stream_law.ensures.sent_append;
    } in
    let m = g.S.Suite.meaning c.args.suite.now in
    let role = role_of c.args.config in
    let config = config_data c.args.config in
    let new = state_data c.send_greeting.new.self in
    let first = c.new-state.ensures in
    let next : KeysData = record { cipher = []; mac = []; iv = []; enc = []; mac_key = [] } in
    let sent = c.in_ok-send_greeting.ensures.gives in
    let gives = subst (λ (k : StateData). Gives m config.seed true next k new (preamble_of config) sent.0 (goes (making m role config))) first (sent.2 true next) in
    let stays : new ≡ record (begun config) { sending = new.sending } = c.in_ok-send_greeting.ensures.stays ∙ ap (λ (k : StateData). record k { sending = new.sending }) first in
    record {
      added = sent.0;
      appended = sent.1;
      begins = λ d. asks_none (setup_of m d c.args.config) new c.new.result [] sent.0 (begins_stands below streams (setup_of m d c.args.config) new c.new.result (preamble_of config) sent.0 true next stays gives refl (subst (λ (f : LineForm). Begins role f c.new.result) c.line_form.ensures (subst (λ (r : Side). Begins r c.line_form.result c.new.result) c.role.ensures c.new.ensures)));
      is_open = ap (λ (k : StateData). k.end) stays;
      waits_for_none = refl;
      is_role = refl;
      is_config = refl;
      is_suite = refl;
    }

pub invariant_of-result : goal.invariant_of-result
invariant_of-result g c =
    let m = g.S.Suite.meaning c.args.suite.now in
    let role = role_of c.args.config in
    let config = config_data c.args.config in
    let new = state_data c.send_greeting.new.self in
    let first = c.new-state.ensures in
    let next : KeysData = record { cipher = []; mac = []; iv = []; enc = []; mac_key = [] } in
    let sent = c.in_ok-send_greeting.ensures.gives in
    let gives = subst (λ (k : StateData). Gives m config.seed true next k new (preamble_of config) sent.0 (goes (making m role config))) first (sent.2 true next) in
    let stays : new ≡ record (begun config) { sending = new.sending } = c.in_ok-send_greeting.ensures.stays ∙ ap (λ (k : StateData). record k { sending = new.sending }) first in
    record {
      reads = λ ongoing. begins_reading m c.role.result c.line_form.result c.new.result c.new.ensures;
      asked = tt;
      keeps = λ ongoing. begun_fits m role config new (preamble_of config) sent.0 true next stays gives;
    }
