use Rattle.std.proofs.Common.{ℕ, subst, ◌≡◌}
use Rattle.sshcore.specs.Brings.{Brings}
use Rattle.sshcore.specs.EndData.{end_data}
use Rattle.sshcore.specs.EndpointConfig.{config_data, role_of}
use Rattle.sshcore.specs.EndpointParts.{DecisionsData, setup_with}
use Rattle.sshcore.specs.Exchanged.{HasForm}
use Rattle.sshcore.specs.Questions.{QuestionData, decided, taken}
use Rattle.sshcore.specs.QuestionsView.{answer_data}
use Rattle.sshcore.specs.StateData.{state_data}
use Rattle.sshcore.specs.WaitingView.{waiting_data}
use Rattle.sshcore.proofs.AskingLemmas.{answer_steps, answered_so, answered_turns, answered_with}
use Rattle.sshcore.proofs.BringsLemmas.{message_brings}
use Rattle.sshcore.proofs.LawsBelow.{Below}
use Rattle.sshcore.proofs.HistoryLemmas.{Streams}
use Rattle.sshcore.proofs.KeepingLemmas.{fits_after, fits_input}
use Rattle.sshcore.proofs.asking_answer.answer_packet.Goals as goal

pub returns-clause-steps : goal.returns-clause-steps
returns-clause-steps g c =
    let below : Below = record { numbers = c.numbers_law.ensures.message_number; alike = c.numbers_law.ensures.alike; right = c.markers_law.ensures.right } in
    let streams : Streams = record {
      packets = c.parser_by_law.ensures.packets;
      lines = c.parser_by_law.ensures.lines;
      nothing = c.stream_law.ensures.nothing;
      unit = c.stream_law.ensures.received_unit;
      refusal = c.stream_law.ensures.received_refusal;
      part = c.stream_law.ensures.received_part;
      one = c.stream_law.ensures.one;
      front = c.stream_law.ensures.prefix;
      more = c.stream_law.ensures.read_more;
      sent = c.stream_law.ensures.sent_append;
    } in
    let m = g.S.Suite.meaning c.args.suite.now in
    let role = role_of c.args.config.now in
    let config = config_data c.args.config.now in
    let w = waiting_data c.args.waiting.now in
    let old = state_data c.args.state.now in
    let new = state_data c.answer.new.self in
    let keeps = c.requires.asked.keeps in
    let brings : (d : DecisionsData) (packet : ℕ) → decided d w.question ≡ taken w.question (answer_data c.args.answer) → HasForm m old → Brings (setup_with m d role config) old new packet w.payload c.args.sent.now.items c.answer.new.sent.items =
    λ d packet agrees form. message_brings (setup_with m d role config) old new packet w.payload c.args.sent.now.items c.answer.new.sent.items keeps.message keeps.waits.read
    (c.messages_law.ensures.complete _ _ _ keeps.waits.read.spelled)
    (c.in_ok-answer.ensures.works w.payload keeps.message d keeps.waits
    (subst (λ (q : QuestionData). decided d q ≡ taken q (answer_data c.args.answer)) keeps.question_is agrees) form) in
    answer_steps below streams m role config (taken w.question (answer_data c.args.answer)) w old new (state_data c.turn_input.new.state) c.args.sent.now.items c.answer.new.sent.items c.requires.asked.is_open brings
    c.args.input.now c.turn_input.new.input c.turn_input.ensures.turned

pub answer-requires-clause-asks : goal.answer-requires-clause-asks
answer-requires-clause-asks g c = (c.args.waiting.now.payload.items, c.requires.asked.keeps.message, c.requires.asked.keeps.waits)

pub returns-clause-reads : goal.returns-clause-reads
returns-clause-reads g c = λ ongoing. c.turn_input.ensures.reads (g.S.Suite.meaning c.args.suite.now) c.requires.reads

pub returns-clause-turns : goal.returns-clause-turns
returns-clause-turns g c =
    answered_turns (state_data c.answer.new.self) (state_data c.turn_input.new.state) c.args.input.now c.turn_input.new.input (end_data c.turn_input.new.state.end) c.turn_input.ensures.turned

pub returns-clause-keeps : goal.returns-clause-keeps
returns-clause-keeps g c =
    let below : Below = record { numbers = c.numbers_law.ensures.message_number; alike = c.numbers_law.ensures.alike; right = c.markers_law.ensures.right } in
    let m = g.S.Suite.meaning c.args.suite.now in
    let role = role_of c.args.config.now in
    let config = config_data c.args.config.now in
    let w = waiting_data c.args.waiting.now in
    let old = state_data c.args.state.now in
    let new = state_data c.answer.new.self in
    let keeps = c.requires.asked.keeps in
    let brings : (d : DecisionsData) (packet : ℕ) → decided d w.question ≡ taken w.question (answer_data c.args.answer) → HasForm m old → Brings (setup_with m d role config) old new packet w.payload c.args.sent.now.items c.answer.new.sent.items =
    λ d packet agrees form. message_brings (setup_with m d role config) old new packet w.payload c.args.sent.now.items c.answer.new.sent.items keeps.message keeps.waits.read
    (c.messages_law.ensures.complete _ _ _ keeps.waits.read.spelled)
    (c.in_ok-answer.ensures.works w.payload keeps.message d keeps.waits
    (subst (λ (q : QuestionData). decided d q ≡ taken q (answer_data c.args.answer)) keeps.question_is agrees) form) in
    fits_input m config old new (state_data c.turn_input.new.state) c.args.input.now c.turn_input.new.input c.turn_input.ensures.turned
    (fits_after below (setup_with m (answered_with w.question (taken w.question (answer_data c.args.answer))) role config) w.payload old new 0 c.args.sent.now.items c.answer.new.sent.items
    (λ fits. brings (answered_with w.question (taken w.question (answer_data c.args.answer))) 0 (answered_so w.question (answer_data c.args.answer)) fits.form))
