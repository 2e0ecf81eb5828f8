-- What a side has received, by the law of version lines.

use Rattle.std.proofs.Common.{◌≡◌, ℕ, ◌+◌, ◌-◌, ◌<◌, ◌≤◌, ◌↔◌, min, Bool, List, [], ◌++◌, length, take, drop, get_or, refl, sym, ap, ◌∙◌, arith, subst, IsTrue}
use Rattle.std.proofs.Math.Seq.{take-add}
use Rattle.std.proofs.lemmas.List.{append_assoc, append-nil, length-take, take-append-drop, take_all, take_min, drop_more, drop_all}
use Rattle.sshwire.specs.declared.fault.WireFault.{WireFault}
use Rattle.sshwire.specs.Lines.{IsVersionText, LineRefused, Preamble, version_line}
use Rattle.sshwire.specs.LineReaderData.{Finished, Progress, Waits}
use Rattle.sshwire.specs.LineReaderData as progress
use Rattle.sshwire.specs.Reading.{Got, More, Reading, Stop}
use Rattle.sshwire.specs.Feeding.{StandsOpen}
use Rattle.sshwire.specs.Meaning.{BeginsPreamble, EndsPreamble, IsLineRefused, ReadingMeans}
use Rattle.sshneg.specs.declared.side.Side.{Side}
use Rattle.sshneg.specs.declared.side.Side.TheVariants.{Client, Server}
use Rattle.sshworld.specs.declared.side.Delivery.{Delivery}
use Rattle.sshworld.specs.declared.greetings.Receiver.{Receiver}
use Rattle.sshworld.specs.declared.greetings.Reception.{Reception}
use Rattle.sshworld.specs.declared.greetings.Reception.TheVariants as reception
use Rattle.sshworld.specs.Receivers.{Follows, HasAll, MayRead, ReceiverStands}
use Rattle.sshworld.specs.Greetings.{Greets, IsReception, NothingWaits, asked, count_for, moved}
use Rattle.sshwire.specs.declared.limits.TheConstants.{OTHER_LINE_LIMIT}

-- the clauses of the law
pub record IsLaw : Type 0 where
  pub one : (k : ℕ) (bytes : List ℕ) (r s : Reading) → ReadingMeans k bytes r → ReadingMeans k bytes s → r ≡ s
  pub stays : (k : ℕ) (bytes more : List ℕ) (place : ℕ) (code : WireFault) → LineRefused k bytes place code → LineRefused k (bytes ++ more) place code

-- a preamble at the front stays, whatever follows
preamble_stays : (k : ℕ) (text bytes rest more : List ℕ) → EndsPreamble k bytes text rest → EndsPreamble k (bytes ++ more) text (rest ++ more)
preamble_stays k text bytes rest more ends = record {
  prefix = ends.prefix;
  bytes_are = ap (λ (xs : List ℕ). xs ++ more) ends.bytes_are ∙ append_assoc ends.prefix rest more;
  preamble = ends.preamble;
}

-- a side that has ended stays so
pub ended_follows : IsLaw → (k : ℕ) (received piece : List ℕ) (progress : Progress) (h : Reception)
    → ((n : ℕ) → h ≡ reception.Waiting n → ⊥) → Follows k received progress h → Follows k (received ++ piece) progress h
ended_follows law k received piece progress (reception.Waiting n) ended f = absurd (ended n refl)
ended_follows law k received piece progress (reception.Got text) ended (rest, ends) = (rest ++ piece, preamble_stays k text received rest piece ends)
ended_follows law k received piece progress (reception.Refused code) ended (place, refused) = (place, law.stays k received piece place code refused)

-- One side, while deliveries are done: so many bytes are asked for it in all, and so many later.
pub record Delivered (k all later : ℕ) (sent : List ℕ) (receiver : Receiver) : Type 0 where
  pub within : receiver.moved ≤ length sent
  pub may_read : MayRead receiver.reception receiver.reader.progress
  pub counts : min (receiver.moved + later) (length sent) ≡ min all (length sent)
  pub stands : ReceiverStands k (take receiver.moved sent) receiver

pub delivered_new : (k all : ℕ) (sent : List ℕ) (receiver : Receiver) → receiver.moved ≡ 0 → MayRead receiver.reception receiver.reader.progress → ReceiverStands k [] receiver
    → Delivered k all all sent receiver
delivered_new k all sent receiver none may_read stands = record {
  within = rw none (omega arith);
  may_read = may_read;
  counts = ap (λ (n : ℕ). min n (length sent)) (omega arith);
  stands = (let front : take receiver.moved sent ≡ [] = ap (λ (n : ℕ). take n sent) none in rw front stands);
}

pub delivered_own : (k all count later : ℕ) (sent : List ℕ) (old new : Receiver) → Delivered k all (count + later) sent old
    → new.moved ≡ min (old.moved + count) (length sent) → MayRead new.reception new.reader.progress → ReceiverStands k (take new.moved sent) new
    → Delivered k all later sent new
delivered_own k all count later sent old new d moves may_read stands = record {
  within = omega arith;
  may_read = may_read;
  counts = (let counts : min (old.moved + (count + later)) (length sent) ≡ min all (length sent) = d.counts in omega arith);
  stands = stands;
}

pub delivered_other : (k all later : ℕ) (sent : List ℕ) (receiver : Receiver) → Delivered k all (0 + later) sent receiver → Delivered k all later sent receiver
delivered_other k all later sent receiver d = let e : 0 + later ≡ later = omega arith in rw e at d

-- what was moved in the end
pub all_moved : (k all : ℕ) (sent : List ℕ) (receiver : Receiver) → Delivered k all 0 sent receiver → take receiver.moved sent ≡ take all sent
all_moved k all sent receiver d =
    let within : receiver.moved ≤ length sent = d.within in
    let counts : min (receiver.moved + 0) (length sent) ≡ min all (length sent) = d.counts in
    let e : receiver.moved ≡ min all (length sent) = omega arith in
    ap (λ (n : ℕ). take n sent) e ∙ take_min all sent

-- What a side has received has one reading.
pub record Shows (k : ℕ) (received : List ℕ) (h : Reception) : Type 0 where
  pub reading : Reading
  pub means : ReadingMeans k received reading
  pub got : (text rest : List ℕ) → reading ≡ Got text rest → h ≡ reception.Got text
  pub refused : (code : WireFault) (rest : List ℕ) → reading ≡ Stop code rest → h ≡ reception.Refused code

shows_open : (k : ℕ) (received : List ℕ) (progress : Progress) (n : ℕ) → StandsOpen k received progress → Shows k received (reception.Waiting n)
shows_open k received (Waits left line) n o = record {
  reading = More left line;
  means = o;
  got = λ text rest e. cc;
  refused = λ code rest e. cc;
}
shows_open k received Finished n o = absurd o
shows_open k received (progress.Refused code) n o = absurd o

shows : (k : ℕ) (received : List ℕ) (progress : Progress) (h : Reception) → Follows k received progress h → Shows k received h
shows k received progress (reception.Waiting n) (o, count) = shows_open k received progress n o
shows k received progress (reception.Got text) (rest, ends) = record {
  reading = Got text rest;
  means = ends;
  got = λ other rest' e. cc;
  refused = λ code rest' e. cc;
}
shows k received progress (reception.Refused code) (place, refused) = record {
  reading = Stop code (drop (place + 1) received);
  means = record { place = place; refused = refused; rest_is = refl };
  got = λ text rest e. cc;
  refused = λ other rest e. cc;
}

got_begins : (k : ℕ) (received : List ℕ) (progress : Progress) (h : Reception) (text : List ℕ) → Follows k received progress h → h ≡ reception.Got text
    → BeginsPreamble k text received
got_begins k received progress (reception.Waiting n) text f e = cc
got_begins k received progress (reception.Got other) text f e = let same : text ≡ other = cc in rw same f
got_begins k received progress (reception.Refused code) text f e = cc

begins_got : IsLaw → (k : ℕ) (received : List ℕ) (progress : Progress) (h : Reception) (text : List ℕ) → Follows k received progress h
    → BeginsPreamble k text received → h ≡ reception.Got text
begins_got law k received progress h text f (rest, ends) =
    let s = shows k received progress h f in
    s.got text rest (law.one k received s.reading (Got text rest) s.means ends)

refused_stands : (k : ℕ) (received : List ℕ) (progress : Progress) (h : Reception) (code : WireFault) → Follows k received progress h
    → h ≡ reception.Refused code → IsLineRefused k received code
refused_stands k received progress (reception.Waiting n) code f e = cc
refused_stands k received progress (reception.Got text) code f e = cc
refused_stands k received progress (reception.Refused other) code f e = let same : code ≡ other = cc in rw same f

stands_refused : IsLaw → (k : ℕ) (received : List ℕ) (progress : Progress) (h : Reception) (code : WireFault) → Follows k received progress h
    → IsLineRefused k received code → h ≡ reception.Refused code
stands_refused law k received progress h code f (place, refused) =
    let s = shows k received progress h f in
    s.refused code (drop (place + 1) received)
    (law.one k received s.reading (Stop code (drop (place + 1) received)) s.means (record { place = place; refused = refused; rest_is = refl }))

waits_for_all : (k : ℕ) (received : List ℕ) (progress : Progress) (h : Reception) (n : ℕ) → Follows k received progress h → h ≡ reception.Waiting n → n ≡ length received
waits_for_all k received progress (reception.Waiting m) n (o, count) e = let same : n ≡ m = cc in same ∙ count
waits_for_all k received progress (reception.Got text) n f e = cc
waits_for_all k received progress (reception.Refused code) n f e = cc

pub receives : IsLaw → (k : ℕ) (received : List ℕ) (progress : Progress) (h : Reception) → Follows k received progress h → IsReception k received h
receives law k received progress h f = record {
  got = λ text. (got_begins k received progress h text f, begins_got law k received progress h text f);
  refused = λ code. (refused_stands k received progress h code f, stands_refused law k received progress h code f);
  waiting = λ n e. waits_for_all k received progress h n f e;
}

-- nothing waits for a side exactly if it has ended or was given as many bytes as were sent
has_all_waits : (k all : ℕ) (sent : List ℕ) (progress : Progress) (h : Reception) → Follows k (take all sent) progress h
    → HasAll h (length sent) → NothingWaits (take all sent) sent h
has_all_waits k all sent progress (reception.Waiting n) (o, count) e =
    let long = length-take all sent in take_all all sent (omega arith)
has_all_waits k all sent progress (reception.Got text) f e = tt
has_all_waits k all sent progress (reception.Refused code) f e = tt

waits_has_all : (k all : ℕ) (sent : List ℕ) (progress : Progress) (h : Reception) → Follows k (take all sent) progress h
    → NothingWaits (take all sent) sent h → HasAll h (length sent)
waits_has_all k all sent progress (reception.Waiting n) (o, count) e = count ∙ ap (λ (xs : List ℕ). length xs) e
waits_has_all k all sent progress (reception.Got text) f e = tt
waits_has_all k all sent progress (reception.Refused code) f e = tt

-- A written version line that was given whole was got.
whole_line : (text : List ℕ) → IsVersionText text → (k : ℕ) → Preamble k text (version_line text)
whole_line text v k = record { others = []; few = omega arith; each = tt; version = v; bytes_are = refl }

whole_ends : (k : ℕ) (text : List ℕ) → IsVersionText text → EndsPreamble k (version_line text) text []
whole_ends k text v = record { prefix = version_line text; bytes_are = sym (append-nil (version_line text)); preamble = whole_line text v k }

line_got : IsLaw → (k all : ℕ) (text : List ℕ) (progress : Progress) (h : Reception) → IsVersionText text
    → Follows k (take all (version_line text)) progress h → NothingWaits (take all (version_line text)) (version_line text) h → h ≡ reception.Got text
line_got law k all text progress (reception.Waiting n) v f e =
    begins_got law k (take all (version_line text)) progress (reception.Waiting n) text f
    ([], rw e (whole_ends k text v))
line_got law k all text progress (reception.Got other) v (rest, ends) e =
    let on : EndsPreamble k (version_line text) other (rest ++ drop all (version_line text))
    = (let s = preamble_stays k other (take all (version_line text)) rest (drop all (version_line text)) ends in rw (take-append-drop all (version_line text)) at s) in
    let same : Got other (rest ++ drop all (version_line text)) ≡ Got text []
    = law.one k (version_line text) (Got other (rest ++ drop all (version_line text))) (Got text []) on (whole_ends k text v) in
    cc
line_got law k all text progress (reception.Refused code) v (place, refused) e =
    let on : LineRefused k (version_line text) place code
    = (let s = law.stays k (take all (version_line text)) (drop all (version_line text)) place code refused in rw (take-append-drop all (version_line text)) at s) in
    let bad : Stop code (drop (place + 1) (version_line text)) ≡ Got text []
    = law.one k (version_line text) (Stop code (drop (place + 1) (version_line text))) (Got text [])
    (record { place = place; refused = on; rest_is = refl }) (whole_ends k text v) in
    cc

-- What one more piece brings a side that waits.
pub done_follows : (k : ℕ) (received piece text : List ℕ) (used : ℕ) → Preamble k text (received ++ take used piece) → BeginsPreamble k text (received ++ piece)
done_follows k received piece text used preamble = (
  drop used piece,
  record {
    prefix = received ++ take used piece;
    bytes_are = ap (λ (xs : List ℕ). received ++ xs) (sym (take-append-drop used piece)) ∙ sym (append_assoc received (take used piece) (drop used piece));
    preamble = preamble;
  },
)

pub waiting_stands : (k : ℕ) (received : List ℕ) (progress : Progress) (h : Reception) (n : ℕ) → h ≡ reception.Waiting n → Follows k received progress h
    → StandsOpen k received progress
waiting_stands k received progress (reception.Waiting m) n e f = f.0
waiting_stands k received progress (reception.Got text) n e f = cc
waiting_stands k received progress (reception.Refused code) n e f = cc

-- a side that was given a prefix of what was sent was given as many bytes as it counts
pub stands_front : (k m n : ℕ) (sent : List ℕ) (receiver : Receiver) → ReceiverStands k (take m sent ++ take (m + n - m) (drop m sent)) receiver → ReceiverStands k (take receiver.moved sent) receiver
stands_front k m n sent receiver stands =
    let rest : m + n - m ≡ n = omega arith in
    let front : take m sent ++ take (m + n - m) (drop m sent) ≡ take (m + n) sent
    = ap (λ (r : ℕ). take m sent ++ take r (drop m sent)) rest ∙ sym (take-add m n sent) in
    let at : ReceiverStands k (take (m + n) sent) receiver = rw front at stands in
    let count : receiver.moved ≡ min (m + n) (length sent) = at.counted ∙ length-take (m + n) sent in
    let same : take receiver.moved sent ≡ take (m + n) sent = ap (λ (r : ℕ). take r sent) count ∙ take_min (m + n) sent in
    rw same at

pub asked_more : (side : Side) (schedule : List Delivery) (i : ℕ) (d : Delivery) → i < length schedule
    → asked side (drop i schedule) ≡ count_for side (get_or schedule i d).to (get_or schedule i d).count + asked side (drop (i + 1) schedule)
asked_more side schedule i d within = ap (λ (ds : List Delivery). asked side ds) (drop_more schedule i d within)

count_own : (side : Side) (count : ℕ) → count_for side side count ≡ count
count_own Client count = refl
count_own Server count = refl

-- A delivery to a side, and one to the other.
pub step_own : (side : Side) (schedule : List Delivery) (i : ℕ) (d : Delivery) (k : ℕ) (sent : List ℕ) (old new : Receiver) → i < length schedule
    → (get_or schedule i d).to ≡ side → Delivered k (asked side schedule) (asked side (drop i schedule)) sent old
    → new.moved ≡ min (old.moved + (get_or schedule i d).count) (length sent) → MayRead new.reception new.reader.progress
    → ReceiverStands k (take new.moved sent) new → Delivered k (asked side schedule) (asked side (drop (i + 1) schedule)) sent new
step_own side schedule i d k sent old new within to before moves may_read stands =
    let count : ℕ = (get_or schedule i d).count in
    let later : ℕ = asked side (drop (i + 1) schedule) in
    let asks : asked side (drop i schedule) ≡ count + later
    = asked_more side schedule i d within ∙ (ap (λ (s : Side). count_for side s count + later) to ∙ ap (λ (n : ℕ). n + later) (count_own side count)) in
    let at : Delivered k (asked side schedule) (count + later) sent old
    = subst (λ (n : ℕ). Delivered k (asked side schedule) n sent old) asks before in
    delivered_own k (asked side schedule) count later sent old new at moves may_read stands

pub step_other : (side other : Side) (schedule : List Delivery) (i : ℕ) (d : Delivery) (k : ℕ) (sent : List ℕ) (receiver : Receiver) → i < length schedule
    → (get_or schedule i d).to ≡ other → ((n : ℕ) → count_for side other n ≡ 0)
    → Delivered k (asked side schedule) (asked side (drop i schedule)) sent receiver
    → Delivered k (asked side schedule) (asked side (drop (i + 1) schedule)) sent receiver
step_other side other schedule i d k sent receiver within to none before =
    let count : ℕ = (get_or schedule i d).count in
    let later : ℕ = asked side (drop (i + 1) schedule) in
    let asks : asked side (drop i schedule) ≡ 0 + later
    = asked_more side schedule i d within ∙ (ap (λ (s : Side). count_for side s count + later) to ∙ ap (λ (n : ℕ). n + later) (none count)) in
    delivered_other k (asked side schedule) later sent receiver (subst (λ (n : ℕ). Delivered k (asked side schedule) n sent receiver) asks before)

-- the same, of sent bytes that are a written version line
rest_got : IsLaw → (k all : ℕ) (text sent : List ℕ) (progress : Progress) (h : Reception) → IsVersionText text → sent ≡ version_line text
    → Follows k (take all sent) progress h → NothingWaits (take all sent) sent h → h ≡ reception.Got text
rest_got law k all text sent progress h v is f e =
    line_got law k all text progress h v
    (subst (λ (xs : List ℕ). Follows k (take all xs) progress h) is f)
    (subst (λ (xs : List ℕ). NothingWaits (take all xs) xs h) is e)

-- What a side has received when the schedule is done.
pub record Done (k all : ℕ) (sent : List ℕ) (receiver : Receiver) : Type 0 where
  pub follows : Follows k (take all sent) receiver.reader.progress receiver.reception

pub done : (side : Side) (schedule : List Delivery) (i : ℕ) (k : ℕ) (sent : List ℕ) (receiver : Receiver) → length schedule ≤ i
    → Delivered k (asked side schedule) (asked side (drop i schedule)) sent receiver → Done k (asked side schedule) sent receiver
done side schedule i k sent receiver past d =
    let none : asked side (drop i schedule) ≡ 0 = ap (λ (ds : List Delivery). asked side ds) (drop_all i schedule past) in
    let at : Delivered k (asked side schedule) 0 sent receiver = subst (λ (n : ℕ). Delivered k (asked side schedule) n sent receiver) none d in
    record { follows = (let s : ReceiverStands k (take (asked side schedule) sent) receiver = (let e = all_moved k (asked side schedule) sent receiver at in rw e at at.stands) in s.follows) }

pub greets : IsLaw → (client server : List ℕ) (schedule : List Delivery) (at_client at_server : Receiver) (complete : Bool)
    → Done OTHER_LINE_LIMIT (asked Client schedule) server at_client → Done 0 (asked Server schedule) client at_server
    → (IsTrue complete ↔ (HasAll at_client.reception (length server) × HasAll at_server.reception (length client)))
    → Greets client server schedule (record { client = at_client.reception; server = at_server.reception; complete = complete })
greets law client server schedule at_client at_server complete c s both =
    let to_complete : IsTrue complete → NothingWaits (moved Client schedule server) server at_client.reception × NothingWaits (moved Server schedule client) client at_server.reception
    = λ t. let all = both.0 t in (
      has_all_waits OTHER_LINE_LIMIT (asked Client schedule) server at_client.reader.progress at_client.reception c.follows all.0,
      has_all_waits 0 (asked Server schedule) client at_server.reader.progress at_server.reception s.follows all.1,
    ) in
    record {
      to_client = receives law OTHER_LINE_LIMIT (moved Client schedule server) at_client.reader.progress at_client.reception c.follows;
      to_server = receives law 0 (moved Server schedule client) at_server.reader.progress at_server.reception s.follows;
      complete = (
        to_complete,
        λ nothing. both.1 (
          waits_has_all OTHER_LINE_LIMIT (asked Client schedule) server at_client.reader.progress at_client.reception c.follows nothing.0,
          waits_has_all 0 (asked Server schedule) client at_server.reader.progress at_server.reception s.follows nothing.1,
        ),
      );
      met = λ clients servers cv sv c_is s_is t.
          let nothing = to_complete t in (
            rest_got law OTHER_LINE_LIMIT (asked Client schedule) servers server at_client.reader.progress at_client.reception sv s_is c.follows nothing.0,
            rest_got law 0 (asked Server schedule) clients client at_server.reader.progress at_server.reception cv c_is s.follows nothing.1,
          );
    }
