-- Two endpoints each of which has received a prefix of what the other has sent are in their course, in whatever order that came.

use Rattle.std.proofs.Common.{◌≡◌, ◌≢◌, inl, inr, ℕ, zero, suc, ◌+◌, ◌<◌, ◌≤◌, true, List, [], ◌∷◌, ◌++◌, length, min, take, drop, Option, None, refl, sym, ap, subst, ◌∙◌, arith}
use native.Mathlib.Decide.{dec_lt}
use Rattle.std.proofs.Math.Nat.{min-le_right}
use Rattle.std.proofs.lemmas.List.{length-take-le, take-append-drop, take-append-le, take_all}
use Rattle.sshpacket.specs.Parse.{Refusal}
use Rattle.sshpacket.specs.Places.{EachPlace, IsPrefix, flat_places}
use Rattle.sshpacket.specs.Stream.{Read, Received, Spelled, Units}
use Rattle.sshpacket.specs.Suite.{IsLawful, SuiteData}
use Rattle.sshpacket.proofs.Places.{each-prefix, prefix-through}
use Rattle.sshpacket.proofs.Streams.{read_more}
use Rattle.sshcore.specs.ConfigParts.{ClientData, ServerData}
use Rattle.sshcore.specs.Counting.{switched_out}
use Rattle.sshcore.specs.Directions.{parsers, payloads_in, spells}
use Rattle.sshcore.specs.EndData.{EndData, Open}
use Rattle.sshcore.specs.History.{FitsPacket, History, IsReady}
use Rattle.sshcore.specs.EndpointParts.{DecisionsData, client_setup, server_setup}
use Rattle.sshcore.specs.Replies.{StaysOpen}
use Rattle.sshcore.proofs.LawsBelow.{Below}
use Rattle.sshworld.specs.Offered.{most_requests}
use Rattle.sshworld.specs.CourseReceived.{BothReceive, client_partner, server_partner}
use Rattle.sshworld.specs.Follows.{IsInPart}
use Rattle.sshworld.specs.Guesses.{guess_of}
use Rattle.sshworld.specs.Partners.{Partner, ReceivesCourse, partner_setup, payloads_of, stream_of}
use Rattle.sshworld.specs.Headline.{AreInCourse}
use Rattle.sshworld.specs.Laws.{Laws}
use Rattle.sshworld.specs.Outcome.{outcome}
use Rattle.sshworld.specs.Rounds.{UnitsReceived, after_rounds, server_receives_all, units_sent}
use Rattle.sshworld.specs.Wording.{Wording}
use Rattle.sshworld.proofs.CourseLaws.{few_rounds, of_outcome}
use Rattle.sshworld.proofs.HeadlineLemmas.{fewer, sent_count, sent_prefix}
use Rattle.sshworld.proofs.LinkLemmas.{SpeaksInCourse, all_spelled, received_prefix}
use Rattle.sshworld.proofs.OneWayLemmas.{OneWay, one_way}
use Rattle.sshworld.proofs.PartLemmas.{grows}
use Rattle.sshworld.proofs.SoFarLemmas.{bytes_so, ready_so, replies_so, sent_more, sent_so, stays_so}

-- the first units of a prefix
taken_prefix : (n : ℕ) (us all : Units) → IsPrefix us all → IsPrefix (take n us) all
taken_prefix n us all f = prefix-through (take n us) us all (record { rest = drop n us; whole_is = sym (take-append-drop n us) }) f

-- no more units than a prefix has
taken_within : (n : ℕ) (first us : Units) → IsPrefix first us → n ≤ length first → IsPrefix (take n us) first
taken_within n first us f low =
    let same : take n us ≡ take n first = ap (λ (l : Units). take n l) f.whole_is ∙ take-append-le n first f.rest low in
    record { rest = drop n first; whole_is = sym (take-append-drop n first) ∙ ap (λ (l : Units). l ++ drop n first) (sym same) }

-- what a side sends that stands in its part
pub sent_within : (p : Partner) (units answers : Units) (end : EndData) → IsInPart p.part units answers end → IsPrefix answers (payloads_of p)
sent_within p units answers end is = subst (λ (q : Units). IsPrefix q (payloads_of p)) (sym is.sent) (grows p.part (length units) is.within)

-- Their endpoint has sent these bytes, of which the own one has read these units.
module _ (laws : Laws) (below : Below) (m : SuiteData) (d : DecisionsData) (lawful : IsLawful m) (own their : Partner) (receives : ReceivesCourse m d own their)
    (units answers : Units) (sizes rest h s : List ℕ) (end : EndData) (b : History (partner_setup m d their) units sizes rest None answers end h s)
    (us : Units) (ns left received : List ℕ) (refusal : Option Refusal) (a : Received (parsers m own.role own.config) received us ns left refusal) (to_own : IsPrefix received s) where
  in_part_of : IsPrefix units (stream_of own) → IsInPart their.part units answers end
  in_part_of f = receives.keeps units answers end f b.replies

  -- where they have received units of the course alone, they have sent such
  pub received_of_whole : IsPrefix units (stream_of own) → IsPrefix us (their.config.version ∷ answers)
  received_of_whole f =
      (received_prefix laws m d lawful own.role their.role own.config their.config (payloads_of own) (payloads_of their) receives.received units answers sizes rest h s None end b f
      (sent_within their units answers end (in_part_of f)) received to_own.rest us ns left refusal to_own.whole_is a).prefix

  pub in_stream : IsPrefix units (stream_of own) → IsPrefix us (stream_of their)
  in_stream f = prefix-through us (their.config.version ∷ answers) (stream_of their) (received_of_whole f) (sent_prefix their.part units answers end (in_part_of f) their.config.version)

  -- the same up to a place
  module _ (so more : Units) (e : units ≡ so ++ more) (less : length so < length units) (f : IsPrefix so (stream_of own)) where
    stays : StaysOpen (partner_setup m d their) so
    stays = stays_so (partner_setup m d their) units so more None end e less b.replies.ends

    in_part_so : IsInPart their.part so (sent_so (partner_setup m d their) so) Open
    in_part_so = receives.keeps so (sent_so (partner_setup m d their) so) Open f (replies_so (partner_setup m d their) so stays)

    one_way_so : OneWay us (their.config.version ∷ sent_so (partner_setup m d their) so)
    one_way_so =
        let sent : Units = sent_so (partner_setup m d their) so in
        let more_units_sent : IsPrefix sent answers = sent_more (partner_setup m d their) units so more answers None end e b.replies in
        let ready : switched_out sent ≡ true → IsReady their.role their.config (payloads_in so) = ready_so (partner_setup m d their) below so stays in
        let speaks : SpeaksInCourse their.role own.config their.config (payloads_of own) (payloads_of their) so sent = record {
          received = f;
          sent = sent_within their so sent Open in_part_so;
          fits = each-prefix (λ before payload. FitsPacket payload) [] sent more_units_sent.rest (subst (λ (l : Units). EachPlace (λ before payload. FitsPacket payload) [] l) more_units_sent.whole_is b.fits);
          keyed = ready;
        } in
        let spelled : EachPlace (Spelled (parsers m own.role own.config) (spells m their.role their.config so)) [] (their.config.version ∷ sent) =
        all_spelled m own.role their.role own.config their.config (payloads_of own) (payloads_of their) receives.received so sent speaks laws lawful in
        let bytes : IsPrefix (flat_places (spells m their.role their.config so) [] (their.config.version ∷ sent)) s = bytes_so (partner_setup m d their) units so more answers s e more_units_sent ready b.sent in
        one_way (parsers m own.role own.config) (spells m their.role their.config so) [] (their.config.version ∷ sent) us ns s bytes.rest (left ++ to_own.rest) bytes.whole_is spelled
        (subst (λ (t : List ℕ). Read (parsers m own.role own.config) [] [] t us ns (left ++ to_own.rest)) (sym to_own.whole_is)
        (read_more (parsers m own.role own.config) (laws.parsers m own.role own.config) [] [] received to_own.rest us ns left a.read))

    so_in_stream : IsPrefix (their.config.version ∷ sent_so (partner_setup m d their) so) (stream_of their)
    so_in_stream = sent_prefix their.part so (sent_so (partner_setup m d their) so) Open in_part_so their.config.version

    so_count : length (their.config.version ∷ sent_so (partner_setup m d their) so) ≡ units_sent their.part (length so)
    so_count = sent_count their.part so (sent_so (partner_setup m d their) so) Open in_part_so their.config.version

  -- So many units as they have sent when they have received k of the course are of the course.
  pub step : (k n : ℕ) → n ≤ units_sent their.part k → IsPrefix (take k units) (stream_of own) → IsPrefix (take n us) (stream_of their)
  step k n low f = elim (dec_lt k (length units)) [
    | no ge ↦ taken_prefix n us (stream_of their) (in_stream (subst (λ (l : Units). IsPrefix l (stream_of own)) (take_all k units (omega (arith, ge))) f))
    | yes less ↦
        let so : Units = take k units in
        let e : units ≡ so ++ drop k units = sym (take-append-drop k units) in
        let size : length so ≡ k = length-take-le k units (omega (arith, less)) in
        let fewer_so : length so < length units = omega (arith, size, less) in
        let sent : Units = their.config.version ∷ sent_so (partner_setup m d their) so in
        let count : length sent ≡ units_sent their.part k = so_count so (drop k units) e fewer_so f ∙ ap (λ (i : ℕ). units_sent their.part i) size in
        by n sent (omega (arith, low, count)) (so_in_stream so (drop k units) e fewer_so f) (one_way_so so (drop k units) e fewer_so f)
  ]
    where
      by : (n : ℕ) (sent : Units) → n ≤ length sent → IsPrefix sent (stream_of their) → OneWay us sent → IsPrefix (take n us) (stream_of their)
      by n sent low g (inl f) = taken_prefix n us (stream_of their) (prefix-through us sent (stream_of their) f g)
      by n sent low g (inr f) = prefix-through (take n us) sent (stream_of their) (taken_within n sent us f low) g

-- An endpoint has received no more units of the course than its part receives.
module _ (m : SuiteData) (d : DecisionsData) (own their : Partner) (receives : ReceivesCourse m d their own) (final : own.part.final ≢ Open)
    (units answers : Units) (sizes rest h s : List ℕ) (end : EndData) (a : History (partner_setup m d own) units sizes rest None answers end h s) where
  pub no_more : IsPrefix (take own.part.receives units) (stream_of their) → length units ≤ own.part.receives
  no_more f = elim (dec_lt own.part.receives (length units)) [
    | no ge ↦ omega (arith, ge)
    | yes less ↦
        let so : Units = take own.part.receives units in
        let e : units ≡ so ++ drop own.part.receives units = sym (take-append-drop own.part.receives units) in
        let size : length so ≡ own.part.receives = length-take-le own.part.receives units (omega (arith, less)) in
        let stays_open : StaysOpen (partner_setup m d own) so = stays_so (partner_setup m d own) units so (drop own.part.receives units) None end e (omega (arith, size, less)) a.replies.ends in
        let is : IsInPart own.part so (sent_so (partner_setup m d own) so) Open = receives.keeps so (sent_so (partner_setup m d own) so) Open f (replies_so (partner_setup m d own) so stays_open) in
        let short : length so < own.part.receives = fewer own.part so (sent_so (partner_setup m d own) so) Open is refl final in
        absurd (omega (arith, short, size))
  ]

  pub whole_of : IsPrefix (take own.part.receives units) (stream_of their) → IsPrefix units (stream_of their)
  whole_of f = subst (λ (l : Units). IsPrefix l (stream_of their)) (take_all own.part.receives units (no_more f)) f

-- Both.
module _ (laws : Laws) (below : Below) (m : SuiteData) (d : DecisionsData) (lawful : IsLawful m) (c : ClientData) (s : ServerData) (w : Wording) (receive : BothReceive m d c s w)
    (client_units client_answers : Units) (client_sizes client_rest client_received client_sent : List ℕ) (client_end : EndData)
    (a : History (client_setup m d c) client_units client_sizes client_rest None client_answers client_end client_received client_sent)
    (server_units server_answers : Units) (server_sizes server_rest server_received server_sent : List ℕ) (server_end : EndData)
    (b : History (server_setup m d s) server_units server_sizes server_rest None server_answers server_end server_received server_sent)
    (to_client : IsPrefix client_received server_sent) (to_server : IsPrefix server_received client_sent) where
  abbrev cp : Partner
  cp = client_partner m d c s w

  abbrev sp : Partner
  sp = server_partner m d c s w

  -- what so many rounds of the course bring is of the course, on either side
  record Brought (at : UnitsReceived) : Type 0 where
    client : IsPrefix (take at.client client_units) (stream_of sp)
    server : IsPrefix (take at.server server_units) (stream_of cp)

  server_step : (k n : ℕ) → n ≤ units_sent cp.part k → IsPrefix (take k client_units) (stream_of sp) → IsPrefix (take n server_units) (stream_of cp)
  server_step = step laws below m d lawful sp cp receive.to_server client_units client_answers client_sizes client_rest client_received client_sent client_end a server_units server_sizes server_rest server_received None b.received to_server

  client_step : (k n : ℕ) → n ≤ units_sent sp.part k → IsPrefix (take k server_units) (stream_of cp) → IsPrefix (take n client_units) (stream_of sp)
  client_step = step laws below m d lawful cp sp receive.to_client server_units server_answers server_sizes server_rest server_received server_sent server_end b client_units client_sizes client_rest client_received None a.received to_client

  brought : (r : ℕ) → Brought (after_rounds cp.part sp.part r)
  brought zero = record { client = record { rest = stream_of sp; whole_is = refl }; server = record { rest = stream_of cp; whole_is = refl } }
  brought (suc r) =
      let before = brought r in
      let at : UnitsReceived = after_rounds cp.part sp.part r in
      let n : ℕ = server_receives_all cp.part sp.part at.client in
      let of_server : IsPrefix (take n server_units) (stream_of cp) = server_step at.client n (min-le_right sp.part.receives (units_sent cp.part at.client)) before.client in
      record {
        client = client_step n (min cp.part.receives (units_sent sp.part n)) (min-le_right cp.part.receives (units_sent sp.part n)) of_server;
        server = of_server;
      }

  all_brought : IsPrefix (take cp.part.receives client_units) (stream_of sp) × IsPrefix (take sp.part.receives server_units) (stream_of cp)
  all_brought =
      let rounds : ℕ = most_requests c.plan + 4 in
      let all = few_rounds m d c s w (guess_of c s) (outcome m d c s) rounds (omega arith) in
      let last : Brought (record { client = cp.part.receives; server = sp.part.receives }) = subst (λ (at : UnitsReceived). Brought at) all (brought rounds) in
      (last.client, last.server)

  pub client_of : IsPrefix client_units (stream_of sp)
  client_of = whole_of m d cp sp receive.to_server (of_outcome m d c s w).client_ends client_units client_answers client_sizes client_rest client_received client_sent client_end a all_brought.0

  pub server_of : IsPrefix server_units (stream_of cp)
  server_of = whole_of m d sp cp receive.to_client (of_outcome m d c s w).server_ends server_units server_answers server_sizes server_rest server_received server_sent server_end b all_brought.1

  pub joined_course : AreInCourse m d c s w (record { units = client_units; answers = client_answers; end = client_end }) (record { units = server_units; answers = server_answers; end = server_end })
  joined_course = record {
    client_in_part = receive.to_server.keeps client_units client_answers client_end client_of a.replies;
    server_in_part = receive.to_client.keeps server_units server_answers server_end server_of b.replies;
    client_received = received_of_whole laws below m d lawful cp sp receive.to_client server_units server_answers server_sizes server_rest server_received server_sent server_end b client_units client_sizes client_rest client_received None a.received to_client server_of;
    server_received = received_of_whole laws below m d lawful sp cp receive.to_server client_units client_answers client_sizes client_rest client_received client_sent client_end a server_units server_sizes server_rest server_received None b.received to_server client_of;
  }
