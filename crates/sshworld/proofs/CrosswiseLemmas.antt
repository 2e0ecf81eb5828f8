-- Two joined sides that ended authenticated: each has received all that the other has sent, and what they hand over matches.

use Rattle.std.proofs.Common.{◌≡◌, ◌≢◌, ℕ, Bool, true, false, cond, List, [], ◌∷◌, ◌++◌, length, Option, None, Some, refl, sym, ap, subst, ◌∙◌, arith, append-nil, length-append}
use Rattle.sshneg.specs.declared.side.Side.TheVariants.{Client, Server}
use Rattle.sshneg.specs.Derivations.{ExchangeData}
use Rattle.sshpacket.specs.KeysData.{KeysData}
use Rattle.sshpacket.specs.Parse.{Refusal}
use Rattle.sshpacket.specs.Places.{EachPlace, IsPrefix, after_first, flat_places}
use Rattle.sshpacket.specs.Stream.{Read, Received, Spelled, Units, sizes_of}
use Rattle.sshpacket.specs.Suite.{IsLawful, SuiteData}
use Rattle.sshpacket.specs.Written as written
use Rattle.sshpacket.proofs.Places.{prefix-all}
use Rattle.sshpacket.proofs.Streams.{read_more}
use Rattle.sshcore.specs.declared.session.Direction.{Direction}
use Rattle.sshcore.specs.declared.session.Session.{Session}
use Rattle.sshcore.specs.Before.{strict_at}
use Rattle.sshcore.specs.ConfigParts.{ClientData, ServerData, version_of}
use Rattle.sshcore.specs.Counting.{is_newkeys, number_in, number_out, switched_out}
use Rattle.sshcore.specs.Directions.{keys_in, keys_out, parsers, payloads_in, spells, version_in}
use Rattle.sshcore.specs.EndData.{AgreedData, Authenticated, EndData, Open}
use Rattle.sshcore.specs.Exchange.{exchange_at, keys_at}
use Rattle.sshcore.specs.History.{History, IsReady}
use Rattle.sshcore.specs.EndpointParts.{DecisionsData, client_setup, config_of_client, config_of_server, server_setup}
use Rattle.sshcore.specs.Sessions.{IsSession}
use Rattle.sshcore.proofs.LawsBelow.{Below}
use Rattle.sshworld.specs.CourseReceived.{BothReceive, client_partner, server_partner}
use Rattle.sshworld.specs.Course.{way_of}
use Rattle.sshworld.specs.Follows.{IsInPart}
use Rattle.sshworld.specs.Guesses.{guess_of}
use Rattle.sshworld.specs.Partners.{Partner, ReceivesCourse, partner_setup, payloads_of, stream_of}
use Rattle.sshworld.specs.Headline.{AreInCourse, EndAs}
use Rattle.sshworld.specs.Joined.{AreCrosswise}
use Rattle.sshworld.specs.Laws.{Laws}
use Rattle.sshworld.specs.Outcome.{outcome}
use Rattle.sshworld.specs.Rounds.{units_sent}
use Rattle.sshworld.specs.Wording.{Wording}
use Rattle.sshworld.proofs.HeadlineLemmas.{end_as, ends_as, one, sent_count}
use Rattle.sshworld.proofs.JoinedLemmas.{client_of, joined_course, sent_within, server_of}
use Rattle.sshworld.proofs.UserAcceptedLemmas.{ReceiveAll, accepts, receive_all}
use Rattle.sshworld.proofs.LinkLemmas.{SpeaksInCourse, SameWay, all_spelled, keys_both, numbers_same, received_sizes, sizes_so, same_way, speaks_by, switches_sent}
use Rattle.sshworld.proofs.OneWayLemmas.{after_all}

none_left : {A : Type 0} (xs : List A) → length xs ≡ 0 → xs ≡ []
none_left [] e = refl
none_left (x ∷ xs) e = absurd (omega (arith, e))

-- a prefix that is as long as the whole
prefix_full : (us all : Units) → IsPrefix us all → length us ≡ length all → us ≡ all
prefix_full us all f e =
    let none : f.rest ≡ [] = none_left f.rest (omega (arith, e, ap length f.whole_is, length-append us f.rest)) in
    sym (f.whole_is ∙ (ap (λ (l : Units). us ++ l) none ∙ append-nil us))

-- the keys that are there are these
keyed_by : (b : Bool) (keys used : KeysData) → cond b (Some keys) None ≡ Some used → (b ≡ true) × (keys ≡ used)
keyed_by true keys used e = (refl, cc (e))
keyed_by false keys used e = absurd (cc (e))

same_direction : (x y : Direction) → x.keys ≡ y.keys → x.sequence_number ≡ y.sequence_number → x ≡ y
same_direction x y keys number =
    ap (λ (k : KeysData). record { keys = k; sequence_number = x.sequence_number }) keys ∙ ap (λ (n : ℕ). record { keys = y.keys; sequence_number = n }) number

-- One direction: their endpoint has sent these bytes, and the own one has received all their units.
module _ (laws : Laws) (m : SuiteData) (d : DecisionsData) (lawful : IsLawful m) (own their : Partner) (receives : ReceivesCourse m d own their)
    (units answers : Units) (sizes rest h s : List ℕ) (end : EndData) (b : History (partner_setup m d their) units sizes rest None answers end h s)
    (f : IsPrefix units (stream_of own)) (is : IsInPart their.part units answers end) where
  speaks : SpeaksInCourse their.role own.config their.config (payloads_of own) (payloads_of their) units answers
  speaks = speaks_by m d their.role own.config their.config (payloads_of own) (payloads_of their) units answers sizes rest h s None end b f (sent_within their units answers end is)

  pub all_bytes : (us : Units) (ns left received : List ℕ) (refusal : Option Refusal) → Received (parsers m own.role own.config) received us ns left refusal → IsPrefix received s → us ≡ their.config.version ∷ answers → received ≡ s
  all_bytes us ns left received refusal a to_own all =
      let sent : Units = their.config.version ∷ answers in
      let reads = parsers m own.role own.config in
      let writes = spells m their.role their.config units in
      let spelled : EachPlace (Spelled (parsers m own.role own.config) (spells m their.role their.config units)) [] (their.config.version ∷ answers) =
      all_spelled m own.role their.role own.config their.config (payloads_of own) (payloads_of their) receives.received units answers speaks laws lawful in
      let read : Read (parsers m own.role own.config) [] [] s (their.config.version ∷ answers) ns (left ++ to_own.rest) =
      subst (λ (l : Units). Read (parsers m own.role own.config) [] [] s l ns (left ++ to_own.rest)) all
      (subst (λ (t : List ℕ). Read (parsers m own.role own.config) [] [] t us ns (left ++ to_own.rest)) (sym to_own.whole_is)
      (read_more (parsers m own.role own.config) (laws.parsers m own.role own.config) [] [] received to_own.rest us ns left a.read)) in
      let none : left ++ to_own.rest ≡ [] =
      after_all (parsers m own.role own.config) (spells m their.role their.config units) [] (their.config.version ∷ answers) ns s [] (left ++ to_own.rest)
      (b.sent.spelled ∙ sym (append-nil (flat_places (spells m their.role their.config units) [] (their.config.version ∷ answers)))) spelled read in
      let nothing : to_own.rest ≡ [] = none_left to_own.rest (omega (arith, ap length none, length-append left to_own.rest)) in
      sym (to_own.whole_is ∙ (ap (λ (l : List ℕ). received ++ l) nothing ∙ append-nil received))

  -- both have hashed the same
  pub same_exchange : (us : Units) → us ≡ their.config.version ∷ answers → switched_out answers ≡ true → IsReady own.role own.config (payloads_in us)
      → exchange_at m own.role own.config (version_in us) (payloads_in us) ≡ exchange_at m their.role their.config (version_in units) (payloads_in units)
  same_exchange us all on ready =
      let now_ready : IsReady own.role own.config answers = subst (λ (l : Units). IsReady own.role own.config (payloads_in l)) all ready in
      let way : SameWay m own.role their.role own.config their.config units answers =
      same_way m own.role their.role own.config their.config (payloads_of own) (payloads_of their) receives.received units answers speaks answers (prefix-all answers) on now_ready in
      ap (λ (l : Units). exchange_at m own.role own.config (version_in l) (payloads_in l)) all ∙ way.exchange

  -- what the one sends next, the other receives
  pub direction : (us sent : Units) (ns left received : List ℕ) (refusal : Option Refusal) → Received (parsers m own.role own.config) received us ns left refusal → IsPrefix received s → us ≡ their.config.version ∷ answers → IsReady own.role own.config (payloads_in us) → (agreed other_agreed : AgreedData) (speaker receiver : Session)
      → IsSession (partner_setup m d their) units answers sizes agreed speaker → IsSession (partner_setup m d own) us sent ns other_agreed receiver → speaker.outgoing ≡ receiver.incoming
  direction us sent ns left received refusal a to_own all ready agreed other_agreed speaker receiver t u =
      let out = keyed_by (switched_out answers) (written.after_all m (keys_at m their.role their.config (version_in units) (payloads_in units) their.role) (after_first is_newkeys [] answers)) speaker.outgoing.keys t.outgoing_keys in
      let received_keys : keys_in m own.role own.config their.config.version answers ns ≡ Some receiver.incoming.keys = ap (λ (l : Units). keys_in m own.role own.config (version_in l) (payloads_in l) ns) (sym all) ∙ u.incoming_keys in
      let now_ready : IsReady own.role own.config answers = subst (λ (l : Units). IsReady own.role own.config (payloads_in l)) all ready in
      let way : SameWay m own.role their.role own.config their.config units answers =
      same_way m own.role their.role own.config their.config (payloads_of own) (payloads_of their) receives.received units answers speaks answers (prefix-all answers) out.0 now_ready in
      let switches = switches_sent m own.role their.role own.config their.config (payloads_of own) (payloads_of their) receives.received units answers speaks in
      let numbers : number_in own.role own.config answers ≡ number_out (strict_at their.role their.config (payloads_in units)) answers =
      numbers_same laws m lawful own.role their.role own.config their.config units answers switches out.0 way in
      same_direction speaker.outgoing receiver.incoming
      (let sizes_are : ns ≡ sizes_so laws m lawful own.role their.role own.config their.config units answers
      = received_sizes laws m d lawful own.role their.role own.config their.config (payloads_of own) (payloads_of their) receives.received units answers sizes rest h s None end b f (sent_within their units answers end is) received to_own.rest us ns left refusal
      to_own.whole_is a ∙ ap (λ (l : Units). sizes_of (spells m their.role their.config units) [] l) all in
      let both : keys_in m own.role own.config their.config.version answers (sizes_so laws m lawful own.role their.role own.config their.config units answers) ≡ keys_out m their.role their.config units answers
      = keys_both m own.role their.role own.config their.config (payloads_of own) (payloads_of their) receives.received units answers speaks laws lawful out.0 now_ready in
      let one : Some speaker.outgoing.keys ≡ Some receiver.incoming.keys
      = sym t.outgoing_keys ∙ (sym both ∙ (ap (λ (l : List ℕ). keys_in m own.role own.config their.config.version answers l) (sym sizes_are) ∙ received_keys)) in
      cc (one))
      (t.outgoing_number ∙ (sym numbers ∙ (ap (λ (l : Units). number_in own.role own.config (payloads_in l)) (sym all) ∙ sym u.incoming_number)))

-- Both, where each ended authenticated.
module _ (laws : Laws) (below : Below) (m : SuiteData) (d : DecisionsData) (lawful : IsLawful m) (c : ClientData) (s : ServerData) (w : Wording) (receive : BothReceive m d c s w)
    (client_units client_answers : Units) (client_sizes client_rest client_received client_sent : List ℕ) (client_agreed : AgreedData)
    (a : History (client_setup m d c) client_units client_sizes client_rest None client_answers (Authenticated client_agreed) client_received client_sent)
    (server_units server_answers : Units) (server_sizes server_rest server_received server_sent : List ℕ) (server_agreed : AgreedData)
    (b : History (server_setup m d s) server_units server_sizes server_rest None server_answers (Authenticated server_agreed) server_received server_sent)
    (to_client : IsPrefix client_received server_sent) (to_server : IsPrefix server_received client_sent) where
  abbrev cp : Partner
  cp = client_partner m d c s w

  abbrev sp : Partner
  sp = server_partner m d c s w

  course : AreInCourse m d c s w (record { units = client_units; answers = client_answers; end = Authenticated client_agreed }) (record { units = server_units; answers = server_answers; end = Authenticated server_agreed })
  course = joined_course laws below m d lawful c s w receive client_units client_answers client_sizes client_rest client_received client_sent (Authenticated client_agreed) a
      server_units server_answers server_sizes server_rest server_received server_sent (Authenticated server_agreed) b to_client to_server

  shut : (x : AgreedData) → Authenticated x ≢ Open
  shut x e = cc (e)

  ends : EndAs (outcome m d c s) (Authenticated client_agreed) (Authenticated server_agreed)
  ends = end_as m d c s w (record { units = client_units; answers = client_answers; end = Authenticated client_agreed }) (record { units = server_units; answers = server_answers; end = Authenticated server_agreed }) course

  by_client : (outcome m d c s).client ≡ Authenticated client_agreed
  by_client = sym (ends.client_as (shut client_agreed))

  pub same_agreed : client_agreed ≡ server_agreed
  same_agreed =
      let e : Authenticated server_agreed ≡ Authenticated client_agreed = ends.server_as (shut server_agreed) ∙ (one m d c s client_agreed).0 by_client in
      cc (e)

  counts : ReceiveAll w (guess_of c s) (way_of m d c s) (outcome m d c s)
  counts = receive_all w (guess_of c s) (outcome m d c s) (way_of m d c s) (accepts m d c s client_agreed by_client)

  client_count : length client_units ≡ cp.part.receives
  client_count = (ends_as cp.part client_units client_answers (Authenticated client_agreed) course.client_in_part (shut client_agreed)).1

  server_count : length server_units ≡ sp.part.receives
  server_count = (ends_as sp.part server_units server_answers (Authenticated server_agreed) course.server_in_part (shut server_agreed)).1

  client_all : client_units ≡ version_of s.side ∷ server_answers
  client_all =
      let sent = sent_count sp.part server_units server_answers (Authenticated server_agreed) course.server_in_part (version_of s.side) ∙ ap (λ (n : ℕ). units_sent sp.part n) server_count in
      prefix_full client_units (version_of s.side ∷ server_answers) course.client_received (client_count ∙ (counts.client_all ∙ sym sent))

  server_all : server_units ≡ version_of c.side ∷ client_answers
  server_all =
      let sent = sent_count cp.part client_units client_answers (Authenticated client_agreed) course.client_in_part (version_of c.side) ∙ ap (λ (n : ℕ). units_sent cp.part n) client_count in
      prefix_full server_units (version_of c.side ∷ client_answers) course.server_received (server_count ∙ (counts.server_all ∙ sym sent))

  client_in : IsPrefix client_units (stream_of sp)
  client_in = client_of laws below m d lawful c s w receive client_units client_answers client_sizes client_rest client_received client_sent (Authenticated client_agreed) a
      server_units server_answers server_sizes server_rest server_received server_sent (Authenticated server_agreed) b to_client to_server

  server_in : IsPrefix server_units (stream_of cp)
  server_in = server_of laws below m d lawful c s w receive client_units client_answers client_sizes client_rest client_received client_sent (Authenticated client_agreed) a
      server_units server_answers server_sizes server_rest server_received server_sent (Authenticated server_agreed) b to_client to_server

  pub all_received : (client_received ≡ server_sent) × (server_received ≡ client_sent) × (client_agreed ≡ server_agreed)
  all_received = (
    all_bytes laws m d lawful cp sp receive.to_client server_units server_answers server_sizes server_rest server_received server_sent (Authenticated server_agreed) b server_in course.server_in_part
        client_units client_sizes client_rest client_received None a.received to_client client_all,
    all_bytes laws m d lawful sp cp receive.to_server client_units client_answers client_sizes client_rest client_received client_sent (Authenticated client_agreed) a client_in course.client_in_part
        server_units server_sizes server_rest server_received None b.received to_server server_all,
    same_agreed,
  )

  pub crosswise : (one_session other_session : Session) → IsSession (client_setup m d c) client_units client_answers client_sizes client_agreed one_session
      → IsSession (server_setup m d s) server_units server_answers server_sizes server_agreed other_session → AreCrosswise one_session other_session
  crosswise one_session other_session t u =
      let client_keyed = keyed_by (switched_out client_answers) (written.after_all m (keys_at m Client (config_of_client c) (version_in client_units) (payloads_in client_units) Client) (after_first is_newkeys [] client_answers)) one_session.outgoing.keys t.outgoing_keys in
      let server_keyed = keyed_by (switched_out server_answers) (written.after_all m (keys_at m Server (config_of_server s) (version_in server_units) (payloads_in server_units) Server) (after_first is_newkeys [] server_answers)) other_session.outgoing.keys u.outgoing_keys in
      record {
        same_agreed = t.agreed_is ∙ (same_agreed ∙ sym u.agreed_is);
        there_version = t.own_version ∙ sym (u.peer_version ∙ ap version_in server_all);
        back_version = u.own_version ∙ sym (t.peer_version ∙ ap version_in client_all);
        same_host_key = t.host_key ∙ (ap (λ (x : ExchangeData). x.host_key) (sym (same_exchange laws m d lawful sp cp receive.to_server client_units client_answers client_sizes client_rest client_received client_sent (Authenticated client_agreed) a client_in course.client_in_part
            server_units server_all client_keyed.0 (b.keyed server_keyed.0))) ∙ sym u.host_key);
        there = direction laws m d lawful sp cp receive.to_server client_units client_answers client_sizes client_rest client_received client_sent (Authenticated client_agreed) a client_in course.client_in_part
            server_units server_answers server_sizes server_rest server_received None b.received to_server server_all (b.keyed server_keyed.0) client_agreed server_agreed one_session other_session t u;
        back = direction laws m d lawful cp sp receive.to_client server_units server_answers server_sizes server_rest server_received server_sent (Authenticated server_agreed) b server_in course.server_in_part
            client_units client_answers client_sizes client_rest client_received None a.received to_client client_all (a.keyed client_keyed.0) server_agreed client_agreed other_session one_session u t;
      }
