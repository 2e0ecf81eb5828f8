-- What one endpoint has sent, the other reads.

use Rattle.std.proofs.Common.{◌≡◌, ℕ, ◌<◌, ◌==◌, Bool, true, cond, List, [], ◌∷◌, ◌++◌, length, Option, None, Some, inl, inr, refl, sym, ap, subst, ◌∙◌, append_assoc, arith}
use Rattle.std.specs.Prelude.{◌^◌}
use Rattle.std.proofs.lemmas.Bool.{cases_Bool, true≢false}
use Rattle.std.proofs.lemmas.List.{append-nil}
use Rattle.std.proofs.lemmas.Nat.{mod_below}
use Rattle.sshmsg.specs.Numbers.{message_number}
use Rattle.sshneg.specs.declared.side.Side.{Side}
use Rattle.sshneg.specs.Markers.{other}
use Rattle.sshpacket.specs.KeysData.{KeysData}
use Rattle.sshpacket.specs.Parse.{Refusal, parse_packet, protection, whole}
use Rattle.sshpacket.specs.Places.{EachPlace, IsPrefix, after_first, stands}
use Rattle.sshpacket.specs.Stream.{Linked, Received, ReceivedAll, Spelled, Units, sizes_of}
use Rattle.sshpacket.specs.Suite.{IsLawful, SuiteData, advanced, all_advanced}
use Rattle.sshpacket.specs.Written.{after_all, sealed_size}
use Rattle.sshpacket.proofs.Places.{each-prefix, each-push, each-weaker, flat-push, prefix-through, stands-prefix}
use Rattle.sshcore.specs.Before.{kept, offered, since, stood, strict_at}
use Rattle.sshcore.specs.Counting.{is_newkeys, number_by, number_in, number_out, switched_out}
use Rattle.sshcore.specs.Directions.{form_of, keys_in, keys_out, others_of, parsers, payloads_in, sizes_since, spelled_by, spells, version_in}
use Rattle.sshcore.specs.EndData.{EndData}
use Rattle.sshcore.specs.Exchange.{exchange_at, keys_at}
use Rattle.sshcore.specs.History.{AllFit, FitsPacket, History, IsReady}
use Rattle.sshcore.specs.EndpointParts.{ConfigData, DecisionsData, setup_with}
use Rattle.sshcore.specs.Output.{keys_after}
use Rattle.sshcore.proofs.CountingLemmas.{sizes_off, sizes_on}
use Rattle.sshcore.proofs.MoveLemmas.{advanced_push}
use Rattle.sshcore.proofs.OutputLemmas.{keys_first, keys_on}
use Rattle.sshcore.proofs.SendingLemmas.{switched_push}
use Rattle.sshcore.proofs.StreamLemmas.{exchange_stays, keys_stay, strict_stays}
use Rattle.sshworld.specs.Laws.{Laws}
use Rattle.sshworld.specs.Links.{CanBeReceived}
use Rattle.sshworld.specs.Placed.{HaveSameKeys, IsInPlace}

-- A speaker stands in its course, once it has received these units and sent these answers: both are a prefix of all that is
-- sent, what was sent fits packets, and NEWKEYS is among it only where the speaker has received the exchange message.
pub record SpeaksInCourse (peer : Side) (own their : ConfigData) (ours theirs units answers : Units) : Type 0 where
  pub received : IsPrefix units (own.version ∷ ours)
  pub sent : IsPrefix answers theirs
  pub fits : AllFit answers
  pub keyed : switched_out answers ≡ true → IsReady peer their (payloads_in units)

-- tests that agree at each place
module _ (t u : Units → List ℕ → Bool) where
  stands_same : (before xs : Units) → EachPlace (λ b p. t b p ≡ u b p) before xs → stands t before xs ≡ stands u before xs
  stands_same before [] each = refl
  stands_same before (x ∷ xs) each =
      ap (λ (b : Bool). cond b true (stands t (before ++ x ∷ []) xs)) each.0 ∙ ap (λ (r : Bool). cond (u before x) true r) (stands_same (before ++ x ∷ []) xs each.1)

  after_same : (before xs : Units) → EachPlace (λ b p. t b p ≡ u b p) before xs → after_first t before xs ≡ after_first u before xs
  after_same before [] each = refl
  after_same before (x ∷ xs) each =
      ap (λ (b : Bool). cond b xs (after_first t (before ++ x ∷ []) xs)) each.0 ∙ ap (λ (r : Units). cond (u before x) xs r) (after_same (before ++ x ∷ []) xs each.1)

-- NEWKEYS isn't dropped here
abbrev pub SameSwitch : Side → ConfigData → Units → List ℕ → Type 0
SameSwitch role own before p = kept role own.offer 21 before p ≡ (message_number p == 21)

module _ (role : Side) (own : ConfigData) where
  -- the switch and the packets after it are the same on both sides
  pub switch_same : (xs : Units) → EachPlace (SameSwitch role own) [] xs → stood role own.offer 21 xs ≡ switched_out xs
  unfolding stood switched_out
  switch_same xs each = stands_same (kept role own.offer 21) is_newkeys [] xs each

  since_same : (xs : Units) → EachPlace (SameSwitch role own) [] xs → since role own.offer 21 xs ≡ length (after_first is_newkeys [] xs)
  unfolding since
  since_same xs each = ap length (after_same (kept role own.offer 21) is_newkeys [] xs each)

number_below : (switched strict : Bool) (since all : ℕ) → number_by switched strict since all < 2 ^ 32
number_below switched strict since all = mod_below _ (2 ^ 32) (omega arith)

-- keys advance with each packet, so with none not at all
none_advanced : (m : SuiteData) (k : KeysData) → ◌≡◌ {A = Option KeysData} (Some (all_advanced m k [])) (Some k)
unfolding all_advanced
none_advanced m k = refl

-- after this NEWKEYS the receiver reads with what the speaker writes with, and both have hashed the same
pub record SameWay (m : SuiteData) (role peer : Side) (own their : ConfigData) (received before : Units) : Type 0 where
  pub exchange : exchange_at m role own their.version before ≡ exchange_at m peer their (version_in received) (payloads_in received)
  pub keys : keys_at m role own their.version before (other role) ≡ keys_at m peer their (version_in received) (payloads_in received) peer
  pub strict : strict_at role own before ≡ strict_at peer their (payloads_in received)

module _ (laws : Laws) (m : SuiteData) (lawful : IsLawful m) where
  -- what is written in one way is read in it, with the same keys and, where there are keys, the same number
  reads_as : (k l q : Option KeysData) (i j : ℕ) (seed p more : List ℕ) → k ≡ q → l ≡ q → ((keys : KeysData) → q ≡ Some keys → i ≡ j) → j < 2 ^ 32 → FitsPacket p
      → parse_packet (protection m k i) (spelled_by m l seed j p ++ more) ≡ whole p (length (spelled_by m l seed j p))
  reads_as k l None i j seed p more ek el same low fits = rw (ek, el) (laws.clear m lawful seed j p more fits.some fits.short)
  reads_as k l (Some keys) i j seed p more ek el same low fits =
      let e : i ≡ j = same keys refl in
      rw (ek, el, e) (laws.sealed m lawful keys seed j p more low fits.bytes fits.some fits.short)

  module _ (role peer : Side) (own their : ConfigData) (received : Units) where
    pub numbers_same : (before : Units) → EachPlace (SameSwitch role own) [] before → switched_out before ≡ true → SameWay m role peer own their received before
        → number_in role own before ≡ number_out (strict_at peer their (payloads_in received)) before
    unfolding number_out
    numbers_same before same on way =
        ap (λ (b : Bool). number_by b (strict_at role own before) (since role own.offer 21 before) (length before)) (switch_same role own before same)
        ∙ ap (λ (b : Bool). number_by (switched_out before) b (since role own.offer 21 before) (length before)) way.strict
        ∙ ap (λ (n : ℕ). number_by (switched_out before) (strict_at peer their (payloads_in received)) n (length before)) (since_same role own before same)

    low_out : (before : Units) → number_out (strict_at peer their (payloads_in received)) before < 2 ^ 32
    unfolding number_out
    low_out before = number_below (switched_out before) (strict_at peer their (payloads_in received)) (length (after_first is_newkeys [] before)) (length before)

    -- the sizes of the packets so far, and what the receiver reads with and the speaker writes with after them
    abbrev pub sizes_so : Units → List ℕ
    sizes_so before = sizes_of (spells m peer their received) [] (their.version ∷ before)

    abbrev pub KeysSame : Units → Type 0
    KeysSame before = switched_out before ≡ true → IsReady role own before → keys_in m role own their.version before (sizes_so before) ≡ keys_out m peer their received before

    keys_begin : KeysSame []
    unfolding switched_out
    keys_begin on ready = absurd (true≢false (sym on))

    -- one payload more
    keys_step : (before : Units) (p : List ℕ) → EachPlace (SameSwitch role own) [] (before ++ p ∷ []) → EachPlace (SameSwitch role own) [] before → FitsPacket p
        → (switched_out before ≡ true → IsReady role own before) → (switched_out before ≡ true → SameWay m role peer own their received before)
        → (switched_out (before ++ p ∷ []) ≡ true → IsReady role own (before ++ p ∷ []) → SameWay m role peer own their received (before ++ p ∷ [])) → KeysSame before → KeysSame (before ++ p ∷ [])
    keys_step before p all same fits ready_before way_before way_after ih on ready = elim (cases_Bool (switched_out before)) [
      | inl was ↦
          let used : KeysData = after_all m out_keys (after_first is_newkeys [] before) in
          let speaks : keys_out m peer their received before ≡ Some used = ap (λ (b : Bool). cond b (Some used) None) was in
          let size : len ≡ sealed_size m used p =
          ap (λ (k : Option KeysData). length (spelled_by m k their.seed (number_out (strict_at peer their (payloads_in received)) before) p)) speaks
          ∙ laws.size m lawful used their.seed (number_out (strict_at peer their (payloads_in received)) before) p (low_out before) fits.bytes fits.some fits.short in
          let since : List ℕ = sizes_since role own before (sizes_so before) in
          let reads : keys_in m role own their.version before (sizes_so before) ≡ Some (all_advanced m in_keys since) =
          ap (λ (b : Bool). cond b (Some (all_advanced m in_keys since)) None) (switch_same role own before same ∙ was) in
          let both : ◌≡◌ {A = Option KeysData} (Some (all_advanced m in_keys since)) (Some used) = sym reads ∙ (ih was (ready_before was) ∙ speaks) in
          let kept : all_advanced m in_keys since ≡ used = cc (both) in
          let one : in_keys_after ≡ in_keys = (way_after on ready).keys ∙ sym (way_before was).keys in
          here ∙ ap (λ (k : KeysData). Some (all_advanced m k (sizes_since role own (before ++ p ∷ []) (sizes_so (before ++ p ∷ []))))) one
          ∙ ap (λ (ns : List ℕ). Some (all_advanced m in_keys (sizes_since role own (before ++ p ∷ []) ns))) pushed
          ∙ ap (λ (ns : List ℕ). Some (all_advanced m in_keys ns)) (sizes_on role own before p (sizes_so before) len (switch_same role own before same ∙ was))
          ∙ ap (λ (k : KeysData). Some k) (advanced_push m since in_keys len)
          ∙ ap (λ (k : KeysData). Some (advanced m k len)) kept
          ∙ ap (λ (n : ℕ). Some (advanced m used n)) size
          ∙ sym (keys_on m peer their received before p was ∙ ap (λ (k : Option KeysData). keys_after m k p) speaks)
      | inr off ↦
          let newkeys : (message_number p == 21) ≡ true = sym (switched_push before p ∙ rw off refl) ∙ on in
          here ∙ ap (λ (ns : List ℕ). Some (all_advanced m in_keys_after ns)) (sizes_off role own before p (sizes_so (before ++ p ∷ [])) (switch_same role own before same ∙ off))
          ∙ none_advanced m in_keys_after
          ∙ ap (λ (k : KeysData). Some k) (way_after on ready).keys
          ∙ sym (keys_first m peer their received before p off newkeys)
    ]
      where
        out_keys : KeysData
        out_keys = keys_at m peer their (version_in received) (payloads_in received) peer

        in_keys : KeysData
        in_keys = keys_at m role own their.version before (other role)

        in_keys_after : KeysData
        in_keys_after = keys_at m role own their.version (before ++ p ∷ []) (other role)

        len : ℕ
        len = length (spells m peer their received (their.version ∷ before) p)

        pushed : sizes_so (before ++ p ∷ []) ≡ sizes_so before ++ len ∷ []
        pushed = flat-push (λ (passed : Units) (u : List ℕ). length (spells m peer their received passed u) ∷ []) [] (their.version ∷ before) p

        here : keys_in m role own their.version (before ++ p ∷ []) (sizes_so (before ++ p ∷ [])) ≡ Some (all_advanced m in_keys_after (sizes_since role own (before ++ p ∷ []) (sizes_so (before ++ p ∷ []))))
        here = ap (λ (b : Bool). cond b (Some (all_advanced m in_keys_after (sizes_since role own (before ++ p ∷ []) (sizes_so (before ++ p ∷ []))))) None) (switch_same role own (before ++ p ∷ []) all ∙ on)

    -- all from a place on
    pub keys_through : (before sent : Units) → EachPlace (SameSwitch role own) [] before → EachPlace (IsInPlace role own) before sent → EachPlace (λ b p. FitsPacket p) before sent
        → ((b : Units) → IsPrefix b (before ++ sent) → switched_out b ≡ true → IsReady role own b → SameWay m role peer own their received b)
        → KeysSame before → KeysSame (before ++ sent)
    keys_through before [] same each fits agree keys = subst (λ (l : Units). KeysSame l) (sym (append-nil before)) keys
    keys_through before (p ∷ sent) same each fits agree keys =
        let next : EachPlace (SameSwitch role own) [] (before ++ p ∷ []) = each-push (SameSwitch role own) [] before p same each.0.switch in
        let grouped : (before ++ p ∷ []) ++ sent ≡ before ++ p ∷ sent = append_assoc before (p ∷ []) sent in
        subst (λ (l : Units). KeysSame l) grouped
        (keys_through (before ++ p ∷ []) sent next each.1 fits.1
        (λ b f on r. agree b (record { rest = f.rest; whole_is = sym grouped ∙ f.whole_is }) on r)
        (keys_step before p next same fits.0 each.0.ready (λ on. agree before (record { rest = p ∷ sent; whole_is = refl }) on (each.0.ready on))
        (λ on r. agree (before ++ p ∷ []) (record { rest = sent; whole_is = sym grouped }) on r) keys))

    pub keys_all : (sent : Units) → EachPlace (IsInPlace role own) [] sent → EachPlace (λ b p. FitsPacket p) [] sent
        → ((b : Units) → IsPrefix b sent → switched_out b ≡ true → IsReady role own b → SameWay m role peer own their received b) → KeysSame sent
    keys_all sent each fits agree = keys_through [] sent tt each fits agree keys_begin

    -- one payload
    spelled_at : (before : Units) (p : List ℕ) → EachPlace (SameSwitch role own) [] before → FitsPacket p → (switched_out before ≡ true → SameWay m role peer own their received before)
        → (switched_out before ≡ true → keys_in m role own their.version before (sizes_so before) ≡ keys_out m peer their received before)
        → Spelled (parsers m role own) (spells m peer their received) (their.version ∷ before) p
    spelled_at before p same fits agree keys_are more = elim (cases_Bool (switched_out before)) [
      | inl on ↦
          let way = agree on in
          reads_as (keys_in m role own their.version before (sizes_so before)) (keys_out m peer their received before) (keys_out m peer their received before)
          (number_in role own before) (number_out (strict_at peer their (payloads_in received)) before) their.seed p more
          (keys_are on)
          refl
          (λ keys e. numbers_same before same on way) (low_out before) fits
      | inr off ↦
          reads_as (keys_in m role own their.version before (sizes_so before)) (keys_out m peer their received before) None
          (number_in role own before) (number_out (strict_at peer their (payloads_in received)) before) their.seed p more
          (ap (λ (b : Bool). cond b (Some (all_advanced m (keys_at m role own their.version before (other role)) (sizes_since role own before (sizes_so before)))) None) (switch_same role own before same ∙ off))
          (ap (λ (b : Bool). cond b (Some (after_all m (keys_at m peer their (version_in received) (payloads_in received) peer) (after_first is_newkeys [] before))) None) off)
          (λ keys e. absurd cc) (low_out before) fits
    ]

    -- all from a place on
    each_spelled : (before sent : Units) → EachPlace (SameSwitch role own) [] before → EachPlace (IsInPlace role own) before sent → EachPlace (λ b p. FitsPacket p) before sent
        → ((b : Units) → IsPrefix b (before ++ sent) → switched_out b ≡ true → IsReady role own b → SameWay m role peer own their received b) → KeysSame before
        → EachPlace (Spelled (parsers m role own) (spells m peer their received)) (their.version ∷ before) sent
    each_spelled before [] same each fits agree keys = tt
    each_spelled before (p ∷ sent) same each fits agree keys =
        let way = (λ (on : switched_out before ≡ true). agree before (record { rest = p ∷ sent; whole_is = refl }) on (each.0.ready on)) in
        let next : EachPlace (SameSwitch role own) [] (before ++ p ∷ []) = each-push (SameSwitch role own) [] before p same each.0.switch in (
          spelled_at before p same fits.0 way (λ on. keys on (each.0.ready on)),
          each_spelled (before ++ p ∷ []) sent next each.1 fits.1
              (λ b f on r. agree b (record { rest = f.rest; whole_is = sym (append_assoc before (p ∷ []) sent) ∙ f.whole_is }) on r)
              (keys_step before p next same fits.0 each.0.ready way (λ on r. agree (before ++ p ∷ []) (record { rest = sent; whole_is = sym (append_assoc before (p ∷ []) sent) }) on r) keys),
        )

switched_on : (xs ys : Units) → IsPrefix xs ys → switched_out xs ≡ true → switched_out ys ≡ true
unfolding switched_out
switched_on xs ys f e = stands-prefix is_newkeys xs ys f e

none_offered : offered [] ≡ true → ⊥
unfolding offered
none_offered e = true≢false (sym e)

-- units of which a payload was received begin with the version
begins_so : (us : Units) (version : List ℕ) (ps : Units) → IsPrefix us (version ∷ ps) → offered (payloads_in us) ≡ true → (version_in us ≡ version) × IsPrefix (payloads_in us) ps
begins_so [] version ps f e = absurd (none_offered e)
begins_so (u ∷ us) version ps f e =
    let is : version ∷ ps ≡ u ∷ (us ++ f.rest) = f.whole_is in
    (cc, record { rest = f.rest; whole_is = cc })

module _ (m : SuiteData) (role : Side) (config : ConfigData) where
  keys_of_prefix : (version : List ℕ) (xs ys : Units) (sender : Side) → IsPrefix xs ys → IsReady role config xs → keys_at m role config version ys sender ≡ keys_at m role config version xs sender
  keys_of_prefix version xs ys sender f r = ap (λ (q : Units). keys_at m role config version q sender) f.whole_is ∙ keys_stay m role config version xs f.rest sender r

  exchange_of_prefix : (version : List ℕ) (xs ys : Units) → IsPrefix xs ys → IsReady role config xs → exchange_at m role config version ys ≡ exchange_at m role config version xs
  exchange_of_prefix version xs ys f r = ap (λ (q : Units). exchange_at m role config version q) f.whole_is ∙ exchange_stays m role config version xs f.rest r

  strict_of_prefix : (xs ys : Units) → IsPrefix xs ys → IsReady role config xs → strict_at role config ys ≡ strict_at role config xs
  strict_of_prefix xs ys f r = ap (λ (q : Units). strict_at role config q) f.whole_is ∙ strict_stays m role config xs f.rest r.offer

module _ (m : SuiteData) (role peer : Side) (own their : ConfigData) (ours theirs : Units) (can : CanBeReceived m role peer own their ours theirs) (units answers : Units) (speaks : SpeaksInCourse peer own their ours theirs units answers) where
  pub same_way : (b : Units) → IsPrefix b answers → switched_out b ≡ true → IsReady role own b → SameWay m role peer own their units b
  same_way b f on ready =
      let mine : IsReady peer their (payloads_in units) = speaks.keyed (switched_on b answers f on) in
      let all : IsPrefix b theirs = prefix-through b answers theirs f speaks.sent in
      let agree : HaveSameKeys m role peer own their ours theirs = can.keys (switched_on b theirs all on) in
      let begins = begins_so units own.version ours speaks.received mine.offer in
      record {
        exchange = sym (exchange_of_prefix m role own their.version b theirs all ready)
            ∙ (agree.exchange
            ∙ (exchange_of_prefix m peer their own.version (payloads_in units) ours begins.1 mine
            ∙ ap (λ (v : List ℕ). exchange_at m peer their v (payloads_in units)) (sym begins.0)));
        keys = sym (keys_of_prefix m role own their.version b theirs (other role) all ready)
            ∙ (agree.keys (other role)
            ∙ (ap (λ (sender : Side). keys_at m peer their own.version ours sender) can.is_other
            ∙ (keys_of_prefix m peer their own.version (payloads_in units) ours peer begins.1 mine
            ∙ ap (λ (v : List ℕ). keys_at m peer their v (payloads_in units) peer) (sym begins.0))));
        strict = sym (strict_of_prefix m role own b theirs all ready) ∙ (agree.strict ∙ strict_of_prefix m peer their (payloads_in units) ours begins.1 mine);
      }

  places_sent : EachPlace (IsInPlace role own) [] answers
  places_sent = each-prefix (IsInPlace role own) [] answers speaks.sent.rest (subst (λ (q : Units). EachPlace (IsInPlace role own) [] q) speaks.sent.whole_is can.places)

  pub switches_sent : EachPlace (SameSwitch role own) [] answers
  switches_sent = each-weaker (IsInPlace role own) (SameSwitch role own) (λ before payload place. place.switch) [] answers places_sent

  -- the receiver of all reads on with what the speaker writes on with
  pub keys_both : (laws : Laws) (lawful : IsLawful m) → KeysSame laws m lawful role peer own their units answers
  keys_both laws lawful = keys_all laws m lawful role peer own their units answers places_sent speaks.fits same_way

  pub all_spelled : Laws → IsLawful m → EachPlace (Spelled (parsers m role own) (spells m peer their units)) [] (their.version ∷ answers)
  all_spelled laws lawful = (
    (λ more. laws.preamble (form_of own.reading role) (others_of role) their.version _ more can.preamble),
    each_spelled laws m lawful role peer own their units [] answers tt places_sent speaks.fits same_way (keys_begin laws m lawful role peer own their units),
  )

-- a speaker with a history stands in its course
pub speaks_by : (m : SuiteData) (d : DecisionsData) (peer : Side) (own their : ConfigData) (ours theirs units answers : Units) (sizes rest h s : List ℕ) (refusal : Option Refusal) (end : EndData)
    → History (setup_with m d peer their) units sizes rest refusal answers end h s → IsPrefix units (own.version ∷ ours) → IsPrefix answers theirs → SpeaksInCourse peer own their ours theirs units answers
speaks_by m d peer own their ours theirs units answers sizes rest h s refusal end a f g = record { received = f; sent = g; fits = a.fits; keyed = a.keyed }

module _ (laws : Laws) (m : SuiteData) (d : DecisionsData) (lawful : IsLawful m) (role peer : Side) (own their : ConfigData) (ours theirs : Units) (can : CanBeReceived m role peer own their ours theirs)
    (units answers : Units) (sizes rest h s : List ℕ) (refusal : Option Refusal) (end : EndData) (a : History (setup_with m d peer their) units sizes rest refusal answers end h s)
    (f : IsPrefix units (own.version ∷ ours)) (g : IsPrefix answers theirs) where
  spelled_so : EachPlace (Spelled (parsers m role own) (spells m peer their units)) [] (their.version ∷ answers)
  spelled_so = all_spelled m role peer own their ours theirs can units answers (speaks_by m d peer own their ours theirs units answers sizes rest h s refusal end a f g) laws lawful

  pub received_prefix : (received more : List ℕ) (us : Units) (ns left : List ℕ) (r : Option Refusal) → s ≡ received ++ more → Received (parsers m role own) received us ns left r → Linked us (their.version ∷ answers) r
  received_prefix received more us ns left r e b = laws.link (parsers m role own) (spells m peer their units) (laws.parsers m role own) s received more (their.version ∷ answers) us ns left r a.sent spelled_so e b

  pub received_sizes : (received more : List ℕ) (us : Units) (ns left : List ℕ) (r : Option Refusal) → s ≡ received ++ more → Received (parsers m role own) received us ns left r → ns ≡ sizes_of (spells m peer their units) [] us
  received_sizes received more us ns left r e b = laws.sizes (parsers m role own) (spells m peer their units) (laws.parsers m role own) s received more (their.version ∷ answers) us ns left r a.sent spelled_so e b

  pub received_all : (us : Units) (ns left : List ℕ) (r : Option Refusal) → Received (parsers m role own) s us ns left r → ReceivedAll us (their.version ∷ answers) left r
  received_all us ns left r b = laws.all (parsers m role own) (spells m peer their units) (laws.parsers m role own) s (their.version ∷ answers) us ns left r a.sent spelled_so b
