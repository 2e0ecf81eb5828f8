-- How a reply that a step has come to is sent.

use Rattle.std.proofs.Common.{◌≡◌, ℕ, zero, suc, ◌+◌, ◌<◌, Bool, List, [], ◌∷◌, ◌++◌, length, map, take, Option, None, Some, refl, sym, ap, ◌∙◌, subst, append_assoc, arith}
use Rattle.std.proofs.Math.ListN.{get_or}
use Rattle.std.specs.List.{AllByRecursion}
use Rattle.std.proofs.lemmas.List.{append-nil}
use Rattle.sshmsg.specs.MessageData.{NewKeys}
use Rattle.sshmsg.specs.Written.{written_message}
use Rattle.sshpacket.specs.KeysData.{KeysData}
use Rattle.sshpacket.specs.Places.{EachPlace}
use Rattle.sshpacket.specs.Stream.{Units}
use Rattle.sshpacket.specs.Suite.{SuiteData}
use Rattle.sshcore.specs.declared.reply.Reply as reply
use Rattle.sshcore.specs.declared.reply.Switch as switch
use Rattle.sshcore.specs.Brings.{Exchanges, Gives, IsOngoing, Leaves, Moves, Offers, Stays, Drops, Works}
use Rattle.sshcore.specs.Comes.{Comes, SwitchesTo}
use Rattle.sshcore.specs.Directions.{spelled_by}
use Rattle.sshcore.specs.EndData.{EndData, Reply}
use Rattle.sshcore.specs.EndpointParts.{Setup}
use Rattle.sshcore.specs.Exchange.{keys_by}
use Rattle.sshcore.specs.History.{FitsPacket}
use Rattle.sshcore.specs.Output.{Sending, after_sending, keys_after, sending_from, sent_from, with_newkeys, with_packet}
use Rattle.sshcore.specs.PlainPayload.{IsPlainPayload}
use Rattle.sshcore.specs.ReplyView.{answers_of, replied}
use Rattle.sshcore.specs.Standing.{exchange_received}
use Rattle.sshcore.specs.StateData.{StateData}
use Rattle.sshcore.proofs.ExchangeLemmas.{newkeys_fits, newkeys_kind}
use Rattle.sshcore.proofs.GivesLemmas.{gives_from, gives_then, sent_then}
use Rattle.sshcore.proofs.OutputLemmas.{after_quiet, after_switch, sent_one}

-- These answers were sent one after another, and nothing else was done.
pub record HasSent (m : SuiteData) (seed : List ℕ) (strict : Bool) (next : KeysData) (old new : StateData) (before after : List ℕ) (answers : Units) : Type 0 where
  pub output : after ≡ before ++ sent_from m seed strict next old.sending answers
  pub kept : new ≡ record old { sending = sending_from m strict next old.sending answers }

-- one of the payloads that switch no keys
pub plain_at : {A : Type 0} (view : A → List ℕ) (items : List A) (i : ℕ) (x : A) → i < length items → x ≡ get_or items i x → AllByRecursion IsPlainPayload (map view items) → IsPlainPayload (view x)
plain_at {A} view items i x within is all = subst (λ (y : A). IsPlainPayload (view y)) (sym is) (at items i x within all)
  where
    at : (ys : List A) (j : ℕ) (d : A) → j < length ys → AllByRecursion IsPlainPayload (map view ys) → IsPlainPayload (view (get_or ys j d))
    at [] j d h a = absurd (omega (arith, h))
    at (y ∷ ys) zero d h a = a.0
    at (y ∷ ys) (suc j) d h a = at ys j d (omega (arith, h)) a.1

-- the payloads up to it, and it
pub taken_more : {A : Type 0} (view : A → List ℕ) (items : List A) (i : ℕ) (x : A) → i < length items → x ≡ get_or items i x
    → map view (take (i + 1) items) ≡ map view (take i items) ++ view x ∷ []
taken_more {A} view items i x within is = at items i x within is
  where
    at : (ys : List A) (j : ℕ) (d : A) → j < length ys → x ≡ get_or ys j d → map view (take (j + 1) ys) ≡ map view (take j ys) ++ view x ∷ []
    at [] j d h e = absurd (omega (arith, h))
    at (y ∷ ys) zero d h e = ap (λ (z : A). view z ∷ []) (sym e)
    at (y ∷ ys) (suc j) d h e = let next : suc j + 1 ≡ suc (j + 1) = omega arith in rw next (ap (λ (l : Units). view y ∷ l) (at ys j d (omega (arith, h)) e))

-- answers that switch no keys all fit
pub plain_fit : (before answers : Units) → AllByRecursion IsPlainPayload answers → EachPlace (λ (b : Units) payload. FitsPacket payload) before answers
plain_fit before [] h = tt
plain_fit before (a ∷ more) h = (h.0.fits, plain_fit (before ++ a ∷ []) more h.1)

module _ (m : SuiteData) (seed : List ℕ) (strict : Bool) (next : KeysData) where
  -- nothing is sealed after answers that switch no keys, if nothing was before
  pub clear_after : (o : Sending) (answers : Units) → AllByRecursion IsPlainPayload answers → o.keys ≡ None → (sending_from m strict next o answers).keys ≡ None
  unfolding sending_from
  clear_after o [] h clear = clear
  clear_after o (a ∷ more) h clear = clear_after (after_sending m strict next o a) more h.1
      (ap (λ (p : Sending). p.keys) (after_quiet m strict next o a h.0.quiet) ∙ ap (λ (k : Option KeysData). keys_after m k a) clear)

  -- one packet more
  pub sent_more : (o : Sending) (answers : Units) (a before between : List ℕ) → IsPlainPayload a
      → between ≡ before ++ sent_from m seed strict next o answers
      → ((between ++ spelled_by m (sending_from m strict next o answers).keys seed (sending_from m strict next o answers).number a)
      ≡ before ++ sent_from m seed strict next o (answers ++ a ∷ []))
      × (with_packet m a (sending_from m strict next o answers) ≡ sending_from m strict next o (answers ++ a ∷ []))
  sent_more o answers a before between plain e =
      let all = sent_then m seed strict next o answers (a ∷ []) in
      let one = sent_one m seed strict next (sending_from m strict next o answers) a plain.quiet in (
        ap (λ (l : List ℕ). l ++ spelled_by m (sending_from m strict next o answers).keys seed (sending_from m strict next o answers).number a) e
            ∙ (append_assoc before (sent_from m seed strict next o answers) (spelled_by m (sending_from m strict next o answers).keys seed (sending_from m strict next o answers).number a)
            ∙ ap (λ (l : List ℕ). before ++ (sent_from m seed strict next o answers ++ l)) (sym one.0)
            ∙ ap (λ (l : List ℕ). before ++ l) (sym all.0)),
        sym one.1 ∙ sym all.1,
      )

  -- nothing is sent yet
  pub none_sent : (kept : StateData) (before : List ℕ) → HasSent m seed strict next kept kept before before []
  unfolding sent_from sending_from
  none_sent kept before = record { output = sym (append-nil before); kept = refl }

  -- one more is sent
  pub one_sent : (old mid new : StateData) (before between after : List ℕ) (answers : Units) (a : List ℕ) → IsPlainPayload a → HasSent m seed strict next old mid before between answers
      → after ≡ between ++ spelled_by m mid.sending.keys seed mid.sending.number a → new ≡ record mid { sending = with_packet m a mid.sending }
      → HasSent m seed strict next old new before after (answers ++ a ∷ [])
  one_sent old mid new before between after answers a plain sent spelled counted =
      let more = sent_more old.sending answers a before between plain sent.output in
      let sending : mid.sending ≡ sending_from m strict next old.sending answers = ap (λ (k : StateData). k.sending) sent.kept in
      record {
        output = spelled ∙ ap (λ (o : Sending). between ++ spelled_by m o.keys seed o.number a) sending ∙ more.0;
        kept = counted ∙ ap (λ (k : StateData). record k { sending = with_packet m a k.sending }) sent.kept
            ∙ ap (λ (o : Sending). record old { sending = o }) more.1;
      }

  -- all are sent, which is the reply
  pub all_sent : (old new : StateData) (before after : List ℕ) (answers : Units) → AllByRecursion IsPlainPayload answers → HasSent m seed strict next old new before after answers
      → Gives m seed strict next old new before after (replied answers old.end)
  all_sent old new before after answers plain sent = record {
    ends = ap (λ (k : StateData). k.end) sent.kept;
    output = sent.output;
    sends = ap (λ (k : StateData). k.sending) sent.kept;
    fits = plain_fit [] answers plain;
  }

  -- NEWKEYS alone brings the new keys
  switch_sent : (o : Sending) → o.keys ≡ None
      → (sent_from m seed strict next o (written_message NewKeys ∷ []) ≡ spelled_by m o.keys seed o.number (written_message NewKeys) ++ [])
      × (sending_from m strict next o (written_message NewKeys ∷ []) ≡ with_newkeys strict next o)
  unfolding sent_from sending_from
  switch_sent o clear = (refl, after_switch m strict next o (written_message NewKeys) clear newkeys_kind)

  -- NEWKEYS, and what follows it with the new keys
  pub gives_switch : (old mid new : StateData) (before between after : List ℕ) (answers : Units) (end : EndData) → old.end ≡ end → old.known.strict ≡ strict → old.sending.keys ≡ None
      → between ≡ before ++ spelled_by m old.sending.keys seed old.sending.number (written_message NewKeys)
      → mid ≡ record old { sending = with_newkeys old.known.strict next old.sending }
      → Gives m seed strict next mid new between after (replied answers mid.end)
      → Gives m seed strict next old new before after (replied (written_message NewKeys ∷ answers) end)
  gives_switch old mid new before between after answers end stays is clear spelled switches more =
      let ends : mid.end ≡ end = ap (λ (k : StateData). k.end) switches ∙ stays in
      let first = switch_sent old.sending clear in
      gives_then m seed strict next old mid new before between after (written_message NewKeys ∷ []) answers end end
      (record {
        ends = ends;
        output = spelled ∙ ap (λ (l : List ℕ). before ++ l) (sym (append-nil (spelled_by m old.sending.keys seed old.sending.number (written_message NewKeys))) ∙ sym first.0);
        sends = ap (λ (k : StateData). k.sending) switches ∙ ap (λ (b : Bool). with_newkeys b next old.sending) is ∙ sym first.1;
        fits = (newkeys_fits, tt);
      })
      (subst (λ (e : EndData). Gives m seed strict next mid new between after (replied answers e)) ends more)

  -- a whole reply: its answers, and then NEWKEYS with what follows it, where keys are switched
  pub gives_reply : (old mid new : StateData) (before between after : List ℕ) (answers : Units) (s : switch.Switch) → AllByRecursion IsPlainPayload answers
      → SwitchesTo (Some s) strict next old
      → mid ≡ record old { sending = mid.sending }
      → Gives m seed strict next old mid before between (replied answers old.end)
      → (s.keys ≡ next → mid.known.strict ≡ strict → mid.sending.keys ≡ None → Gives m seed strict next mid new between after (replied (written_message NewKeys ∷ s.answers) mid.end))
      → Gives m seed strict next old new before after (replied (answers ++ (written_message NewKeys ∷ s.answers)) old.end)
  gives_reply old mid new before between after answers s plain switches keeps first second =
      let ends : mid.end ≡ old.end = ap (λ (k : StateData). k.end) keeps in
      gives_then m seed strict next old mid new before between after answers (written_message NewKeys ∷ s.answers) old.end old.end first
      (subst (λ (e : EndData). Gives m seed strict next mid new between after (replied (written_message NewKeys ∷ s.answers) e)) ends
      (second switches.0 (ap (λ (k : StateData). k.known.strict) keeps ∙ switches.1)
      (ap (λ (p : Sending). p.keys) first.sends ∙ clear_after old.sending answers plain switches.2)))

-- what is sent moves nothing else
pub moves_sent : (setup : Setup) (payload : List ℕ) (old mid : StateData) (o : Sending) → Moves setup payload old mid → Moves setup payload old (record mid { sending = o })
moves_sent setup payload old mid o (Offers peer at none offer keys form s) = Offers peer at none offer keys form (record { phase_is = s.phase_is; guess_is = s.guess_is; known_is = s.known_is })
moves_sent setup payload old mid o (Drops due other keys s) = Drops due other keys (record { phase_is = s.phase_is; guess_is = s.guess_is; known_is = s.known_is })
moves_sent setup payload old mid o (Exchanges at none number keys s) = Exchanges at none number keys (record { phase_is = s.phase_is; guess_is = s.guess_is; known_is = s.known_is })
moves_sent setup payload old mid o (Leaves none past number keys s) = Leaves none past number keys (record { phase_is = s.phase_is; guess_is = s.guess_is; known_is = s.known_is })
moves_sent setup payload old mid o (Stays none leaves keys s) = Stays none leaves keys (record { phase_is = s.phase_is; guess_is = s.guess_is; known_is = s.known_is })

-- what a step has come to is brought once it is sent
pub comes_works : (setup : Setup) (old mid new : StateData) (payload before after : List ℕ) (made : reply.Reply) (r : Reply)
    → Comes setup old mid payload made r
    → ((strict : Bool) (next : KeysData) → SwitchesTo made.switch strict next mid → Gives setup.suite setup.config.seed strict next mid new before after (replied (answers_of made) mid.end))
    → new ≡ record mid { sending = new.sending }
    → Works setup old new payload before after r
comes_works setup old mid new payload before after made r comes gives keeps =
    let next : KeysData = keys_by setup.suite old.known.algorithms (exchange_received setup.suite setup.role setup.config old.known payload) setup.role in
    let sent : Gives setup.suite setup.config.seed old.known.strict next mid new before after (replied (answers_of made) mid.end) = gives old.known.strict next comes.switches in
    record {
      gives = gives_from setup.suite setup.config.seed old.known.strict next mid old new before after r (sym comes.unsent)
          (subst (λ (x : Reply). Gives setup.suite setup.config.seed old.known.strict next mid new before after x) comes.reply_is sent);
      moves = λ goes_on. subst (λ (k : StateData). Moves setup payload old k) (sym keeps)
          (moves_sent setup payload old mid new.sending (comes.moves (subst (λ (e : EndData). IsOngoing e) (ap (λ (k : StateData). k.end) keeps) goes_on)));
    }
