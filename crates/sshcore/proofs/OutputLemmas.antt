-- What an endpoint sends packets with, with more received and with more sent.

use Rattle.std.proofs.Common.{◌≡◌, inl, inr, ℕ, ◌+◌, ◌==◌, Bool, true, false, cond, List, [], ◌∷◌, ◌++◌, Option, None, Some, refl, sym, ap, ◌∙◌, subst, append_assoc}
use Rattle.std.specs.Prelude.{◌%◌, ◌^◌}
use Rattle.std.proofs.lemmas.Bool.{cases_Bool}
use Rattle.std.proofs.lemmas.List.{append-nil}
use Rattle.sshmsg.specs.Numbers.{message_number}
use Rattle.sshneg.specs.declared.side.Side.{Side}
use Rattle.sshpacket.specs.KeysData.{KeysData}
use Rattle.sshpacket.specs.Places.{EachPlace, after_first, flat_places}
use Rattle.sshpacket.specs.Stream.{Units}
use Rattle.sshpacket.specs.Suite.{SuiteData}
use Rattle.sshpacket.specs.Written.{after_all, after_sealed}
use Rattle.sshpacket.proofs.Places.{after-push}
use Rattle.sshcore.specs.Before.{strict_at}
use Rattle.sshcore.specs.Counting.{is_newkeys, number_out, switched_out}
use Rattle.sshcore.specs.Directions.{keys_out, payloads_in, spelled_by, spells, version_in}
use Rattle.sshcore.specs.Exchange.{keys_at}
use Rattle.sshcore.specs.History.{IsReady}
use Rattle.sshcore.specs.Output.{Sending, Speaks, after_sending, keys_after, with_packet, sent_from, sending_by, sending_from, with_newkeys}
use Rattle.sshcore.specs.EndpointParts.{ConfigData}
use Rattle.sshcore.proofs.SendingLemmas.{number_next, switched_push}
use Rattle.sshcore.proofs.StreamLemmas.{keys_stay, ready_some, strict_stays, unready}

module _ (m : SuiteData) (strict : Bool) (next : KeysData) (o : Sending) (a : List ℕ) where
  -- after a payload that is no NEWKEYS one packet more is counted, whatever the keys are
  pub after_quiet : (message_number a == 21) ≡ false → after_sending m strict next o a ≡ with_packet m a o
  after_quiet none = ap (λ (b : Bool). sending_by m o.keys b strict next a o) none ∙ at o.keys
    where
      at : (k : Option KeysData) → sending_by m k false strict next a o ≡ with_packet m a o
      at None = refl
      at (Some k) = refl

  -- and so it is where keys are used already
  pub after_keyed : (k : KeysData) → o.keys ≡ Some k → after_sending m strict next o a ≡ with_packet m a o
  after_keyed k e = ap (λ (x : Option KeysData). sending_by m x (message_number a == 21) strict next a o) e

  -- the first NEWKEYS brings keys
  pub after_switch : o.keys ≡ None → (message_number a == 21) ≡ true → after_sending m strict next o a ≡ with_newkeys strict next o
  after_switch e on =
      ap (λ (x : Option KeysData). sending_by m x (message_number a == 21) strict next a o) e
      ∙ ap (λ (b : Bool). sending_by m None b strict next a o) on

module _ (m : SuiteData) (seed : List ℕ) (strict : Bool) (next : KeysData) (o : Sending) where
  -- a payload that is no NEWKEYS, alone
  pub sent_one : (a : List ℕ) → (message_number a == 21) ≡ false
      → (sent_from m seed strict next o (a ∷ []) ≡ spelled_by m o.keys seed o.number a) × (sending_from m strict next o (a ∷ []) ≡ with_packet m a o)
  unfolding sent_from sending_from
  sent_one a none = (append-nil (spelled_by m o.keys seed o.number a), after_quiet m strict next o a none)

-- what was sent since the key switch, with one payload more
later_on : (sent : Units) (a : List ℕ) → switched_out sent ≡ true → after_first is_newkeys [] (sent ++ a ∷ []) ≡ after_first is_newkeys [] sent ++ a ∷ []
unfolding switched_out
later_on sent a e = after-push is_newkeys [] sent a ∙ rw e refl

later_off : (sent : Units) (a : List ℕ) → switched_out sent ≡ false → after_first is_newkeys [] (sent ++ a ∷ []) ≡ []
unfolding switched_out
later_off sent a e = after-push is_newkeys [] sent a ∙ rw e refl

-- the keys after one payload more, after others
all_push : (m : SuiteData) (ps : Units) (keys : KeysData) (a : List ℕ) → after_all m keys (ps ++ a ∷ []) ≡ after_sealed m (after_all m keys ps) a
unfolding after_all
all_push m [] keys a = refl
all_push m (p ∷ ps) keys a = all_push m ps (after_sealed m keys p) a

module _ (m : SuiteData) (role : Side) (config : ConfigData) where
  -- what was sent goes on with the same keys and number, whatever is received afterwards
  pub speaks_received : (units more sent : Units) (o : Sending) → (switched_out sent ≡ true → IsReady role config (payloads_in units))
      → Speaks m role config units sent o → Speaks m role config (units ++ more) sent o
  speaks_received units more sent o keyed s = elim (cases_Bool (switched_out sent)) [
    | inl on ↦ at units (ready_some m role config units (keyed on)) (keyed on) on s
    | inr off ↦ record {
      keys = s.keys ∙ rw off refl;
      number = s.number ∙ unready (strict_at role config (payloads_in units)) (strict_at role config (payloads_in (units ++ more))) sent off;
    }
  ]
    where
      at : (us : Units) → (v : List ℕ) × (vs : Units) × (us ≡ v ∷ vs) → IsReady role config (payloads_in us) → switched_out sent ≡ true
          → Speaks m role config us sent o → Speaks m role config (us ++ more) sent o
      at [] (v, vs, e) r on s = absurd cc
      at (v ∷ vs) w r on s = record {
        keys = s.keys ∙ rw on (ap (λ (k : KeysData). Some (after_all m k (after_first is_newkeys [] sent))) (sym (keys_stay m role config v vs more role r)));
        number = s.number ∙ ap (λ (b : Bool). number_out b sent) (sym (strict_stays m role config vs more r.offer));
      }

  -- the keys after one payload more
  module _ (units : Units) where
    abbrev pub exchanged : KeysData
    exchanged = keys_at m role config (version_in units) (payloads_in units) role

    pub keys_on : (sent : Units) (a : List ℕ) → switched_out sent ≡ true → keys_out m role config units (sent ++ a ∷ []) ≡ keys_after m (keys_out m role config units sent) a
    keys_on sent a e =
        let now : switched_out (sent ++ a ∷ []) ≡ true = switched_push sent a ∙ rw e refl in
        rw (now, e) (ap (λ (ps : Units). Some (after_all m exchanged ps)) (later_on sent a e) ∙ ap (λ (k : KeysData). Some k) (all_push m (after_first is_newkeys [] sent) exchanged a))

    pub keys_first : (sent : Units) (a : List ℕ) → switched_out sent ≡ false → (message_number a == 21) ≡ true → keys_out m role config units (sent ++ a ∷ []) ≡ Some exchanged
    unfolding after_all
    keys_first sent a e on =
        let now : switched_out (sent ++ a ∷ []) ≡ true = switched_push sent a ∙ rw (e, on) refl in
        rw now (ap (λ (ps : Units). Some (after_all m exchanged ps)) (later_off sent a e))

    keys_none : (sent : Units) (a : List ℕ) → switched_out sent ≡ false → (message_number a == 21) ≡ false → keys_out m role config units (sent ++ a ∷ []) ≡ None
    keys_none sent a e none = let now : switched_out (sent ++ a ∷ []) ≡ false = switched_push sent a ∙ rw (e, none) refl in rw now refl

  module _ (units : Units) where
    -- what is kept spells the next payload
    spelled_one : (sent : Units) (o : Sending) (a : List ℕ) → Speaks m role config units sent o
        → spelled_by m o.keys config.seed o.number a ≡ spells m role config units (config.version ∷ sent) a
    spelled_one sent o a s =
        ap (λ (k : Option KeysData). spelled_by m k config.seed o.number a) s.keys
        ∙ ap (λ (n : ℕ). spelled_by m (keys_out m role config units sent) config.seed n a) s.number

    -- one payload more that is no NEWKEYS
    speaks_quiet : (sent : Units) (o : Sending) (a : List ℕ) → (message_number a == 21) ≡ false → Speaks m role config units sent o → Speaks m role config units (sent ++ a ∷ []) (with_packet m a o)
    speaks_quiet sent o a none s = at (switched_out sent) refl
      where
        at : (b : Bool) → switched_out sent ≡ b → Speaks m role config units (sent ++ a ∷ []) (with_packet m a o)
        at b e =
            record {
              keys = ap (λ (k : Option KeysData). keys_after m k a) s.keys ∙ sym (next b e);
              number = ap (λ (n : ℕ). (n + 1) % 2 ^ 32) s.number
                  ∙ sym (number_next (strict_at role config (payloads_in units)) sent a ∙ rw (e, none) (either b));
            }
          where
            next : (b : Bool) → switched_out sent ≡ b → keys_out m role config units (sent ++ a ∷ []) ≡ keys_after m (keys_out m role config units sent) a
            next true e = keys_on units sent a e
            next false e = keys_none units sent a e none ∙ rw e refl

            either : (b : Bool) → cond b ((number_out (strict_at role config (payloads_in units)) sent + 1) % 2 ^ 32) ((number_out (strict_at role config (payloads_in units)) sent + 1) % 2 ^ 32)
                ≡ (number_out (strict_at role config (payloads_in units)) sent + 1) % 2 ^ 32
            either true = refl
            either false = refl

    -- one payload more
    speaks_one : (sent : Units) (o : Sending) (a : List ℕ) → Speaks m role config units sent o
        → Speaks m role config units (sent ++ a ∷ []) (after_sending m (strict_at role config (payloads_in units)) (keys_at m role config (version_in units) (payloads_in units) role) o a)
    speaks_one sent o a s = at (switched_out sent) (message_number a == 21) refl refl
      where
        strict : Bool
        strict = strict_at role config (payloads_in units)

        next : KeysData
        next = keys_at m role config (version_in units) (payloads_in units) role

        at : (b c : Bool) → switched_out sent ≡ b → (message_number a == 21) ≡ c → Speaks m role config units (sent ++ a ∷ []) (after_sending m strict next o a)
        at b false e none = subst (λ (p : Sending). Speaks m role config units (sent ++ a ∷ []) p) (sym (after_quiet m strict next o a none)) (speaks_quiet sent o a none s)
        at true true e on =
            let kept : KeysData = after_all m next (after_first is_newkeys [] sent) in
            let has : o.keys ≡ Some kept = s.keys ∙ rw e refl in
            subst (λ (p : Sending). Speaks m role config units (sent ++ a ∷ []) p) (sym (after_keyed m strict next o a kept has)) (record {
              keys = ap (λ (k : Option KeysData). keys_after m k a) s.keys ∙ sym (keys_on units sent a e);
              number = ap (λ (n : ℕ). (n + 1) % 2 ^ 32) s.number ∙ sym (number_next strict sent a ∙ rw e refl);
            })
        at false true e on =
            let clear : o.keys ≡ None = s.keys ∙ rw e refl in
            subst (λ (p : Sending). Speaks m role config units (sent ++ a ∷ []) p) (sym (after_switch m strict next o a clear on)) (record {
              keys = sym (keys_first units sent a e on);
              number = ap (λ (n : ℕ). cond strict 0 ((n + 1) % 2 ^ 32)) s.number ∙ sym (number_next strict sent a ∙ rw (e, on) refl);
            })

    -- what is sent further is spelled after what was sent, and what is kept goes on
    pub sent_is : (strict : Bool) (next : KeysData) (sent answers : Units) (o : Sending)
        → strict ≡ strict_at role config (payloads_in units) → next ≡ keys_at m role config (version_in units) (payloads_in units) role → Speaks m role config units sent o
        → (sent_from m config.seed strict next o answers ≡ flat_places (spells m role config units) (config.version ∷ sent) answers)
        × Speaks m role config units (sent ++ answers) (sending_from m strict next o answers)
    unfolding sent_from sending_from
    sent_is strict next sent [] o e f s = (refl, subst (λ (l : Units). Speaks m role config units l o) (sym (append-nil sent)) s)
    sent_is strict next sent (a ∷ more) o e f s =
        let one : Speaks m role config units (sent ++ a ∷ []) (after_sending m strict next o a) = rw (e, f) (speaks_one sent o a s) in
        let after = sent_is strict next (sent ++ a ∷ []) more (after_sending m strict next o a) e f one in (
          ap (λ (l : List ℕ). l ++ sent_from m config.seed strict next (after_sending m strict next o a) more) (spelled_one sent o a s)
              ∙ ap (λ (l : List ℕ). spells m role config units (config.version ∷ sent) a ++ l) after.0,
          subst (λ (l : Units). Speaks m role config units l (sending_from m strict next (after_sending m strict next o a) more)) (append_assoc sent (a ∷ []) more) after.1,
        )

    -- the same where no NEWKEYS is sent, whatever keys and strictness would come with it
    quiet_at : (strict : Bool) (next : KeysData) (before sent answers : Units) (o : Sending)
        → EachPlace (λ before a. (message_number a == 21) ≡ false) before answers → Speaks m role config units sent o
        → (sent_from m config.seed strict next o answers ≡ flat_places (spells m role config units) (config.version ∷ sent) answers)
        × Speaks m role config units (sent ++ answers) (sending_from m strict next o answers)
    unfolding sent_from sending_from
    quiet_at strict next before sent [] o none s = (refl, subst (λ (l : Units). Speaks m role config units l o) (sym (append-nil sent)) s)
    quiet_at strict next before sent (a ∷ more) o none s =
        let one : Speaks m role config units (sent ++ a ∷ []) (after_sending m strict next o a) =
        subst (λ (p : Sending). Speaks m role config units (sent ++ a ∷ []) p) (sym (after_quiet m strict next o a none.0)) (speaks_quiet sent o a none.0 s) in
        let after = quiet_at strict next (before ++ a ∷ []) (sent ++ a ∷ []) more (after_sending m strict next o a) none.1 one in (
          ap (λ (l : List ℕ). l ++ sent_from m config.seed strict next (after_sending m strict next o a) more) (spelled_one sent o a s)
              ∙ ap (λ (l : List ℕ). spells m role config units (config.version ∷ sent) a ++ l) after.0,
          subst (λ (l : Units). Speaks m role config units l (sending_from m strict next (after_sending m strict next o a) more)) (append_assoc sent (a ∷ []) more) after.1,
        )

    pub sent_quiet : (strict : Bool) (next : KeysData) (sent answers : Units) (o : Sending)
        → EachPlace (λ before a. (message_number a == 21) ≡ false) [] answers → Speaks m role config units sent o
        → (sent_from m config.seed strict next o answers ≡ flat_places (spells m role config units) (config.version ∷ sent) answers)
        × Speaks m role config units (sent ++ answers) (sending_from m strict next o answers)
    sent_quiet strict next sent answers o none s = quiet_at strict next [] sent answers o none s
