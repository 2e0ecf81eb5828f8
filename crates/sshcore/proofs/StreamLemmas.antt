-- What an endpoint has sent, with more received.

use Rattle.std.proofs.Common.{◌≡◌, inl, inr, ℕ, Bool, true, false, cond, List, [], ◌∷◌, ◌++◌, None, Some, refl, sym, ap, ◌∙◌, append_assoc}
use Rattle.std.proofs.lemmas.Bool.{cases_Bool, true≢false}
use Rattle.sshneg.specs.declared.side.Side.{Side}
use Rattle.sshneg.specs.ExchangeEnd.{offer_in}
use Rattle.sshpacket.specs.KeysData.{KeysData}
use Rattle.sshpacket.specs.Places.{EachPlace, after_first, stands}
use Rattle.sshpacket.specs.Stream.{Sent, Units}
use Rattle.sshpacket.specs.Suite.{SuiteData}
use Rattle.sshpacket.specs.Written.{after_all}
use Rattle.sshpacket.proofs.Places.{first-append, flat-same, stands-append, stands-prefix}
use Rattle.sshcore.specs.declared.phase_table.Phase.TheVariants as phase
use Rattle.sshcore.specs.Before.{first_kept, is_kexinit, kept, kexinit, offered, stood, strict_at, strict_towards}
use Rattle.sshcore.specs.Counting.{is_newkeys, number_out, switched_out}
use Rattle.sshcore.specs.Directions.{payloads_in, spelled_by, spells}
use Rattle.sshcore.specs.Exchange.{exchange_at, exchange_message, keys_at}
use Rattle.sshcore.specs.History.{IsReady}
use Rattle.sshcore.specs.EndpointParts.{ConfigData}
use Rattle.sshcore.specs.Phases.{leaving}
use Rattle.sshcore.proofs.KnownLemmas.{exchange_by_payloads, keys_by_payloads}

-- a KEXINIT and an exchange message that have stood stay the first
kexinit_stays : (before more : Units) → offered before ≡ true → kexinit (before ++ more) ≡ kexinit before
unfolding offered kexinit
kexinit_stays before more is = first-append [] is_kexinit [] before more ∙ rw is refl

message_stays : (role : Side) (config : ConfigData) (before more : Units) → stood role config.offer (leaving role phase.Exchange) before ≡ true
    → exchange_message role config (before ++ more) ≡ exchange_message role config before
unfolding stood first_kept
message_stays role config before more is = first-append [] (kept role config.offer (leaving role phase.Exchange)) [] before more ∙ rw is refl

offered_more : (before more : Units) → offered before ≡ true → offered (before ++ more) ≡ true
unfolding offered
offered_more before more is = stands-append is_kexinit [] before more ∙ rw is refl

stood_more : (role : Side) (config : ConfigData) (k : ℕ) (before more : Units) → stood role config.offer k before ≡ true → stood role config.offer k (before ++ more) ≡ true
unfolding stood
stood_more role config k before more is = stands-append (kept role config.offer k) [] before more ∙ rw is refl

module _ (role : Side) (config : ConfigData) where
  pub ready_more : (before more : Units) → IsReady role config before → IsReady role config (before ++ more)
  ready_more before more r = record {
    offer = offered_more before more r.offer;
    exchange = stood_more role config (leaving role phase.Exchange) before more r.exchange;
  }

  -- an endpoint that is ready has received a version
  pub ready_units : (units more : Units) → IsReady role config (payloads_in units) → IsReady role config (payloads_in (units ++ more))
  unfolding offered
  ready_units [] more r = absurd (true≢false (sym r.offer))
  ready_units (v ∷ us) more r = ready_more us more r

-- before the key switch strictness doesn't matter
pub unready : (strict other_strict : Bool) (sent : Units) → switched_out sent ≡ false → number_out strict sent ≡ number_out other_strict sent
unfolding number_out
unready strict other_strict sent none = rw none refl

module _ (m : SuiteData) (role : Side) (config : ConfigData) where
  -- the keys and the strictness of an endpoint that is ready stay, whatever is received afterwards
  pub keys_stay : (version : List ℕ) (before more : Units) (sender : Side) → IsReady role config before → keys_at m role config version (before ++ more) sender ≡ keys_at m role config version before sender
  keys_stay version before more sender r =
      ap (λ (k : List ℕ). keys_by_payloads m role config version sender k (exchange_message role config (before ++ more))) (kexinit_stays before more r.offer)
      ∙ ap (λ (l : List ℕ). keys_by_payloads m role config version sender (kexinit before) l) (message_stays role config before more r.exchange)

  pub exchange_stays : (version : List ℕ) (before more : Units) → IsReady role config before → exchange_at m role config version (before ++ more) ≡ exchange_at m role config version before
  exchange_stays version before more r =
      ap (λ (k : List ℕ). exchange_by_payloads m role config version k (exchange_message role config (before ++ more))) (kexinit_stays before more r.offer)
      ∙ ap (λ (l : List ℕ). exchange_by_payloads m role config version (kexinit before) l) (message_stays role config before more r.exchange)

  pub strict_stays : (before more : Units) → offered before ≡ true → strict_at role config (before ++ more) ≡ strict_at role config before
  strict_stays before more is = ap (λ (k : List ℕ). strict_towards role config.strict (offer_in k)) (kexinit_stays before more is)

  pub ready_some : (units : Units) → IsReady role config (payloads_in units) → (v : List ℕ) × (us : Units) × (units ≡ v ∷ us)
  unfolding offered
  ready_some [] r = absurd (true≢false (sym r.offer))
  ready_some (v ∷ us) r = (v, us, refl)

  -- what was sent is spelled as before, whatever is received afterwards
  spelled_stays : (units more sent : Units) (payload : List ℕ) → (switched_out sent ≡ true → IsReady role config (payloads_in units))
      → spells m role config units (config.version ∷ sent) payload ≡ spells m role config (units ++ more) (config.version ∷ sent) payload
  spelled_stays units more sent payload keyed = elim (cases_Bool (switched_out sent)) [
    | inl on ↦ at units (ready_some units (keyed on)) (keyed on) on
    | inr off ↦ rw off (ap (λ n. spelled_by m None config.seed n payload) (unready (strict_at role config (payloads_in units)) (strict_at role config (payloads_in (units ++ more))) sent off))
  ]
    where
      at : (us : Units) → (v : List ℕ) × (vs : Units) × (us ≡ v ∷ vs) → IsReady role config (payloads_in us) → switched_out sent ≡ true
          → spells m role config us (config.version ∷ sent) payload ≡ spells m role config (us ++ more) (config.version ∷ sent) payload
      at [] (v, vs, e) r on = absurd cc
      at (v ∷ vs) w r on = rw on (
          ap (λ (k : KeysData). spelled_by m (Some (after_all m k (after_first is_newkeys [] sent))) config.seed (number_out (strict_at role config vs) sent) payload) (sym (keys_stay v vs more role r))
          ∙ ap (λ (b : Bool). spelled_by m (Some (after_all m (keys_at m role config v (vs ++ more) role) (after_first is_newkeys [] sent))) config.seed (number_out b sent) payload) (sym (strict_stays vs more r.offer)))

  each_stays : (units more before us : Units) → (switched_out (before ++ us) ≡ true → IsReady role config (payloads_in units))
      → EachPlace (λ b u. spells m role config units b u ≡ spells m role config (units ++ more) b u) (config.version ∷ before) us
  unfolding switched_out
  each_stays units more before [] keyed = tt
  each_stays units more before (u ∷ us) keyed = (
    spelled_stays units more before u (λ on. keyed (stands-prefix is_newkeys before (before ++ u ∷ us) (record { rest = u ∷ us; whole_is = refl }) on)),
    each_stays units more (before ++ u ∷ []) us (λ on. keyed (ap switched_out (sym (append_assoc before (u ∷ []) us)) ∙ on)),
  )

  pub sent_stays : (units more answers : Units) (s : List ℕ) → (switched_out answers ≡ true → IsReady role config (payloads_in units))
      → Sent (spells m role config units) s (config.version ∷ answers) → Sent (spells m role config (units ++ more)) s (config.version ∷ answers)
  sent_stays units more answers s keyed sent = record {
    spelled = sent.spelled ∙ flat-same (spells m role config units) (spells m role config (units ++ more)) [] (config.version ∷ answers) (refl, each_stays units more [] answers keyed);
  }

-- whether NEWKEYS was sent, of a list in two parts
pub newkeys_anywhere : (b c us : Units) → stands is_newkeys b us ≡ stands is_newkeys c us
newkeys_anywhere b c [] = refl
newkeys_anywhere b c (u ∷ us) = ap (λ (x : Bool). cond (is_newkeys [] u) true x) (newkeys_anywhere (b ++ u ∷ []) (c ++ u ∷ []) us)

pub switched_append : (sent more : Units) → switched_out (sent ++ more) ≡ cond (switched_out sent) true (switched_out more)
unfolding switched_out
switched_append sent more = stands-append is_newkeys [] sent more ∙ ap (λ (x : Bool). cond (stands is_newkeys [] sent) true x) (newkeys_anywhere sent [] more)
