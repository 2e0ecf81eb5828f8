-- What accepted configs write is read again.

use Rattle.std.proofs.Common.{◌≡◌, ◌≢◌, ◌⊎◌, inl, inr, ℕ, ◌+◌, ◌≤◌, Bool, true, false, List, [], ◌∷◌, length, slice_get, take, Option, Some, Ok, refl, sym, subst, arith}
use Rattle.std.specs.List.{AllByRecursion}
use Rattle.std.proofs.lemmas.Bool.Decides.{nat_tests}
use Rattle.std.specs.Prelude.{Contains, IfSome, codes}
use Rattle.std.proofs.lemmas.Bool.{cases_Bool, true≢false}
use Rattle.std.proofs.lemmas.Slice.Eq.{bytes_eq-Decides}
use Rattle.std.specs.Str.{IsUtf8, bytes_eq}
use Rattle.sshwire.specs.declared.share_form.ShareForm.{ShareForm}
use Rattle.sshwire.specs.declared.share_form.ShareForm.TheVariants.{Hybrid, Mpint, OctetString}
use Rattle.sshwire.specs.Types.{IsBytes, IsName}
use Rattle.sshwire.proofs.NameLemmas.{name_tested}
use Rattle.sshmsg.specs.MessageData.{KexInit, MessageData, UserauthBanner, UserauthFailure, UserauthPkOk, UserauthRequest, method_name}
use Rattle.sshmsg.specs.Messages.{message_in}
use Rattle.sshmsg.specs.Written.{IsMessageOf, IsMethod, IsNameList, IsNumber, IsOffer, IsString, IsWellFormed, written_message}
use Rattle.sshneg.specs.declared.choice.NoCommon.TheVariants as field
use Rattle.sshneg.specs.declared.side.Side.{Side}
use Rattle.sshneg.specs.declared.side.Side.TheVariants.{Client, Server}
use Rattle.sshneg.specs.ChoiceReadings.{choice, is_in}
use Rattle.sshneg.specs.Derivations.{signed_text}
use Rattle.sshneg.specs.Fields.{AlgorithmsData}
use Rattle.sshneg.specs.Markers.{is_marker, strict_marker}
use Rattle.sshneg.proofs.ChoiceLaws.{choice_sound}
use Rattle.sshneg.proofs.ChoicePlaces.{well}
use Rattle.sshneg.proofs.FirstLemmas.{contains_in}
use Rattle.sshpacket.specs.Shares.{IsShare}
use Rattle.sshpacket.specs.Suite.{Agrees, IsAgreeing, IsLawful, ResponseData, SuiteData, has_number_shares, shares_number}
use Rattle.sshcore.specs.declared.config_fault.ConfigFault.TheVariants as fault
use Rattle.sshcore.specs.ConfigParts.{AttemptData, ByKey, ByNothing, ByPassword, ClientData, CredentialData, ServerData, client_offer, server_offer}
use Rattle.sshcore.specs.ConfigRules.{HasShortPassword, IsClient, IsNamed, IsServer, IsUnmarked}
use Rattle.sshcore.specs.Counting.{switched_out}
use Rattle.sshcore.specs.Exchange.{answer_or, secret_of}
use Rattle.sshcore.specs.EndpointParts.{DecisionsData, config_of_client, config_of_server}
use Rattle.sshcore.specs.Plan.{after_query, unasked}
use Rattle.sshcore.specs.Work.{init_in, reply_in}
use Rattle.sshworld.specs.Agreement.{answer_of_server, host_key_of_server, session_between}
use Rattle.sshworld.specs.Follows.{BothFollow}
use Rattle.sshworld.specs.Held.{IsHeld, held_method}
use Rattle.sshworld.specs.Judging.{is_proved}
use Rattle.sshworld.specs.Offered.{offered}
use Rattle.sshworld.specs.Placed.{BothInPlace, HaveSameKeys, sent_by_client, sent_by_server}
use Rattle.sshworld.specs.Compatible.{AreCompatible, CanSign}
use Rattle.sshworld.specs.Wordings.{answer_by, signature_of_server, wording_of}
use Rattle.sshworld.proofs.BothFollowLemmas.{both_follow}
use Rattle.sshworld.proofs.KeysLemmas.{same_keys}
use Rattle.sshworld.proofs.OfferedLemmas.{offered_each}
use Rattle.sshworld.proofs.PlacedLemmas.{both_placed}
use Rattle.sshworld.proofs.Readable.{AreOffersRead, AreSound, HasShortBlob, IsRead, IsTestedName}

-- the laws of the crates below that this rests on
pub record Below (m : SuiteData) : Type 0 where
  pub again : (form : ShareForm) (x : MessageData) → IsMessageOf form x → IsWellFormed x → message_in form (written_message x) ≡ Ok x
  pub share : (kex a : List ℕ) → length a ≡ 32 → IsBytes a → IsShare (has_number_shares (m.share_form kex)) (m.share kex a)
  pub response : (kex a peer : List ℕ) (r : ResponseData) → length a ≡ 32 → IsBytes a → IsBytes peer → m.respond kex a peer ≡ Some r
      → IsShare (has_number_shares (m.share_form kex)) r.share × IsShare (shares_number (m.share_form kex)) r.shared
  pub client_written : (c : ClientData) → IsClient c → IsOffer (client_offer c)
  pub server_written : (s : ServerData) → IsServer s → IsOffer (server_offer s)
  pub client_unmarked : (c : ClientData) → IsClient c → (role : Side) → Contains c.side.kex_algorithms (strict_marker role) → ⊥
  pub server_unmarked : (s : ServerData) → IsServer s → (role : Side) → Contains s.side.kex_algorithms (strict_marker role) → ⊥

octets : OctetString ≢ Mpint
octets e = cc (e)

hybrid : Hybrid ≢ Mpint
hybrid e = cc (e)

init_of_form : (f : ShareForm) (e : List ℕ) → IsMessageOf f (init_in f e)
init_of_form Mpint e = refl
init_of_form OctetString e = octets
init_of_form Hybrid e = hybrid

reply_of_form : (f : ShareForm) (k e sign : List ℕ) → IsMessageOf f (reply_in f k e sign)
reply_of_form Mpint k e sign = refl
reply_of_form OctetString k e sign = octets
reply_of_form Hybrid k e sign = hybrid

number : (e : List ℕ) → IsShare true e → IsNumber e
number e share = record { bytes = share.bytes; shortest = share.shortest refl; short = omega (arith, share.short) }

init_well : (f : ShareForm) (e : List ℕ) → IsShare (has_number_shares f) e → IsWellFormed (init_in f e)
init_well Mpint e share = (number e share, tt)
init_well OctetString e share = (omega (arith, share.short), tt)
init_well Hybrid e share = (omega (arith, share.short), tt)

reply_well : (f : ShareForm) (k e sign : List ℕ) → IsShare (has_number_shares f) e → length k ≤ 8192 → length sign ≤ 8192 → IsWellFormed (reply_in f k e sign)
reply_well Mpint k e sign share blob signed = (omega (arith, blob), (number e share, (omega (arith, signed), tt)))
reply_well OctetString k e sign share blob signed = (omega (arith, blob), (omega (arith, share.short), (omega (arith, signed), tt)))
reply_well Hybrid k e sign share blob signed = (omega (arith, blob), (omega (arith, share.short), (omega (arith, signed), tt)))

not_in : (names : List (List ℕ)) (name : List ℕ) → (Contains names name → ⊥) → is_in names name ≡ false
not_in names name none = by (is_in names name) refl
  where
    by : (b : Bool) → is_in names name ≡ b → is_in names name ≡ false
    by true e = absurd (none (contains_in names name e))
    by false e = e

-- where no name is a marker none asks for extensions
unasking : (kex : List (List ℕ)) → AllByRecursion IsUnmarked kex → is_in kex (codes "ext-info-c") ≡ false
unasking [] all = refl
unasking (x ∷ kex) all = elim (cases_Bool (bytes_eq (codes "ext-info-c") x)) [
  | inl e ↦ absurd (true≢false (subst (λ (n : List ℕ). is_marker n ≡ false) (sym ((bytes_eq-Decides (codes "ext-info-c") x).0 e)) all.0))
  | inr e ↦ rw e (unasking kex all.1)
]

module _ (m : SuiteData) (law : IsLawful m) (below : Below m) (c : ClientData) (s : ServerData) (client : IsClient c) (server : IsServer s) where
  pub offers_read : AreOffersRead c s
  offers_read = record {
    client = λ form. below.again form (KexInit (client_offer c)) tt (below.client_written c client);
    server = λ form. below.again form (KexInit (server_offer s)) tt (below.server_written s server);
  }

  of_plan : (d : DecisionsData) (Q : AttemptData → Type 0) → ((r : AttemptData) → Q r → Q (after_query r)) → AllByRecursion Q c.plan
      → (i : ℕ) (r : AttemptData) → slice_get (offered m d s c.plan) i ≡ Some r → Q r
  of_plan d Q itself all i r e = offered_each m d s Q itself c.plan all i r e

  named_by : (p : CredentialData) → IsNamed p → IsTestedName p
  named_by ByNothing t = tt
  named_by (ByPassword password) t = tt
  named_by (ByKey algorithm secret ask) t = name_tested algorithm t

  -- an attempt after its query has what it had
  unasked_named : (p : CredentialData) → IsNamed p → IsNamed (unasked p)
  unasked_named ByNothing t = t
  unasked_named (ByPassword password) t = t
  unasked_named (ByKey algorithm secret ask) t = t

  unasked_short : (p : CredentialData) → HasShortPassword p → HasShortPassword (unasked p)
  unasked_short ByNothing t = t
  unasked_short (ByPassword password) t = t
  unasked_short (ByKey algorithm secret ask) t = t

  each_named : (plan : List AttemptData) → AllByRecursion (λ (a : AttemptData). IsName a.service × IsNamed a.proving) plan → AllByRecursion (λ (a : AttemptData). IsTestedName a.proving) plan
  each_named [] all = tt
  each_named (x ∷ later) all = (named_by x.proving all.0.1, each_named later all.1)

  pub sound : AreSound c s
  sound = record {
    client_unmarked = not_in c.side.kex_algorithms (strict_marker Client) (below.client_unmarked c client Client);
    client_unasking = unasking c.side.kex_algorithms (client.keeps fault.Name).1;
    server_unmarked = not_in s.side.kex_algorithms (strict_marker Server) (below.server_unmarked s server Server);
    named = each_named c.plan (client.keeps fault.Name).2;
    required = (server.keeps fault.Name).3;
    tries = (server.keeps fault.Tries).0;
  }

  client_share : (kex : List ℕ) → IsShare (has_number_shares (m.share_form kex)) (m.share kex c.side.random)
  client_share kex = below.share kex c.side.random (client.keeps fault.Random).random client.bytes.random

  server_share : (kex : List ℕ) → Agrees m kex c.side.random s.side.random → IsShare (has_number_shares (m.share_form kex)) (answer_of_server m c s kex).share
  server_share kex g =
      let answered = below.response kex s.side.random (m.share kex c.side.random) g.answer (server.keeps fault.Random).random server.bytes.random (client_share kex).bytes g.responds in
      subst (λ (o : Option ResponseData). IsShare (has_number_shares (m.share_form kex)) (answer_or o).share) (sym g.responds) answered.0

  method_well : (session : List ℕ) (r : AttemptData) (p : CredentialData) → IsNamed p → HasShortPassword p
      → IsString (method_name (held_method m session r.user r.service p)) × IsMethod (held_method m session r.user r.service p)
  method_well session r ByNothing named short = (omega arith, tt)
  method_well session r (ByPassword password) named short = (omega arith, omega (arith, short))
  method_well session r (ByKey algorithm secret true) named short =
      (omega arith, (omega (arith, named.short), omega (arith, law.blob_high algorithm secret named)))
  method_well session r (ByKey algorithm secret false) named short =
      (omega arith, (omega (arith, named.short), omega (arith, law.blob_high algorithm secret named), omega (arith, law.sign_high algorithm secret (signed_text session r.user r.service algorithm (m.blob algorithm secret)) named)))

  methods_well : IsNameList s.methods
  methods_well = record { each = (server.keeps fault.Name).0.1.1.1.1.1.1.1.0; short = omega (arith, (server.keeps fault.ListTooLong).1.1.1.1.1.1.1.0) }

  banner_short : (text : List ℕ) → s.banner ≡ Some text → length text ≤ 8192
  banner_short text has = subst (λ (b : Option (List ℕ)). IfSome b (λ text. length text ≤ 8192)) has (server.keeps fault.Blob).1

  pub reads_all : (d : DecisionsData) → AreCompatible m d c s → (a : AlgorithmsData) → choice m (client_offer c) (server_offer s) ≡ Ok a → IsRead m d c s a
  reads_all d compatible a chosen =
      let name : IsName a.host_key = well m (client_offer c) (server_offer s) a (choice_sound m (client_offer c) (server_offer s) a chosen) field.HostKey (below.client_written c client).server_host_key_algorithms.each in
      record {
        init = below.again (m.share_form a.kex) (init_in (m.share_form a.kex) (m.share a.kex c.side.random)) (init_of_form (m.share_form a.kex) (m.share a.kex c.side.random)) (init_well (m.share_form a.kex) (m.share a.kex c.side.random) (client_share a.kex));
        reply = below.again (m.share_form a.kex) (reply_in (m.share_form a.kex) (host_key_of_server m s a.host_key) (answer_of_server m c s a.kex).share (signature_of_server m c s a))
            (reply_of_form (m.share_form a.kex) (host_key_of_server m s a.host_key) (answer_of_server m c s a.kex).share (signature_of_server m c s a))
            (reply_well (m.share_form a.kex) (host_key_of_server m s a.host_key) (answer_of_server m c s a.kex).share (signature_of_server m c s a) (server_share a.kex (compatible.exchange a chosen))
            (law.blob_high a.host_key (secret_of s.host_keys a.host_key) name) (law.sign_high a.host_key (secret_of s.host_keys a.host_key) (session_between m c s a) name));
        banner = λ text has form. below.again form (UserauthBanner text []) tt (omega (arith, banner_short text has), (omega arith, tt));
        answers = λ i r e form. answer_read form r.proving (is_proved m d s (length (take i (offered m d s c.plan)) + 1) r) (named_at i r e).1;
        short = λ i r e. blob_short r.proving (named_at i r e).1;
        requests = λ i r e form.
            let named = named_at i r e in
            let w = method_well (session_between m c s a) r r.proving named.1 (of_plan d (λ (a : AttemptData). HasShortPassword a.proving) (λ r h. unasked_short r.proving h) (client.keeps fault.Secret) i r e) in
            below.again form (UserauthRequest r.user r.service (held_method m (session_between m c s a) r.user r.service r.proving)) tt
            ((of_plan d (λ (a : AttemptData). IsUtf8 a.user) (λ r h. h) client.users i r e, omega (arith, of_plan d (λ (a : AttemptData). length a.user ≤ 255) (λ r h. h) (client.keeps fault.User) i r e)), (omega (arith, named.0.short), (w.0, w.1)));
      }
    where
      named_at : (i : ℕ) (r : AttemptData) → slice_get (offered m d s c.plan) i ≡ Some r → IsName r.service × IsNamed r.proving
      named_at i r e = of_plan d (λ (a : AttemptData). IsName a.service × IsNamed a.proving) (λ r h. (h.0, unasked_named r.proving h.1)) (client.keeps fault.Name).2 i r e

      blob_short : (p : CredentialData) → IsNamed p → HasShortBlob m p
      blob_short ByNothing t = tt
      blob_short (ByPassword password) t = tt
      blob_short (ByKey algorithm secret ask) t = let high : length (m.blob algorithm secret) ≤ 8192 = law.blob_high algorithm secret t in grind (arith, nat_tests, high)

      failure_read : (form : ShareForm) (partial : Bool) → message_in form (written_message (UserauthFailure s.methods partial)) ≡ Ok (UserauthFailure s.methods partial)
      failure_read form partial = below.again form (UserauthFailure s.methods partial) tt (methods_well, (tt, tt))

      answer_read : (form : ShareForm) (p : CredentialData) (proved : Bool) → IsNamed p → message_in form (written_message (answer_by m s.methods proved p)) ≡ Ok (answer_by m s.methods proved p)
      answer_read form ByNothing proved t = failure_read form proved
      answer_read form (ByPassword password) proved t = failure_read form proved
      answer_read form (ByKey algorithm secret false) proved t = failure_read form proved
      answer_read form (ByKey algorithm secret true) true t =
          below.again form (UserauthPkOk algorithm (m.blob algorithm secret)) tt (omega (arith, t.short), (omega (arith, law.blob_high algorithm secret t), tt))
      answer_read form (ByKey algorithm secret true) false t = failure_read form false

-- all ends agree, and all keys sign
can_sign : (m : SuiteData) → IsAgreeing m → (p : CredentialData) → CanSign m p
can_sign m agrees ByNothing = tt
can_sign m agrees (ByPassword password) = tt
can_sign m agrees (ByKey algorithm secret ask) = agrees.signed algorithm secret

can_sign_each : (m : SuiteData) → IsAgreeing m → (plan : List AttemptData) → AllByRecursion (λ (r : AttemptData). CanSign m r.proving) plan
can_sign_each m agrees [] = tt
can_sign_each m agrees (a ∷ later) = (can_sign m agrees a.proving, can_sign_each m agrees later)

held_by : (m : SuiteData) → IsAgreeing m → (p : CredentialData) → IsHeld m p
held_by m agrees ByNothing = tt
held_by m agrees (ByPassword password) = tt
held_by m agrees (ByKey algorithm secret ask) = agrees.held algorithm secret

held_each : (m : SuiteData) → IsAgreeing m → (plan : List AttemptData) → AllByRecursion (λ (r : AttemptData). IsHeld m r.proving) plan
held_each m agrees [] = tt
held_each m agrees (a ∷ later) = (held_by m agrees a.proving, held_each m agrees later)

pub compatible_by : (m : SuiteData) (d : DecisionsData) (c : ClientData) (s : ServerData) → IsAgreeing m → IsClient c → IsServer s → AreCompatible m d c s
compatible_by m d c s agrees client server = record {
  exchange = λ a chosen. agrees.agreed a.kex c.side.random s.side.random (client.keeps fault.Random).random (server.keeps fault.Random).random client.bytes.random server.bytes.random;
  host_key = λ a chosen trusted. agrees.signed a.host_key (secret_of s.host_keys a.host_key);
  plan = can_sign_each m agrees c.plan;
  host_key_held = λ a chosen. agrees.held a.host_key (secret_of s.host_keys a.host_key);
  plan_held = held_each m agrees c.plan;
}

pub accepted_follow : (m : SuiteData) → IsLawful m → Below m → (d : DecisionsData) (c : ClientData) (s : ServerData) → AreCompatible m d c s → IsClient c → IsServer s → BothFollow m d c s (wording_of m d c s)
accepted_follow m law below d c s compatible client server =
    both_follow m d c s compatible (sound m law below c s client server) (offers_read m law below c s client server) (reads_all m law below c s client server d compatible)

pub accepted_placed : (m : SuiteData) → IsLawful m → Below m → (d : DecisionsData) (c : ClientData) (s : ServerData) → AreCompatible m d c s → IsClient c → IsServer s → BothInPlace m d c s
accepted_placed m law below d c s compatible client server =
    both_placed m d c s compatible (sound m law below c s client server) (offers_read m law below c s client server) (reads_all m law below c s client server d compatible)

pub accepted_same_keys : (m : SuiteData) → IsLawful m → Below m → (d : DecisionsData) (c : ClientData) (s : ServerData) → AreCompatible m d c s → IsClient c → IsServer s
    → (switched_out (sent_by_client m d c s) ≡ true) ⊎ (switched_out (sent_by_server m d c s) ≡ true)
    → HaveSameKeys m Client Server (config_of_client c) (config_of_server s) (sent_by_client m d c s) (sent_by_server m d c s)
accepted_same_keys m law below d c s compatible client server =
    same_keys m d c s compatible (sound m law below c s client server) (offers_read m law below c s client server) (reads_all m law below c s client server d compatible)
