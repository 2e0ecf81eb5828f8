-- Both ends of one exchange come to one key source.

use Rattle.std.proofs.Common.{◌≡◌, ℕ, List, Option, Some, Result, Ok, refl, sym, ap, ◌∙◌}
use Rattle.std.specs.Prelude.{option_map}
use Rattle.sshwire.specs.declared.share_form.ShareForm.{ShareForm}
use Rattle.sshwire.specs.declared.share_form.ShareForm.TheVariants.{Mpint}
use Rattle.sshmsg.specs.declared.fault.MsgFault.{MsgFault}
use Rattle.sshmsg.specs.MessageData.{KexInit, KexInitData, MessageData}
use Rattle.sshmsg.specs.Messages.{message_in}
use Rattle.sshmsg.specs.Written.{IsMessageOf, IsWellFormed, written_message}
use Rattle.sshneg.specs.declared.side.Side.{Side}
use Rattle.sshneg.specs.declared.side.Side.TheVariants.{Client, Server}
use Rattle.sshneg.specs.ChoiceReadings.{choice}
use Rattle.sshneg.specs.Derivations.{KeyMaterialData, derived}
use Rattle.sshneg.specs.ExchangeEnd.{HaveOneSource, IsOneExchange, KexEnd, answer_by, choice_at, choice_by, choice_in, exchange_by, offer_by, offer_in, source_by, source_chosen, source_of_end, source_with}
use Rattle.sshneg.specs.Fields.{AlgorithmsData}
use Rattle.sshpacket.specs.Suite.{Agrees, ResponseData, SuiteData}

some_response : (r other : ResponseData) → ◌≡◌ {A = Option ResponseData} (Some r) (Some other) → r ≡ other
some_response r other e = cc

-- a client that reads the share of an answer has the answer
client_answer : (m : SuiteData) (kex client : List ℕ) (r : ResponseData) → m.shared kex client r.share ≡ Some r.shared → answer_by Client m kex client r.share ≡ Some r
client_answer m kex client r e = rw e refl

pub one_answer : (m : SuiteData) (kex client server : List ℕ) → Agrees m kex client server → (r : ResponseData) → m.respond kex server (m.share kex client) ≡ Some r
    → answer_by Client m kex client r.share ≡ Some r
one_answer m kex client server a r e =
    let is : a.answer ≡ r = some_response a.answer r (sym a.responds ∙ e) in
    client_answer m kex client r (rw is at a.same)

-- both ends hash the same data, whatever the answer is
pub one_exchange : (m : SuiteData) (kex : List ℕ) (client server : KexEnd) → IsOneExchange m kex client server
    → (r : ResponseData) → exchange_by m Client kex client r ≡ exchange_by m Server kex server r
unfolding exchange_by
one_exchange m kex client server one r =
    rw (one.client_version, one.server_version, one.client_kexinit, one.server_kexinit, one.host_key, one.client_share) refl

-- and make the same choice
pub one_choice : (m : SuiteData) (kex : List ℕ) (client server : KexEnd) → IsOneExchange m kex client server
    → (choice_at m Client client ≡ choice_in m client.kexinit server.kexinit) × (choice_at m Server server ≡ choice_in m client.kexinit server.kexinit)
one_choice m kex client server one = (
  ap (λ (payload : List ℕ). choice_in m client.kexinit payload) one.server_kexinit,
  ap (λ (payload : List ℕ). choice_in m payload server.kexinit) one.client_kexinit,
)

some_source : (x y : KeyMaterialData) → ◌≡◌ {A = Option KeyMaterialData} (Some x) (Some y) → x ≡ y
some_source x y e = cc

-- an end with an answer has its source
source_answered : (m : SuiteData) (role : Side) (kex : List ℕ) (end : KexEnd) (r : ResponseData) → answer_by role m kex end.random end.peer_share ≡ Some r
    → source_with m role kex end ≡ Some (source_by m kex (exchange_by m role kex end r))
source_answered m role kex end r e = ap (λ (o : Option ResponseData). option_map (λ answer. source_by m kex (exchange_by m role kex end answer)) o) e

-- from one source come the same keys
have_one : (m : SuiteData) (client server : Option KeyMaterialData) (source : KeyMaterialData) → client ≡ Some source → server ≡ Some source → HaveOneSource m client server
have_one m client server source c s = record {
  source = source;
  of_client = c;
  of_server = s;
  to_server = λ x y a b cipher mac. ap (λ (z : KeyMaterialData). derived m z Client cipher mac) (some_source x y (sym a ∙ (c ∙ (sym s ∙ b))));
  to_client = λ x y a b cipher mac. ap (λ (z : KeyMaterialData). derived m z Server cipher mac) (some_source y x (sym b ∙ (s ∙ (sym c ∙ a))));
}

-- both ends come to the server's answer
pub one_answer_at : (m : SuiteData) (kex : List ℕ) (client server : KexEnd) → Agrees m kex client.random server.random → IsOneExchange m kex client server
    → (r : ResponseData) × (answer_by Client m kex client.random client.peer_share ≡ Some r) × (answer_by Server m kex server.random server.peer_share ≡ Some r)
one_answer_at m kex client server a one =
    let share : client.peer_share ≡ a.answer.share = one.server_share a.answer a.responds in (
      a.answer,
      ap (λ (peer : List ℕ). answer_by Client m kex client.random peer) share ∙ client_answer m kex client.random a.answer a.same,
      ap (λ (peer : List ℕ). answer_by Server m kex server.random peer) one.client_share ∙ a.responds,
    )

pub one_source : (m : SuiteData) (kex : List ℕ) (client server : KexEnd) → Agrees m kex client.random server.random → IsOneExchange m kex client server
    → HaveOneSource m (source_with m Client kex client) (source_with m Server kex server)
one_source m kex client server a one =
    let answered = one_answer_at m kex client server a one in
    let same : source_by m kex (exchange_by m Server kex server answered.0) ≡ source_by m kex (exchange_by m Client kex client answered.0)
    = ap (λ x. source_by m kex x) (sym (one_exchange m kex client server one answered.0)) in
    have_one m (source_with m Client kex client) (source_with m Server kex server) (source_by m kex (exchange_by m Client kex client answered.0))
    (source_answered m Client kex client answered.0 answered.1)
    (source_answered m Server kex server answered.0 answered.2 ∙ ap (λ (x : KeyMaterialData). Some x) same)

-- where the method is chosen, the source is that of the method
source_by_choice : (m : SuiteData) (role : Side) (end : KexEnd) (a : AlgorithmsData) (kex : List ℕ) → choice_at m role end ≡ Ok a → a.kex ≡ kex
    → source_of_end m role end ≡ source_with m role kex end
unfolding source_of_end
source_by_choice m role end a kex chosen is = ap (λ r. source_chosen m role end r) chosen ∙ ap (λ (k : List ℕ). source_with m role k end) is

pub one_end : (m : SuiteData) (kex : List ℕ) (client server : KexEnd) (a : AlgorithmsData) → choice_in m client.kexinit server.kexinit ≡ Ok a → a.kex ≡ kex
    → Agrees m kex client.random server.random → IsOneExchange m kex client server
    → HaveOneSource m (source_of_end m Client client) (source_of_end m Server server)
one_end m kex client server a chosen is agrees one =
    let choices = one_choice m kex client server one in
    let x = one_source m kex client server agrees one in
    have_one m (source_of_end m Client client) (source_of_end m Server server) x.source
    (source_by_choice m Client client a kex (choices.0 ∙ chosen) is ∙ x.of_client)
    (source_by_choice m Server server a kex (choices.1 ∙ chosen) is ∙ x.of_server)

-- what is written for a KEXINIT offers what it was written for
pub written_offer : ((form : ShareForm) (c : MessageData) → IsMessageOf form c → IsWellFormed c → message_in form (written_message c) ≡ Ok c)
    → (offer : KexInitData) → IsWellFormed (KexInit offer) → offer_in (written_message (KexInit offer)) ≡ Some offer
written_offer again offer well = ap (λ (r : Result MessageData MsgFault). offer_by r) (again Mpint (KexInit offer) tt well)

pub written_choice : ((form : ShareForm) (c : MessageData) → IsMessageOf form c → IsWellFormed c → message_in form (written_message c) ≡ Ok c)
    → (m : SuiteData) (client server : KexInitData) → IsWellFormed (KexInit client) → IsWellFormed (KexInit server)
    → choice_in m (written_message (KexInit client)) (written_message (KexInit server)) ≡ choice m client server
written_choice again m client server c s =
    ap (λ (o : Option KexInitData). choice_by m o (offer_in (written_message (KexInit server)))) (written_offer again client c)
    ∙ ap (λ (o : Option KexInitData). choice_by m (Some client) o) (written_offer again server s)
