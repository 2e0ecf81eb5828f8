-- The session identifier of two configs.

use Rattle.std.proofs.Common.{◌≡◌, ◌∙◌, ℕ, List, Option, Some, Result, Ok, Err, IfOk, option_map, refl, sym, ap}
use Rattle.sshmsg.specs.Written.{kexinit_payload, written_message}
use Rattle.sshneg.specs.Derivations.{exchange_text}
use Rattle.sshneg.specs.Fields.{AlgorithmsData}
use Rattle.sshpacket.specs.declared.suite.Response.{Response}
use Rattle.sshpacket.specs.Suite.{ResponseData, SuiteData, response_data}
use Rattle.sshcore.specs.ConfigParts.{ClientData, ServerData}
use Rattle.sshworld.specs.declared.session.SharesGiven.{SharesGiven}
use Rattle.sshworld.specs.Agreement.{exchange_between, session_between}
use Rattle.sshworld.specs.SharesView.{AreBetween, exchange_given}

-- what is true of an answer where it is there
pub if_ok : {T E : Type 0} {P Q : T → Type 0} (r : Result T E) → ((x : T) → P x → Q x) → IfOk r P → IfOk r Q
if_ok (Ok x) f p = f x p
if_ok (Err e) f p = tt

-- a suite's answer to the client's share
pub responded : (o : Option Response) (r : Response) (answer : Option ResponseData) → option_map (λ r. response_data r) o ≡ answer → o ≡ Some r
    → answer ≡ Some (response_data r)
responded o r answer e is = sym e ∙ ap (option_map (λ r. response_data r)) is

-- the exchange of two configs
same_exchange : (m : SuiteData) (c : ClientData) (s : ServerData) (a : AlgorithmsData) (shares : SharesGiven) → AreBetween m c s a shares
    → exchange_given c s shares ≡ exchange_between m c s a
unfolding kexinit_payload written_message
same_exchange m c s a shares are =
    let share = ap (λ (r : ResponseData). r.share) are.answer in
    let shared = ap (λ (r : ResponseData). r.shared) are.answer in
    rw (are.host_key, are.client_share, share, shared) refl

pub hashed : (m : SuiteData) (c : ClientData) (s : ServerData) (a : AlgorithmsData) (shares : SharesGiven) (input hash : List ℕ) → AreBetween m c s a shares
    → input ≡ exchange_text (exchange_given c s shares) → hash ≡ m.digest a.kex input → hash ≡ session_between m c s a
unfolding session_between
hashed m c s a shares input hash are e is = is ∙ ap (m.digest a.kex) (e ∙ ap exchange_text (same_exchange m c s a shares are))
