-- What each message that has a place brings.

use Rattle.std.proofs.Common.{◌≡◌, ◌≢◌, inl, inr, ℕ, ◌+◌, ◌≤◌, Bool, true, false, List, [], length, Bor, Box, Global, None, Some, Result, Ok, Err, IfOk, OnOk, refl, sym, ap, ◌∙◌, subst, arith}
use Rattle.sshwire.specs.declared.mpint.Mpint as mpint
use Rattle.sshwire.specs.declared.share_form.ShareForm.{ShareForm}
use Rattle.sshwire.specs.declared.share_form.ShareForm.TheVariants.{Mpint}
use Rattle.sshmsg.specs.MessageData.{Disconnect, KexEcdhInit, KexEcdhReply, KexInit, KexInitData, KexdhInit, KexdhReply, MessageData, MethodData, NewKeys, NoMethod, OtherMethod, Password, PasswordChange, PublicKey, PublicKeyQuery, ServiceAccept, ServiceRequest, UserauthFailure, UserauthPkOk, UserauthRequest, UserauthSuccess}
use Rattle.sshmsg.specs.Lengths.{method_length}
use Rattle.sshmsg.specs.Messages.{Spells, message_in}
use Rattle.sshmsg.specs.Numbers.{message_number, number_of}
use Rattle.sshmsg.specs.declared.message.KexInit as kexinit
use Rattle.sshmsg.specs.declared.message.Message.{Message}
use Rattle.sshmsg.specs.declared.message.Method as method
use Rattle.sshmsg.specs.declared.message.Message.TheVariants as message
use Rattle.sshmsg.specs.View.{message_data}
use Rattle.sshneg.specs.declared.side.Side.{Side}
use Rattle.sshneg.specs.declared.side.Side.TheVariants.{Client, Server}
use Rattle.sshneg.specs.ExchangeEnd.{offer_by, offer_in}
use Rattle.sshpacket.specs.Stream.{Units}
use Rattle.sshpacket.specs.declared.limits.TheConstants.{PACKET_LIMIT}
use Rattle.sshcore.specs.declared.end.Fault.{Fault}
use Rattle.sshcore.specs.declared.phase_table.Disposition.TheVariants as disposition
use Rattle.sshcore.specs.declared.phase_table.Phase.{Phase}
use Rattle.sshcore.specs.declared.phase_table.Phase.TheVariants as phase
use Rattle.sshcore.specs.Attempts.{failure_step, pk_ok_step, success_reply}
use Rattle.sshcore.specs.Authenticating.{FitsMethod, confirmed_attempt, counted_request, failed_attempt, tried_key}
use Rattle.sshcore.specs.Before.{wrong_guess}
use Rattle.sshcore.specs.declared.reply.Reply as reply
use Rattle.sshcore.specs.Brings.{Exchanges, IsOngoing, Leaves, Offers, StandsAt, Stays, carried_after, received_counted, received_newkeys, received_one}
use Rattle.sshcore.specs.Comes.{Comes, ComesPlainly}
use Rattle.sshcore.specs.EndData.{Authenticated, Closed, EndData, Failed, Open, Reply, goes}
use Rattle.sshcore.specs.Exchanged.{ReceivesExchange}
use Rattle.sshcore.specs.StateData.{StateData}
use Rattle.sshcore.specs.KnownBefore.{Known}
use Rattle.sshcore.specs.ReplyView.{replied}
use Rattle.sshcore.specs.EndpointParts.{Setup}
use Rattle.sshcore.specs.Phases.{leaving, next_phase, past_exchange}
use Rattle.sshcore.specs.Plan.{is_waiting, listed_by, listed_in}
use Rattle.sshcore.specs.Requests.{is_successful, request_step}
use Rattle.sshcore.specs.Step.{settled}
use Rattle.sshcore.specs.Tries.{tried_with}
use Rattle.sshcore.specs.Standing.{LeavesNone, after_offer, after_payload}
use Rattle.sshcore.specs.Table.{disposition_by, is_ignorable}
use Rattle.sshcore.specs.Work.{accept_step, init_step, kexinit_reply, reply_step, service_reply, step, work}
use Rattle.sshcore.proofs.AfterLemmas.{carried_number, carried_request, counted_number, failure_after, newkeys_after, pk_ok_after, received_number, request_after}
use Rattle.sshcore.proofs.ReadsLemmas as table
use Rattle.sshcore.proofs.ReadsLemmas.{IsAt, IsPlain, Reads, plain_number, reads}

-- what several clauses of a call that returned `Ok` give together
pub on_two : {T E A B Z : Type 0} (r : Result T E) → OnOk r A → OnOk r B → (A → B → Z) → OnOk r Z
on_two (Ok x) a b f = f a b
on_two (Err e) a b f = tt

-- what is true of the value in two clauses
pub if_two : {T E : Type 0} (r : Result T E) (P Q Z : T → Type 0) → IfOk r P → IfOk r Q → ((x : T) → P x → Q x → Z x) → IfOk r Z
if_two (Ok x) P Q Z p q f = f x p q
if_two (Err e) P Q Z p q f = tt

pub if_three : {T E : Type 0} (r : Result T E) (P Q R Z : T → Type 0) → IfOk r P → IfOk r Q → IfOk r R → ((x : T) → P x → Q x → R x → Z x) → IfOk r Z
if_three (Ok x) P Q R Z p q s f = f x p q s
if_three (Err e) P Q R Z p q s f = tt

pub if_four : {T E : Type 0} (r : Result T E) (P Q R S Z : T → Type 0) → IfOk r P → IfOk r Q → IfOk r R → IfOk r S → ((x : T) → P x → Q x → R x → S x → Z x) → IfOk r Z
if_four (Ok x) P Q R S Z p q s t f = f x p q s t
if_four (Err e) P Q R S Z p q s t f = tt

pub if_five : {T E : Type 0} (r : Result T E) (P Q R S U Z : T → Type 0) → IfOk r P → IfOk r Q → IfOk r R → IfOk r S → IfOk r U → ((x : T) → P x → Q x → R x → S x → U x → Z x) → IfOk r Z
if_five (Ok x) P Q R S U Z p q s t u f = f x p q s t u
if_five (Err e) P Q R S U Z p q s t u f = tt

-- a payload of this message is read
pub record HasPlace (role : Side) (old : StateData) (payload : List ℕ) (c : MessageData) : Type 0 where
  pub reads_it : Reads role old.phase old.guess (number_of c)
  pub read_is : message_in old.known.shares payload ≡ Ok c
  pub kind_is : message_number payload ≡ number_of c
  pub offers : (peer : KexInitData) → c ≡ KexInit peer → offer_in payload ≡ Some peer
  pub lists : (listed : List (List ℕ)) (partial : Bool) → c ≡ UserauthFailure listed partial → listed_in payload ≡ listed
  pub requests : (user service : List ℕ) (method : MethodData) → c ≡ UserauthRequest user service method → message_in Mpint payload ≡ Ok (UserauthRequest user service method)

pub has_place : ((form : ShareForm) (payload : List ℕ) (c : MessageData) → Spells form c payload → message_in form payload ≡ Ok c)
    → ((form : ShareForm) (payload : List ℕ) (c : MessageData) → message_in form payload ≡ Ok c → message_number payload ≡ number_of c)
    → ((form other : ShareForm) (payload : List ℕ) → message_number payload ≢ 30 → message_number payload ≢ 31 → message_in form payload ≡ message_in other payload)
    → (role : Side) (old : StateData) (payload : List ℕ) (c : MessageData) → disposition_by role old.phase old.known.strict old.guess (is_waiting old.known.left) (message_number payload) ≡ disposition.Reads → Spells old.known.shares c payload
    → HasPlace role old payload c
unfolding listed_in
has_place complete number alike role old payload c disposition_is spelled =
    let read : message_in old.known.shares payload ≡ Ok c = complete old.known.shares payload c spelled in
    let same : message_number payload ≡ number_of c = number old.known.shares payload c read in
    record {
      reads_it = subst (λ (k : ℕ). Reads role old.phase old.guess k) same (reads role old.phase old.known.strict (is_waiting old.known.left) (message_number payload) old.guess disposition_is);
      read_is = read;
      kind_is = same;
      offers = λ peer is.
          let twenty : message_number payload ≡ 20 = same ∙ ap number_of is in
          ap offer_by (alike Mpint old.known.shares payload (λ q. omega arith) (λ q. omega arith) ∙ (read ∙ ap (λ (x : MessageData). Ok x) is));
      lists = λ listed partial is.
          let failure : message_number payload ≡ 51 = same ∙ ap number_of is in
          ap listed_by (alike Mpint old.known.shares payload (λ q. omega arith) (λ q. omega arith) ∙ (read ∙ ap (λ (x : MessageData). Ok x) is));
      requests = λ user service method is.
          let request : message_number payload ≡ 50 = same ∙ ap number_of is in
          alike Mpint old.known.shares payload (λ q. omega arith) (λ q. omega arith) ∙ (read ∙ ap (λ (x : MessageData). Ok x) is);
    }

-- a session that is closed or has failed doesn't go on
closed_ends : (end : EndData) (reason : ℕ) → end ≡ Closed reason → IsOngoing end → ⊥
closed_ends end reason e (inl stays) = absurd cc
closed_ends end reason e (inr done) = let is : end ≡ Authenticated done.0 = done.1 in absurd cc

pub failed_ends : (end : EndData) (f : Fault) → end ≡ Failed f → IsOngoing end → ⊥
failed_ends end f e (inl stays) = absurd cc
failed_ends end f e (inr done) = let is : end ≡ Authenticated done.0 = done.1 in absurd cc

module _ (role : Side) (old : StateData) (payload : List ℕ) (c : MessageData) (has : HasPlace role old payload c) where
  -- where it is read
  at_number : (n : ℕ) → number_of c ≡ n → Reads role old.phase old.guess n
  at_number n is = subst (λ (k : ℕ). Reads role old.phase old.guess k) is has.reads_it

  at_kexinit : number_of c ≡ 20 → IsAt role role old.phase phase.KexInit old.guess
  at_kexinit is = table.kexinit_read role old.phase old.guess (at_number 20 is)

  pub at_newkeys : number_of c ≡ 21 → IsAt role role old.phase phase.NewKeys old.guess
  at_newkeys is = table.newkeys_read role old.phase old.guess (at_number 21 is)

  pub at_init : number_of c ≡ 30 → IsAt role Server old.phase phase.Exchange old.guess
  at_init is = table.init_read role old.phase old.guess (at_number 30 is)

  pub at_reply : number_of c ≡ 31 → IsAt role Client old.phase phase.Exchange old.guess
  at_reply is = table.reply_read role old.phase old.guess (at_number 31 is)

  pub at_request : number_of c ≡ 5 → IsAt role Server old.phase phase.Service old.guess
  at_request is = table.request_read role old.phase old.guess (at_number 5 is)

  pub at_accept : number_of c ≡ 6 → IsAt role Client old.phase phase.Service old.guess
  at_accept is = table.accept_read role old.phase old.guess (at_number 6 is)

  pub at_user_request : number_of c ≡ 50 → IsAt role Server old.phase phase.Auth old.guess
  at_user_request is = table.user_request_read role old.phase old.guess (at_number 50 is)

  pub at_failure : number_of c ≡ 51 → IsAt role Client old.phase phase.Auth old.guess
  at_failure is = table.failure_read role old.phase old.guess (at_number 51 is)

  pub at_confirmation : number_of c ≡ 60 → IsAt role Client old.phase phase.Auth old.guess
  at_confirmation is = table.confirmation_read role old.phase old.guess (at_number 60 is)

  pub at_success : number_of c ≡ 52 → IsAt role Client old.phase phase.Auth old.guess
  at_success is = table.success_read role old.phase old.guess (at_number 52 is)

module _ (setup : Setup) (old new : StateData) (payload : List ℕ) (answers : Units) (c : MessageData) (has : HasPlace setup.role old payload c) where
  -- a message that is worked on so
  by_reply : (r : Reply) → work setup old.known c ≡ r → ComesPlainly setup old new payload answers r → ComesPlainly setup old new payload answers (work setup old.known c)
  by_reply r is w = subst (λ (x : Reply). ComesPlainly setup old new payload answers x) (sym is) w

  pub kexinit_works : (peer : KexInitData) → c ≡ KexInit peer
      → replied answers new.end ≡ kexinit_reply setup.suite setup.role setup.config old.known peer → new.sending ≡ old.sending
      → (IsOngoing new.end → new.known.shares ≡ setup.suite.share_form new.known.algorithms.kex)
      → new.carried ≡ old.carried
      → (IsOngoing new.end → StandsAt new phase.Exchange (wrong_guess setup.role setup.config.offer (Some peer)) (after_offer setup.suite setup.role setup.config old.known payload peer))
      → ComesPlainly setup old new payload answers (work setup old.known c)
  unfolding step
  kexinit_works peer is gives unsent form keys moves =
      let at = at_kexinit setup.role old payload c has (ap number_of is) in
      by_reply (kexinit_reply setup.suite setup.role setup.config old.known peer) (ap (work setup old.known) is) (record {
        reply_is = gives;
        switches = tt;
        unsent = unsent;
        moves = λ goes_on. Offers peer at.phase_is at.none_due (has.offers peer is) keys (form goes_on) (moves goes_on);
      })

  -- a message that leaves a phase after the exchange
  leaves_works : (side : Side) (p q : Phase) (n : ℕ) (k : Known) (r : Reply) → number_of c ≡ n → leaving side p ≡ n → past_exchange p ≡ true → next_phase p ≡ q
      → IsAt setup.role side old.phase p old.guess → after_payload setup.suite setup.decisions setup.config old.known payload ≡ k
      → replied answers new.end ≡ r → new.sending ≡ old.sending
      → (IsOngoing new.end → new.carried ≡ carried_after setup.suite setup.decisions setup.config old.known old.carried payload)
      → (IsOngoing new.end → StandsAt new q old.guess k)
      → ComesPlainly setup old new payload answers r
  leaves_works side p q n k r number leaves past next at known gives unsent keys stands =
      let none : old.guess ≡ false = at.none_due in
      let here : message_number payload ≡ leaving setup.role old.phase = has.kind_is ∙ (number ∙ sym leaves ∙ sym (rw (at.phase_is, at.side_is) refl)) in
      record {
        reply_is = gives;
        switches = tt;
        unsent = unsent;
        moves = λ goes_on. Leaves none (ap past_exchange at.phase_is ∙ past) here (keys goes_on) (record {
          phase_is = (stands goes_on).phase_is ∙ sym (ap next_phase at.phase_is ∙ next);
          guess_is = (stands goes_on).guess_is ∙ none;
          known_is = (stands goes_on).known_is ∙ sym known;
        });
      }

  -- what is known after a message with another number than those of requests and FAILURE
  received_as : (n : ℕ) → number_of c ≡ n → n ≢ 21 → n ≢ 50 → n ≢ 51 → n ≢ 60 → is_ignorable n ≡ false → after_payload setup.suite setup.decisions setup.config old.known payload ≡ received_one old.known
  received_as n number newkeys request failure confirmation heeded =
      received_number setup.suite setup.decisions setup.config old.known payload n (has.kind_is ∙ number) newkeys request failure confirmation heeded

  -- and what is carried along
  carried_as : (n : ℕ) → number_of c ≡ n → n ≢ 50 → old.carried ≡ carried_after setup.suite setup.decisions setup.config old.known old.carried payload
  carried_as n number request = sym (carried_number setup.suite setup.decisions setup.config old.known payload old.carried n (has.kind_is ∙ number) request)

  pub request_works : (service : List ℕ) → c ≡ ServiceRequest service
      → replied answers new.end ≡ service_reply setup.config service → new.sending ≡ old.sending
      → new.carried ≡ old.carried
      → (IsOngoing new.end → StandsAt new phase.Auth old.guess (received_one old.known))
      → ComesPlainly setup old new payload answers (work setup old.known c)
  unfolding step
  request_works service is gives unsent keys stands =
      by_reply (service_reply setup.config service) (ap (work setup old.known) is)
      (leaves_works Server phase.Service phase.Auth 5 (received_one old.known) (service_reply setup.config service) (ap number_of is) refl refl refl
      (at_request setup.role old payload c has (ap number_of is)) (received_as 5 (ap number_of is) (λ q. omega arith) (λ q. omega arith) (λ q. omega arith) (λ q. omega arith) refl) gives unsent (λ _. keys ∙ carried_as 5 (ap number_of is) (λ q. omega arith)) stands)

  pub accept_works : (service : List ℕ) → c ≡ ServiceAccept service
      → replied answers new.end ≡ settled setup.decisions (accept_step setup.suite old.known service) → new.sending ≡ old.sending
      → new.carried ≡ old.carried
      → (IsOngoing new.end → StandsAt new phase.Auth old.guess (received_one old.known))
      → ComesPlainly setup old new payload answers (work setup old.known c)
  unfolding step
  accept_works service is gives unsent keys stands =
      by_reply (settled setup.decisions (accept_step setup.suite old.known service)) (ap (work setup old.known) is)
      (leaves_works Client phase.Service phase.Auth 6 (received_one old.known) (settled setup.decisions (accept_step setup.suite old.known service)) (ap number_of is) refl refl refl
      (at_accept setup.role old payload c has (ap number_of is)) (received_as 6 (ap number_of is) (λ q. omega arith) (λ q. omega arith) (λ q. omega arith) (λ q. omega arith) refl) gives unsent (λ _. keys ∙ carried_as 6 (ap number_of is) (λ q. omega arith)) stands)

  pub user_request_works : (user service : List ℕ) (method : MethodData) → c ≡ UserauthRequest user service method
      → replied answers new.end ≡ settled setup.decisions (request_step setup.suite setup.config old.known user service method) → new.sending ≡ old.sending
      → (IsOngoing new.end → new ≡ record old {
        end = new.end;
        known = counted_request old.known (tried_with user service method (is_successful setup.suite setup.decisions setup.config old.known user service method));
        carried = tried_key old.carried method (is_successful setup.suite setup.decisions setup.config old.known user service method);
      })
      → ComesPlainly setup old new payload answers (work setup old.known c)
  unfolding step
  user_request_works user service method is gives unsent stays =
      let at = at_user_request setup.role old payload c has (ap number_of is) in
      by_reply (settled setup.decisions (request_step setup.suite setup.config old.known user service method)) (ap (work setup old.known) is)
      (leaves_works Server phase.Auth phase.Auth 50 (counted_request old.known (tried_with user service method (is_successful setup.suite setup.decisions setup.config old.known user service method))) (settled setup.decisions (request_step setup.suite setup.config old.known user service method)) (ap number_of is) refl refl refl
      at (request_after setup.suite setup.decisions setup.config old.known payload user service method (has.kind_is ∙ ap number_of is) (has.requests user service method is)) gives unsent (λ goes_on. ap (λ (k : StateData). k.carried) (stays goes_on)
      ∙ sym (carried_request setup.suite setup.decisions setup.config old.known payload old.carried user service method (has.kind_is ∙ ap number_of is) (has.requests user service method is)))
      (λ goes_on. record {
        phase_is = ap (λ (k : StateData). k.phase) (stays goes_on) ∙ at.phase_is;
        guess_is = ap (λ (k : StateData). k.guess) (stays goes_on);
        known_is = ap (λ (k : StateData). k.known) (stays goes_on);
      }))

  pub success_works : c ≡ UserauthSuccess
      → replied answers new.end ≡ success_reply old.known → new.sending ≡ old.sending
      → (IsOngoing new.end → new ≡ record old { end = new.end; known = received_one old.known })
      → ComesPlainly setup old new payload answers (work setup old.known c)
  unfolding step
  success_works is gives unsent stays =
      let at = at_success setup.role old payload c has (ap number_of is) in
      by_reply (success_reply old.known) (ap (work setup old.known) is)
      (leaves_works Client phase.Auth phase.Auth 52 (received_one old.known) (success_reply old.known) (ap number_of is) refl refl refl
      at (received_as 52 (ap number_of is) (λ q. omega arith) (λ q. omega arith) (λ q. omega arith) (λ q. omega arith) refl) gives unsent (λ goes_on. ap (λ (k : StateData). k.carried) (stays goes_on) ∙ carried_as 52 (ap number_of is) (λ q. omega arith))
      (λ goes_on. record {
        phase_is = ap (λ (k : StateData). k.phase) (stays goes_on) ∙ at.phase_is;
        guess_is = ap (λ (k : StateData). k.guess) (stays goes_on);
        known_is = ap (λ (k : StateData). k.known) (stays goes_on);
      }))

  pub failure_works : (listed : List (List ℕ)) (partial : Bool) → c ≡ UserauthFailure listed partial
      → replied answers new.end ≡ settled setup.decisions (failure_step setup.suite old.known listed) → new.sending ≡ old.sending
      → new ≡ record old { end = new.end; known = failed_attempt old.known listed }
      → ComesPlainly setup old new payload answers (work setup old.known c)
  unfolding step
  failure_works listed partial is gives unsent stays =
      let at = at_failure setup.role old payload c has (ap number_of is) in
      let none : old.guess ≡ false = at.none_due in
      let number : message_number payload ≡ 51 = has.kind_is ∙ ap number_of is in
      by_reply (settled setup.decisions (failure_step setup.suite old.known listed)) (ap (work setup old.known) is) (record {
        reply_is = gives;
        switches = tt;
        unsent = unsent;
        moves = λ goes_on. Stays none (subst (λ (n : ℕ). LeavesNone setup.role n) (sym number) (table.late_leaves setup.role 51 (omega arith)))
            (ap (λ (k : StateData). k.carried) stays ∙ carried_as 51 (ap number_of is) (λ q. omega arith))
            (record {
              phase_is = ap (λ (k : StateData). k.phase) stays;
              guess_is = ap (λ (k : StateData). k.guess) stays ∙ none;
              known_is = ap (λ (k : StateData). k.known) stays ∙ sym (failure_after setup.suite setup.decisions setup.config old.known payload listed number (has.lists listed partial is));
            });
      })

  pub pk_ok_works : (algorithm key : List ℕ) → c ≡ UserauthPkOk algorithm key
      → replied answers new.end ≡ settled setup.decisions (pk_ok_step setup.suite old.known algorithm key) → new.sending ≡ old.sending
      → (IsOngoing new.end → new ≡ record old { end = new.end; known = confirmed_attempt old.known })
      → ComesPlainly setup old new payload answers (work setup old.known c)
  unfolding step
  pk_ok_works algorithm key is gives unsent stays =
      let at = at_confirmation setup.role old payload c has (ap number_of is) in
      let none : old.guess ≡ false = at.none_due in
      let number : message_number payload ≡ 60 = has.kind_is ∙ ap number_of is in
      by_reply (settled setup.decisions (pk_ok_step setup.suite old.known algorithm key)) (ap (work setup old.known) is) (record {
        reply_is = gives;
        switches = tt;
        unsent = unsent;
        moves = λ goes_on. Stays none (subst (λ (n : ℕ). LeavesNone setup.role n) (sym number) (table.late_leaves setup.role 60 (omega arith)))
            (ap (λ (k : StateData). k.carried) (stays goes_on) ∙ carried_as 60 (ap number_of is) (λ q. omega arith))
            (record {
              phase_is = ap (λ (k : StateData). k.phase) (stays goes_on);
              guess_is = ap (λ (k : StateData). k.guess) (stays goes_on) ∙ none;
              known_is = ap (λ (k : StateData). k.known) (stays goes_on) ∙ sym (pk_ok_after setup.suite setup.decisions setup.config old.known payload number);
            });
      })

-- a message that comes to such a reply
by_made : (setup : Setup) (old new : StateData) (payload : List ℕ) (made : reply.Reply) (c : MessageData) (r : Reply) → work setup old.known c ≡ r → Comes setup old new payload made r
    → Comes setup old new payload made (work setup old.known c)
by_made setup old new payload made c r is w = subst (λ (x : Reply). Comes setup old new payload made x) (sym is) w

module _ (setup : Setup) (old new : StateData) (payload : List ℕ) (made : reply.Reply) (c : MessageData) (has : HasPlace setup.role old payload c) where
  -- the exchange message, at the side that receives it
  exchange_works : (side : Side) (n : ℕ) (r : Reply) → number_of c ≡ n → leaving side phase.Exchange ≡ n → IsAt setup.role side old.phase phase.Exchange old.guess
      → ReceivesExchange setup.suite side setup.config old new made c r → Comes setup old new payload made r
  exchange_works side n r number leaves at h =
      let same : setup.role ≡ side = at.side_is in
      let read = has.read_is in
      let none : old.guess ≡ false = at.none_due in
      record {
        reply_is = h.reply_is;
        switches = rw (same, read) h.switches;
        unsent = h.unsent;
        moves = λ goes_on. Exchanges at.phase_is none
            (has.kind_is ∙ (number ∙ sym leaves ∙ ap (λ (x : Side). leaving x phase.Exchange) (sym same)))
            (rw (same, read) (h.carries goes_on))
            (rw (same, read, ← none) (h.stands goes_on));
      }

  pub init_works : number_of c ≡ 30 → work setup old.known c ≡ settled setup.decisions (init_step setup.suite setup.role setup.config old.known c)
      → ReceivesExchange setup.suite Server setup.config old new made c (settled setup.decisions (init_step setup.suite Server setup.config old.known c))
      → Comes setup old new payload made (work setup old.known c)
  init_works number is h =
      let at = at_init setup.role old payload c has number in
      by_made setup old new payload made c (settled setup.decisions (init_step setup.suite Server setup.config old.known c)) (is ∙ ap (λ (x : Side). settled setup.decisions (init_step setup.suite x setup.config old.known c)) at.side_is)
      (exchange_works Server 30 (settled setup.decisions (init_step setup.suite Server setup.config old.known c)) number refl at h)

  pub reply_works : (signature : List ℕ) → number_of c ≡ 31 → work setup old.known c ≡ settled setup.decisions (reply_step setup.suite setup.role setup.config old.known c signature)
      → ReceivesExchange setup.suite Client setup.config old new made c (settled setup.decisions (reply_step setup.suite Client setup.config old.known c signature))
      → Comes setup old new payload made (work setup old.known c)
  reply_works signature number is h =
      let at = at_reply setup.role old payload c has number in
      by_made setup old new payload made c (settled setup.decisions (reply_step setup.suite Client setup.config old.known c signature)) (is ∙ ap (λ (x : Side). settled setup.decisions (reply_step setup.suite x setup.config old.known c signature)) at.side_is)
      (exchange_works Client 31 (settled setup.decisions (reply_step setup.suite Client setup.config old.known c signature)) number refl at h)

-- the fields of a method that is no longer than a packet are no longer
pub fits_method : (x : MethodData) → method_length x ≤ PACKET_LIMIT → FitsMethod x
fits_method NoMethod short = tt
fits_method (Password password) short = tt
fits_method (PasswordChange password next) short = tt
fits_method (PublicKey algorithm key signature) short =
    let parts : length algorithm + length key + length signature + 13 ≤ PACKET_LIMIT = short in
    (omega arith, omega arith)
fits_method (PublicKeyQuery algorithm key) short = tt
fits_method (OtherMethod name fields) short = tt

-- messages to which nothing is sent
module _ (setup : Setup) (old new : StateData) (payload : List ℕ) (answers : Units) (silent : answers ≡ []) (c : MessageData) (has : HasPlace setup.role old payload c) where
  pub disconnect_works : (reason : ℕ) (description language : List ℕ) → c ≡ Disconnect reason description language → new.end ≡ Closed reason → new.sending ≡ old.sending
      → ComesPlainly setup old new payload answers (work setup old.known c)
  unfolding step
  disconnect_works reason description language is ends sends =
      by_made setup old new payload (record { answers = answers; switch = None }) c (record { answers = []; end = Closed reason }) (ap (work setup old.known) is) (record {
        reply_is = ap (λ (a : Units). replied a new.end) silent ∙ ap (replied []) ends;
        switches = tt;
        unsent = sends;
        moves = λ goes_on. absurd (closed_ends new.end reason ends goes_on);
      })

  pub newkeys_works : c ≡ NewKeys → old.end ≡ Open → new ≡ record old { phase = phase.Service; known = received_newkeys setup.config old.known }
      → ComesPlainly setup old new payload answers (work setup old.known c)
  unfolding step
  newkeys_works is stays next =
      let at = at_newkeys setup.role old payload c has (ap number_of is) in
      let none : old.guess ≡ false = at.none_due in
      by_made setup old new payload (record { answers = answers; switch = None }) c (goes []) (ap (work setup old.known) is) (record {
        reply_is = ap (λ (a : Units). replied a new.end) silent ∙ ap (replied []) (ap (λ (k : StateData). k.end) next ∙ stays);
        switches = tt;
        unsent = ap (λ (k : StateData). k.sending) next;
        moves = λ goes_on. Leaves none (ap past_exchange at.phase_is)
            (has.kind_is ∙ ap number_of is ∙ sym (ap (leaving setup.role) at.phase_is))
            (ap (λ (k : StateData). k.carried) next ∙ sym (carried_number setup.suite setup.decisions setup.config old.known payload old.carried 21 (has.kind_is ∙ ap number_of is) (λ q. omega arith)))
            (record {
              phase_is = ap (λ (k : StateData). k.phase) next ∙ sym (ap next_phase at.phase_is);
              guess_is = ap (λ (k : StateData). k.guess) next ∙ none;
              known_is = ap (λ (k : StateData). k.known) next ∙ sym (newkeys_after setup.suite setup.decisions setup.config old.known payload (has.kind_is ∙ ap number_of is));
            });
      })

  pub plain_works : IsPlain (number_of c) → work setup old.known c ≡ goes [] → old.end ≡ Open → new ≡ record old { known = received_counted old.known payload }
      → ComesPlainly setup old new payload answers (work setup old.known c)
  plain_works plain is stays next =
      let calm = table.plain_read setup.role old.phase old.guess (number_of c) plain has.reads_it in
      let none : old.guess ≡ false = calm.0 in
      by_made setup old new payload (record { answers = answers; switch = None }) c (goes []) is (record {
        reply_is = ap (λ (a : Units). replied a new.end) silent ∙ ap (replied []) (ap (λ (k : StateData). k.end) next ∙ stays);
        switches = tt;
        unsent = ap (λ (k : StateData). k.sending) next;
        moves = λ goes_on. Stays none (subst (λ (n : ℕ). LeavesNone setup.role n) (sym has.kind_is) calm.1)
            (ap (λ (k : StateData). k.carried) next ∙ sym (carried_number setup.suite setup.decisions setup.config old.known payload old.carried (number_of c) has.kind_is plain.user_request))
            (record {
              phase_is = ap (λ (k : StateData). k.phase) next;
              guess_is = ap (λ (k : StateData). k.guess) next ∙ none;
              known_is = ap (λ (k : StateData). k.known) next ∙ sym (counted_number setup.suite setup.decisions setup.config old.known payload (number_of c) has.kind_is plain.newkeys plain.user_request plain.failure plain.confirmation);
            });
      })

-- what the messages of the exchange are answered
module _ (setup : Setup) (known : Known) (c : MessageData) where
  pub kexdh_init : (e : List ℕ) → c ≡ KexdhInit e → work setup known c ≡ settled setup.decisions (init_step setup.suite setup.role setup.config known c)
  unfolding step
  kexdh_init e is = rw is refl

  pub kex_ecdh_init : (share : List ℕ) → c ≡ KexEcdhInit share → work setup known c ≡ settled setup.decisions (init_step setup.suite setup.role setup.config known c)
  unfolding step
  kex_ecdh_init share is = rw is refl

  pub kexdh_reply : (host_key f signature : List ℕ) → c ≡ KexdhReply host_key f signature → work setup known c ≡ settled setup.decisions (reply_step setup.suite setup.role setup.config known c signature)
  unfolding step
  kexdh_reply host_key f signature is = rw is refl

  pub kex_ecdh_reply : (host_key share signature : List ℕ) → c ≡ KexEcdhReply host_key share signature → work setup known c ≡ settled setup.decisions (reply_step setup.suite setup.role setup.config known c signature)
  unfolding step
  kex_ecdh_reply host_key share signature is = rw is refl

-- every other message is read and ignored
pub record IsIgnored (setup : Setup) (known : Known) (c : MessageData) : Type 0 where
  pub plain : IsPlain (number_of c)
  pub work_is : work setup known c ≡ goes []

-- none of the messages that the code names
pub record IsNone (x : Message) : Type 0 where
  pub disconnect : (reason : ℕ) (description language : Bor (List ℕ)) → x ≡ message.Disconnect reason description language → ⊥
  pub request : (service : Bor (List ℕ)) → x ≡ message.ServiceRequest service → ⊥
  pub accept : (service : Bor (List ℕ)) → x ≡ message.ServiceAccept service → ⊥
  pub kexinit : (peer : Box kexinit.KexInit Global) → x ≡ message.KexInit peer → ⊥
  pub newkeys : x ≡ message.NewKeys → ⊥
  pub kexdh_init : (e : mpint.Mpint) → x ≡ message.KexdhInit e → ⊥
  pub kexdh_reply : (host_key : Bor (List ℕ)) (f : mpint.Mpint) (signature : Bor (List ℕ)) → x ≡ message.KexdhReply host_key f signature → ⊥
  pub kex_ecdh_init : (share : Bor (List ℕ)) → x ≡ message.KexEcdhInit share → ⊥
  pub kex_ecdh_reply : (host_key share signature : Bor (List ℕ)) → x ≡ message.KexEcdhReply host_key share signature → ⊥
  pub user_request : (user service : Bor (List ℕ)) (request : method.Method) → x ≡ message.UserauthRequest user service request → ⊥
  pub failure : (listed : List (List ℕ)) (partial : Bool) → x ≡ message.UserauthFailure listed partial → ⊥
  pub success : x ≡ message.UserauthSuccess → ⊥
  pub confirmation : (algorithm key : Bor (List ℕ)) → x ≡ message.UserauthPkOk algorithm key → ⊥

module _ (setup : Setup) (known : Known) where
  pub ignores : (x : Message) → IsNone x → IsIgnored setup known (message_data x)
  unfolding step
  ignores (message.Disconnect reason description language) h = absurd (h.disconnect reason description language refl)
  ignores (message.ServiceRequest service) h = absurd (h.request service refl)
  ignores (message.ServiceAccept service) h = absurd (h.accept service refl)
  ignores (message.KexInit peer) h = absurd (h.kexinit peer refl)
  ignores message.NewKeys h = absurd (h.newkeys refl)
  ignores (message.KexdhInit e) h = absurd (h.kexdh_init e refl)
  ignores (message.KexdhReply host_key f signature) h = absurd (h.kexdh_reply host_key f signature refl)
  ignores (message.KexEcdhInit share) h = absurd (h.kex_ecdh_init share refl)
  ignores (message.KexEcdhReply host_key share signature) h = absurd (h.kex_ecdh_reply host_key share signature refl)
  ignores (message.UserauthRequest user service request) h = absurd (h.user_request user service request refl)
  ignores (message.UserauthFailure listed partial) h = absurd (h.failure listed partial refl)
  ignores message.UserauthSuccess h = absurd (h.success refl)
  ignores (message.UserauthPkOk algorithm key) h = absurd (h.confirmation algorithm key refl)
  ignores _ h = record { plain = plain_number _ refl; work_is = refl }
