-- What a payload that is a message brings an endpoint, and where it stands after it.

use Rattle.std.proofs.Common.{◌≡◌, ℕ, ◌+◌, ◌==◌, Bool, true, false, List, [], ◌∷◌, ◌++◌, Option, None, Some, Ok, refl, sym, ap, subst, ◌∙◌, if◌then◌else◌}
use Rattle.std.proofs.lemmas.Bool.{and_from, and_parts, and_right, true≢false}
use Rattle.std.proofs.lemmas.Slice.Eq.{bytes_eq-Decides}
use Rattle.sshwire.specs.declared.share_form.ShareForm.TheVariants.{Mpint}
use Rattle.sshmsg.specs.MessageData.{KexInit, KexInitData, MessageData}
use Rattle.sshmsg.specs.Messages.{message_in}
use Rattle.sshmsg.specs.Numbers.{message_number, number_of}
use Rattle.sshmsg.proofs.NumberLemmas.{message_number_tells, reads_alike}
use Rattle.sshneg.specs.declared.side.Side.{Side}
use Rattle.sshneg.specs.declared.side.Side.TheVariants.{Client, Server}
use Rattle.sshneg.specs.ChoiceReadings.{choice}
use Rattle.sshneg.specs.ExchangeEnd.{client_of, exchange_hash, offer_by, server_of}
use Rattle.sshneg.specs.Markers.{IsRightGuess, first_name, methods, same_name}
use Rattle.sshneg.specs.Strictness.{is_right_guess}
use Rattle.sshpacket.specs.Stream.{Units}
use Rattle.sshpacket.specs.Suite.{SuiteData}
use Rattle.sshcore.specs.declared.end.Fault.TheVariants as fault
use Rattle.sshcore.specs.declared.phase_table.Disposition.{Disposition}
use Rattle.sshcore.specs.declared.phase_table.Disposition.TheVariants as disposition
use Rattle.sshcore.specs.declared.phase_table.Phase.{Phase}
use Rattle.sshcore.specs.declared.phase_table.Phase.TheVariants as phase
use Rattle.sshcore.specs.IgnoredLimit.{cost, less}
use Rattle.sshcore.specs.Before.{strict_towards, wrong_guess}
use Rattle.sshcore.specs.Counting.{number_in}
use Rattle.sshcore.specs.EndData.{fails, goes}
use Rattle.sshcore.specs.Exchange.{exchange_with}
use Rattle.sshcore.specs.KnownBefore.{Known}
use Rattle.sshcore.specs.EndpointParts.{ConfigData, DecisionsData, Setup}
use Rattle.sshcore.specs.Phases.{leaving, next_phase, past_exchange}
use Rattle.sshcore.specs.ConfigParts.{AttemptData}
use Rattle.sshcore.specs.Plan.{confirmed, is_answer, is_waiting, listed_by, listed_in, next_after}
use Rattle.sshcore.specs.CompletedMethods.{completed_after}
use Rattle.sshcore.specs.Tries.{tried_by, tried_in}
use Rattle.sshcore.specs.Replies.{disposition_reply, read_reply, reply_at}
use Rattle.sshcore.specs.Standing.{LeavesNone, Sits, after_offer, after_payload, nothing_known}
use Rattle.sshcore.specs.Table.{disposition_by, is_ignorable}
use Rattle.sshcore.specs.Work.{chosen_reply, kexinit_reply}
use Rattle.sshcore.proofs.IgnoredLimitLemmas.{always_allowed}
use Rattle.sshcore.proofs.LawsBelow.{Below}
use Rattle.sshcore.proofs.StandingLemmas as standing
use Rattle.sshcore.proofs.StepLemmas.{work_is, worked}

-- two names that are the same
record SameName (a b : Option (List ℕ)) : Type 0 where
  name : List ℕ
  left : a ≡ Some name
  right : b ≡ Some name

same_sound : (a b : Option (List ℕ)) → same_name a b ≡ true → SameName a b
same_sound (Some x) (Some y) e = record { name = x; left = refl; right = ap Some (sym ((bytes_eq-Decides x y).0 e)) }
same_sound (Some x) None e = absurd (true≢false (sym e))
same_sound None b e = absurd (true≢false (sym e))

same_complete : (a b : Option (List ℕ)) (x : List ℕ) → a ≡ Some x → b ≡ Some x → same_name a b ≡ true
same_complete a b x e f = rw (e, f) ((bytes_eq-Decides x x).1 refl)

pub right_sound : (client server : KexInitData) → is_right_guess client server ≡ true → IsRightGuess client server
right_sound client server e =
    let p = and_parts (same_name (first_name (methods client.kex_algorithms)) (first_name (methods server.kex_algorithms))) (same_name (first_name client.server_host_key_algorithms) (first_name server.server_host_key_algorithms)) e in
    let k = same_sound (first_name (methods client.kex_algorithms)) (first_name (methods server.kex_algorithms)) p.0 in
    let h = same_sound (first_name client.server_host_key_algorithms) (first_name server.server_host_key_algorithms) p.1 in
    record { kex = k.name; client_kex = k.left; server_kex = k.right; host_key = h.name; client_host_key = h.left; server_host_key = h.right }

right_complete : (client server : KexInitData) → IsRightGuess client server → is_right_guess client server ≡ true
right_complete client server r =
    and_from _ _ (same_complete (first_name (methods client.kex_algorithms)) (first_name (methods server.kex_algorithms)) r.kex r.client_kex r.server_kex)
    (same_complete (first_name client.server_host_key_algorithms) (first_name server.server_host_key_algorithms) r.host_key r.client_host_key r.server_host_key)

pub below : Below
below = record { numbers = message_number_tells; alike = reads_alike; right = λ client server. (right_sound client server, right_complete client server) }

-- what a message changes that says something, and is neither dropped nor the first KEXINIT nor the exchange message
abbrev pub left_by : List AttemptData → MessageData → List AttemptData
left_by left content = if number_of content == 60 then confirmed left else next_after (listed_by (Ok content)) left

abbrev pub after_content : SuiteData → DecisionsData → ConfigData → Known → MessageData → Known
after_content m d config x content = record x {
  request = if number_of content == 50 then x.request + 1 else x.request;
  left = if is_answer (number_of content) then left_by x.left content else x.left;
  completed = if number_of content == 50 then completed_after x.completed (tried_by m d config x.session x.request (Ok content)) else x.completed;
  first = false;
  allowance = if number_of content == 21 then config.ignored_limit else x.allowance;
}

after_read : (m : SuiteData) (d : DecisionsData) (config : ConfigData) (x : Known) (payload : List ℕ) (content : MessageData) → is_ignorable (number_of content) ≡ false → message_in Mpint payload ≡ Ok content
    → after_payload m d config x payload ≡ after_content m d config x content
unfolding listed_in tried_in
after_read m d config x payload content heeded e =
    ap (λ (n : ℕ). record x {
      request = if n == 50 then x.request + 1 else x.request;
      left = if is_answer n then (if n == 60 then confirmed x.left else next_after (listed_in payload) x.left) else x.left;
      completed = if n == 50 then completed_after x.completed (tried_in m d config x.session x.request payload) else x.completed;
      first = false;
      allowance = if n == 21 then config.ignored_limit else if is_ignorable n then less x.allowance (cost payload) else x.allowance;
    }) (message_number_tells Mpint payload content e)
    ∙ ap (λ r. record x {
      request = if number_of content == 50 then x.request + 1 else x.request;
      left = if is_answer (number_of content) then (if number_of content == 60 then confirmed x.left else next_after (listed_by r) x.left) else x.left;
      completed = if number_of content == 50 then completed_after x.completed (tried_by m d config x.session x.request r) else x.completed;
      first = false;
      allowance = if number_of content == 21 then config.ignored_limit else if is_ignorable (number_of content) then less x.allowance (cost payload) else x.allowance;
    }) e
    ∙ ap (λ (b : Bool). record x {
      request = if number_of content == 50 then x.request + 1 else x.request;
      left = if is_answer (number_of content) then left_by x.left content else x.left;
      completed = if number_of content == 50 then completed_after x.completed (tried_by m d config x.session x.request (Ok content)) else x.completed;
      first = false;
      allowance = if number_of content == 21 then config.ignored_limit else if b then less x.allowance (cost payload) else x.allowance;
    }) heeded

-- what leaves a phase says something
leaving_heeded : (role : Side) (p : Phase) (n : ℕ) → n ≡ leaving role p → is_ignorable n ≡ false
leaving_heeded Client phase.KexInit n e = rw e refl
leaving_heeded Client phase.Exchange n e = rw e refl
leaving_heeded Client phase.NewKeys n e = rw e refl
leaving_heeded Client phase.Service n e = rw e refl
leaving_heeded Client phase.Auth n e = rw e refl
leaving_heeded Server phase.KexInit n e = rw e refl
leaving_heeded Server phase.Exchange n e = rw e refl
leaving_heeded Server phase.NewKeys n e = rw e refl
leaving_heeded Server phase.Service n e = rw e refl
leaving_heeded Server phase.Auth n e = rw e refl

first_line : (role : Side) (b waits : Bool) → disposition_by role phase.KexInit b false waits 20 ≡ disposition.Reads
unfolding disposition_by
first_line role b waits = refl

module _ (setup : Setup) (version : List ℕ) where
  -- a message that has a place and says something is worked on
  pub reads : (before : Units) (payload : List ℕ) (p : Phase) (guess : Bool) (x : Known) (content : MessageData) → is_ignorable (number_of content) ≡ false → Sits setup version before p guess x
      → message_in x.shares payload ≡ Ok content → disposition_by setup.role p x.strict guess (is_waiting x.left) (number_of content) ≡ disposition.Reads
      → reply_at setup version before payload ≡ worked setup x content
  unfolding disposition_reply
  reads before payload p guess x content heeded s e is =
      standing.replies setup version before payload p guess x s
      ∙ ap (λ (n : ℕ). disposition_reply setup x (number_in setup.role setup.config before) (disposition_by setup.role p x.strict guess (is_waiting x.left) n) payload) (message_number_tells x.shares payload content e)
      ∙ ap (λ (l : Disposition). disposition_reply setup x (number_in setup.role setup.config before) l payload) is
      ∙ always_allowed x payload (read_reply setup x (message_number payload) (message_in x.shares payload)) (ap is_ignorable (message_number_tells x.shares payload content e) ∙ heeded)
      ∙ ap (λ r. read_reply setup x (message_number payload) r) e
      ∙ work_is setup x content

  pub drops : (before : Units) (payload : List ℕ) (p : Phase) (guess : Bool) (x : Known) → Sits setup version before p guess x
      → disposition_by setup.role p x.strict guess (is_waiting x.left) (message_number payload) ≡ disposition.Drops → reply_at setup version before payload ≡ goes []
  unfolding disposition_reply
  drops before payload p guess x s is =
      standing.replies setup version before payload p guess x s
      ∙ ap (λ (l : Disposition). disposition_reply setup x (number_in setup.role setup.config before) l payload) is

  -- the peer's KEXINIT, the first payload
  pub begins : (payload : List ℕ) (peer : KexInitData) → message_in Mpint payload ≡ Ok (KexInit peer)
      → Sits setup version (payload ∷ []) phase.Exchange (wrong_guess setup.role setup.config.offer (Some peer)) (after_offer setup.suite setup.role setup.config (nothing_known setup.config version) payload peer)
  begins payload peer e = standing.offers setup version [] payload below peer (nothing_known setup.config version) (standing.begins setup version) (ap offer_by e)

  pub replies_first : (payload : List ℕ) (peer : KexInitData) → message_in Mpint payload ≡ Ok (KexInit peer)
      → reply_at setup version [] payload ≡ chosen_reply setup.suite setup.role setup.config peer (choice setup.suite (client_of setup.role setup.config.offer peer) (server_of setup.role setup.config.offer peer))
  unfolding worked kexinit_reply
  replies_first payload peer e =
      reads [] payload phase.KexInit false (nothing_known setup.config version) (KexInit peer) refl (standing.begins setup version) e (first_line setup.role false (is_waiting setup.config.plan))
      ∙ ap (λ (b : Bool). if b then fails (fault.Strict 20) else chosen_reply setup.suite setup.role setup.config peer (choice setup.suite (client_of setup.role setup.config.offer peer) (server_of setup.role setup.config.offer peer))) (and_right (strict_towards setup.role setup.config.strict (Some peer)) false refl)

  -- the packet of a wrong guess changes nothing but that none is due any more
  pub goes_dropped : (before : Units) (payload : List ℕ) (p : Phase) (x : Known) → Sits setup version before p true x → (message_number payload == 1) ≡ false
      → Sits setup version (before ++ payload ∷ []) p false (record x { first = false })
  goes_dropped before payload p x s one = standing.drops setup version before payload p x s one

  -- a message after the exchange
  pub goes_leaving : (before : Units) (payload : List ℕ) (p : Phase) (x : Known) (content : MessageData) → Sits setup version before p false x → past_exchange p ≡ true
      → message_in Mpint payload ≡ Ok content → number_of content ≡ leaving setup.role p → Sits setup version (before ++ payload ∷ []) (next_phase p) false (after_content setup.suite setup.decisions setup.config x content)
  goes_leaving before payload p x content s past e n =
      subst (λ (k : Known). Sits setup version (before ++ payload ∷ []) (next_phase p) false k) (after_read setup.suite setup.decisions setup.config x payload content (leaving_heeded setup.role p (number_of content) n) e)
      (standing.leaves setup version before payload p x s past (message_number_tells Mpint payload content e ∙ n))

  pub goes_staying : (before : Units) (payload : List ℕ) (p : Phase) (x : Known) (content : MessageData) → is_ignorable (number_of content) ≡ false → Sits setup version before p false x
      → message_in Mpint payload ≡ Ok content → LeavesNone setup.role (number_of content) → Sits setup version (before ++ payload ∷ []) p false (after_content setup.suite setup.decisions setup.config x content)
  goes_staying before payload p x content heeded s e l =
      subst (λ (k : Known). Sits setup version (before ++ payload ∷ []) p false k) (after_read setup.suite setup.decisions setup.config x payload content heeded e)
      (standing.stays setup version before payload p x s (subst (λ (n : ℕ). LeavesNone setup.role n) (sym (message_number_tells Mpint payload content e)) l))

  -- the exchange message gives the session
  pub goes_exchanged : (before : Units) (payload : List ℕ) (x : Known) (content : MessageData) → Sits setup version before phase.Exchange false x → message_in x.shares payload ≡ Ok content
      → number_of content ≡ leaving setup.role phase.Exchange
      → Sits setup version (before ++ payload ∷ []) phase.NewKeys false
      (record x { session = exchange_hash setup.suite x.algorithms.kex (exchange_with setup.suite setup.role setup.config x.algorithms x.version x.kexinit (Ok content)) })
  goes_exchanged before payload x content s e n =
      subst (λ (r : _). Sits setup version (before ++ payload ∷ []) phase.NewKeys false (record x { session = exchange_hash setup.suite x.algorithms.kex (exchange_with setup.suite setup.role setup.config x.algorithms x.version x.kexinit r) }))
      e (standing.exchanges setup version before payload x s (message_number_tells x.shares payload content e ∙ n))
