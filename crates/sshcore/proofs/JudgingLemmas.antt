-- What a packet is taken for, by its line of the phase table.

use Rattle.std.proofs.Common.{◌≡◌, ℕ, true, false, List, None, Some, option_map, Result, Ok, Err, refl, sym, ap, subst, ◌∙◌}
use Rattle.std.specs.Prelude.{◌&&◌}
use Rattle.std.proofs.lemmas.Bool.{and_parts, true≢false}
use Rattle.sshmsg.specs.declared.fault.MsgFault.{MsgFault}
use Rattle.sshmsg.specs.MessageData.{KexEcdhInit, KexEcdhReply, KexdhInit, KexdhReply, MessageData, ServiceAccept, UserauthFailure, UserauthPkOk, UserauthRequest}
use Rattle.sshmsg.specs.Messages.{Spells, message_in}
use Rattle.sshmsg.specs.View.{message_data}
use Rattle.sshmsg.specs.Numbers.{message_number, number_of}
use Rattle.sshneg.specs.declared.side.Side.{Side}
use Rattle.sshpacket.specs.Suite.{SuiteData}
use Rattle.sshcore.specs.declared.end.Fault.TheVariants as fault
use Rattle.sshcore.specs.declared.judging.Judged.{Judged}
use Rattle.sshcore.specs.declared.judging.Judged.TheVariants as judged
use Rattle.sshcore.specs.declared.pending.Pending.{Pending}
use Rattle.sshcore.specs.declared.phase_table.Disposition.{Disposition}
use Rattle.sshcore.specs.declared.phase_table.Disposition.TheVariants as disposition
use Rattle.sshcore.specs.EndData.{fails}
use Rattle.sshcore.specs.EndpointParts.{ConfigData, DecisionsData, setup_with}
use Rattle.sshcore.specs.IgnoredLimit.{is_taken, overspends}
use Rattle.sshcore.specs.Judging.{IsJudged, IsPending, is_at_once, line_of, pending_in}
use Rattle.sshcore.specs.KnownBefore.{Known}
use Rattle.sshcore.specs.QuestionAt.{question_at}
use Rattle.sshcore.specs.QuestionsView.{pending_question}
use Rattle.sshcore.specs.Replies.{disposition_reply}
use Rattle.sshcore.specs.StateData.{StateData}
use Rattle.sshcore.specs.Step.{asked_in}
use Rattle.sshcore.specs.Table.{is_ignorable}
use Rattle.sshcore.specs.Work.{step}
use Rattle.sshcore.proofs.PendingLemmas.{disposition_off, disposition_on, disposition_unread}

module _ (m : SuiteData) (role : Side) (config : ConfigData) (kept : StateData) (payload : List ℕ) (d : DecisionsData) (packet : ℕ) where
  -- more came that says nothing than is taken
  pub overspent : (l : Disposition) → line_of role kept payload ≡ l → (is_taken l && overspends kept.known.allowance payload) ≡ true
      → disposition_reply (setup_with m d role config) kept.known packet (line_of role kept payload) payload ≡ fails fault.TooMuchIgnored
  unfolding disposition_reply
  overspent disposition.Reads is over = rw (is, over) refl
  overspent disposition.Unknown is over = rw (is, over) refl
  overspent disposition.Drops is over = absurd (true≢false (sym over))
  overspent disposition.Deviates is over = absurd (true≢false (sym over))
  overspent disposition.Unexpected is over = absurd (true≢false (sym over))

  pub deviates : (n : ℕ) → n ≡ message_number payload → line_of role kept payload ≡ disposition.Deviates
      → disposition_reply (setup_with m d role config) kept.known packet (line_of role kept payload) payload ≡ fails (fault.Strict n)
  unfolding disposition_reply
  deviates n same is = rw (is, same) refl

  pub unexpected : (n : ℕ) → n ≡ message_number payload → line_of role kept payload ≡ disposition.Unexpected
      → disposition_reply (setup_with m d role config) kept.known packet (line_of role kept payload) payload ≡ fails (fault.Unexpected n)
  unfolding disposition_reply
  unexpected n same is = rw (is, same) refl

  -- what can't be read
  pub malformed : (n : ℕ) → n ≡ message_number payload → line_of role kept payload ≡ disposition.Reads → overspends kept.known.allowance payload ≡ false
      → (e : MsgFault) → message_in kept.known.shares payload ≡ Err e
      → disposition_reply (setup_with m d role config) kept.known packet (line_of role kept payload) payload ≡ fails (fault.Malformed n)
  unfolding disposition_reply
  malformed n same is within e read = rw (is, within, read, same) refl

-- what may be ignored asks nothing
module _ (m : SuiteData) (role : Side) (config : ConfigData) (known : Known) where
  ignored_calm : (c : MessageData) → is_ignorable (number_of c) ≡ true → asked_in (step m role config known c) ≡ None
  unfolding step
  ignored_calm (KexdhInit e) h = absurd (true≢false (sym h))
  ignored_calm (KexEcdhInit e) h = absurd (true≢false (sym h))
  ignored_calm (KexdhReply host_key f signature) h = absurd (true≢false (sym h))
  ignored_calm (KexEcdhReply host_key share signature) h = absurd (true≢false (sym h))
  ignored_calm (ServiceAccept service) h = absurd (true≢false (sym h))
  ignored_calm (UserauthRequest user service method) h = absurd (true≢false (sym h))
  ignored_calm (UserauthFailure listed partial) h = absurd (true≢false (sym h))
  ignored_calm (UserauthPkOk algorithm key) h = absurd (true≢false (sym h))
  ignored_calm _ h = refl

-- what a packet asks, by what it was taken for
module _ (m : SuiteData) (role : Side) (config : ConfigData) (kept : StateData) (payload : List ℕ) where
  -- what can't be read, has no meaning, or isn't read asks nothing
  pub unread_calm : (l : Disposition) → line_of role kept payload ≡ l → (l ≡ disposition.Reads → ⊥) → question_at m role config kept payload ≡ None
  unread_calm l is off = disposition_off m role config kept.known (line_of role kept payload) payload (λ reads. off (sym is ∙ reads))

  pub malformed_calm : (e : MsgFault) → line_of role kept payload ≡ disposition.Reads → message_in kept.known.shares payload ≡ Err e → question_at m role config kept payload ≡ None
  malformed_calm e is read = sym (disposition_unread m role config kept.known (line_of role kept payload) payload e is read)

  -- nor does what comes in excess
  pub overspent_calm : ((c : MessageData) → message_in kept.known.shares payload ≡ Ok c → message_number payload ≡ number_of c)
      → (l : Disposition) → line_of role kept payload ≡ l → (is_taken l && overspends kept.known.allowance payload) ≡ true → question_at m role config kept payload ≡ None
  overspent_calm numbers disposition.Reads is over = by (message_in kept.known.shares payload) refl
    where
      by : (r : Result MessageData MsgFault) → message_in kept.known.shares payload ≡ r → question_at m role config kept payload ≡ None
      by (Err e) read = malformed_calm e is read
      by (Ok c) read =
          sym (disposition_on m role config kept.known (line_of role kept payload) payload c is read)
          ∙ ignored_calm m role config kept.known c (ap is_ignorable (sym (numbers c read)) ∙ (and_parts (is_ignorable (message_number payload)) _ over).0)
  overspent_calm numbers disposition.Unknown is over = unread_calm disposition.Unknown is (λ e. cc)
  overspent_calm numbers disposition.Drops is over = absurd (true≢false (sym over))
  overspent_calm numbers disposition.Deviates is over = absurd (true≢false (sym over))
  overspent_calm numbers disposition.Unexpected is over = absurd (true≢false (sym over))

  -- what a packet was taken for says what it asks
  pub judged_asks : ((c : MessageData) → Spells kept.known.shares c payload → message_in kept.known.shares payload ≡ Ok c)
      → (j : Judged) → IsJudged m role config kept payload j → option_map pending_question (pending_in j) ≡ question_at m role config kept payload
  judged_asks read judged.Drops is = sym (unread_calm disposition.Drops is (λ e. cc))
  judged_asks read (judged.Fails fault) is = sym is.2
  judged_asks read judged.Unknown is = sym (unread_calm disposition.Unknown is.0 (λ e. cc))
  judged_asks read (judged.Reads message) is =
      sym is.calm ∙ disposition_on m role config kept.known (line_of role kept payload) payload (message_data message) is.read.reads (read (message_data message) is.read.spelled)
  judged_asks read (judged.Asks message p) is =
      sym is.asks ∙ disposition_on m role config kept.known (line_of role kept payload) payload (message_data message) is.read.reads (read (message_data message) is.read.spelled)

  pub pending_judged : (j : Judged) (p : Pending) → pending_in j ≡ Some p → IsJudged m role config kept payload j → (c : MessageData) × IsPending m role config kept payload c p
  pending_judged judged.Drops p e is = absurd cc
  pending_judged (judged.Fails fault) p e is = absurd cc
  pending_judged judged.Unknown p e is = absurd cc
  pending_judged (judged.Reads message) p e is = absurd cc
  pending_judged (judged.Asks message q) p e is = let same : q ≡ p = cc in (message_data message, subst (IsPending m role config kept payload (message_data message)) same is)

  -- and so what it asks at its place
  pub pending_asks : (c : MessageData) (p : Pending) → message_in kept.known.shares payload ≡ Ok c → IsPending m role config kept payload c p → question_at m role config kept payload ≡ Some (pending_question p)
  pending_asks c p read is = sym (disposition_on m role config kept.known (line_of role kept payload) payload c is.read.reads read) ∙ is.asks

-- what asks nothing has no question
pub calm_pending : (j : Judged) → is_at_once j ≡ true → pending_in j ≡ None
calm_pending judged.Drops a = refl
calm_pending (judged.Fails fault) a = refl
calm_pending judged.Unknown a = refl
calm_pending (judged.Reads message) a = refl
calm_pending (judged.Asks message q) a = absurd cc
