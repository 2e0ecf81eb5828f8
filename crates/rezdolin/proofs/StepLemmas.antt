-- Calls of an endpoint, by the record that they go on from.

use Rattle.std.proofs.Common.{◌≡◌, ◌≢◌, ◌∙◌, ◌≤◌, ◌<◌, ℕ, ◌+◌, ◌-◌, Bool, true, false, List, [], ◌++◌, IfErr, IfOk, OnOk, Option, None, Some, Result, Ok, Err, IsSome, is_some, option_map, ap, append_assoc, arith, drop, inl, inr, length, refl, subst, suc, sym, take, zero}
use Rattle.std.proofs.lemmas.List.{append-nil, length-drop}
use Rattle.std.proofs.Math.Seq.{take-add, take-length}
use Rattle.sha2.proofs.Facts256.{length-sha256}
use Rattle.sshneg.specs.declared.side.Side.{Side}
use Rattle.sshneg.specs.declared.side.Side.TheVariants.{Client, Server}
use Rattle.sshsuite.specs.declared.deployed_suite.DeployedSuite.{DeployedSuite}
use Rattle.sshsuite.specs.Deployed.{deployed}
use Rattle.sshpacket.specs.Suite.{SuiteData}
use Rattle.sshcore.specs.declared.record_fault.RecordFault.{RecordFault}
use Rattle.sshcore.specs.declared.record_fault.RecordFault.TheVariants as no_record
use Rattle.sshcore.specs.declared.end.Fault.{Fault}
use Rattle.sshcore.specs.declared.end.Fault.TheVariants as fault
use Rattle.sshcore.specs.declared.session.Session.{Session}
use Rattle.sshcore.specs.Asking.{Answered, AskingAfter, AskingFed, AskingLeaves, AskingMade, asked_at, asked_by, asking_end}
use Rattle.sshcore.specs.AskingData.{AskingData, WaitingData, asking_setup}
use Rattle.sshcore.specs.EndData.{AgreedData, Authenticated, Closed, Disconnected, EndData, Failed, Open, by_input, parting}
use Rattle.sshcore.specs.EndpointParts.{ConfigData, DecisionsData, Setup, config_of_client, config_of_server, setup_with}
use Rattle.sshcore.specs.Paused.{FitsPaused, IsResumed, PausedAfter, PausedData, asked_paused, paused_end}
use Rattle.sshcore.specs.Questions.{AnswerData, Decided, HostKeyQuestion, QuestionData, Signed, SignatureQuestion, UserQuestion, decided, decided_by, taken, taken_by}
use Rattle.sshcore.specs.declared.asking_question.Question.{Question}
use Rattle.sshcore.specs.QuestionsView.{question_data}
use Rattle.sshcore.specs.Record.{IsRecordOf}
use Rattle.sshcore.specs.RecordHolding.{IsHolding}
use Rattle.sshcore.specs.RecordMade.{GoesOnFrom, IsAsFar}
use Rattle.rezdolin.specs.Trust.{trust_policy}
use Rattle.sshcore.specs.Sessions.{IsSession}
use Rattle.rezdolin.specs.declared.answers.EndNumbers.{EndNumbers}
use Rattle.rezdolin.specs.declared.parts_of.Config.{Config}
use Rattle.rezdolin.specs.declared.parts_of.Config.TheVariants as config
use Rattle.rezdolin.specs.declared.parts_of.Parts.{Parts}
use Rattle.rezdolin.specs.declared.parts_of.Parts.TheVariants as parts
use Rattle.rezdolin.specs.declared.trust.Trust.{Trust}
use Rattle.rezdolin.specs.declared.answers.TheConstants.{END_ASKS, END_FAILED, END_OPEN}
use Rattle.rezdolin.specs.declared.answers.StepAnswer.{StepAnswer}
use Rattle.rezdolin.specs.declared.steps.Came.{Came}
use Rattle.rezdolin.specs.Answers.{end_numbers, fault_numbers, no_step}
use Rattle.sshcore.proofs.AskedNothing.{asked_none}
use Rattle.rezdolin.specs.CarriedOn.{CarriesOn}
use Rattle.sshcore.specs.ConfigRules.{IsClient, IsServer}
use Rattle.rezdolin.specs.Endpoints.{AreAllowed, AreListed, AreRead, AreTaken, HasDrawn, IsConfigOf, IsNone, IsRecordAfter, Resumes, Trusts, config_in, digest_of, means, role_in, setup_of}
use Rattle.rezdolin.specs.declared.frame.FrameFault.{FrameFault}
use Rattle.rezdolin.specs.declared.frame.FrameFault.TheVariants as frame
use Rattle.rezdolin.specs.Frames.{IsFrameFault, IsFrameOf, framed}
use Rattle.rezdolin.specs.PartsText.{client_text, server_text}
use Rattle.rezdolin.proofs.FrameLemmas.{frame_cut, frame_one}
use Rattle.rezdolin.specs.declared.steps.NoStep.{NoStep}
use Rattle.rezdolin.specs.declared.steps.NoStep.TheVariants as no
use Rattle.rezdolin.specs.StepsView.{WhyNoAnswer, WhyNoLeave, WhyNoReply, WhyNotFrom, frame_step, record_step}
use Rattle.rezdolin.specs.Questions.{told_end, told_question}
use Rattle.rezdolin.specs.Records.{spelled}
use Rattle.rezdolin.specs.Steps.{Calls, ComesTo, IsAnswered, IsNoRecord, IsReply, LeavesWith, StandsBy, StandsHere, StandsNow, Starts, Tells, is_for, is_of_kind}

-- the setup of an endpoint with the config of these parts
pub same_setup : (parts : Parts) (made : Config) (d : DecisionsData) → IsConfigOf parts made → setup_with deployed d (role_in made) (config_in made) ≡ setup_of parts d
same_setup (parts.Client client) (config.Client made) d is = ap (λ m. setup_with deployed d Client (config_of_client m)) is.0
same_setup (parts.Client client) (config.Server made) d is = absurd is
same_setup (parts.Server server) (config.Client made) d is = absurd is
same_setup (parts.Server server) (config.Server made) d is = ap (λ m. setup_with deployed d Server (config_of_server m)) is.0

-- what decisions of an endpoint answer
pub decisions_of : (p : Parts) (d : DecisionsData) → (setup_of p d).decisions ≡ d
decisions_of (parts.Client client) d = refl
decisions_of (parts.Server server) d = refl

by_setup : (p : Parts) (a : AnswerData) (d : DecisionsData) (question : QuestionData) → decided (setup_of p d).decisions question ≡ a → decided d question ≡ a
by_setup p a d question x = ap (λ (o : DecisionsData). decided o question) (sym (decisions_of p d)) ∙ x

taken_same : (question : QuestionData) (a : AnswerData) → is_of_kind a question ≡ true → taken question a ≡ a
taken_same (HostKeyQuestion algorithm blob) (Decided allowed) kind = refl
taken_same (HostKeyQuestion algorithm blob) (Signed found) kind = cc
taken_same (UserQuestion number user service proof signed) (Decided allowed) kind = refl
taken_same (UserQuestion number user service proof signed) (Signed found) kind = cc
taken_same (SignatureQuestion number algorithm blob input) (Decided allowed) kind = cc
taken_same (SignatureQuestion number algorithm blob input) (Signed found) kind = refl

given_so : (asked : Option QuestionData) (question : QuestionData) (d : DecisionsData) (a : AnswerData) → asked ≡ Some question → is_for a asked ≡ true
    → decided d question ≡ a → decided_by d asked ≡ taken_by asked a
given_so asked question d a is kind gives =
    ap (λ (o : Option QuestionData). decided_by d o) is ∙ (gives ∙ (sym (taken_same question a (ap (λ (o : Option QuestionData). is_for a o) (sym is) ∙ kind))
    ∙ ap (λ (o : Option QuestionData). taken_by o a) (sym is)))

true_or : (b : Bool) → (b ≡ false → b ≡ true) → b ≡ true
true_or true f = refl
true_or false f = f refl

-- what ends an endpoint that was open is what it has received
brought_so : (old new : EndData) → old ≡ Open → (by_input new ≡ false → old ≡ new) → by_input new ≡ true
brought_so old new is owned = true_or (by_input new) (λ e. ap by_input (sym (owned e) ∙ is))

-- a failure is told as one
fault_end : (f : Fault) → (fault_numbers f).end ≡ END_FAILED
fault_end fault.Version = refl
fault_end fault.Length = refl
fault_end fault.Padding = refl
fault_end fault.Mac = refl
fault_end (fault.Malformed number) = refl
fault_end (fault.Unexpected number) = refl
fault_end (fault.Strict number) = refl
fault_end (fault.NoCommon f) = refl
fault_end fault.Exchange = refl
fault_end fault.HostKey = refl
fault_end fault.Signature = refl
fault_end fault.Service = refl
fault_end fault.TooManyTries = refl
fault_end fault.NoMoreMethods = refl
fault_end fault.Memory = refl
fault_end fault.Cut = refl
fault_end fault.TooMuchIgnored = refl

told_end_of : (f : Fault) (told : EndNumbers) → told ≡ fault_numbers f → told.end ≡ END_FAILED
told_end_of f told is = ap (λ (n : EndNumbers). n.end) is ∙ fault_end f

-- no end is told as a question
pub no_question : (end : EndData) (told : EndNumbers) → told ≡ end_numbers end → told.end ≢ END_ASKS
no_question Open told is e = cc
no_question (Authenticated a) told is e = cc
no_question (Failed f) told is e = let failed = told_end_of f told is in cc
no_question (Closed reason) told is e = cc
no_question (Disconnected reason) told is e = cc

-- and only an open one as open
pub only_open : (end : EndData) (told : EndNumbers) → told ≡ end_numbers end → told.end ≡ END_OPEN → end ≡ Open
only_open Open told is e = refl
only_open (Authenticated a) told is e = cc
only_open (Failed f) told is e = let failed = told_end_of f told is in cc
only_open (Closed reason) told is e = cc
only_open (Disconnected reason) told is e = cc

pub open_asks_none : (asked : Option QuestionData) (told : EndNumbers) → told ≡ told_end Open asked → told.end ≡ END_OPEN → asked ≡ None
open_asks_none None told is e = refl
open_asks_none (Some question) told is e = cc

-- an open endpoint that asks nothing is told as one
pub open_quiet : (asked : Option QuestionData) (told : EndNumbers) → told ≡ told_end Open asked → asked ≡ None → told.end ≢ END_ASKS
open_quiet asked told is none = no_question Open told (is ∙ ap (λ (o : Option QuestionData). told_end Open o) none)

-- parts of which a config was made
pub taken_so : (parts : Parts) (made : Config) → AreRead parts → HasDrawn parts → IsConfigOf parts made → AreTaken parts
taken_so (parts.Client client) (config.Client made) read drawn is = (read, drawn, subst IsClient is.0 is.1, is.2)
taken_so (parts.Client client) (config.Server made) read drawn is = absurd is
taken_so (parts.Server server) (config.Client made) read drawn is = absurd is
taken_so (parts.Server server) (config.Server made) read drawn is = (read, drawn, subst IsServer is.0 is.1, is.2)

module _ (parts : Parts) (made : Config) (is : IsConfigOf parts made) where
  -- an endpoint with this config has the setup of the parts
  pub setup_is : (d : DecisionsData) (e : AskingData DeployedSuite) → e.role ≡ role_in made → e.config ≡ config_in made → asking_setup means d e ≡ setup_of parts d
  setup_is d e role config =
      ap (λ (r : Side). setup_with deployed d r e.config) role ∙ (ap (λ (p : ConfigData). setup_with deployed d (role_in made) p) config ∙ same_setup parts made d is)

  -- the record in a frame is that of each endpoint whose frame it is
  pub of_record : (bytes text digest h s : List ℕ) (d : DecisionsData) (question : Option QuestionData) → digest ≡ digest_of parts → bytes ≡ framed digest text
      → (stood : StandsBy (setup_of parts d) (digest_of parts) bytes question h s)
      → (r : IsRecordAfter (setup_with deployed d (role_in made) (config_in made)) text h s) × (asked_paused r.endpoint ≡ question)
  of_record bytes text digest h s d question digest_is framed_is stood =
      subst (λ (setup : Setup). (r : IsRecordAfter setup text h s) × (asked_paused r.endpoint ≡ question)) (sym (same_setup parts made d is))
      (subst (λ (t : List ℕ). (r : IsRecordAfter (setup_of parts d) t h s) × (asked_paused r.endpoint ≡ question))
      (frame_cut (digest_of parts) stood.text text bytes stood.framed_is (framed_is ∙ ap (λ (x : List ℕ). framed x text) digest_is))
      (stood.recorded, stood.asks))

  -- no record of such an endpoint is in this frame
  pub of_none : (bytes text digest : List ℕ) → digest ≡ digest_of parts → bytes ≡ framed digest text → IsNone (role_in made) (config_in made) text → IsNoRecord parts bytes
  of_none bytes text digest digest_is framed_is none = λ d h s stood. none d h s (of_record bytes text digest h s d stood.0 digest_is framed_is stood.1).0

  -- an endpoint that went on stands now as it does
  pub now_so : (d : DecisionsData) (new : AskingData DeployedSuite) (digest h s : List ℕ) (end : EndNumbers) (bytes told : List ℕ) → digest ≡ digest_of parts
      → new.role ≡ role_in made → new.config ≡ config_in made → StandsNow (asking_setup means d new) digest h s end bytes told
      → StandsNow (setup_of parts d) (digest_of parts) h s end bytes told
  now_so d new digest h s end bytes told digest_is role config stands =
      subst (λ (x : List ℕ). StandsNow (setup_of parts d) x h s end bytes told) digest_is
      (subst (λ (setup : Setup). StandsNow setup digest h s end bytes told) (setup_is d new role config) stands)

  -- a call that begins
  pub begins_so : AreRead parts → HasDrawn parts → (e : AskingData DeployedSuite) (suite : DeployedSuite) (digest before sent : List ℕ) (end : EndNumbers) (bytes told : List ℕ) → digest ≡ digest_of parts
      → before ≡ [] → AskingMade means (role_in made) (config_in made) suite e before sent
      → ((d : DecisionsData) (h s : List ℕ) → AskingAfter means d e h s → by_input (asking_end e) ≡ true → StandsNow (asking_setup means d e) digest h s end bytes told)
      → (asked_by e ≡ None → end.end ≢ END_ASKS)
      → ComesTo parts Starts [] sent end bytes told
  begins_so read drawn e suite digest before sent end bytes told digest_is none m stands quiet = (
    taken_so parts made read drawn is,
    λ d allowed h s starts.
        let sent_is : sent ≡ m.added = m.appended ∙ ap (λ (x : List ℕ). x ++ m.added) none in
        let here = now_so d e digest [] m.added end bytes told digest_is m.is_role m.is_config (stands d [] m.added (m.begins d) (ap by_input m.is_open)) in
        subst (λ (x : List ℕ). StandsNow (setup_of parts d) (digest_of parts) (x ++ []) (s ++ sent) end bytes told) (sym starts.0)
        (subst (λ (x : List ℕ). StandsNow (setup_of parts d) (digest_of parts) [] (x ++ sent) end bytes told) (sym starts.1)
        (subst (λ (x : List ℕ). StandsNow (setup_of parts d) (digest_of parts) [] x end bytes told) (sym sent_is) here)),
    λ listed. quiet (ap (λ (w : Option WaitingData). asked_at (asking_end e) w) m.waits_for_none ∙ asked_none (asking_end e)),
  )

  -- a call that goes on from a record
  pub steps_so : AreRead parts → HasDrawn parts → (trust : Option Trust) (bytes text digest : List ℕ) (e new : AskingData DeployedSuite) (given before sent : List ℕ) (end : EndNumbers) (written told : List ℕ) → digest ≡ digest_of parts
      → bytes ≡ framed digest text → Resumes (role_in made) (config_in made) text e
      → ((d : DecisionsData) → AreAllowed parts d → Trusts trust d) → (AreListed parts → IsSome trust)
      → before ≡ [] → ((d : DecisionsData) → Trusts trust d → CarriesOn means d e new given before sent) → (IsSome trust → asked_by new ≡ None)
      → ((d : DecisionsData) (h s : List ℕ) → AskingAfter means d new h s → by_input (asking_end new) ≡ true → StandsNow (asking_setup means d new) digest h s end written told)
      → (asked_by new ≡ None → end.end ≢ END_ASKS)
      → ComesTo parts (StandsHere (digest_of parts) bytes) given sent end written told
  steps_so read drawn trust bytes text digest e new given before sent end written told digest_is framed_is resumes trusts lists none carries decides stands quiet = (
    taken_so parts made read drawn is,
    λ d allowed h s stood.
        let r = of_record bytes text digest h s d stood.0 digest_is framed_is stood.1 in
        let on = carries d (trusts d allowed) in
        let sent_is : sent ≡ on.added = on.appended ∙ ap (λ (x : List ℕ). x ++ on.added) none in
        let after = on.follows h s (resumes.follows d h s r.0) in
        subst (λ (x : List ℕ). StandsNow (setup_of parts d) (digest_of parts) (h ++ given) (s ++ x) end written told) (sym sent_is)
        (now_so d new digest (h ++ given) (s ++ on.added) end written told digest_is (on.same.same_role ∙ resumes.is_role) (on.same.same_config ∙ resumes.is_config)
        (stands d (h ++ given) (s ++ on.added) after (brought_so (asking_end e) (asking_end new) resumes.is_open on.owned))),
    λ listed. quiet (decides (lists listed)),
  )

  -- a call that goes on with an answer
  pub answers_so : AreRead parts → HasDrawn parts → (a : AnswerData) (bytes text digest : List ℕ) (e new : AskingData DeployedSuite) (before sent : List ℕ) (end : EndNumbers) (written told : List ℕ) → digest ≡ digest_of parts
      → bytes ≡ framed digest text → Resumes (role_in made) (config_in made) text e → is_for a (asked_by e) ≡ true
      → before ≡ [] → Answered means (taken_by (asked_by e) a) e new before sent → (by_input (asking_end new) ≡ false → asking_end e ≡ asking_end new)
      → ((d : DecisionsData) (h s : List ℕ) → AskingAfter means d new h s → by_input (asking_end new) ≡ true → StandsNow (asking_setup means d new) digest h s end written told)
      → (asked_by new ≡ None → end.end ≢ END_ASKS)
      → ComesTo parts (IsAnswered a (digest_of parts) bytes) [] sent end written told
  answers_so read drawn a bytes text digest e new before sent end written told digest_is framed_is resumes is_for_it none answered owned stands quiet = (
    taken_so parts made read drawn is,
    λ d allowed h s stood.
        let r = of_record bytes text digest h s d (Some stood.0) digest_is framed_is stood.1 in
        let asks : asked_by e ≡ Some stood.0 = resumes.asks d h s r.0 ∙ r.1 in
        let sent_is : sent ≡ answered.added = answered.appended ∙ ap (λ (x : List ℕ). x ++ answered.added) none in
        let given = given_so (asked_by e) stood.0 d a asks is_for_it (by_setup parts a d stood.0 stood.2) in
        let after = answered.follows d given h s (resumes.follows d h s r.0) in
        subst (λ (x : List ℕ). StandsNow (setup_of parts d) (digest_of parts) x (s ++ sent) end written told) (sym (append-nil h))
        (subst (λ (x : List ℕ). StandsNow (setup_of parts d) (digest_of parts) h (s ++ x) end written told) (sym sent_is)
        (now_so d new digest h (s ++ answered.added) end written told digest_is (answered.same.same_role ∙ resumes.is_role) (answered.same.same_config ∙ resumes.is_config)
        (stands d h (s ++ answered.added) after (brought_so (asking_end e) (asking_end new) resumes.is_open owned)))),
    λ listed. quiet (ap (λ (w : Option WaitingData). asked_at (asking_end new) w) answered.waits_for_none ∙ asked_none (asking_end new)),
  )

  -- an answer that answers nothing
  pub unasked_so : (a : AnswerData) (bytes text digest : List ℕ) (e : AskingData DeployedSuite) → digest ≡ digest_of parts → bytes ≡ framed digest text
      → Resumes (role_in made) (config_in made) text e → is_for a (asked_by e) ≡ false
      → (d : DecisionsData) (h s : List ℕ) (question : Option QuestionData) → StandsBy (setup_of parts d) (digest_of parts) bytes question h s → is_for a question ≡ false
  unasked_so a bytes text digest e digest_is framed_is resumes unasked d h s question stood =
      let r = of_record bytes text digest h s d question digest_is framed_is stood in
      ap (λ (o : Option QuestionData). is_for a o) (sym (resumes.asks d h s r.0 ∙ r.1)) ∙ unasked

  -- a call that disconnects
  pub leaves_so : (bytes text digest description : List ℕ) (reason : ℕ) (e new : AskingData DeployedSuite) (before sent : List ℕ) → digest ≡ digest_of parts → bytes ≡ framed digest text
      → Resumes (role_in made) (config_in made) text e → before ≡ [] → AskingLeaves means e new reason description before sent
      → (d : DecisionsData) (h s : List ℕ) → StandsHere (digest_of parts) bytes (setup_of parts d) h s → LeavesWith (setup_of parts d) h s (parting reason description) sent
  leaves_so bytes text digest description reason e new before sent digest_is framed_is resumes none leaves = λ d h s stood.
      let r = of_record bytes text digest h s d stood.0 digest_is framed_is stood.1 in
      let after = resumes.follows d h s r.0 in
      let sent_is : sent ≡ leaves.added = leaves.appended ∙ ap (λ (x : List ℕ). x ++ leaves.added) none in
      subst (λ (x : List ℕ). LeavesWith (setup_of parts d) h s (parting reason description) x) (sym sent_is)
      (subst (λ (setup : Setup). LeavesWith setup h s (parting reason description) leaves.added) (setup_is d e resumes.is_role resumes.is_config)
      (record { state = e.state; input = e.input; waiting = e.waiting; stands = after; was_open = resumes.is_open; packet = leaves.sent d h s after }))

-- what goes on twice
pub carry_on : {S : Type 0} (m : S → SuiteData) (d : DecisionsData) (a b c : AskingData S) (first second before between after : List ℕ)
    → CarriesOn m d a b first before between → CarriesOn m d b c second between after → CarriesOn m d a c (first ++ second) before after
carry_on m d a b c first second before between after x y = record {
  added = x.added ++ y.added;
  appended = y.appended ∙ (ap (λ (l : List ℕ). l ++ y.added) x.appended ∙ append_assoc before x.added y.added);
  follows = λ h s stands. subst (λ (l : List ℕ). AskingAfter m d c l (s ++ (x.added ++ y.added))) (append_assoc h first second)
      (subst (λ (l : List ℕ). AskingAfter m d c ((h ++ first) ++ second) l) (append_assoc s x.added y.added) (y.follows (h ++ first) (s ++ x.added) (x.follows h s stands)));
  owned = λ e. let second_is = y.owned e in x.owned (ap by_input second_is ∙ e) ∙ second_is;
  same = record {
    same_role = y.same.same_role ∙ x.same.same_role;
    same_config = y.same.same_config ∙ x.same.same_config;
    same_suite = y.same.same_suite ∙ x.same.same_suite;
  };
}

-- bytes that were read on, by whatever is decided
pub read_so : {S : Type 0} (m : S → SuiteData) (d : DecisionsData) (old new : AskingData S) (taken before after : List ℕ) → AskingFed m old new taken before after
    → (by_input (asking_end new) ≡ false → asking_end old ≡ asking_end new) → CarriesOn m d old new taken before after
read_so m d old new taken before after fed owned = record { added = fed.added; appended = fed.appended; follows = fed.follows d; owned = owned; same = fed.same }

-- a question that was answered as these decisions answer it
pub answer_so : {S : Type 0} (m : S → SuiteData) (d : DecisionsData) (a : AnswerData) (old new : AskingData S) (before after : List ℕ) → decided_by d (asked_by old) ≡ a → Answered m a old new before after
    → (by_input (asking_end new) ≡ false → asking_end old ≡ asking_end new) → CarriesOn m d old new [] before after
answer_so m d a old new before after gives answered owned = record {
  added = answered.added;
  appended = answered.appended;
  follows = λ h s stands. subst (λ (l : List ℕ). AskingAfter m d new l (s ++ answered.added)) (sym (append-nil h)) (answered.follows d gives h s stands);
  owned = owned;
  same = answered.same;
}

-- nothing was done
pub nothing_so : {S : Type 0} (m : S → SuiteData) (d : DecisionsData) (old new : AskingData S) (before after : List ℕ) → new ≡ old → after ≡ before → CarriesOn m d old new [] before after
nothing_so m d old new before after same sent = record {
  added = [];
  appended = sent ∙ sym (append-nil before);
  follows = λ h s stands. subst (λ (l : List ℕ). AskingAfter m d new l (s ++ [])) (sym (append-nil h)) (subst (λ (l : List ℕ). AskingAfter m d new h l) (sym (append-nil s))
      (subst (λ (e : AskingData _). AskingAfter m d e h s) (sym same) stands));
  owned = λ _. ap asking_end (sym same);
  same = record { same_role = ap (λ e. e.role) same; same_config = ap (λ e. e.config) same; same_suite = ap (λ e. e.suite) same };
}

-- the next bytes of a piece
pub more_taken : (used n : ℕ) (piece : List ℕ) → take used piece ++ take n (drop used piece) ≡ take (used + n) piece
more_taken used n piece = sym (take-add used n piece)

-- an endpoint that has ended
pub ended_so : (d : DecisionsData) (e : AskingData DeployedSuite) (digest h s : List ℕ) (end : EndNumbers) (session : Option Session) (told : List ℕ) → asking_end e ≢ Open → end ≡ end_numbers (asking_end e) → by_input (asking_end e) ≡ true
    → told ≡ spelled session
    → ((d : DecisionsData) (h s : List ℕ) (p : AskingAfter means d e h s) (a : AgreedData) → asking_end e ≡ Authenticated a
    → (x : Session) × (session ≡ Some x) × IsSession (asking_setup means d e) p.stands.units p.stands.answers p.stands.sizes a x × (p.stands.rest ≡ []) × (p.earlier ≡ h))
    → (((a : AgreedData) → asking_end e ≢ Authenticated a) → session ≡ None)
    → AskingAfter means d e h s → (left : List ℕ) → left ≡ [] → StandsNow (asking_setup means d e) digest h s end left told
ended_so d e digest h s end session told closed end_is brought told_is hands none p left empty = inr (
  empty,
  record {
    state = e.state;
    input = e.input;
    waiting = e.waiting;
    stands = p;
    closed = closed;
    brought = brought;
    end_is = end_is;
    hands = λ a is. let x = hands d h s p a is in (x.0, x.2, told_is ∙ ap spelled x.1, x.3, x.4);
    none = λ not. told_is ∙ ap spelled (none not);
  },
)

-- and one that goes on, by its record
pub open_so : (d : DecisionsData) (e : AskingData DeployedSuite) (paused : PausedData DeployedSuite) (digest text bytes h s : List ℕ) (end : EndNumbers) (told : List ℕ)
    → end ≡ told_end Open (asked_by e) → told ≡ told_question (asked_by e) → bytes ≡ framed digest text → IsRecordOf text paused
    → FitsPaused means e.role e.config e.suite paused
    → ((d : DecisionsData) (h s : List ℕ) → AskingAfter means d e h s → PausedAfter (asking_setup means d e) paused h s) → asked_paused paused ≡ asked_by e
    → AskingAfter means d e h s → StandsNow (asking_setup means d e) digest h s end bytes told
open_so d e paused digest text bytes h s end told end_is told_is framed_is is fits follows asks after =
    inl (
      asked_by e,
      record {
        text = text;
        framed_is = framed_is;
        recorded = record { endpoint = paused; suite = e.suite; is_record = is; fits = fits; after = follows d h s after };
        asks = asks;
      },
      end_is,
      told_is,
    )

-- what holds of an answer, where another thing does
pub on_ok : {A E P Q : Type 0} (result : Result A E) → (P → Q) → OnOk result P → OnOk result Q
on_ok (Ok x) f p = f p
on_ok (Err e) f p = tt

pub on_ok_both : {A E P Q R : Type 0} (result : Result A E) → (P → Q → R) → OnOk result P → OnOk result Q → OnOk result R
on_ok_both (Ok x) f p q = f p q
on_ok_both (Err e) f p q = tt

pub if_ok : {A E : Type 0} (P Q : A → Type 0) (result : Result A E) → IfOk result P → ((a : A) → P a → Q a) → IfOk result Q
if_ok P Q (Ok x) p f = f x p
if_ok P Q (Err e) p f = tt

pub if_err : {A E : Type 0} (P Q : E → Type 0) (result : Result A E) → IfErr result P → ((e : E) → P e → Q e) → IfErr result Q
if_err P Q (Ok x) p f = tt
if_err P Q (Err e) p f = f e p

pub some_asked : (o : Option Question) (x : Question) (asked : Option QuestionData) → o ≡ Some x → option_map question_data o ≡ asked → asked ≡ Some (question_data x)
some_asked o x asked is maps = sym maps ∙ ap (λ (p : Option Question). option_map question_data p) is

pub is_asked : (o : Option Question) (x : Question) (asked : Option QuestionData) → o ≡ Some x → option_map question_data o ≡ asked → is_some asked ≡ true
is_asked o x asked is maps = ap (λ (p : Option QuestionData). is_some p) (some_asked o x asked is maps)

-- what asks after a question was answered has used some bytes
pub asks_used : (used : ℕ) (old new : Option QuestionData) → old ≡ None → (used ≡ 0 → new ≡ old) → new ≢ None → 0 < used
asks_used zero old new none nothing some = absurd (some (nothing refl ∙ none))
asks_used (suc n) old new none nothing some = omega arith

pub more_used : (count used n : ℕ) → count < used → 0 < n → count + 1 < used + n
more_used count used n low some = omega (arith, low, some)

pub asked_there : (o : Option Question) (asked : Option QuestionData) → option_map question_data o ≡ asked → is_some o ≡ true → asked ≢ None
asked_there None asked maps there none = cc
asked_there (Some x) asked maps there none = cc

pub asks_none : (o : Option QuestionData) → (o ≢ None → ⊥) → o ≡ None
asks_none None never = refl
asks_none (Some question) never = absurd (never (λ e. cc))

-- lists that answer a question are decisions that do
-- an endpoint that was answered asks nothing
pub quiet_so : {S : Type 0} (m : S → SuiteData) (a : AnswerData) (old new : AskingData S) (before after : List ℕ) → Answered m a old new before after → asked_by new ≡ None
quiet_so m a old new before after answered = ap (λ (w : Option WaitingData). asked_at (asking_end new) w) answered.waits_for_none ∙ asked_none (asking_end new)

pub gives_so : (asked : Option QuestionData) (q : QuestionData) (d policy : DecisionsData) (allowed : Bool) → asked ≡ Some q → d ≡ policy
    → taken q (Decided allowed) ≡ decided policy q → decided_by d asked ≡ taken_by asked (Decided allowed)
gives_so asked q d policy allowed is same gives =
    ap (λ (o : Option QuestionData). decided_by d o) is ∙ (ap (λ (p : DecisionsData). decided p q) same ∙ (sym gives ∙ ap (λ (o : Option QuestionData). taken_by o (Decided allowed)) (sym is)))

suites_one : (a b : DeployedSuite) → a ≡ b
suites_one a b = refl

-- an endpoint that was made of a record and resumed
pub resumes_so : (role : Side) (config plain : ConfigData) (text : List ℕ) (q : PausedData DeployedSuite) (e : AskingData DeployedSuite) (suite : DeployedSuite) → GoesOnFrom means role config suite text (Ok q)
    → IsResumed role config suite q e → ((d : DecisionsData) (h s : List ℕ) → PausedAfter (setup_with deployed d role config) q h s → AskingAfter means d e h s)
    → asked_by e ≡ asked_paused q → paused_end q ≡ Open → asking_end e ≡ paused_end q → config ≡ plain → Resumes role plain text e
resumes_so role config plain text q e suite goes_on resumed follows asks is_open same plain_is = subst (λ (p : ConfigData). Resumes role p text e) plain_is (record {
  is_role = resumed.is_role;
  is_config = resumed.is_config;
  is_open = same ∙ is_open;
  follows = λ d h s r. follows d h s (far d h s r).after;
  asks = λ d h s r. asks ∙ (far d h s r).asks;
})
  where
    far : (d : DecisionsData) (h s : List ℕ) (r : IsRecordAfter (setup_with deployed d role config) text h s) → IsAsFar (setup_with deployed d role config) h s r.endpoint q
    far d h s r = goes_on r.endpoint d h s r.is_record (subst (λ (x : DeployedSuite). FitsPaused means role config x r.endpoint) (suites_one r.suite suite) r.fits) r.after

-- where there are lists the decisions are theirs
pub trusts_some : (o : Option Trust) (t : Trust) (d : DecisionsData) → o ≡ Some t → Trusts o d → d ≡ trust_policy t.host_keys.now t.users.now
trusts_some o t d is trusts = subst (λ (x : Option Trust). Trusts x d) is trusts

-- an answer, and what is read after it
pub turn_so : {S : Type 0} (m : S → SuiteData) (d : DecisionsData) (start old mid new : AskingData S) (used n : ℕ) (piece first before between after : List ℕ)
    → CarriesOn m d start old (take used piece) first before → CarriesOn m d old mid [] before between → AskingFed m mid new (take n (drop used piece)) between after
    → (by_input (asking_end new) ≡ false → asking_end mid ≡ asking_end new) → CarriesOn m d start new (take (used + n) piece) first after
turn_so m d start old mid new used n piece first before between after x y z owned =
    subst (λ (l : List ℕ). CarriesOn m d start new l first after) (more_taken used n piece)
    (carry_on m d start old new (take used piece) (take n (drop used piece)) first before after x
    (carry_on m d old mid new [] (take n (drop used piece)) before between after y (read_so m d mid new (take n (drop used piece)) between after z owned)))

pub within_so : (used n : ℕ) (piece : List ℕ) → used ≤ length piece → n ≤ length (drop used piece) → used + n ≤ length piece
within_so used n piece low more = let left = length-drop used piece in omega (arith, low, more, left)

pub whole_so : (used n : ℕ) (piece : List ℕ) → used ≤ length piece → n ≡ length (drop used piece) → used + n ≡ length piece
whole_so used n piece low all = let left = length-drop used piece in omega (arith, low, all, left)

pub rest_all : (used : ℕ) (piece : List ℕ) → take (length piece - used) (drop used piece) ≡ drop used piece
rest_all used piece = ap (λ (n : ℕ). take n (drop used piece)) (sym (length-drop used piece)) ∙ take-length (drop used piece)

pub rest_low : (used n : ℕ) (piece : List ℕ) → n ≤ length (take (length piece - used) (drop used piece)) → n ≤ length (drop used piece)
rest_low used n piece low = subst (λ (l : List ℕ). n ≤ length l) (rest_all used piece) low

-- a digest has 32 bytes
length_digest : (parts : Parts) → length (digest_of parts) ≡ 32
length_digest (parts.Client client) = length-sha256 (client_text client.now [])
length_digest (parts.Server server) = length-sha256 (server_text server.now [])

-- bytes in a frame with this digest are one that was written for these parts
pub frame_so : (parts : Parts) (bytes text digest : List ℕ) → digest ≡ digest_of parts → bytes ≡ framed digest text → IsFrameOf bytes (digest_of parts)
frame_so parts bytes text digest digest_is framed_is = (length_digest parts, (text, framed_is ∙ ap (λ (l : List ℕ). framed l text) digest_is))

-- a frame with this digest has no other
own_only : (parts : Parts) (bytes text digest other : List ℕ) → digest ≡ digest_of parts → bytes ≡ framed digest text → IsFrameOf bytes other → other ≡ digest_of parts
own_only parts bytes text digest other digest_is framed_is f =
    frame_one other (digest_of parts) bytes f (frame_so parts bytes text digest digest_is framed_is)

-- A record that holds more bytes, in the frame of the one before it: whatever parts that was written for.
own_setup : (parts : Parts) (d : DecisionsData) → setup_with deployed d (setup_of parts d).role (setup_of parts d).config ≡ setup_of parts d
own_setup (parts.Client client) d = refl
own_setup (parts.Server server) d = refl

module _ (bytes piece digest text new_text written : List ℕ) (framed_is : bytes ≡ framed digest text) (len : length digest ≡ 32) (written_is : written ≡ framed digest new_text)
    (holds : (role : Side) (config : ConfigData) (suite : DeployedSuite) (p : PausedData DeployedSuite) → IsRecordOf text p → FitsPaused means role config suite p → IsHolding means role config suite piece new_text p) where
  pub holds_so : (parts : Parts) (d : DecisionsData) (h s : List ℕ) → StandsHere (digest_of parts) bytes (setup_of parts d) h s
      → StandsBy (setup_of parts d) (digest_of parts) written None (h ++ piece) s
  holds_so parts d h s stood =
      let setup = setup_of parts d in
      let by = stood.1 in
      let r = by.recorded in
      let one : digest ≡ digest_of parts = frame_one digest (digest_of parts) bytes (len, (text, framed_is)) (length_digest parts, (by.text, by.framed_is)) in
      let same : by.text ≡ text = frame_cut digest by.text text bytes (by.framed_is ∙ ap (λ (l : List ℕ). framed l by.text) (sym one)) framed_is in
      let more = holds setup.role setup.config r.suite r.endpoint (subst (λ (l : List ℕ). IsRecordOf l r.endpoint) same r.is_record) r.fits in
      record {
        text = new_text;
        framed_is = written_is ∙ ap (λ (l : List ℕ). framed l new_text) one;
        recorded = record {
          endpoint = more.endpoint;
          suite = r.suite;
          is_record = more.is_record;
          fits = more.fits;
          after = subst (λ (x : Setup). PausedAfter x more.endpoint (h ++ piece) s) (own_setup parts d)
              (more.after d h s (subst (λ (x : Setup). PausedAfter x r.endpoint h s) (sym (own_setup parts d)) r.after));
        };
        asks = more.asks;
      }

-- why there is no record in a frame
pub why_frame : (parts : Parts) (bytes digest : List ℕ) (f : FrameFault) → digest ≡ digest_of parts → IsFrameFault bytes digest f → WhyNotFrom parts bytes (frame_step f)
why_frame parts bytes digest frame.Record digest_is why = record {
  none = λ d h s stood. why (digest_of parts) (length_digest parts, (stood.1.text, stood.1.framed_is));
  own = λ other f. absurd (why other f);
}
why_frame parts bytes digest frame.Parts digest_is why = (why.0, why.1, λ e. why.2 (e ∙ sym digest_is))

pub why_frame_reply : (parts : Parts) (bytes digest : List ℕ) (a : AnswerData) (f : FrameFault) → digest ≡ digest_of parts → IsFrameFault bytes digest f → WhyNoReply parts bytes a (frame_step f)
why_frame_reply parts bytes digest a frame.Record digest_is why = why_frame parts bytes digest frame.Record digest_is why
why_frame_reply parts bytes digest a frame.Parts digest_is why = why_frame parts bytes digest frame.Parts digest_is why

-- why no endpoint goes on from what stands in a frame
pub why_from : (parts : Parts) (made : Config) (is : IsConfigOf parts made) (bytes text digest : List ℕ) (f : RecordFault) → digest ≡ digest_of parts → bytes ≡ framed digest text
    → (f ≢ no_record.Memory → IsNone (role_in made) (config_in made) text) → WhyNotFrom parts bytes (record_step f)
why_from parts made is bytes text digest no_record.Memory digest_is framed_is none = tt
why_from parts made is bytes text digest no_record.Version digest_is framed_is none = record {
  none = of_none parts made is bytes text digest digest_is framed_is (none (λ e. cc));
  own = λ other f. own_only parts bytes text digest other digest_is framed_is f;
}
why_from parts made is bytes text digest no_record.Unreadable digest_is framed_is none = record {
  none = of_none parts made is bytes text digest digest_is framed_is (none (λ e. cc));
  own = λ other f. own_only parts bytes text digest other digest_is framed_is f;
}

pub why_reply : (parts : Parts) (made : Config) (is : IsConfigOf parts made) (bytes text digest : List ℕ) (a : AnswerData) (f : RecordFault) → digest ≡ digest_of parts → bytes ≡ framed digest text
    → (f ≢ no_record.Memory → IsNone (role_in made) (config_in made) text) → WhyNoReply parts bytes a (record_step f)
why_reply parts made is bytes text digest a no_record.Memory digest_is framed_is none = tt
why_reply parts made is bytes text digest a no_record.Version digest_is framed_is none = why_from parts made is bytes text digest no_record.Version digest_is framed_is none
why_reply parts made is bytes text digest a no_record.Unreadable digest_is framed_is none = why_from parts made is bytes text digest no_record.Unreadable digest_is framed_is none

-- the same reasons where an answer can be read, and where a description can
pub why_answer : (parts : Parts) (bytes signature : List ℕ) (number : ℕ) (a : AnswerData) (f : NoStep) → IsReply number signature a → WhyNoReply parts bytes a f → WhyNoAnswer parts bytes number signature f
why_answer parts bytes signature number a no.Unreadable is why = λ read other _. why read
why_answer parts bytes signature number a no.Draws is why = (a, is, why)
why_answer parts bytes signature number a (no.Config fault) is why = (a, is, why)
why_answer parts bytes signature number a no.Record is why = (a, is, why)
why_answer parts bytes signature number a no.Parts is why = (a, is, why)
why_answer parts bytes signature number a no.Unasked is why = (a, is, why)
why_answer parts bytes signature number a no.Memory is why = (a, is, why)

pub why_leave : (parts : Parts) (bytes description : List ℕ) (f : NoStep) → WhyNotFrom parts bytes f → WhyNoLeave parts bytes description f
why_leave parts bytes description no.Unreadable why = λ read _. why read
why_leave parts bytes description no.Draws why = why
why_leave parts bytes description (no.Config fault) why = why
why_leave parts bytes description no.Record why = why
why_leave parts bytes description no.Parts why = why
why_leave parts bytes description no.Unasked why = why
why_leave parts bytes description no.Memory why = why

-- a call that tells what it came to, or why it came to nothing
pub calls_so : (Comes : Came → Type 0) (Why : NoStep → Type 0) (answer : StepAnswer) (out next told new_out new_next new_told : List ℕ) (result : Result Came NoStep) → IfOk result Comes → IfErr result Why
    → IfOk result (λ came. Tells came answer out next told new_out new_next new_told) → IfErr result (λ f. (answer ≡ no_step f) × (new_out ≡ out) × (new_next ≡ next) × (new_told ≡ told))
    → Calls Comes Why answer out next told new_out new_next new_told
calls_so Comes Why answer out next told new_out new_next new_told (Ok came) comes why tells none = inl (came, comes, tells)
calls_so Comes Why answer out next told new_out new_next new_told (Err f) comes why tells none = inr (f, why, none.0, none.1, none.2, none.3)
