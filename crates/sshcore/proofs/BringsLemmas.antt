-- What a packet brings by each line of the phase table.

use Rattle.std.proofs.Common.{◌≡◌, ◌≢◌, inl, inr, ℕ, ◌==◌, Bool, true, false, List, [], ◌∷◌, None, Ok, refl, sym, ap, subst, ◌∙◌}
use Rattle.std.specs.Prelude.{◌&&◌, ◌||◌, not}
use Rattle.std.proofs.lemmas.Bool.{cases_Bool, true≢false}
use Rattle.sshmsg.specs.MessageData.{MessageData, Unimplemented}
use Rattle.sshmsg.specs.Messages.{message_in}
use Rattle.sshmsg.specs.Numbers.{message_number}
use Rattle.sshmsg.specs.Written.{written_message}
use Rattle.sshneg.specs.declared.side.Side.{Side}
use Rattle.sshpacket.specs.Stream.{Units}
use Rattle.sshcore.specs.declared.end.Fault.{Fault}
use Rattle.sshcore.specs.declared.phase_table.Disposition.{Disposition}
use Rattle.sshcore.specs.declared.phase_table.Disposition.TheVariants as disposition
use Rattle.sshcore.specs.declared.phase_table.Phase.{Phase}
use Rattle.sshcore.specs.IgnoredLimit.{is_taken, overspends}
use Rattle.sshcore.specs.declared.reply.Reply as reply
use Rattle.sshcore.specs.Brings.{Brings, Drops, Stays, Works, received_counted, received_one}
use Rattle.sshcore.specs.Comes.{Comes, ComesPlainly, ComesTo}
use Rattle.sshcore.specs.EndData.{Open, Reply, fails, goes}
use Rattle.sshcore.specs.Judging.{ReadsMessage}
use Rattle.sshcore.specs.Work.{work}
use Rattle.sshcore.specs.StateData.{StateData}
use Rattle.sshcore.specs.EndpointParts.{Setup}
use Rattle.sshcore.specs.Plan.{is_waiting}
use Rattle.sshcore.specs.Phases.{leaving}
use Rattle.sshcore.specs.Replies.{disposition_reply, read_reply}
use Rattle.sshcore.specs.ReplyView.{replied}
use Rattle.sshcore.specs.Standing.{LeavesNone}
use Rattle.sshcore.specs.Table.{disposition_by, is_ignored, is_of_auth, is_of_method, is_ruled, is_unknown, takes_extensions}
use Rattle.sshcore.proofs.AfterLemmas.{after_counted, carried_stays}
use Rattle.sshcore.proofs.TableLemmas.{Closing, Dropped, Leaving, OffGuess, OffPhase, Sees, Staying, Useless, sees}
use Rattle.sshcore.proofs.WorksLemmas.{failed_ends}

-- the line that the code has found
pub disposition_is : (l : Disposition) (role same_role : Side) (p : Phase) (strict guess waits same_waits : Bool) (n same_number : ℕ) → same_role ≡ role → same_waits ≡ waits
    → same_number ≡ n → l ≡ disposition_by same_role p strict guess same_waits same_number → disposition_by role p strict guess waits n ≡ l
disposition_is l role same_role p strict guess waits same_waits n same_number r w k e =
    sym (e ∙ (ap (λ (x : Side). disposition_by x p strict guess same_waits same_number) r ∙ (ap (λ (x : Bool). disposition_by role p strict guess x same_number) w
    ∙ ap (λ (x : ℕ). disposition_by role p strict guess waits x) k)))

module _ (role : Side) (p : Phase) (strict guess waits : Bool) (n : ℕ) where
  -- what holds where a packet is dropped, and where its number is unknown
  dropped : (l : Disposition) → Sees role p strict guess n l → l ≡ disposition.Drops → (guess ≡ true) × ((n == 1) ≡ false)
  dropped l (Closing is e) q = absurd cc
  dropped l (Dropped one due r e) q = (due, one)
  dropped l (OffGuess one due r m e) q = absurd cc
  dropped l (OffPhase one none r h e) q = absurd cc
  dropped l (Leaving none here e) q = absurd cc
  dropped l (Staying none off h calm e) q = absurd (e q)
  dropped l (Useless none off h e) q = absurd cc

  unknown : (l : Disposition) → Sees role p strict guess n l → l ≡ disposition.Unknown → (guess ≡ false) × LeavesNone role n
  unknown l (Closing is e) q = absurd cc
  unknown l (Dropped one due r e) q = absurd cc
  unknown l (OffGuess one due r m e) q = absurd cc
  unknown l (OffPhase one none r h e) q = absurd cc
  unknown l (Leaving none here e) q = absurd cc
  unknown l (Staying none off h calm e) q = (none, calm.leaves)
  unknown l (Useless none off h e) q = absurd cc

  -- an unknown number has no meaning here
  meaningless : disposition_by role p strict guess waits n ≡ disposition.Unknown → is_unknown n ≡ true
  unfolding disposition_by
  meaningless = elim (cases_Bool (n == 1)) [
    | inl a ↦ rw a (λ e. absurd cc)
    | inr a ↦ rw a (elim (cases_Bool (guess && not (is_ruled p strict))) [
      | inl b ↦ rw b (λ e. absurd cc)
      | inr b ↦ rw b (elim (cases_Bool (guess && is_of_method n)) [
        | inl c ↦ rw c (λ e. absurd cc)
        | inr c ↦ rw c (elim (cases_Bool (is_ruled p strict && (guess || not (n == leaving role p)))) [
          | inl h ↦ rw h (λ e. absurd cc)
          | inr h ↦ rw h (elim (cases_Bool (n == leaving role p)) [
            | inl i ↦ rw i (λ e. absurd cc)
            | inr i ↦ rw i (elim (cases_Bool (is_of_auth role p waits n)) [
              | inl j ↦ rw j (λ e. absurd cc)
              | inr j ↦ rw j (elim (cases_Bool (is_ignored n)) [
                | inl k ↦ rw k (λ e. absurd cc)
                | inr k ↦ rw k (elim (cases_Bool ((n == 7) && takes_extensions p)) [
                  | inl l ↦ rw l (λ e. absurd cc)
                  | inr l ↦ rw l (elim (cases_Bool (is_unknown n)) [
                    | inl o ↦ λ e. o
                    | inr o ↦ rw o (λ e. absurd cc)
                  ])
                ])
              ])
            ])
          ])
        ])
      ])
    ])
  ]

-- what is taken and isn't too much is within the allowance
pub taken_within : (l : Disposition) (over too_much : Bool) → is_taken l ≡ true → too_much ≡ (is_taken l && over) → too_much ≡ false → over ≡ false
taken_within l over too_much taken e none = let same : (is_taken l && over) ≡ over = rw taken refl in sym same ∙ (sym e ∙ none)

-- NEWKEYS isn't unknown, nor is a message of authentication
record NotUnknown (n : ℕ) : Type 0 where
  newkeys : n ≢ 21
  request : n ≢ 50
  failure : n ≢ 51
  confirmation : n ≢ 60

not_unknown : (n : ℕ) → is_unknown n ≡ true → NotUnknown n
not_unknown n e = record {
  newkeys = λ q. absurd (true≢false (sym e ∙ rw q refl));
  request = λ q. absurd (true≢false (sym e ∙ rw q refl));
  failure = λ q. absurd (true≢false (sym e ∙ rw q refl));
  confirmation = λ q. absurd (true≢false (sym e ∙ rw q refl));
}

module _ (setup : Setup) (old new : StateData) (packet : ℕ) (payload before after : List ℕ) where
  reads_brings : disposition_by setup.role old.phase old.known.strict old.guess (is_waiting old.known.left) (message_number payload) ≡ disposition.Reads
      → overspends old.known.allowance payload ≡ false
      → Works setup old new payload before after (read_reply setup old.known (message_number payload) (message_in old.known.shares payload))
      → Brings setup old new packet payload before after
  unfolding disposition_reply
  reads_brings is within works = rw (is, within) works

  -- a message that is read
  pub message_brings : (c : MessageData) → ReadsMessage setup.role old payload c → message_in old.known.shares payload ≡ Ok c
      → Works setup old new payload before after (work setup old.known c) → Brings setup old new packet payload before after
  message_brings c r read works = reads_brings r.reads r.within (rw read works)

module _ (setup : Setup) (old new : StateData) (packet : ℕ) (payload : List ℕ) where
  -- it fails, so nothing goes on
  fails_comes : (answers : Units) (f : Fault) → replied answers new.end ≡ fails f → new.sending ≡ old.sending → ComesPlainly setup old new payload answers (fails f)
  fails_comes answers f gives unsent = record {
    reply_is = gives;
    switches = tt;
    unsent = unsent;
    moves = λ goes_on. absurd (failed_ends new.end f (ap (λ (r : Reply). r.end) gives) goes_on);
  }

  -- so it does by a line that fails it, whatever is decided
  pub judged_comes : (answers : Units) (f : Fault) → disposition_reply setup old.known packet (disposition_by setup.role old.phase old.known.strict old.guess (is_waiting old.known.left) (message_number payload)) payload ≡ fails f
      → replied answers new.end ≡ fails f → new.sending ≡ old.sending
      → ComesTo setup old new packet payload (record { answers = answers; switch = None })
  judged_comes answers f is gives unsent = subst (λ (r : Reply). ComesPlainly setup old new payload answers r) (sym is) (fails_comes answers f gives unsent)

  -- a message that is read
  pub message_comes : (made : reply.Reply) (c : MessageData) → ReadsMessage setup.role old payload c → message_in old.known.shares payload ≡ Ok c
      → Comes setup old new payload made (work setup old.known c) → ComesTo setup old new packet payload made
  unfolding disposition_reply
  message_comes made c read is comes = rw (read.reads, read.within, is) comes

  pub unknown_comes : (answers : Units) → disposition_by setup.role old.phase old.known.strict old.guess (is_waiting old.known.left) (message_number payload) ≡ disposition.Unknown
      → overspends old.known.allowance payload ≡ false
      → replied answers new.end ≡ goes (written_message (Unimplemented packet) ∷ [])
      → new ≡ record old { known = received_counted old.known payload }
      → ComesTo setup old new packet payload (record { answers = answers; switch = None })
  unfolding disposition_reply
  unknown_comes answers is within gives stays =
      let seen = unknown setup.role old.phase old.known.strict old.guess (is_waiting old.known.left) (message_number payload) _ (sees setup.role old.phase old.known.strict (is_waiting old.known.left) (message_number payload) old.guess) is in
      let none : old.guess ≡ false = seen.0 in
      let other = not_unknown (message_number payload) (meaningless setup.role old.phase old.known.strict old.guess (is_waiting old.known.left) (message_number payload) is) in
      let comes : ComesPlainly setup old new payload answers (goes (written_message (Unimplemented packet) ∷ [])) = record {
        reply_is = gives;
        switches = tt;
        unsent = ap (λ (k : StateData). k.sending) stays;
        moves = λ goes_on. Stays none seen.1
            (ap (λ (k : StateData). k.carried) stays ∙ sym (carried_stays setup.suite setup.decisions setup.config old.known payload old.carried other.request))
            (record {
              phase_is = ap (λ (k : StateData). k.phase) stays;
              guess_is = ap (λ (k : StateData). k.guess) stays ∙ none;
              known_is = ap (λ (k : StateData). k.known) stays ∙ sym (after_counted setup.suite setup.decisions setup.config old.known payload other.newkeys other.request other.failure other.confirmation);
            });
      } in
      rw (is, within) comes

  -- the packet of a wrong guess is dropped, and nothing is sent
  pub drops_comes : disposition_by setup.role old.phase old.known.strict old.guess (is_waiting old.known.left) (message_number payload) ≡ disposition.Drops → old.end ≡ Open
      → new ≡ record old { guess = false; known = received_one old.known }
      → ComesTo setup old new packet payload (record { answers = []; switch = None })
  unfolding disposition_reply
  drops_comes is stays next =
      let seen = dropped setup.role old.phase old.known.strict old.guess (is_waiting old.known.left) (message_number payload) _ (sees setup.role old.phase old.known.strict (is_waiting old.known.left) (message_number payload) old.guess) is in
      let comes : ComesPlainly setup old new payload [] (goes []) = record {
        reply_is = ap (replied []) (ap (λ (k : StateData). k.end) next ∙ stays);
        switches = tt;
        unsent = ap (λ (k : StateData). k.sending) next;
        moves = λ goes_on. Drops seen.0 seen.1
            (ap (λ (k : StateData). k.carried) next)
            (record {
              phase_is = ap (λ (k : StateData). k.phase) next;
              guess_is = ap (λ (k : StateData). k.guess) next;
              known_is = ap (λ (k : StateData). k.known) next;
            });
      } in
      rw is comes
