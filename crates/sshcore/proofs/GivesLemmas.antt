-- What is sent for the answers of a reply: some after others.

use Rattle.std.proofs.Common.{◌≡◌, ℕ, ◌==◌, Bool, false, List, [], ◌∷◌, ◌++◌, refl, sym, ap, subst, ◌∙◌, append_assoc}
use Rattle.sshmsg.specs.Numbers.{message_number}
use Rattle.sshpacket.specs.KeysData.{KeysData}
use Rattle.sshpacket.specs.Stream.{Units}
use Rattle.sshpacket.specs.Suite.{SuiteData}
use Rattle.sshcore.specs.Brings.{Gives}
use Rattle.sshcore.specs.Directions.{spelled_by}
use Rattle.sshcore.specs.EndData.{EndData, Reply}
use Rattle.sshcore.specs.StateData.{StateData}
use Rattle.sshcore.specs.Output.{Sending, after_sending, sending_from, sent_from}
use Rattle.sshcore.specs.EndpointParts.{ConfigData}
use Rattle.sshcore.specs.Work.{init_for}
use Rattle.sshcore.proofs.HistoryLemmas.{fit_both}
use Rattle.sshcore.proofs.KeyedLemmas.{init_kind}

-- a client's share is no NEWKEYS
pub quiet_init : (m : SuiteData) (config : ConfigData) (kex : List ℕ) → (message_number (init_for m config kex) == 21) ≡ false
quiet_init m config kex = ap (λ (n : ℕ). n == 21) (init_kind (m.share_form kex) (m.share kex config.random))

module _ (m : SuiteData) (seed : List ℕ) (strict : Bool) (next : KeysData) where
  -- what is sent after others goes on from them
  pub sent_then : (o : Sending) (xs ys : Units)
      → (sent_from m seed strict next o (xs ++ ys) ≡ sent_from m seed strict next o xs ++ sent_from m seed strict next (sending_from m strict next o xs) ys)
      × (sending_from m strict next o (xs ++ ys) ≡ sending_from m strict next (sending_from m strict next o xs) ys)
  unfolding sent_from sending_from
  sent_then o [] ys = (refl, refl)
  sent_then o (x ∷ xs) ys =
      let rest = sent_then (after_sending m strict next o x) xs ys in (
        ap (λ (l : List ℕ). spelled_by m o.keys seed o.number x ++ l) rest.0
            ∙ sym (append_assoc (spelled_by m o.keys seed o.number x) (sent_from m seed strict next (after_sending m strict next o x) xs)
            (sent_from m seed strict next (sending_from m strict next (after_sending m strict next o x) xs) ys)),
        rest.1,
      )

  -- some answers after others
  pub gives_then : (old mid new : StateData) (before between after : List ℕ) (xs ys : Units) (middle end : EndData)
      → Gives m seed strict next old mid before between (record { answers = xs; end = middle })
      → Gives m seed strict next mid new between after (record { answers = ys; end = end })
      → Gives m seed strict next old new before after (record { answers = xs ++ ys; end = end })
  gives_then old mid new before between after xs ys middle end a b =
      let both = sent_then old.sending xs ys in
      record {
        ends = b.ends;
        output = b.output ∙ ap (λ (l : List ℕ). l ++ sent_from m seed strict next mid.sending ys) a.output
            ∙ ap (λ (p : Sending). (before ++ sent_from m seed strict next old.sending xs) ++ sent_from m seed strict next p ys) a.sends
            ∙ append_assoc before (sent_from m seed strict next old.sending xs) (sent_from m seed strict next (sending_from m strict next old.sending xs) ys)
            ∙ ap (λ (l : List ℕ). before ++ l) (sym both.0);
        sends = b.sends ∙ ap (λ (p : Sending). sending_from m strict next p ys) a.sends ∙ sym both.1;
        fits = fit_both xs ys a.fits b.fits;
      }

  -- what was sent after nothing, after what it is appended to
  pub gives_onto : (old new : StateData) (none sent before after : List ℕ) (r : Reply) → none ≡ [] → after ≡ before ++ sent
      → Gives m seed strict next old new none sent r → Gives m seed strict next old new before after r
  gives_onto old new none sent before after r e f g = record {
    ends = g.ends;
    output = f ∙ ap (λ (l : List ℕ). before ++ l) (g.output ∙ ap (λ (l : List ℕ). l ++ sent_from m seed strict next old.sending r.answers) e);
    sends = g.sends;
    fits = g.fits;
  }

  -- the same reply, otherwise spelled
  pub gives_by : (old new : StateData) (before after : List ℕ) (r other : Reply) → r ≡ other → Gives m seed strict next old new before after r → Gives m seed strict next old new before after other
  gives_by old new before after r other e g = subst (λ (x : Reply). Gives m seed strict next old new before after x) e g

  -- the answers depend on nothing else that is kept, and the end is what it is made after them
  pub gives_moved : (old new other_old other_new : StateData) (before after : List ℕ) (answers : Units) (end other_end : EndData)
      → other_old.sending ≡ old.sending → other_new.sending ≡ new.sending → other_new.end ≡ other_end
      → Gives m seed strict next old new before after (record { answers = answers; end = end })
      → Gives m seed strict next other_old other_new before after (record { answers = answers; end = other_end })
  gives_moved old new other_old other_new before after answers end other_end a b e g = record {
    ends = e;
    output = g.output ∙ ap (λ (p : Sending). before ++ sent_from m seed strict next p answers) (sym a);
    sends = b ∙ g.sends ∙ ap (λ (p : Sending). sending_from m strict next p answers) (sym a);
    fits = g.fits;
  }

  -- the same reply, from whatever else was kept
  pub gives_from : (old other_old new : StateData) (before after : List ℕ) (r : Reply) → other_old.sending ≡ old.sending
      → Gives m seed strict next old new before after r → Gives m seed strict next other_old new before after r
  gives_from old other_old new before after r a g = gives_moved old new other_old new before after r.answers r.end r.end a refl g.ends g
