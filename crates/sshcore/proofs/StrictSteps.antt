-- What a payload does at an endpoint that stands open, of strictness.

use Rattle.std.proofs.Common.{◌≡◌, ◌≢◌, inl, inr, ℕ, ◌==◌, true, false, List, [], ◌∷◌, ◌++◌, length, Some, Result, Ok, Err, refl, sym, ap, ◌∙◌, subst, arith}
use Rattle.std.proofs.lemmas.Bool.{cases_Bool, eqb-true, true≢false}
use Rattle.std.proofs.lemmas.List.{nil_from_length}
use Rattle.sshwire.specs.declared.share_form.ShareForm.TheVariants.{Mpint}
use Rattle.sshmsg.specs.declared.fault.MsgFault.{MsgFault}
use Rattle.sshmsg.specs.MessageData.{Disconnect, KexInit, MessageData}
use Rattle.sshmsg.specs.Messages.{message_in}
use Rattle.sshmsg.specs.Numbers.{message_number, number_of}
use Rattle.sshneg.specs.declared.side.Side.{Side}
use Rattle.sshneg.specs.ExchangeEnd.{offer_in}
use Rattle.sshpacket.specs.Stream.{Units}
use Rattle.sshcore.specs.declared.end.Fault.TheVariants as fault
use Rattle.sshcore.specs.declared.phase_table.Disposition.{Disposition}
use Rattle.sshcore.specs.declared.phase_table.Disposition.TheVariants as disposition
use Rattle.sshcore.specs.declared.phase_table.Phase.{Phase}
use Rattle.sshcore.specs.declared.phase_table.Phase.TheVariants as phase
use Rattle.sshcore.specs.Before.{expects_guess, offered, strict_at, strict_towards}
use Rattle.sshcore.specs.Counting.{number_in}
use Rattle.sshcore.specs.EndData.{EndData, Failed, Open, Reply}
use Rattle.sshcore.specs.KnownBefore.{Known, known_at, waits_at}
use Rattle.sshcore.specs.EndpointParts.{ConfigData, Setup}
use Rattle.sshcore.specs.Phases.{leaving, past_exchange}
use Rattle.sshcore.specs.Replies.{disposition_at, disposition_reply, end_at, read_reply}
use Rattle.sshcore.specs.Standing.{LeavesNone, Tied}
use Rattle.sshcore.specs.StrictSequence.{AsClosed, AsMalformed, AsStrict, Begins, Conforms, EndsStrictly}
use Rattle.sshcore.specs.Table.{disposition_by, is_of_method, is_ruled}
use Rattle.sshcore.specs.Work.{kexinit_reply, work}
use Rattle.sshcore.proofs.IgnoredLimitLemmas.{allowed_number}
use Rattle.sshcore.proofs.LawsBelow.{Below}
use Rattle.sshcore.proofs.GuessLemmas.{no_guess, none_chosen, read_offer, shown, strict_first, strict_none, strict_push}
use Rattle.sshcore.proofs.PhaseLemmas.{guess_offered, tied_dropped, tied_leaves, tied_phase, tied_stays}
use Rattle.sshcore.proofs.StrictLemmas.{begins_more, completes, dropped_guess, leaving_kexinit, more, opens, past_offer, shares, stays_so_far, strict_before}
use Rattle.sshcore.proofs.StrictStages.{Follows, SoFar}
use Rattle.sshcore.proofs.TableLemmas.{Closing, Dropped, Leaving, OffGuess, OffPhase, Sees, Staying, Useless, sees}

-- what a payload does: the endpoint stands where the next phase wants; it deviates; or it fails without deviating
pub data Step (role : Side) (config : ConfigData) (before : Units) (payload : List ℕ) (end : EndData) : Type 0 where
  Goes : (q : Phase) → Follows role config (before ++ payload ∷ []) q → Step role config before payload end
  Off : EndsStrictly (message_number payload) end → Step role config before payload end
  Fails : end ≢ Open → (strict_at role config (before ++ payload ∷ []) ≡ true → Conforms role config.offer (before ++ payload ∷ [])) → Step role config before payload end

module _ (below : Below) (setup : Setup) where
  closes : (known : Known) (payload : List ℕ) (c : MessageData) → message_number payload ≡ 1 → number_of c ≡ 1 → EndsStrictly (message_number payload) (work setup known c).end
  unfolding Rattle.sshcore.specs.Work.step
  closes known payload (Disconnect reason description language) is e = AsClosed is reason refl
  closes known payload _ is e = absurd (omega (arith, e))

  pub closing : (known : Known) (packet : ℕ) (payload : List ℕ) → message_number payload ≡ 1 → EndsStrictly (message_number payload) (disposition_reply setup known packet disposition.Reads payload).end
  unfolding disposition_reply
  closing known packet payload is =
      subst (λ (r : Reply). EndsStrictly (message_number payload) r.end) (sym (allowed_number known payload (read_reply setup known (message_number payload) (message_in known.shares payload)) 1 is refl)) (by (message_in known.shares payload) refl)
    where
      by : (r : Result MessageData MsgFault) → message_in known.shares payload ≡ r → EndsStrictly (message_number payload) (read_reply setup known (message_number payload) r).end
      by (Ok c) e = closes known payload c is (sym (below.numbers known.shares payload c e) ∙ is)
      by (Err f) e = AsMalformed is (ap (λ n. Failed (fault.Malformed n)) is)

  module _ (before : Units) (payload : List ℕ) (p : Phase) (f : Follows setup.role setup.config before p) where
    pub not_due : offered before ≡ true → past_exchange p ≡ true → expects_guess setup.role setup.config.offer (more setup.role setup.config before payload) ≡ false
    not_due is e = no_guess setup.role setup.config.offer before payload is

    drops : expects_guess setup.role setup.config.offer before ≡ true → (message_number payload == 1) ≡ false
        → (is_ruled p (strict_at setup.role setup.config before) ≡ true → is_of_method (message_number payload) ≡ true) → Follows setup.role setup.config (before ++ payload ∷ []) p
    drops due one ruled =
        let is = guess_offered setup.role setup.config.offer before payload due in
        record {
          tied = tied_dropped setup.role setup.config.offer before payload p f.tied due one;
          none_due = λ _. no_guess setup.role setup.config.offer before payload is;
          so_far = λ s. dropped_guess setup.role setup.config before payload p f due ruled (sym (strict_push setup.role setup.config before payload is) ∙ s);
        }

    so_far_stays : (q : Phase) → p ≡ q → LeavesNone setup.role (message_number payload) → is_ruled q (strict_at setup.role setup.config before) ≡ false → strict_at setup.role setup.config (before ++ payload ∷ []) ≡ true
        → SoFar setup.role setup.config.offer (before ++ payload ∷ []) q
    so_far_stays phase.KexInit e l off s = tt
    so_far_stays phase.Exchange e l off s = let g : Follows setup.role setup.config before phase.Exchange = subst (Follows setup.role setup.config before) e f in
        stays_so_far setup.role setup.config before payload phase.Exchange g off (strict_before setup.role setup.config before payload phase.Exchange g.tied refl s)
    so_far_stays phase.NewKeys e l off s = let g : Follows setup.role setup.config before phase.NewKeys = subst (Follows setup.role setup.config before) e f in
        stays_so_far setup.role setup.config before payload phase.NewKeys g off (strict_before setup.role setup.config before payload phase.NewKeys g.tied refl s)
    so_far_stays phase.Service e l off s = let g : Follows setup.role setup.config before phase.Service = subst (Follows setup.role setup.config before) e f in
        stays_so_far setup.role setup.config before payload phase.Service g off (strict_before setup.role setup.config before payload phase.Service g.tied refl s)
    so_far_stays phase.Auth e l off s = let g : Follows setup.role setup.config before phase.Auth = subst (Follows setup.role setup.config before) e f in
        stays_so_far setup.role setup.config before payload phase.Auth g off (strict_before setup.role setup.config before payload phase.Auth g.tied refl s)

    stays : expects_guess setup.role setup.config.offer before ≡ false → is_ruled p (strict_at setup.role setup.config before) ≡ false → LeavesNone setup.role (message_number payload) → Follows setup.role setup.config (before ++ payload ∷ []) p
    stays none off l = record {
      tied = tied_stays setup.role setup.config.offer before payload p f.tied none l;
      none_due = λ past. no_guess setup.role setup.config.offer before payload (past_offer setup.role setup.config before payload p f.tied past);
      so_far = λ s. so_far_stays p refl l off s;
    }

    useless : (q : Phase) → p ≡ q → is_ruled q (strict_at setup.role setup.config before) ≡ false → (message_number payload == leaving setup.role q) ≡ false → strict_at setup.role setup.config (before ++ payload ∷ []) ≡ true
        → Conforms setup.role setup.config.offer (before ++ payload ∷ [])
    useless phase.KexInit e off not_here s =
        let t : Tied setup.role setup.config.offer before phase.KexInit = subst (Tied setup.role setup.config.offer before) e f.tied in
        let other_kind : (message_number payload == 20) ≡ false = ap (λ n. message_number payload == n) (sym (leaving_kexinit setup.role)) ∙ not_here in
        absurd (true≢false (sym s ∙ strict_none setup.role setup.config before payload t.offer other_kind))
    useless phase.Exchange e off not_here s = let g : Follows setup.role setup.config before phase.Exchange = subst (Follows setup.role setup.config before) e f in
        absurd (true≢false (sym (strict_before setup.role setup.config before payload phase.Exchange g.tied refl s) ∙ off))
    useless phase.NewKeys e off not_here s = let g : Follows setup.role setup.config before phase.NewKeys = subst (Follows setup.role setup.config before) e f in
        absurd (true≢false (sym (strict_before setup.role setup.config before payload phase.NewKeys g.tied refl s) ∙ off))
    useless phase.Service e off not_here s = let g : Follows setup.role setup.config before phase.Service = subst (Follows setup.role setup.config before) e f in
        Begins (begins_more setup.role setup.config.offer before payload (g.so_far (strict_before setup.role setup.config before payload phase.Service g.tied refl s)))
    useless phase.Auth e off not_here s = let g : Follows setup.role setup.config before phase.Auth = subst (Follows setup.role setup.config before) e f in
        Begins (begins_more setup.role setup.config.offer before payload (g.so_far (strict_before setup.role setup.config before payload phase.Auth g.tied refl s)))

  -- at a KEXINIT with a marker, where another payload stood before
  late : (known : Known) (packet : ℕ) (payload : List ℕ) → message_number payload ≡ 20 → strict_towards setup.role setup.config.strict (offer_in payload) ≡ true → known.shares ≡ Mpint → known.first ≡ false
      → (disposition_reply setup known packet disposition.Reads payload).end ≡ Failed (fault.Strict (message_number payload))
  unfolding disposition_reply kexinit_reply Rattle.sshcore.specs.Work.step
  late known packet payload is s form not_first =
      let x = shown setup.role setup.config.strict payload s in
      let flag : strict_towards setup.role setup.config.strict (Some x.0) ≡ true = ap (λ o. strict_towards setup.role setup.config.strict o) (sym x.1) ∙ s in
      let reads : message_in known.shares payload ≡ Ok (KexInit x.0) = ap (λ f. message_in f payload) form ∙ read_offer payload x.0 x.1 in
      ap (λ (r : Reply). r.end) (allowed_number known payload (read_reply setup known (message_number payload) (message_in known.shares payload)) 20 is refl) ∙ rw (reads, flag, not_first) (ap (λ n. Failed (fault.Strict n)) (sym is))

  first_none : (before : Units) → (length before == 0) ≡ true → before ≡ []
  first_none before e = nil_from_length before (eqb-true (length before) 0 e)

  module _ (version : List ℕ) (before : Units) (payload : List ℕ) where
    leaves_kexinit : Follows setup.role setup.config before phase.KexInit → expects_guess setup.role setup.config.offer before ≡ false → message_number payload ≡ 20
        → Step setup.role setup.config before payload (disposition_reply setup (known_at setup version before) (number_in setup.role setup.config before) disposition.Reads payload).end
    leaves_kexinit f none is = elim (cases_Bool (strict_towards setup.role setup.config.strict (offer_in payload))) [
      | inl s ↦ elim (cases_Bool (length before == 0)) [
        | inl first ↦ Goes phase.Exchange (record {
          tied = tied_leaves setup.role setup.config.offer before payload phase.KexInit f.tied none (is ∙ sym (leaving_kexinit setup.role));
          none_due = λ e. absurd (true≢false (sym e));
          so_far = λ _. ([], opens setup.role setup.config before payload below (shown setup.role setup.config.strict payload s).0 (first_none before first) f.tied.offer is (shown setup.role setup.config.strict payload s).1);
        })
        | inr not_first ↦ Off (AsStrict (late (known_at setup version before) (number_in setup.role setup.config before) payload is s (none_chosen setup.suite setup.role setup.config before f.tied.offer) not_first))
      ]
      | inr s ↦ Goes phase.Exchange (record {
        tied = tied_leaves setup.role setup.config.offer before payload phase.KexInit f.tied none (is ∙ sym (leaving_kexinit setup.role));
        none_due = λ e. absurd (true≢false (sym e));
        so_far = λ t. absurd (true≢false (sym t ∙ (strict_first setup.role setup.config before payload f.tied.offer is ∙ s)));
      })
    ]

    leaves : (p : Phase) → Follows setup.role setup.config before p → expects_guess setup.role setup.config.offer before ≡ false → message_number payload ≡ leaving setup.role p
        → Step setup.role setup.config before payload (disposition_reply setup (known_at setup version before) (number_in setup.role setup.config before) disposition.Reads payload).end
    leaves phase.KexInit f none is = leaves_kexinit f none (is ∙ leaving_kexinit setup.role)
    leaves phase.Exchange f none is = Goes phase.NewKeys (record {
      tied = tied_leaves setup.role setup.config.offer before payload phase.Exchange f.tied none is;
      none_due = λ _. no_guess setup.role setup.config.offer before payload f.tied.offer;
      so_far = λ s. shares setup.role setup.config before payload f none is (strict_before setup.role setup.config before payload phase.Exchange f.tied refl s);
    })
    leaves phase.NewKeys f none is = Goes phase.Service (record {
      tied = tied_leaves setup.role setup.config.offer before payload phase.NewKeys f.tied none is;
      none_due = λ _. no_guess setup.role setup.config.offer before payload f.tied.offer;
      so_far = λ s. completes setup.role setup.config before payload f is (strict_before setup.role setup.config before payload phase.NewKeys f.tied refl s);
    })
    leaves phase.Service f none is = Goes phase.Auth (record {
      tied = tied_leaves setup.role setup.config.offer before payload phase.Service f.tied none is;
      none_due = λ _. no_guess setup.role setup.config.offer before payload f.tied.offer;
      so_far = λ s. begins_more setup.role setup.config.offer before payload (f.so_far (strict_before setup.role setup.config before payload phase.Service f.tied refl s));
    })
    leaves phase.Auth f none is = Goes phase.Auth (record {
      tied = tied_leaves setup.role setup.config.offer before payload phase.Auth f.tied none is;
      none_due = λ _. no_guess setup.role setup.config.offer before payload f.tied.offer;
      so_far = λ s. begins_more setup.role setup.config.offer before payload (f.so_far (strict_before setup.role setup.config before payload phase.Auth f.tied refl s));
    })

    by_disposition : (p : Phase) → Follows setup.role setup.config before p → (l : Disposition) → Sees setup.role p (strict_at setup.role setup.config before) (expects_guess setup.role setup.config.offer before) (message_number payload) l
        → Step setup.role setup.config before payload (disposition_reply setup (known_at setup version before) (number_in setup.role setup.config before) l payload).end
    unfolding disposition_reply
    by_disposition p f l (Closing one is) = rw is (Off (closing (known_at setup version before) (number_in setup.role setup.config before) payload one))
    by_disposition p f l (Dropped one due ruled is) = Goes p (drops before payload p f due one ruled)
    by_disposition p f l (OffGuess one due ruled out is) = rw is (Off (AsStrict refl))
    by_disposition p f l (OffPhase one none ruled out is) = rw is (Off (AsStrict refl))
    by_disposition p f l (Leaving none here is) = rw is (leaves p f none here)
    by_disposition p f l (Staying none off not_here quiet not_drops) = Goes p (stays before payload p f none off quiet.leaves)
    by_disposition p f l (Useless none off not_here is) = rw is (Fails (λ e. absurd cc) (λ s. useless before payload p f p refl off not_here s))

    pub disposition_is : (p : Phase) → Tied setup.role setup.config.offer before p
        → disposition_by setup.role p (strict_at setup.role setup.config before) (expects_guess setup.role setup.config.offer before) (waits_at setup.role setup.config before) (message_number payload) ≡ disposition_at setup.role setup.config before payload
    disposition_is p t = ap (λ q. disposition_by setup.role q (strict_at setup.role setup.config before) (expects_guess setup.role setup.config.offer before) (waits_at setup.role setup.config before) (message_number payload)) (sym (tied_phase setup.role setup.config.offer before p t))

    pub step : (p : Phase) → Follows setup.role setup.config before p → Step setup.role setup.config before payload (end_at setup (version ∷ before) payload)
    step p f = subst (λ (l : Disposition). Step setup.role setup.config before payload (disposition_reply setup (known_at setup version before) (number_in setup.role setup.config before) l payload).end) (disposition_is p f.tied)
        (by_disposition p f (disposition_by setup.role p (strict_at setup.role setup.config before) (expects_guess setup.role setup.config.offer before) (waits_at setup.role setup.config before) (message_number payload))
        (sees setup.role p (strict_at setup.role setup.config before) (waits_at setup.role setup.config before) (message_number payload) (expects_guess setup.role setup.config.offer before)))
