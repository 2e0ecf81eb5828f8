-- The reply to the peer's KEXINIT, by what was judged of it.

use Rattle.std.proofs.Common.{◌≡◌, ℕ, Bool, true, false, List, [], ◌∷◌, Result, Ok, Err, Some, refl, sym, ap, subst, ◌∙◌, cond}
use Rattle.std.specs.Prelude.{◌&&◌, not}
use Rattle.sshmsg.specs.MessageData.{KexInitData}
use Rattle.sshneg.specs.declared.choice.NoCommon.{NoCommon}
use Rattle.sshneg.specs.declared.side.Side.{Side}
use Rattle.sshneg.specs.declared.side.Side.TheVariants.{Client, Server}
use Rattle.sshneg.specs.ExchangeEnd.{client_of, server_of}
use Rattle.sshneg.specs.Strictness.{is_right_guess}
use Rattle.sshpacket.specs.Suite.{SuiteData}
use Rattle.sshcore.specs.declared.end.Fault.TheVariants as fault
use Rattle.sshcore.specs.declared.kex_init.Negotiated.{Negotiated}
use Rattle.sshcore.specs.Before.{strict_towards}
use Rattle.sshcore.specs.EndData.{fails, goes}
use Rattle.sshcore.specs.Exchange.{choice_with}
use Rattle.sshcore.specs.KnownBefore.{Known}
use Rattle.sshcore.specs.Negotiated.{IsNegotiated, sends_init}
use Rattle.sshcore.specs.EndpointParts.{ConfigData}
use Rattle.sshcore.specs.Work.{chosen_reply, init_for, kexinit_reply, opening}

module _ (m : SuiteData) (role : Side) (config : ConfigData) (known : Known) (peer : KexInitData) where
  -- something stood before it, and the endpoint is strict
  pub strictly_refused : strict_towards role config.strict (Some peer) ≡ true → known.first ≡ false → fails (fault.Strict 20) ≡ kexinit_reply m role config known peer
  unfolding kexinit_reply
  strictly_refused on late = ap (λ (b : Bool). cond b (fails (fault.Strict 20)) (chosen_reply m role config peer (choice_with m role config.offer (Some peer))))
      (sym (ap (λ (b : Bool). b && not known.first) on ∙ ap not late))

  -- else it is the choice that counts
  by_choice : (strict_towards role config.strict (Some peer) && not known.first) ≡ false
      → chosen_reply m role config peer (choice_with m role config.offer (Some peer)) ≡ kexinit_reply m role config known peer
  unfolding kexinit_reply
  by_choice off = ap (λ (b : Bool). cond b (fails (fault.Strict 20)) (chosen_reply m role config peer (choice_with m role config.offer (Some peer)))) (sym off)

  -- there is none
  pub not_chosen : (strict_towards role config.strict (Some peer) && not known.first) ≡ false → (found : Result Negotiated NoCommon) (f : NoCommon)
      → IsNegotiated m (client_of role config.offer peer) (server_of role config.offer peer) found → found ≡ Err f
      → fails (fault.NoCommon f) ≡ kexinit_reply m role config known peer
  not_chosen off found f is e =
      let none : choice_with m role config.offer (Some peer) ≡ Err f =
      subst (λ (r : Result Negotiated NoCommon). IsNegotiated m (client_of role config.offer peer) (server_of role config.offer peer) r) e is in
      ap (chosen_reply m role config peer) (sym none) ∙ by_choice off

-- what is sent by whether a guess is right
opened : (m : SuiteData) (role : Side) (config : ConfigData) (peer : KexInitData) (right : Bool) (kex : List ℕ) → right ≡ is_right_guess (client_of role config.offer peer) (server_of role config.offer peer)
    → sends_init m role config right kex ≡ opening m role config peer kex
opened m Server config peer right kex e = refl
opened m Client config peer right kex e = ap (λ (b : Bool). cond (config.offer.first_kex_packet_follows && b) [] (init_for m config kex ∷ [])) e

module _ (m : SuiteData) (role : Side) (config : ConfigData) (known : Known) (peer : KexInitData) where
  -- there is one
  pub chosen : (strict_towards role config.strict (Some peer) && not known.first) ≡ false → (found : Result Negotiated NoCommon) (n : Negotiated)
      → IsNegotiated m (client_of role config.offer peer) (server_of role config.offer peer) found → found ≡ Ok n
      → goes (sends_init m role config n.right n.algorithms.kex) ≡ kexinit_reply m role config known peer
  chosen off found n is e =
      let one : IsNegotiated m (client_of role config.offer peer) (server_of role config.offer peer) (Ok n) =
      subst (λ (r : Result Negotiated NoCommon). IsNegotiated m (client_of role config.offer peer) (server_of role config.offer peer) r) e is in
      ap goes (opened m role config peer n.right n.algorithms.kex one.2) ∙ ap (chosen_reply m role config peer) (sym one.0) ∙ by_choice m role config known peer off
