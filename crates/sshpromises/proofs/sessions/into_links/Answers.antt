use Rattle.std.proofs.Common.{◌≡◌, ℕ, ◌<◌, ◌^◌, List, subst, sym}
use Rattle.sshcore.specs.declared.session.Direction.{Direction}
use Rattle.sshcore.specs.Linked.{AreLinked, BeginsBy, Incoming, Outgoing, sent_by}
use Rattle.sshpromises.proofs.sessions.into_links.Goals as goal

-- a link that seals by a direction, and one that opens by the same
linked_by : ((direction : Direction) (seed : List ℕ) (i : Incoming) → direction.sequence_number < 2 ^ 32 → BeginsBy direction i → AreLinked (sent_by direction seed) i)
    → (sent received : Direction) (seed : List ℕ) (o : Outgoing) (i : Incoming) → sent ≡ received → o ≡ sent_by sent seed → o.number < 2 ^ 32 → BeginsBy received i → AreLinked o i
linked_by begins sent received seed o i same is low begun =
    subst (λ (x : Outgoing). AreLinked x i) (sym is)
    (begins sent seed i (subst (λ (x : Outgoing). x.number < 2 ^ 32) is low) (subst (λ (d : Direction). BeginsBy d i) (sym same) begun))

pub returns : goal.returns
returns c = λ are.
    let one = c.into_link-of_client in
    let other = c.into_link-of_server in (
      linked_by c.link_law.ensures.begins _ _ _ _ _ are.there one.ensures.seals one.ensures.in_range other.ensures.opens,
      linked_by c.link_law.ensures.begins _ _ _ _ _ are.back other.ensures.seals other.ensures.in_range one.ensures.opens,
    )
