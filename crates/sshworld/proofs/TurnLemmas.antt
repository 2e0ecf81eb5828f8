-- A side to which all was moved that waited for it has received all that it receives, or all that the other has sent.

use Rattle.std.proofs.Common.{◌≡◌, ◌≢◌, inl, inr, ℕ, ◌+◌, ◌≤◌, List, length, min, take, refl, sym, ap, subst, ◌∙◌, arith}
use Rattle.std.proofs.Math.Nat.{min-le_left, min-le_right}
use Rattle.std.proofs.lemmas.List.{take-append-le}
use Rattle.sshpacket.specs.Places.{IsPrefix}
use Rattle.sshpacket.specs.Suite.{IsLawful, SuiteData}
use Rattle.sshcore.specs.declared.end.Fault.TheVariants as fault
use Rattle.sshcore.specs.ConfigParts.{ClientData, ServerData}
use Rattle.sshcore.specs.EndData.{Authenticated, Closed, Disconnected, EndData, Failed, Open}
use Rattle.sshcore.specs.EndpointParts.{DecisionsData, client_setup, server_setup}
use Rattle.sshworld.specs.Offered.{most_requests}
use Rattle.sshworld.specs.CourseReceived.{BothReceive, client_partner, server_partner}
use Rattle.sshworld.specs.Follows.{part_of_client, part_of_server}
use Rattle.sshworld.specs.Guesses.{guess_of}
use Rattle.sshworld.specs.Partners.{BothOnCourse, HasHistory, OnCourse, Partner, ReceivesCourse, partner_setup}
use Rattle.sshworld.specs.Laws.{Laws}
use Rattle.sshworld.specs.Outcome.{outcome}
use Rattle.sshworld.specs.Rounds.{UnitsReceived, after_rounds, server_receives_all, units_sent}
use Rattle.sshworld.specs.Wording.{Wording}
use Rattle.sshworld.specs.WorldRounds.{HaveReceived}
use Rattle.sshworld.specs.Worlds.{NodeData, waiting, waiting_at}
use Rattle.sshworld.proofs.CourseLaws.{few_rounds, of_outcome}
use Rattle.sshworld.proofs.PartnerLemmas.{all_received_of, in_part}
use Rattle.sshworld.proofs.HeadlineLemmas.{ends_as, fewer, open_or_not, sent_count}
use Rattle.sshworld.proofs.RoundLemmas.{more_units_sent}

-- All that waited for a side, whose node is own, was moved to it: it has sent more, or the same, and nothing waits for it.
pub record HasTakenAll (old new opposite : NodeData) : Type 0 where
  pub more_sent : IsPrefix old.sent new.sent
  pub none_waits : waiting new opposite ≡ 0

module _ (laws : Laws) (m : SuiteData) (d : DecisionsData) (lawful : IsLawful m) (own their : Partner) (receives : ReceivesCourse m d own their) (received : ReceivesCourse m d their own) where
  -- the receiver
  takes_all : (node opposite : NodeData) → BothOnCourse m d own their node opposite → node.end ≢ Failed fault.Memory → opposite.end ≢ Failed fault.Memory → waiting node opposite ≡ 0
      → (k : ℕ) → ((b : HasHistory (partner_setup m d their) opposite.end (take opposite.used node.sent) opposite.sent) → k ≤ length b.units)
      → (a : HasHistory (partner_setup m d own) node.end (take node.used opposite.sent) node.sent) → min own.part.receives (units_sent their.part k) ≤ length a.units
  takes_all node opposite on had other_had none k least a =
      let b : HasHistory (partner_setup m d their) opposite.end (take opposite.used node.sent) opposite.sent = on.their_side.replies.replies other_had in
      let mine = in_part m d own their received node opposite on.own_side had other_had a in
      let theirs = in_part m d their own receives opposite node on.their_side other_had had b in
      elim (open_or_not node.end) [
        | inl o ↦
            let all : length a.units ≡ units_sent their.part (length b.units)
            = ap length (all_received_of laws m d lawful own their receives node opposite on had other_had a b o none) ∙ sent_count their.part b.units b.answers opposite.end theirs their.config.version in
            let more : units_sent their.part k ≤ units_sent their.part (length b.units) = more_units_sent their.part k (length b.units) (least b) in
            let right : min own.part.receives (units_sent their.part k) ≤ units_sent their.part k = min-le_right own.part.receives (units_sent their.part k) in
            omega (arith, all, more, right)
        | inr not ↦
            let all : length a.units ≡ own.part.receives = (ends_as own.part a.units a.answers node.end mine not).1 in
            let left : min own.part.receives (units_sent their.part k) ≤ own.part.receives = min-le_left own.part.receives (units_sent their.part k) in
            omega (arith, all, left)
      ]

-- the sender, beside a receiver that has sent more
keeps_count : (m : SuiteData) (d : DecisionsData) (own their : Partner) (old new opposite : NodeData) → OnCourse m d their own opposite old → IsPrefix old.sent new.sent
    → (k : ℕ) → ((b : HasHistory (partner_setup m d their) opposite.end (take opposite.used old.sent) opposite.sent) → k ≤ length b.units)
    → (b : HasHistory (partner_setup m d their) opposite.end (take opposite.used new.sent) opposite.sent) → k ≤ length b.units
keeps_count m d own their old new opposite on more k least =
    let same : take opposite.used new.sent ≡ take opposite.used old.sent
    = ap (take opposite.used) more.whole_is ∙ take-append-le opposite.used old.sent more.rest (omega (arith, on.replies.used_within, on.replies.moved_within)) in
    subst (λ (h : List ℕ). (b : HasHistory (partner_setup m d their) opposite.end h opposite.sent) → k ≤ length b.units) (sym same) least

module _ (laws : Laws) (m : SuiteData) (d : DecisionsData) (lawful : IsLawful m) (c : ClientData) (s : ServerData) (w : Wording) (receive : BothReceive m d c s w) where
  abbrev On : NodeData → NodeData → Type 0
  On of_client of_server = BothOnCourse m d (client_partner m d c s w) (server_partner m d c s w) of_client of_server

  flip : (of_client of_server : NodeData) → On of_client of_server → BothOnCourse m d (server_partner m d c s w) (client_partner m d c s w) of_server of_client
  flip of_client of_server on = record { own_side = on.their_side; their_side = on.own_side }

  -- all that waits to the server
  pub server_turn : (of_client old new : NodeData) (received : UnitsReceived) → On of_client old → On of_client new → of_client.end ≢ Failed fault.Memory → new.end ≢ Failed fault.Memory → HasTakenAll old new of_client
      → HaveReceived m d c s w received of_client old → HaveReceived m d c s w (record received { server = server_receives_all (part_of_client m d c s w) (part_of_server m d c s w) received.client }) of_client new
  server_turn of_client old new received before after had other_had all counts =
      let still = keeps_count m d (server_partner m d c s w) (client_partner m d c s w) old new of_client before.own_side all.more_sent received.client counts.by_client in
      record {
        by_client = still;
        by_server = takes_all laws m d lawful (server_partner m d c s w) (client_partner m d c s w) receive.to_server receive.to_client new of_client (flip of_client new after) other_had had all.none_waits received.client still;
      }

  -- all that waits to the client
  pub client_turn : (old new of_server : NodeData) (received : UnitsReceived) → On old of_server → On new of_server → new.end ≢ Failed fault.Memory → of_server.end ≢ Failed fault.Memory → HasTakenAll old new of_server
      → HaveReceived m d c s w received old of_server → HaveReceived m d c s w (record received { client = server_receives_all (part_of_server m d c s w) (part_of_client m d c s w) received.server }) new of_server
  client_turn old new of_server received before after had other_had all counts =
      let still = keeps_count m d (client_partner m d c s w) (server_partner m d c s w) old new of_server before.their_side all.more_sent received.server counts.by_server in
      record {
        by_client = takes_all laws m d lawful (client_partner m d c s w) (server_partner m d c s w) receive.to_client receive.to_server new of_server after had other_had all.none_waits received.server still;
        by_server = still;
      }

  none_waiting : (e : EndData) (sent moved : ℕ) → e ≢ Open → waiting_at e sent moved ≡ 0
  none_waiting Open sent moved not = absurd (not refl)
  none_waiting (Authenticated a) sent moved not = refl
  none_waiting (Failed f) sent moved not = refl
  none_waiting (Closed reason) sent moved not = refl
  none_waiting (Disconnected reason) sent moved not = refl

  -- a side that has received all that it receives has ended
  ended_by : (own their : Partner) → ReceivesCourse m d their own → own.part.final ≢ Open → (node opposite : NodeData) → OnCourse m d own their node opposite → node.end ≢ Failed fault.Memory → opposite.end ≢ Failed fault.Memory
      → ((a : HasHistory (partner_setup m d own) node.end (take node.used opposite.sent) node.sent) → own.part.receives ≤ length a.units) → node.end ≢ Open
  ended_by own their received final node opposite on had other_had all o =
      let a : HasHistory (partner_setup m d own) node.end (take node.used opposite.sent) node.sent = on.replies.replies had in
      let less = fewer own.part a.units a.answers node.end (in_part m d own their received node opposite on had other_had a) o final in
      let most = all a in
      omega (arith, less, most)

  -- so few rounds are enough
  pub settled : (of_client of_server : NodeData) (r : ℕ) → On of_client of_server → of_client.end ≢ Failed fault.Memory → of_server.end ≢ Failed fault.Memory → most_requests c.plan + 4 ≤ r
      → HaveReceived m d c s w (after_rounds (part_of_client m d c s w) (part_of_server m d c s w) r) of_client of_server → (waiting of_client of_server ≡ 0) × (waiting of_server of_client ≡ 0)
  settled of_client of_server r on had other_had few counts =
      let course = of_outcome m d c s w in
      let all = few_rounds m d c s w (guess_of c s) (outcome m d c s) r few in
      let by_client : (a : HasHistory (client_setup m d c) of_client.end (take of_client.used of_server.sent) of_client.sent) → (part_of_client m d c s w).receives ≤ length a.units
      = λ a. subst (λ (h : UnitsReceived). h.client ≤ length a.units) all (counts.by_client a) in
      let by_server : (b : HasHistory (server_setup m d s) of_server.end (take of_server.used of_client.sent) of_server.sent) → (part_of_server m d c s w).receives ≤ length b.units
      = λ b. subst (λ (h : UnitsReceived). h.server ≤ length b.units) all (counts.by_server b) in (
        none_waiting of_client.end (length of_server.sent) of_client.moved
            (ended_by (client_partner m d c s w) (server_partner m d c s w) receive.to_server course.client_ends of_client of_server on.own_side had other_had by_client),
        none_waiting of_server.end (length of_client.sent) of_server.moved
            (ended_by (server_partner m d c s w) (client_partner m d c s w) receive.to_client course.server_ends of_server of_client on.their_side other_had had by_server),
      )
