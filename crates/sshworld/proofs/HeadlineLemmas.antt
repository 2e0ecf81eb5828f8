-- Two sides in their course, and the headline.

use Rattle.std.proofs.Common.{◌≡◌, ◌≢◌, ◌↔◌, ◌∙◌, ◌⊎◌, inl, inr, ℕ, ◌+◌, ◌<◌, ◌≤◌, ◌==◌, Bool, false, List, ◌∷◌, length, refl, sym, ap, subst, arith, eq-eqb, if◌then◌else◌}
use native.Mathlib.Decide.{dec_lt}
use Rattle.std.proofs.lemmas.Bool.{ne_eqb}
use Rattle.sshpacket.specs.Places.{IsPrefix}
use Rattle.sshpacket.specs.Stream.{Units}
use Rattle.sshpacket.specs.Suite.{SuiteData}
use Rattle.sshpacket.proofs.Places.{prefix-cons, prefix-through}
use Rattle.sshcore.specs.ConfigParts.{ClientData, ServerData, version_of}
use Rattle.sshcore.specs.EndData.{AgreedData, Authenticated, Closed, Disconnected, EndData, Failed, Open}
use Rattle.sshcore.specs.EndpointParts.{DecisionsData}
use Rattle.sshworld.specs.Offered.{most_requests}
use Rattle.sshworld.specs.Course.{Part, sent_after, way_of}
use Rattle.sshworld.specs.Follows.{IsInPart, part_of_client, part_of_server}
use Rattle.sshworld.specs.Guesses.{guess_of}
use Rattle.sshworld.specs.Headline.{AreInCourse, EndAs, HaveReceivedAll, Headline, Told}
use Rattle.sshworld.specs.Outcome.{Case, HostKeyRefused, NoneLeft, NothingCommon, ServiceUnknown, TriesUsedUp, UserAccepted, case_of, ends_of_case, outcome}
use Rattle.sshworld.specs.Rounds.{IsCourse, groups_sent, units_sent}
use Rattle.sshworld.specs.Wording.{Wording}
use Rattle.sshworld.proofs.CourseLaws.{client_final, few_groups, of_outcome, server_final}
use Rattle.sshworld.proofs.PartLemmas.{grows}
use Rattle.sshworld.proofs.RoundLemmas.{groups_sent_on, more_groups_of}

-- a side in its part, by how many units it has received
module _ (part : Part) (units answers : Units) (end : EndData) (is : IsInPart part units answers end) where
  -- it is open before it has received all, and ends as the part does
  pub ends_as : end ≢ Open → (end ≡ part.final) × (length units ≡ part.receives)
  ends_as ended = elim (dec_lt (length units) part.receives) [
    | yes less ↦ absurd (ended (is.ends ∙ (let t : (length units == part.receives) ≡ false = ne_eqb (length units) part.receives (λ z. omega (arith, z, less)) in ap (λ (b : Bool). if b then part.final else Open) t)))
    | no ge ↦
        let all : length units ≡ part.receives = omega (arith, ge, is.within) in
        (is.ends ∙ ap (λ (b : Bool). if b then part.final else Open) (eq-eqb (length units) part.receives all), all)
  ]

  pub fewer : end ≡ Open → part.final ≢ Open → length units < part.receives
  fewer open_at final = elim (dec_lt (length units) part.receives) [
    | yes less ↦ less
    | no ge ↦ absurd (final (sym (ap (λ (b : Bool). if b then part.final else Open) (eq-eqb (length units) part.receives (omega (arith, ge, is.within)))) ∙ (sym is.ends ∙ open_at)))
  ]

  pub sent_all : end ≢ Open → answers ≡ sent_after part part.receives
  sent_all ended = is.sent ∙ ap (λ (n : ℕ). sent_after part n) (ends_as ended).1

  -- what was sent is a prefix of all that the part sends
  pub sent_prefix : (version : List ℕ) → IsPrefix (version ∷ answers) (version ∷ sent_after part part.receives)
  sent_prefix version = prefix-cons version answers (sent_after part part.receives) (subst (λ (l : Units). IsPrefix l (sent_after part part.receives)) (sym is.sent) (grows part (length units) is.within))

  -- so many units it has sent
  pub sent_count : (version : List ℕ) → length (version ∷ answers) ≡ units_sent part (length units)
  sent_count version = omega (arith, ap length is.sent)

-- an end is open, or it isn't
pub open_or_not : (e : EndData) → (e ≡ Open) ⊎ (e ≢ Open)
open_or_not Open = inl refl
open_or_not (Authenticated a) = inr (λ h. cc (h))
open_or_not (Failed f) = inr (λ h. cc (h))
open_or_not (Closed reason) = inr (λ h. cc (h))
open_or_not (Disconnected reason) = inr (λ h. cc (h))

-- two sides in their parts, each of which has received all that the other sent unless it has ended
module _ (p q : Part) (of_client of_server : Told) (client_version server_version : List ℕ) (course : IsCourse p q)
    (of_p : IsInPart p of_client.units of_client.answers of_client.end) (of_q : IsInPart q of_server.units of_server.answers of_server.end)
    (client_all : of_client.end ≡ Open → of_client.units ≡ server_version ∷ of_server.answers)
    (server_all : of_server.end ≡ Open → of_server.units ≡ client_version ∷ of_client.answers) where
  -- how many units a side has received that is open
  at_client : of_client.end ≡ Open → length of_client.units ≡ units_sent q (length of_server.units)
  at_client o = ap length (client_all o) ∙ sent_count q of_server.units of_server.answers of_server.end of_q server_version

  at_server : of_server.end ≡ Open → length of_server.units ≡ units_sent p (length of_client.units)
  at_server o = ap length (server_all o) ∙ sent_count p of_client.units of_client.answers of_client.end of_p client_version

  client_ended : of_client.end ≡ Open → ⊥
  client_ended o =
      let less : length of_client.units < p.receives = fewer p of_client.units of_client.answers of_client.end of_p o course.client_ends in
      elim (open_or_not of_server.end) [
        | inl other ↦ course.fit.no_wait (length of_client.units) (length of_server.units) less (fewer q of_server.units of_server.answers of_server.end of_q other course.server_ends) (at_client o) (at_server other)
        | inr not ↦
            let all : length of_server.units ≡ q.receives = (ends_as q of_server.units of_server.answers of_server.end of_q not).1 in
            omega (arith, less, at_client o, ap (λ (n : ℕ). units_sent q n) all, course.fit.client_reached)
      ]

  server_ended : of_server.end ≡ Open → ⊥
  server_ended o =
      let less : length of_server.units < q.receives = fewer q of_server.units of_server.answers of_server.end of_q o course.server_ends in
      elim (open_or_not of_client.end) [
        | inl other ↦ client_ended other
        | inr not ↦
            let all : length of_client.units ≡ p.receives = (ends_as p of_client.units of_client.answers of_client.end of_p not).1 in
            omega (arith, less, at_server o, ap (λ (n : ℕ). units_sent p n) all, course.fit.server_reached)
      ]

  pub both_parts_end : (of_client.end ≢ Open) × (of_server.end ≢ Open)
  both_parts_end = (client_ended, server_ended)

-- both sides are authenticated, or neither
one_then : (k : Case) (a : AgreedData) → (ends_of_case k).client ≡ Authenticated a → (ends_of_case k).server ≡ Authenticated a
one_then (NothingCommon f) a e = absurd (cc (e))
one_then HostKeyRefused a e = absurd (cc (e))
one_then ServiceUnknown a e = absurd (cc (e))
one_then (UserAccepted b) a e = e
one_then TriesUsedUp a e = absurd (cc (e))
one_then NoneLeft a e = absurd (cc (e))

one_back : (k : Case) (a : AgreedData) → (ends_of_case k).server ≡ Authenticated a → (ends_of_case k).client ≡ Authenticated a
one_back (NothingCommon f) a e = absurd (cc (e))
one_back HostKeyRefused a e = absurd (cc (e))
one_back ServiceUnknown a e = absurd (cc (e))
one_back (UserAccepted b) a e = e
one_back TriesUsedUp a e = absurd (cc (e))
one_back NoneLeft a e = absurd (cc (e))

pub one : (m : SuiteData) (d : DecisionsData) (c : ClientData) (s : ServerData) (a : AgreedData) → ((outcome m d c s).client ≡ Authenticated a) ↔ ((outcome m d c s).server ≡ Authenticated a)
unfolding outcome
one m d c s a = (one_then (case_of m d c s) a, one_back (case_of m d c s) a)

pub both_authenticated : (m : SuiteData) (d : DecisionsData) (c : ClientData) (s : ServerData) (client server : EndData) (a : AgreedData) → EndAs (outcome m d c s) client server
    → client ≢ Open → server ≢ Open → (client ≡ Authenticated a) ↔ (server ≡ Authenticated a)
both_authenticated m d c s client server a ends c_ended s_ended =
    let of_c = ends.client_as c_ended in
    let of_s = ends.server_as s_ended in
    let o = one m d c s a in
    ((λ e. of_s ∙ o.0 (sym of_c ∙ e)), (λ e. of_c ∙ o.1 (sym of_s ∙ e)))

module _ (m : SuiteData) (d : DecisionsData) (c : ClientData) (s : ServerData) (w : Wording) (of_client of_server : Told) (are : AreInCourse m d c s w of_client of_server) where
  pub end_as : EndAs (outcome m d c s) of_client.end of_server.end
  end_as = record {
    client_as = λ e. (ends_as (part_of_client m d c s w) of_client.units of_client.answers of_client.end are.client_in_part e).0 ∙ client_final w (guess_of c s) (way_of m d c s) (outcome m d c s);
    server_as = λ e. (ends_as (part_of_server m d c s w) of_server.units of_server.answers of_server.end are.server_in_part e).0 ∙ server_final w (guess_of c s) (way_of m d c s) (outcome m d c s);
  }

  pub both_ended : HaveReceivedAll c s of_client of_server → (of_client.end ≢ Open) × (of_server.end ≢ Open)
  both_ended all = both_parts_end (part_of_client m d c s w) (part_of_server m d c s w) of_client of_server (version_of c.side) (version_of s.side) (of_outcome m d c s w)
      are.client_in_part are.server_in_part all.client_all all.server_all

  -- the headline, of two sides in their course
  pub headline : (complete : Type 0) → (complete → HaveReceivedAll c s of_client of_server) → Headline (outcome m d c s) of_client.end of_server.end complete
  headline complete all = record {
    as_given = end_as;
    both_ended = λ k. both_ended (all k);
    together = λ k a. let ended = both_ended (all k) in both_authenticated m d c s of_client.end of_server.end a end_as ended.0 ended.1;
  }

  -- what a side has received is a prefix of all that the other sends
  pub client_received_of : IsPrefix of_client.units (version_of s.side ∷ sent_after (part_of_server m d c s w) (part_of_server m d c s w).receives)
  client_received_of = prefix-through of_client.units (version_of s.side ∷ of_server.answers) (version_of s.side ∷ sent_after (part_of_server m d c s w) (part_of_server m d c s w).receives)
      are.client_received (sent_prefix (part_of_server m d c s w) of_server.units of_server.answers of_server.end are.server_in_part (version_of s.side))

  pub server_received_of : IsPrefix of_server.units (version_of c.side ∷ sent_after (part_of_client m d c s w) (part_of_client m d c s w).receives)
  server_received_of = prefix-through of_server.units (version_of c.side ∷ of_client.answers) (version_of c.side ∷ sent_after (part_of_client m d c s w) (part_of_client m d c s w).receives)
      are.server_received (sent_prefix (part_of_client m d c s w) of_client.units of_client.answers of_client.end are.client_in_part (version_of c.side))

-- the groups that a side has sent, by what it has sent
pub more_groups : (part : Part) (old new : Told) → IsInPart part old.units old.answers old.end → IsInPart part new.units new.answers new.end
    → length old.answers < length new.answers → groups_sent part.group (length old.units) < groups_sent part.group (length new.units)
more_groups part old new a b more =
    more_groups_of part (length old.units) (length new.units) (omega (arith, more, ap length a.sent, ap length b.sent))

pub most_groups : (m : SuiteData) (d : DecisionsData) (c : ClientData) (s : ServerData) (w : Wording) (told : Told) → IsInPart (part_of_client m d c s w) told.units told.answers told.end
    → groups_sent (part_of_client m d c s w).group (length told.units) ≤ most_requests c.plan + 3
most_groups m d c s w told is = omega (
  arith,
  groups_sent_on (part_of_client m d c s w).group (length told.units) (part_of_client m d c s w).receives is.within,
  few_groups m d c s w (guess_of c s) (outcome m d c s),
)
