-- Two sides are in their course from the making on, whatever prefix each receives next of what the other has sent.

use Rattle.std.proofs.Common.{◌≡◌, ◌≢◌, ◌≤◌, [], ◌∷◌, length, length-append, append-nil, None, refl, sym, ap, subst, arith}
use Rattle.sshneg.specs.declared.side.Side.TheVariants.{Client, Server}
use Rattle.sshpacket.specs.Places.{IsPrefix}
use Rattle.sshpacket.specs.Stream.{Units}
use Rattle.sshpacket.specs.Suite.{SuiteData}
use Rattle.sshpacket.proofs.Places.{prefix-append, prefix-cons, prefix-through}
use Rattle.sshcore.specs.ConfigParts.{ClientData, ServerData, version_of}
use Rattle.sshcore.specs.EndData.{Open}
use Rattle.sshcore.specs.EndpointParts.{DecisionsData, Setup, client_setup, config_of_client, config_of_server, server_setup}
use Rattle.sshcore.specs.Replies.{Replies, goes_on}
use Rattle.sshcore.specs.Work.{making}
use Rattle.sshworld.specs.Course.{Part, sent_after}
use Rattle.sshworld.specs.Follows.{BothKeep, IsInPart, part_of_client, part_of_server}
use Rattle.sshworld.specs.Headline.{AreInCourse, Told}
use Rattle.sshworld.specs.Wording.{Wording}
use Rattle.sshworld.proofs.HeadlineLemmas.{ends_as, sent_all, sent_prefix}
use Rattle.sshworld.proofs.PartLemmas.{grows_to}

-- a longer list has the shorter one's length or more
prefix_short : (xs ys : Units) → IsPrefix xs ys → length xs ≤ length ys
prefix_short xs ys p = omega (arith, ap length p.whole_is, length-append xs p.rest)

-- a side that has received more has sent more
sent_more : (part : Part) (old new : Told) → IsInPart part old.units old.answers old.end → IsInPart part new.units new.answers new.end → IsPrefix old.units new.units → IsPrefix old.answers new.answers
sent_more part old new a b received =
    subst (λ (l : Units). IsPrefix l new.answers) (sym a.sent)
    (subst (λ (l : Units). IsPrefix (sent_after part (length old.units)) l) (sym b.sent) (grows_to part (length old.units) (length new.units) (prefix_short old.units new.units received)))

-- what is sent at the making
begins_with : (setup : Setup) → Replies setup [] None (making setup.suite setup.role setup.config) Open
begins_with setup = record { in_order = sym (append-nil (making setup.suite setup.role setup.config)); ends = goes_on tt refl }

module _ (m : SuiteData) (d : DecisionsData) (c : ClientData) (s : ServerData) (w : Wording) (both : BothKeep m d c s w) where
  pub begins : AreInCourse m d c s w (record { units = []; answers = making m Client (config_of_client c); end = Open }) (record { units = []; answers = making m Server (config_of_server s); end = Open })
  begins = record {
    client_in_part = both.client_keeps [] (making m Client (config_of_client c)) Open (prefix-append [] _) (begins_with (client_setup m d c));
    server_in_part = both.server_keeps [] (making m Server (config_of_server s)) Open (prefix-append [] _) (begins_with (server_setup m d s));
    client_received = prefix-append [] (version_of s.side ∷ making m Server (config_of_server s));
    server_received = prefix-append [] (version_of c.side ∷ making m Client (config_of_client c));
  }

  module _ (of_client of_server : Told) (are : AreInCourse m d c s w of_client of_server) (new : Told) where
    pub client_receives_more : IsPrefix of_client.units new.units → IsPrefix new.units (version_of s.side ∷ of_server.answers) → Replies (client_setup m d c) new.units None new.answers new.end
        → AreInCourse m d c s w new of_server
    client_receives_more more received replies =
        let all = version_of s.side ∷ sent_after (part_of_server m d c s w) (part_of_server m d c s w).receives in
        let sent : IsPrefix (version_of s.side ∷ of_server.answers) all = sent_prefix (part_of_server m d c s w) of_server.units of_server.answers of_server.end are.server_in_part (version_of s.side) in
        let is : IsInPart (part_of_client m d c s w) new.units new.answers new.end = both.client_keeps new.units new.answers new.end (prefix-through new.units (version_of s.side ∷ of_server.answers) all received sent) replies in
        record {
          client_in_part = is;
          server_in_part = are.server_in_part;
          client_received = received;
          server_received = prefix-through of_server.units (version_of c.side ∷ of_client.answers) (version_of c.side ∷ new.answers) are.server_received
              (prefix-cons (version_of c.side) of_client.answers new.answers (sent_more (part_of_client m d c s w) of_client new are.client_in_part is more));
        }

    pub server_receives_more : IsPrefix of_server.units new.units → IsPrefix new.units (version_of c.side ∷ of_client.answers) → Replies (server_setup m d s) new.units None new.answers new.end
        → AreInCourse m d c s w of_client new
    server_receives_more more received replies =
        let all = version_of c.side ∷ sent_after (part_of_client m d c s w) (part_of_client m d c s w).receives in
        let sent : IsPrefix (version_of c.side ∷ of_client.answers) all = sent_prefix (part_of_client m d c s w) of_client.units of_client.answers of_client.end are.client_in_part (version_of c.side) in
        let is : IsInPart (part_of_server m d c s w) new.units new.answers new.end = both.server_keeps new.units new.answers new.end (prefix-through new.units (version_of c.side ∷ of_client.answers) all received sent) replies in
        record {
          client_in_part = are.client_in_part;
          server_in_part = is;
          client_received = prefix-through of_client.units (version_of s.side ∷ of_server.answers) (version_of s.side ∷ new.answers) are.client_received
              (prefix-cons (version_of s.side) of_server.answers new.answers (sent_more (part_of_server m d c s w) of_server new are.server_in_part is more));
          server_received = received;
        }

-- a side that has ended has received and sent all that its part has
pub all_of_part : (part : Part) (told : Told) → IsInPart part told.units told.answers told.end → told.end ≢ Open → (length told.units ≡ part.receives) × (told.answers ≡ sent_after part part.receives)
all_of_part part told is ended = ((ends_as part told.units told.answers told.end is ended).1, sent_all part told.units told.answers told.end is ended)
