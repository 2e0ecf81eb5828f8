-- Two sides of a world in the course of their configs.

use Rattle.std.proofs.Common.{◌≡◌, ◌≢◌, take}
use Rattle.sshpacket.specs.Suite.{IsLawful, SuiteData}
use Rattle.sshcore.specs.declared.end.Fault.TheVariants as fault
use Rattle.sshcore.specs.ConfigParts.{ClientData, ServerData}
use Rattle.sshcore.specs.EndData.{Failed}
use Rattle.sshcore.specs.EndpointParts.{DecisionsData, client_setup, server_setup}
use Rattle.sshworld.specs.CourseReceived.{BothReceive, IsCourseReceived, client_partner, server_partner}
use Rattle.sshworld.specs.Partners.{BothOnCourse, HasHistory, Partner, told}
use Rattle.sshworld.specs.Headline.{Headline}
use Rattle.sshworld.specs.Laws.{Laws}
use Rattle.sshworld.specs.Outcome.{outcome}
use Rattle.sshworld.specs.Wording.{Wording}
use Rattle.sshworld.specs.Worlds.{NodeData, waiting}
use Rattle.sshworld.proofs.PartnerLemmas.{all_received_of, in_part, received_of}
use Rattle.sshworld.proofs.HeadlineLemmas.{headline}

module _ (laws : Laws) (m : SuiteData) (d : DecisionsData) (lawful : IsLawful m) (c : ClientData) (s : ServerData) (w : Wording) (receive : BothReceive m d c s w) (of_client of_server : NodeData)
    (on : BothOnCourse m d (client_partner m d c s w) (server_partner m d c s w) of_client of_server) (had : of_client.end ≢ Failed fault.Memory) (other_had : of_server.end ≢ Failed fault.Memory) where
  back : BothOnCourse m d (server_partner m d c s w) (client_partner m d c s w) of_server of_client
  back = record { own_side = on.their_side; their_side = on.own_side }

  pub course_received : IsCourseReceived m d c s w of_client of_server
  course_received =
      let a : HasHistory (client_setup m d c) of_client.end (take of_client.used of_server.sent) of_client.sent = on.own_side.replies.replies had in
      let b : HasHistory (server_setup m d s) of_server.end (take of_server.used of_client.sent) of_server.sent = on.their_side.replies.replies other_had in
      let cp : Partner = client_partner m d c s w in
      let sp : Partner = server_partner m d c s w in
      record {
        client_history = a;
        server_history = b;
        client_unrefused = (on.own_side.prefix had other_had a).1;
        server_unrefused = (on.their_side.prefix other_had had b).1;
        in_course = record {
          client_in_part = in_part m d cp sp receive.to_server of_client of_server on.own_side had other_had a;
          server_in_part = in_part m d sp cp receive.to_client of_server of_client on.their_side other_had had b;
          client_received = received_of laws m d lawful cp sp receive.to_client of_client of_server on had other_had a b;
          server_received = received_of laws m d lawful sp cp receive.to_server of_server of_client back other_had had b a;
        };
        received_all = λ x y. record {
          client_all = λ o. all_received_of laws m d lawful cp sp receive.to_client of_client of_server on had other_had a b o x;
          server_all = λ o. all_received_of laws m d lawful sp cp receive.to_server of_server of_client back other_had had b a o y;
        };
      }

  pub headline_of : (complete : Type 0) → (complete → (waiting of_client of_server ≡ 0) × (waiting of_server of_client ≡ 0)) → Headline (outcome m d c s) of_client.end of_server.end complete
  headline_of complete none =
      let h = course_received in
      headline m d c s w (told h.client_history) (told h.server_history) h.in_course complete (λ k. let both = none k in h.received_all both.0 both.1)
