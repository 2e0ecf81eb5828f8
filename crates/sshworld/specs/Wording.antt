-- The payloads of a course.

use Rattle.std.specs.Prelude.{ℕ, List}
use Rattle.sshpacket.specs.Stream.{Units}

-- The payloads that a client and a server send each other, by what they are for: both KEXINITs; the KEXDH_INIT of a guess and
-- that of the chosen method; KEXDH_REPLY, NEWKEYS, SERVICE_REQUEST and SERVICE_ACCEPT; the BANNER, if there is one; the
-- requests of authentication and the FAILUREs and PK_OKs that answer them, by how many requests were made before; SUCCESS; and the
-- DISCONNECTs, by their reason.
pub record Wording : Type 0 where
  pub client_offer : List ℕ
  pub server_offer : List ℕ
  pub guess : List ℕ
  pub init : List ℕ
  pub reply : List ℕ
  pub new_keys : List ℕ
  pub service_request : List ℕ
  pub service_accept : List ℕ
  pub banner : Units
  pub request : ℕ → List ℕ
  pub refusal : ℕ → List ℕ
  pub success : List ℕ
  pub disconnect : ℕ → List ℕ
