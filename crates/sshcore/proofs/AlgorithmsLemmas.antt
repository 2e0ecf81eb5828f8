-- The names that stand at the positions of a choice.

use Rattle.std.proofs.Common.{◌≡◌, ℕ, List, Option, Some, refl}
use Rattle.sshneg.specs.Fields.{AlgorithmsData}

-- what stands at a place is one name
pub one_at : {x y : List ℕ} (o : Option (List ℕ)) → o ≡ Some x → o ≡ Some y → x ≡ y
one_at o e f = cc

pub same_algorithms : {kex kex₂ host_key host_key₂ c1 d1 c2 d2 m1 n1 m2 n2 p1 q1 p2 q2 : List ℕ}
    → kex ≡ kex₂ → host_key ≡ host_key₂ → c1 ≡ d1 → c2 ≡ d2 → m1 ≡ n1 → m2 ≡ n2 → p1 ≡ q1 → p2 ≡ q2
    → ◌≡◌ {A = AlgorithmsData} record {
      kex = kex;
      host_key = host_key;
      encryption_client_to_server = c1;
      encryption_server_to_client = c2;
      mac_client_to_server = m1;
      mac_server_to_client = m2;
      compression_client_to_server = p1;
      compression_server_to_client = p2;
    } record {
      kex = kex₂;
      host_key = host_key₂;
      encryption_client_to_server = d1;
      encryption_server_to_client = d2;
      mac_client_to_server = n1;
      mac_server_to_client = n2;
      compression_client_to_server = q1;
      compression_server_to_client = q2;
    }
same_algorithms e1 e2 e3 e4 e5 e6 e7 e8 = rw (e1, e2, e3, e4, e5, e6, e7, e8) refl
