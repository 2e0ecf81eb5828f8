-- Two ends of diffie-hellman-group14-sha256 come to one shared secret, if no number of theirs is refused.

use Rattle.std.proofs.Common.{◌≡◌, ◌∙◌, ap, refl, true, false, List, ℕ}
use Rattle.std.proofs.lemmas.Slice.Eq.{bytes_eq-Decides}
use Rattle.std.specs.Prelude.{Some, codes}
use Rattle.sshpacket.specs.Suite.{Agrees}
use Rattle.sshsuite.specs.Deployed.{deployed, exponent_of, is_group14, is_hybrid, respond, response_with, share, shared}
use Rattle.sshsuite.specs.Group14.{generator, group14_share, group14_shared, is_within, number_body, peer_number, power, secret_body, secret_with}
use Rattle.sshpromises.specs.Deployed.{AreWithin}

is_no_hybrid : (kex : List ℕ) → is_group14 kex ≡ true → is_hybrid kex ≡ false
unfolding is_group14 is_hybrid
is_no_hybrid kex is =
    let name : List ℕ = codes "diffie-hellman-group14-sha256" in
    let same : kex ≡ name = (bytes_eq-Decides kex name).0 is in
    let off : is_hybrid name ≡ false = refl in ap is_hybrid same ∙ off

-- what both sides compute by this method
share_by : (kex random : List ℕ) → is_group14 kex ≡ true → share kex random ≡ group14_share (exponent_of random)
unfolding share
share_by kex random is = rw is refl

shared_by : (kex random peer : List ℕ) → is_group14 kex ≡ true → shared kex random peer ≡ group14_shared (exponent_of random) peer
unfolding shared
shared_by kex random peer is = rw is refl

respond_by : (kex random peer body : List ℕ) → is_group14 kex ≡ true → shared kex random peer ≡ Some body → respond kex random peer ≡ Some (response_with (share kex random) body)
unfolding respond
respond_by kex random peer body is e = rw (is_no_hybrid kex is, e) refl

secret_with_some : (random : List ℕ) (n : ℕ) → is_within (power n random) ≡ true → secret_with random (Some n) ≡ Some (number_body (power n random))
unfolding secret_with secret_body
secret_with_some random n within = rw within refl

module _ (read : (n : ℕ) → is_within n ≡ true → peer_number (number_body n) ≡ Some n)
    (agreed : (client server : List ℕ) → is_within (power generator client) ≡ true → is_within (power generator server) ≡ true
    → group14_shared client (group14_share server) ≡ group14_shared server (group14_share client)) where
  secret_is : (client server : List ℕ) → is_within (power generator client) ≡ true → is_within (power (power generator client) server) ≡ true
      → group14_shared server (group14_share client) ≡ Some (number_body (power (power generator client) server))
  unfolding group14_share group14_shared
  secret_is client server within secret = ap (secret_with server) (read (power generator client) within) ∙ secret_with_some server (power generator client) secret

  pub group14_agrees : (kex client server : List ℕ) → is_group14 kex ≡ true → AreWithin client server → Agrees deployed kex client server
  group14_agrees kex client server is within =
      let a : List ℕ = exponent_of client in
      let b : List ℕ = exponent_of server in
      let body : List ℕ = number_body (power (power generator a) b) in
      let theirs : group14_shared b (group14_share a) ≡ Some body = secret_is a b within.client_share within.shared_secret in
      let by_server : shared kex server (share kex client) ≡ Some body
      = ap (shared kex server) (share_by kex client is) ∙ shared_by kex server (group14_share a) is ∙ theirs in
      let by_client : shared kex client (share kex server) ≡ Some body
      = ap (shared kex client) (share_by kex server is) ∙ shared_by kex client (group14_share b) is ∙ agreed a b within.client_share within.server_share ∙ theirs in
      record {
        answer = response_with (share kex server) body;
        responds = respond_by kex server (share kex client) body is by_server;
        same = by_client;
      }
