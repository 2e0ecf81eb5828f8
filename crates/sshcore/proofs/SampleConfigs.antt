-- A suite and configs for sample sessions.

use Rattle.std.proofs.Common.{ℕ, Bool, true, false, List, [], ◌∷◌, codes, None, Some}
use Rattle.std.specs.Prelude.{◌-◌, if◌then◌else◌, length, slice_index}
use Rattle.std.specs.Str.{bytes_eq}
use Rattle.sshwire.specs.declared.share_form.ShareForm.TheVariants.{Mpint, OctetString}
use Rattle.sshmsg.specs.MessageData.{KexInit, KexInitData}
use Rattle.sshmsg.specs.Written.{written_message}
use Rattle.sshneg.specs.declared.side.Side.{Side}
use Rattle.sshneg.specs.Strictness.{marked_list}
use Rattle.sshpacket.specs.declared.suite.Need.TheVariants.{Signature}
use Rattle.sshpacket.specs.Packet.{number}
use Rattle.sshpacket.specs.Suite.{SuiteData}
use Rattle.sshcore.specs.declared.config_parts.PeerReading.TheVariants.{Strict}
use Rattle.sshcore.specs.EndpointParts.{ConfigData, DecisionsData}

-- A suite that can be seen through: a digest is the last byte but one of its input, so that a key is its letter; a public key
-- and a signature are plain bytes. The shares of `o` are
-- octet strings, those of every other method numbers.
unfoldable pub toy : SuiteData
toy = record {
  need = λ kex. Signature;
  can = λ alg. record { signature = true; encryption = false };
  block = λ cipher. 8;
  tag_len = λ cipher mac. 0;
  counts_length = λ cipher mac. true;
  key_lens = λ cipher mac. record { iv = 1; enc = 1; mac = 1 };
  seal = λ keys seq clear. clear;
  head = λ keys seq first. number first;
  unseal = λ keys seq sealed. Some sealed;
  next_iv = λ keys len. keys.iv;
  padding = λ seed seq len. [];
  share_form = λ kex. if bytes_eq kex (codes "o") then OctetString else Mpint;
  share = λ kex random. 1 ∷ random;
  shared = λ kex random peer. if bytes_eq peer (0 ∷ []) then None else Some (7 ∷ []);
  respond = λ kex random peer. if bytes_eq peer (0 ∷ []) then None else Some (record { share = 1 ∷ random; shared = 7 ∷ [] });
  digest = λ kex input. slice_index input (length input - 2) ∷ [];
  blob = λ alg secret. 66 ∷ secret;
  holds = λ alg secret. true;
  sign = λ alg secret input. 83 ∷ secret;
  verify = λ alg blob input signature. bytes_eq signature (83 ∷ 0 ∷ []);
}

unfoldable pub kexinit_data : List (List ℕ) → Bool → KexInitData
kexinit_data kex follows = record {
  cookie = 0 ∷ 0 ∷ 0 ∷ 0 ∷ 0 ∷ 0 ∷ 0 ∷ 0 ∷ 0 ∷ 0 ∷ 0 ∷ 0 ∷ 0 ∷ 0 ∷ 0 ∷ 0 ∷ [];
  kex_algorithms = kex;
  server_host_key_algorithms = codes "h" ∷ [];
  encryption_client_to_server = codes "c" ∷ [];
  encryption_server_to_client = codes "d" ∷ [];
  mac_client_to_server = codes "m" ∷ [];
  mac_server_to_client = codes "n" ∷ [];
  compression_client_to_server = codes "none" ∷ [];
  compression_server_to_client = codes "none" ∷ [];
  languages_client_to_server = [];
  languages_server_to_client = [];
  first_kex_packet_follows = follows;
}

unfoldable pub config_data : Side → Bool → List (List ℕ) → Bool → ConfigData
config_data role strict kex follows = record {
  version = codes "SSH-2.0-lab_1";
  notices = [];
  reading = Strict;
  offer = kexinit_data (marked_list role strict kex) follows;
  strict = strict;
  random = 9 ∷ [];
  seed = [];
  ignored_limit = None;
  plan = [];
  host_keys = record { algorithm = codes "h"; secret = 0 ∷ [] } ∷ [];
  services = [];
  methods = [];
  required = [];
  signature_algorithms = [];
  tries = 6;
  banner = None;
}

-- the KEXINIT that such a config sends
unfoldable pub kexinit_of : Side → Bool → List (List ℕ) → Bool → List ℕ
kexinit_of role strict kex follows = written_message (KexInit (kexinit_data (marked_list role strict kex) follows))

unfoldable pub a : List (List ℕ)
a = codes "a" ∷ []

unfoldable pub ab : List (List ℕ)
ab = codes "a" ∷ codes "b" ∷ []

unfoldable pub ba : List (List ℕ)
ba = codes "b" ∷ codes "a" ∷ []

unfoldable pub o : List (List ℕ)
o = codes "o" ∷ []

-- whoever trusts every host key, and whoever trusts none
unfoldable pub trusting : DecisionsData
trusting = record { host_key = λ alg blob. true; user = λ number user service proof. true; signature = λ number algorithm blob input. None }

unfoldable pub wary : DecisionsData
wary = record { host_key = λ alg blob. false; user = λ number user service proof. true; signature = λ number algorithm blob input. None }
