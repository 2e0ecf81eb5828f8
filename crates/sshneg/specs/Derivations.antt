-- What is hashed, what keys are, and what is signed: RFC 4253 sections 7.2 and 8, RFC 4252 section 7.

use Rattle.std.specs.Prelude.{ℕ, ◌+◌, zero, suc, true, List, ◌∷◌, ◌++◌, codes, length, take}
use Rattle.sshwire.specs.Types.{boolean, string}
use Rattle.sshneg.specs.declared.side.Side.{Side}
use Rattle.sshneg.specs.declared.side.Side.TheVariants.{Client, Server}
use Rattle.sshneg.specs.Markers.{other}
use Rattle.sshpacket.specs.KeysData.{KeysData}
use Rattle.sshpacket.specs.Suite.{SuiteData}
use Rattle.sshmsg.specs.declared.numbers.TheConstants.{SSH_MSG_USERAUTH_REQUEST}

-- what both sides know of an exchange: the version lines without what ends them, the payloads of both KEXINITs, the server's host
-- key, the shares e and f and the shared secret K, as bodies of mpints or as bytes
pub record ExchangeData : Type 0 where
  pub client_version : List ℕ
  pub server_version : List ℕ
  pub client_kexinit : List ℕ
  pub server_kexinit : List ℕ
  pub host_key : List ℕ
  pub client_share : List ℕ
  pub server_share : List ℕ
  pub shared : List ℕ

-- how many bytes an exchange has together
abbrev pub exchange_size : ExchangeData → ℕ
exchange_size x =
    length x.client_version + length x.server_version + length x.client_kexinit + length x.server_kexinit
    + length x.host_key + length x.client_share + length x.server_share + length x.shared

-- the input of the exchange hash H: V_C, V_S, I_C, I_S, K_S, e, f, K (RFC 4253 section 8)
unfoldable pub exchange_text : ExchangeData → List ℕ
exchange_text x =
    string x.client_version
    ++ (string x.server_version
    ++ (string x.client_kexinit
    ++ (string x.server_kexinit
    ++ (string x.host_key
    ++ (string x.client_share
    ++ (string x.server_share
    ++ string x.shared))))))

-- what a publickey request signs: the session identifier and the request up to the signature (RFC 4252 section 7)
unfoldable pub signed_text : List ℕ → List ℕ → List ℕ → List ℕ → List ℕ → List ℕ
signed_text session user service algorithm key =
    string session
    ++ (SSH_MSG_USERAUTH_REQUEST ∷ (string user ++ (string service ++ (string (codes "publickey") ++ (boolean true ++ (string algorithm ++ string key))))))

-- what keys are made of: the method, K as the body of an mpint or as bytes, H, and the session identifier
pub record KeyMaterialData : Type 0 where
  pub kex : List ℕ
  pub shared : List ℕ
  pub hash : List ℕ
  pub session : List ℕ

-- how many bytes that of which keys are made has together
abbrev pub source_size : KeyMaterialData → ℕ
source_size x = length x.kex + length x.shared + length x.hash + length x.session

-- HASH(K || H || what follows)
abbrev pub hash_with : SuiteData → KeyMaterialData → List ℕ → List ℕ
hash_with m x after = m.digest x.kex (string x.shared ++ (x.hash ++ after))

-- after the first hash, so many times more HASH(K || H || all so far) (RFC 4253 section 7.2)
abbrev pub grown : SuiteData → KeyMaterialData → List ℕ → ℕ → List ℕ
grown m x first zero = first
grown m x first (suc n) = grown m x first n ++ hash_with m x (grown m x first n)

-- a key of so many bytes: the prefix of HASH(K || H || letter || session_id) and as many hashes more as are needed, each of
-- which has at least one byte
unfoldable pub key : SuiteData → KeyMaterialData → ℕ → ℕ → List ℕ
key m x letter len = take len (grown m x (hash_with m x (letter ∷ x.session)) len)

-- the letter of the initialisation vector, by who sends: A for the client, B for the server (RFC 4253 section 7.2)
abbrev pub iv_letter : Side → ℕ
iv_letter Client = 65
iv_letter Server = 66

-- the letter of the encryption key, by who sends: C for the client, D for the server (RFC 4253 section 7.2)
abbrev pub enc_letter : Side → ℕ
enc_letter Client = 67
enc_letter Server = 68

-- the letter of the integrity key, by who sends: E for the client, F for the server (RFC 4253 section 7.2)
abbrev pub mac_letter : Side → ℕ
mac_letter Client = 69
mac_letter Server = 70

-- the keys of the direction in which a role sends: by the letters A, C, E for the client, B, D, F for the server (RFC 4253 section 7.2)
unfoldable pub derived : SuiteData → KeyMaterialData → Side → List ℕ → List ℕ → KeysData
derived m x sender cipher mac = record {
  cipher = cipher;
  mac = mac;
  iv = key m x (iv_letter sender) (m.key_lens cipher mac).iv;
  enc = key m x (enc_letter sender) (m.key_lens cipher mac).enc;
  mac_key = key m x (mac_letter sender) (m.key_lens cipher mac).mac;
}

-- the keys with which this role seals: those by which it sends (RFC 4253 section 7.2)
abbrev pub sealing : SuiteData → KeyMaterialData → Side → List ℕ → List ℕ → KeysData
sealing m x role cipher mac = derived m x role cipher mac

-- the keys with which this role unseals: those by which the other side sends (RFC 4253 section 7.2)
abbrev pub unsealing : SuiteData → KeyMaterialData → Side → List ℕ → List ℕ → KeysData
unsealing m x role cipher mac = derived m x (other role) cipher mac
