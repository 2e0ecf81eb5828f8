-- How long what is hashed and what is signed is.

use Rattle.std.proofs.Common.{◌≡◌, ◌+◌, ℕ, List, ◌∷◌, ◌++◌, true, codes, length, refl, arith}
use Rattle.std.proofs.lemmas.List.{length-append}
use Rattle.sshwire.specs.Types.{boolean, string, uint32}
use Rattle.sshneg.specs.Derivations.{ExchangeData, exchange_size, exchange_text, signed_text}

string_alone : (s : List ℕ) → length (string s) ≡ 4 + length s
string_alone s = length-append (uint32 (length s)) s

string_then : (s more : List ℕ) → length (string s ++ more) ≡ 4 + length s + length more
string_then s more =
    let e : length (string s ++ more) ≡ length (string s) + length more = length-append (string s) more in
    let f : length (string s) ≡ 4 + length s = string_alone s in omega arith

pub exchange_length : (x : ExchangeData) → length (exchange_text x) ≡ exchange_size x + 32
unfolding exchange_text
exchange_length x =
    let t7 : List ℕ = string x.server_share ++ string x.shared in
    let t6 : List ℕ = string x.client_share ++ t7 in
    let t5 : List ℕ = string x.host_key ++ t6 in
    let t4 : List ℕ = string x.server_kexinit ++ t5 in
    let t3 : List ℕ = string x.client_kexinit ++ t4 in
    let t2 : List ℕ = string x.server_version ++ t3 in
    let a : length (exchange_text x) ≡ 4 + length x.client_version + length t2 = string_then x.client_version t2 in
    let b : length t2 ≡ 4 + length x.server_version + length t3 = string_then x.server_version t3 in
    let c : length t3 ≡ 4 + length x.client_kexinit + length t4 = string_then x.client_kexinit t4 in
    let d : length t4 ≡ 4 + length x.server_kexinit + length t5 = string_then x.server_kexinit t5 in
    let e : length t5 ≡ 4 + length x.host_key + length t6 = string_then x.host_key t6 in
    let f : length t6 ≡ 4 + length x.client_share + length t7 = string_then x.client_share t7 in
    let g : length t7 ≡ 4 + length x.server_share + length (string x.shared) = string_then x.server_share (string x.shared) in
    let h : length (string x.shared) ≡ 4 + length x.shared = string_alone x.shared in
    omega (arith, a, b, c, d, e, f, g, h)

byte_then : (b : ℕ) (more : List ℕ) → length (b ∷ more) ≡ 1 + length more
byte_then b more = omega arith

boolean_then : (more : List ℕ) → length (boolean true ++ more) ≡ 1 + length more
boolean_then more = omega arith

pub signed_length : (session user service algorithm key : List ℕ) → length (signed_text session user service algorithm key)
    ≡ length session + length user + length service + length algorithm + length key + 35
unfolding signed_text
signed_length session user service algorithm key =
    let t5 : List ℕ = string algorithm ++ string key in
    let t4 : List ℕ = boolean true ++ t5 in
    let t3 : List ℕ = string (codes "publickey") ++ t4 in
    let t2 : List ℕ = string service ++ t3 in
    let t1 : List ℕ = string user ++ t2 in
    let a : length (signed_text session user service algorithm key) ≡ 4 + length session + length (50 ∷ t1) = string_then session (50 ∷ t1) in
    let b : length (50 ∷ t1) ≡ 1 + length t1 = byte_then 50 t1 in
    let c : length t1 ≡ 4 + length user + length t2 = string_then user t2 in
    let d : length t2 ≡ 4 + length service + length t3 = string_then service t3 in
    let e : length t3 ≡ 4 + length (codes "publickey") + length t4 = string_then (codes "publickey") t4 in
    let name : length (codes "publickey") ≡ 9 = refl in
    let f : length t4 ≡ 1 + length t5 = boolean_then t5 in
    let g : length t5 ≡ 4 + length algorithm + length (string key) = string_then algorithm (string key) in
    let h : length (string key) ≡ 4 + length key = string_alone key in
    omega (arith, a, b, c, d, e, f, g, h, name)
