-- How lists are read and written: the ten of a KEXINIT as two, and four, and four, and the pairs of an EXT_INFO.

use Rattle.std.specs.Prelude.{ℕ, Bool, List, ◌++◌, Result, Ok}
use Rattle.sshwire.specs.declared.fault.WireFault.{WireFault}
use Rattle.sshwire.specs.Types.{name_list}
use Rattle.sshwire.specs.TypeReadings.{◌>>=◌, boolean_at, names_at, string_at}
use Rattle.sshmsg.specs.MessageData.{KexInitData}
use Rattle.sshmsg.specs.Form.{bytes_at}
use Rattle.sshmsg.specs.Written.{IsNameList}

-- a name-list, as its names
abbrev pub Names : Type 0
Names = List (List ℕ)

-- two lists
abbrev pub Two : Type 0
Two = Names × Names

-- four lists
abbrev pub Four : Type 0
Four = Two × Two

-- the ten lists of a KEXINIT (RFC 4253 section 7.1)
abbrev pub Ten : Type 0
Ten = (Two × Four) × Four

-- one reading after another
abbrev pub then_at : {X Y : Type 0} → (List ℕ → Result (X × List ℕ) WireFault) → (List ℕ → Result (Y × List ℕ) WireFault) → List ℕ → Result ((X × Y) × List ℕ) WireFault
then_at first other bytes = do
  x ← first bytes
  y ← other x.1
  Ok ((x.0, y.0), y.1)

-- a pair of a name and a value
unfoldable pub pair_at : List ℕ → Result ((List ℕ × List ℕ) × List ℕ) WireFault
pair_at bytes = then_at string_at string_at bytes

-- two lists at the front, and what is left
unfoldable pub two_at : List ℕ → Result (Two × List ℕ) WireFault
two_at bytes = then_at names_at names_at bytes

-- four lists at the front, and what is left
unfoldable pub four_at : List ℕ → Result (Four × List ℕ) WireFault
four_at bytes = then_at two_at two_at bytes

-- ten lists at the front, and what is left
unfoldable pub ten_at : List ℕ → Result (Ten × List ℕ) WireFault
ten_at bytes = then_at (then_at two_at four_at) four_at bytes

-- what stands after them; the reserved word may hold anything
abbrev pub end_at : List ℕ → Result (Bool × List ℕ) WireFault
end_at bytes = do
  follows ← boolean_at bytes
  reserved ← bytes_at 4 follows.1
  Ok (follows.0, reserved.1)

-- the offer with these lists
abbrev pub offer_with : List ℕ → Ten → Bool → KexInitData
offer_with cookie lists follows = record {
  cookie = cookie;
  kex_algorithms = lists.0.0.0;
  server_host_key_algorithms = lists.0.0.1;
  encryption_client_to_server = lists.0.1.0.0;
  encryption_server_to_client = lists.0.1.0.1;
  mac_client_to_server = lists.0.1.1.0;
  mac_server_to_client = lists.0.1.1.1;
  compression_client_to_server = lists.1.0.0;
  compression_server_to_client = lists.1.0.1;
  languages_client_to_server = lists.1.1.0;
  languages_server_to_client = lists.1.1.1;
  first_kex_packet_follows = follows;
}

-- two lists, one after another
abbrev pub two_written : Two → List ℕ
two_written two = name_list two.0 ++ name_list two.1

-- four lists, one after another
abbrev pub four_written : Four → List ℕ
four_written four = two_written four.0 ++ two_written four.1

-- the ten lists of a KEXINIT, one after another
abbrev pub lists_written : KexInitData → List ℕ
lists_written offer =
    two_written (offer.kex_algorithms, offer.server_host_key_algorithms)
    ++ (four_written ((offer.encryption_client_to_server, offer.encryption_server_to_client), (offer.mac_client_to_server, offer.mac_server_to_client))
    ++ four_written ((offer.compression_client_to_server, offer.compression_server_to_client), (offer.languages_client_to_server, offer.languages_server_to_client)))

-- two lists are well-formed
abbrev pub AreTwo : Two → Type 0
AreTwo two = IsNameList two.0 × IsNameList two.1

-- four lists are well-formed
abbrev pub AreFour : Four → Type 0
AreFour four = AreTwo four.0 × AreTwo four.1

-- the ten lists of a KEXINIT are well-formed
abbrev pub AreLists : KexInitData → Type 0
AreLists offer =
    AreTwo (offer.kex_algorithms, offer.server_host_key_algorithms)
    × AreFour ((offer.encryption_client_to_server, offer.encryption_server_to_client), (offer.mac_client_to_server, offer.mac_server_to_client))
    × AreFour ((offer.compression_client_to_server, offer.compression_server_to_client), (offer.languages_client_to_server, offer.languages_server_to_client))
