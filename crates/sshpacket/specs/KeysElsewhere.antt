-- Keys that are held elsewhere: where a config has a private key stands the public key.

use Rattle.std.specs.Prelude.{◌≡◌, ℕ, Bool, false, if◌then◌else◌, List, [], length, take, Result, Ok, Err}
use Rattle.sshwire.specs.declared.fault.WireFault.{WireFault}
use Rattle.sshwire.specs.TypeReadings.{is_name, string_at}
use Rattle.sshpacket.specs.declared.limits.TheConstants.{BLOB_LIMIT}
use Rattle.sshpacket.specs.Suite.{SuiteData}

-- the string at the front is a name
abbrev pub is_named : Result (List ℕ × List ℕ) WireFault → Bool
is_named (Ok string) = is_name string.0
is_named (Err fault) = false

-- bytes that begin with the name of their kind, as a string, as each public key does (RFC 4253 section 6.6)
unfoldable pub begins_with_name : List ℕ → Bool
begins_with_name bytes = is_named (string_at bytes)

-- What stands in a config for a private key that isn't held, told as its public key. Other bytes aren't told: a private key in a wrong
-- form doesn't leave. What is longer than a public key is cut (RFC 4253 section 6.6).
abbrev pub public_part : List ℕ → List ℕ
public_part bytes = if begins_with_name bytes then take BLOB_LIMIT bytes else []

-- a suite that answers as this one, but holds no private key: in its place is the public key (profile)
abbrev pub elsewhere : SuiteData → SuiteData
elsewhere m = record m { blob = λ algorithm private_key. public_part private_key; holds = λ algorithm private_key. false }
