-- How an endpoint reads what it receives and spells what it sends, unit by unit: RFC 4253 sections 4.2, 6, 7.2 and 7.3. Unit 0 of
-- either direction is the text of a version line, and the others are payloads: `before` stands after the version here.

use Rattle.std.specs.Prelude.{ℕ, ◌-◌, if◌then◌else◌, List, [], ◌∷◌, ◌++◌, drop, flat_map, length, Option, None, Some}
use Rattle.sshwire.specs.declared.limits.TheConstants.{OTHER_LINE_LIMIT}
use Rattle.sshwire.specs.declared.line_form.LineForm.{LineForm}
use Rattle.sshwire.specs.declared.line_form.LineForm.TheVariants as line_form
use Rattle.sshwire.specs.declared.line_form.ReadBy.TheVariants as read_by
use Rattle.sshwire.specs.Lines.{version_line}
use Rattle.sshmsg.specs.declared.numbers.TheConstants.{SSH_MSG_NEWKEYS}
use Rattle.sshneg.specs.declared.side.Side.{Side}
use Rattle.sshneg.specs.declared.side.Side.TheVariants.{Client, Server}
use Rattle.sshneg.specs.Markers.{other}
use Rattle.sshpacket.specs.KeysData.{KeysData}
use Rattle.sshpacket.specs.Parse.{ProtectionData, parse_packet, protection}
use Rattle.sshpacket.specs.Places.{after_first}
use Rattle.sshpacket.specs.PreambleParser.{preamble_parser_by}
use Rattle.sshpacket.specs.Stream.{Parsers, Units}
use Rattle.sshpacket.specs.Suite.{SuiteData, all_advanced}
use Rattle.sshpacket.specs.Written.{after_all, written_clear, written_sealed}
use Rattle.sshcore.specs.declared.config_parts.PeerReading.{PeerReading}
use Rattle.sshcore.specs.declared.config_parts.PeerReading.TheVariants.{Strict, Deployed}
use Rattle.sshcore.specs.Before.{since, stood, strict_at}
use Rattle.sshcore.specs.Counting.{is_newkeys, number_in, number_out, switched_out}
use Rattle.sshcore.specs.Exchange.{keys_at}
use Rattle.sshcore.specs.EndpointParts.{ConfigData}

-- the peer's version line among the units received: the first of them
abbrev pub version_in : Units → List ℕ
version_in [] = []
version_in (version ∷ payloads) = version

-- the payloads among the units received: all but the version line
abbrev pub payloads_in : Units → Units
payloads_in units = drop 1 units

-- how many other lines are taken before the version line (profile)
abbrev pub others_of : Side → ℕ
others_of Client = OTHER_LINE_LIMIT
others_of Server = 0

-- the form of version lines by which a reader of this role reads: strict, or as deployed peers write to a client or to a server
abbrev pub form_of : PeerReading → Side → LineForm
form_of Strict role = line_form.Strict
form_of Deployed Client = line_form.Deployed read_by.Client
form_of Deployed Server = line_form.Deployed read_by.Server

-- of the sizes of the units received, those of the packets since the key switch
abbrev pub sizes_since : Side → ConfigData → Units → List ℕ → List ℕ
sizes_since role config before sizes = drop (length sizes - since role config.offer SSH_MSG_NEWKEYS before) sizes

-- The keys of what is received: none up to the key switch, which is the first NEWKEYS that isn't dropped (RFC 4253 section 7.3); then the
-- exchange's, which advance with the size of each packet.
abbrev pub keys_in : SuiteData → Side → ConfigData → List ℕ → Units → List ℕ → Option KeysData
keys_in m role config version before sizes =
    if stood role config.offer SSH_MSG_NEWKEYS before then Some (all_advanced m (keys_at m role config version before (other role)) (sizes_since role config before sizes)) else None

-- how the next packet is protected
abbrev pub protection_in : SuiteData → Side → ConfigData → List ℕ → Units → List ℕ → ProtectionData
protection_in m role config version before sizes = protection m (keys_in m role config version before sizes) (number_in role config before)

-- how the next unit is read after units of these sizes: lines first, by the config's `reading` and the role, then packets
abbrev pub parsers : SuiteData → Side → ConfigData → Parsers
parsers m role config [] sizes = preamble_parser_by (form_of config.reading role) (others_of role)
parsers m role config (version ∷ before) sizes = parse_packet (protection_in m role config version before sizes)

-- the lines that are sent first: notices and the version line
abbrev pub preamble_of : ConfigData → List ℕ
preamble_of config = flat_map version_line config.notices ++ version_line config.version

-- the keys of what is sent: none up to the NEWKEYS that was sent, the exchange's after it, which advance with each packet
abbrev pub keys_out : SuiteData → Side → ConfigData → Units → Units → Option KeysData
keys_out m role config received sent =
    if switched_out sent then Some (after_all m (keys_at m role config (version_in received) (payloads_in received) role) (after_first is_newkeys [] sent)) else None

-- a payload as a packet, in clear or sealed (RFC 4253 section 6)
abbrev pub spelled_by : SuiteData → Option KeysData → List ℕ → ℕ → List ℕ → List ℕ
spelled_by m None seed seq payload = written_clear m seed seq payload
spelled_by m (Some keys) seed seq payload = written_sealed m keys seed seq payload

-- how a unit is spelled after those sent before, by an endpoint that has received these units
abbrev pub spells : SuiteData → Side → ConfigData → Units → Units → List ℕ → List ℕ
spells m role config received [] version = preamble_of config
spells m role config received (version ∷ sent) payload =
    spelled_by m (keys_out m role config received sent) config.seed (number_out (strict_at role config (payloads_in received)) sent) payload
