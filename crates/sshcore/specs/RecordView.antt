-- What contracts see of the parts of a record, as they are lent.

use Rattle.std.specs.Prelude.{option_map}
use Rattle.sshneg.specs.Fields.{AlgorithmsData}
use Rattle.sshpacket.specs.KeysData.{KeysData}
use Rattle.sshcore.specs.declared.record_parts.AuthenticationParts.{AuthenticationParts}
use Rattle.sshcore.specs.declared.record_parts.CarriedParts.{CarriedParts}
use Rattle.sshcore.specs.declared.record_parts.ExchangeParts.{ExchangeParts}
use Rattle.sshcore.specs.declared.record_parts.LentKeys.{LentKeys}
use Rattle.sshcore.specs.declared.record_parts.LentNames.{LentNames}
use Rattle.sshcore.specs.declared.record_parts.LentUserKey.{LentUserKey}
use Rattle.sshcore.specs.declared.record_parts.ReaderParts.{ReaderParts}
use Rattle.sshcore.specs.declared.record_parts.ReaderParts.TheVariants as reader
use Rattle.sshcore.specs.declared.record_parts.RecordParts.{RecordParts}
use Rattle.sshcore.specs.declared.record_parts.SendingParts.{SendingParts}
use Rattle.sshcore.specs.EndpointParts.{UserKeyData}
use Rattle.sshcore.specs.Output.{Sending}
use Rattle.sshcore.specs.RecordData.{AuthenticationRecord, ExchangeRecord, OfLines, OfPackets, ReaderRecord, RecordData}
use Rattle.sshcore.specs.StateData.{Carried}

-- the twin of keys that are lent
abbrev pub lent_keys : LentKeys → KeysData
lent_keys k = record { cipher = k.cipher.now; mac = k.mac.now; iv = k.iv.now; enc = k.enc.now; mac_key = k.mac_key.now }

-- the twin of names that are lent
abbrev pub lent_names : LentNames → AlgorithmsData
lent_names n = record {
  kex = n.kex.now;
  host_key = n.host_key.now;
  encryption_client_to_server = n.encryption_client_to_server.now;
  encryption_server_to_client = n.encryption_server_to_client.now;
  mac_client_to_server = n.mac_client_to_server.now;
  mac_server_to_client = n.mac_server_to_client.now;
  compression_client_to_server = n.compression_client_to_server.now;
  compression_server_to_client = n.compression_server_to_client.now;
}

-- the twin of a user's key that is lent
abbrev pub lent_user_key : LentUserKey → UserKeyData
lent_user_key k = record { algorithm = k.algorithm.now; blob = k.blob.now }

-- the twin of what is written of the key exchange
abbrev pub exchange_record : ExchangeParts → ExchangeRecord
exchange_record x = record {
  shares = x.shares;
  strict = x.strict;
  first = x.first;
  version = x.version.now;
  kexinit = x.kexinit.now;
  session = x.session.now;
  algorithms = option_map lent_names x.algorithms;
}

-- the twin of what is written of authentication
abbrev pub authentication_record : AuthenticationParts → AuthenticationRecord
authentication_record a = record {
  request = a.request;
  allowance = a.allowance;
  completed = record { user = a.user.now; service = a.service.now; password = a.password; publickey = a.publickey };
}

-- the twin of what is written of what is carried along
abbrev pub carried_record : CarriedParts → Carried
carried_record c = record {
  pending = option_map lent_keys c.pending;
  own_version = c.own_version.now;
  host_key = c.host_key.now;
  user_key = option_map lent_user_key c.user_key;
}

-- the twin of what is written of sending
abbrev pub sending_record : SendingParts → Sending
sending_record s = record { keys = option_map lent_keys s.keys; number = s.number }

-- the twin of what is written of the reader
abbrev pub reader_record : ReaderParts → ReaderRecord
reader_record (reader.Lines others line) = OfLines others line.now
reader_record (reader.Packets keys number held) = OfPackets (option_map lent_keys keys) number held.now

-- the twin of all that is written of an endpoint
abbrev pub record_data : RecordParts → RecordData
record_data r = record {
  missing = r.missing;
  role = r.role;
  confirmed = r.confirmed;
  left = r.left;
  phase = r.phase;
  guess = r.guess;
  exchange = exchange_record r.exchange;
  authentication = authentication_record r.authentication;
  carried = carried_record r.carried;
  sending = sending_record r.sending;
  reader = reader_record r.reader;
  waiting = option_map (λ payload. payload.now) r.waiting;
}
