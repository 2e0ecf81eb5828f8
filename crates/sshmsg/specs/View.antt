-- What a message says: its content without where it lies in memory.

use Rattle.std.specs.Prelude.{◌≡◌, ◌≢◌, ℕ, List, [], map, Option, None, Some, Result, Ok, Err}
use Rattle.sshwire.specs.declared.fault.WireFault.{WireFault}
use Rattle.sshmsg.specs.declared.fault.MsgFault.{MsgFault}
use Rattle.sshmsg.specs.declared.fault.MsgFault.TheVariants.{Memory}
use Rattle.sshmsg.specs.declared.lists.LentKexInit.{LentKexInit}
use Rattle.sshmsg.specs.declared.message.Extension.{Extension}
use Rattle.sshmsg.specs.declared.message.KexInit.{KexInit}
use Rattle.sshmsg.specs.declared.message.Method.{Method}
use Rattle.sshmsg.specs.declared.message.Method.TheVariants as method
use Rattle.sshmsg.specs.declared.message.Message.{Message}
use Rattle.sshmsg.specs.declared.message.Message.TheVariants as message
use Rattle.sshmsg.specs.MessageData as content
use Rattle.sshmsg.specs.MessageData.{ext_info, extensions, Form, KexInitData, MessageData}
use Rattle.sshmsg.specs.Form.{form_at}

-- the twin of a `KexInit`
abbrev pub kexinit_data : KexInit → KexInitData
kexinit_data k = record {
  cookie = k.cookie.now;
  kex_algorithms = k.kex_algorithms;
  server_host_key_algorithms = k.server_host_key_algorithms;
  encryption_client_to_server = k.encryption_client_to_server;
  encryption_server_to_client = k.encryption_server_to_client;
  mac_client_to_server = k.mac_client_to_server;
  mac_server_to_client = k.mac_server_to_client;
  compression_client_to_server = k.compression_client_to_server;
  compression_server_to_client = k.compression_server_to_client;
  languages_client_to_server = k.languages_client_to_server;
  languages_server_to_client = k.languages_server_to_client;
  first_kex_packet_follows = k.first_kex_packet_follows;
}

-- the twin of a KEXINIT whose lists are lent
abbrev pub lent_kexinit_data : LentKexInit → KexInitData
lent_kexinit_data k = record {
  cookie = k.cookie.now;
  kex_algorithms = k.kex_algorithms;
  server_host_key_algorithms = k.server_host_key_algorithms;
  encryption_client_to_server = k.encryption_client_to_server;
  encryption_server_to_client = k.encryption_server_to_client;
  mac_client_to_server = k.mac_client_to_server;
  mac_server_to_client = k.mac_server_to_client;
  compression_client_to_server = k.compression_client_to_server;
  compression_server_to_client = k.compression_server_to_client;
  languages_client_to_server = k.languages_client_to_server;
  languages_server_to_client = k.languages_server_to_client;
  first_kex_packet_follows = k.first_kex_packet_follows;
}

-- the name and the value of an extension (RFC 8308 section 2.3)
abbrev pub pair_of : Extension → List ℕ × List ℕ
pair_of x = (x.name.now, x.value.now)

-- the names and values of extensions, in order
abbrev pub pairs_of : List Extension → List (List ℕ × List ℕ)
pairs_of xs = map pair_of xs

-- the twin of a `Method`
abbrev pub method_data : Method → content.MethodData
method_data method.None = content.NoMethod
method_data (method.Password password) = content.Password password.now
method_data (method.PasswordChange old new) = content.PasswordChange old.now new.now
method_data (method.PublicKey algorithm key signature) = content.PublicKey algorithm.now key.now signature.now
method_data (method.PublicKeyQuery algorithm key) = content.PublicKeyQuery algorithm.now key.now
method_data (method.Other other) = content.OtherMethod other.0 other.1

-- the twin of a `Message`
abbrev pub message_data : Message → MessageData
message_data (message.Disconnect reason description language) = content.Disconnect reason description.now language.now
message_data (message.Ignore bytes) = content.Ignore bytes.now
message_data (message.Unimplemented sequence_number) = content.Unimplemented sequence_number
message_data (message.Debug always_display text language) = content.Debug always_display text.now language.now
message_data (message.ServiceRequest service) = content.ServiceRequest service.now
message_data (message.ServiceAccept service) = content.ServiceAccept service.now
message_data (message.ExtInfo extensions) = content.ExtInfo (pairs_of extensions.items)
message_data (message.KexInit k) = content.KexInit (kexinit_data k.value)
message_data message.NewKeys = content.NewKeys
message_data (message.KexdhInit e) = content.KexdhInit e
message_data (message.KexdhReply host_key f signature) = content.KexdhReply host_key.now f signature.now
message_data (message.KexEcdhInit client_share) = content.KexEcdhInit client_share.now
message_data (message.KexEcdhReply host_key server_share signature) = content.KexEcdhReply host_key.now server_share.now signature.now
message_data (message.UserauthRequest user service m) = content.UserauthRequest user.now service.now (method_data m)
message_data (message.UserauthFailure methods partial_success) = content.UserauthFailure methods partial_success
message_data message.UserauthSuccess = content.UserauthSuccess
message_data (message.UserauthBanner text language) = content.UserauthBanner text.now language.now
message_data (message.UserauthPkOk algorithm key) = content.UserauthPkOk algorithm.now key.now

-- what a function that takes no memory read, seen by view, is what the reading gives
abbrev pub Goes : {X Y : Type 0} → (X → Y) → Result X WireFault → List ℕ → Result (Y × List ℕ) WireFault → Type 0
Goes view (Ok x) new read = read ≡ Ok (view x, new)
Goes view (Err e) new read = read ≡ Err e

-- what was passed over is an EXT_INFO's pairs, or the reading refuses it so
abbrev pub Passes : Result (Unit {0}) WireFault → List ℕ → Result (MessageData × List ℕ) WireFault → Type 0
Passes (Ok _) new read = (pairs : List (List ℕ × List ℕ)) × (read ≡ Ok (content.ExtInfo pairs, new))
Passes (Err e) new read = read ≡ Err e

-- and an EXT_INFO was passed over, of so many pairs, in front of which such bytes stand
abbrev pub LendsPairs : Result (ℕ × List ℕ) WireFault → (old new : List ℕ) → Type 0
LendsPairs (Ok x) old new = Passes (Ok tt) new (form_at ext_info old) × (form_at (extensions x.0 []) x.1 ≡ form_at ext_info old)
LendsPairs (Err e) old new = form_at ext_info old ≡ Err e

-- the same as Goes, of a message of this form, if there is one
abbrev pub ReadsForm : Option Form → List ℕ → List ℕ → Option (Result Message WireFault) → Type 0
ReadsForm None old new answer = answer ≡ None
ReadsForm (Some form) old new None = ⊥
ReadsForm (Some form) old new (Some result) = Goes message_data result new (form_at form old)

-- what `read` answered is what the payload reads as, unless memory ran out
abbrev pub MessageAnswer : Result Message MsgFault → Result MessageData MsgFault → Type 0
MessageAnswer (Ok m) read = read ≡ Ok (message_data m)
MessageAnswer (Err e) read = e ≢ Memory → read ≡ Err e

-- the messages that hold a list: alone they are read with memory
abbrev pub HoldsList : MessageData → Type 0
HoldsList (content.ExtInfo pairs) = Unit {0}
HoldsList (content.KexInit offer) = Unit {0}
HoldsList (content.UserauthFailure methods partial_success) = Unit {0}
HoldsList _ = ⊥

-- running out of memory is told of such a message alone, which the payload reads as: never in the place of another refusal (profile)
abbrev pub IsOutOfMemory : Result Message MsgFault → Result MessageData MsgFault → Type 0
IsOutOfMemory (Ok m) read = Unit {0}
IsOutOfMemory (Err e) read = e ≡ Memory → (m : MessageData) × (read ≡ Ok m) × HoldsList m
