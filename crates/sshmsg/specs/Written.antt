-- The written form of a message: its number and its fields in order, each in the one form that is written for it.

use Rattle.std.specs.Prelude.{ℕ, ◌^◌, ◌<◌, ◌≡◌, ◌≢◌, false, true, List, [], ◌∷◌, ◌++◌, flat_map, length}
use Rattle.std.specs.List.{AllByRecursion}
use Rattle.std.specs.Str.{IsUtf8}
use Rattle.sshwire.specs.Types.{AreNames, IsBytes, IsShortestBody, boolean, name_list, names_body, string, uint32}
use Rattle.sshwire.specs.declared.share_form.ShareForm.{ShareForm}
use Rattle.sshwire.specs.declared.share_form.ShareForm.TheVariants.{Mpint}
use Rattle.sshmsg.specs.MessageData.{End, Fields, is_named, KexdhInit, KexdhReply, KexEcdhInit, KexEcdhReply, KexInitData, layout, MessageData, OfMethod, MethodData, NoMethod, OfKexInit, OtherMethod, Pairs, Password, PasswordChange, PublicKey, PublicKeyQuery, With}
use Rattle.sshmsg.specs.Form.{BigNumber, Bytes, Cookie, Field, Flag, Names, Number, Of, Reserved, Utf8}

-- the pair of an EXT_INFO: the name and the value, each as a string (RFC 8308 section 2.3)
abbrev pub pair_written : List ℕ × List ℕ → List ℕ
pair_written pair = string pair.0 ++ string pair.1

-- the pairs of an EXT_INFO, one after another (RFC 8308 section 2.3)
abbrev pub pairs_written : List (List ℕ × List ℕ) → List ℕ
pairs_written pairs = flat_map pair_written pairs

-- the fields of a KEXINIT; the reserved word is 0
abbrev pub offer_written : KexInitData → List ℕ
offer_written offer =
    offer.cookie
    ++ (name_list offer.kex_algorithms
    ++ (name_list offer.server_host_key_algorithms
    ++ (name_list offer.encryption_client_to_server
    ++ (name_list offer.encryption_server_to_client
    ++ (name_list offer.mac_client_to_server
    ++ (name_list offer.mac_server_to_client
    ++ (name_list offer.compression_client_to_server
    ++ (name_list offer.compression_server_to_client
    ++ (name_list offer.languages_client_to_server
    ++ (name_list offer.languages_server_to_client
    ++ (boolean offer.first_kex_packet_follows
    ++ uint32 0)))))))))))

-- The payload of a KEXINIT: its number, and its fields (RFC 4253 section 7.1).
unfoldable pub kexinit_payload : KexInitData → List ℕ
kexinit_payload offer = 20 ∷ offer_written offer

-- the fields after a method's name
abbrev pub method_fields : MethodData → List ℕ
method_fields NoMethod = []
method_fields (Password password) = boolean false ++ string password
method_fields (PasswordChange old new) = boolean true ++ (string old ++ string new)
method_fields (PublicKey algorithm key signature) = boolean true ++ (string algorithm ++ (string key ++ string signature))
method_fields (PublicKeyQuery algorithm key) = boolean false ++ (string algorithm ++ string key)
method_fields (OtherMethod name fields) = fields

-- the one form in which a field is written
abbrev pub field_written : (f : Field) → Of f → List ℕ
field_written Flag value = boolean value
field_written Number value = uint32 value
field_written Bytes value = string value
field_written Utf8 value = string value
field_written BigNumber value = string value
field_written Names value = name_list value
field_written Cookie value = value
field_written Reserved value = uint32 0

-- all fields, one after another, each in its one form
abbrev pub fields_written : Fields → List ℕ
fields_written End = []
fields_written (With f value End) = field_written f value
fields_written (With f value more) = field_written f value ++ fields_written more
fields_written (Pairs pairs) = pairs_written pairs
fields_written (OfKexInit offer) = offer_written offer
fields_written (OfMethod m) = method_fields m

-- the payload that is written for a message: its number and its fields in order (RFC 4253 sections 7 to 11, RFC 4252 sections 5 to 8, RFC
-- 8308 section 2.3)
unfoldable pub written_message : MessageData → List ℕ
written_message m = (layout m).0 ∷ fields_written (layout m).1

-- What the fields of a message have to be, so that they can be written: lengths and numbers fit a uint32,
-- names are names, mpints are the shortest, the user is UTF-8, a cookie has 16 bytes.
abbrev pub IsString : List ℕ → Type 0
IsString bytes = length bytes < 2 ^ 32

-- the body of an mpint that can be written: bytes, the shortest of their number, fewer than 2^32 (RFC 4251 section 5)
pub record IsNumber (body : List ℕ) : Type 0 where
  pub bytes : IsBytes body
  pub shortest : IsShortestBody body
  pub short : length body < 2 ^ 32

-- each entry is a name, and the list fits a string (RFC 4251 section 5)
pub record IsNameList (names : List (List ℕ)) : Type 0 where
  pub each : AreNames names
  pub short : length (names_body names) < 2 ^ 32

-- what a KEXINIT says is well-formed: a cookie of 16 bytes, and ten lists of names that fit a string each (RFC 4253 section 7.1)
pub record IsOffer (offer : KexInitData) : Type 0 where
  pub cookie : length offer.cookie ≡ 16
  pub kex_algorithms : IsNameList offer.kex_algorithms
  pub server_host_key_algorithms : IsNameList offer.server_host_key_algorithms
  pub encryption_client_to_server : IsNameList offer.encryption_client_to_server
  pub encryption_server_to_client : IsNameList offer.encryption_server_to_client
  pub mac_client_to_server : IsNameList offer.mac_client_to_server
  pub mac_server_to_client : IsNameList offer.mac_server_to_client
  pub compression_client_to_server : IsNameList offer.compression_client_to_server
  pub compression_server_to_client : IsNameList offer.compression_server_to_client
  pub languages_client_to_server : IsNameList offer.languages_client_to_server
  pub languages_server_to_client : IsNameList offer.languages_server_to_client

-- the name and the value of an extension fit a string each
abbrev pub IsPair : List ℕ × List ℕ → Type 0
IsPair pair = IsString pair.0 × IsString pair.1

-- the parts of a method fit a string each; another method has none of the names that have a form of their own
abbrev pub IsMethod : MethodData → Type 0
IsMethod NoMethod = Unit {0}
IsMethod (Password password) = IsString password
IsMethod (PasswordChange old new) = IsString old × IsString new
IsMethod (PublicKey algorithm key signature) = IsString algorithm × IsString key × IsString signature
IsMethod (PublicKeyQuery algorithm key) = IsString algorithm × IsString key
IsMethod (OtherMethod name fields) = is_named name ≡ false

-- a field is what its type allows (RFC 4251 section 5)
abbrev pub IsField : (f : Field) → Of f → Type 0
IsField Flag value = Unit {0}
IsField Number value = value < 2 ^ 32
IsField Bytes value = IsString value
IsField Utf8 value = IsUtf8 value × IsString value
IsField BigNumber value = IsNumber value
IsField Names value = IsNameList value
IsField Cookie value = length value ≡ 16
IsField Reserved value = Unit {0}

-- each field is what its type allows
abbrev pub AreFields : Fields → Type 0
AreFields End = Unit {0}
AreFields (With f value more) = IsField f value × AreFields more
AreFields (Pairs pairs) = AllByRecursion IsPair pairs
AreFields (OfKexInit offer) = IsOffer offer
AreFields (OfMethod m) = IsMethod m

-- the message is well-formed: each field is what its type allows (RFC 4251 section 5)
abbrev pub IsWellFormed : MessageData → Type 0
IsWellFormed m = AreFields (layout m).1

-- a message that an exchange with shares of this form has: where shares are mpints 30 and 31 are those of RFC 4253 section 8,
-- else those of RFC 5656 section 4; every other message is in each
abbrev pub IsMessageOf : ShareForm → MessageData → Type 0
IsMessageOf shares (KexdhInit e) = shares ≡ Mpint
IsMessageOf shares (KexdhReply host_key f signature) = shares ≡ Mpint
IsMessageOf shares (KexEcdhInit client_share) = shares ≢ Mpint
IsMessageOf shares (KexEcdhReply host_key server_share signature) = shares ≢ Mpint
IsMessageOf shares _ = Unit {0}
