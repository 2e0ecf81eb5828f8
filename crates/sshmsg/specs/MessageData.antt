-- The messages, each declared once: what it says as plain data, its layout, its form, and the form's number. RFC 4252, RFC 4253,
-- RFC 5656 section 4 and, for EXT_INFO, RFC 8308.

use Rattle.std.specs.Prelude.{◌==◌, ◌||◌, ℕ, zero, suc, Bool, if◌then◌else◌, List, [], ◌∷◌, ◌++◌, codes, length, Option, None, Some}
use Rattle.std.specs.Str.{bytes_eq}
use Rattle.sshwire.specs.declared.share_form.ShareForm.{ShareForm}
use Rattle.sshwire.specs.declared.share_form.ShareForm.TheVariants.{Hybrid, Mpint, OctetString}
use Rattle.sshmsg.specs.declared.numbers.TheConstants.{SSH_MSG_DEBUG, SSH_MSG_DISCONNECT, SSH_MSG_EXT_INFO, SSH_MSG_IGNORE, SSH_MSG_KEXDH_INIT, SSH_MSG_KEXDH_REPLY, SSH_MSG_KEXINIT, SSH_MSG_NEWKEYS, SSH_MSG_SERVICE_ACCEPT, SSH_MSG_SERVICE_REQUEST, SSH_MSG_UNIMPLEMENTED, SSH_MSG_USERAUTH_BANNER, SSH_MSG_USERAUTH_FAILURE, SSH_MSG_USERAUTH_PK_OK, SSH_MSG_USERAUTH_REQUEST, SSH_MSG_USERAUTH_SUCCESS}
use Rattle.sshmsg.specs.Form.{BigNumber, Bytes, Cookie, Done, Field, Flag, FormOf, Names, Number, Of, Reserved, Rest, Then, Utf8}

-- what a KEXINIT offers (RFC 4253 section 7.1); names are byte lists
pub record KexInitData : Type 0 where
  pub cookie : List ℕ
  pub kex_algorithms : List (List ℕ)
  pub server_host_key_algorithms : List (List ℕ)
  pub encryption_client_to_server : List (List ℕ)
  pub encryption_server_to_client : List (List ℕ)
  pub mac_client_to_server : List (List ℕ)
  pub mac_server_to_client : List (List ℕ)
  pub compression_client_to_server : List (List ℕ)
  pub compression_server_to_client : List (List ℕ)
  pub languages_client_to_server : List (List ℕ)
  pub languages_server_to_client : List (List ℕ)
  pub first_kex_packet_follows : Bool

-- the method of a request with its fields (RFC 4252 sections 5 to 8)
pub data MethodData : Type 0 where
  NoMethod : MethodData
  Password : List ℕ → MethodData
  PasswordChange : List ℕ → List ℕ → MethodData
  PublicKey : List ℕ → List ℕ → List ℕ → MethodData
  PublicKeyQuery : List ℕ → List ℕ → MethodData
  OtherMethod : List ℕ → List ℕ → MethodData

-- one message
pub data MessageData : Type 0 where
  Disconnect : ℕ → List ℕ → List ℕ → MessageData
  Ignore : List ℕ → MessageData
  Unimplemented : ℕ → MessageData
  Debug : Bool → List ℕ → List ℕ → MessageData
  ServiceRequest : List ℕ → MessageData
  ServiceAccept : List ℕ → MessageData
  ExtInfo : List (List ℕ × List ℕ) → MessageData
  KexInit : KexInitData → MessageData
  NewKeys : MessageData
  KexdhInit : List ℕ → MessageData
  KexdhReply : List ℕ → List ℕ → List ℕ → MessageData
  KexEcdhInit : List ℕ → MessageData
  KexEcdhReply : List ℕ → List ℕ → List ℕ → MessageData
  UserauthRequest : List ℕ → List ℕ → MethodData → MessageData
  UserauthFailure : List (List ℕ) → Bool → MessageData
  UserauthSuccess : MessageData
  UserauthBanner : List ℕ → List ℕ → MessageData
  UserauthPkOk : List ℕ → List ℕ → MessageData

-- The fields of one message with what they hold, in order. Three messages end otherwise than by a field: with the pairs of an
-- EXT_INFO, with what a KEXINIT offers, or with the fields of a method.
pub data Fields : Type 0 where
  End : Fields
  With : (f : Field) → Of f → Fields → Fields
  Pairs : List (List ℕ × List ℕ) → Fields
  OfKexInit : KexInitData → Fields
  OfMethod : MethodData → Fields

-- a method's name, with which its fields begin
abbrev pub method_name : MethodData → List ℕ
method_name NoMethod = codes "none"
method_name (Password password) = codes "password"
method_name (PasswordChange old new) = codes "password"
method_name (PublicKey algorithm key signature) = codes "publickey"
method_name (PublicKeyQuery algorithm key) = codes "publickey"
method_name (OtherMethod name fields) = name

-- The layout of each: its number (RFC 4250 section 4.1.2) and its fields with what they hold, in order. Its written form, its
-- length and what its fields have to be follow from it. The number stands here as digits, apart from the constants of the code.
abbrev pub layout : MessageData → ℕ × Fields
layout (Disconnect reason description language) = (1, With Number reason (With Bytes description (With Bytes language End)))
layout (Ignore content) = (2, With Bytes content End)
layout (Unimplemented sequence_number) = (3, With Number sequence_number End)
layout (Debug always_display text language) = (4, With Flag always_display (With Bytes text (With Bytes language End)))
layout (ServiceRequest service) = (5, With Bytes service End)
layout (ServiceAccept service) = (6, With Bytes service End)
layout (ExtInfo pairs) = (7, With Number (length pairs) (Pairs pairs))
layout (KexInit offer) = (20, OfKexInit offer)
layout NewKeys = (21, End)
layout (KexdhInit e) = (30, With BigNumber e End)
layout (KexdhReply host_key f signature) = (31, With Bytes host_key (With BigNumber f (With Bytes signature End)))
layout (KexEcdhInit client_share) = (30, With Bytes client_share End)
layout (KexEcdhReply host_key server_share signature) = (31, With Bytes host_key (With Bytes server_share (With Bytes signature End)))
layout (UserauthRequest user service method) = (50, With Utf8 user (With Bytes service (With Bytes (method_name method) (OfMethod method))))
layout (UserauthFailure methods partial_success) = (51, With Names methods (With Flag partial_success End))
layout UserauthSuccess = (52, End)
layout (UserauthBanner text language) = (53, With Bytes text (With Bytes language End))
layout (UserauthPkOk algorithm key) = (60, With Bytes algorithm (With Bytes key End))

-- The form of each, by which it is read: its fields in order, and the message that they make.
abbrev pub Form : Type 0
Form = FormOf MessageData

-- 1, RFC 4253 section 11.1
abbrev pub disconnect : Form
disconnect = Then Number λ reason. Then Bytes λ description. Then Bytes λ language. Done (Disconnect reason description language)

-- 2, RFC 4253 section 11.2
abbrev pub ignore : Form
ignore = Then Bytes λ content. Done (Ignore content)

-- 3, RFC 4253 section 11.4
abbrev pub unimplemented : Form
unimplemented = Then Number λ sequence_number. Done (Unimplemented sequence_number)

-- 4, RFC 4253 section 11.3
abbrev pub debug : Form
debug = Then Flag λ always_display. Then Bytes λ text. Then Bytes λ language. Done (Debug always_display text language)

-- SERVICE_REQUEST, message 5 (RFC 4253 section 10)
abbrev pub service_request : Form
service_request = Then Bytes λ service. Done (ServiceRequest service)

-- SERVICE_ACCEPT, message 6 (RFC 4253 section 10)
abbrev pub service_accept : Form
service_accept = Then Bytes λ service. Done (ServiceAccept service)

-- so many pairs of a name and a value, after those that were found
unfoldable pub extensions : ℕ → List (List ℕ × List ℕ) → Form
extensions zero found = Done (ExtInfo found)
extensions (suc n) found = Then Bytes λ name. Then Bytes λ value. extensions n (found ++ (name, value) ∷ [])

-- 7, RFC 8308 section 2.3
unfoldable pub ext_info : Form
ext_info = Then Number λ count. extensions count []

-- 20, RFC 4253 section 7.1
unfoldable pub kexinit : Form
kexinit =
    Then Cookie λ cookie. Then Names λ kex. Then Names λ host_key.
    Then Names λ encryption_client. Then Names λ encryption_server. Then Names λ mac_client. Then Names λ mac_server.
    Then Names λ compression_client. Then Names λ compression_server. Then Names λ languages_client. Then Names λ languages_server.
    Then Flag λ follows. Then Reserved λ _. Done (KexInit (record {
      cookie = cookie;
      kex_algorithms = kex;
      server_host_key_algorithms = host_key;
      encryption_client_to_server = encryption_client;
      encryption_server_to_client = encryption_server;
      mac_client_to_server = mac_client;
      mac_server_to_client = mac_server;
      compression_client_to_server = compression_client;
      compression_server_to_client = compression_server;
      languages_client_to_server = languages_client;
      languages_server_to_client = languages_server;
      first_kex_packet_follows = follows;
    }))

-- 21, RFC 4253 section 7.3
abbrev pub newkeys : Form
newkeys = Done NewKeys

-- KEXDH_INIT, message 30 where shares are mpints (RFC 4253 section 8)
abbrev pub kexdh_init : Form
kexdh_init = Then BigNumber λ e. Done (KexdhInit e)

-- KEXDH_REPLY, message 31 where shares are mpints (RFC 4253 section 8)
abbrev pub kexdh_reply : Form
kexdh_reply = Then Bytes λ host_key. Then BigNumber λ f. Then Bytes λ signature. Done (KexdhReply host_key f signature)

-- KEX_ECDH_INIT, message 30 where shares are octet strings (RFC 5656 section 4, which RFC 8731 and the hybrids use)
abbrev pub kex_ecdh_init : Form
kex_ecdh_init = Then Bytes λ client_share. Done (KexEcdhInit client_share)

-- KEX_ECDH_REPLY, message 31 where shares are octet strings (RFC 5656 section 4)
abbrev pub kex_ecdh_reply : Form
kex_ecdh_reply = Then Bytes λ host_key. Then Bytes λ server_share. Then Bytes λ signature. Done (KexEcdhReply host_key server_share signature)

-- the client's message of an exchange whose shares have this form
abbrev pub init_of : ShareForm → Form
init_of Mpint = kexdh_init
init_of OctetString = kex_ecdh_init
init_of Hybrid = kex_ecdh_init

-- the server's message of an exchange whose shares have this form
abbrev pub reply_of : ShareForm → Form
reply_of Mpint = kexdh_reply
reply_of OctetString = kex_ecdh_reply
reply_of Hybrid = kex_ecdh_reply

-- the fields of the method 'password', RFC 4252 section 8
unfoldable pub password : List ℕ → List ℕ → Form
password user service =
    Then Flag λ change.
    if change then (Then Bytes λ old. Then Bytes λ new. Done (UserauthRequest user service (PasswordChange old new)))
    else (Then Bytes λ secret. Done (UserauthRequest user service (Password secret)))

-- the fields of the method 'publickey', RFC 4252 section 7
unfoldable pub publickey : List ℕ → List ℕ → Form
publickey user service =
    Then Flag λ signed. Then Bytes λ algorithm. Then Bytes λ key.
    if signed then (Then Bytes λ signature. Done (UserauthRequest user service (PublicKey algorithm key signature)))
    else Done (UserauthRequest user service (PublicKeyQuery algorithm key))

-- the name is one of the three methods
abbrev pub is_named : List ℕ → Bool
is_named name = bytes_eq name (codes "none") || (bytes_eq name (codes "password") || bytes_eq name (codes "publickey"))

-- the fields of `none`, `password` (two forms) and `publickey` (two forms); of any other method all bytes up to the end (RFC 4252 sections
-- 5.2, 7 and 8; the last is profile)
abbrev pub method_form : List ℕ → List ℕ → List ℕ → Form
method_form user service method =
    if bytes_eq method (codes "none") then Done (UserauthRequest user service NoMethod)
    else if bytes_eq method (codes "password") then password user service
    else if bytes_eq method (codes "publickey") then publickey user service
    else Rest (λ fields. UserauthRequest user service (OtherMethod method fields))

-- 50, RFC 4252 section 5
unfoldable pub userauth_request : Form
userauth_request = Then Utf8 λ user. Then Bytes λ service. Then Bytes λ method. method_form user service method

-- 51, RFC 4252 section 5.1
abbrev pub userauth_failure : Form
userauth_failure = Then Names λ methods. Then Flag λ partial_success. Done (UserauthFailure methods partial_success)

-- 52, RFC 4252 section 5.1
abbrev pub userauth_success : Form
userauth_success = Done UserauthSuccess

-- 53, RFC 4252 section 5.4
abbrev pub userauth_banner : Form
userauth_banner = Then Bytes λ text. Then Bytes λ language. Done (UserauthBanner text language)

-- 60, RFC 4252 section 7: the key of a query would do
abbrev pub userauth_pk_ok : Form
userauth_pk_ok = Then Bytes λ algorithm. Then Bytes λ key. Done (UserauthPkOk algorithm key)

-- the form of each number that has one, in an exchange whose shares have this form
abbrev pub forms : ShareForm → List (ℕ × Form)
forms shares =
    (SSH_MSG_DISCONNECT, disconnect) ∷
    (SSH_MSG_IGNORE, ignore) ∷
    (SSH_MSG_UNIMPLEMENTED, unimplemented) ∷
    (SSH_MSG_DEBUG, debug) ∷
    (SSH_MSG_SERVICE_REQUEST, service_request) ∷
    (SSH_MSG_SERVICE_ACCEPT, service_accept) ∷
    (SSH_MSG_EXT_INFO, ext_info) ∷
    (SSH_MSG_KEXINIT, kexinit) ∷
    (SSH_MSG_NEWKEYS, newkeys) ∷
    (SSH_MSG_KEXDH_INIT, init_of shares) ∷
    (SSH_MSG_KEXDH_REPLY, reply_of shares) ∷
    (SSH_MSG_USERAUTH_REQUEST, userauth_request) ∷
    (SSH_MSG_USERAUTH_FAILURE, userauth_failure) ∷
    (SSH_MSG_USERAUTH_SUCCESS, userauth_success) ∷
    (SSH_MSG_USERAUTH_BANNER, userauth_banner) ∷
    (SSH_MSG_USERAUTH_PK_OK, userauth_pk_ok) ∷
    []

-- the form of the first row with this number, if there is one
abbrev pub form_in : List (ℕ × Form) → ℕ → Option Form
form_in [] n = None
form_in (row ∷ rows) n = if n == row.0 then Some row.1 else form_in rows n

-- The form of a message by its number, in an exchange with shares of this form (RFC 4253 section 12, RFC 5656 section 4, RFC 4252 section
-- 6, RFC 8308 section 2.3). A number without a row has none.
unfoldable pub form_of : ShareForm → ℕ → Option Form
form_of shares n = form_in (forms shares) n
