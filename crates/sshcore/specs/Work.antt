-- What an endpoint asks and answers at a message that has a place: RFC 4253 sections 7 to 11, RFC 4252. The order of the checks is
-- profile.

use Rattle.std.specs.Prelude.{ℕ, ◌&&◌, Bool, false, true, not, if◌then◌else◌, List, [], ◌∷◌, codes, Option, None, Some, Result, Ok, Err}
use Rattle.std.specs.Str.{bytes_eq}
use Rattle.sshwire.specs.declared.share_form.ShareForm.{ShareForm}
use Rattle.sshwire.specs.declared.share_form.ShareForm.TheVariants.{Hybrid, Mpint, OctetString}
use Rattle.sshmsg.specs.declared.numbers.TheConstants.{SSH_MSG_KEXINIT, SSH_MSG_SERVICE_ACCEPT}
use Rattle.sshwire.specs.Types.{names_body}
use Rattle.sshmsg.specs.MessageData.{Disconnect, ExtInfo, KexEcdhInit, KexEcdhReply, KexInit, KexInitData, KexdhInit, KexdhReply, MessageData, NewKeys, ServiceAccept, ServiceRequest, UserauthBanner, UserauthFailure, UserauthPkOk, UserauthRequest, UserauthSuccess}
use Rattle.sshmsg.specs.Written.{written_message}
use Rattle.sshneg.specs.declared.choice.NoCommon.{NoCommon}
use Rattle.sshneg.specs.declared.side.Side.{Side}
use Rattle.sshneg.specs.declared.side.Side.TheVariants.{Client, Server}
use Rattle.sshneg.specs.ChoiceReadings.{is_in}
use Rattle.sshneg.specs.Derivations.{ExchangeData}
use Rattle.sshneg.specs.ExchangeEnd.{exchange_hash, offer_in}
use Rattle.sshneg.specs.Fields.{AlgorithmsData}
use Rattle.sshneg.specs.Markers.{first_name, methods}
use Rattle.sshneg.specs.Strictness.{is_right_guess}
use Rattle.sshpacket.specs.Stream.{Units}
use Rattle.sshpacket.specs.Suite.{ResponseData, SuiteData}
use Rattle.sshcore.specs.declared.end.Fault.TheVariants as fault
use Rattle.sshcore.specs.Attempts.{attempt_step, failure_step, pk_ok_step, success_reply}
use Rattle.sshcore.specs.Before.{strict_towards}
use Rattle.sshcore.specs.EndData.{Closed, Reply, fails, goes}
use Rattle.sshcore.specs.Exchange.{answer_with, choice_with, exchange_with, own_kexinit, secret_of}
use Rattle.sshcore.specs.KnownBefore.{Known}
use Rattle.sshcore.specs.EndpointParts.{ConfigData, Setup}
use Rattle.sshcore.specs.Questions.{HostKeyQuestion, is_yes}
use Rattle.sshcore.specs.Requests.{request_step}
use Rattle.sshcore.specs.Step.{AtOnce, Asks, Step, settled, signed_step}

-- the client's exchange message in a form of shares: KEXDH_INIT (RFC 4253 section 8) or KEX_ECDH_INIT (RFC 5656 section 4)
abbrev pub init_in : ShareForm → List ℕ → MessageData
init_in Mpint share = KexdhInit share
init_in OctetString share = KexEcdhInit share
init_in Hybrid share = KexEcdhInit share

-- the server's exchange message in a form of shares: KEXDH_REPLY (RFC 4253 section 8) or KEX_ECDH_REPLY (RFC 5656 section 4)
abbrev pub reply_in : ShareForm → List ℕ → List ℕ → List ℕ → MessageData
reply_in Mpint host_key share signature = KexdhReply host_key share signature
reply_in OctetString host_key share signature = KexEcdhReply host_key share signature
reply_in Hybrid host_key share signature = KexEcdhReply host_key share signature

-- a client's first message of an exchange by this method, in the method's own form
abbrev pub init_for : SuiteData → ConfigData → List ℕ → List ℕ
init_for m config kex = written_message (init_in (m.share_form kex) (m.share kex config.random))

-- the name, if there is one, else no bytes
abbrev pub name_or : Option (List ℕ) → List ℕ
name_or (Some name) = name
name_or None = []

-- the method of a guess: the first of the own methods, without markers (RFC 4253 section 7)
abbrev pub guessed_method : ConfigData → List ℕ
guessed_method config = name_or (first_name (methods config.offer.kex_algorithms))

-- a client's guess (RFC 4253 section 7); a server guesses nothing (profile)
abbrev pub guess_of : SuiteData → Side → ConfigData → Units
guess_of m Server config = []
guess_of m Client config = if config.offer.first_kex_packet_follows then init_for m config (guessed_method config) ∷ [] else []

-- what is sent before anything is received: KEXINIT, and a guess
abbrev pub making : SuiteData → Side → ConfigData → Units
making m role config = own_kexinit config ∷ guess_of m role config

-- at KEXINIT a client sends the first message of the exchange, unless it was sent as a guess, and that was right (RFC 4253 section 7)
abbrev pub opening : SuiteData → Side → ConfigData → KexInitData → List ℕ → Units
opening m Server config peer kex = []
opening m Client config peer kex =
    if config.offer.first_kex_packet_follows && is_right_guess config.offer peer then [] else init_for m config kex ∷ []

-- what an endpoint does when the algorithms are chosen: it goes on with them; without a choice it fails, by the first field that has none
-- (RFC 4253 section 7.1)
abbrev pub chosen_reply : SuiteData → Side → ConfigData → KexInitData → Result AlgorithmsData NoCommon → Reply
chosen_reply m role config peer (Ok a) = goes (opening m role config peer a.kex)
chosen_reply m role config peer (Err f) = fails (fault.NoCommon f)

-- KEXINIT: strictness, which punishes what stood before it (OpenSSH PROTOCOL section 1.10); then the choice; then the guess
unfoldable pub kexinit_reply : SuiteData → Side → ConfigData → Known → KexInitData → Reply
kexinit_reply m role config known peer =
    if strict_towards role config.strict (Some peer) && not known.first then fails (fault.Strict SSH_MSG_KEXINIT)
    else chosen_reply m role config peer (choice_with m role config.offer (Some peer))

-- whether a client's offer asks for extensions: the marker stands in its kex list (RFC 8308 section 2.1)
abbrev pub asks_by : Option KexInitData → Bool
asks_by None = false
asks_by (Some peer) = is_in peer.kex_algorithms (codes "ext-info-c")

-- whether the client's KEXINIT in this payload asks for extensions (RFC 8308 section 2.1)
abbrev pub asks_for_extensions : List ℕ → Bool
asks_for_extensions kexinit = asks_by (offer_in kexinit)

-- the name `server-sig-algs` (RFC 8308 section 3.1)
abbrev pub server_sig_algs : List ℕ
server_sig_algs = codes "server-sig-algs"

-- What a server tells a client that asks, right after its NEWKEYS: the algorithms of users' keys that it verifies, if it has a
-- list of them (RFC 8308 sections 2.2, 2.4 and 3.1).
abbrev pub extensions_by : List (List ℕ) → Bool → Units
extensions_by [] asks = []
extensions_by (name ∷ names) false = []
extensions_by (name ∷ names) true = written_message (ExtInfo ((server_sig_algs, names_body (name ∷ names)) ∷ [])) ∷ []

-- what a server sends its client right after NEWKEYS, by its config and the client's KEXINIT (RFC 8308 sections 2.2 and 2.4)
abbrev pub told_by : ConfigData → Known → Units
told_by config known = extensions_by config.signature_algorithms (asks_for_extensions known.kexinit)

-- The first message of the exchange at a server: its answer to the client's share, then the signature of the exchange hash,
-- and NEWKEYS (RFC 4253 sections 8 and 7.3), and what it tells a client that asks. Without a signature, or a shared secret, the exchange
-- fails (profile).
abbrev pub signed_reply : ConfigData → Known → ExchangeData → Option (List ℕ) → Reply
signed_reply config known x None = fails fault.Exchange
signed_reply config known x (Some signature) =
    goes (written_message (reply_in known.shares x.host_key x.server_share signature) ∷ written_message NewKeys ∷ told_by config known)

-- What a server does at the client's share: it answers with the signature by the key that is configured for the chosen algorithm. Without a
-- shared secret it fails, as F9 (RFC 4253 section 8; F9 is profile).
abbrev pub answered_step : SuiteData → ConfigData → Known → ExchangeData → Option ResponseData → Step
answered_step m config known x None = AtOnce (fails fault.Exchange)
answered_step m config known x (Some answer) =
    signed_step m 0 known.algorithms.host_key (secret_of config.host_keys known.algorithms.host_key) (exchange_hash m known.algorithms.kex x) (signed_reply config known x)

-- what a server does at the client's share, as the message that brings it has it (RFC 4253 section 8)
unfoldable pub init_step : SuiteData → Side → ConfigData → Known → MessageData → Step
init_step m role config known message =
    answered_step m config known (exchange_with m role config known.algorithms known.version known.kexinit (Ok message)) (answer_with m role config known.algorithms (Ok message))

-- the name of the service of authentication (RFC 4252 section 4)
abbrev pub userauth : List ℕ
userauth = codes "ssh-userauth"

-- What a client does at the server's share once it trusts the host key: it fails without a shared secret, as F9, or if the signature is
-- wrong, as F11; else it sends NEWKEYS and requests the service (RFC 4253 sections 8, 7.3 and 10).
abbrev pub signed_by : SuiteData → Known → ExchangeData → List ℕ → Option ResponseData → Reply
signed_by m known x signature None = fails fault.Exchange
signed_by m known x signature (Some answer) =
    if m.verify known.algorithms.host_key x.host_key (exchange_hash m known.algorithms.kex x) signature
    then goes (written_message NewKeys ∷ written_message (ServiceRequest userauth) ∷ [])
    else fails fault.Signature

-- What a client does at the server's share: first it asks whether the host key is trusted, and if not fails, as F10 (RFC 4253 section 8;
-- the order is profile).
abbrev pub trusted_step : SuiteData → Known → ExchangeData → List ℕ → Option ResponseData → Step
trusted_step m known x signature response =
    Asks (HostKeyQuestion known.algorithms.host_key x.host_key) (λ answer. if is_yes answer then signed_by m known x signature response else fails fault.HostKey)

-- what a client does at the server's share, as the message that brings it has it (RFC 4253 section 8)
unfoldable pub reply_step : SuiteData → Side → ConfigData → Known → MessageData → List ℕ → Step
reply_step m role config known message signature =
    trusted_step m known (exchange_with m role config known.algorithms known.version known.kexinit (Ok message)) signature (answer_with m role config known.algorithms (Ok message))

-- the banner that follows SERVICE_ACCEPT, if there is one (RFC 4252 section 5.4)
abbrev pub banner_by : Option (List ℕ) → Units
banner_by None = []
banner_by (Some text) = written_message (UserauthBanner text []) ∷ []

-- What a server does at SERVICE_REQUEST (RFC 4253 section 10): it accepts `ssh-userauth` and sends the banner, if it has one (RFC 4252
-- section 5.4). At any other service it fails, as F12.
abbrev pub service_reply : ConfigData → List ℕ → Reply
service_reply config service =
    if bytes_eq service userauth then goes (written_message (ServiceAccept userauth) ∷ banner_by config.banner)
    else fails fault.Service

-- SERVICE_ACCEPT at a client: the first attempt of its plan is made (RFC 4252 section 5)
abbrev pub accept_step : SuiteData → Known → List ℕ → Step
accept_step m known service =
    if bytes_eq service userauth then attempt_step m known.session known.left else AtOnce (fails (fault.Unexpected SSH_MSG_SERVICE_ACCEPT))

-- What a message comes to, by what is known so far; every other is read and ignored.
unfoldable pub step : SuiteData → Side → ConfigData → Known → MessageData → Step
step m role config known (Disconnect reason description language) = AtOnce (record { answers = []; end = Closed reason })
step m role config known (KexInit peer) = AtOnce (kexinit_reply m role config known peer)
step m role config known (KexdhInit e) = init_step m role config known (KexdhInit e)
step m role config known (KexEcdhInit client_share) = init_step m role config known (KexEcdhInit client_share)
step m role config known (KexdhReply host_key f signature) = reply_step m role config known (KexdhReply host_key f signature) signature
step m role config known (KexEcdhReply host_key server_share signature) = reply_step m role config known (KexEcdhReply host_key server_share signature) signature
step m role config known (ServiceRequest service) = AtOnce (service_reply config service)
step m role config known (ServiceAccept service) = accept_step m known service
step m role config known (UserauthRequest user service method) = request_step m config known user service method
step m role config known (UserauthFailure listed partial) = failure_step m known listed
step m role config known UserauthSuccess = AtOnce (success_reply known)
step m role config known (UserauthPkOk algorithm key) = pk_ok_step m known algorithm key
step m role config known _ = AtOnce (goes [])

-- what a message is answered by these decisions
abbrev pub work : Setup → Known → MessageData → Reply
work setup known message = settled setup.decisions (step setup.suite setup.role setup.config known message)
