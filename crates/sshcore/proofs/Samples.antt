-- Sample sessions, evaluated: sizes, the phases and numbers that a session goes through, and what is answered at each place.

use Rattle.std.proofs.Common.{◌≡◌, ℕ, ◌==◌, Bool, true, false, List, [], ◌∷◌, ◌++◌, length, take, codes, None, Some, refl}
use Rattle.std.specs.Prelude.{◌&&◌}
use Rattle.std.specs.Char.{encode_utf8}
use Rattle.std.specs.Str.{bytes_eq, chars, is_utf8}
use Rattle.sshmsg.specs.Form.{utf8_at}
use Rattle.sshmsg.specs.MessageData.{Disconnect, ServiceAccept, ServiceRequest, UserauthBanner}
use Rattle.sshmsg.specs.MessageData as messages
use Rattle.sshmsg.specs.Messages.{message_in}
use Rattle.sshmsg.specs.Written.{written_message}
use Rattle.sshwire.specs.TypeReadings as readings
use Rattle.sshneg.specs.ChoiceReadings.{choice, choice_of_directions}
use Rattle.sshneg.specs.Derivations.{derived, exchange_text, key, signed_text}
use Rattle.sshneg.specs.ExchangeEnd.{exchange_by}
use Rattle.sshneg.specs.declared.choice.NoCommon.TheVariants as field
use Rattle.sshneg.specs.declared.side.Side.TheVariants.{Client, Server}
use Rattle.sshpacket.specs.KeysData.{KeysData}
use Rattle.sshcore.specs.Directions.{keys_in, keys_out}
use Rattle.sshpacket.specs.Suite.{SuiteData, all_advanced}
use Rattle.sshpacket.specs.Written.{after_all, sealed_size}
use Rattle.sshcore.specs.declared.end.Fault.TheVariants as fault
use Rattle.sshcore.specs.declared.phase_table.Phase.TheVariants as phase
use Rattle.sshcore.specs.Before.{all_kept, count_kept, expects_guess, first_kept, kexinit, offered, since, since_offer, stood}
use Rattle.sshcore.specs.ConfigParts.{ByKey, ByNothing, ByPassword}
use Rattle.sshcore.specs.Counting.{number_in, number_out, switched_out}
use Rattle.sshcore.specs.EndData.{AgreedData, Authenticated, Closed, Failed, disconnect, fails, goes}
use Rattle.sshcore.specs.Exchange.{exchange_with, secret_of, exchange_at, session_at}
use Rattle.sshcore.specs.EndpointParts.{ConfigData, DecisionsData, KeyProof, NoProof, PasswordProof, ProofData, setup_with}
use Rattle.sshcore.specs.Phases.{phase_at}
use Rattle.sshcore.specs.Plan.{left_after, listed_in, next_listed}
use Rattle.sshcore.specs.Replies.{answers_at, disposition_reply, end_at, unit_reply}
use Rattle.sshcore.specs.Requests.{request_step}
use Rattle.sshcore.specs.Table.{disposition_by}
use Rattle.sshcore.specs.Tries.{proof_in, tried_at, tried_in}
use Rattle.sshcore.specs.Work.{guessed_method, init_step, kexinit_reply, making, reply_step, step, userauth}
use Rattle.sshcore.proofs.SampleConfigs.{a, ab, ba, config_data, kexinit_data, kexinit_of, o, toy, trusting, wary}

-- the payload of a KEXINIT, with the marker and without
sizes : (length (kexinit_of Client true a false) ≡ 105) × (length (kexinit_of Client false a false) ≡ 76)
unfolding toy kexinit_data config_data kexinit_of a ab ba o trusting wary written_message offered kexinit since_offer expects_guess stood first_kept since disposition_by disposition_reply step kexinit_reply init_step reply_step secret_of choice choice_of_directions exchange_with exchange_by exchange_text number_out switched_out derived key message_in messages.form_of messages.ext_info messages.extensions messages.kexinit readings.string_at readings.uint32_at readings.names_at readings.names_in readings.mpint_at readings.mpint_in
sizes = (refl, refl)

ignore : List ℕ
ignore = 2 ∷ 0 ∷ 0 ∷ 0 ∷ 0 ∷ []

-- configs of one method
server : ConfigData
server = config_data Server true a false

client : ConfigData
client = config_data Client true a false

-- the client's KEXINIT, strict or not
hello : Bool → List ℕ
hello strict = kexinit_of Client strict a false

-- An IGNORE before KEXINIT is ignored, and punished at a KEXINIT with the marker, whatever the suite; without one it is forgiven.
ignored_before : (m : SuiteData) (d : DecisionsData) (v : List ℕ) → (unit_reply (setup_with m d Server server) (v ∷ []) ignore ≡ goes []) × (end_at (setup_with m d Server server) (v ∷ ignore ∷ []) (hello true) ≡ Failed (fault.Strict 20)) × (answers_at (setup_with m d Server server) (v ∷ ignore ∷ []) (hello true) ≡ (1 ∷ 0 ∷ 0 ∷ 0 ∷ 2 ∷ 0 ∷ 0 ∷ 0 ∷ 0 ∷ 0 ∷ 0 ∷ 0 ∷ 0 ∷ []) ∷ []) × (unit_reply (setup_with toy d Server server) (v ∷ ignore ∷ []) (hello false) ≡ goes [])
unfolding toy kexinit_data config_data kexinit_of a ab ba o trusting wary written_message offered kexinit since_offer expects_guess stood first_kept since disposition_by disposition_reply step kexinit_reply init_step reply_step secret_of choice choice_of_directions exchange_with exchange_by exchange_text number_out switched_out derived key message_in messages.form_of messages.ext_info messages.extensions messages.kexinit readings.string_at readings.uint32_at readings.names_at readings.names_in readings.mpint_at readings.mpint_in ignore server client hello
ignored_before m d v = (refl, refl, refl, refl)

-- At KEXINIT: no common method; a KEXINIT that is cut short, before strictness; a boolean of 02 is TRUE.
at_kexinit : (m : SuiteData) (d : DecisionsData) (v : List ℕ) → (unit_reply (setup_with m d Server (config_data Server true (codes "b" ∷ []) false)) (v ∷ []) (hello true) ≡ fails (fault.NoCommon field.Kex)) × (unit_reply (setup_with m d Server server) (v ∷ ignore ∷ []) (20 ∷ 0 ∷ []) ≡ fails (fault.Malformed 20))
unfolding toy kexinit_data config_data kexinit_of a ab ba o trusting wary written_message offered kexinit since_offer expects_guess stood first_kept since disposition_by disposition_reply step kexinit_reply init_step reply_step secret_of choice choice_of_directions exchange_with exchange_by exchange_text number_out switched_out derived key message_in messages.form_of messages.ext_info messages.extensions messages.kexinit readings.string_at readings.uint32_at readings.names_at readings.names_in readings.mpint_at readings.mpint_in ignore server client hello
at_kexinit m d v = (refl, refl)

-- the messages of an exchange
init : List ℕ
init = 30 ∷ 0 ∷ 0 ∷ 0 ∷ 2 ∷ 1 ∷ 9 ∷ []

reply : List ℕ
reply = 31 ∷ 0 ∷ 0 ∷ 0 ∷ 2 ∷ 66 ∷ 0 ∷ 0 ∷ 0 ∷ 0 ∷ 2 ∷ 1 ∷ 9 ∷ 0 ∷ 0 ∷ 0 ∷ 2 ∷ 83 ∷ 0 ∷ []

request : List ℕ
request = written_message (ServiceRequest userauth)

accept : List ℕ
accept = written_message (ServiceAccept userauth)

-- the server's KEXINIT, strict or not
welcome : Bool → List ℕ
welcome strict = kexinit_of Server strict a false

-- what a server sends in a session without a guess
server_sends : (d : DecisionsData) (v : List ℕ) → (making toy Server server ≡ welcome true ∷ []) × (unit_reply (setup_with toy d Server server) [] v ≡ goes []) × (unit_reply (setup_with toy d Server server) (v ∷ []) (hello true) ≡ goes []) × (unit_reply (setup_with toy d Server server) (v ∷ hello true ∷ []) init ≡ goes (reply ∷ (21 ∷ []) ∷ [])) × (unit_reply (setup_with toy d Server server) (v ∷ hello true ∷ init ∷ []) (21 ∷ []) ≡ goes []) × (unit_reply (setup_with toy d Server server) (v ∷ hello true ∷ init ∷ (21 ∷ []) ∷ []) request ≡ goes (accept ∷ []))
unfolding toy kexinit_data config_data kexinit_of a ab ba o trusting wary written_message offered kexinit since_offer expects_guess stood first_kept since disposition_by disposition_reply step kexinit_reply init_step reply_step secret_of choice choice_of_directions exchange_with exchange_by exchange_text number_out switched_out derived key message_in messages.form_of messages.ext_info messages.extensions messages.kexinit readings.string_at readings.uint32_at readings.names_at readings.names_in readings.mpint_at readings.mpint_in ignore server client hello init reply request accept welcome
server_sends d v = (refl, refl, refl, refl, refl, refl)

-- what a client sends, up to the end that an empty plan has
client_sends : (v : List ℕ) → (making toy Client client ≡ hello true ∷ []) × (unit_reply (setup_with toy trusting Client client) (v ∷ []) (welcome true) ≡ goes (init ∷ [])) × (unit_reply (setup_with toy trusting Client client) (v ∷ welcome true ∷ []) reply ≡ goes ((21 ∷ []) ∷ request ∷ [])) × (unit_reply (setup_with toy trusting Client client) (v ∷ welcome true ∷ reply ∷ []) (21 ∷ []) ≡ goes []) × (unit_reply (setup_with toy trusting Client client) (v ∷ welcome true ∷ reply ∷ (21 ∷ []) ∷ []) accept ≡ fails fault.NoMoreMethods) × (answers_at (setup_with toy trusting Client client) (v ∷ welcome true ∷ reply ∷ (21 ∷ []) ∷ []) accept ≡ (1 ∷ 0 ∷ 0 ∷ 0 ∷ 14 ∷ 0 ∷ 0 ∷ 0 ∷ 0 ∷ 0 ∷ 0 ∷ 0 ∷ 0 ∷ []) ∷ [])
unfolding toy kexinit_data config_data kexinit_of a ab ba o trusting wary written_message offered kexinit since_offer expects_guess stood first_kept since disposition_by disposition_reply step kexinit_reply init_step reply_step secret_of choice choice_of_directions exchange_with exchange_by exchange_text number_out switched_out derived key message_in messages.form_of messages.ext_info messages.extensions messages.kexinit readings.string_at readings.uint32_at readings.names_at readings.names_in readings.mpint_at readings.mpint_in ignore server client hello init reply request accept welcome all_kept count_kept left_after next_listed listed_in proof_in tried_in tried_at request_step signed_text messages.password messages.publickey messages.userauth_request utf8_at
client_sends v = (refl, refl, refl, refl, refl, refl)

-- both sides hash the same: versions, KEXINITs, host key, shares and the shared secret
one_exchange : (exchange_at toy Server server (codes "SSH-2.0-x") (hello true ∷ init ∷ []) ≡ record { client_version = codes "SSH-2.0-x"; server_version = codes "SSH-2.0-lab_1"; client_kexinit = hello true; server_kexinit = welcome true; host_key = 66 ∷ 0 ∷ []; client_share = 1 ∷ 9 ∷ []; server_share = 1 ∷ 9 ∷ []; shared = 7 ∷ [] }) × (exchange_at toy Client client server.version (welcome true ∷ reply ∷ []) ≡ exchange_at toy Server server server.version (hello true ∷ init ∷ [])) × (session_at toy Client client server.version (welcome true ∷ reply ∷ []) ≡ session_at toy Server server server.version (hello true ∷ init ∷ []))
unfolding toy kexinit_data config_data kexinit_of a ab ba o trusting wary written_message offered kexinit since_offer expects_guess stood first_kept since disposition_by disposition_reply step kexinit_reply init_step reply_step secret_of choice choice_of_directions exchange_with exchange_by exchange_text number_out switched_out derived key message_in messages.form_of messages.ext_info messages.extensions messages.kexinit readings.string_at readings.uint32_at readings.names_at readings.names_in readings.mpint_at readings.mpint_in ignore server client hello init reply request accept welcome
one_exchange = (refl, refl, refl)

-- the keys of both directions, with the letters of RFC 4253 section 7.2
to_server : KeysData
to_server = record { cipher = codes "c"; mac = codes "m"; iv = codes "A"; enc = codes "C"; mac_key = codes "E" }

to_client : KeysData
to_client = record { cipher = codes "d"; mac = codes "n"; iv = codes "B"; enc = codes "D"; mac_key = codes "F" }

-- a direction is in clear up to its NEWKEYS, and then has its keys: the client seals what the server unseals, and back
both_directions : (v : List ℕ) → (keys_in toy Server server v (hello true ∷ init ∷ []) (15 ∷ 112 ∷ 16 ∷ []) ≡ None) × (keys_in toy Server server v (hello true ∷ init ∷ (21 ∷ []) ∷ []) (15 ∷ 112 ∷ 16 ∷ 16 ∷ []) ≡ Some to_server) × (keys_in toy Client client v (welcome true ∷ reply ∷ (21 ∷ []) ∷ []) (15 ∷ 112 ∷ 32 ∷ 16 ∷ []) ≡ Some to_client) × (keys_out toy Server server (v ∷ hello true ∷ init ∷ []) (welcome true ∷ reply ∷ []) ≡ None) × (keys_out toy Server server (v ∷ hello true ∷ init ∷ []) (welcome true ∷ reply ∷ (21 ∷ []) ∷ []) ≡ Some to_client) × (keys_out toy Client client (v ∷ welcome true ∷ reply ∷ []) (hello true ∷ init ∷ (21 ∷ []) ∷ []) ≡ Some to_server)
unfolding toy kexinit_data config_data kexinit_of a ab ba o trusting wary written_message offered kexinit since_offer expects_guess stood first_kept since disposition_by disposition_reply step kexinit_reply init_step reply_step secret_of choice choice_of_directions exchange_with exchange_by exchange_text number_out switched_out derived key message_in messages.form_of messages.ext_info messages.extensions messages.kexinit readings.string_at readings.uint32_at readings.names_at readings.names_in readings.mpint_at readings.mpint_in ignore server client hello init reply request accept welcome to_server to_client all_advanced after_all
both_directions v = (refl, refl, refl, refl, refl, refl)

-- a suite whose initialisation vector goes on: it keeps the sizes of the packets, the last one first
moving : SuiteData
moving = record toy { next_iv = λ keys len. len ∷ keys.iv }

-- keys advance with each packet after their NEWKEYS, and with none before it
keys_advance : (v : List ℕ) → (keys_in moving Server server v (hello true ∷ init ∷ (21 ∷ []) ∷ []) (15 ∷ 112 ∷ 16 ∷ 16 ∷ []) ≡ Some to_server) × (keys_in moving Server server v (hello true ∷ init ∷ (21 ∷ []) ∷ request ∷ ignore ∷ []) (15 ∷ 112 ∷ 16 ∷ 16 ∷ 32 ∷ 16 ∷ []) ≡ Some (record to_server { iv = 16 ∷ 32 ∷ codes "A" })) × (keys_out moving Server server (v ∷ hello true ∷ init ∷ []) (welcome true ∷ reply ∷ (21 ∷ []) ∷ []) ≡ Some to_client) × (keys_out moving Server server (v ∷ hello true ∷ init ∷ []) (welcome true ∷ reply ∷ (21 ∷ []) ∷ accept ∷ ignore ∷ []) ≡ Some (record to_client { iv = 16 ∷ 32 ∷ codes "B" }))
unfolding toy kexinit_data config_data kexinit_of a ab ba o trusting wary written_message offered kexinit since_offer expects_guess stood first_kept since disposition_by disposition_reply step kexinit_reply init_step reply_step secret_of choice choice_of_directions exchange_with exchange_by exchange_text number_out switched_out derived key message_in messages.form_of messages.ext_info messages.extensions messages.kexinit readings.string_at readings.uint32_at readings.names_at readings.names_in readings.mpint_at readings.mpint_in ignore server client hello init reply request accept welcome to_server to_client all_advanced after_all sealed_size moving
keys_advance v = (refl, refl, refl, refl)

-- phase and number of the next packet, place by place, strict and not
phases : (phase_at Server server.offer [] ≡ phase.KexInit) × (phase_at Server server.offer (hello true ∷ []) ≡ phase.Exchange) × (phase_at Server server.offer (hello true ∷ init ∷ []) ≡ phase.NewKeys) × (phase_at Server server.offer (hello true ∷ init ∷ (21 ∷ []) ∷ []) ≡ phase.Service) × (phase_at Server server.offer (hello true ∷ init ∷ (21 ∷ []) ∷ request ∷ []) ≡ phase.Auth) × (number_in Server server (hello true ∷ init ∷ []) ≡ 2) × (number_in Server server (hello true ∷ init ∷ (21 ∷ []) ∷ []) ≡ 0) × (number_in Server server (hello true ∷ init ∷ (21 ∷ []) ∷ request ∷ []) ≡ 1) × (number_in Server server (hello false ∷ init ∷ (21 ∷ []) ∷ []) ≡ 3) × (number_out true (welcome true ∷ reply ∷ (21 ∷ []) ∷ []) ≡ 0) × (number_out false (welcome true ∷ reply ∷ (21 ∷ []) ∷ []) ≡ 3)
unfolding toy kexinit_data config_data kexinit_of a ab ba o trusting wary written_message offered kexinit since_offer expects_guess stood first_kept since disposition_by disposition_reply step kexinit_reply init_step reply_step secret_of choice choice_of_directions exchange_with exchange_by exchange_text number_out switched_out derived key message_in messages.form_of messages.ext_info messages.extensions messages.kexinit readings.string_at readings.uint32_at readings.names_at readings.names_in readings.mpint_at readings.mpint_in ignore server client hello init reply request accept welcome to_server to_client
phases = (refl, refl, refl, refl, refl, refl, refl, refl, refl, refl, refl)

-- a client that guesses its first method, and a server whose first method is another
guessing : Bool → List ℕ
guessing strict = kexinit_of Client strict ab true

other_server : ConfigData
other_server = config_data Server true ba false

guesser : ConfigData
guesser = config_data Client true ab true

-- a wrong guess is dropped, whatever it says, and counts; what follows is used
wrong_guesses : (d : DecisionsData) (v : List ℕ) → (expects_guess Server other_server.offer (guessing true ∷ []) ≡ true) × (unit_reply (setup_with toy d Server other_server) (v ∷ guessing true ∷ []) init ≡ goes []) × (unit_reply (setup_with toy d Server other_server) (v ∷ guessing true ∷ init ∷ []) init ≡ goes (reply ∷ (21 ∷ []) ∷ [])) × (phase_at Server other_server.offer (guessing true ∷ init ∷ []) ≡ phase.Exchange) × (number_in Server other_server (guessing true ∷ init ∷ []) ≡ 2) × (number_in Server other_server (guessing true ∷ init ∷ init ∷ (21 ∷ []) ∷ []) ≡ 0) × (number_in Server other_server (guessing false ∷ init ∷ init ∷ (21 ∷ []) ∷ []) ≡ 4)
unfolding toy kexinit_data config_data kexinit_of a ab ba o trusting wary written_message offered kexinit since_offer expects_guess stood first_kept since disposition_by disposition_reply step kexinit_reply init_step reply_step secret_of choice choice_of_directions exchange_with exchange_by exchange_text number_out switched_out derived key message_in messages.form_of messages.ext_info messages.extensions messages.kexinit readings.string_at readings.uint32_at readings.names_at readings.names_in readings.mpint_at readings.mpint_in ignore server client hello init reply request accept welcome to_server to_client guessing other_server guesser
wrong_guesses d v = (refl, refl, refl, refl, refl, refl, refl)

-- in its place: a NEWKEYS is dropped and switches no keys; a DISCONNECT closes; under strictness a number outside 30 to 49 deviates
guess_places : (d : DecisionsData) (v : List ℕ) → (unit_reply (setup_with toy d Server other_server) (v ∷ guessing false ∷ []) (21 ∷ []) ≡ goes []) × (stood Server other_server.offer 21 (guessing false ∷ (21 ∷ []) ∷ []) ≡ false) × (number_in Server other_server (guessing false ∷ (21 ∷ []) ∷ []) ≡ 2) × (unit_reply (setup_with toy d Server other_server) (v ∷ guessing true ∷ []) (21 ∷ []) ≡ fails (fault.Strict 21)) × (unit_reply (setup_with toy d Server other_server) (v ∷ guessing true ∷ []) ignore ≡ fails (fault.Strict 2)) × (unit_reply (setup_with toy d Server other_server) (v ∷ guessing true ∷ []) (49 ∷ []) ≡ goes []) × (unit_reply (setup_with toy d Server other_server) (v ∷ guessing true ∷ []) (50 ∷ []) ≡ fails (fault.Strict 50)) × (end_at (setup_with toy d Server other_server) (v ∷ guessing true ∷ []) (written_message (Disconnect 11 [] [])) ≡ Closed 11) × (unit_reply (setup_with toy d Server other_server) (v ∷ guessing true ∷ []) (1 ∷ []) ≡ fails (fault.Malformed 1))
unfolding toy kexinit_data config_data kexinit_of a ab ba o trusting wary written_message offered kexinit since_offer expects_guess stood first_kept since disposition_by disposition_reply step kexinit_reply init_step reply_step secret_of choice choice_of_directions exchange_with exchange_by exchange_text number_out switched_out derived key message_in messages.form_of messages.ext_info messages.extensions messages.kexinit readings.string_at readings.uint32_at readings.names_at readings.names_in readings.mpint_at readings.mpint_in ignore server client hello init reply request accept welcome to_server to_client guessing other_server guesser
guess_places d v = (refl, refl, refl, refl, refl, refl, refl, refl, refl)

-- a client guesses at its making, and sends it again only where the guess was wrong; a right guess is used
guesses : (d : DecisionsData) (v : List ℕ) → (making toy Client guesser ≡ guessing true ∷ init ∷ []) × (guessed_method (config_data Client true (codes "ext-info-c" ∷ ba) true) ≡ codes "b") × (unit_reply (setup_with toy d Client guesser) (v ∷ []) (kexinit_of Server true ba false) ≡ goes (init ∷ [])) × (unit_reply (setup_with toy d Client guesser) (v ∷ []) (kexinit_of Server true ab false) ≡ goes []) × (expects_guess Server (config_data Server true ab false).offer (guessing true ∷ []) ≡ false) × (unit_reply (setup_with toy d Server (config_data Server true ab false)) (v ∷ guessing true ∷ []) init ≡ goes (reply ∷ (21 ∷ []) ∷ []))
unfolding toy kexinit_data config_data kexinit_of a ab ba o trusting wary written_message offered kexinit since_offer expects_guess stood first_kept since disposition_by disposition_reply step kexinit_reply init_step reply_step secret_of choice choice_of_directions exchange_with exchange_by exchange_text number_out switched_out derived key message_in messages.form_of messages.ext_info messages.extensions messages.kexinit readings.string_at readings.uint32_at readings.names_at readings.names_in readings.mpint_at readings.mpint_in ignore server client hello init reply request accept welcome to_server to_client guessing other_server guesser
guesses d v = (refl, refl, refl, refl, refl, refl)

-- a KEXINIT whose boolean is 02
loose : List ℕ
loose = take 100 (hello true) ++ 2 ∷ 0 ∷ 0 ∷ 0 ∷ 0 ∷ []

-- it is read as TRUE, and stands in what is hashed as it came
loose_boolean : (expects_guess Server (config_data Server true (codes "b" ∷ codes "a" ∷ []) false).offer (loose ∷ []) ≡ true) × (kexinit (loose ∷ []) ≡ loose) × ((exchange_at toy Server server server.version (loose ∷ init ∷ [])).client_kexinit ≡ loose)
unfolding toy kexinit_data config_data kexinit_of a ab ba o trusting wary written_message offered kexinit since_offer expects_guess stood first_kept since disposition_by disposition_reply step kexinit_reply init_step reply_step secret_of choice choice_of_directions exchange_with exchange_by exchange_text number_out switched_out derived key message_in messages.form_of messages.ext_info messages.extensions messages.kexinit readings.string_at readings.uint32_at readings.names_at readings.names_in readings.mpint_at readings.mpint_in ignore server client hello init reply request accept welcome to_server to_client guessing other_server guesser loose
loose_boolean = (refl, refl, refl)

-- an unknown number is told with the number of its packet, and deviates under strictness
unknown_numbers : (m : SuiteData) (d : DecisionsData) (v : List ℕ) → (unit_reply (setup_with m d Server server) (v ∷ hello false ∷ []) (40 ∷ []) ≡ goes ((3 ∷ 0 ∷ 0 ∷ 0 ∷ 1 ∷ []) ∷ [])) × (unit_reply (setup_with m d Server server) (v ∷ hello true ∷ []) (40 ∷ []) ≡ fails (fault.Strict 40)) × (unit_reply (setup_with m d Server server) (v ∷ []) (19 ∷ []) ≡ goes ((3 ∷ 0 ∷ 0 ∷ 0 ∷ 0 ∷ []) ∷ [])) × (unit_reply (setup_with m d Server server) (v ∷ []) (21 ∷ []) ≡ fails (fault.Unexpected 21)) × (unit_reply (setup_with m d Server server) (v ∷ hello true ∷ init ∷ (21 ∷ []) ∷ request ∷ []) (79 ∷ []) ≡ goes ((3 ∷ 0 ∷ 0 ∷ 0 ∷ 1 ∷ []) ∷ [])) × (unit_reply (setup_with m d Server server) (v ∷ hello true ∷ init ∷ (21 ∷ []) ∷ request ∷ []) (80 ∷ []) ≡ fails (fault.Unexpected 80))
unfolding toy kexinit_data config_data kexinit_of a ab ba o trusting wary written_message offered kexinit since_offer expects_guess stood first_kept since disposition_by disposition_reply step kexinit_reply init_step reply_step secret_of choice choice_of_directions exchange_with exchange_by exchange_text number_out switched_out derived key message_in messages.form_of messages.ext_info messages.extensions messages.kexinit readings.string_at readings.uint32_at readings.names_at readings.names_in readings.mpint_at readings.mpint_in ignore server client hello init reply request accept welcome to_server to_client guessing other_server guesser loose
unknown_numbers m d v = (refl, refl, refl, refl, refl, refl)

-- in phase auth a server reads 50 and a client 51 to 53; a SUCCESS that answers no attempt has no use
auth_numbers : (m : SuiteData) (d : DecisionsData) (v : List ℕ) → (unit_reply (setup_with m d Server (config_data Server true a false)) (v ∷ kexinit_of Client true a false ∷ init ∷ (21 ∷ []) ∷ request ∷ []) (50 ∷ []) ≡ fails (fault.Malformed 50)) × (unit_reply (setup_with m d Server (config_data Server true a false)) (v ∷ kexinit_of Client true a false ∷ init ∷ (21 ∷ []) ∷ request ∷ []) (51 ∷ []) ≡ fails (fault.Unexpected 51)) × (unit_reply (setup_with m d Server (config_data Server true a false)) (v ∷ kexinit_of Client true a false ∷ init ∷ (21 ∷ []) ∷ request ∷ []) (52 ∷ []) ≡ fails (fault.Unexpected 52)) × (unit_reply (setup_with m d Server (config_data Server true a false)) (v ∷ kexinit_of Client true a false ∷ init ∷ (21 ∷ []) ∷ request ∷ []) (53 ∷ []) ≡ fails (fault.Unexpected 53)) × (unit_reply (setup_with m d Client (config_data Client true a false)) (v ∷ kexinit_of Server true a false ∷ reply ∷ (21 ∷ []) ∷ accept ∷ []) (50 ∷ []) ≡ fails (fault.Unexpected 50)) × (unit_reply (setup_with m d Client (config_data Client true a false)) (v ∷ kexinit_of Server true a false ∷ reply ∷ (21 ∷ []) ∷ accept ∷ []) (51 ∷ []) ≡ fails (fault.Malformed 51)) × (unit_reply (setup_with m d Client (config_data Client true a false)) (v ∷ kexinit_of Server true a false ∷ reply ∷ (21 ∷ []) ∷ accept ∷ []) (52 ∷ []) ≡ fails (fault.Unexpected 52)) × (unit_reply (setup_with m d Client (config_data Client true a false)) (v ∷ kexinit_of Server true a false ∷ reply ∷ (21 ∷ []) ∷ accept ∷ []) (53 ∷ []) ≡ fails (fault.Malformed 53))
unfolding toy kexinit_data config_data kexinit_of a ab ba o trusting wary written_message offered kexinit since_offer expects_guess stood first_kept since disposition_by disposition_reply step kexinit_reply init_step reply_step secret_of choice choice_of_directions exchange_with exchange_by exchange_text number_out switched_out derived key message_in messages.form_of messages.ext_info messages.extensions messages.kexinit readings.string_at readings.uint32_at readings.names_at readings.names_in readings.mpint_at readings.mpint_in ignore server client hello init reply request accept welcome to_server to_client guessing other_server guesser loose all_kept count_kept left_after next_listed listed_in proof_in tried_in tried_at request_step signed_text messages.password messages.publickey messages.userauth_request utf8_at
auth_numbers m d v = (refl, refl, refl, refl, refl, refl, refl, refl)

-- after NEWKEYS: EXT_INFO is ignored, and before it is not; IGNORE is; a service that is not there; an answer for another service
after_newkeys : (m : SuiteData) (d : DecisionsData) (v : List ℕ) → (unit_reply (setup_with m d Server server) (v ∷ hello true ∷ init ∷ (21 ∷ []) ∷ []) (7 ∷ 0 ∷ 0 ∷ 0 ∷ 0 ∷ []) ≡ goes []) × (unit_reply (setup_with m d Server server) (v ∷ hello false ∷ init ∷ []) (7 ∷ 0 ∷ 0 ∷ 0 ∷ 0 ∷ []) ≡ fails (fault.Unexpected 7)) × (unit_reply (setup_with m d Server server) (v ∷ hello true ∷ init ∷ []) ignore ≡ fails (fault.Strict 2)) × (unit_reply (setup_with m d Server server) (v ∷ hello true ∷ init ∷ (21 ∷ []) ∷ []) ignore ≡ goes []) × (unit_reply (setup_with m d Server server) (v ∷ hello true ∷ init ∷ (21 ∷ []) ∷ []) (2 ∷ []) ≡ fails (fault.Malformed 2)) × (unit_reply (setup_with m d Server server) (v ∷ hello true ∷ init ∷ (21 ∷ []) ∷ []) (hello true) ≡ fails (fault.Unexpected 20)) × (unit_reply (setup_with m d Server server) (v ∷ hello true ∷ init ∷ (21 ∷ []) ∷ []) (written_message (ServiceRequest (codes "ssh-connection"))) ≡ fails fault.Service) × (unit_reply (setup_with m d Client client) (v ∷ welcome true ∷ reply ∷ (21 ∷ []) ∷ []) (written_message (ServiceAccept (codes "ssh-connection"))) ≡ fails (fault.Unexpected 6))
unfolding toy kexinit_data config_data kexinit_of a ab ba o trusting wary written_message offered kexinit since_offer expects_guess stood first_kept since disposition_by disposition_reply step kexinit_reply init_step reply_step secret_of choice choice_of_directions exchange_with exchange_by exchange_text number_out switched_out derived key message_in messages.form_of messages.ext_info messages.extensions messages.kexinit readings.string_at readings.uint32_at readings.names_at readings.names_in readings.mpint_at readings.mpint_in ignore server client hello init reply request accept welcome to_server to_client guessing other_server guesser loose all_kept count_kept left_after next_listed listed_in proof_in tried_in tried_at request_step signed_text messages.password messages.publickey messages.userauth_request utf8_at
after_newkeys m d v = (refl, refl, refl, refl, refl, refl, refl, refl)

-- a server with a banner
banner_server : ConfigData
banner_server = record server { banner = Some (codes "hi") }

-- it sends the banner after the answer
banners : (m : SuiteData) (d : DecisionsData) (v : List ℕ) → unit_reply (setup_with m d Server banner_server) (v ∷ hello true ∷ init ∷ (21 ∷ []) ∷ []) request ≡ goes (accept ∷ written_message (UserauthBanner (codes "hi") []) ∷ [])
unfolding toy kexinit_data config_data kexinit_of a ab ba o trusting wary written_message offered kexinit since_offer expects_guess stood first_kept since disposition_by disposition_reply step kexinit_reply init_step reply_step secret_of choice choice_of_directions exchange_with exchange_by exchange_text number_out switched_out derived key message_in messages.form_of messages.ext_info messages.extensions messages.kexinit readings.string_at readings.uint32_at readings.names_at readings.names_in readings.mpint_at readings.mpint_in ignore server client hello init reply request accept welcome to_server to_client guessing other_server guesser loose banner_server
banners m d v = refl

-- configs of a method whose shares are octet strings
octet_server : ConfigData
octet_server = config_data Server true o false

octet_client : ConfigData
octet_client = config_data Client true o false

octets : List ℕ
octets = 30 ∷ 0 ∷ 0 ∷ 0 ∷ 2 ∷ 0 ∷ 5 ∷ []

octet_hello : List ℕ
octet_hello = kexinit_of Client true o false

octet_welcome : List ℕ
octet_welcome = kexinit_of Server true o false

-- 30 is read in the form of the chosen method: 0005 is a share as octets, and no mpint
forms : (d : DecisionsData) (v : List ℕ) → (unit_reply (setup_with toy d Server octet_server) (v ∷ octet_hello ∷ []) octets ≡ goes (reply ∷ (21 ∷ []) ∷ [])) × ((exchange_at toy Server octet_server v (octet_hello ∷ octets ∷ [])).client_share ≡ 0 ∷ 5 ∷ []) × (unit_reply (setup_with toy d Server server) (v ∷ hello true ∷ []) octets ≡ fails (fault.Malformed 30)) × (unit_reply (setup_with toy trusting Client octet_client) (v ∷ octet_welcome ∷ []) reply ≡ goes ((21 ∷ []) ∷ request ∷ [])) × (unit_reply (setup_with toy d Server server) (v ∷ []) octets ≡ fails (fault.Unexpected 30))
unfolding toy kexinit_data config_data kexinit_of a ab ba o trusting wary written_message offered kexinit since_offer expects_guess stood first_kept since disposition_by disposition_reply step kexinit_reply init_step reply_step secret_of choice choice_of_directions exchange_with exchange_by exchange_text number_out switched_out derived key message_in messages.form_of messages.ext_info messages.extensions messages.kexinit readings.string_at readings.uint32_at readings.names_at readings.names_in readings.mpint_at readings.mpint_in ignore server client hello init reply request accept welcome to_server to_client guessing other_server guesser loose banner_server octet_server octet_client octets octet_hello octet_welcome
forms d v = (refl, refl, refl, refl, refl)

-- shares for which the suite gives no shared secret, and a wrong signature
no_share : List ℕ
no_share = 30 ∷ 0 ∷ 0 ∷ 0 ∷ 1 ∷ 0 ∷ []

no_answer : List ℕ
no_answer = 31 ∷ 0 ∷ 0 ∷ 0 ∷ 2 ∷ 66 ∷ 0 ∷ 0 ∷ 0 ∷ 0 ∷ 1 ∷ 0 ∷ 0 ∷ 0 ∷ 0 ∷ 2 ∷ 83 ∷ 1 ∷ []

forged : List ℕ
forged = 31 ∷ 0 ∷ 0 ∷ 0 ∷ 2 ∷ 66 ∷ 0 ∷ 0 ∷ 0 ∷ 0 ∷ 2 ∷ 1 ∷ 9 ∷ 0 ∷ 0 ∷ 0 ∷ 2 ∷ 83 ∷ 1 ∷ []

-- an exchange fails in this order at a client: the host key, the shared secret, the signature
failed_exchanges : (d : DecisionsData) (v : List ℕ) → (unit_reply (setup_with toy d Server octet_server) (v ∷ octet_hello ∷ []) no_share ≡ fails fault.Exchange) × (unit_reply (setup_with toy wary Client octet_client) (v ∷ octet_welcome ∷ []) no_answer ≡ fails fault.HostKey) × (unit_reply (setup_with toy trusting Client octet_client) (v ∷ octet_welcome ∷ []) no_answer ≡ fails fault.Exchange) × (unit_reply (setup_with toy trusting Client octet_client) (v ∷ octet_welcome ∷ []) forged ≡ fails fault.Signature)
unfolding toy kexinit_data config_data kexinit_of a ab ba o trusting wary written_message offered kexinit since_offer expects_guess stood first_kept since disposition_by disposition_reply step kexinit_reply init_step reply_step secret_of choice choice_of_directions exchange_with exchange_by exchange_text number_out switched_out derived key message_in messages.form_of messages.ext_info messages.extensions messages.kexinit readings.string_at readings.uint32_at readings.names_at readings.names_in readings.mpint_at readings.mpint_in ignore server client hello init reply request accept welcome to_server to_client guessing other_server guesser loose banner_server octet_server octet_client octets octet_hello octet_welcome no_share no_answer forged
failed_exchanges d v = (refl, refl, refl, refl)

-- of two host keys with one algorithm the first is used
host_keys : secret_of (record { algorithm = codes "k"; secret = 1 ∷ [] } ∷ record { algorithm = codes "h"; secret = 2 ∷ [] } ∷ record { algorithm = codes "h"; secret = 3 ∷ [] } ∷ []) (codes "h") ≡ 2 ∷ []
unfolding toy kexinit_data config_data kexinit_of a ab ba o trusting wary written_message offered kexinit since_offer expects_guess stood first_kept since disposition_by disposition_reply step kexinit_reply init_step reply_step secret_of choice choice_of_directions exchange_with exchange_by exchange_text number_out switched_out derived key message_in messages.form_of messages.ext_info messages.extensions messages.kexinit readings.string_at readings.uint32_at readings.names_at readings.names_in readings.mpint_at readings.mpint_in ignore server client hello init reply request accept welcome to_server to_client guessing other_server guesser loose banner_server octet_server octet_client octets octet_hello octet_welcome no_share no_answer forged
host_keys = refl

-- the fields of methods: none, a password, a change of it, a query, a signature by a key, and a method with no meaning here
none_fields : List ℕ
none_fields = 0 ∷ 0 ∷ 0 ∷ 4 ∷ codes "none"

password_fields : List ℕ
password_fields = 0 ∷ 0 ∷ 0 ∷ 8 ∷ (codes "password" ++ 0 ∷ 0 ∷ 0 ∷ 0 ∷ 2 ∷ codes "pw")

change_fields : List ℕ
change_fields = 0 ∷ 0 ∷ 0 ∷ 8 ∷ (codes "password" ++ 1 ∷ 0 ∷ 0 ∷ 0 ∷ 2 ∷ (codes "pw" ++ 0 ∷ 0 ∷ 0 ∷ 1 ∷ codes "n"))

query_fields : List ℕ
query_fields = 0 ∷ 0 ∷ 0 ∷ 9 ∷ (codes "publickey" ++ 0 ∷ 0 ∷ 0 ∷ 0 ∷ 1 ∷ (codes "k" ++ 0 ∷ 0 ∷ 0 ∷ 2 ∷ 66 ∷ 5 ∷ []))

-- the answer to it where the key would do
would_do : List ℕ
would_do = 60 ∷ 0 ∷ 0 ∷ 0 ∷ 1 ∷ (codes "k" ++ 0 ∷ 0 ∷ 0 ∷ 2 ∷ 66 ∷ 5 ∷ [])

key_front : List ℕ
key_front = 0 ∷ 0 ∷ 0 ∷ 9 ∷ (codes "publickey" ++ 1 ∷ 0 ∷ 0 ∷ 0 ∷ 1 ∷ (codes "k" ++ 0 ∷ 0 ∷ 0 ∷ 2 ∷ 66 ∷ 5 ∷ []))

key_fields : List ℕ → List ℕ
key_fields signature = key_front ++ 0 ∷ 0 ∷ 0 ∷ length signature ∷ signature

other_fields : List ℕ
other_fields = 0 ∷ 0 ∷ 0 ∷ 9 ∷ codes "hostbased"

-- a request by a user of one letter for a service of one letter, and a FAILURE that lists these methods
asks : List ℕ → List ℕ → List ℕ
asks user fields = 50 ∷ 0 ∷ 0 ∷ 0 ∷ 1 ∷ (user ++ 0 ∷ 0 ∷ 0 ∷ 1 ∷ (codes "s" ++ fields))

lists : List ℕ → List ℕ
lists names = 51 ∷ 0 ∷ 0 ∷ 0 ∷ length names ∷ (names ++ 0 ∷ [])

-- what is agreed with this user
agreed : List ℕ → AgreedData
agreed user = record {
  algorithms = record {
    kex = codes "a";
    host_key = codes "h";
    encryption_client_to_server = codes "c";
    encryption_server_to_client = codes "d";
    mac_client_to_server = codes "m";
    mac_server_to_client = codes "n";
    compression_client_to_server = codes "none";
    compression_server_to_client = codes "none";
  };
  strict = true;
  session = 1 ∷ [];
  user = user;
  service = codes "s";
}

-- a client with a plan of three attempts, each with its own user, and what it receives up to NEWKEYS
planner : ConfigData
planner = record client {
  plan = record { user = codes "u"; service = codes "s"; proving = ByNothing }
      ∷ record { user = codes "k"; service = codes "s"; proving = ByKey (codes "k") (5 ∷ []) false }
      ∷ record { user = codes "p"; service = codes "s"; proving = ByPassword (codes "pw") } ∷ [];
}

seen : List (List ℕ)
seen = welcome true ∷ reply ∷ (21 ∷ []) ∷ []

-- a suite whose signature is what is signed
mirror : SuiteData
mirror = record toy { sign = λ alg secret input. input }

-- A client makes its attempts in order: the first after SERVICE_ACCEPT, the next whose method is listed after a FAILURE.
-- An attempt that was skipped isn't made later, and without one it fails.
attempts : (v : List ℕ) → (unit_reply (setup_with toy trusting Client planner) (v ∷ seen) accept ≡ goes (asks (codes "u") none_fields ∷ [])) × (unit_reply (setup_with toy trusting Client planner) (v ∷ (seen ++ accept ∷ [])) (lists (codes "publickey,password")) ≡ goes (asks (codes "k") (key_fields (83 ∷ 5 ∷ [])) ∷ [])) × (unit_reply (setup_with toy trusting Client planner) (v ∷ (seen ++ accept ∷ [])) (lists (codes "password")) ≡ goes (asks (codes "p") password_fields ∷ [])) × (unit_reply (setup_with toy trusting Client planner) (v ∷ (seen ++ accept ∷ lists (codes "password") ∷ [])) (lists (codes "publickey,password")) ≡ fails fault.NoMoreMethods) × (unit_reply (setup_with toy trusting Client planner) (v ∷ (seen ++ accept ∷ [])) (lists []) ≡ fails fault.NoMoreMethods) × (answers_at (setup_with toy trusting Client planner) (v ∷ (seen ++ accept ∷ [])) (lists []) ≡ (1 ∷ 0 ∷ 0 ∷ 0 ∷ 14 ∷ 0 ∷ 0 ∷ 0 ∷ 0 ∷ 0 ∷ 0 ∷ 0 ∷ 0 ∷ []) ∷ []) × (unit_reply (setup_with toy trusting Client planner) (v ∷ (seen ++ accept ∷ [])) (51 ∷ 0 ∷ 0 ∷ 0 ∷ 8 ∷ (codes "password" ++ 1 ∷ [])) ≡ goes (asks (codes "p") password_fields ∷ []))
unfolding toy kexinit_data config_data kexinit_of a ab ba o trusting wary written_message offered kexinit since_offer expects_guess stood first_kept since disposition_by disposition_reply step kexinit_reply init_step reply_step secret_of choice choice_of_directions exchange_with exchange_by exchange_text number_out switched_out derived key message_in messages.form_of messages.ext_info messages.extensions messages.kexinit readings.string_at readings.uint32_at readings.names_at readings.names_in readings.mpint_at readings.mpint_in ignore server client hello init reply request accept welcome all_kept count_kept left_after next_listed listed_in proof_in tried_in tried_at request_step signed_text messages.password messages.publickey messages.userauth_request utf8_at is_utf8 chars encode_utf8 none_fields password_fields change_fields query_fields would_do key_front key_fields other_fields asks lists agreed planner seen mirror
attempts v = (refl, refl, refl, refl, refl, refl, refl)

-- what a publickey attempt signs: the session identifier and the request up to the signature
signed_attempt : (unit_reply (setup_with mirror trusting Client planner) (server.version ∷ (seen ++ accept ∷ [])) (lists (codes "publickey,password")) ≡ goes (asks (codes "k") (key_fields (0 ∷ 0 ∷ 0 ∷ 1 ∷ 1 ∷ asks (codes "k") key_front)) ∷ []))
unfolding toy kexinit_data config_data kexinit_of a ab ba o trusting wary written_message offered kexinit since_offer expects_guess stood first_kept since disposition_by disposition_reply step kexinit_reply init_step reply_step secret_of choice choice_of_directions exchange_with exchange_by exchange_text number_out switched_out derived key message_in messages.form_of messages.ext_info messages.extensions messages.kexinit readings.string_at readings.uint32_at readings.names_at readings.names_in readings.mpint_at readings.mpint_in ignore server client hello init reply request accept welcome all_kept count_kept left_after next_listed listed_in proof_in tried_in tried_at request_step signed_text messages.password messages.publickey messages.userauth_request utf8_at is_utf8 chars encode_utf8 none_fields password_fields change_fields query_fields would_do key_front key_fields other_fields asks lists agreed planner seen mirror
signed_attempt = refl

-- a SUCCESS authenticates the user of the attempt that was made last; a banner is ignored; before the service a SUCCESS has no use
successes : (unit_reply (setup_with toy trusting Client planner) (server.version ∷ (seen ++ accept ∷ [])) (52 ∷ []) ≡ record { answers = []; end = Authenticated (agreed (codes "u")) }) × (unit_reply (setup_with toy trusting Client planner) (server.version ∷ (seen ++ accept ∷ lists (codes "password") ∷ [])) (52 ∷ []) ≡ record { answers = []; end = Authenticated (agreed (codes "p")) }) × (unit_reply (setup_with toy trusting Client planner) (server.version ∷ (seen ++ accept ∷ [])) (53 ∷ 0 ∷ 0 ∷ 0 ∷ 2 ∷ 104 ∷ 105 ∷ 0 ∷ 0 ∷ 0 ∷ 0 ∷ []) ≡ goes []) × (unit_reply (setup_with toy trusting Client planner) (server.version ∷ seen) (52 ∷ []) ≡ fails (fault.Unexpected 52))
unfolding toy kexinit_data config_data kexinit_of a ab ba o trusting wary written_message offered kexinit since_offer expects_guess stood first_kept since disposition_by disposition_reply step kexinit_reply init_step reply_step secret_of choice choice_of_directions exchange_with exchange_by exchange_text number_out switched_out derived key message_in messages.form_of messages.ext_info messages.extensions messages.kexinit readings.string_at readings.uint32_at readings.names_at readings.names_in readings.mpint_at readings.mpint_in ignore server client hello init reply request accept welcome all_kept count_kept left_after next_listed listed_in proof_in tried_in tried_at request_step signed_text messages.password messages.publickey messages.userauth_request utf8_at is_utf8 chars encode_utf8 none_fields password_fields change_fields query_fields would_do key_front key_fields other_fields asks lists agreed planner seen mirror
successes = (refl, refl, refl, refl)

-- a server with one service and so many tries, and one with two methods
keeper : ℕ → ConfigData
keeper tries = record server { services = codes "s" ∷ []; tries = tries }

lister : ConfigData
lister = record server { services = codes "s" ∷ []; methods = codes "publickey" ∷ codes "password" ∷ [] }

-- what it receives up to the request of the service
entered : List (List ℕ)
entered = hello true ∷ init ∷ (21 ∷ []) ∷ request ∷ []

-- whoever says no to every request, yes to the second, and yes to one password and one key
refusing : DecisionsData
refusing = record { host_key = λ alg blob. true; user = λ number user service proof. false; signature = λ number algorithm blob input. None }

second : DecisionsData
second = record { host_key = λ alg blob. true; user = λ number user service proof. number == 2; signature = λ number algorithm blob input. None }

knows : ProofData → Bool
knows NoProof = false
knows (PasswordProof password) = bytes_eq password (codes "pw")
knows (KeyProof algorithm key) = bytes_eq algorithm (codes "k") && bytes_eq key (66 ∷ 5 ∷ [])

knowing : DecisionsData
knowing = record { host_key = λ alg blob. true; user = λ number user service proof. knows proof; signature = λ number algorithm blob input. None }

-- a suite that verifies a signature which is what is signed
checker : SuiteData
checker = record toy { verify = λ alg blob input signature. bytes_eq signature input }

-- At a server: an unknown service; a request that is decided yes; one that is decided no, as the last try and before it.
-- Requests are counted from 1.
requests : (unit_reply (setup_with toy trusting Server server) (server.version ∷ entered) (asks (codes "u") none_fields) ≡ fails fault.Service) × (answers_at (setup_with toy trusting Server server) (server.version ∷ entered) (asks (codes "u") none_fields) ≡ (1 ∷ 0 ∷ 0 ∷ 0 ∷ 7 ∷ 0 ∷ 0 ∷ 0 ∷ 0 ∷ 0 ∷ 0 ∷ 0 ∷ 0 ∷ []) ∷ []) × (unit_reply (setup_with toy trusting Server (keeper 1)) (server.version ∷ entered) (asks (codes "u") none_fields) ≡ record { answers = (52 ∷ []) ∷ []; end = Authenticated (agreed (codes "u")) }) × (unit_reply (setup_with toy refusing Server (keeper 1)) (server.version ∷ entered) (asks (codes "u") none_fields) ≡ fails fault.TooManyTries) × (unit_reply (setup_with toy refusing Server (keeper 2)) (server.version ∷ entered) (asks (codes "u") none_fields) ≡ goes ((51 ∷ 0 ∷ 0 ∷ 0 ∷ 0 ∷ 0 ∷ []) ∷ [])) × (unit_reply (setup_with toy refusing Server (keeper 2)) (server.version ∷ (entered ++ asks (codes "u") none_fields ∷ [])) (asks (codes "u") none_fields) ≡ fails fault.TooManyTries) × (unit_reply (setup_with toy second Server (keeper 2)) (server.version ∷ entered) (asks (codes "u") none_fields) ≡ goes ((51 ∷ 0 ∷ 0 ∷ 0 ∷ 0 ∷ 0 ∷ []) ∷ [])) × (unit_reply (setup_with toy second Server (keeper 2)) (server.version ∷ (entered ++ asks (codes "u") none_fields ∷ [])) (asks (codes "u") none_fields) ≡ record { answers = (52 ∷ []) ∷ []; end = Authenticated (agreed (codes "u")) })
unfolding toy kexinit_data config_data kexinit_of a ab ba o trusting wary written_message offered kexinit since_offer expects_guess stood first_kept since disposition_by disposition_reply step kexinit_reply init_step reply_step secret_of choice choice_of_directions exchange_with exchange_by exchange_text number_out switched_out derived key message_in messages.form_of messages.ext_info messages.extensions messages.kexinit readings.string_at readings.uint32_at readings.names_at readings.names_in readings.mpint_at readings.mpint_in ignore server client hello init reply request accept welcome all_kept count_kept left_after next_listed listed_in proof_in tried_in tried_at request_step signed_text messages.password messages.publickey messages.userauth_request utf8_at is_utf8 chars encode_utf8 none_fields password_fields change_fields query_fields would_do key_front key_fields other_fields asks lists agreed keeper lister entered refusing second knows knowing checker
requests = (refl, refl, refl, refl, refl, refl, refl, refl)

-- A query is answered by whether its key would do. A change of the password, a method with no meaning here and a method that isn't listed prove nothing. A password
-- and a key are decided on; a signature is verified first.
method_proofs : (unit_reply (setup_with toy trusting Server lister) (server.version ∷ entered) (asks (codes "u") query_fields) ≡ goes (would_do ∷ [])) × (unit_reply (setup_with toy refusing Server lister) (server.version ∷ entered) (asks (codes "u") query_fields) ≡ goes (lists (codes "publickey,password") ∷ [])) × (unit_reply (setup_with toy trusting Server lister) (server.version ∷ entered) (asks (codes "u") change_fields) ≡ goes (lists (codes "publickey,password") ∷ [])) × (unit_reply (setup_with toy trusting Server lister) (server.version ∷ entered) (asks (codes "u") other_fields) ≡ goes (lists (codes "publickey,password") ∷ [])) × (unit_reply (setup_with toy trusting Server (keeper 6)) (server.version ∷ entered) (asks (codes "u") password_fields) ≡ goes ((51 ∷ 0 ∷ 0 ∷ 0 ∷ 0 ∷ 0 ∷ []) ∷ [])) × (unit_reply (setup_with toy trusting Server (keeper 6)) (server.version ∷ entered) (asks (codes "u") (key_fields (83 ∷ 0 ∷ []))) ≡ goes ((51 ∷ 0 ∷ 0 ∷ 0 ∷ 0 ∷ 0 ∷ []) ∷ [])) × (unit_reply (setup_with toy knowing Server lister) (server.version ∷ entered) (asks (codes "u") password_fields) ≡ record { answers = (52 ∷ []) ∷ []; end = Authenticated (agreed (codes "u")) }) × (unit_reply (setup_with toy knowing Server lister) (server.version ∷ entered) (asks (codes "u") none_fields) ≡ goes (lists (codes "publickey,password") ∷ [])) × (unit_reply (setup_with toy knowing Server lister) (server.version ∷ entered) (asks (codes "u") (key_fields (83 ∷ 0 ∷ []))) ≡ record { answers = (52 ∷ []) ∷ []; end = Authenticated (agreed (codes "u")) }) × (unit_reply (setup_with toy knowing Server lister) (server.version ∷ entered) (asks (codes "u") (key_fields (83 ∷ 1 ∷ []))) ≡ goes (lists (codes "publickey,password") ∷ [])) × (unit_reply (setup_with checker knowing Server lister) (server.version ∷ entered) (asks (codes "u") (key_fields (0 ∷ 0 ∷ 0 ∷ 1 ∷ 1 ∷ asks (codes "u") key_front))) ≡ record { answers = (52 ∷ []) ∷ []; end = Authenticated (agreed (codes "u")) }) × (unit_reply (setup_with checker knowing Server lister) (server.version ∷ entered) (asks (codes "u") (key_fields (0 ∷ 0 ∷ 0 ∷ 1 ∷ 1 ∷ asks (codes "k") key_front))) ≡ goes (lists (codes "publickey,password") ∷ []))
unfolding toy kexinit_data config_data kexinit_of a ab ba o trusting wary written_message offered kexinit since_offer expects_guess stood first_kept since disposition_by disposition_reply step kexinit_reply init_step reply_step secret_of choice choice_of_directions exchange_with exchange_by exchange_text number_out switched_out derived key message_in messages.form_of messages.ext_info messages.extensions messages.kexinit readings.string_at readings.uint32_at readings.names_at readings.names_in readings.mpint_at readings.mpint_in ignore server client hello init reply request accept welcome all_kept count_kept left_after next_listed listed_in proof_in tried_in tried_at request_step signed_text messages.password messages.publickey messages.userauth_request utf8_at is_utf8 chars encode_utf8 none_fields password_fields change_fields query_fields would_do key_front key_fields other_fields asks lists agreed keeper lister entered refusing second knows knowing checker
method_proofs = (refl, refl, refl, refl, refl, refl, refl, refl, refl, refl, refl, refl)

-- the reasons of the DISCONNECTs that failures send, and the failures that send none
reasons : (disconnect fault.Length ≡ (1 ∷ 0 ∷ 0 ∷ 0 ∷ 2 ∷ 0 ∷ 0 ∷ 0 ∷ 0 ∷ 0 ∷ 0 ∷ 0 ∷ 0 ∷ []) ∷ []) × (disconnect fault.Padding ≡ (1 ∷ 0 ∷ 0 ∷ 0 ∷ 2 ∷ 0 ∷ 0 ∷ 0 ∷ 0 ∷ 0 ∷ 0 ∷ 0 ∷ 0 ∷ []) ∷ []) × (disconnect fault.Mac ≡ (1 ∷ 0 ∷ 0 ∷ 0 ∷ 5 ∷ 0 ∷ 0 ∷ 0 ∷ 0 ∷ 0 ∷ 0 ∷ 0 ∷ 0 ∷ []) ∷ []) × (disconnect fault.Exchange ≡ (1 ∷ 0 ∷ 0 ∷ 0 ∷ 3 ∷ 0 ∷ 0 ∷ 0 ∷ 0 ∷ 0 ∷ 0 ∷ 0 ∷ 0 ∷ []) ∷ []) × (disconnect fault.HostKey ≡ (1 ∷ 0 ∷ 0 ∷ 0 ∷ 9 ∷ 0 ∷ 0 ∷ 0 ∷ 0 ∷ 0 ∷ 0 ∷ 0 ∷ 0 ∷ []) ∷ []) × (disconnect fault.Signature ≡ (1 ∷ 0 ∷ 0 ∷ 0 ∷ 3 ∷ 0 ∷ 0 ∷ 0 ∷ 0 ∷ 0 ∷ 0 ∷ 0 ∷ 0 ∷ []) ∷ []) × (disconnect fault.Service ≡ (1 ∷ 0 ∷ 0 ∷ 0 ∷ 7 ∷ 0 ∷ 0 ∷ 0 ∷ 0 ∷ 0 ∷ 0 ∷ 0 ∷ 0 ∷ []) ∷ []) × (disconnect fault.TooManyTries ≡ (1 ∷ 0 ∷ 0 ∷ 0 ∷ 14 ∷ 0 ∷ 0 ∷ 0 ∷ 0 ∷ 0 ∷ 0 ∷ 0 ∷ 0 ∷ []) ∷ []) × (disconnect fault.NoMoreMethods ≡ (1 ∷ 0 ∷ 0 ∷ 0 ∷ 14 ∷ 0 ∷ 0 ∷ 0 ∷ 0 ∷ 0 ∷ 0 ∷ 0 ∷ 0 ∷ []) ∷ []) × (disconnect (fault.Malformed 20) ≡ (1 ∷ 0 ∷ 0 ∷ 0 ∷ 2 ∷ 0 ∷ 0 ∷ 0 ∷ 0 ∷ 0 ∷ 0 ∷ 0 ∷ 0 ∷ []) ∷ []) × (disconnect (fault.Unexpected 80) ≡ (1 ∷ 0 ∷ 0 ∷ 0 ∷ 2 ∷ 0 ∷ 0 ∷ 0 ∷ 0 ∷ 0 ∷ 0 ∷ 0 ∷ 0 ∷ []) ∷ []) × (disconnect (fault.Strict 20) ≡ (1 ∷ 0 ∷ 0 ∷ 0 ∷ 2 ∷ 0 ∷ 0 ∷ 0 ∷ 0 ∷ 0 ∷ 0 ∷ 0 ∷ 0 ∷ []) ∷ []) × (disconnect (fault.NoCommon field.Kex) ≡ (1 ∷ 0 ∷ 0 ∷ 0 ∷ 3 ∷ 0 ∷ 0 ∷ 0 ∷ 0 ∷ 0 ∷ 0 ∷ 0 ∷ 0 ∷ []) ∷ []) × (disconnect fault.Version ≡ []) × (disconnect fault.Memory ≡ []) × (disconnect fault.Cut ≡ [])
unfolding toy kexinit_data config_data kexinit_of a ab ba o trusting wary written_message offered kexinit since_offer expects_guess stood first_kept since disposition_by disposition_reply step kexinit_reply init_step reply_step secret_of choice choice_of_directions exchange_with exchange_by exchange_text number_out switched_out derived key message_in messages.form_of messages.ext_info messages.extensions messages.kexinit readings.string_at readings.uint32_at readings.names_at readings.names_in readings.mpint_at readings.mpint_in ignore server client hello init reply request accept welcome to_server to_client guessing other_server guesser loose banner_server octet_server octet_client octets octet_hello octet_welcome no_share no_answer forged
reasons = (refl, refl, refl, refl, refl, refl, refl, refl, refl, refl, refl, refl, refl, refl, refl, refl)
