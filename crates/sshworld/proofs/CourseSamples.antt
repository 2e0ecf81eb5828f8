-- Courses, written out and counted.

use Rattle.std.proofs.Common.{◌≡◌, ℕ, List, [], ◌∷◌, refl}
use Rattle.sshmsg.specs.declared.numbers.TheConstants.{SSH_DISCONNECT_HOST_KEY_NOT_VERIFIABLE, SSH_DISCONNECT_KEY_EXCHANGE_FAILED, SSH_DISCONNECT_NO_MORE_AUTH_METHODS_AVAILABLE}
use Rattle.sshpacket.specs.Stream.{Units}
use Rattle.sshcore.specs.ConfigParts.{AttemptData}
use Rattle.sshworld.specs.Course.{NoChoice, NoTrust, Requests, Way, client_part, sent_after, server_part}
use Rattle.sshworld.specs.Guesses.{Guess, NoGuess, RightGuess, WrongGuess}
use Rattle.sshworld.specs.Outcome.{BothEnds}
use Rattle.sshworld.specs.Rounds.{UnitsReceived, after_rounds, all_received, groups_sent}
use Rattle.sshworld.specs.Verdicts.{Exhausted, How, Limit, Success}
use Rattle.sshworld.specs.Wording.{Wording}

module _ (words : Wording) (greeting : List ℕ) (ends : BothEnds) (attempt : AttemptData) where
  -- without a banner, and with one
  abbrev plain : Wording
  plain = record words { banner = [] }

  abbrev greeted : Wording
  greeted = record words { banner = greeting ∷ [] }

  abbrev after : ℕ → How → Way
  after n how = Requests (record { requests = n; how = how })

  abbrev client_sends : Wording → Guess → Way → Units
  client_sends w guess way = sent_after (client_part w guess way ends) (client_part w guess way ends).receives

  abbrev server_sends : Wording → Guess → Way → Units
  server_sends w guess way = sent_after (server_part w guess way ends) (server_part w guess way ends).receives

  -- one request, which is successful
  client_one : client_sends plain NoGuess (after 1 (Success attempt)) ≡ words.client_offer ∷ words.init ∷ words.new_keys ∷ words.service_request ∷ words.request 0 ∷ []
  client_one = refl

  server_one : server_sends plain NoGuess (after 1 (Success attempt)) ≡ words.server_offer ∷ words.reply ∷ words.new_keys ∷ words.service_accept ∷ words.success ∷ []
  server_one = refl

  -- a right guess is the same share, earlier; a wrong one stands before it
  client_right : client_sends greeted RightGuess (after 1 (Success attempt)) ≡ words.client_offer ∷ words.init ∷ words.new_keys ∷ words.service_request ∷ words.request 0 ∷ []
  client_right = refl

  client_wrong : client_sends greeted WrongGuess (after 1 (Success attempt)) ≡ words.client_offer ∷ words.guess ∷ words.init ∷ words.new_keys ∷ words.service_request ∷ words.request 0 ∷ []
  client_wrong = refl

  server_wrong : server_sends greeted WrongGuess (after 1 (Success attempt)) ≡ words.server_offer ∷ words.reply ∷ words.new_keys ∷ words.service_accept ∷ greeting ∷ words.success ∷ []
  server_wrong = refl

  -- two requests in vain: the client has no more to offer, or the server grants no more
  client_two : client_sends greeted NoGuess (after 2 Exhausted)
      ≡ words.client_offer ∷ words.init ∷ words.new_keys ∷ words.service_request ∷ words.request 0 ∷ words.request 1 ∷ words.disconnect SSH_DISCONNECT_NO_MORE_AUTH_METHODS_AVAILABLE ∷ []
  client_two = refl

  server_two : server_sends greeted NoGuess (after 2 Exhausted) ≡ words.server_offer ∷ words.reply ∷ words.new_keys ∷ words.service_accept ∷ greeting ∷ words.refusal 0 ∷ words.refusal 1 ∷ []
  server_two = refl

  server_limit : server_sends plain NoGuess (after 2 Limit)
      ≡ words.server_offer ∷ words.reply ∷ words.new_keys ∷ words.service_accept ∷ words.refusal 0 ∷ words.disconnect SSH_DISCONNECT_NO_MORE_AUTH_METHODS_AVAILABLE ∷ []
  server_limit = refl

  -- no algorithm in common, a host key that isn't trusted, and no request at all
  client_none : client_sends plain RightGuess NoChoice ≡ words.client_offer ∷ words.init ∷ words.disconnect SSH_DISCONNECT_KEY_EXCHANGE_FAILED ∷ []
  client_none = refl

  server_none : server_sends plain RightGuess NoChoice ≡ words.server_offer ∷ words.disconnect SSH_DISCONNECT_KEY_EXCHANGE_FAILED ∷ []
  server_none = refl

  client_distrusts : client_sends plain WrongGuess NoTrust ≡ words.client_offer ∷ words.guess ∷ words.init ∷ words.disconnect SSH_DISCONNECT_HOST_KEY_NOT_VERIFIABLE ∷ []
  client_distrusts = refl

  server_distrusted : server_sends plain WrongGuess NoTrust ≡ words.server_offer ∷ words.reply ∷ words.new_keys ∷ []
  server_distrusted = refl

  client_offers_none : client_sends greeted NoGuess (after 0 Exhausted) ≡ words.client_offer ∷ words.init ∷ words.new_keys ∷ words.service_request ∷ words.disconnect SSH_DISCONNECT_NO_MORE_AUTH_METHODS_AVAILABLE ∷ []
  client_offers_none = refl

  abbrev received : Guess → Way → ℕ → UnitsReceived
  received guess way rounds = after_rounds (client_part plain guess way ends) (server_part plain guess way ends) rounds

  abbrev received_all : Guess → Way → UnitsReceived
  received_all guess way = all_received (client_part plain guess way ends) (server_part plain guess way ends)

  -- where no request is made, four rounds are enough and three aren't
  none_four : received NoGuess (after 0 Exhausted) 4 ≡ received_all NoGuess (after 0 Exhausted)
  none_four = refl

  none_three : received NoGuess (after 0 Exhausted) 3 ≡ record { client = 5; server = 5 }
  none_three = refl

  none_all : received_all NoGuess (after 0 Exhausted) ≡ record { client = 5; server = 6 }
  none_all = refl

  -- after three rounds the server waits for the one request; a right guess saves a round, and a wrong one none
  one_three : received NoGuess (after 1 (Success attempt)) 3 ≡ record { client = 5; server = 5 }
  one_three = refl

  one_four : received NoGuess (after 1 (Success attempt)) 4 ≡ received_all NoGuess (after 1 (Success attempt))
  one_four = refl

  right_three : received RightGuess (after 1 (Success attempt)) 3 ≡ received_all RightGuess (after 1 (Success attempt))
  right_three = refl

  wrong_four : received WrongGuess (after 1 (Success attempt)) 4 ≡ received_all WrongGuess (after 1 (Success attempt))
  wrong_four = refl

  -- two requests in vain: five rounds are too few, and six are enough
  two_five : received NoGuess (after 2 Exhausted) 5 ≡ record { client = 7; server = 7 }
  two_five = refl

  two_six : received NoGuess (after 2 Exhausted) 6 ≡ received_all NoGuess (after 2 Exhausted)
  two_six = refl

  two_groups : groups_sent (client_part plain NoGuess (after 2 Exhausted) ends).group 7 ≡ 5
  two_groups = refl
