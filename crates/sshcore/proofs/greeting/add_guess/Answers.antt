use Rattle.std.proofs.Common.{◌≡◌, ℕ, Bool, true, false, List, [], ◌∷◌, ◌++◌, refl, sym, ap, ◌∙◌, cond}
use Rattle.sshneg.specs.declared.side.Side.{Side}
use Rattle.sshneg.specs.declared.side.Side.TheVariants.{Client, Server}
use Rattle.sshpacket.specs.Suite.{SuiteData}
use Rattle.sshcore.specs.declared.config.Config.{Config}
use Rattle.sshcore.specs.declared.config.Config.TheVariants as config
use Rattle.sshcore.specs.EndpointConfig.{config_data, role_of}
use Rattle.sshcore.specs.EndpointParts.{ConfigData, config_of_client}
use Rattle.sshcore.specs.Redrawn.{redrawn_client}
use Rattle.sshcore.specs.Work.{guess_of, guessed_method, init_for}
use Rattle.std.proofs.lemmas.List.{append-nil}
use Rattle.std.proofs.lemmas.Result.{on_ok_weaker}
use Rattle.sshpacket.specs.Stream.{Units}
use Rattle.sshcore.proofs.GivesLemmas.{quiet_init}
use Rattle.sshcore.proofs.MadeLemmas.{made_plain}
use Rattle.sshcore.proofs.greeting.add_guess.Goals as goal

-- none is made
unguessed : (m : SuiteData) (role : Side) (config : ConfigData) → false ≡ config.offer.first_kex_packet_follows → [] ≡ guess_of m role config
unguessed m Server config e = refl
unguessed m Client config e = ap (λ (b : Bool). cond b (init_for m config (guessed_method config) ∷ []) []) e

-- one is made, so by a client
guessed : (m : SuiteData) (c : Config) → true ≡ (config_data c).offer.first_kex_packet_follows → init_for m (config_data c) (guessed_method (config_data c)) ∷ [] ≡ guess_of m (role_of c) (config_data c)
guessed m (config.Client client draws) e =
    ap (λ (b : Bool). cond b (init_for m (config_of_client (redrawn_client draws client.now)) (guessed_method (config_of_client (redrawn_client draws client.now))) ∷ []) []) e
guessed m (config.Server server draws) e = absurd cc

pub returns-then-not-guesses : goal.returns-then-not-guesses
returns-then-not-guesses g c = sym (append-nil c.args.answers.now)
    ∙ ap (λ (u : Units). c.args.answers.now ++ u) (unguessed (g.S.Suite.meaning c.args.suite.now) (role_of c.args.config.now) (config_data c.args.config.now) c.if-not-guesses.ensures)

pub push-requires : goal.push-requires
push-requires g c = made_plain _ _ c.in_ok-guess.ensures (quiet_init (g.S.Suite.meaning c.args.suite.now) (config_data c.args.config.now) c.first_method.result.now)

pub returns : goal.returns
returns g c = on_ok_weaker c.push.result (λ is.
    is ∙ ap (λ (u : Units). c.args.answers.now ++ u) (ap (λ (p : List ℕ). p ∷ []) c.in_ok-guess.ensures.same
    ∙ (ap (λ (kex : List ℕ). init_for (g.S.Suite.meaning c.args.suite.now) (config_data c.args.config.now) kex ∷ []) c.first_method.ensures.method
    ∙ guessed (g.S.Suite.meaning c.args.suite.now) c.args.config.now c.if-not-guesses.ensures))) c.push.ensures
