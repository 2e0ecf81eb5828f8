use Rattle.std.proofs.Common.{List, ◌∷◌, ◌++◌, refl, ap, ◌∙◌, ℕ}
use Rattle.sshmsg.specs.Written.{written_message}
use Rattle.sshpacket.specs.Stream.{Units}
use Rattle.sshcore.specs.EndpointConfig.{config_data, role_of}
use Rattle.sshcore.specs.Work.{guess_of}
use Rattle.sshcore.proofs.MadeLemmas.{made_plain}
use Rattle.sshcore.proofs.greeting.making_answers.Goals as goal

pub one-requires : goal.one-requires
unfolding written_message
one-requires g c = made_plain _ _ c.in_ok-kexinit.ensures refl

pub returns : goal.returns
returns g c =
    let guess : Units = guess_of (g.S.Suite.meaning c.args.suite.now) (role_of c.args.config.now) (config_data c.args.config.now) in
    c.in_ok-add_guess.ensures ∙ (ap (λ (a : Units). a ++ guess) c.in_ok-answers.ensures ∙ ap (λ (p : List ℕ). p ∷ guess) c.in_ok-kexinit.ensures.same)
