use Rattle.std.proofs.Common.{◌≡◌, ℕ, ap, cond, rules, true, ◌∙◌}
use Rattle.std.specs.Prelude.{None, Some}
use Rattle.sshsuite.specs.Group14.{is_positive_body, is_within, number_high}
use Rattle.sshsuite.specs.LongNumbers.{number_of}
use Rattle.sshsuite.proofs.ByteNumberLemmas.{given_none, given_number}
use Rattle.sshsuite.proofs.PowerLemmas.{peer_beyond, peer_is, peer_refused}
use Rattle.sshsuite.proofs.group14.peer_number.Goals as goal

pub returns-then-not-is_positive_body : goal.returns-then-not-is_positive_body
returns-then-not-is_positive_body c = peer_refused c.args.peer.now (search rules)

pub returns-in-Some : goal.returns-in-Some
returns-in-Some c =
    let positive : is_positive_body c.args.peer.now ≡ true = search rules in
    let same = given_number (number_of c.in-Some.number) (number_high c.args.peer.now) c.in-Some.ensures in
    c.share_number.ensures ∙ ap (λ (n : ℕ). cond (is_within n) (Some n) None) same ∙ peer_is c.args.peer.now positive

pub returns-in-None : goal.returns-in-None
returns-in-None c =
    let positive : is_positive_body c.args.peer.now ≡ true = search rules in
    peer_beyond c.args.peer.now positive (given_none (number_high c.args.peer.now) c.in-None.ensures)
