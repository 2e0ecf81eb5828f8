use Rattle.std.proofs.Common.{rules, tests}
use Rattle.std.proofs.lemmas.Iterator.{YieldsList-from_slice}
use Rattle.std.proofs.lemmas.Iterator.Search.{position_from_yields_List}
use Rattle.sshcore.proofs.AttemptLemmas.{is_listed, listed_at, listed_nowhere}
use Rattle.sshcore.proofs.auth_client_attempts.from_listed.Goals as goal

pub returns-in-None : goal.returns-in-None
returns-in-None c = listed_nowhere c.args.listed.now c.args.attempts.now c.position-found.result
    (position_from_yields_List (is_listed c.args.listed.now) _ _ c.position-found.result c.position-found.ensures.ran
    (YieldsList-from_slice c.args.attempts.now cc) (λ x b q k. search (rules, tests))) c.in-None.is

pub returns-in-Some : goal.returns-in-Some
returns-in-Some c = listed_at c.args.listed.now c.args.attempts.now c.position-found.result
    (position_from_yields_List (is_listed c.args.listed.now) _ _ c.position-found.result c.position-found.ensures.ran
    (YieldsList-from_slice c.args.attempts.now cc) (λ x b q k. search (rules, tests))) c.in-Some.place c.in-Some.is
