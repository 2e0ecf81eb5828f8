use Rattle.std.proofs.Common.{rules, ◌≡◌, ◌++◌, ◌∷◌, []}
use Rattle.std.proofs.lemmas.Str.Pattern.{split_once_first}
use Rattle.sshlab.specs.ScenarioFields.{parts}
use Rattle.sshlab.proofs.ScenarioFieldLemmas.{found_last, found_next, parts_split, parts_uncut}
use Rattle.sshlab.proofs.scenario_fields.parts_of.Goals as goal

pub loop-part-preserved : goal.loop-part-preserved
loop-part-preserved c =
    let split = split_once_first c.args.between c.loop-part.rest.now _ c.split_once.ensures.cases c.requires in
    let at = rw c.in-Some.is at split in
    let two = parts_split c.args.between c.loop-part.rest.now _ _ at.0 at.1 at.2 in
    let items : c.push.new.self.items ≡ c.loop-part.found.items ++ c.in-Some.part ∷ [] = search rules in
    (search rules, found_next c.push.new.self.items c.loop-part.found.items c.in-Some.part _ _ _ items c.loop-part.invariant.1 two)

pub returns : goal.returns
returns c =
    let split = split_once_first c.args.between c.loop-part.rest.now _ c.split_once.ensures.cases c.requires in
    let none = rw c.in_default.is at split in
    let one : parts c.args.between c.loop-part.rest.now ≡ c.loop-part.rest.now ∷ [] = parts_uncut c.args.between c.loop-part.rest.now none in
    let items : c.push-2.new.self.items ≡ c.loop-part.found.items ++ c.loop-part.rest ∷ [] = search rules in
    found_last c.push-2.new.self.items c.loop-part.found.items c.loop-part.rest _ _ items one c.loop-part.invariant.1
