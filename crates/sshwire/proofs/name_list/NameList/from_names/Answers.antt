use Rattle.std.proofs.Common.{◌≡◌, ℕ, List, [], map, refl, sym, ap, ◌∙◌}
use Rattle.std.specs.Borrow.{Bor}
use Rattle.std.specs.Prelude.{string_bytes}
use Rattle.std.proofs.lemmas.Bool.{both_ways}
use Rattle.std.proofs.lemmas.List.{length-map, map_more, take_all}
use Rattle.sshwire.specs.TypeReadings.{is_name, names_of}
use Rattle.sshwire.proofs.NameLemmas.{name_among, name_from_test, name_tested, names_of_body, names_put, put_name}
use Rattle.sshwire.proofs.name_list.NameList.from_names.Goals as goal

abbrev view : Bor (List ℕ) → List ℕ
view name = name.now

abbrev nothing : Bor (List ℕ)
nothing = record { ref_ptr = (0, 0); now = [] }

pub returns-then-not-is_name-clause-complete : goal.returns-then-not-is_name-clause-complete
returns-then-not-is_name-clause-complete c = λ _. (
  refl,
  λ each. both_ways (is_name c.as_bytes.result.now) (sym c.is_name.ensures ∙ c.if-not-is_name.true)
      (rw c.as_bytes.ensures.value (name_tested _ (name_among view c.args.names.now c.loop-name.name-index nothing each c.loop-name-test.true))),
)

pub loop-name-preserved : goal.loop-name-preserved
loop-name-preserved c =
    let is = name_from_test c.as_bytes.result.now (sym c.is_name.ensures ∙ c.if-not-is_name.false) in
    put_name _ _ _ _ _ c.loop-name.invariant (rw c.as_bytes.ensures.value at is) (map_more view c.args.names.now c.loop-name.name-index nothing c.loop-name-test.true) c.in_ok-push_name.ensures

pub invariant_of-result : goal.invariant_of-result
invariant_of-result c =
    let all = take_all c.loop-name.name-index c.args.names.now c.loop-name-test.false in
    let put = rw all at c.loop-name.invariant in
    names_put _ _ _ put (rw length-map c.requires) (rw c.as_bytes-2.ensures.value at c.in_ok-ends.ensures)

pub returns-clause-sound : goal.returns-clause-sound
returns-clause-sound c =
    let all = take_all c.loop-name.name-index c.args.names.now c.loop-name-test.false in
    let put = rw all at c.loop-name.invariant in
    let same : names_of (string_bytes c.loop-name.text) ≡ map view c.args.names.now
    = ap (λ (xs : List ℕ). names_of xs) put.text_is ∙ names_of_body (map view c.args.names.now) put.each in
    (same, rw same put.each)
