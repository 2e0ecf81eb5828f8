use Rattle.std.proofs.Common.{refl, sym, ◌∙◌}
use Rattle.std.proofs.lemmas.Result.{err_from_is_err_and}
use Rattle.sshmsg.specs.View.{kexinit_data}
use Rattle.sshneg.specs.ChoiceReadings.{choice_of_directions}
use Rattle.sshneg.proofs.PositionLemmas.{all_positions, found_err, found_ok}
use Rattle.sshneg.proofs.choice.choose_directions.Goals as goal

pub returns-in_err-choose_common : goal.returns-in_err-choose_common
unfolding choice_of_directions
returns-in_err-choose_common c = λ method algorithm at_kex at_host_key.
    let last = found_err _ _ _ _ (sym c.choose_common.ensures ∙ c.in_err-choose_common.was) in
    let p = err_from_is_err_and c.from_residual.result c.from_residual.ensures.1 in
    rw (p.1, p.2, ← last.1, last.0) refl

pub returns-in_err-choose_common-2 : goal.returns-in_err-choose_common-2
unfolding choice_of_directions
returns-in_err-choose_common-2 c = λ method algorithm at_kex at_host_key.
    let s1 = found_ok _ _ _ _ (sym c.choose_common.ensures ∙ c.in_ok-choose_common.was) in
    let last = found_err _ _ _ _ (sym c.choose_common-2.ensures ∙ c.in_err-choose_common-2.was) in
    let p = err_from_is_err_and c.from_residual-in_err-choose_common-2.result c.from_residual-in_err-choose_common-2.ensures.1 in
    rw (p.1, p.2, ← last.1, s1.is, last.0) refl

pub returns-in_err-choose_common-3 : goal.returns-in_err-choose_common-3
unfolding choice_of_directions
returns-in_err-choose_common-3 c = λ method algorithm at_kex at_host_key.
    let s1 = found_ok _ _ _ _ (sym c.choose_common.ensures ∙ c.in_ok-choose_common.was) in
    let s2 = found_ok _ _ _ _ (sym c.choose_common-2.ensures ∙ c.in_ok-choose_common-2.was) in
    let last = found_err _ _ _ _ (sym c.choose_common-3.ensures ∙ c.in_err-choose_common-3.was) in
    let p = err_from_is_err_and c.from_residual-in_err-choose_common-3.result c.from_residual-in_err-choose_common-3.ensures.1 in
    rw (p.1, p.2, ← last.1, s1.is, s2.is, last.0) refl

pub returns-in_err-choose_common-4 : goal.returns-in_err-choose_common-4
unfolding choice_of_directions
returns-in_err-choose_common-4 c = λ method algorithm at_kex at_host_key.
    let s1 = found_ok _ _ _ _ (sym c.choose_common.ensures ∙ c.in_ok-choose_common.was) in
    let s2 = found_ok _ _ _ _ (sym c.choose_common-2.ensures ∙ c.in_ok-choose_common-2.was) in
    let s3 = found_ok _ _ _ _ (sym c.choose_common-3.ensures ∙ c.in_ok-choose_common-3.was) in
    let last = found_err _ _ _ _ (sym c.choose_common-4.ensures ∙ c.in_err-choose_common-4.was) in
    let p = err_from_is_err_and c.from_residual-in_err-choose_common-4.result c.from_residual-in_err-choose_common-4.ensures.1 in
    rw (p.1, p.2, ← last.1, s1.is, s2.is, s3.is, last.0) refl

pub returns-in_err-choose_common-5 : goal.returns-in_err-choose_common-5
unfolding choice_of_directions
returns-in_err-choose_common-5 c = λ method algorithm at_kex at_host_key.
    let s1 = found_ok _ _ _ _ (sym c.choose_common.ensures ∙ c.in_ok-choose_common.was) in
    let s2 = found_ok _ _ _ _ (sym c.choose_common-2.ensures ∙ c.in_ok-choose_common-2.was) in
    let s3 = found_ok _ _ _ _ (sym c.choose_common-3.ensures ∙ c.in_ok-choose_common-3.was) in
    let s4 = found_ok _ _ _ _ (sym c.choose_common-4.ensures ∙ c.in_ok-choose_common-4.was) in
    let last = found_err _ _ _ _ (sym c.choose_common-5.ensures ∙ c.in_err-choose_common-5.was) in
    let p = err_from_is_err_and c.from_residual-in_err-choose_common-5.result c.from_residual-in_err-choose_common-5.ensures.1 in
    rw (p.1, p.2, ← last.1, s1.is, s2.is, s3.is, s4.is, last.0) refl

pub returns-in_err-choose_common-6 : goal.returns-in_err-choose_common-6
unfolding choice_of_directions
returns-in_err-choose_common-6 c = λ method algorithm at_kex at_host_key.
    let s1 = found_ok _ _ _ _ (sym c.choose_common.ensures ∙ c.in_ok-choose_common.was) in
    let s2 = found_ok _ _ _ _ (sym c.choose_common-2.ensures ∙ c.in_ok-choose_common-2.was) in
    let s3 = found_ok _ _ _ _ (sym c.choose_common-3.ensures ∙ c.in_ok-choose_common-3.was) in
    let s4 = found_ok _ _ _ _ (sym c.choose_common-4.ensures ∙ c.in_ok-choose_common-4.was) in
    let s5 = found_ok _ _ _ _ (sym c.choose_common-5.ensures ∙ c.in_ok-choose_common-5.was) in
    let last = found_err _ _ _ _ (sym c.choose_common-6.ensures ∙ c.in_err-choose_common-6.was) in
    let p = err_from_is_err_and c.from_residual-in_err-choose_common-6.result c.from_residual-in_err-choose_common-6.ensures.1 in
    rw (p.1, p.2, ← last.1, s1.is, s2.is, s3.is, s4.is, s5.is, last.0) refl

pub returns : goal.returns
unfolding choice_of_directions
returns c = λ method algorithm at_kex at_host_key.
    let s1 = found_ok _ _ _ _ (sym c.choose_common.ensures ∙ c.in_ok-choose_common.was) in
    let s2 = found_ok _ _ _ _ (sym c.choose_common-2.ensures ∙ c.in_ok-choose_common-2.was) in
    let s3 = found_ok _ _ _ _ (sym c.choose_common-3.ensures ∙ c.in_ok-choose_common-3.was) in
    let s4 = found_ok _ _ _ _ (sym c.choose_common-4.ensures ∙ c.in_ok-choose_common-4.was) in
    let s5 = found_ok _ _ _ _ (sym c.choose_common-5.ensures ∙ c.in_ok-choose_common-5.was) in
    let s6 = found_ok _ _ _ _ (sym c.choose_common-6.ensures ∙ c.in_ok-choose_common-6.was) in
    rw (s1.is, s2.is, s3.is, s4.is, s5.is, s6.is) (all_positions (kexinit_data c.args.client.now) record {
      kex = method;
      host_key = algorithm;
      encryption_client_to_server = s1.name;
      encryption_server_to_client = s2.name;
      mac_client_to_server = s3.name;
      mac_server_to_client = s4.name;
      compression_client_to_server = s5.name;
      compression_server_to_client = s6.name;
    } _ at_kex at_host_key s1.at s2.at s3.at s4.at s5.at s6.at)
