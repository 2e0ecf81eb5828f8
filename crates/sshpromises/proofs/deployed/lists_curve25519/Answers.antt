use Rattle.std.proofs.Common.{◌≡◌, ◌∙◌, ap, sym}
use Rattle.std.proofs.lemmas.List.Folds.{list_all-map}
use Rattle.std.specs.List.{list_all}
use Rattle.std.specs.Prelude.{map, string_bytes}
use Rattle.sshcore.specs.ConfigParts.{ClientData}
use Rattle.sshsuite.specs.Deployed.{is_curve25519}
use Rattle.sshpromises.proofs.NamesLemmas.{all_pass, each_passes}
use Rattle.sshpromises.proofs.deployed.lists_curve25519.Goals as goal

pub returns : goal.returns
returns c =
    let listed = c.args.client.now.side.kex_algorithms in
    let is : c.are_curve25519.result ≡ list_all is_curve25519 listed
    = c.are_curve25519.ensures ∙ sym (list_all-map is_curve25519 string_bytes c.deref.result.now) ∙ ap (λ names. list_all is_curve25519 (map string_bytes names)) c.deref.ensures.value
    ∙ ap (λ (d : ClientData). list_all is_curve25519 d.side.kex_algorithms) c.parts.ensures.same in (λ yes. each_passes is_curve25519 listed (sym is ∙ yes), λ each. is ∙ all_pass is_curve25519 listed each)
