use Rattle.std.proofs.Common.{◌≡◌, ℕ, List, length, ap, ◌∙◌, arith}
use Rattle.std.specs.Prelude.{string_bytes}
use Rattle.sshwire.specs.Types.{names_body}
use Rattle.sshwire.specs.TypeReadings.{names_of}
use Rattle.sshwire.proofs.NameLemmas.{names_taken, table_of}
use Rattle.sshwire.proofs.name_list.NameList.written_len.Goals as goal

pub returns : goal.returns
returns c =
    let body = ap (λ (xs : List ℕ). length xs) (names_taken (string_bytes c.self.inside.text) (names_of (string_bytes c.self.inside.text)) (table_of _ _ c.self.invariant).names).body_is in
    let long : c.len.result ≡ length (names_body (names_of (string_bytes c.self.inside.text))) = c.len.ensures ∙ (c.self.inside.text.bytes.ok.0 ∙ body) in
    rw (← c.self.view_is) (omega (arith, long))
