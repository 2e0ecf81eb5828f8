use Rattle.std.proofs.Common.{rules, ◌≡◌, ◌∙◌, ◌++◌, ℕ, List, [], ◌∷◌, ap, sym}
use Rattle.std.proofs.lemmas.Result.{on_ok_weaker}
use Rattle.sshcore.specs.EndpointPartsView.{proof_data}
use Rattle.sshwire.specs.Types.{uint32}
use Rattle.rezdolin.specs.declared.inputs.TheConstants.{METHOD_PUBLICKEY}
use Rattle.rezdolin.specs.Questions.{proof_fields}
use Rattle.rezdolin.specs.Records.{strings}
use Rattle.rezdolin.proofs.question.put_proof.Goals as goal

same_fields : (a b c d v w : List ℕ) (key : List ℕ) → a ≡ b → c ≡ d → v ≡ w → ◌≡◌ {A = List (List ℕ)} (a ∷ c ∷ key ∷ [] ∷ v ∷ []) (b ∷ d ∷ key ∷ [] ∷ w ∷ [])
same_fields a b c d v w key e f g = cc

pub returns : goal.returns
returns c =
    let method : c.deref-in-Key.result.now ≡ uint32 METHOD_PUBLICKEY = search rules in
    let algorithm : c.as_bytes.result.now ≡ c.in-Key.algorithm.now = search rules in
    on_ok_weaker c.put_fields-in-Key.result
    (λ put. put ∙ ap (λ (fields : List (List ℕ)). c.args.out.now.items ++ strings fields)
    (same_fields _ _ _ _ _ _ c.in-Key.blob.now method algorithm c.flag_of-verified.ensures ∙ ap (λ p. proof_fields (proof_data p) c.args.signed) (sym c.in-Key.is)))
    c.put_fields-in-Key.ensures
