use Rattle.std.proofs.Common.{List, ℕ, [], ◌∷◌, sym, ap, string_bytes, ◌∙◌}
use Rattle.std.proofs.lemmas.Result.{IfOk-weaker}
use Rattle.sshcore.proofs.ExtensionLemmas.{extensions_quiet, told_none, told_some, told_unasked}
use Rattle.sshcore.proofs.MadeLemmas.{made_plain}
use Rattle.sshcore.proofs.state.State.extensions.Goals as goal
use Rattle.sshcore.proofs.state.State.extensions.Goals.{then-is_empty-via-then-is_empty, then-is_empty-via-else-is_empty+then-not-self}

pub returns-then-is_empty : goal.returns-then-is_empty
returns-then-is_empty c = c.none.ensures ∙ elim c.then-is_empty.branch [
  | then-is_empty-via-then-is_empty w ↦ told_none string_bytes c.signature_algorithms-names.result.now _ _ c.signature_algorithms-names.ensures.names
      (sym c.is_empty.ensures ∙ w.if-is_empty.true)
  | then-is_empty-via-else-is_empty+then-not-self w ↦ told_unasked _ _ _ c.args.self.now.asked w.if-not-self.true
]

pub one-requires : goal.one-requires
one-requires c = made_plain _ _ c.in_ok-payload.ensures (extensions_quiet _)

pub returns : goal.returns
returns c = IfOk-weaker c.one.result _ _ (λ answers alone.
    alone ∙ (ap (λ (p : List ℕ). p ∷ []) c.in_ok-payload.ensures.same
    ∙ told_some string_bytes c.signature_algorithms-names.result.now _ _ _ c.signature_algorithms-names.ensures.names (sym c.is_empty.ensures ∙ c.if-is_empty.false)
    c.args.self.now.asked c.if-not-self.false)) c.one.ensures
