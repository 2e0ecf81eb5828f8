use Rattle.std.proofs.Common.{◌≡◌, take}
use Rattle.std.specs.List.{list_any}
use Rattle.sshcore.specs.EndpointPartsView.{proof_data}
use Rattle.rezdolin.specs.Trust.{is_entry_of}
use Rattle.rezdolin.proofs.trust.accepts.Given as goal

abbrev pub invariant-loop-entry : goal.invariant-loop-entry
invariant-loop-entry l = l.is_accepted ≡ list_any (λ entry. is_entry_of entry l.user (proof_data l.proof)) (take l.entry-index l.users)
