use Rattle.std.proofs.Common.{length, ◌+◌, ◌*◌, ◌-◌, ◌≡◌, ◌≤◌, false, take}
use Rattle.sshcore.specs.Asking.{AskingFed, IsReadyForBytes, asked_by, asking_end, asking_turns}
use Rattle.sshcore.specs.EndData.{by_input}
use Rattle.sshcore.proofs.asking_endpoint.AskingEndpoint.feed.Given as goal

abbrev pub invariant-loop-used : goal.invariant-loop-used
invariant-loop-used g l = record {
  fed : AskingFed g.S.Suite.meaning l.initial.self l.self (take l.used l.piece) l.initial.out.items l.out.items;
  within : l.used ≤ length l.piece;
  owned : by_input (asking_end l.self) ≡ false → asking_end l.initial.self ≡ asking_end l.self;
  nothing : l.used ≡ 0 → asked_by l.self ≡ asked_by l.initial.self;
  stays : (IsReadyForBytes l.initial.self → ⊥) → (l.used ≡ 0) × (l.self ≡ l.initial.self) × (l.out ≡ l.initial.out);
}

abbrev pub decreases-loop-used : goal.decreases-loop-used
decreases-loop-used g l = 3 * (length l.piece - l.used) + asking_turns l.self
