use Rattle.std.proofs.Common.{length, ◌+◌, ◌*◌, ◌-◌, ◌≡◌, ◌≢◌, ◌≤◌, false, take}
use Rattle.sshcore.specs.EndData.{Open, by_input}
use Rattle.sshcore.specs.Endpoints.{Fed, endpoint_end, turns_of}
use Rattle.sshcore.proofs.endpoint.Endpoint.feed.Given as goal

abbrev pub invariant-loop-used : goal.invariant-loop-used
invariant-loop-used g l = record {
  fed : Fed g.S.Suite.meaning g.D.Decisions.policy l.initial.self l.self (take l.used l.piece) l.initial.out.items l.out.items;
  within : l.used ≤ length l.piece;
  owned : by_input (endpoint_end l.self) ≡ false → endpoint_end l.initial.self ≡ endpoint_end l.self;
  ended : endpoint_end l.initial.self ≢ Open → (l.used ≡ 0) × (l.self ≡ l.initial.self) × (l.out ≡ l.initial.out);
}

abbrev pub decreases-loop-used : goal.decreases-loop-used
decreases-loop-used g l = 3 * (length l.piece - l.used) + turns_of l.self
