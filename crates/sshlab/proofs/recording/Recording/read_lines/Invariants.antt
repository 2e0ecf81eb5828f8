use Rattle.std.proofs.Common.{◌≡◌, ◌++◌, true, map, length}
use Rattle.std.specs.List.{list_all, flat_map}
use Rattle.sshneg.specs.declared.side.Side.TheVariants.{Client, Server}
use Rattle.sshlab.specs.Recordings.{is_recorded, sent}
use Rattle.sshlab.proofs.recording.Recording.read_lines.Given as goal

abbrev pub invariant-loop-line : goal.invariant-loop-line
invariant-loop-line l = record {
  number : l.number ≡ length l.yielded;
  client : l.self.client.items ≡ l.fn.self.client.items ++ flat_map (sent Client) (map (λ line. line.now) l.yielded);
  server : l.self.server.items ≡ l.fn.self.server.items ++ flat_map (sent Server) (map (λ line. line.now) l.yielded);
  readable : list_all is_recorded (map (λ line. line.now) l.yielded) ≡ true;
}
