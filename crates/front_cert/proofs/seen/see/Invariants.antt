use Rattle.std.proofs.Common.{◌≤◌}
use Rattle.front_cert.specs.Reaches.{IsSeen}
use Rattle.front_cert.proofs.seen.see.Given as goal

abbrev pub invariant-loop-place : goal.invariant-loop-place
invariant-loop-place l = record {
  low : l.fn.piece.from ≤ l.place;
  seen : IsSeen l.target.members.now l.target.least l.target.more l.log l.fn.piece.from l.place l.seen;
}
