use Rattle.std.proofs.Common.{◌*◌, length, min}
use Rattle.front_cert.specs.Reaches.{IsSeen}
use Rattle.front_cert.proofs.pieces.see_all.Given as goal

abbrev pub invariant-loop-place : goal.invariant-loop-place
invariant-loop-place g l = IsSeen l.target.members.now l.target.least l.target.more l.log 0 (min (length l.log) (l.place * l.parts.many)) l.seen
