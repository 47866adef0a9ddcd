use Rattle.std.proofs.Common.{◌≡◌, ◌≤◌, ◌-◌, length, take, All}
use Rattle.clause_base.specs.Acceptance.{blocks_in}
use Rattle.proof_check.specs.Claims.{IsPiece, Cover}
use Rattle.proof_check.proofs.parallel.pieces_of.Given as goal

abbrev pub invariant-loop-from : goal.invariant-loop-from
invariant-loop-from l = record {
  within : l.from ≤ length l.log;
  seen : l.seen ≡ blocks_in (take l.from l.log);
  pieces : All (IsPiece l.log) l.pieces.items;
  cover : Cover 0 l.from l.pieces.items;
  few : length l.pieces.items ≤ l.from;
}

abbrev pub decreases-loop-from : goal.decreases-loop-from
decreases-loop-from l = length l.log - l.from
