use Rattle.std.proofs.Common.{◌≡◌, length}
use Rattle.std.specs.List.{All}
use Rattle.synth_parts.specs.Statement.{maps}
use Rattle.synth_parts.specs.Arms.{ArmFits, closed}
use Rattle.synth_parts.proofs.store.Left.close.Given as goal

abbrev pub invariant-loop-arm : goal.invariant-loop-arm
invariant-loop-arm l = record {
  arms : All (ArmFits l.self.signals.now) l.left;
  current : length l.other.current.now ≡ length l.self.signals.now;
  later : length l.other.later.now ≡ length l.self.signals.now;
  base : l.other.current.base ≡ l.fn.other.current.base;
  base_later : l.other.later.base ≡ l.fn.other.later.base;
  rest : closed l.self.signals.now l.fn.other.current.base l.fn.other.later.base l.fn.arms (maps l.fn.nodes l.fn.other.current.now l.fn.other.later.now)
      ≡ closed l.self.signals.now l.fn.other.current.base l.fn.other.later.base l.left (maps l.nodes l.other.current.now l.other.later.now);
}

abbrev pub decreases-loop-arm : goal.decreases-loop-arm
decreases-loop-arm l = length l.left
