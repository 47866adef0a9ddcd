use Rattle.std.proofs.Common.{◌≡◌, drop, length}
use Rattle.synth_parts.specs.Statement.{maps}
use Rattle.synth_parts.specs.Rows.{rows_merged}
use Rattle.synth_parts.proofs.merge.merge.Given as goal

abbrev pub invariant-loop-i : goal.invariant-loop-i
invariant-loop-i l = record {
  current : length l.other.current.now ≡ length l.signals;
  later : length l.other.later.now ≡ length l.signals;
  base : l.other.current.base ≡ l.fn.other.current.base;
  base_later : l.other.later.base ≡ l.fn.other.later.base;
  rest : rows_merged l.signals l.test l.arm.current l.arm.later (maps l.fn.nodes l.fn.other.current.now l.fn.other.later.now)
      ≡ rows_merged l.signals l.test (drop l.i l.arm.current) (drop l.i l.arm.later) (maps l.nodes l.other.current.now l.other.later.now);
}
