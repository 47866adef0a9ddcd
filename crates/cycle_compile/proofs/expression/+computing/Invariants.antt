use Rattle.std.proofs.Common.{◌≡◌, ◌+◌, ◌<◌, ◌≤◌, length, take, IsTrue}
use Rattle.plain_values.specs.Evaluate.{parts_sum}
use Rattle.cycle_code.specs.Program.{Program, program_of, Grown}
use Rattle.cycle_code.specs.Cells.{width_in}
use Rattle.cycle_code.specs.Fitting.{is_own, IsSound}
use Rattle.cycle_compile.specs.Computing.{Joins}
use Rattle.cycle_compile.proofs.expression.+computing.Given as goal

abbrev pub invariant-join-loop-count : goal.invariant-join-loop-count
invariant-join-loop-count l = record {
  sound : IsSound (program_of l.code);
  grown : Grown (program_of l.fn.code) (program_of l.code);
  within : l.count < length l.parts;
  sum : parts_sum (take (l.count + 1) l.parts) ≡ l.left;
  most : l.left ≤ 128;
  own : IsTrue (is_own (program_of l.code) l.to);
  size : width_in (program_of l.code).widths l.to ≡ l.left;
  serves : (last : Program) → Joins (program_of l.code) last (take (l.count + 1) l.parts) l.to
      → Joins (program_of l.fn.code) last l.parts l.cell;
}

abbrev pub decreases-join-loop-count : goal.decreases-join-loop-count
decreases-join-loop-count l = l.count
