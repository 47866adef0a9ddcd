use Rattle.std.proofs.Common.{drop}
use Rattle.cycle_code.specs.Program.{program_of}
use Rattle.cycle_code.specs.Fitting.{IsSound}
use Rattle.cycle_compile.specs.Carrying.{Tests, some_equal}
use Rattle.cycle_compile.proofs.case.test_labels.Given as goal

abbrev pub invariant-loop-i : goal.invariant-loop-i
invariant-loop-i l = record {
  tests : Tests (program_of l.initial.code) (program_of l.code) l.missed (some_equal l.subject (drop l.i l.labels)) l.yes l.no;
  sound : IsSound (program_of l.code);
}
