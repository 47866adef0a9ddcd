use Rattle.std.proofs.Common.{drop}
use Rattle.cycle_code.specs.Program.{program_of}
use Rattle.cycle_code.specs.Fitting.{IsSound}
use Rattle.cycle_compile.specs.Carrying.{Carries, list_left, TakesFirst}
use Rattle.cycle_compile.proofs.statement.+carry.Given as goal

abbrev pub invariant-carry_out_all-loop-i : goal.invariant-carry_out_all-loop-i
invariant-carry_out_all-loop-i l = record {
  carries : Carries (program_of l.initial.code) (program_of l.code) (list_left (drop l.i l.statements));
  sound : IsSound (program_of l.code);
}

abbrev pub invariant-carry_out_items-loop-i : goal.invariant-carry_out_items-loop-i
invariant-carry_out_items-loop-i l = record {
  takes : TakesFirst (program_of l.initial.code) (program_of l.code) l.next l.subject (drop l.i l.items);
  sound : IsSound (program_of l.code);
}
