use Rattle.std.proofs.Common.{◌≡◌, ◌≤◌, ◌-◌, ◌++◌, map}
use Rattle.std.specs.List.{range_with_len}
use Rattle.aiger_design.specs.Signals.{row_signal_of}
use Rattle.aiger_design.proofs.file.File.push_rows.Given as goal

abbrev pub invariant-loop-number : goal.invariant-loop-number
invariant-loop-number l = record {
  made : l.signals.items ≡ l.initial.signals.items ++ map (row_signal_of l.self.rows.now l.of.kind l.of.letter) (range_with_len (l.of.from) (l.number - (l.of.from)));
  from : l.of.from ≤ l.number;
  few : l.number - (l.of.from) ≤ l.of.to - (l.of.from);
}
