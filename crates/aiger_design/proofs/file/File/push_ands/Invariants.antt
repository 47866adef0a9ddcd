use Rattle.std.proofs.Common.{◌≡◌, ◌≤◌, ◌-◌, ◌++◌, map}
use Rattle.std.specs.List.{range_with_len}
use Rattle.aiger_text.specs.Rows.{first_and, row_count}
use Rattle.aiger_design.specs.Drivers.{and_driver}
use Rattle.aiger_design.proofs.file.File.push_ands.Given as goal

abbrev pub invariant-loop-row : goal.invariant-loop-row
invariant-loop-row l = record {
  made : l.drivers.items ≡ l.initial.drivers.items ++ map (and_driver l.self.rows.now l.self.numbering) (range_with_len (first_and l.self.numbering.counts) (l.row - (first_and l.self.numbering.counts)));
  from : first_and l.self.numbering.counts ≤ l.row;
  few : l.row - (first_and l.self.numbering.counts) ≤ row_count l.self.numbering.counts - (first_and l.self.numbering.counts);
}
