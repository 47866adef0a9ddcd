use Rattle.std.proofs.Common.{◌≡◌, ◌≤◌, ◌-◌, ◌++◌, map}
use Rattle.std.specs.List.{range_with_len}
use Rattle.aiger_text.specs.Rows.{first_output, first_and}
use Rattle.aiger_design.specs.Drivers.{output_driver}
use Rattle.aiger_design.proofs.file.File.push_outputs.Given as goal

abbrev pub invariant-loop-row : goal.invariant-loop-row
invariant-loop-row l = record {
  made : l.drivers.items ≡ l.initial.drivers.items ++ map (output_driver l.self.rows.now l.self.numbering) (range_with_len (first_output l.self.numbering.counts) (l.row - (first_output l.self.numbering.counts)));
  from : first_output l.self.numbering.counts ≤ l.row;
  few : l.row - (first_output l.self.numbering.counts) ≤ first_and l.self.numbering.counts - (first_output l.self.numbering.counts);
}
