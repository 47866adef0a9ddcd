use Rattle.std.proofs.Common.{◌≡◌, ◌≤◌, ◌-◌, ◌++◌, map}
use Rattle.std.specs.List.{range_with_len}
use Rattle.aiger_text.specs.Rows.{first_latch, first_output}
use Rattle.aiger_design.specs.Drivers.{latch_place}
use Rattle.aiger_design.proofs.file.File.push_latch_places.Given as goal

abbrev pub invariant-loop-row : goal.invariant-loop-row
invariant-loop-row l = record {
  made : l.places.items ≡ l.initial.places.items ++ map (latch_place l.self.numbering l.top) (range_with_len (first_latch l.self.numbering.counts) (l.row - (first_latch l.self.numbering.counts)));
  from : first_latch l.self.numbering.counts ≤ l.row;
  few : l.row - (first_latch l.self.numbering.counts) ≤ first_output l.self.numbering.counts - (first_latch l.self.numbering.counts);
}
