use Rattle.std.proofs.Common.{◌≡◌, ◌≤◌, ◌-◌, ◌++◌, map}
use Rattle.std.specs.List.{range_with_len}
use Rattle.aiger_text.specs.Rows.{first_latch, first_output}
use Rattle.aiger_design.specs.Drivers.{latch_block}
use Rattle.aiger_design.proofs.file.File.blocks.Given as goal

abbrev pub invariant-loop-row : goal.invariant-loop-row
invariant-loop-row l = record {
  made : l.blocks.items ≡ l.initial.blocks.items ++ map (latch_block l.self.rows.now l.self.numbering) (range_with_len (first_latch l.self.numbering.counts) (l.row - (first_latch l.self.numbering.counts)));
  from : first_latch l.self.numbering.counts ≤ l.row;
  few : l.row - (first_latch l.self.numbering.counts) ≤ first_output l.self.numbering.counts - (first_latch l.self.numbering.counts);
}
