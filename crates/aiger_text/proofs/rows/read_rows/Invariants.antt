use Rattle.std.proofs.Common.{◌≡◌, ◌≤◌, length, drop}
use Rattle.aiger_text.specs.Lines.{lines}
use Rattle.aiger_text.proofs.RowSteps.{RowsSoFar}
use Rattle.aiger_text.proofs.rows.read_rows.Given as goal

abbrev pub invariant-loop-number : goal.invariant-loop-number
invariant-loop-number l = record {
  far : RowsSoFar (lines l.text) l.counts l.rows.items l.number;
  here : drop l.number (lines l.text) ≡ lines l.rest;
  shorter : length l.rest ≤ length l.text;
}
