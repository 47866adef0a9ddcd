use Rattle.std.proofs.Common.{◌≡◌}
use Rattle.v_widths.specs.Parts.{many}
use Rattle.v_widths.proofs.parts.many.Given as goal

abbrev pub invariant-loop : goal.invariant-loop
invariant-loop l = record {
  value : l.value ≡ many l.counter l.width l.number;
}
