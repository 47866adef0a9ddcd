use Rattle.std.proofs.Common.{◌≡◌, map}
use Rattle.loc_base.specs.Bits.{value_of, width_of}
use Rattle.form_values.specs.ModelValues.{assignment_of, model_numbers, widths_of}
use Rattle.form_values.proofs.rows.rows_of.Given as goal

abbrev pub invariant-loop-moment : goal.invariant-loop-moment
invariant-loop-moment l = record {
  widths : map width_of l.rows.items ≡ widths_of l.u l.places l.moment;
  numbers : map value_of l.rows.items ≡ model_numbers (assignment_of l.model) l.u l.places l.moment;
}
