use Rattle.std.proofs.Common.{◌≡◌, ◌++◌, length, map, take}
use Rattle.loc_base.specs.Bits.{value_of, width_of}
use Rattle.form_values.specs.ModelValues.{assignment_of}
use Rattle.form_values.specs.Places.{columns_number}
use Rattle.form_values.proofs.words.push_row.Given as goal

abbrev pub invariant-loop-i : goal.invariant-loop-i
invariant-loop-i l = record {
  widths : map width_of l.rows.items ≡ map width_of l.fn.rows.items ++ map length (take l.i l.columns);
  numbers : map value_of l.rows.items
      ≡ map value_of l.fn.rows.items ++ map (columns_number (assignment_of l.model) l.u l.moment) (take l.i l.columns);
}
