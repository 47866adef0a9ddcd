use Rattle.std.proofs.Common.{◌≡◌}
use Rattle.form_values.specs.Places.{columns_to}
use Rattle.form_values.proofs.columns.columns_to.Given as goal

abbrev pub invariant-loop-bit : goal.invariant-loop-bit
invariant-loop-bit l = l.columns ≡ columns_to l.u.bits l.place l.bit
