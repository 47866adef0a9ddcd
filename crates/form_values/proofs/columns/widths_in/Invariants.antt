use Rattle.std.proofs.Common.{◌≡◌, ℕ, get_or, take}
use Rattle.form_values.specs.ModelValues.{width_in}
use Rattle.form_values.proofs.columns.widths_in.Given as goal

abbrev pub invariant-loop-i : goal.invariant-loop-i
invariant-loop-i l = (p : ℕ) → get_or l.widths p 0 ≡ width_in (take l.i l.bits) p
