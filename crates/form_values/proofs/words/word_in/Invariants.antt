use Rattle.std.proofs.Common.{◌≡◌}
use Rattle.design_core.specs.Valuation.{number}
use Rattle.form_values.specs.ModelValues.{assignment_of}
use Rattle.form_values.specs.Places.{column_bit}
use Rattle.form_values.proofs.words.word_in.Given as goal

abbrev pub invariant-loop-bit : goal.invariant-loop-bit
invariant-loop-bit l = l.value ≡ number l.bit (column_bit (assignment_of l.model) l.u l.moment l.columns)
