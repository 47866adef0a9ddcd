-- What the private contract of `taking_of` uses: the code's ways to take two operands, as the table's.
use Rattle.v_widths.specs.declared.operators.Taking.{Taking}
use Rattle.v_widths.specs.declared.operators.Taking.TheVariants as taking
use Rattle.v_sizes.specs.Operations.{Class, by_context, shift, comparison, logical, quotient, remainder, power}

abbrev pub class_in : Taking → Class
class_in (taking.ByContext op) = by_context op
class_in (taking.Shift op) = shift op
class_in (taking.Comparison op) = comparison op
class_in (taking.Logical op) = logical op
class_in taking.Quotient = quotient
class_in taking.Remainder = remainder
class_in taking.Power = power
