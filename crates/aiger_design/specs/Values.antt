-- What literals mean: 0 is false, 1 is true, an even literal is the signal of its variable, an odd one its negation.
use Rattle.std.specs.Prelude.{ℕ, ◌%◌, ◌==◌, nat_lt, false, if◌then◌else◌, List, slice_get}
use Rattle.std.specs.Option.{option_map_or}
use Rattle.design_core.specs.declared.expression.UnaryOp.TheVariants.{Not}
use Rattle.design_core.specs.declared.expression.BinaryOp.TheVariants as binary_op
use Rattle.design_core.specs.declared.expression.Typed.{Typed}
use Rattle.design_core.specs.declared.expression.Node.{Node}
use Rattle.design_core.specs.declared.expression.Node.TheVariants.{Const, Whole, Unary, Binary}
use Rattle.aiger_text.specs.declared.row.Row.{Row}
use Rattle.aiger_text.specs.declared.row.Row.TheVariants as row
use Rattle.aiger_rules.specs.Literals.{definer, even}
use Rattle.aiger_design.specs.declared.numbering.Numbering.{Numbering}
use Rattle.aiger_design.specs.Numbering.{row_signal}
use Rattle.aiger_design.specs.Signals.{bit_word}

-- an expression of one bit
abbrev pub bit_of : Node → Typed
bit_of n = record { width = 1; signed = false; node = n }

-- the value of a literal's variable: the signal of the row that defines it
abbrev pub variable : List Row → Numbering → ℕ → Typed
variable rows n literal = bit_of (Whole (option_map_or (row_signal n) (definer rows (even literal)) 0))

-- the value of a literal
abbrev pub value : List Row → Numbering → ℕ → Typed
value rows n literal =
    if nat_lt literal 2 then bit_of (Const (bit_word (literal == 1)))
    else if literal % 2 == 1 then bit_of (Unary Not (variable rows n literal))
    else variable rows n literal

-- what a row reads first and second; 0 where it reads less
abbrev pub first_read : Row → ℕ
first_read (row.Input literal) = 0
first_read (row.Latch literal next) = next
first_read (row.Output literal) = literal
first_read (row.And literal left right) = left

abbrev pub second_read : Row → ℕ
second_read (row.Input literal) = 0
second_read (row.Latch literal next) = 0
second_read (row.Output literal) = 0
second_read (row.And literal left right) = right

-- the values of what the row of a number reads
abbrev pub first_value : List Row → Numbering → ℕ → Typed
first_value rows n number = value rows n (option_map_or first_read (slice_get rows number) 0)

abbrev pub second_value : List Row → Numbering → ℕ → Typed
second_value rows n number = value rows n (option_map_or second_read (slice_get rows number) 0)

-- the AND of both
abbrev pub and_value : List Row → Numbering → ℕ → Typed
and_value rows n number = bit_of (Binary binary_op.And (first_value rows n number) (second_value rows n number))
