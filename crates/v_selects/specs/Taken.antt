-- What a finished operand shows to the expression in which it stands: its width and sign, whether it is a constant, and the
-- number that it then is.
use Rattle.std.specs.Prelude.{◌%◌, ◌^◌}
use Rattle.v_sizes.specs.Literal.{limited}
use Rattle.v_sizes.specs.Sizing.{Sizing}
use Rattle.v_selects.specs.declared.closed.Closed.{Closed}
use Rattle.v_selects.specs.Folding.{number_in}

abbrev pub taken : Closed → Sizing
taken e =
    record { width = limited e.typed.width; signed = e.typed.signed; constant = e.constant; value = λ _ _ _. number_in e.typed % 2 ^ limited e.typed.width }
