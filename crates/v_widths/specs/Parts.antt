-- Parts that are joined from the left, one after another, and what the pass up gives of concatenations and replications of them.
use Rattle.std.specs.Prelude.{ℕ, zero, suc, ◌+◌, ◌*◌, ◌%◌, ◌^◌, true, false, not, ◌&&◌, ◌||◌, min, List, [], ◌∷◌, ◌++◌, Option, None, int_lt, pos}
use Rattle.std.specs.Option.{option_or}
use Rattle.loc_base.specs.declared.span.Span.{Span}
use Rattle.design_core.specs.declared.expression.Node.TheVariants as node
use Rattle.v_sizes.specs.declared.error.WidthErr.{WidthErr}
use Rattle.v_sizes.specs.declared.error.WidthErr.TheVariants as fault
use Rattle.v_sizes.specs.Literal.{limited}
use Rattle.v_sizes.specs.Refusals.{when, is_bad_width, first_of}
use Rattle.v_sizes.specs.Sized.{sized}
use Rattle.v_sizes.specs.Sizing.{known, times_of}
use Rattle.v_selects.specs.declared.closed.Closed.{Closed}
use Rattle.v_widths.specs.declared.measured.Measured.{Measured}
use Rattle.v_widths.specs.declared.measured.Parts.{Parts}
use Rattle.v_widths.specs.Measuring.{own_measured, number_of}
use Rattle.v_selects.specs.Taken.{taken}

-- a number behind another one, in 128 bits
abbrev pub behind : ℕ → ℕ → ℕ → ℕ
behind before width number = (before * 2 ^ width % 2 ^ 128 + number % 2 ^ 128) % 2 ^ 128

abbrev pub no_parts : Parts
no_parts = record { typed = []; width = 0; constant = true; number = 0; fault = None }

-- one part more on the right
abbrev pub with_part : Parts → Closed → Parts
with_part parts e =
    record { typed = parts.typed ++ e.typed ∷ []; width = min (parts.width + limited e.typed.width) 1000; constant = parts.constant && e.constant; number = behind parts.number (limited e.typed.width) (number_of e); fault = option_or parts.fault e.fault }

abbrev pub with_parts : Parts → List Closed → Parts
with_parts parts [] = parts
with_parts parts (e ∷ rest) = with_parts (with_part parts e) rest

abbrev pub joined_parts : Span → Parts → Measured
joined_parts span parts =
    own_measured (limited parts.width) false parts.constant (option_or parts.fault (when (is_bad_width parts.width) (fault.Range span) None)) parts.number
    (node.Join parts.typed)

-- a number a number of times, in 128 bits
unfoldable pub many : ℕ → ℕ → ℕ → ℕ
many zero width number = 0
many (suc times) width number = behind (many times width number) width number

-- what is wrong with a count, or with the width of the whole
abbrev pub count_fault : Span → Closed → ℕ → Option WidthErr
count_fault span count width =
    when (not count.constant) (fault.NotConstant span) (when (not (int_lt (pos 0) (known (taken count))) || is_bad_width width) (fault.Range span) None)

abbrev pub repeated_parts : Span → Closed → Parts → Measured
repeated_parts span count parts =
    let times = times_of (known (taken count)) in
    own_measured (limited (times * parts.width)) false parts.constant (first_of count.fault parts.fault (count_fault span count (times * parts.width)))
    (many times parts.width parts.number) (node.Repeat times (sized (limited parts.width) false (node.Join parts.typed)))
