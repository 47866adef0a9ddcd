-- What the pass up gives of names with their selects, of concatenations, replications and logarithms, from what it gave of
-- their operands: the definitions of their sizes, said of the finished operands.
use Rattle.std.specs.Prelude.{Bool, true, false, List, [], ◌∷◌, map, Option, None}
use Rattle.std.specs.Option.{option_or}
use Rattle.loc_base.specs.declared.span.Span.{Span}
use Rattle.v_syntax.specs.declared.operator.SystemFunction.TheVariants as function
use Rattle.design_core.specs.declared.expression.Typed.{Typed}
use Rattle.design_core.specs.declared.expression.Node.TheVariants as node
use Rattle.design_core.specs.Constant.{zeros}
use Rattle.v_sizes.specs.declared.error.WidthErr.{WidthErr}
use Rattle.v_sizes.specs.declared.meaning.Meaning.{Meaning}
use Rattle.v_sizes.specs.Operations.{ceiling_of_logarithm}
use Rattle.v_sizes.specs.Refusals.{concat_fault, repeat_fault, called_fault, first_of}
use Rattle.v_sizes.specs.Sized.{sized}
use Rattle.v_sizes.specs.Sizing.{own, known, times_of, joined_width, joined, replicated}
use Rattle.v_selects.specs.declared.closed.Closed.{Closed}
use Rattle.v_widths.specs.declared.measured.Measured.{Measured}
use Rattle.v_selects.specs.declared.closed.Picked.{Picked}
use Rattle.v_selects.specs.Named.{named_leaf}
use Rattle.v_selects.specs.Taken.{taken}
use Rattle.v_widths.specs.Measuring.{leaf_measured, own_measured, number_of}

-- the leftmost fault of several parts
abbrev pub faults_in : List Closed → Option WidthErr
faults_in [] = None
faults_in (one ∷ rest) = option_or one.fault (faults_in rest)

abbrev pub typed_in : Closed → Typed
typed_in e = e.typed

-- a name with its selects
abbrev pub named : Span → Bool → Option Meaning → List Picked → Measured
named span only meaning selects = leaf_measured (named_leaf span only meaning selects)

abbrev pub joined_measured : Span → List Closed → Measured
joined_measured span parts =
    let e = joined (map taken parts) in
    own_measured e.width false e.constant (option_or (faults_in parts) (concat_fault span (map taken parts))) (own e zeros) (node.Join (map typed_in parts))

abbrev pub repeated_measured : Span → Closed → List Closed → Measured
repeated_measured span count parts =
    let es = map taken parts in
    let e = replicated (taken count) es in
    own_measured e.width false e.constant (first_of count.fault (faults_in parts) (repeat_fault span (taken count) es)) (own e zeros)
    (node.Repeat (times_of (known (taken count))) (sized (joined_width es) false (node.Join (map typed_in parts))))

abbrev pub logarithm_measured : Span → Closed → Measured
logarithm_measured span argument =
    own_measured 32 true argument.constant (option_or argument.fault (called_fault span function.Clog2 (taken argument)))
    (ceiling_of_logarithm (number_of argument)) (node.Whole 0)
