-- Connections of instances (IEEE 1364-2005, 12.3.9), left sides in a range that ascends (4.3.1), and start values (6.2.1, 9.9.1).
use Rattle.std.proofs.Common.{◌≡◌, ℕ, List, [], ◌∷◌, map, refl}
use Rattle.std.specs.Prelude.{Bool, true, false, Option, Some, None, Result, Ok, Err, codes}
use Rattle.loc_base.specs.Bits.{value_of, width_of}
use Rattle.v_syntax.specs.Bytes.{is_decimal, is_white}
use Rattle.v_syntax.specs.Numbers.{is_sign, is_wild, is_hexadecimal}
use Rattle.v_syntax.specs.Literals.{digit_value, base_of}
use Rattle.v_syntax.specs.declared.statement.AssignKind.TheVariants as assign_kind
use Rattle.v_syntax.specs.Tree.{Tree, Selections, no_select, select}
use Rattle.v_syntax.specs.Tree as written
use Rattle.v_syntax.specs.PartTree.{name_left}
use Rattle.v_syntax.specs.StatementTree.{assignment}
use Rattle.design_core.specs.declared.expression.Typed.{Typed}
use Rattle.design_core.specs.declared.expression.Node.TheVariants as node
use Rattle.design_core.specs.declared.statement.Part.TheVariants as part
use Rattle.design_core.specs.declared.driver.Driver.{Driver}
use Rattle.design_core.specs.declared.driver.Driver.TheVariants as driver
use Rattle.v_sizes.specs.Sized.{sized}
use Rattle.v_sizes.specs.Word.{word}
use Rattle.v_binding.specs.declared.error.BindErr.{BindErr}
use Rattle.v_binding.specs.declared.error.BindErr.TheVariants as fault
use Rattle.v_binding.specs.Expressions.{by_itself}
use Rattle.v_binding.specs.Lefts.{target}
use Rattle.v_binding.specs.Starts.{Start, Initial}
use Rattle.v_binding.specs.Bound.{Bound}
use Rattle.v_binding.specs.Assignments.{start_at, initial_block}
use Rattle.v_binding.specs.Connections.{Socket, wire_at, connection}
use Rattle.binding_examples.proofs.Scene.{at, span, names, frame, home, nothing_yet, named, number, drivers_of, refused}

-- a port of a child: p is its signal 8
abbrev port : Bool → ℕ → Socket
port input width = record { name = codes "p"; input = input; signal = 8; width = width; signed = false }

-- .p(E)
abbrev connected : Socket → Tree → Result Bound BindErr
connected p e = connection frame home names 0 p (Some (wire_at e)) nothing_yet

-- ---- an input takes the value of an expression: wider it is filled with zeros, narrower it keeps the lowest bits
abbrev into : Typed → Driver
into value = driver.Cont (record { parts = part.Whole 8 ∷ [] }) value None (span 1)

pub a_narrow_value_is_extended_to_a_wide_input : drivers_of (connected (port true 4) (named 1 (codes "y"))) ≡ into (sized 4 false (node.Resize (sized 1 false (node.Whole 5)))) ∷ []
a_narrow_value_is_extended_to_a_wide_input = refl

pub a_wide_value_meets_a_narrow_input : drivers_of (connected (port true 1) (named 1 (codes "w"))) ≡ into (sized 4 false (node.Whole 6)) ∷ []
a_wide_value_meets_a_narrow_input = refl

-- an input of the top is handed on by its plain name
abbrev roots_of : Result Bound BindErr → List (ℕ × ℕ)
roots_of (Ok b) = map (λ r. (r.signal, r.input)) b.roots
roots_of (Err _) = []

pub the_clock_is_handed_on : roots_of (connected (port true 1) (named 1 (codes "clk"))) ≡ (0, 0) ∷ (1, 1) ∷ (2, 2) ∷ (3, 3) ∷ (8, 0) ∷ []
the_clock_is_handed_on = refl

-- ---- an output is assigned to a left side, and is a place
abbrev out_of : ℕ → Typed → Driver
out_of signal value = driver.Cont (record { parts = part.Whole signal ∷ [] }) value (Some 0) (span 1)

pub a_narrow_output_is_extended_to_a_wide_net : drivers_of (connected (port false 1) (named 1 (codes "w"))) ≡ out_of 6 (sized 4 false (node.Resize (sized 1 false (node.Whole 8)))) ∷ []
a_narrow_output_is_extended_to_a_wide_net = refl

pub a_wide_output_meets_a_narrow_net : drivers_of (connected (port false 4) (named 1 (codes "y"))) ≡ out_of 5 (sized 4 false (node.Whole 8)) ∷ []
a_wide_output_meets_a_narrow_net = refl

pub an_output_to_no_left_side_is_refused : refused (connected (port false 1) (written.parens (at 1) (named 2 (codes "y")))) ≡ Some (fault.PortName (span 1))
an_output_to_no_left_side_is_refused = refl

pub an_input_without_a_value_has_no_driver : drivers_of (connection frame home names 0 (port true 1) None nothing_yet) ≡ []
an_input_without_a_value_has_no_driver = refl

-- ---- u [0:3]: u[0] is its leftmost bit, bit 3 of its value
abbrev bit_at : List ℕ → Selections
bit_at text = select (written.bit (at 2) (number 3 text)) no_select

pub the_first_of_an_ascending_range_is_the_leftmost_bit :
    (target names (name_left (at 1) (codes "u") (bit_at (codes "0"))) ≡ Ok (record { parts = part.Slice 7 3 1 ∷ []; width = 1; named = 7 }))
    × (by_itself names (written.name (at 1) (codes "u") (bit_at (codes "0"))) ≡ Ok (sized 1 false (node.Slice 7 3 1)))
unfolding digit_value base_of is_sign is_hexadecimal is_wild is_decimal is_white
the_first_of_an_ascending_range_is_the_leftmost_bit = (refl, refl)

pub the_first_of_a_descending_range_is_the_rightmost_bit :
    target names (name_left (at 1) (codes "w") (bit_at (codes "0"))) ≡ Ok (record { parts = part.Slice 6 0 1 ∷ []; width = 1; named = 6 })
unfolding digit_value base_of is_sign is_hexadecimal is_wild is_decimal is_white
the_first_of_a_descending_range_is_the_rightmost_bit = refl

-- ---- start values: of a declaration, and of an initial block
abbrev shown : Start → ℕ × (ℕ × ℕ)
shown s = (s.signal, (width_of s.value, value_of s.value))

abbrev declared_in : Result Bound BindErr → List (ℕ × (ℕ × ℕ))
declared_in (Ok b) = map shown b.declared
declared_in (Err _) = []

abbrev initial_in : Result Bound BindErr → List (ℕ × (ℕ × ℕ))
initial_in (Ok b) = map (λ i. shown i.start) b.initial
initial_in (Err _) = []

pub a_start_value_has_the_width_of_its_register : declared_in (start_at names (codes "q") (number 1 (codes "3")) nothing_yet) ≡ (4, (1, 1)) ∷ []
unfolding digit_value base_of is_sign is_hexadecimal is_wild is_decimal is_white word
a_start_value_has_the_width_of_its_register = refl

pub an_initial_block_gives_a_start_value :
    initial_in (initial_block names (assignment (at 1) (name_left (at 1) (codes "q") no_select) assign_kind.Blocking None (number 2 (codes "1'b1"))) nothing_yet) ≡ (4, (1, 1)) ∷ []
unfolding digit_value base_of is_sign is_hexadecimal is_wild is_decimal is_white word
an_initial_block_gives_a_start_value = refl

pub a_start_value_is_a_constant : refused (start_at names (codes "q") (named 1 (codes "a")) nothing_yet) ≡ Some (fault.NotConstant (span 1))
a_start_value_is_a_constant = refl
