-- Worked examples of the definitions: wild bits, left sides, places and signals by number, and why a text is refused.
use Rattle.std.proofs.Common.{◌≡◌, ℕ, ◌+◌, List, [], ◌∷◌, refl}
use Rattle.std.specs.Prelude.{false, pos, None, Result, Ok, Err, codes, map}
use Rattle.v_syntax.specs.Bytes.{is_decimal, is_white}
use Rattle.v_syntax.specs.Numbers.{is_sign, is_wild, is_hexadecimal}
use Rattle.v_syntax.specs.Literals.{digit_value, base_of}
use Rattle.v_syntax.specs.declared.site.Site.{Site}
use Rattle.v_syntax.specs.declared.statement.AssignKind.TheVariants as assign_kind
use Rattle.v_syntax.specs.Tree.{Tree, no_select}
use Rattle.v_syntax.specs.Tree as written
use Rattle.v_syntax.specs.PartTree.{PlainLeft, name_left, concat_left, no_left, left}
use Rattle.v_syntax.specs.StatementTree.{assignment}
use Rattle.design_core.specs.declared.statement.Part.TheVariants as part
use Rattle.design_core.specs.declared.statement.Stmt.{Stmt}
use Rattle.v_sizes.specs.declared.meaning.Meaning.TheVariants as meaning
use Rattle.v_hierarchy.specs.Unrolled.{Steps, still, run, branch, nothing, step, no_step}
use Rattle.v_binding.specs.declared.error.BindErr.{BindErr}
use Rattle.v_binding.specs.declared.error.BindErr.TheVariants as fault
use Rattle.v_binding.specs.declared.known.Use.TheVariants.{Stands as stands, Outside as outside}
use Rattle.v_binding.specs.Names.{Names, known}
use Rattle.v_binding.specs.Lefts.{target}
use Rattle.v_binding.specs.Places.{Home, Placed}
use Rattle.v_binding.specs.Cases.{wild_number}
use Rattle.v_binding.specs.Statements.{bound}

-- ---- wild bits
pub a_wild_digit_is_all_its_bits : wild_number (codes "8'h1?") ≡ 15
unfolding digit_value base_of is_sign is_hexadecimal is_wild is_decimal is_white
a_wild_digit_is_all_its_bits = refl

pub a_leftmost_wild_digit_fills_the_literal : wild_number (codes "8'b?01") ≡ 252
unfolding digit_value base_of is_sign is_hexadecimal is_wild is_decimal is_white
a_leftmost_wild_digit_fills_the_literal = refl

-- ---- names: a of 4 bits is signal 0, b of 1 bit is signal 1, and i is the variable of a loop
abbrev at : ℕ → Site
at token = record { span = record { from = token; to = token + 1 }; token = token; line = 1 }

abbrev names : Names
names =
    known (codes "a") (stands (meaning.Signal 0 4 false (pos 3) (pos 0))) ∷ known (codes "b") (stands (meaning.Signal 1 1 false (pos 0) (pos 0)))
    ∷ known (codes "i") outside ∷ []

abbrev named : ℕ → List ℕ → PlainLeft
named token name = name_left (at token) name no_select

-- {b, a}
pub a_concatenation_has_its_parts_from_the_left :
    target names (concat_left (at 0) (left (named 1 (codes "b")) (left (named 2 (codes "a")) no_left)))
    ≡ Ok (record { parts = part.Whole 1 ∷ part.Whole 0 ∷ []; width = 5; named = 1 })
a_concatenation_has_its_parts_from_the_left = refl

pub an_unknown_name_is_no_left_side : target names (named 3 (codes "x")) ≡ Err (fault.UnknownName (at 3).span)
an_unknown_name_is_no_left_side = refl

pub the_variable_of_a_loop_is_no_left_side : target names (named 3 (codes "i")) ≡ Err (fault.NotConstant (at 3).span)
the_variable_of_a_loop_is_no_left_side = refl

-- ---- places
abbrev home : Home
home = record { «module» = codes "m"; path = codes "m"; item = 0 }

abbrev set_to : ℕ → List ℕ → List ℕ → Steps
set_to token target value = still (assignment (at token) (named token target) assign_kind.Blocking None (written.name (at token) value no_select))

-- begin a = b; if (b) b = a; end
abbrev two : Steps
two = run (step (set_to 1 (codes "a") (codes "b")) (step (branch (written.name (at 2) (codes "b") no_select) (set_to 3 (codes "b") (codes "a")) nothing) no_step))

abbrev sites : Result (Placed Stmt) BindErr → List ℕ
sites (Ok x) = map (λ p. p.site) x.places
sites (Err e) = []

pub each_assignment_is_a_place_in_the_order_of_the_text : sites (bound home names two []) ≡ 1 ∷ 3 ∷ []
each_assignment_is_a_place_in_the_order_of_the_text = refl

-- the left side is refused before the right side
pub the_left_side_comes_first : bound home names (set_to 5 (codes "x") (codes "y")) [] ≡ Err (fault.UnknownName (at 5).span)
the_left_side_comes_first = refl
