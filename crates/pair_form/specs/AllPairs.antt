-- The pairs of an unrolled form: of each place that is compared, any two cycles of all traces, the earlier one first; and the form
-- with their clauses behind its own.
use Rattle.std.specs.Prelude.{ℕ, zero, suc, ◌+◌, ◌-◌, ◌*◌, false, List, [], ◌∷◌, ◌++◌, length, map, get_or}
use Rattle.gate_base.specs.declared.literal.Literal.{Literal}
use Rattle.gate_base.specs.declared.literal.Literal.TheVariants.{Known}
use Rattle.clause_base.specs.declared.literal.Lit.{Lit}
use Rattle.suspect_map.specs.declared.group.Group.{Group}
use Rattle.unroller.specs.Unrolls.{Unrolling}
use Rattle.clause_form.specs.Clauses.{selectors_of, form_clauses}
use Rattle.form_laws.specs.Models.{column_of}
use Rattle.pair_form.specs.declared.pair.Pair.{Pair}
use Rattle.pair_form.specs.declared.compared.OutputBit.{OutputBit}
use Rattle.pair_form.specs.declared.compared.Compared.{Compared}
use Rattle.pair_form.specs.Pairs.{pairs_made, pairs_clauses}

-- the literal of a bit of an output, in the cycle of a number among all
abbrev pub operand_at : Unrolling → ℕ → OutputBit → Literal
operand_at u moment operand = get_or (get_or u.outputs (moment * u.each + operand.output) []) operand.position (Known false)

-- the literal of a bit of a place
abbrev pub bit_at : Unrolling → ℕ → ℕ → ℕ → Literal
bit_at u moment place position = get_or (get_or u.frees moment []) (column_of u.bits place position) (Known false)

-- those of so many bits of a place, from a position on
abbrev pub bits_from : Unrolling → ℕ → ℕ → ℕ → ℕ → List Literal
bits_from u moment place position zero = []
bits_from u moment place position (suc more) = bit_at u moment place position ∷ bits_from u moment place (position + 1) more

-- the selectors of the groups with a place
abbrev pub selectors_at : List Group → ℕ → List ℕ
selectors_at groups place = map (λ (l : Lit). l.var) (selectors_of groups place)

-- a place in two cycles
abbrev pub pair_at : Unrolling → List Group → Compared → ℕ → ℕ → Pair
pair_at u groups c one other = record {
  operands = map (operand_at u one) c.operands;
  operands_then = map (operand_at u other) c.operands;
  bits = bits_from u one c.place 0 c.width;
  bits_then = bits_from u other c.place 0 c.width;
  groups = selectors_at groups c.place;
}

-- a cycle with each of so many from another on
unfoldable pub pairs_with : Unrolling → List Group → Compared → ℕ → ℕ → ℕ → List Pair
pairs_with u groups c one other zero = []
pairs_with u groups c one other (suc more) = pair_at u groups c one other ∷ pairs_with u groups c one (other + 1) more

-- each of so many cycles from one on with each that comes after it among them
unfoldable pub pairs_among : Unrolling → List Group → Compared → ℕ → ℕ → List Pair
pairs_among u groups c one zero = []
pairs_among u groups c one (suc more) = pairs_with u groups c one (one + 1) more ++ pairs_among u groups c (one + 1) more

-- those of each place that is compared
unfoldable pub all_pairs : Unrolling → List Group → List Compared → List Pair
all_pairs u groups [] = []
all_pairs u groups (c ∷ compared) = pairs_among u groups c 0 (length u.ends) ++ all_pairs u groups compared

-- the clauses of the form with those of all pairs, and how many variables they have
abbrev pub function_clauses : Unrolling → List Group → ℕ → List Compared → List (List Lit)
function_clauses u groups k compared = form_clauses u groups k ++ pairs_clauses u.base u.definitions (all_pairs u groups compared)

abbrev pub function_variables : Unrolling → List Group → List Compared → ℕ
function_variables u groups compared = u.base - 1 + length (pairs_made u.definitions (all_pairs u groups compared))
