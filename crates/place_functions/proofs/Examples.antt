-- Worked examples of operands and of bound places, on small designs written down by hand. The path of a signal, its start value
-- and where lists lie in memory stand for any.
use Rattle.std.proofs.Common.{◌≡◌, ℕ, List, [], ◌∷◌, refl, lit<, lit≤}
use Rattle.std.specs.Prelude.{Bool, true, false, pos, Some, None, Option}
use Rattle.loc_base.specs.declared.span.Span.{Span}
use Rattle.design_core.specs.declared.signal.Signal.{Signal}
use Rattle.design_core.specs.declared.signal.SignalKind.TheVariants as kind
use Rattle.design_core.specs.declared.expression.Node.{end_of-Typed, more_of-Typed}
use Rattle.design_core.specs.declared.expression.BinaryOp.TheVariants as binary_op
use Rattle.design_core.specs.declared.expression.Typed.{Typed}
use Rattle.design_core.specs.declared.expression.Node.TheVariants as node
use Rattle.design_core.specs.declared.statement.Part.{Part}
use Rattle.design_core.specs.declared.statement.Part.TheVariants as part
use Rattle.design_core.specs.declared.statement.Stmt.{Stmt, end_of-Stmt, more_of-Stmt}
use Rattle.design_core.specs.declared.statement.Stmt.TheVariants as stmt
use Rattle.design_core.specs.declared.driver.Driver.{Driver}
use Rattle.design_core.specs.declared.driver.Driver.TheVariants as driver
use Rattle.design_core.specs.declared.driver.Reset.{Reset}
use Rattle.design_core.specs.declared.design.Design.{Design}
use Rattle.design_core.proofs.Examples.{Any, vec, declared, scalar}
use Rattle.place_functions.specs.Operands.{operands_of, is_own, is_bound}
use Rattle.place_functions.proofs.Passing.{bit_at}

-- ---- the signals: the clock, a, b and y of one bit, and v and w of four
abbrev signals : Any → List Signal
signals any =
    scalar any kind.Input ∷ scalar any kind.Input ∷ scalar any kind.Reg ∷ scalar any kind.Reg
    ∷ declared any 4 (pos 3) (pos 0) kind.Reg ∷ declared any 4 (pos 3) (pos 0) kind.Reg ∷ []

abbrev a : ℕ
a = 1

abbrev b : ℕ
b = 2

abbrev y : ℕ
y = 3

abbrev v : ℕ
v = 4

abbrev w : ℕ
w = 5

abbrev bit_of : ℕ → Typed
bit_of signal = record { width = 1; signed = false; node = node.Whole signal }

abbrev both : Typed → Typed → Typed
both one other =
    record {
      width = 1;
      signed = false;
      node = node.Binary' binary_op.And _ (more_of-Typed one.width one.signed one.node end_of-Typed) _ (more_of-Typed other.width other.signed other.node end_of-Typed);
    }

abbrev zero_bit : Typed
zero_bit = record { width = 1; signed = false; node = node.Const (record { width = 1; value = 0; at_least_one = lit≤ tt; at_most_128 = lit≤ tt; in_range = lit< tt }) }

-- an assignment of a place to one part: by `<=` where the last is true
abbrev set : ℕ → Part → Typed → Bool → Stmt
set place left value later = stmt.Set place (record { parts = left ∷ [] }) value later

abbrev in_turn : Stmt → Stmt → Stmt
in_turn first second = stmt.Block' (tt ∷ tt ∷ []) (more_of-Stmt first (more_of-Stmt second end_of-Stmt))

abbrev when : Typed → Stmt → Stmt
when test on_true = stmt.If' test _ (more_of-Stmt on_true end_of-Stmt) _ (more_of-Stmt stmt.Nothing end_of-Stmt)

-- a design of these signals with one clocked block
abbrev clocked : Any → Option Reset → Stmt → Design
clocked any reset body = record {
  signals = vec any (signals any) (lit< tt);
  drivers = vec any [] (lit< tt);
  clocked = vec any (record { reset = reset; body = body } ∷ []) (lit< tt);
  places = vec any [] (lit< tt);
  inputs = vec any (a ∷ []) (lit< tt);
  outputs = vec any [] (lit< tt);
}

-- and one with one driver
abbrev driven : Any → Driver → Design
driven any one = record {
  signals = vec any (signals any) (lit< tt);
  drivers = vec any (one ∷ []) (lit< tt);
  clocked = vec any [] (lit< tt);
  places = vec any [] (lit< tt);
  inputs = vec any (a ∷ []) (lit< tt);
  outputs = vec any [] (lit< tt);
}

-- ---- operands
-- y <= v[2:1]; reads these two bits, in their order
pub a_part_select_reads_its_bits : (any : Any) →
    operands_of (clocked any None (set 0 (part.Whole y) (record { width = 2; signed = false; node = node.Slice v 1 2 }) true)) 0
    ≡ bit_at v 1 ∷ bit_at v 2 ∷ []
a_part_select_reads_its_bits any = refl

-- y <= b & a; reads a and then b, by their numbers
pub operands_stand_by_their_numbers : (any : Any) →
    operands_of (clocked any None (set 0 (part.Whole y) (both (bit_of b) (bit_of a)) true)) 0 ≡ bit_at a 0 ∷ bit_at b 0 ∷ []
operands_stand_by_their_numbers any = refl

-- if (b) y <= a; where the place stands under a condition, the condition is no operand
pub a_condition_is_no_operand : (any : Any) → operands_of (clocked any None (when (bit_of b) (set 0 (part.Whole y) (bit_of a) true))) 0 ≡ bit_at a 0 ∷ []
a_condition_is_no_operand any = refl

-- w[v] <= a; the index of the left side is no operand
pub an_index_on_the_left_is_no_operand : (any : Any) →
    operands_of (clocked any None (set 0 (part.Pick w (record { width = 4; signed = false; node = node.Whole v }) (pos 0 ∷ [])) (bit_of a) true)) 0 ≡ bit_at a 0 ∷ []
an_index_on_the_left_is_no_operand any = refl

-- y <= v[a]; by a variable index all bits are
pub all_bits_by_a_variable_index : (any : Any) →
    operands_of (clocked any None (set 0 (part.Whole y) (record { width = 1; signed = false; node = node.Pick' v _ (more_of-Typed 1 false (node.Whole a) end_of-Typed) (pos 0 ∷ []) }) true)) 0
    ≡ bit_at a 0 ∷ bit_at v 0 ∷ bit_at v 1 ∷ bit_at v 2 ∷ bit_at v 3 ∷ []
all_bits_by_a_variable_index any = refl

-- y <= 1'b0; in a reset's values reads nothing
pub a_reset_value_has_no_operand : (any : Any) →
    operands_of (clocked any (Some (record { signal = a; level = true; values = set 1 (part.Whole y) zero_bit true })) (set 0 (part.Whole y) (bit_of b) true)) 1 ≡ []
a_reset_value_has_no_operand any = refl

-- assign y = b; a continuous assignment with a place, and one without
pub a_continuous_assignment_has_its_right_side : (any : Any) (span : Span) →
    (operands_of (driven any (driver.Cont (record { parts = part.Whole y ∷ [] }) (bit_of b) (Some 0) span)) 0 ≡ bit_at b 0 ∷ [])
    × (operands_of (driven any (driver.Cont (record { parts = part.Whole y ∷ [] }) (bit_of b) None span)) 0 ≡ [])
a_continuous_assignment_has_its_right_side any span = (refl, refl)

-- ---- bound places
-- begin b = a; y = b; end: the block assigns b by `=`, so the second place isn't bound, and the first is
pub what_reads_its_own_block_is_not_bound : (any : Any) (span : Span) →
    let d = driven any (driver.Comb (in_turn (set 0 (part.Whole b) (bit_of a) false) (set 1 (part.Whole y) (bit_of b) false)) span) in
    (is_bound d 0 ≡ true) × (is_bound d 1 ≡ false)
what_reads_its_own_block_is_not_bound any span = (refl, refl)

-- begin y = b; b = a; end: nor where the assignment comes later in the block
pub an_assignment_behind_it_counts_too : (any : Any) →
    is_bound (clocked any None (in_turn (set 0 (part.Whole y) (bit_of b) false) (set 1 (part.Whole b) (bit_of a) false))) 0 ≡ false
an_assignment_behind_it_counts_too any = refl

-- begin b <= a; y <= b; end: what is assigned by `<=` is read as the cycle shows it
pub a_nonblocking_assignment_binds : (any : Any) →
    is_bound (clocked any None (in_turn (set 0 (part.Whole b) (bit_of a) true) (set 1 (part.Whole y) (bit_of b) true))) 1 ≡ true
a_nonblocking_assignment_binds any = refl

-- if (a) b = 0; else y <= b; as a reset and its block: the reset's values are of the block
pub the_values_of_a_reset_are_of_its_block : (any : Any) →
    is_bound (clocked any (Some (record { signal = a; level = true; values = set 1 (part.Whole b) zero_bit false })) (set 0 (part.Whole y) (bit_of b) true)) 0 ≡ false
the_values_of_a_reset_are_of_its_block any = refl

-- assign y = y & b; a continuous assignment is bound, whatever it reads
pub a_continuous_assignment_is_bound : (any : Any) (span : Span) →
    let d = driven any (driver.Cont (record { parts = part.Whole y ∷ [] }) (both (bit_of y) (bit_of b)) (Some 0) span) in
    (is_own d 0 y ≡ false) × (is_bound d 0 ≡ true)
a_continuous_assignment_is_bound any span = (refl, refl)
