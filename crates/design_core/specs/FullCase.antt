-- Which case statements take an item whatever the value of their subject is (IEEE 1364-2005, 9.5): those of at most
-- 8 bits for each value of which some item has a constant label that is equal to it.
use Rattle.std.specs.Prelude.{ℕ, zero, suc, ◌^◌, Bool, true, false, ◌&&◌, ◌||◌, nat_le, List}
use Rattle.std.specs.List.{list_any}
use Rattle.design_core.specs.declared.signal.Signal.{Signal}
use Rattle.design_core.specs.declared.expression.Typed.{Typed}
use Rattle.design_core.specs.declared.expression.Node.{Node, end_of-Typed, more_of-Typed}
use Rattle.design_core.specs.declared.expression.Node.TheVariants.{Resize'}
use Rattle.design_core.specs.declared.statement.Label.{Label}
use Rattle.design_core.specs.declared.statement.Stmt.{Row_of-CaseItem, end_of-CaseItem, more_of-CaseItem}
use Rattle.design_core.specs.Operator.{resized}
use Rattle.design_core.specs.Constant.{is_constant, zeros}
use Rattle.design_core.specs.After.{matches}

-- whether each number below a bound passes a test
unfoldable pub all_below : ℕ → (ℕ → Bool) → Bool
all_below zero test = true
all_below (suc n) test = test n && all_below n test

-- the number of bits that decide a value: where an operand is carried to the width, those of the operand
abbrev pub deciding_bits : ℕ → Node → ℕ
deciding_bits width (Resize' _ (more_of-Typed arg_width _ _ end_of-Typed)) = arg_width
deciding_bits width _ = width

-- the value by the number that these bits mean
abbrev pub decided : ℕ → Node → ℕ → ℕ
decided width (Resize' _ (more_of-Typed arg_width signed _ end_of-Typed)) n = resized width signed arg_width n
decided width _ n = n

-- whether a label is a constant that is equal to the subject outside its wild bits
abbrev pub constant_matches : List Signal → ℕ → Label → Bool
constant_matches signals subject label = is_constant label.value.node && matches signals zeros subject label

-- whether some item has such a label
abbrev pub some_matches : {shape : _} → List Signal → ℕ → Row_of-CaseItem shape → Bool
some_matches signals subject end_of-CaseItem = false
some_matches signals subject (more_of-CaseItem labels _ rest) =
    list_any (constant_matches signals subject) labels || some_matches signals subject rest

-- whether some item has one for each value of the subject
abbrev pub is_full : {shape : _} → List Signal → Typed → Row_of-CaseItem shape → Bool
is_full signals subject items =
    let bits = deciding_bits subject.width subject.node in
    nat_le bits 8 && all_below (2 ^ bits) (λ n. some_matches signals (decided subject.width subject.node n) items)
