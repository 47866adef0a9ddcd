-- Worked examples of what places compute, and of what values change.
use Rattle.std.proofs.Common.{◌≡◌, ℕ, ◌^◌, ◌<◌, ◌≤◌, List, [], ◌∷◌, refl, lit<, lit≤}
use Rattle.std.specs.Prelude.{Bool, true, false, Some, None, option_map}
use Rattle.loc_base.specs.declared.bits.Bits.{Bits}
use Rattle.design_core.specs.declared.signal.Signal.{Signal}
use Rattle.design_core.specs.declared.signal.SignalKind.TheVariants as kind
use Rattle.design_core.specs.declared.expression.Typed.{Typed}
use Rattle.design_core.specs.declared.expression.Node.TheVariants as node
use Rattle.design_core.specs.declared.statement.Part.TheVariants as part
use Rattle.design_core.specs.declared.statement.Stmt.{Stmt, end_of-Stmt, more_of-Stmt}
use Rattle.design_core.specs.declared.statement.Stmt.TheVariants as stmt
use Rattle.design_core.specs.declared.driver.Clocked.{Clocked}
use Rattle.design_core.specs.Constant.{zeros}
use Rattle.design_core.specs.Valuation.{number}
use Rattle.design_core.specs.After.{Choice}
use Rattle.design_core.proofs.Examples.{Any, scalar, none_freed, freed, showing}
use Rattle.design_core.proofs.CycleExamples.{held}
use Rattle.changes.specs.Reached.{begun, reached_clocked, reached_in}
use Rattle.changes.specs.Execution.{executed_in}
use Rattle.changes.specs.Changes.{change_in}

-- ---- the signals a, x and y of one bit
abbrev signals : Any → List Signal
signals any = scalar any kind.Input ∷ scalar any kind.Reg ∷ scalar any kind.Reg ∷ []

abbrev a : ℕ
a = 0

abbrev x : ℕ
x = 1

abbrev y : ℕ
y = 2

abbrev bit_of : ℕ → Typed
bit_of signal = record { width = 1; signed = false; node = node.Whole signal }

abbrev word : (width value : ℕ) → 1 ≤ width → width ≤ 128 → value < 2 ^ width → Bits
word width value least most within = record { width = width; value = value; at_least_one = least; at_most_128 = most; in_range = within }

abbrev zero_bit : Typed
zero_bit = record { width = 1; signed = false; node = node.Const (word 1 0 (lit≤ tt) (lit≤ tt) (lit< tt)) }

-- a word of four bits, of which a left side of one bit takes the lowest
abbrev fourteen : Typed
fourteen = record { width = 4; signed = false; node = node.Const (word 4 14 (lit≤ tt) (lit≤ tt) (lit< tt)) }

-- an assignment at a place: by `<=` where the last is true
abbrev set : ℕ → ℕ → Typed → Bool → Stmt
set place signal value later = stmt.Set place (record { parts = part.Whole signal ∷ [] }) value later

abbrev in_turn : Stmt → Stmt → Stmt
in_turn first second = stmt.Block' (tt ∷ tt ∷ []) (more_of-Stmt first (more_of-Stmt second end_of-Stmt))

-- ---- if (a) x = y; else x = a;
abbrev branch : Stmt
branch =
    stmt.If' (bit_of a) _ (more_of-Stmt (set 0 x (bit_of y) false) end_of-Stmt) _
    (more_of-Stmt (set 1 x (bit_of a) false) end_of-Stmt)

-- where a is 0, the first arm is not taken, and its place computes nothing
pub an_arm_not_taken_computes_nothing : (any : Any) (choice : Choice)
    → (reached_in (signals any) choice 0 branch (begun (showing (0 ∷ 0 ∷ 1 ∷ []))) ≡ None)
    × (reached_in (signals any) choice 1 branch (begun (showing (0 ∷ 0 ∷ 1 ∷ []))) ≡ Some 0)
unfolding number
an_arm_not_taken_computes_nothing any choice = (refl, refl)

pub an_arm_taken_computes_its_value : (any : Any) (choice : Choice)
    → (reached_in (signals any) choice 0 branch (begun (showing (1 ∷ 0 ∷ 1 ∷ []))) ≡ Some 1)
    × (reached_in (signals any) choice 1 branch (begun (showing (1 ∷ 0 ∷ 1 ∷ []))) ≡ None)
unfolding number
an_arm_taken_computes_its_value any choice = (refl, refl)

-- ---- x = 4'd14; in a left side of one bit
pub what_is_computed_is_cut_to_the_left_side : (any : Any) (choice : Choice)
    → reached_in (signals any) choice 0 (set 0 x fourteen false) (begun zeros) ≡ Some 0
unfolding number
what_is_computed_is_cut_to_the_left_side any choice = refl

-- ---- begin x = a; y = x; end
abbrev chain : Stmt
chain = in_turn (set 0 x (bit_of a) false) (set 1 y (bit_of x) false)

-- a place that takes another word computes what it did, and what reads it computes from the word
pub a_place_reads_what_a_freed_one_takes : (any : Any) → (reached_in (signals any) (freed 0 1) 0 chain (begun zeros) ≡ Some 0)
    × (reached_in (signals any) (freed 0 1) 1 chain (begun zeros) ≡ Some 1)
    × (reached_in (signals any) none_freed 1 chain (begun zeros) ≡ Some 0)
unfolding number
a_place_reads_what_a_freed_one_takes any = (refl, refl, refl)

-- and its right side reads there what was assigned before
pub an_execution_reads_what_was_assigned_before : (any : Any)
    → (option_map (λ e. number 1 (e.now x)) (executed_in (signals any) (freed 0 1) 1 chain (begun zeros)) ≡ Some 1)
    × (option_map (λ e. number 1 (e.now x)) (executed_in (signals any) none_freed 1 chain (begun zeros)) ≡ Some 0)
    × (executed_in (signals any) none_freed 2 chain (begun zeros) ≡ None)
unfolding number
an_execution_reads_what_was_assigned_before any = (refl, refl, refl)

-- ---- always @(posedge clk or posedge a) if (a) x <= 1'b0; else x <= y;
abbrev block : Clocked
block = record { reset = Some (record { signal = a; level = true; values = set 0 x zero_bit true }); body = set 1 x (bit_of y) true }

-- while the reset is active, the body's place computes nothing, and else the reset's
pub a_reset_overrules : (any : Any) (choice : Choice)
    → (reached_clocked (signals any) choice (showing (1 ∷ 0 ∷ 1 ∷ [])) 0 block ≡ Some 0)
    × (reached_clocked (signals any) choice (showing (1 ∷ 0 ∷ 1 ∷ [])) 1 block ≡ None)
unfolding number
a_reset_overrules any choice = (refl, refl)

pub without_a_reset_the_body_computes : (any : Any) (choice : Choice)
    → (reached_clocked (signals any) choice (showing (0 ∷ 0 ∷ 1 ∷ [])) 0 block ≡ None)
    × (reached_clocked (signals any) choice (showing (0 ∷ 0 ∷ 1 ∷ [])) 1 block ≡ Some 1)
unfolding number
without_a_reset_the_body_computes any choice = (refl, refl)

-- ---- always @(posedge clk) q <= q; over one cycle in which q is 0
-- the value 0 is no change of the place, the value 1 is one, and there is none in a later cycle or at another place
pub a_value_that_is_computed_is_no_change : (any : Any) → change_in (held any) (λ _. true) (λ _ _. 0) (zeros ∷ []) 0 0 ≡ None
unfolding number
a_value_that_is_computed_is_no_change any = refl

pub another_value_is_a_change : (any : Any) → (change_in (held any) (λ _. true) (λ _ _. 1) (zeros ∷ []) 0 0 ≡ Some 1)
    × (change_in (held any) (λ _. true) (λ _ _. 1) (zeros ∷ []) 1 0 ≡ None)
    × (change_in (held any) (λ _. true) (λ _ _. 1) (zeros ∷ []) 0 1 ≡ None)
unfolding number
another_value_is_a_change any = (refl, refl, refl)

pub a_place_that_is_none_of_some_has_no_change : (any : Any) → change_in (held any) (λ _. false) (λ _ _. 1) (zeros ∷ []) 0 0 ≡ None
unfolding number
a_place_that_is_none_of_some_has_no_change any = refl
