-- Worked examples of what a block reads anywhere, and of what it assigns by `=` or by `<=` on each of its paths.
use Rattle.std.proofs.Common.{◌≡◌, ℕ, ◌^◌, ◌<◌, ◌≤◌, List, [], ◌∷◌, refl, lit<, lit≤}
use Rattle.std.specs.Prelude.{Bool, true, false, pos, Some}
use Rattle.loc_base.specs.declared.bits.Bits.{Bits}
use Rattle.design_core.specs.declared.signal.Signal.{Signal}
use Rattle.design_core.specs.declared.signal.SignalKind.TheVariants as kind
use Rattle.design_core.specs.declared.expression.Typed.{Typed}
use Rattle.design_core.specs.declared.expression.Node.TheVariants as node
use Rattle.design_core.specs.declared.statement.Label.{Label}
use Rattle.design_core.specs.declared.statement.Part.{Part}
use Rattle.design_core.specs.declared.statement.Part.TheVariants as part
use Rattle.design_core.specs.declared.statement.Stmt.{Stmt, end_of-Stmt, more_of-Stmt, end_of-CaseItem, more_of-CaseItem}
use Rattle.design_core.specs.declared.statement.Stmt.TheVariants as stmt
use Rattle.design_core.specs.declared.driver.Clocked.{Clocked}
use Rattle.design_core.specs.Valuation.{number}
use Rattle.design_core.specs.FullCase.{all_below}
use Rattle.design_core.specs.Reads.{assigns, assigns_either_way, statement_reads}
use Rattle.design_core.specs.Mentions.{statement_mentions, block_mentions}
use Rattle.design_core.proofs.Examples.{Any, declared, scalar}

-- ---- the signals: a, b, t and y of one bit, and v and w of four
abbrev signals : Any → List Signal
signals any =
    scalar any kind.Input ∷ scalar any kind.Input ∷ scalar any kind.Net ∷ scalar any kind.Net
    ∷ declared any 4 (pos 3) (pos 0) kind.Input ∷ declared any 4 (pos 3) (pos 0) kind.Net ∷ []

abbrev a : ℕ
a = 0

abbrev b : ℕ
b = 1

abbrev t : ℕ
t = 2

abbrev y : ℕ
y = 3

abbrev v : ℕ
v = 4

abbrev w : ℕ
w = 5

abbrev bit_of : ℕ → Typed
bit_of signal = record { width = 1; signed = false; node = node.Whole signal }

abbrev word : (width value : ℕ) → 1 ≤ width → width ≤ 128 → value < 2 ^ width → Bits
word width value least most within = record { width = width; value = value; at_least_one = least; at_most_128 = most; in_range = within }

abbrev zero_bit : Typed
zero_bit = record { width = 1; signed = false; node = node.Const (word 1 0 (lit≤ tt) (lit≤ tt) (lit< tt)) }

abbrev one_bit : Typed
one_bit = record { width = 1; signed = false; node = node.Const (word 1 1 (lit≤ tt) (lit≤ tt) (lit< tt)) }

-- an assignment to one part: by `<=` where the last is true
abbrev set : Part → Typed → Bool → Stmt
set left value later = stmt.Set 0 (record { parts = left ∷ [] }) value later

-- y = a; or y <= a;
abbrev y_takes : ℕ → Bool → Stmt
y_takes signal later = set (part.Whole y) (bit_of signal) later

abbrev in_turn : Stmt → Stmt → Stmt
in_turn first second = stmt.Block' (tt ∷ tt ∷ []) (more_of-Stmt first (more_of-Stmt second end_of-Stmt))

abbrev choose : Typed → Stmt → Stmt → Stmt
choose test on_true on_false = stmt.If' test _ (more_of-Stmt on_true end_of-Stmt) _ (more_of-Stmt on_false end_of-Stmt)

abbrev label : Typed → Label
label value = record { value = value; wild = word 1 0 (lit≤ tt) (lit≤ tt) (lit< tt) }

-- ---- what is read anywhere
-- begin t = a; y = t; end: t is read, though the block doesn't wait for it
pub what_a_block_assigned_before_is_read_too : (any : Any) → let block = in_turn (set (part.Whole t) (bit_of a) false) (y_takes t false) in
    (statement_mentions (signals any) t 0 block ≡ true) × (statement_reads (signals any) t 0 block ≡ false)
what_a_block_assigned_before_is_read_too any = (refl, refl)

-- y = a; reads a, and neither y nor b
pub an_assignment_reads_its_right_side_alone : (any : Any) → let set = y_takes a false in
    (statement_mentions (signals any) a 0 set ≡ true) × (statement_mentions (signals any) y 0 set ≡ false)
    × (statement_mentions (signals any) b 0 set ≡ false)
an_assignment_reads_its_right_side_alone any = (refl, refl, refl)

-- w[1:0] = v[2:1];
pub a_part_select_reads_its_bits_alone : (any : Any) → let set = set (part.Slice w 0 2) (record { width = 2; signed = false; node = node.Slice v 1 2 }) false in
    (statement_mentions (signals any) v 0 set ≡ false) × (statement_mentions (signals any) v 1 set ≡ true)
    × (statement_mentions (signals any) v 2 set ≡ true) × (statement_mentions (signals any) v 3 set ≡ false)
a_part_select_reads_its_bits_alone any = (refl, refl, refl, refl)

-- w[b] = a; reads b, and no bit of w
pub an_index_on_the_left_is_read : (any : Any) → let set = set (part.Pick w (bit_of b) (pos 0 ∷ [])) (bit_of a) false in
    (statement_mentions (signals any) b 0 set ≡ true) × (statement_mentions (signals any) w 0 set ≡ false)
an_index_on_the_left_is_read any = (refl, refl)

-- if (t) y = a; else y = b;
pub a_condition_and_both_branches_are_read : (any : Any) → let either = choose (bit_of t) (y_takes a false) (y_takes b false) in
    (statement_mentions (signals any) t 0 either ≡ true) × (statement_mentions (signals any) a 0 either ≡ true)
    × (statement_mentions (signals any) b 0 either ≡ true) × (statement_mentions (signals any) y 0 either ≡ false)
a_condition_and_both_branches_are_read any = (refl, refl, refl, refl)

-- case (a) b: y = t; endcase
pub a_subject_a_label_and_an_item_are_read : (any : Any) →
    let choice = stmt.Case' (bit_of a) (tt ∷ []) (more_of-CaseItem (label (bit_of b) ∷ []) (y_takes t false) end_of-CaseItem) _ (more_of-Stmt stmt.Nothing end_of-Stmt) false in
    (statement_mentions (signals any) a 0 choice ≡ true) × (statement_mentions (signals any) b 0 choice ≡ true)
    × (statement_mentions (signals any) t 0 choice ≡ true) × (statement_mentions (signals any) y 0 choice ≡ false)
a_subject_a_label_and_an_item_are_read any = (refl, refl, refl, refl)

-- always @(posedge clk or posedge b) if (b) y <= 1'b0; else y <= a;
pub a_reset_reads_its_signal : (any : Any) →
    let block : Clocked = record { reset = Some (record { signal = b; level = true; values = set (part.Whole y) zero_bit true }); body = y_takes a true } in
    (block_mentions (signals any) b 0 block ≡ true) × (block_mentions (signals any) b 1 block ≡ false)
    × (block_mentions (signals any) a 0 block ≡ true) × (block_mentions (signals any) y 0 block ≡ false)
a_reset_reads_its_signal any = (refl, refl, refl, refl)

-- ---- what is assigned on each path, by `=` or by `<=`
-- if (t) y = a; else y <= b;
pub one_path_may_assign_by_each : (any : Any) → let either = choose (bit_of t) (y_takes a false) (y_takes b true) in
    (assigns_either_way (signals any) y 0 either ≡ true) × (assigns (signals any) y 0 either ≡ false)
one_path_may_assign_by_each any = (refl, refl)

-- if (t) y = a; holds y where t is 0
pub a_path_without_an_assignment_holds_the_bit : (any : Any) → assigns_either_way (signals any) y 0 (choose (bit_of t) (y_takes a false) stmt.Nothing) ≡ false
a_path_without_an_assignment_holds_the_bit any = refl

-- begin y <= a; if (t) y = b; end
pub one_statement_of_a_block_is_enough : (any : Any) →
    assigns_either_way (signals any) y 0 (in_turn (y_takes a true) (choose (bit_of t) (y_takes b false) stmt.Nothing)) ≡ true
one_statement_of_a_block_is_enough any = refl

-- case (t) 1'b0: y = a; 1'b1: y <= b; endcase
pub a_case_with_an_item_for_each_value_is_full : (any : Any) →
    let full = stmt.Case' (bit_of t) (tt ∷ tt ∷ []) (more_of-CaseItem (label zero_bit ∷ []) (y_takes a false) (more_of-CaseItem (label one_bit ∷ []) (y_takes b true) end_of-CaseItem)) _ (more_of-Stmt stmt.Nothing end_of-Stmt) false in
    assigns_either_way (signals any) y 0 full ≡ true
unfolding all_below number
a_case_with_an_item_for_each_value_is_full any = refl

-- case (t) 1'b0: y = a; endcase, and with default: y <= b;
pub a_case_without_an_item_for_1_holds_the_bit : (any : Any) →
    let one_item = stmt.Case' (bit_of t) (tt ∷ []) (more_of-CaseItem (label zero_bit ∷ []) (y_takes a false) end_of-CaseItem) _ (more_of-Stmt stmt.Nothing end_of-Stmt) false in
    assigns_either_way (signals any) y 0 one_item ≡ false
unfolding all_below number
a_case_without_an_item_for_1_holds_the_bit any = refl

pub a_default_makes_up_for_it : (any : Any) →
    let one_item = stmt.Case' (bit_of t) (tt ∷ []) (more_of-CaseItem (label zero_bit ∷ []) (y_takes a false) end_of-CaseItem) _ (more_of-Stmt (y_takes b true) end_of-Stmt) false in
    assigns_either_way (signals any) y 0 one_item ≡ true
unfolding all_below number
a_default_makes_up_for_it any = refl

-- w[1] = a; assigns that bit, and w[b] = a; surely none
pub a_constant_index_assigns_its_bit_alone : (any : Any) → let set = set (part.Pick w one_bit (pos 0 ∷ [])) (bit_of a) false in
    (assigns_either_way (signals any) w 1 set ≡ true) × (assigns_either_way (signals any) w 0 set ≡ false)
a_constant_index_assigns_its_bit_alone any = (refl, refl)

pub a_variable_index_surely_assigns_none : (any : Any) → let set = set (part.Pick w (bit_of b) (pos 0 ∷ [])) (bit_of a) false in
    (assigns_either_way (signals any) w 0 set ≡ false) × (assigns_either_way (signals any) w 1 set ≡ false)
a_variable_index_surely_assigns_none any = (refl, refl)
