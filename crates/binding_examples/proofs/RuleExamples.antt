-- The rules over a design, one accepted and one refused text each: small designs written down by hand. The path of a signal, its start
-- value and where lists lie in memory stand for any.
use Rattle.std.proofs.Common.{◌≡◌, ◌≤◌, ℕ, ◌+◌, ◌^◌, ◌<◌, List, [], ◌∷◌, length, refl, lit<, lit≤}
use denote.Hole.Carrier.{hidden}
use Rattle.std.specs.Prelude.{Bool, true, false, pos, Some, None}
use Rattle.loc_base.specs.declared.span.Span.{Span}
use Rattle.design_core.specs.declared.signal.Signal.{Signal}
use Rattle.design_core.specs.declared.signal.SignalKind.TheVariants as kind
use Rattle.design_core.specs.declared.expression.Typed.{Typed}
use Rattle.design_core.specs.declared.expression.Node.TheVariants as node
use Rattle.design_core.specs.declared.statement.Part.{Part}
use Rattle.design_core.specs.declared.statement.Part.TheVariants as part
use Rattle.design_core.specs.declared.statement.CaseItem.{CaseItem}
use Rattle.design_core.specs.declared.statement.Stmt.{Stmt}
use Rattle.design_core.specs.declared.statement.Stmt.TheVariants as stmt
use Rattle.design_core.specs.declared.statement.Stmt.TheBlock.{hidden-the_row-Stmt-0, hidden-the_row-Stmt-1, hidden-the_row-CaseItem-2}
use Rattle.design_core.specs.declared.driver.Driver.{Driver}
use Rattle.design_core.specs.declared.driver.Driver.TheVariants as driver
use Rattle.design_core.specs.declared.driver.Clocked.{Clocked}
use Rattle.design_core.specs.declared.design.Design.{Design}
use Rattle.design_core.specs.FullCase.{all_below}
use Rattle.design_core.proofs.Examples.{Any, vec, declared, scalar}
use Rattle.v_sizes.specs.Sized.{constant}
use Rattle.v_sizes.specs.Word.{word}
use Rattle.design_rules.specs.Size.{is_too_large}
use Rattle.design_rules.specs.Entries.{driven_times, is_mentioned, is_output_bit}
use Rattle.design_rules.specs.OneDriver.{IsDrivenTwice}
use Rattle.design_rules.specs.DrivenReads.{IsUndriven}
use Rattle.design_rules.specs.Latches.{driver_holds}
use Rattle.design_rules.specs.Assignments.{by_equals, clocked_sets, is_misassigned}
use Rattle.design_rules.specs.Races.{is_used_outside}
use Rattle.v_binding.specs.Starts.{Initial}
use Rattle.bind_rules.specs.Beside.{Beside, no_span, clock_fault}
use Rattle.bind_rules.specs.Rules.{driver_span, is_mixed, mixed_span}

-- ---- a design: the input a of one bit is signal 0, the net y [1:0] is 1, the registers q and r of one bit are 2 and 3, the register
-- w [1:0] is 4; y is the output
abbrev signals : Any → List Signal
signals any =
    scalar any kind.Input ∷ declared any 2 (pos 1) (pos 0) kind.Net ∷ scalar any kind.Reg ∷ scalar any kind.Reg
    ∷ declared any 2 (pos 1) (pos 0) kind.Reg ∷ []

abbrev design : (any : Any) (drivers : List Driver) (clocked : List Clocked) → length drivers < 2 ^ 63 → length clocked < 2 ^ 63 → Design
design any drivers clocked few least = record {
  signals = vec any (signals any) (lit< tt);
  drivers = vec any drivers few;
  clocked = vec any clocked least;
  places = vec any [] (lit< tt);
  inputs = vec any (0 ∷ []) (lit< tt);
  outputs = vec any (1 ∷ []) (lit< tt);
}

-- no signal is a word of an array
abbrev homes : List ℕ
homes = 0 ∷ 1 ∷ 2 ∷ 3 ∷ 4 ∷ []

abbrev span : Span
span = record { from = 0; to = 1 }

-- the value of a signal of one bit
abbrev read : ℕ → Typed
read signal = record { width = 1; signed = false; node = node.Whole signal }

-- assign PART = VALUE;
abbrev assigned : Part → ℕ → Driver
assigned target value = driver.Cont (record { parts = target ∷ [] }) (read value) None span

-- PART = VALUE; or PART <= VALUE;
abbrev set : Part → ℕ → Bool → Stmt
set target value later = stmt.Set 0 (record { parts = target ∷ [] }) (read value) later

-- always @* BODY
abbrev comb : Stmt → Driver
comb body = driver.Comb body span

-- always @(posedge clk) BODY
abbrev clocked : Stmt → Clocked
clocked body = record { reset = None; body = body }

-- ---- one driver for each bit
-- assign y[0] = a; assign y[1] = a;
abbrev each_bit : Any → Design
each_bit any = design any (assigned (part.Slice 1 0 1) 0 ∷ assigned (part.Slice 1 1 1) 0 ∷ []) [] (lit< tt) (lit< tt)

pub each_bit_of_a_net_may_have_its_own_driver : (any : Any) →
    (driven_times (each_bit any) 1 0 ≡ 1) × (driven_times (each_bit any) 1 1 ≡ 1)
each_bit_of_a_net_may_have_its_own_driver any = (refl, refl)

-- assign y = a; assign y[1] = a;
abbrev a_bit_again : Any → Design
a_bit_again any = design any (assigned (part.Whole 1) 0 ∷ assigned (part.Slice 1 1 1) 0 ∷ []) [] (lit< tt) (lit< tt)

pub a_bit_with_two_drivers_is_refused : (any : Any) → IsDrivenTwice (a_bit_again any) 1
a_bit_with_two_drivers_is_refused any = record { position = 1; driven = lit≤ tt }

-- always @(posedge clk) q <= a; always @(posedge clk) q <= r;
pub two_blocks_are_two_drivers : (any : Any) →
    IsDrivenTwice (design any [] (clocked (set (part.Whole 2) 0 true) ∷ clocked (set (part.Whole 2) 3 true) ∷ []) (lit< tt) (lit< tt)) 2
two_blocks_are_two_drivers any = record { position = 0; driven = lit≤ tt }

-- always @(posedge clk) begin q <= a; q <= r; end
pub one_block_is_one_driver : (any : Any) →
    driven_times (design any [] (clocked (stmt.Block (set (part.Whole 2) 0 true ∷ set (part.Whole 2) 3 true ∷ [])) ∷ []) (lit< tt) (lit< tt)) 2 0 ≡ 1
unfolding hidden-the_row-Stmt-0 hidden
one_block_is_one_driver any = refl

-- assign a = r;
pub an_input_has_its_driver_outside : (any : Any) → IsDrivenTwice (design any (assigned (part.Whole 0) 3 ∷ []) [] (lit< tt) (lit< tt)) 0
an_input_has_its_driver_outside any = record { position = 0; driven = lit≤ tt }

-- ---- each bit of a net that is used has a driver
pub an_output_with_all_its_bits_driven_is_accepted : (any : Any) →
    (is_output_bit (each_bit any) 1 1 ≡ true) × (is_output_bit (each_bit any) 1 2 ≡ false) × (driven_times (each_bit any) 1 1 ≡ 1)
an_output_with_all_its_bits_driven_is_accepted any = (refl, refl, refl)

-- assign y[0] = a;
pub an_output_bit_without_a_driver_is_refused : (any : Any) → IsUndriven (design any (assigned (part.Slice 1 0 1) 0 ∷ []) [] (lit< tt) (lit< tt)) 1
an_output_bit_without_a_driver_is_refused any = record { position = 1; net = refl; used = refl; none = refl }

-- always @(posedge clk) q <= r;
pub a_register_without_a_driver_keeps_its_start : (any : Any) →
    let d = design any [] (clocked (set (part.Whole 2) 3 true) ∷ []) (lit< tt) (lit< tt) in (is_mentioned d 3 0 ≡ true) × (driven_times d 3 0 ≡ 0)
a_register_without_a_driver_keeps_its_start any = (refl, refl)

-- ---- no latch: q is signal 2
abbrev holds_q : Any → Stmt → Bool
holds_q any body = driver_holds (signals any) 2 0 (comb body)

-- if (a) q = r;
pub an_if_without_an_else_holds : (any : Any) → holds_q any (stmt.If (read 0) (set (part.Whole 2) 3 false) stmt.Nothing) ≡ true
unfolding hidden-the_row-Stmt-1 hidden
an_if_without_an_else_holds any = refl

-- if (a) q = r; else q = a;
pub both_paths_assign : (any : Any) → holds_q any (stmt.If (read 0) (set (part.Whole 2) 3 false) (set (part.Whole 2) 0 false)) ≡ false
unfolding hidden-the_row-Stmt-1 hidden
both_paths_assign any = refl

-- begin q = a; if (a) q = r; end
pub a_value_before_the_branch_is_enough : (any : Any) →
    holds_q any (stmt.Block (set (part.Whole 2) 0 false ∷ stmt.If (read 0) (set (part.Whole 2) 3 false) stmt.Nothing ∷ [])) ≡ false
unfolding hidden-the_row-Stmt-0 hidden-the_row-Stmt-1 hidden
a_value_before_the_branch_is_enough any = refl

-- w[a] = r; holds the other bit of w
pub a_variable_index_holds_the_other_bits : (any : Any) → driver_holds (signals any) 4 1 (comb (set (part.Pick 4 (read 0) (pos 0 ∷ [])) 3 false)) ≡ true
a_variable_index_holds_the_other_bits any = refl

-- case (a) LABEL: q = r; ..
abbrev arm : ℕ → CaseItem
arm label = record { labels = record { value = constant 1 false label; wild = word 1 0 } ∷ []; body = set (part.Whole 2) 3 false }

-- case (a) 0: q = r; 1: q = r; endcase
pub a_case_with_each_value_has_no_other_path : (any : Any) → holds_q any (stmt.Case (read 0) (arm 0 ∷ arm 1 ∷ []) stmt.Nothing false) ≡ false
unfolding hidden-the_row-Stmt-0 hidden-the_row-Stmt-1 hidden-the_row-CaseItem-2 hidden all_below word
a_case_with_each_value_has_no_other_path any = refl

-- case (a) 0: q = r; endcase
pub a_case_with_one_value_has_another_path : (any : Any) → holds_q any (stmt.Case (read 0) (arm 0 ∷ []) stmt.Nothing false) ≡ true
unfolding hidden-the_row-Stmt-0 hidden-the_row-Stmt-1 hidden-the_row-CaseItem-2 hidden all_below word
a_case_with_one_value_has_another_path any = refl

-- case (a) 0: q = r; 1: q = r; default: ; endcase
pub an_empty_default_is_a_path : (any : Any) → holds_q any (stmt.Case (read 0) (arm 0 ∷ arm 1 ∷ []) (stmt.Block []) false) ≡ true
unfolding hidden-the_row-Stmt-0 hidden-the_row-Stmt-1 hidden-the_row-CaseItem-2 hidden all_below word
an_empty_default_is_a_path any = refl

-- ---- assignments of one kind
abbrev blocks : Any → Stmt → Design
blocks any body = design any [] (clocked body ∷ []) (lit< tt) (lit< tt)

abbrev combs : Any → Driver → Design
combs any one = design any (one ∷ []) [] (lit< tt) (lit< tt)

-- always @(posedge clk) q <= a; and always @* q = a;
pub each_block_may_assign_in_its_way : (any : Any) →
    (is_misassigned (blocks any (set (part.Whole 2) 0 true)) homes 2 ≡ false) × (is_misassigned (combs any (comb (set (part.Whole 2) 0 false))) homes 2 ≡ false)
each_block_may_assign_in_its_way any = (refl, refl)

-- always @(posedge clk) begin q = a; q <= a; end
pub both_ways_are_refused : (any : Any) → is_misassigned (blocks any (stmt.Block (set (part.Whole 2) 0 false ∷ set (part.Whole 2) 0 true ∷ []))) homes 2 ≡ true
unfolding hidden-the_row-Stmt-0 hidden
both_ways_are_refused any = refl

-- always @* q <= a;
pub a_later_assignment_has_a_clock : (any : Any) → is_misassigned (combs any (comb (set (part.Whole 2) 0 true))) homes 2 ≡ true
a_later_assignment_has_a_clock any = refl

-- assign q = a;
pub a_register_is_assigned_in_blocks_alone : (any : Any) → is_misassigned (combs any (assigned (part.Whole 2) 0)) homes 2 ≡ true
a_register_is_assigned_in_blocks_alone any = refl

-- always @* y = a;
pub a_net_is_assigned_outside_of_blocks : (any : Any) →
    (is_misassigned (combs any (comb (set (part.Whole 1) 0 false))) homes 1 ≡ true) × (is_misassigned (combs any (assigned (part.Whole 1) 0)) homes 1 ≡ false)
a_net_is_assigned_outside_of_blocks any = (refl, refl)

-- ---- no race: what a clocked block assigns by `=` is used in it alone
-- always @(posedge clk) begin q = a; r <= q; end   and a second block BODY
abbrev beside : Any → Stmt → Design
beside any body =
    design any [] (clocked (stmt.Block (set (part.Whole 2) 0 false ∷ set (part.Whole 3) 2 true ∷ [])) ∷ clocked body ∷ []) (lit< tt) (lit< tt)

pub the_block_itself_may_use_it : (any : Any) → is_used_outside (beside any (set (part.Slice 4 0 1) 3 true)) 0 2 0 ≡ false
the_block_itself_may_use_it any = refl

pub another_block_may_not : (any : Any) → is_used_outside (beside any (set (part.Slice 4 0 1) 2 true)) 0 2 0 ≡ true
another_block_may_not any = refl

pub only_blocking_assignments_race :
    (clocked_sets (by_equals homes 2) (clocked (set (part.Whole 2) 0 false)) ≡ true) × (clocked_sets (by_equals homes 2) (clocked (set (part.Whole 2) 0 true)) ≡ false)
only_blocking_assignments_race = (refl, refl)

-- ---- where a rule is shown as broken, and initial blocks
-- the declarations of the five signals stand at 10 to 14
abbrev declared_at : ℕ → Span
declared_at place = record { from = place; to = place + 1 }

-- initial SIGNAL = 0; whose name stands at 20
abbrev started_at : ℕ → Initial
started_at signal = record { start = record { signal = signal; value = word 1 0 }; span = declared_at 20 }

abbrev told : List Initial → Beside
told initial = record {
  homes = homes;
  spans = declared_at 10 ∷ declared_at 11 ∷ declared_at 12 ∷ declared_at 13 ∷ declared_at 14 ∷ [];
  initial = initial;
  clock_fault = None;
}

-- reg q; initial q = 0;
pub a_register_may_have_its_start_from_a_block : (any : Any) → is_mixed (each_bit any) (told (started_at 2 ∷ [])) 2 ≡ false
a_register_may_have_its_start_from_a_block any = refl

-- wire [1:0] y; initial y = 0;
pub a_net_has_no_start : (any : Any) →
    let b = told (started_at 1 ∷ []) in (is_mixed (each_bit any) b 1 ≡ true) × (mixed_span (each_bit any) b 1 ≡ declared_at 20)
a_net_has_no_start any = (refl, refl)

-- always @* q <= a; is shown by the declaration of q
pub a_signal_that_is_assigned_otherwise_is_shown_by_its_declaration : (any : Any) →
    mixed_span (combs any (comb (set (part.Whole 2) 0 true))) (told []) 2 ≡ declared_at 12
a_signal_that_is_assigned_otherwise_is_shown_by_its_declaration any = refl

pub a_latch_is_shown_by_its_block : (any : Any) → driver_span (combs any (comb (set (part.Whole 2) 0 false))) 0 ≡ span
a_latch_is_shown_by_its_block any = refl

-- ---- the clock: that it is named first, then what waits otherwise, then what reads it
pub a_misnamed_clock_has_no_place : clock_fault true (Some (declared_at 1)) (Some (declared_at 2)) ≡ Some no_span
a_misnamed_clock_has_no_place = refl

pub a_block_that_waits_otherwise_comes_before_one_that_reads :
    (clock_fault false (Some (declared_at 1)) (Some (declared_at 2)) ≡ Some (declared_at 1)) × (clock_fault false None (Some (declared_at 2)) ≡ Some (declared_at 2))
a_block_that_waits_otherwise_comes_before_one_that_reads = (refl, refl)

pub a_clock_that_is_used_as_one_breaks_nothing : clock_fault false None None ≡ None
a_clock_that_is_used_as_one_breaks_nothing = refl

-- ---- size
pub a_small_design_is_not_too_large : (any : Any) → is_too_large (each_bit any) ≡ false
a_small_design_is_not_too_large any = refl
