-- Always blocks (IEEE 1364-2005, 9.7.5; IEEE 1364.1-2002, 5.2.2): which are clocked, with which reset, and which break the rule of the
-- clock.
use Rattle.std.proofs.Common.{◌≡◌, ℕ, List, [], ◌∷◌, length, map, refl}
use denote.Hole.Carrier.{hidden}
use Rattle.std.specs.Prelude.{Bool, true, false, Option, Some, None, Result, Ok, Err, codes}
use Rattle.std.specs.Option.{option_map}
use Rattle.loc_base.specs.declared.span.Span.{Span}
use Rattle.v_syntax.specs.Bytes.{is_decimal, is_white}
use Rattle.v_syntax.specs.Numbers.{is_sign, is_wild, is_hexadecimal}
use Rattle.v_syntax.specs.Literals.{digit_value, base_of}
use Rattle.v_syntax.specs.declared.statement.AssignKind.TheVariants as assign_kind
use Rattle.v_syntax.specs.declared.statement.Edge.{Edge}
use Rattle.v_syntax.specs.declared.statement.Edge.TheVariants as edge
use Rattle.v_syntax.specs.declared.operator.Unary.TheVariants as unary_word
use Rattle.v_syntax.specs.declared.operator.Binary.TheVariants as binary_word
use Rattle.v_syntax.specs.Tree.{Tree, no_select}
use Rattle.v_syntax.specs.Tree as written
use Rattle.v_syntax.specs.PartTree.{name_left}
use Rattle.v_syntax.specs.StatementTree.{assignment}
use Rattle.v_syntax.specs.ItemTree.{PlainEvent, edge_event, change_event, all_events, listed}
use Rattle.design_core.specs.declared.driver.Clocked.{Clocked}
use Rattle.design_core.specs.declared.statement.Stmt.TheBlock.{hidden-the_row-Stmt-1}
use Rattle.v_sizes.specs.Word.{word}
use Rattle.v_hierarchy.specs.Unrolled.{Steps, still, branch}
use Rattle.v_binding.specs.declared.error.BindErr.{BindErr}
use Rattle.v_binding.specs.declared.error.BindErr.TheVariants as fault
use Rattle.v_binding.specs.Bound.{Bound}
use Rattle.v_binding.specs.Blocks.{always_block}
use Rattle.binding_examples.proofs.Scene.{at, span, names, frame, home, nothing_yet, named, number, drivers_of, refused}

-- q <= VALUE;
abbrev set : Tree → Steps
set value = still (assignment (at 9) (name_left (at 9) (codes "q") no_select) assign_kind.Nonblocking None value)

-- always @(EVENTS) BODY
abbrev block : List PlainEvent → Steps → Result Bound BindErr
block events body = always_block frame home names (at 0) (listed (at 1) events) body nothing_yet

abbrev clock_edge : PlainEvent
clock_edge = edge_event (at 2) edge.Posedge (codes "clk")

abbrev reset_edge : Edge → PlainEvent
reset_edge e = edge_event (at 3) e (codes "rst")

-- always @(posedge clk or EDGE rst) if (CONDITION) q <= VALUE; else q <= a;
abbrev reset_by : Edge → Tree → Tree → Result Bound BindErr
reset_by e condition value = block (clock_edge ∷ reset_edge e ∷ []) (branch condition (set value) (set (named 12 (codes "a"))))

abbrev low : Tree
low = number 11 (codes "1'b0")

abbrev rst : Tree
rst = named 5 (codes "rst")

-- the reset of a clocked block, by its signal and its level
abbrev reset_in : Clocked → Option (ℕ × Bool)
reset_in c = option_map (λ r. (r.signal, r.level)) c.reset

-- the resets of the clocked blocks, and where the rule of the clock is broken
abbrev resets : Result Bound BindErr → List (Option (ℕ × Bool))
resets (Ok b) = map reset_in b.clocked
resets (Err _) = []

abbrev broken : Result Bound BindErr → Option Span
broken (Ok b) = b.misclocked
broken (Err _) = None

abbrev reads_clock : Result Bound BindErr → Option Span
reads_clock (Ok b) = b.clock_read
reads_clock (Err _) = None

-- ---- without a reset
pub a_block_at_the_rising_clock_has_no_reset : let b = block (clock_edge ∷ []) (set (named 12 (codes "a"))) in (resets b ≡ None ∷ []) × (broken b ≡ None)
a_block_at_the_rising_clock_has_no_reset = (refl, refl)

pub a_block_at_the_falling_clock_breaks_the_rule :
    broken (block (edge_event (at 2) edge.Negedge (codes "clk") ∷ []) (set (named 12 (codes "a")))) ≡ Some (span 0)
a_block_at_the_falling_clock_breaks_the_rule = refl

pub a_block_at_another_input_breaks_the_rule : broken (block (edge_event (at 2) edge.Posedge (codes "a") ∷ []) (set (named 12 (codes "b")))) ≡ Some (span 0)
a_block_at_another_input_breaks_the_rule = refl

pub a_block_that_follows_what_it_reads_is_a_driver :
    let b = always_block frame home names (at 0) (all_events (at 1)) (set (named 12 (codes "a"))) nothing_yet in
    (length (drivers_of b) ≡ 1) × (resets b ≡ [])
a_block_that_follows_what_it_reads_is_a_driver = (refl, refl)

-- ---- with a reset: if (rst) at its rising edge, if (!rst) at its falling one
pub a_reset_at_its_rising_edge_is_active_at_1 : (resets (reset_by edge.Posedge rst low) ≡ Some (1, true) ∷ []) × (broken (reset_by edge.Posedge rst low) ≡ None)
unfolding digit_value base_of is_sign is_hexadecimal is_wild is_decimal is_white word hidden-the_row-Stmt-1 hidden
a_reset_at_its_rising_edge_is_active_at_1 = (refl, refl)

pub a_reset_at_its_falling_edge_is_active_at_0 :
    let b = reset_by edge.Negedge (written.unary (at 4) unary_word.Not rst) low in (resets b ≡ Some (1, false) ∷ []) × (broken b ≡ None)
unfolding digit_value base_of is_sign is_hexadecimal is_wild is_decimal is_white word hidden-the_row-Stmt-1 hidden
a_reset_at_its_falling_edge_is_active_at_0 = (refl, refl)

pub a_reset_may_be_compared_with_its_level :
    let b = reset_by edge.Negedge (written.binary (at 4) binary_word.Equal rst (number 6 (codes "1'b0"))) low in (resets b ≡ Some (1, false) ∷ []) × (broken b ≡ None)
unfolding digit_value base_of is_sign is_hexadecimal is_wild is_decimal is_white word hidden-the_row-Stmt-1 hidden
a_reset_may_be_compared_with_its_level = (refl, refl)

pub the_clock_may_stand_second :
    resets (block (reset_edge edge.Posedge ∷ clock_edge ∷ []) (branch rst (set low) (set (named 12 (codes "a"))))) ≡ Some (1, true) ∷ []
unfolding digit_value base_of is_sign is_hexadecimal is_wild is_decimal is_white word hidden-the_row-Stmt-1 hidden
the_clock_may_stand_second = refl

pub a_level_against_its_edge_breaks_the_rule : let b = reset_by edge.Negedge rst low in (resets b ≡ None ∷ []) × (broken b ≡ Some (span 0))
unfolding digit_value base_of is_sign is_hexadecimal is_wild is_decimal is_white word hidden-the_row-Stmt-1 hidden
a_level_against_its_edge_breaks_the_rule = (refl, refl)

pub a_reset_value_is_a_constant : let b = reset_by edge.Posedge rst (named 11 (codes "b")) in (resets b ≡ None ∷ []) × (broken b ≡ Some (span 0))
unfolding hidden-the_row-Stmt-1 hidden
a_reset_value_is_a_constant = (refl, refl)

pub a_second_edge_has_its_if : broken (block (clock_edge ∷ reset_edge edge.Posedge ∷ []) (set (named 12 (codes "a")))) ≡ Some (span 0)
a_second_edge_has_its_if = refl

-- ---- what reads the clock
pub a_block_may_not_read_the_clock :
    (reads_clock (block (clock_edge ∷ []) (set (named 12 (codes "clk")))) ≡ Some (span 0)) × (reads_clock (block (clock_edge ∷ []) (set (named 12 (codes "a")))) ≡ None)
a_block_may_not_read_the_clock = (refl, refl)

-- ---- events are names that can be read
pub an_event_of_an_unknown_name_is_refused :
    refused (block (change_event (at 2) (codes "x") None ∷ []) (set (named 12 (codes "a")))) ≡ Some (fault.UnknownName (span 2))
an_event_of_an_unknown_name_is_refused = refl
