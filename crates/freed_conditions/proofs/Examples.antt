-- Worked examples of freed statements and connections, which the checker computes from the definitions alone.
use Rattle.std.proofs.Common.{◌≡◌, ℕ, ◌^◌, ◌<◌, ◌≤◌, [], ◌∷◌, refl, lit<, lit≤}
use Rattle.std.specs.Prelude.{Bool, true, false, None, Some}
use Rattle.loc_base.specs.declared.bits.Bits.{Bits}
use Rattle.loc_base.specs.declared.span.Span.{Span}
use Rattle.design_core.specs.declared.expression.Typed.{Typed}
use Rattle.design_core.specs.declared.expression.Node.{end_of-Typed, more_of-Typed}
use Rattle.design_core.specs.declared.expression.Node.TheVariants as node
use Rattle.design_core.specs.declared.statement.Label.{Label}
use Rattle.design_core.specs.declared.statement.Part.TheVariants as part
use Rattle.design_core.specs.declared.statement.Stmt.{Stmt, end_of-Stmt, more_of-Stmt, end_of-CaseItem, more_of-CaseItem}
use Rattle.design_core.specs.declared.statement.Stmt.TheVariants as stmt
use Rattle.design_core.specs.declared.driver.Driver.{Driver}
use Rattle.design_core.specs.declared.driver.Driver.TheVariants as driver
use Rattle.design_core.specs.declared.driver.Clocked.{Clocked}
use Rattle.design_core.specs.FullCase.{deciding_bits}
use Rattle.freed_conditions.specs.Kept.{Next, whole, truth, keep}
use Rattle.freed_conditions.specs.Widths.{widths}
use Rattle.freed_conditions.specs.Freed.{both, freed}
use Rattle.freed_conditions.specs.IsFreed.{connected, freed_drivers, freed_clocked}

-- ---- the signals 0 to 2 of one bit, 3 of two; the design has 10 signals and 20 places
abbrev first : Next
first = record { signal = 10; place = 20 }

abbrev second : Next
second = record { signal = 11; place = 21 }

abbrev a : Typed
a = whole 1 false 0

abbrev b : Typed
b = whole 1 false 1

abbrev wide : Typed
wide = whole 2 false 3

abbrev word : (width value : ℕ) → 1 ≤ width → width ≤ 128 → value < 2 ^ width → Bits
word width value least most within = record { width = width; value = value; at_least_one = least; at_most_128 = most; in_range = within }

abbrev one : Typed
one = record { width = 1; signed = false; node = node.Const (word 1 1 (lit≤ tt) (lit≤ tt) (lit< tt)) }

-- signal 2 = e; or signal 2 <= e; at a place
abbrev sets : ℕ → Typed → Bool → Stmt
sets place e later = stmt.Set place (record { parts = part.Whole 2 ∷ [] }) e later

abbrev choose : Typed → Stmt → Stmt → Stmt
choose test on_true on_false = stmt.If' test _ (more_of-Stmt on_true end_of-Stmt) _ (more_of-Stmt on_false end_of-Stmt)

-- ---- if (a) y = a; else y = b;
pub an_if_goes_by_its_kept_condition :
    freed first (choose a (sets 0 a false) (sets 1 b false))
    ≡ both (keep first (truth a)) (choose (whole 1 false 10) (sets 0 a false) (sets 1 b false))
an_if_goes_by_its_kept_condition = refl

-- if (wide) .. keeps one bit, which is 1 where some bit of it is
pub a_wide_condition_keeps_its_truth_value : (truth wide).width ≡ 1
a_wide_condition_keeps_its_truth_value = refl

-- if (a) y = a; else if (b) y = b; the second condition takes the next numbers, and is kept where it is reached alone
pub an_else_if_is_a_condition_of_its_own :
    freed first (choose a (sets 0 a false) (choose b (sets 1 b false) stmt.Nothing))
    ≡ both (keep first (truth a)) (choose (whole 1 false 10) (sets 0 a false)
    (both (keep second (truth b)) (choose (whole 1 false 11) (sets 1 b false) stmt.Nothing)))
an_else_if_is_a_condition_of_its_own = refl

-- the conditions of the arm before have their numbers first
pub an_arm_counts_before_the_next :
    freed first (choose one (choose a stmt.Nothing stmt.Nothing) (choose b stmt.Nothing stmt.Nothing))
    ≡ choose one (both (keep first (truth a)) (choose (whole 1 false 10) stmt.Nothing stmt.Nothing))
    (both (keep second (truth b)) (choose (whole 1 false 11) stmt.Nothing stmt.Nothing))
an_arm_counts_before_the_next = refl

-- if (1) .. stays as it is
pub a_constant_condition_stays : freed first (choose one (sets 0 a false) (sets 1 b false)) ≡ choose one (sets 0 a false) (sets 1 b false)
a_constant_condition_stays = refl

pub a_constant_condition_has_no_width : widths (choose one (sets 0 a false) (sets 1 b false)) ≡ []
a_constant_condition_has_no_width = refl

pub nothing_stays_nothing : freed first stmt.Nothing ≡ stmt.Nothing
nothing_stays_nothing = refl

-- ---- case (wide), whose labels have two bits
abbrev label : (value wild : Bits) → Label
label value wild = record { value = record { width = 2; signed = false; node = node.Const value }; wild = wild }

abbrev no_bits : Bits
no_bits = word 2 0 (lit≤ tt) (lit≤ tt) (lit< tt)

abbrev low_bit : Bits
low_bit = word 2 1 (lit≤ tt) (lit≤ tt) (lit< tt)

-- a case of two items and a default
abbrev cases : Typed → Label → Label → Stmt → Stmt → Stmt → Bool → Stmt
cases subject low high on_low on_high other wild =
    stmt.Case' subject (tt ∷ tt ∷ []) (more_of-CaseItem (low ∷ []) on_low (more_of-CaseItem (high ∷ []) on_high end_of-CaseItem))
    _ (more_of-Stmt other end_of-Stmt) wild

abbrev label_0 : Label
label_0 = label no_bits no_bits

abbrev label_1 : Label
label_1 = label low_bit no_bits

-- the low bit isn't compared
abbrev label_any : Label
label_any = label no_bits low_bit

pub a_subject_is_kept_in_its_width :
    freed first (cases wide label_0 label_1 (sets 0 a false) (sets 1 b false) stmt.Nothing false)
    ≡ both (keep first wide) (cases (whole 2 false 10) label_0 label_1 (sets 0 a false) (sets 1 b false) stmt.Nothing false)
a_subject_is_kept_in_its_width = refl

pub labels_and_casez_stay :
    freed first (cases wide label_any label_1 (sets 0 a false) (sets 1 b false) (sets 2 b false) true)
    ≡ both (keep first wide) (cases (whole 2 false 10) label_any label_1 (sets 0 a false) (sets 1 b false) (sets 2 b false) true)
labels_and_casez_stay = refl

-- a subject of one bit that is carried to the two of its labels
abbrev carried : ℕ → Typed
carried s = record { width = 2; signed = false; node = node.Resize' _ (more_of-Typed 1 false (node.Whole s) end_of-Typed) }

-- its one bit is kept, so that the case is as full as before
pub a_carried_subject_keeps_its_operand :
    freed first (cases (carried 0) label_0 label_1 (sets 0 a false) (sets 1 b false) stmt.Nothing false)
    ≡ both (keep first a) (cases (carried 10) label_0 label_1 (sets 0 a false) (sets 1 b false) stmt.Nothing false)
a_carried_subject_keeps_its_operand = refl

pub and_has_its_width : widths (cases (carried 0) label_0 label_1 (sets 0 a false) (sets 1 b false) stmt.Nothing false) ≡ (1 ∷ [])
and_has_its_width = refl

pub and_is_decided_by_as_many_bits : deciding_bits 2 (carried 10).node ≡ deciding_bits 2 (carried 0).node
and_is_decided_by_as_many_bits = refl

-- ---- a reset: its own `if` is no statement of the block, and its values stay
pub a_reset_stays : (block : Clocked) → freed_clocked first (block ∷ []) ≡ (record { reset = block.reset; body = freed first block.body } ∷ [])
a_reset_stays block = refl

-- ---- an input connection: two copies of a module, each with one
abbrev connection : Span → ℕ → ℕ → Driver
connection span port outer = driver.Cont (record { parts = part.Whole port ∷ [] }) (whole 1 false outer) None span

abbrev placed : Span → ℕ → ℕ → ℕ → Driver
placed span port outer place = driver.Cont (record { parts = part.Whole port ∷ [] }) (whole 1 false outer) (Some place) span

pub each_copy_of_a_connection_has_its_place : (span : Span)
    → connected 20 (connection span 4 0 ∷ placed span 5 1 7 ∷ connection span 6 0 ∷ [])
    ≡ (placed span 4 0 20 ∷ placed span 5 1 7 ∷ placed span 6 0 21 ∷ [])
each_copy_of_a_connection_has_its_place span = refl

-- a block's conditions are freed where it stands among the drivers
pub drivers_keep_their_order : (span : Span)
    → freed_drivers first (driver.Comb (choose a stmt.Nothing stmt.Nothing) span ∷ connection span 4 0 ∷ driver.Comb (choose b stmt.Nothing stmt.Nothing) span ∷ [])
    ≡ (driver.Comb (both (keep first (truth a)) (choose (whole 1 false 10) stmt.Nothing stmt.Nothing)) span ∷ connection span 4 0
    ∷ driver.Comb (both (keep second (truth b)) (choose (whole 1 false 11) stmt.Nothing stmt.Nothing)) span ∷ [])
drivers_keep_their_order span = refl
