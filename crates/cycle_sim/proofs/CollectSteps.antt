-- The masks of a statement are those of its parts.
use Rattle.std.proofs.Common.{ℕ, ◌≡◌, Bool, true, not, ◌&&◌, ◌||◌, List, ap, sym, ◌∙◌}
use Rattle.std.specs.Prelude.{IsTrue}
use Rattle.std.specs.List.{list_any, list_all}
use Rattle.design_core.specs.declared.signal.Signal.{Signal}
use Rattle.design_core.specs.declared.place.Place.{Place}
use Rattle.design_core.specs.declared.expression.Typed.{Typed}
use Rattle.design_core.specs.declared.statement.Target.{Target}
use Rattle.design_core.specs.declared.statement.Stmt.{Stmt}
use Rattle.design_core.specs.declared.statement.CaseItem.{CaseItem}
use Rattle.design_core.specs.declared.statement.Stmt.TheVariants as stmt
use Rattle.design_core.specs.Drives.{part_drives, some_set}
use Rattle.design_core.specs.WellFormed.{part_fits, statement_fits}
use Rattle.design_core.proofs.StatementSteps.{sets_if}
use Rattle.plain_values.specs.Evaluate.{item_fits}
use Rattle.plain_sim.proofs.EvaluateDrives.{block-sets, case-sets}
use Rattle.plain_values.proofs.EvaluateStatement.{block-fits, if-fits, case-fits, case-ends}
use Rattle.cycle_sim.specs.declared.mask.Mask.{Mask}
use Rattle.cycle_sim.specs.Collected.{Adds, set_drives, item_drives}
use Rattle.cycle_sim.proofs.Collecting.{adds-then, adds-as}
use Rattle.cycle_sim.proofs.DrivesBelow.{set-parts}

pub block-adds : (signals : List Signal) (places : List Place) (only : Bool) (statements : List Stmt) (a b : List Mask)
    → (IsTrue (list_all (statement_fits signals places) statements)
    → Adds signals a b (λ s p. list_any (some_set (set_drives signals only s p)) statements))
    → IsTrue (statement_fits signals places (stmt.Block statements))
    → Adds signals a b (λ s p. some_set (set_drives signals only s p) (stmt.Block statements))
block-adds signals places only statements a b adds fits =
    adds-as signals a b (λ s p. list_any (some_set (set_drives signals only s p)) statements)
    (λ s p. some_set (set_drives signals only s p) (stmt.Block statements))
    (λ s p. sym (block-sets (set_drives signals only s p) statements)) (adds (sym (block-fits signals places statements) ∙ fits))

pub if-adds : (signals : List Signal) (places : List Place) (only : Bool) (test : Typed) (on_true on_false : Stmt) (a b c : List Mask)
    → (IsTrue (statement_fits signals places on_true) → Adds signals a b (λ s p. some_set (set_drives signals only s p) on_true))
    → (IsTrue (statement_fits signals places on_false) → Adds signals b c (λ s p. some_set (set_drives signals only s p) on_false))
    → IsTrue (statement_fits signals places (stmt.If test on_true on_false))
    → Adds signals a c (λ s p. some_set (set_drives signals only s p) (stmt.If test on_true on_false))
if-adds signals places only test on_true on_false a b c first second fits =
    let parts = if-fits signals places test on_true on_false fits in
    adds-as signals a c (λ s p. some_set (set_drives signals only s p) on_true || some_set (set_drives signals only s p) on_false)
    (λ s p. some_set (set_drives signals only s p) (stmt.If test on_true on_false))
    (λ s p. sym (sets_if (set_drives signals only s p) test on_true on_false))
    (adds-then signals a b c (λ s p. some_set (set_drives signals only s p) on_true)
    (λ s p. some_set (set_drives signals only s p) on_false) (first parts.1.0) (second parts.1.1))

pub case-adds : (signals : List Signal) (places : List Place) (only : Bool) (subject : Typed) (items : List CaseItem)
    (other : Stmt) (wild : Bool) (a b c : List Mask)
    → ((width : ℕ) → IsTrue (list_all (item_fits signals places width) items)
    → Adds signals a b (λ s p. list_any (item_drives signals only s p) items))
    → (IsTrue (statement_fits signals places other) → Adds signals b c (λ s p. some_set (set_drives signals only s p) other))
    → IsTrue (statement_fits signals places (stmt.Case subject items other wild))
    → Adds signals a c (λ s p. some_set (set_drives signals only s p) (stmt.Case subject items other wild))
case-adds signals places only subject items other wild a b c first second fits =
    adds-as signals a c (λ s p. list_any (item_drives signals only s p) items || some_set (set_drives signals only s p) other)
    (λ s p. some_set (set_drives signals only s p) (stmt.Case subject items other wild))
    (λ s p. sym (case-sets (set_drives signals only s p) subject items other wild))
    (adds-then signals a b c (λ s p. list_any (item_drives signals only s p) items) (λ s p. some_set (set_drives signals only s p) other)
    (first subject.width (case-fits signals places subject items other wild fits))
    (second (case-ends signals places subject items other wild fits).1))

pub set-adds : (signals : List Signal) (places : List Place) (only : Bool) (place : ℕ) (target : Target) (e : Typed)
    (later : Bool) (a b : List Mask) → not (only && later) ≡ true
    → (IsTrue (list_all (part_fits signals) target.parts) → Adds signals a b (λ s p. list_any (part_drives signals s p) target.parts))
    → IsTrue (statement_fits signals places (stmt.Set place target e later))
    → Adds signals a b (λ s p. some_set (set_drives signals only s p) (stmt.Set place target e later))
set-adds signals places only place target e later a b counts adds fits =
    adds-as signals a b (λ s p. list_any (part_drives signals s p) target.parts)
    (λ s p. some_set (set_drives signals only s p) (stmt.Set place target e later))
    (λ s p. sym (ap (λ t. t && list_any (part_drives signals s p) target.parts) counts))
    (adds (set-parts signals places place target.parts e fits))
