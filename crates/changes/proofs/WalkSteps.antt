-- What a walk answers of a statement is what it answers of the part that it goes on with.
use Rattle.std.proofs.Common.{◌≡◌, ◌≢◌, ℕ, Bool, List, ap, sym, ◌∙◌, refl, subst, Option, Some, None, find}
use Rattle.std.specs.Prelude.{◌==◌, ◌&&◌, IsTrue, not, true, false}
use Rattle.std.proofs.lemmas.Bool.{cond-true, cond-false, eq-eqb, ne_eqb}
use Rattle.loc_base.specs.declared.bits.Bits.{Bits}
use Rattle.design_core.specs.declared.signal.Signal.{Signal}
use Rattle.design_core.specs.declared.design.Design.{Design}
use Rattle.design_core.specs.declared.expression.Typed.{Typed}
use Rattle.design_core.specs.declared.statement.CaseItem.{CaseItem}
use Rattle.design_core.specs.declared.statement.Stmt.{Stmt}
use Rattle.design_core.specs.declared.statement.Stmt.TheVariants.{Block, If, Case, Set}
use Rattle.design_core.specs.declared.statement.Target.{Target}
use Rattle.design_core.specs.Store.{parts_width}
use Rattle.design_core.specs.WellFormed.{assignment_fits, place_fits, statement_fits}
use Rattle.design_core.specs.Words.{valuation_of}
use Rattle.design_core.specs.Operator.{is_true}
use Rattle.design_core.specs.Value.{value}
use Rattle.design_core.specs.After.{Choice, Updates, after}
use Rattle.design_core.proofs.StatementSteps.{after_if}
use Rattle.plain_values.specs.Evaluate.{after_list, item_matches}
use Rattle.plain_values.proofs.EvaluateStatement.{after_item, block-value, case-value}
use Rattle.changes.specs.Execution.{Execution, executed_in}
use Rattle.changes.specs.Lists.{executed_list}
use Rattle.changes.specs.Moments.{Walks, as_updates}
use Rattle.changes.proofs.ExecutionRows.{block-executed, case-executed, executed_item, if-executed}
use Rattle.changes.proofs.WalkLaws.{is-placed, walks-same}

-- in a block
pub walks-block : (d : Design) (A : Choice) (p : ℕ) (statements : List Stmt) (m : Updates) (side : Option Typed) (now later : List Bits)
    → Walks d p (executed_list d.signals.items A p statements m) (after_list d.signals.items A statements m) side now later
    → Walks d p (executed_in d.signals.items A p (Block statements) m) (after d.signals.items A (Block statements) m) side now later
walks-block d A p statements m side now later h =
    walks-same d p _ _ _ _ side now later
    (sym (block-executed d.signals.items A p statements m)) (sym (block-value d.signals.items A statements m)) h

-- in the arm of a condition that is taken
pub walks-true : (d : Design) (A : Choice) (p : ℕ) (test : Typed) (on_true on_false : Stmt) (m : Updates) (side : Option Typed)
    (now later : List Bits)
    → value d.signals.items m.now test ≢ 0
    → Walks d p (executed_in d.signals.items A p on_true m) (after d.signals.items A on_true m) side now later
    → Walks d p (executed_in d.signals.items A p (If test on_true on_false) m)
    (after d.signals.items A (If test on_true on_false) m) side now later
walks-true d A p test on_true on_false m side now later holds h =
    let signals : List Signal = d.signals.items in
    let taken : is_true (value signals m.now test) ≡ true = ap not (ne_eqb (value signals m.now test) 0 holds) in
    walks-same d p _ _ _ _ side now later
    (sym (if-executed signals A p test on_true on_false m
    ∙ cond-true (is_true (value signals m.now test)) (executed_in signals A p on_true m) (executed_in signals A p on_false m) taken))
    (sym (after_if signals A test on_true on_false m
    ∙ cond-true (is_true (value signals m.now test)) (after signals A on_true m) (after signals A on_false m) taken)) h

pub walks-false : (d : Design) (A : Choice) (p : ℕ) (test : Typed) (on_true on_false : Stmt) (m : Updates) (side : Option Typed)
    (now later : List Bits)
    → value d.signals.items m.now test ≡ 0
    → Walks d p (executed_in d.signals.items A p on_false m) (after d.signals.items A on_false m) side now later
    → Walks d p (executed_in d.signals.items A p (If test on_true on_false) m)
    (after d.signals.items A (If test on_true on_false) m) side now later
walks-false d A p test on_true on_false m side now later fails h =
    let signals : List Signal = d.signals.items in
    let taken : is_true (value signals m.now test) ≡ false = ap not (eq-eqb (value signals m.now test) 0 fails) in
    walks-same d p _ _ _ _ side now later
    (sym (if-executed signals A p test on_true on_false m
    ∙ cond-false (is_true (value signals m.now test)) (executed_in signals A p on_true m) (executed_in signals A p on_false m) taken))
    (sym (after_if signals A test on_true on_false m
    ∙ cond-false (is_true (value signals m.now test)) (after signals A on_true m) (after signals A on_false m) taken)) h

-- in the item of a case that is taken, and in its other statement where none is
pub walks-item : (d : Design) (A : Choice) (p : ℕ) (subject : Typed) (items : List CaseItem) (other : Stmt) (wild : Bool)
    (m : Updates) (item : CaseItem)
    (side : Option Typed) (now later : List Bits)
    → Some item ≡ find (item_matches d.signals.items m.now (value d.signals.items m.now subject)) items
    → Walks d p (executed_in d.signals.items A p item.body m) (after d.signals.items A item.body m) side now later
    → Walks d p (executed_in d.signals.items A p (Case subject items other wild) m)
    (after d.signals.items A (Case subject items other wild) m) side now later
walks-item d A p subject items other wild m item side now later found h =
    let signals : List Signal = d.signals.items in
    walks-same d p _ _ _ _ side now later
    (ap (executed_item signals A p m (executed_in signals A p other m)) found ∙ sym (case-executed signals A p subject items other wild m))
    (ap (after_item signals A m (after signals A other m)) found ∙ sym (case-value signals A subject items other wild m)) h

pub walks-other : (d : Design) (A : Choice) (p : ℕ) (subject : Typed) (items : List CaseItem) (other : Stmt) (wild : Bool) (m : Updates)
    (side : Option Typed) (now later : List Bits)
    → None ≡ find (item_matches d.signals.items m.now (value d.signals.items m.now subject)) items
    → Walks d p (executed_in d.signals.items A p other m) (after d.signals.items A other m) side now later
    → Walks d p (executed_in d.signals.items A p (Case subject items other wild) m)
    (after d.signals.items A (Case subject items other wild) m) side now later
walks-other d A p subject items other wild m side now later none h =
    let signals : List Signal = d.signals.items in
    walks-same d p _ _ _ _ side now later
    (ap (executed_item signals A p m (executed_in signals A p other m)) none ∙ sym (case-executed signals A p subject items other wild m))
    (ap (after_item signals A m (after signals A other m)) none ∙ sym (case-value signals A subject items other wild m)) h

-- in the assignment at the place itself
pub walks-here : (d : Design) (A : Choice) (p own : ℕ) (target : Target) (side : Typed) (is_later : Bool) (now later : List Bits)
    → own ≡ p → IsTrue (statement_fits d.signals.items d.places.items (Set own target side is_later))
    → Walks d p (executed_in d.signals.items A p (Set own target side is_later) (as_updates now later))
    (after d.signals.items A (Set own target side is_later) (as_updates now later)) (Some side) now later
walks-here d A p own target side is_later now later same fits =
    let wide : ℕ = parts_width d.signals.items target.parts in
    let here : Execution = record { side = side; now = valuation_of now } in
    record {
      executes = sym (cond-true (own == p) (Some here) None (eq-eqb own p same));
      fits = is-placed d target.parts side p
          (subst (λ q. (assignment_fits d.signals.items target.parts side && place_fits d.places.items wide q) ≡ true) same fits);
      left = λ none. cc;
    }
