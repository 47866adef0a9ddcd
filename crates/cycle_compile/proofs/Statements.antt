-- Statements of each form, from the pieces that carry them out.
use Rattle.std.proofs.Common.{◌≡◌, ℕ, ◌<◌, ◌≤◌, List, length, get_or, sym, refl, ◌∙◌, ap, subst}
use Rattle.std.specs.Prelude.{Bool, false, IsTrue}
use Rattle.std.specs.List.{list_all}
use Rattle.design_core.specs.declared.design.Design.{Design}
use Rattle.design_core.specs.declared.expression.Typed.{Typed}
use Rattle.design_core.specs.declared.statement.Label.{Label}
use Rattle.design_core.specs.declared.statement.Target.{Target}
use Rattle.design_core.specs.declared.statement.CaseItem.{CaseItem}
use Rattle.design_core.specs.declared.statement.Stmt.{Stmt}
use Rattle.design_core.specs.declared.statement.Stmt.TheVariants.{Block, If, Case, Set}
use Rattle.design_core.specs.WellFormed.{typed_fits, statement_fits}
use Rattle.design_core.proofs.StatementSteps.{after_if}
use Rattle.plain_values.specs.Evaluate.{after_list}
use Rattle.plain_values.proofs.EvaluateStatement.{block-value, case-value}
use Rattle.plain_values.proofs.EvaluateValue.{passes_at}
use Rattle.cycle_code.specs.Program.{Program, Grown, signals_of, count_of}
use Rattle.cycle_code.specs.Cells.{width_in, below, updates_in}
use Rattle.cycle_code.specs.Fitting.{is_cell, IsSound}
use Rattle.cycle_code.proofs.GrowthLaws.{width_in-grown}
use Rattle.cycle_compile.specs.Compiling.{is_leaf, Values, Decides, Runs}
use Rattle.cycle_compile.specs.Carrying.{Carries, list_left, assigned_left, Jumps, Tests, some_equal, label_suits, item_suits, TakesFirst}
use Rattle.cycle_compile.specs.Computing.{IsBare}
use Rattle.cycle_compile.proofs.Carrying.{either_left, case_left, Runs-carries, either-runs, placed-carries, first_left, items-carry}

-- ---- what fits goes on to fit
pub statement-fits-grown : (old mid : Program) (statement : Stmt) → Grown old mid
    → IsTrue (statement_fits (signals_of old) old.design.places.items statement)
    → IsTrue (statement_fits (signals_of mid) mid.design.places.items statement)
statement-fits-grown old mid statement grown fits =
    ap (λ (d : Design). statement_fits d.signals.items d.places.items statement) grown.design ∙ fits

pub item-suits-grown : (old mid : Program) (subject : ℕ) (item : CaseItem) → Grown old mid → IsTrue (is_cell old subject)
    → IsTrue (item_suits (signals_of old) old.design.places.items (width_in old.widths subject) item)
    → IsTrue (item_suits (signals_of mid) mid.design.places.items (width_in mid.widths subject) item)
item-suits-grown old mid subject item grown one suits =
    ap (λ (d : Design). item_suits d.signals.items d.places.items (width_in mid.widths subject) item) grown.design
    ∙ ap (λ w. item_suits (signals_of old) old.design.places.items w item) (width_in-grown old mid subject grown one)
    ∙ suits

pub items-suit-grown : (old mid : Program) (subject : ℕ) (items : List CaseItem) → Grown old mid → IsTrue (is_cell old subject)
    → IsTrue (list_all (item_suits (signals_of old) old.design.places.items (width_in old.widths subject)) items)
    → IsTrue (list_all (item_suits (signals_of mid) mid.design.places.items (width_in mid.widths subject)) items)
items-suit-grown old mid subject items grown one suits =
    ap (λ (d : Design). list_all (item_suits d.signals.items d.places.items (width_in mid.widths subject)) items) grown.design
    ∙ ap (λ w. list_all (item_suits (signals_of old) old.design.places.items w) items) (width_in-grown old mid subject grown one)
    ∙ suits

pub labels-suit-grown : (old mid : Program) (subject : ℕ) (labels : List Label) → Grown old mid → IsTrue (is_cell old subject)
    → IsTrue (list_all (label_suits (signals_of old) (width_in old.widths subject)) labels)
    → IsTrue (list_all (label_suits (signals_of mid) (width_in mid.widths subject)) labels)
labels-suit-grown old mid subject labels grown one suits =
    ap (λ (d : Design). list_all (label_suits d.signals.items (width_in mid.widths subject)) labels) grown.design
    ∙ ap (λ w. list_all (label_suits (signals_of old) w) labels) (width_in-grown old mid subject grown one)
    ∙ suits

-- an entry of a list of which all fit
pub entry-fits : {X : Type 0} (test : X → Bool) (xs : List X) (i : ℕ) (x : X) → IsTrue (list_all test xs) → i < length xs
    → x ≡ get_or xs i x → IsTrue (test x)
entry-fits test xs i x all within is = ap test is ∙ passes_at test xs i x all within

-- ---- each form of statement
pub block-runs : (old new : Program) (statement : Stmt) (statements listed : List Stmt) → statement ≡ Block statements → listed ≡ statements
    → Carries old new (list_left listed) → Runs old new statement
block-runs old new statement statements listed is same carries =
    subst (Runs old new) (sym is)
    (Runs-carries (Block statements)
    (λ p choice V.
    ap (λ ss. after_list (signals_of p) choice ss (updates_in (count_of p) V)) same
    ∙ sym (block-value (signals_of p) choice statements (updates_in (count_of p) V)))
    carries)

pub if-runs : (old new : Program) (statement : Stmt) (test : Typed) (on_true on_false : Stmt) → statement ≡ If test on_true on_false
    → Carries old new (either_left test on_true on_false) → Runs old new statement
if-runs old new statement test on_true on_false is carries =
    subst (Runs old new) (sym is)
    (Runs-carries (If test on_true on_false) (λ p choice V. sym
    (after_if (signals_of p) choice test on_true on_false (updates_in (count_of p) V))) carries)

-- a subject's value is that of another expression
pub case-runs : (old new : Program) (statement : Stmt) (subject core : Typed) (items : List CaseItem) (other : Stmt) (wild : Bool)
    → statement ≡ Case subject items other wild → IsBare subject core → Carries old new (case_left core items other)
    → Runs old new statement
case-runs old new statement subject core items other wild is bare carries =
    subst (Runs old new) (sym is)
    (Runs-carries (Case subject items other wild)
    (λ p choice V.
    ap (first_left items other p choice (updates_in (count_of p) V)) (bare.value (signals_of p) (below (count_of p) V))
    ∙ sym (case-value (signals_of p) choice subject items other wild (updates_in (count_of p) V))) carries)

pub set-runs : (old new : Program) (statement : Stmt) (place : ℕ) (target : Target) (e : Typed) (later : Bool)
    → statement ≡ Set place target e later
    → Carries old new (assigned_left place target.parts e later) → Runs old new statement
set-runs old new statement place target e later is carries =
    subst (Runs old new) (sym is) (Runs-carries (Set place target e later) (λ p choice V. refl) carries)

-- ---- the same tests by other words
pub tests-as : (old new : Program) (at subject : ℕ) (labels labels' : List Label) (hit hit' miss miss' : ℕ) → labels ≡ labels'
    → hit ≡ hit' → miss ≡ miss'
    → Tests old new at (some_equal subject labels) hit miss → Tests old new at (some_equal subject labels') hit' miss'
tests-as old new at subject labels labels' hit hit' miss miss' same same_hit same_miss tests =
    subst (λ (n : ℕ). Tests old new at (some_equal subject labels') hit' n) same_miss
    (subst (λ (n : ℕ). Tests old new at (some_equal subject labels') n miss) same_hit
    (subst (λ (ls : List Label). Tests old new at (some_equal subject ls) hit miss) same tests))

pub typed-fits-grown : (old mid : Program) (e : Typed) → Grown old mid → IsTrue (typed_fits (signals_of old) e)
    → IsTrue (typed_fits (signals_of mid) e)
typed-fits-grown old mid e grown fits = ap (λ (d : Design). typed_fits d.signals.items e) grown.design ∙ fits

-- case items that can be compared with a subject can be with the cell that was given for it
pub items-suit-placed : (old mid : Program) (cell width : ℕ) (items : List CaseItem) → Grown old mid → width_in mid.widths cell ≡ width
    → IsTrue (list_all (item_suits (signals_of old) old.design.places.items width) items)
    → IsTrue (list_all (item_suits (signals_of mid) mid.design.places.items (width_in mid.widths cell)) items)
items-suit-placed old mid cell width items grown same suits =
    ap (λ (d : Design). list_all (item_suits d.signals.items d.places.items (width_in mid.widths cell)) items) grown.design
    ∙ ap (λ w. list_all (item_suits (signals_of old) old.design.places.items w) items) same
    ∙ suits

-- ---- whole arms
pub if-whole : (old p1 p2 p3 new : Program) (statement : Stmt) (test : Typed) (on_true on_false first second : Stmt) (next hit miss : ℕ)
    → statement ≡ If test on_true on_false → IsSound p3 → first ≡ on_false → second ≡ on_true → next ≡ length old.instructions
    → hit ≡ length p3.instructions → miss ≡ length p1.instructions → Runs old p1 first → Jumps p1 p2 next → Runs p2 p3 second
    → Decides p3 new test hit miss → Runs old new statement
if-whole old p1 p2 p3 new statement test on_true on_false first second next hit miss is sound same same' at at' at'' runs
    jumps runs' decides =
    if-runs old new statement test on_true on_false is
    (either-runs old p1 p2 p3 new test on_true on_false sound (subst (Runs old p1) same runs) (subst (Jumps p1 p2) at jumps)
    (subst (Runs p2 p3) same' runs')
    (subst (λ (n : ℕ). Decides p3 new test (length p3.instructions) n) at'' (subst (λ (n : ℕ). Decides p3 new test n miss) at' decides)))

pub case-whole : (old p0 p1 p2 new : Program) (statement : Stmt) (subject core : Typed) (items listed : List CaseItem)
    (other last : Stmt) (wild : Bool) (cell next : ℕ)
    → statement ≡ Case subject items other wild → IsBare subject core → IsSound old → IsSound p1 → Grown old p0
    → p0.instructions ≡ old.instructions
    → (is_leaf core.node ≡ false → length old.widths ≤ cell) → last ≡ other → listed ≡ items → next ≡ length p0.instructions
    → Runs p0 p1 last
    → TakesFirst p1 p2 next cell listed → Values p2 new core cell → Runs old new statement
case-whole old p0 p1 p2 new statement subject core items listed other last wild cell next is bare sound sound' placed kept
    fresh same same' at runs takes values =
    case-runs old new statement subject core items other wild is bare
    (placed-carries (first_left items other) old p0 p2 new core cell sound placed kept fresh
    (items-carry p0 p1 p2 cell items other sound' (subst (Runs p0 p1) same runs)
    (subst (λ (is : List CaseItem). TakesFirst p1 p2 (length p0.instructions) cell is) same'
    (subst (λ (n : ℕ). TakesFirst p1 p2 n cell listed) at takes)))
    values)
