-- Private, for the functions inside this crate: what the pieces of a statement leave.
use Rattle.std.specs.Prelude.{ℕ, ◌≡◌, ◌<◌, ◌≤◌, ◌+◌, ◌==◌, ◌&&◌, ◌||◌, bit_or, Bool, true, false, not, if◌then◌else◌, List, [], ◌∷◌, length, find, Option, Some, None}
use Rattle.std.specs.List.{list_any, list_all}
use Rattle.loc_base.specs.Bits.{width_of, value_of}
use Rattle.design_core.specs.declared.signal.Signal.{Signal}
use Rattle.design_core.specs.declared.place.Place.{Place}
use Rattle.design_core.specs.declared.expression.Typed.{Typed}
use Rattle.design_core.specs.declared.statement.Part.{Part}
use Rattle.design_core.specs.declared.statement.Part.TheVariants.{Whole}
use Rattle.design_core.specs.declared.statement.Label.{Label}
use Rattle.design_core.specs.declared.statement.CaseItem.{CaseItem}
use Rattle.design_core.specs.declared.statement.Stmt.{Stmt}
use Rattle.design_core.specs.Valuation.{Valuation, bit}
use Rattle.design_core.specs.After.{Choice, Updates, assigned, matches, after, after_set}
use Rattle.design_core.specs.WellFormed.{typed_fits, statement_fits}
use Rattle.plain_values.specs.Evaluate.{after_list, item_matches}
use Rattle.cycle_code.specs.Program.{Program, Grown, signals_of, count_of}
use Rattle.cycle_code.specs.Cells.{below, updates_in, HasConstants}
use Rattle.cycle_code.specs.Effects.{held_in}
use Rattle.cycle_compile.specs.Compiling.{value_in, Leads, Keeps}

-- ---- jumps
-- what was pushed goes on at a number
pub record Jumps (old new : Program) (target : ℕ) : Type 0 where
  pub grown : Grown old new
  pub goes : (p : Program) (choice : Choice) (V : Valuation) → Grown new p → HasConstants p V
      → Leads p choice (length new.instructions) V target V

-- a run goes on at a lower number, and leaves the cells below a number of them as they were
pub record Passes (p : Program) (choice : Choice) (at lower count : ℕ) (V : Valuation) : Type 0 where
  pub W : Valuation
  pub leads : Leads p choice at V lower W
  pub keeps : Keeps count V W

-- ---- updates
-- a run goes on at a lower number, leaves some updates, and of the other cells those below a number as they were
pub record Carried (p : Program) (choice : Choice) (at lower count : ℕ) (left : Updates) (V : Valuation) : Type 0 where
  pub W : Valuation
  pub leads : Leads p choice at V lower W
  pub updates : updates_in (count_of p) W ≡ left
  pub keeps : (cell b : ℕ) → count_of p + count_of p ≤ cell → cell < count → W cell b ≡ V cell b

-- what was pushed leaves updates that depend on the cells
pub record Carries (old new : Program) (left : Program → Choice → Valuation → Updates) : Type 0 where
  pub grown : Grown old new
  pub leaves : (p : Program) (choice : Choice) (V : Valuation) → Grown new p → HasConstants p V
      → Carried p choice (length new.instructions) (length old.instructions) (length old.widths) (left p choice V) V

-- the updates after statements in order
abbrev pub list_left : List Stmt → Program → Choice → Valuation → Updates
list_left statements p choice V = after_list (signals_of p) choice statements (updates_in (count_of p) V)

-- those after a left side takes what a place assigns for the word of a cell
abbrev pub set_left : ℕ → List Part → ℕ → Bool → Program → Choice → Valuation → Updates
set_left place parts cell later p choice V =
    after_set (signals_of p) parts (bit (assigned choice place (held_in p V cell))) later (updates_in (count_of p) V)

-- and for the value of an expression
abbrev pub assigned_left : ℕ → List Part → Typed → Bool → Program → Choice → Valuation → Updates
assigned_left place parts e later p choice V =
    after_set (signals_of p) parts (bit (assigned choice place (value_in p V e))) later (updates_in (count_of p) V)

-- the signal that a left side of one whole signal names
abbrev pub whole_of : List Part → Option ℕ
whole_of (Whole signal ∷ []) = Some signal
whole_of _ = None

-- ---- tests
-- from a number on, a run goes on at one number where a test of the cells passes, and at another where it doesn't
pub record Tests (old new : Program) (at : ℕ) (test : Program → Valuation → Bool) (hit miss : ℕ) : Type 0 where
  pub grown : Grown old new
  pub within : at ≤ length new.instructions
  pub goes : (p : Program) (choice : Choice) (V : Valuation) → Grown new p → HasConstants p V
      → Passes p choice at (if test p V then hit else miss) (length old.widths) V

-- whether two expressions have one number
abbrev pub same_values : Typed → Typed → Program → Valuation → Bool
same_values left right p V = value_in p V left == value_in p V right

-- whether two cells are equal outside the bits that are 1 in a number
abbrev pub equal_outside : ℕ → ℕ → ℕ → Program → Valuation → Bool
equal_outside wild subject cell p V = bit_or (held_in p V subject) wild == bit_or (held_in p V cell) wild

-- whether a label is equal to what a cell holds
abbrev pub label_equal : ℕ → Label → Program → Valuation → Bool
label_equal subject label p V = matches (signals_of p) (below (count_of p) V) (held_in p V subject) label

-- whether one of some labels is
abbrev pub some_equal : ℕ → List Label → Program → Valuation → Bool
some_equal subject labels p V = list_any (matches (signals_of p) (below (count_of p) V) (held_in p V subject)) labels

-- ---- case items
-- whether a label can be compared with a cell of a width: where it has wild bits, it has that width
abbrev pub label_suits : List Signal → ℕ → Label → Bool
label_suits signals width label =
    typed_fits signals label.value && (value_of label.wild == 0 || label.value.width == width && width_of label.wild == width)

-- whether an item's labels can, and its statement fits
abbrev pub item_suits : List Signal → List Place → ℕ → CaseItem → Bool
item_suits signals places width item = list_all (label_suits signals width) item.labels && statement_fits signals places item.body

-- whether an item has a label with wild bits
abbrev pub has_wild : CaseItem → Bool
has_wild item = list_any (λ label. not (value_of label.wild == 0)) item.labels

-- the first item that has such a label
abbrev pub first_equal : ℕ → List CaseItem → Program → Valuation → Option CaseItem
first_equal subject items p V = find (item_matches (signals_of p) (below (count_of p) V) (held_in p V subject)) items

-- what was pushed carries out an item where it has such a label, and then goes on at `next`; else it does nothing
pub record TakesItem (old new : Program) (next subject : ℕ) (item : CaseItem) : Type 0 where
  pub grown : Grown old new
  pub taken : (p : Program) (choice : Choice) (V : Valuation) → Grown new p → HasConstants p V
      → some_equal subject item.labels p V ≡ true
      → Carried p choice (length new.instructions) next (length old.widths)
      (after (signals_of p) choice item.body (updates_in (count_of p) V)) V
  pub missed : (p : Program) (choice : Choice) (V : Valuation) → Grown new p → HasConstants p V
      → some_equal subject item.labels p V ≡ false
      → Passes p choice (length new.instructions) (length old.instructions) (length old.widths) V

-- what was pushed carries out the first item that has such a label, and then goes on at `next`; else it does nothing
pub record TakesFirst (old new : Program) (next subject : ℕ) (items : List CaseItem) : Type 0 where
  pub grown : Grown old new
  pub taken : (p : Program) (choice : Choice) (V : Valuation) → Grown new p → HasConstants p V
      → (item : CaseItem) → first_equal subject items p V ≡ Some item
      → Carried p choice (length new.instructions) next (length old.widths)
      (after (signals_of p) choice item.body (updates_in (count_of p) V)) V
  pub missed : (p : Program) (choice : Choice) (V : Valuation) → Grown new p → HasConstants p V
      → first_equal subject items p V ≡ None
      → Passes p choice (length new.instructions) (length old.instructions) (length old.widths) V
