-- A bit that a statement that fits assigns is one of its signal.
use Rattle.std.proofs.Common.{ℕ, ◌≡◌, ◌<◌, Bool, true, false, ◌&&◌, List, [], ◌∷◌, inl, inr, Option, Some, None}
use Rattle.std.specs.Prelude.{nat_le, ◌==◌}
use Rattle.std.specs.Option.{option_map_or}
use Rattle.std.specs.List.{list_any, list_all}
use Rattle.std.proofs.lemmas.Bool.{or_cases, and_parts}
use Rattle.design_core.specs.declared.signal.Signal.{Signal}
use Rattle.design_core.specs.declared.place.Place.{Place}
use Rattle.design_core.specs.declared.expression.Typed.{Typed}
use Rattle.design_core.specs.declared.statement.Part.{Part}
use Rattle.design_core.specs.declared.statement.Stmt.{Stmt, Row_of-Stmt, end_of-Stmt, more_of-Stmt, Row_of-CaseItem, end_of-CaseItem, more_of-CaseItem}
use Rattle.design_core.specs.declared.statement.Stmt.TheVariants.{Nothing, Block', If', Case', Set}
use Rattle.design_core.specs.declared.driver.Reset.{Reset}
use Rattle.design_core.specs.declared.driver.Clocked.{Clocked}
use Rattle.design_core.specs.declared.design.Design.{Design}
use Rattle.design_core.specs.Valuation.{width_at}
use Rattle.design_core.specs.Store.{parts_width}
use Rattle.design_core.specs.Drives.{part_drives, some_set_of, some_set_in, statement_drives, block_drives, is_listed}
use Rattle.design_core.specs.WellFormed.{is_width, typed_fits, part_fits, place_fits, assignment_fits, label_fits, statement_fits, statements_fit, items_fit, is_reset_values, reset_fits, clocked_fits}
use Rattle.cycle_sim.proofs.Collecting.{drives-below}

abbrev set_test : List Signal → ℕ → ℕ → List Part → Bool → Bool
set_test signals s b parts later = list_any (part_drives signals s b) parts

-- a bit that a left side assigns is one of its signal
pub parts-below : (signals : List Signal) (s b : ℕ) (parts : List Part) → list_all (part_fits signals) parts ≡ true
    → list_any (part_drives signals s b) parts ≡ true → b < width_at signals s
parts-below signals s b [] fits h = cc
parts-below signals s b (part ∷ parts) fits h =
    let both = and_parts (part_fits signals part) (list_all (part_fits signals) parts) fits in
    elim (or_cases (part_drives signals s b part) (list_any (part_drives signals s b) parts) h) [
      | inl here ↦ drives-below signals s b part both.0 here
      | inr later ↦ parts-below signals s b parts both.1 later
    ]

-- the parts of a procedural assignment that fits do
pub set-parts : (signals : List Signal) (places : List Place) (place : ℕ) (parts : List Part) (e : Typed)
    → (assignment_fits signals parts e && place_fits places (parts_width signals parts) place) ≡ true
    → list_all (part_fits signals) parts ≡ true
set-parts signals places place parts e fits =
    let own = and_parts (assignment_fits signals parts e) (place_fits places (parts_width signals parts) place) fits in
    let values = and_parts (list_all (part_fits signals) parts && is_width (parts_width signals parts)
    && typed_fits signals e) (nat_le (parts_width signals parts) e.width) own.0 in
    let widths = and_parts (list_all (part_fits signals) parts && is_width (parts_width signals parts)) (typed_fits signals e) values.0 in
    (and_parts (list_all (part_fits signals) parts) (is_width (parts_width signals parts)) widths.0).0

mutual
  statement-below : (signals : List Signal) (places : List Place) (s b : ℕ) (statement : Stmt)
      → statement_fits signals places statement ≡ true → statement_drives signals s b statement ≡ true
      → b < width_at signals s
  statement-below signals places s b Nothing fits h = cc
  statement-below signals places s b (Block' _ statements) fits h = statements-below signals places s b statements fits h
  statement-below signals places s b (If' e _ (more_of-Stmt on_true end_of-Stmt) _ (more_of-Stmt on_false end_of-Stmt)) fits h =
      let fit = and_parts (typed_fits signals e && statement_fits signals places on_true) (statement_fits signals places on_false) fits in
      elim (or_cases (statement_drives signals s b on_true) (statement_drives signals s b on_false) h) [
        | inl first ↦ statement-below signals places s b on_true
            (and_parts (typed_fits signals e) (statement_fits signals places on_true) fit.0).1 first
        | inr second ↦ statement-below signals places s b on_false fit.1 second
      ]
  statement-below signals places s b (Case' subject _ items _ (more_of-Stmt other end_of-Stmt) _) fits h =
      let fit = and_parts (typed_fits signals subject && items_fit signals places subject.width items)
      (statement_fits signals places other) fits in
      elim (or_cases (some_set_in (set_test signals s b) items) (statement_drives signals s b other) h) [
        | inl some ↦ items-below signals places s b subject.width items
            (and_parts (typed_fits signals subject) (items_fit signals places subject.width items) fit.0).1 some
        | inr none ↦ statement-below signals places s b other fit.1 none
      ]
  statement-below signals places s b (Set place target e later) fits h =
      parts-below signals s b target.parts (set-parts signals places place target.parts e fits) h

  statements-below : {shape : _} (signals : List Signal) (places : List Place) (s b : ℕ) (statements : Row_of-Stmt shape)
      → statements_fit signals places statements ≡ true
      → some_set_of (set_test signals s b) statements ≡ true → b < width_at signals s
  statements-below signals places s b end_of-Stmt fits h = cc
  statements-below signals places s b (more_of-Stmt statement rest) fits h =
      let fit = and_parts (statement_fits signals places statement) (statements_fit signals places rest) fits in
      elim (or_cases (statement_drives signals s b statement) (some_set_of (set_test signals s b) rest) h) [
        | inl here ↦ statement-below signals places s b statement fit.0 here
        | inr later ↦ statements-below signals places s b rest fit.1 later
      ]

  items-below : {shape : _} (signals : List Signal) (places : List Place) (s b width : ℕ) (items : Row_of-CaseItem shape)
      → items_fit signals places width items ≡ true
      → some_set_in (set_test signals s b) items ≡ true → b < width_at signals s
  items-below signals places s b width end_of-CaseItem fits h = cc
  items-below signals places s b width (more_of-CaseItem labels body rest) fits h =
      let fit = and_parts (list_all (label_fits signals width) labels && statement_fits signals places body)
      (items_fit signals places width rest) fits in
      elim (or_cases (statement_drives signals s b body) (some_set_in (set_test signals s b) rest) h) [
        | inl here ↦ statement-below signals places s b body
            (and_parts (list_all (label_fits signals width) labels) (statement_fits signals places body) fit.0).1 here
        | inr later ↦ items-below signals places s b width rest fit.1 later
      ]

-- and so is one that a clocked block drives
pub block-below : (d : Design) (block : Clocked) (s b : ℕ) → clocked_fits d block ≡ true
    → block_drives d.signals.items s b block ≡ true → b < width_at d.signals.items s
block-below d block s b fits h =
    let fit = and_parts (statement_fits d.signals.items d.places.items block.body) (option_map_or (reset_fits d) block.reset true) fits in
    elim (or_cases (statement_drives d.signals.items s b block.body)
    (option_map_or (λ r. statement_drives d.signals.items s b r.values) block.reset false) h) [
      | inl body ↦ statement-below d.signals.items d.places.items s b block.body fit.0 body
      | inr reset ↦ by_reset block.reset fit.1 reset
    ]
  where
    by_reset : (o : Option Reset) → option_map_or (reset_fits d) o true ≡ true
        → option_map_or (λ r. statement_drives d.signals.items s b r.values) o false ≡ true → b < width_at d.signals.items s
    by_reset None fits h = cc
    by_reset (Some r) fits h =
        statement-below d.signals.items d.places.items s b r.values
        (and_parts (is_listed d r.signal && (width_at d.signals.items r.signal == 1) && is_reset_values r.values)
        (statement_fits d.signals.items d.places.items r.values) fits).1 h
