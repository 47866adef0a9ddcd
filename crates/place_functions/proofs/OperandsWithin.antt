-- What the right side of a place of a well-formed design reads: bits that its signals have, each of which is in the list of the
-- place's operands.
use Rattle.std.proofs.Common.{ℕ, ◌≡◌, ◌<◌, ◌+◌, Bool, true, false, ◌&&◌, ◌||◌, List, subst, arith, ◌⊎◌, inl, inr, Option, Some, None}
use Rattle.std.specs.Prelude.{◌==◌, nat_le}
use Rattle.std.specs.Option.{option_map_or}
use Rattle.std.specs.List.{list_any, list_all}
use Rattle.std.proofs.lemmas.Bool.{or_cases, and_parts, false_from_ne_true, both_ways}
use Rattle.loc_base.proofs.ShelfLists.{list_any-found, list_all-member}
use Rattle.loc_base.proofs.ShelfBools.{not-true}
use Rattle.design_core.specs.declared.signal.Signal.{Signal}
use Rattle.design_core.specs.declared.place.Place.{Place}
use Rattle.design_core.specs.declared.expression.Typed.{Typed}
use Rattle.design_core.specs.declared.statement.Part.{Part}
use Rattle.design_core.specs.declared.statement.Stmt.{Stmt, Row_of-Stmt, end_of-Stmt, more_of-Stmt, Row_of-CaseItem, end_of-CaseItem, more_of-CaseItem}
use Rattle.design_core.specs.declared.statement.Stmt.TheVariants.{Nothing, Block', If', Case', Set}
use Rattle.design_core.specs.declared.driver.Driver.{Driver}
use Rattle.design_core.specs.declared.driver.Driver.TheVariants.{Cont, Comb}
use Rattle.design_core.specs.declared.driver.Reset.{Reset}
use Rattle.design_core.specs.declared.driver.Clocked.{Clocked}
use Rattle.design_core.specs.declared.design.Design.{Design}
use Rattle.design_core.specs.Valuation.{width_at}
use Rattle.design_core.specs.Store.{parts_width}
use Rattle.design_core.specs.Reads.{reads}
use Rattle.design_core.specs.WellFormed.{is_width, typed_fits, part_fits, place_fits, assignment_fits, label_fits, statement_fits, statements_fit, items_fit, driver_fits, is_reset_values, reset_fits, clocked_fits, IsWellFormed}
use Rattle.design_core.proofs.ReadsWithin.{reads-below}
use Rattle.place_functions.specs.Operands.{some_value_of, some_value_in, assigns_from, statement_uses, driver_uses, block_uses, is_operand, operands_of, is_own, is_bound}
use Rattle.place_functions.proofs.Passing.{all-any}

-- one of two that hold
one_of : (p q : Bool) (G : Type 0) → (p || q) ≡ true → (p ≡ true → G) → (q ≡ true → G) → G
one_of p q G h f g = by_cases (or_cases p q h)
  where
    by_cases : (p ≡ true) ⊎ (q ≡ true) → G
    by_cases (inl e) = f e
    by_cases (inr e) = g e

-- the right side of an assignment that fits
value-fits : (signals : List Signal) (parts : List Part) (value : Typed) → assignment_fits signals parts value ≡ true → typed_fits signals value ≡ true
value-fits signals parts value fits =
    (and_parts (list_all (part_fits signals) parts && is_width (parts_width signals parts)) (typed_fits signals value)
    (and_parts (list_all (part_fits signals) parts && is_width (parts_width signals parts) && typed_fits signals value) (nat_le (parts_width signals parts) value.width) fits).0).1

value-below : (signals : List Signal) (p s b place : ℕ) (parts : List Part) (value : Typed) → assignment_fits signals parts value ≡ true
    → assigns_from signals p s b place value ≡ true → b < width_at signals s
value-below signals p s b place parts value fits uses =
    reads-below signals s b value (value-fits signals parts value fits) (and_parts (place == p) (reads signals s b value) uses).1

mutual
  statement-below : (signals : List Signal) (places : List Place) (p s b : ℕ) (statement : Stmt) → statement_fits signals places statement ≡ true
      → statement_uses signals p s b statement ≡ true → b < width_at signals s
  statement-below signals places p s b Nothing fits uses = cc
  statement-below signals places p s b (Block' _ statements) fits uses = statements-below signals places p s b statements fits uses
  statement-below signals places p s b (If' test _ (more_of-Stmt on_true end_of-Stmt) _ (more_of-Stmt on_false end_of-Stmt)) fits uses =
      let both = and_parts (typed_fits signals test && statement_fits signals places on_true) (statement_fits signals places on_false) fits in
      one_of (statement_uses signals p s b on_true) (statement_uses signals p s b on_false) (b < width_at signals s) uses
      (statement-below signals places p s b on_true (and_parts (typed_fits signals test) (statement_fits signals places on_true) both.0).1)
      (statement-below signals places p s b on_false both.1)
  statement-below signals places p s b (Case' subject _ items _ (more_of-Stmt other end_of-Stmt) _) fits uses =
      let both = and_parts (typed_fits signals subject && items_fit signals places subject.width items) (statement_fits signals places other) fits in
      one_of (some_value_in (assigns_from signals p s b) items) (statement_uses signals p s b other) (b < width_at signals s) uses
      (items-below signals places p s b subject.width items (and_parts (typed_fits signals subject) (items_fit signals places subject.width items) both.0).1)
      (statement-below signals places p s b other both.1)
  statement-below signals places p s b (Set place target value _) fits uses =
      value-below signals p s b place target.parts value
      (and_parts (assignment_fits signals target.parts value) (place_fits places (parts_width signals target.parts) place) fits).0 uses

  statements-below : {shape : _} (signals : List Signal) (places : List Place) (p s b : ℕ) (row : Row_of-Stmt shape) → statements_fit signals places row ≡ true
      → some_value_of (assigns_from signals p s b) row ≡ true → b < width_at signals s
  statements-below signals places p s b end_of-Stmt fits uses = cc
  statements-below signals places p s b (more_of-Stmt statement rest) fits uses =
      let both = and_parts (statement_fits signals places statement) (statements_fit signals places rest) fits in
      one_of (statement_uses signals p s b statement) (some_value_of (assigns_from signals p s b) rest) (b < width_at signals s) uses
      (statement-below signals places p s b statement both.0) (statements-below signals places p s b rest both.1)

  items-below : {shape : _} (signals : List Signal) (places : List Place) (p s b width : ℕ) (row : Row_of-CaseItem shape) → items_fit signals places width row ≡ true
      → some_value_in (assigns_from signals p s b) row ≡ true → b < width_at signals s
  items-below signals places p s b width end_of-CaseItem fits uses = cc
  items-below signals places p s b width (more_of-CaseItem labels body rest) fits uses =
      let both = and_parts (list_all (label_fits signals width) labels && statement_fits signals places body) (items_fit signals places width rest) fits in
      one_of (statement_uses signals p s b body) (some_value_in (assigns_from signals p s b) rest) (b < width_at signals s) uses
      (statement-below signals places p s b body (and_parts (list_all (label_fits signals width) labels) (statement_fits signals places body) both.0).1)
      (items-below signals places p s b width rest both.1)

driver-below : (signals : List Signal) (places : List Place) (p s b : ℕ) (driver : Driver) → driver_fits signals places driver ≡ true
    → driver_uses signals p s b driver ≡ true → b < width_at signals s
driver-below signals places p s b (Cont target value None _) fits uses = cc
driver-below signals places p s b (Cont target value (Some place) _) fits uses =
    value-below signals p s b place target.parts value
    (and_parts (assignment_fits signals target.parts value) (place_fits places (parts_width signals target.parts) place) fits).0 uses
driver-below signals places p s b (Comb body _) fits uses = statement-below signals places p s b body fits uses

block-below : (d : Design) (p s b : ℕ) (block : Clocked) → clocked_fits d block ≡ true → block_uses d.signals.items p s b block ≡ true
    → b < width_at d.signals.items s
block-below d p s b block fits uses =
    let both = and_parts (statement_fits d.signals.items d.places.items block.body) (option_map_or (reset_fits d) block.reset true) fits in
    one_of (statement_uses d.signals.items p s b block.body) (option_map_or (λ r. statement_uses d.signals.items p s b r.values) block.reset false)
    (b < width_at d.signals.items s) uses
    (statement-below d.signals.items d.places.items p s b block.body both.0) (reset-below block.reset both.1)
  where
    reset-below : (reset : Option Reset) → option_map_or (reset_fits d) reset true ≡ true
        → option_map_or (λ r. statement_uses d.signals.items p s b r.values) reset false ≡ true → b < width_at d.signals.items s
    reset-below None fits uses = cc
    reset-below (Some r) fits uses =
        statement-below d.signals.items d.places.items p s b r.values
        (and_parts (list_any (λ input. input == r.signal) d.inputs.items && width_at d.signals.items r.signal == 1 && is_reset_values r.values)
        (statement_fits d.signals.items d.places.items r.values) fits).1 uses

-- an operand is a bit of a signal
pub operand-below : (d : Design) (p s b : ℕ) → IsWellFormed d → is_operand d p s b ≡ true → b < width_at d.signals.items s
operand-below d p s b well uses =
    one_of (list_any (driver_uses d.signals.items p s b) d.drivers.items) (list_any (block_uses d.signals.items p s b) d.clocked.items)
    (b < width_at d.signals.items s) uses
    (λ by_driver.
    let found = list_any-found (driver_uses d.signals.items p s b) d.drivers.items by_driver in
    driver-below d.signals.items d.places.items p s b found.0
    (list_all-member (driver_fits d.signals.items d.places.items) d.drivers.items found.0 well.drivers found.1) found.2)
    (λ by_block.
    let found = list_any-found (block_uses d.signals.items p s b) d.clocked.items by_block in
    block-below d p s b found.0 (list_all-member (clocked_fits d) d.clocked.items found.0 well.clocked found.1) found.2)

-- what a bound place reads is of no signal that its own block assigns by `=`
pub bound-says : (d : Design) (p s b : ℕ) → IsWellFormed d → is_bound d p ≡ true → is_operand d p s b ≡ true → is_own d p s ≡ false
bound-says d p s b well bound uses =
    false_from_ne_true (is_own d p s)
    (λ own.
    both_ways (list_any (λ operand. is_own d p operand.signal) (operands_of d p))
    (not-true (list_any (λ operand. is_own d p operand.signal) (operands_of d p)) bound)
    (all-any (is_operand d p) (λ operand. is_own d p operand.signal) 0 d.signals.items s b (operand-below d p s b well uses)
    (subst (λ n. is_operand d p n b ≡ true) here uses) (subst (λ n. is_own d p n ≡ true) here own)))
  where
    here : s ≡ 0 + s
    here = omega arith
