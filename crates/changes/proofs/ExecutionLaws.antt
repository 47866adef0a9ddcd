-- What a place computes in a cycle is what its execution computes, and it has an execution where it computes something.
use Rattle.std.proofs.Common.{ℕ, ◌≡◌, ◌%◌, ◌^◌, Bool, true, false, ◌&&◌, List, [], ◌∷◌, refl, ap, sym, ◌∙◌, Option, Some, None, option_map}
use Rattle.std.specs.Prelude.{◌==◌, if◌then◌else◌, Contains, option_and_then}
use Rattle.std.specs.List.{list_any, list_all}
use Rattle.std.specs.Option.{option_or, option_map_or}
use Rattle.std.proofs.lemmas.Bool.{and_parts, eqb-true}
use Rattle.loc_base.proofs.ShelfLists.{Contains-first, Contains-later, list_all-member}
use Rattle.design_core.specs.declared.signal.Signal.{Signal}
use Rattle.design_core.specs.declared.expression.Typed.{Typed}
use Rattle.design_core.specs.declared.statement.Part.{Part}
use Rattle.design_core.specs.declared.statement.Stmt.{Stmt, Row_of-Stmt, end_of-Stmt, more_of-Stmt, Row_of-CaseItem, end_of-CaseItem, more_of-CaseItem}
use Rattle.design_core.specs.declared.statement.Stmt.TheVariants.{Nothing, Block', If', Case', Set}
use Rattle.design_core.specs.declared.driver.Driver.{Driver}
use Rattle.design_core.specs.declared.driver.Driver.TheVariants.{Cont, Comb}
use Rattle.design_core.specs.declared.driver.Reset.{Reset}
use Rattle.design_core.specs.declared.driver.Clocked.{Clocked}
use Rattle.design_core.specs.declared.design.Design.{Design}
use Rattle.design_core.specs.Explained.{place_width}
use Rattle.design_core.specs.Valuation.{Valuation, width_at}
use Rattle.design_core.specs.Operator.{is_true}
use Rattle.design_core.specs.Value.{value}
use Rattle.design_core.specs.Store.{parts_width}
use Rattle.design_core.specs.After.{Choice, Updates, matches, after}
use Rattle.design_core.specs.Cycle.{is_active}
use Rattle.design_core.specs.Reads.{IsOrder}
use Rattle.design_core.specs.WellFormed.{assignment_fits, place_fits, typed_fits, label_fits, statement_fits, statements_fit, items_fit, driver_fits, is_reset_values, reset_fits, clocked_fits, IsWellFormed}
use Rattle.changes.specs.Reached.{fitted, reached_set, reached_in, reached_all, reached_case, begun, reached_driver, reached_clocked, first_reached, reached}
use Rattle.changes.specs.Execution.{Execution, executed_set, executed_in, executed_all, executed_case, executed_driver, executed_clocked, first_executed, executed, computes_at}
use Rattle.changes.proofs.ReachedAgrees.{comb-begun}
use Rattle.changes.proofs.WalkLaws.{placed-width}

-- ---- by what an answer is made of
map-if : (t : Bool) (f : Execution → ℕ) (x y : Option Execution) (x' y' : Option ℕ) → x' ≡ option_map f x → y' ≡ option_map f y
    → (if t then x' else y') ≡ option_map f (if t then x else y)
map-if true f x y x' y' one other = one
map-if false f x y x' y' one other = other

map-or : (f : Execution → ℕ) (x y : Option Execution) (x' y' : Option ℕ) → x' ≡ option_map f x → y' ≡ option_map f y
    → option_or x' y' ≡ option_map f (option_or x y)
map-or f None y x' y' one other = ap (λ o. option_or o y') one ∙ other
map-or f (Some e) y x' y' one other = ap (λ o. option_or o y') one

map-set : (t : Bool) (f : Execution → ℕ) (e : Execution) (n : ℕ) → (t ≡ true → n ≡ f e)
    → (if t then Some n else None) ≡ option_map f (if t then Some e else None)
map-set true f e n same = ap Some (same refl)
map-set false f e n same = refl

pub set-computes : (d : Design) (p own : ℕ) (parts : List Part) (side : Typed) (V : Valuation)
    → place_fits d.places.items (parts_width d.signals.items parts) own ≡ true
    → reached_set own p (fitted d.signals.items parts (value d.signals.items V side)) ≡ option_map (computes_at d p)
    (executed_set own p side V)
set-computes d p own parts side V fits =
    map-set (own == p) (computes_at d p) (record { side = side; now = V }) (fitted d.signals.items parts (value d.signals.items V side))
    (λ same. ap (λ w. value d.signals.items V side % 2 ^ w)
    (sym (placed-width d parts own fits) ∙ ap (place_width d) (eqb-true own p same)))

mutual
  pub in-computes : (d : Design) (A : Choice) (p : ℕ) (statement : Stmt) (m : Updates)
      → statement_fits d.signals.items d.places.items statement ≡ true
      → reached_in d.signals.items A p statement m ≡ option_map (computes_at d p) (executed_in d.signals.items A p statement m)
  in-computes d A p Nothing m fits = refl
  in-computes d A p (Block' _ statements) m fits = all-computes d A p statements m fits
  in-computes d A p (If' e _ (more_of-Stmt on_true end_of-Stmt) _ (more_of-Stmt on_false end_of-Stmt)) m fits =
      let signals : List Signal = d.signals.items in
      let fit = and_parts (typed_fits signals e && statement_fits signals d.places.items on_true)
      (statement_fits signals d.places.items on_false) fits in
      map-if (is_true (value signals m.now e)) (computes_at d p) (executed_in signals A p on_true m) (executed_in signals A p on_false m)
      (reached_in signals A p on_true m) (reached_in signals A p on_false m)
      (in-computes d A p on_true m (and_parts (typed_fits signals e) (statement_fits signals d.places.items on_true) fit.0).1)
      (in-computes d A p on_false m fit.1)
  in-computes d A p (Case' subject _ items _ (more_of-Stmt other end_of-Stmt) _) m fits =
      let signals : List Signal = d.signals.items in
      let fit = and_parts (typed_fits signals subject && items_fit signals d.places.items subject.width items)
      (statement_fits signals d.places.items other) fits in
      case-computes d A p (value signals m.now subject) subject.width items m (reached_in signals A p other m)
      (executed_in signals A p other m)
      (and_parts (typed_fits signals subject) (items_fit signals d.places.items subject.width items) fit.0).1
      (in-computes d A p other m fit.1)
  in-computes d A p (Set own target side later) m fits =
      set-computes d p own target.parts side m.now
      (and_parts (assignment_fits d.signals.items target.parts side)
      (place_fits d.places.items (parts_width d.signals.items target.parts) own) fits).1

  pub all-computes : {shape : _} (d : Design) (A : Choice) (p : ℕ) (statements : Row_of-Stmt shape) (m : Updates)
      → statements_fit d.signals.items d.places.items statements ≡ true
      → reached_all d.signals.items A p statements m ≡ option_map (computes_at d p) (executed_all d.signals.items A p statements m)
  all-computes d A p end_of-Stmt m fits = refl
  all-computes d A p (more_of-Stmt statement rest) m fits =
      let signals : List Signal = d.signals.items in
      let fit = and_parts (statement_fits signals d.places.items statement) (statements_fit signals d.places.items rest) fits in
      let next : Updates = after signals A statement m in
      map-or (computes_at d p) (executed_in signals A p statement m) (executed_all signals A p rest next)
      (reached_in signals A p statement m) (reached_all signals A p rest next)
      (in-computes d A p statement m fit.0) (all-computes d A p rest next fit.1)

  pub case-computes : {shape : _} (d : Design) (A : Choice) (p subject width : ℕ) (items : Row_of-CaseItem shape) (m : Updates)
      (other : Option ℕ) (other' : Option Execution)
      → items_fit d.signals.items d.places.items width items ≡ true → other ≡ option_map (computes_at d p) other'
      → reached_case d.signals.items A p subject items m other ≡ option_map (computes_at d p)
      (executed_case d.signals.items A p subject items m other')
  case-computes d A p subject width end_of-CaseItem m other other' fits same = same
  case-computes d A p subject width (more_of-CaseItem labels body rest) m other other' fits same =
      let signals : List Signal = d.signals.items in
      let fit = and_parts (list_all (label_fits signals width) labels && statement_fits signals d.places.items body)
      (items_fit signals d.places.items width rest) fits in
      map-if (list_any (matches signals m.now subject) labels) (computes_at d p)
      (executed_in signals A p body m) (executed_case signals A p subject rest m other')
      (reached_in signals A p body m) (reached_case signals A p subject rest m other)
      (in-computes d A p body m (and_parts (list_all (label_fits signals width) labels)
      (statement_fits signals d.places.items body) fit.0).1)
      (case-computes d A p subject width rest m other other' fit.1 same)

-- ---- drivers and clocked blocks
driver-computes : (d : Design) (order : List ℕ) (A : Choice) (V : Valuation) (p : ℕ) (driver : Driver) → IsWellFormed d → IsOrder d order
    → Contains d.drivers.items driver
    → reached_driver d.signals.items A V p driver ≡ option_map (computes_at d p) (executed_driver d.signals.items A V p driver)
driver-computes d order A V p (Cont target side None span) well ordered member = refl
driver-computes d order A V p (Cont target side (Some own) span) well ordered member =
    let fits = list_all-member (driver_fits d.signals.items d.places.items) d.drivers.items
    (Cont target side (Some own) span) well.drivers member in
    set-computes d p own target.parts side V
    (and_parts (assignment_fits d.signals.items target.parts side)
    (place_fits d.places.items (parts_width d.signals.items target.parts) own) fits).1
driver-computes d order A V p (Comb body span) well ordered member =
    comb-begun d order A V p body span well ordered member
    ∙ in-computes d A p body (begun V)
    (list_all-member (driver_fits d.signals.items d.places.items) d.drivers.items (Comb body span) well.drivers member)

reset-computes : (d : Design) (A : Choice) (p : ℕ) (reset : Option Reset) (m : Updates) → option_map_or (reset_fits d) reset true ≡ true
    → option_and_then (λ r. reached_in d.signals.items A p r.values m) reset
    ≡ option_map (computes_at d p) (option_and_then (λ r. executed_in d.signals.items A p r.values m) reset)
reset-computes d A p None m fits = refl
reset-computes d A p (Some r) m fits = in-computes d A p r.values m
    (and_parts _ (statement_fits d.signals.items d.places.items r.values) fits).1

clocked-computes : (d : Design) (A : Choice) (V : Valuation) (p : ℕ) (block : Clocked) → clocked_fits d block ≡ true
    → reached_clocked d.signals.items A V p block ≡ option_map (computes_at d p) (executed_clocked d.signals.items A V p block)
clocked-computes d A V p block fits =
    let signals : List Signal = d.signals.items in
    let fit = and_parts (statement_fits signals d.places.items block.body) (option_map_or (reset_fits d) block.reset true) fits in
    map-if (is_active V block) (computes_at d p)
    (option_and_then (λ r. executed_in signals A p r.values (begun V)) block.reset) (executed_in signals A p block.body (begun V))
    (option_and_then (λ r. reached_in signals A p r.values (begun V)) block.reset) (reached_in signals A p block.body (begun V))
    (reset-computes d A p block.reset (begun V) fit.1) (in-computes d A p block.body (begun V) fit.0)

first-computes : {X : Type 0} (f : Execution → ℕ) (g : X → Option ℕ) (h : X → Option Execution) (xs : List X)
    → ((x : X) → Contains xs x → g x ≡ option_map f (h x)) → first_reached g xs ≡ option_map f (first_executed h xs)
first-computes f g h [] each = refl
first-computes f g h (x ∷ xs) each =
    map-or f (h x) (first_executed h xs) (g x) (first_reached g xs) (each x (Contains-first x xs))
    (first-computes f g h xs (λ y member. each y (Contains-later x xs y member)))

-- in a design whose drivers stand in an order
pub reached-computes : (d : Design) (order : List ℕ) (A : Choice) (V : Valuation) (p : ℕ) → IsWellFormed d → IsOrder d order
    → reached d A V p ≡ option_map (computes_at d p) (executed d A V p)
reached-computes d order A V p well ordered =
    let signals : List Signal = d.signals.items in
    map-or (computes_at d p)
    (first_executed (executed_driver signals A V p) d.drivers.items) (first_executed (executed_clocked signals A V p) d.clocked.items)
    (first_reached (reached_driver signals A V p) d.drivers.items) (first_reached (reached_clocked signals A V p) d.clocked.items)
    (first-computes (computes_at d p) (reached_driver signals A V p) (executed_driver signals A V p) d.drivers.items
    (λ driver member. driver-computes d order A V p driver well ordered member))
    (first-computes (computes_at d p) (reached_clocked signals A V p) (executed_clocked signals A V p) d.clocked.items
    (λ block member. clocked-computes d A V p block (list_all-member (clocked_fits d) d.clocked.items block well.clocked member)))

-- a place that computes nothing isn't executed
pub none-executed : (f : Execution → ℕ) (o : Option Execution) → None ≡ option_map f o → o ≡ None
none-executed f None none = refl
none-executed f (Some e) none = cc
