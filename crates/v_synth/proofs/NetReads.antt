-- What the source nodes of a net weigh where their numbers and widths are those of the design, and where they are not.
use Rattle.std.proofs.Common.{◌≡◌, ℕ, zero, suc, ◌+◌, ◌<◌, ◌≤◌, Bool, true, false, not, List, [], ◌∷◌, length, get_or, sum_by, Contains, refl, sym, ◌∙◌, ap, ap₂, arith}
use Rattle.std.specs.Prelude.{◌==◌, ◌&&◌, if◌then◌else◌, nat_lt, slice_get, Option, Some, None}
use Rattle.std.specs.Option.{option_map_or}
use Rattle.std.specs.List.{list_all}
use Rattle.std.proofs.lemmas.Bool.{and_parts, and_from, lt-ltb, eq-eqb}
use Rattle.std.proofs.lemmas.List.Sums.{sum_by-cons}
use Rattle.std.proofs.lemmas.Option.{slice_get_within}
use Rattle.loc_base.proofs.ShelfLists.{list_all-member, Contains-first, Contains-later}
use Rattle.loc_base.proofs.ShelfOptions.{Some-same}
use Rattle.design_core.specs.declared.signal.Signal.{Signal}
use Rattle.design_core.specs.declared.place.Place.{Place}
use Rattle.design_core.specs.declared.statement.Stmt.{Stmt, Row_of-Stmt, end_of-Stmt, more_of-Stmt, Row_of-CaseItem, end_of-CaseItem, more_of-CaseItem}
use Rattle.design_core.specs.declared.statement.Stmt.TheVariants as stmt
use Rattle.design_core.specs.declared.driver.Driver.{Driver}
use Rattle.design_core.specs.declared.driver.Driver.TheVariants as driver
use Rattle.design_core.specs.declared.driver.Clocked.{Clocked}
use Rattle.design_core.specs.declared.driver.Reset.{Reset}
use Rattle.design_core.specs.declared.design.Design.{Design}
use Rattle.design_core.specs.Valuation.{width_at}
use Rattle.design_core.specs.Reads.{IsOrder}
use Rattle.design_core.specs.Store.{parts_width}
use Rattle.design_core.specs.WellFormed.{IsWellFormed, typed_fits, assignment_fits, place_fits, label_fits, statement_fits, statements_fit, items_fit, driver_fits, clocked_fits, times_in, times_in_all, times_in_items, times_in_driver, times_in_clocked, times_in_design}
use Rattle.word_net.specs.declared.node.Operand.{Operand}
use Rattle.word_net.specs.declared.node.Operation.TheVariants.{Input, State, Free}
use Rattle.word_net.specs.declared.node.WordNode.{WordNode}
use Rattle.synth_parts.specs.Tally.{Weights, weight, tally, placed_in, placed_in_all, placed_in_items, placed_in_driver, placed_in_clocked, placed_in_design}
use Rattle.v_synth.specs.Net.{net_of, states_of}
use Rattle.v_synth.proofs.Blocks.{reset-parts, block-parts}
use Rattle.v_synth.proofs.NetTallies.{begun-light, net-tally}

-- ---- a tally bounds each node

pub node-weight : (w : Weights) (nodes : List WordNode) (i : ℕ) (node : WordNode) → slice_get nodes i ≡ Some node → weight w node.width node.operation ≤ tally w nodes
unfolding tally
node-weight w [] i node at = absurd (omega (arith, slice_get_within [] i node at))
node-weight w (first ∷ nodes) zero node at =
    let same : first ≡ node = Some-same at in
    let is : weight w first.width first.operation ≡ weight w node.width node.operation = ap (λ (n : WordNode). weight w n.width n.operation) same in
    omega (arith, is)
node-weight w (first ∷ nodes) (suc i) node at = omega (arith, node-weight w nodes i node at)

-- 1 where it holds
abbrev pub once : Bool → ℕ
once t = if t then 1 else 0

-- ---- assignments of places weigh nothing where those that fit do

-- an assignment of a place that there is, of its width, weighs nothing
pub record ArePlaced (w : Weights) (places : List Place) : Type 0 where
  pub none : (width p : ℕ) → place_fits places width p ≡ true → w.place width p ≡ 0

mutual
  none-in : (w : Weights) (signals : List Signal) (places : List Place) (s : Stmt) → ArePlaced w places → statement_fits signals places s ≡ true → placed_in w signals s ≡ 0
  none-in w signals places stmt.Nothing light fits = refl
  none-in w signals places (stmt.Block' _ statements) light fits = none-in_all w signals places statements light fits
  none-in w signals places (stmt.If' test _ (more_of-Stmt on_true end_of-Stmt) _ (more_of-Stmt on_false end_of-Stmt)) light fits =
      let x : Bool = typed_fits signals test in
      let y : Bool = statement_fits signals places on_true in
      let f = and_parts (x && y) (statement_fits signals places on_false) fits in
      omega (arith, none-in w signals places on_true light (and_parts x y f.0).1, none-in w signals places on_false light f.1)
  none-in w signals places (stmt.Case' subject _ items _ (more_of-Stmt other end_of-Stmt) _) light fits =
      let x : Bool = typed_fits signals subject in
      let y : Bool = items_fit signals places subject.width items in
      let f = and_parts (x && y) (statement_fits signals places other) fits in
      omega (arith, none-in_items w signals places subject.width items light (and_parts x y f.0).1, none-in w signals places other light f.1)
  none-in w signals places (stmt.Set place target computed later) light fits =
      let width : ℕ = parts_width signals target.parts in
      light.none width place (and_parts (assignment_fits signals target.parts computed) (place_fits places width place) fits).1

  none-in_all : {shape : _} (w : Weights) (signals : List Signal) (places : List Place) (row : Row_of-Stmt shape) → ArePlaced w places → statements_fit signals places row ≡ true → placed_in_all w signals row ≡ 0
  none-in_all w signals places end_of-Stmt light fits = refl
  none-in_all w signals places (more_of-Stmt statement rest) light fits =
      let f = and_parts (statement_fits signals places statement) (statements_fit signals places rest) fits in
      omega (arith, none-in w signals places statement light f.0, none-in_all w signals places rest light f.1)

  none-in_items : {shape : _} (w : Weights) (signals : List Signal) (places : List Place) (width : ℕ) (row : Row_of-CaseItem shape) → ArePlaced w places → items_fit signals places width row ≡ true → placed_in_items w signals row ≡ 0
  none-in_items w signals places width end_of-CaseItem light fits = refl
  none-in_items w signals places width (more_of-CaseItem labels body rest) light fits =
      let x : Bool = list_all (label_fits signals width) labels in
      let y : Bool = statement_fits signals places body in
      let f = and_parts (x && y) (items_fit signals places width rest) fits in
      omega (arith, none-in w signals places body light (and_parts x y f.0).1, none-in_items w signals places width rest light f.1)

none-driver : (w : Weights) (signals : List Signal) (places : List Place) (d : Driver) → ArePlaced w places → driver_fits signals places d ≡ true → placed_in_driver w signals d ≡ 0
none-driver w signals places (driver.Cont target computed None _) light fits = refl
none-driver w signals places (driver.Cont target computed (Some place) _) light fits =
    let width : ℕ = parts_width signals target.parts in
    light.none width place (and_parts (assignment_fits signals target.parts computed) (place_fits places width place) fits).1
none-driver w signals places (driver.Comb body _) light fits = none-in w signals places body light fits

none-block : (w : Weights) (d : Design) (block : Clocked) → ArePlaced w d.places.items → clocked_fits d block ≡ true → placed_in_clocked w d.signals.items block ≡ 0
none-block w d block light fits =
    let parts = block-parts d block fits in
    omega (arith, none-in w d.signals.items d.places.items block.body light parts.0, resets block.reset refl)
  where
    resets : (o : Option Reset) → block.reset ≡ o → option_map_or (λ r. placed_in w d.signals.items r.values) o 0 ≡ 0
    resets None is = refl
    resets (Some r) is = none-in w d.signals.items d.places.items r.values light (reset-parts d r ((block-parts d block fits).1 r is)).1

sum-none : {X : Type 0} (f : X → ℕ) (xs : List X) → ((x : X) → Contains xs x → f x ≡ 0) → sum_by f xs ≡ 0
sum-none f [] none = refl
sum-none f (x ∷ xs) none = omega (arith, sum_by-cons f x xs, none x (Contains-first x xs), sum-none f xs (λ y member. none y (Contains-later x xs y member)))

pub none-design : (w : Weights) (d : Design) → IsWellFormed d → ArePlaced w d.places.items → placed_in_design w d ≡ 0
none-design w d well light =
    omega (
      arith,
      sum-none (placed_in_driver w d.signals.items) d.drivers.items
          (λ x member. none-driver w d.signals.items d.places.items x light (list_all-member (driver_fits d.signals.items d.places.items) d.drivers.items x well.drivers member)),
      sum-none (placed_in_clocked w d.signals.items) d.clocked.items (λ x member. none-block w d x light (list_all-member (clocked_fits d) d.clocked.items x well.clocked member)),
    )

-- ---- how often a place is assigned

unfoldable pub of_place : ℕ → Weights
of_place p = record { input = λ _ _. 0; state = λ _ _. 0; place = λ _ q. once (q == p) }

mutual
  unfolding of_place

  times-in : (p : ℕ) (signals : List Signal) (s : Stmt) → placed_in (of_place p) signals s ≡ times_in p s
  times-in p signals stmt.Nothing = refl
  times-in p signals (stmt.Block' _ statements) = times-in_all p signals statements
  times-in p signals (stmt.If' _ _ (more_of-Stmt on_true end_of-Stmt) _ (more_of-Stmt on_false end_of-Stmt)) = ap₂ (λ a b. a + b) (times-in p signals on_true) (times-in p signals on_false)
  times-in p signals (stmt.Case' _ _ items _ (more_of-Stmt other end_of-Stmt) _) = ap₂ (λ a b. a + b) (times-in_items p signals items) (times-in p signals other)
  times-in p signals (stmt.Set place target computed later) = refl

  times-in_all : {shape : _} (p : ℕ) (signals : List Signal) (row : Row_of-Stmt shape) → placed_in_all (of_place p) signals row ≡ times_in_all p row
  times-in_all p signals end_of-Stmt = refl
  times-in_all p signals (more_of-Stmt statement rest) = ap₂ (λ a b. a + b) (times-in p signals statement) (times-in_all p signals rest)

  times-in_items : {shape : _} (p : ℕ) (signals : List Signal) (row : Row_of-CaseItem shape) → placed_in_items (of_place p) signals row ≡ times_in_items p row
  times-in_items p signals end_of-CaseItem = refl
  times-in_items p signals (more_of-CaseItem _ body rest) = ap₂ (λ a b. a + b) (times-in p signals body) (times-in_items p signals rest)

times-driver : (p : ℕ) (signals : List Signal) (d : Driver) → placed_in_driver (of_place p) signals d ≡ times_in_driver p d
unfolding of_place
times-driver p signals (driver.Cont target computed None _) = refl
times-driver p signals (driver.Cont target computed (Some place) _) = refl
times-driver p signals (driver.Comb body _) = times-in p signals body

times-block : (p : ℕ) (signals : List Signal) (block : Clocked) → placed_in_clocked (of_place p) signals block ≡ times_in_clocked p block
times-block p signals block = ap₂ (λ a b. a + b) (times-in p signals block.body) (resets block.reset)
  where
    resets : (o : Option Reset) → option_map_or (λ r. placed_in (of_place p) signals r.values) o 0 ≡ option_map_or (λ r. times_in p r.values) o 0
    resets None = refl
    resets (Some r) = times-in p signals r.values

sum-alike : {X : Type 0} (f g : X → ℕ) (xs : List X) → ((x : X) → f x ≡ g x) → sum_by f xs ≡ sum_by g xs
sum-alike f g [] same = refl
sum-alike f g (x ∷ xs) same = sum_by-cons f x xs ∙ ap₂ (λ a b. a + b) (same x) (sum-alike f g xs same) ∙ sym (sum_by-cons g x xs)

times-design : (p : ℕ) (d : Design) → placed_in_design (of_place p) d ≡ times_in_design d p
times-design p d =
    ap₂ (λ a b. a + b) (sum-alike (placed_in_driver (of_place p) d.signals.items) (times_in_driver p) d.drivers.items (times-driver p d.signals.items))
    (sum-alike (placed_in_clocked (of_place p) d.signals.items) (times_in_clocked p) d.clocked.items (times-block p d.signals.items))

-- the nodes of a place are as many as the design has
pub place-tally : (d : Design) (order : List ℕ) (p : ℕ) → IsOrder d order → tally (of_place p) (net_of d order).nodes ≡ placed_in_design (of_place p) d
unfolding of_place
place-tally d order p ordered =
    omega (arith, net-tally (of_place p) d order ordered, begun-light (of_place p) d (record { input = λ _ _ _ _. refl; state = λ _ _ _ _. refl }))

pub place-once : (d : Design) (order : List ℕ) (p : ℕ) → IsWellFormed d → IsOrder d order → p < length d.places.items → tally (of_place p) (net_of d order).nodes ≡ 1
place-once d order p well ordered low = place-tally d order p ordered ∙ times-design p d ∙ well.each_place_once p low

-- ---- nodes that read what the design does not have

-- whether a number in a list of signals is that of a signal of a width
abbrev pub is_listed_as : Design → List ℕ → ℕ → ℕ → Bool
is_listed_as d signals width i = nat_lt i (length signals) && (width == width_at d.signals.items (get_or signals i 0))

-- what the design does not have weighs 1
pub misread : Design → Weights
misread d = record {
  input = λ width i. once (not (is_listed_as d d.inputs.items width i));
  state = λ width i. once (not (is_listed_as d (states_of d) width i));
  place = λ width p. once (not (place_fits d.places.items width p));
}

listed-none : (d : Design) (signals : List ℕ) (s i : ℕ) → i < length signals → get_or signals i 0 ≡ s → once (not (is_listed_as d signals (width_at d.signals.items s) i)) ≡ 0
listed-none d signals s i low is =
    ap (λ t. once (not t))
    (and_from (nat_lt i (length signals)) (width_at d.signals.items s == width_at d.signals.items (get_or signals i 0)) (lt-ltb i (length signals) low)
    (eq-eqb (width_at d.signals.items s) (width_at d.signals.items (get_or signals i 0)) (ap (width_at d.signals.items) (sym is))))

pub misread-none : (d : Design) (order : List ℕ) → IsWellFormed d → IsOrder d order → tally (misread d) (net_of d order).nodes ≡ 0
unfolding misread
misread-none d order well ordered =
    omega (
      arith,
      net-tally (misread d) d order ordered,
      begun-light (misread d) d (record { input = listed-none d d.inputs.items; state = listed-none d (states_of d) }),
      none-design (misread d) d well (record { none = λ width p fits. ap (λ t. once (not t)) fits }),
    )

once-none : (t : Bool) → once (not t) ≡ 0 → t ≡ true
once-none true none = refl
once-none false none = absurd (omega (arith, none))

-- a node of the net weighs nothing
misread-node : (d : Design) (order : List ℕ) (i : ℕ) (node : WordNode) → IsWellFormed d → IsOrder d order → slice_get (net_of d order).nodes i ≡ Some node → weight (misread d) node.width node.operation ≡ 0
misread-node d order i node well ordered at = omega (arith, node-weight (misread d) (net_of d order).nodes i node at, misread-none d order well ordered)

pub input-read : (d : Design) (order : List ℕ) (i k : ℕ) (node : WordNode) → IsWellFormed d → IsOrder d order → slice_get (net_of d order).nodes i ≡ Some node → node.operation ≡ Input k
    → is_listed_as d d.inputs.items node.width k ≡ true
unfolding misread
input-read d order i k node well ordered at is = once-none (is_listed_as d d.inputs.items node.width k) (sym (ap (weight (misread d) node.width) is) ∙ misread-node d order i node well ordered at)

pub state-read : (d : Design) (order : List ℕ) (i k : ℕ) (node : WordNode) → IsWellFormed d → IsOrder d order → slice_get (net_of d order).nodes i ≡ Some node → node.operation ≡ State k
    → is_listed_as d (states_of d) node.width k ≡ true
unfolding misread
state-read d order i k node well ordered at is = once-none (is_listed_as d (states_of d) node.width k) (sym (ap (weight (misread d) node.width) is) ∙ misread-node d order i node well ordered at)

pub place-read : (d : Design) (order : List ℕ) (i p : ℕ) (node : WordNode) (computed : Operand) → IsWellFormed d → IsOrder d order → slice_get (net_of d order).nodes i ≡ Some node → node.operation ≡ Free p computed
    → place_fits d.places.items node.width p ≡ true
unfolding misread
place-read d order i p node computed well ordered at is = once-none (place_fits d.places.items node.width p) (sym (ap (weight (misread d) node.width) is) ∙ misread-node d order i node well ordered at)
