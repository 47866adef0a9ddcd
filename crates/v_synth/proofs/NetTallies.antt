-- What the nodes of a net weigh: inputs and states once each, and a place as often as the design has it.
use Rattle.std.proofs.Common.{◌≡◌, ◌≢◌, ℕ, zero, suc, ◌+◌, ◌*◌, ◌<◌, ◌≤◌, Bool, true, false, List, [], ◌∷◌, ◌++◌, length, map, get_or, set, sum_by, AllPairs, All, Contains, refl, sym, ◌∙◌, ap, ap₂, subst, arith, append_assoc, length-append, ◌⊎◌, inl, inr}
use Rattle.std.specs.Prelude.{◌==◌, if◌then◌else◌, slice_get, Option, Some, None}
use Rattle.std.specs.Option.{option_map_or}
use Rattle.std.specs.List.{list_all}
use Rattle.std.proofs.lemmas.Bool.{lt-ltb, cases_lt, cases_eq}
use Rattle.std.proofs.lemmas.List.{get_or-set_same, get_or-set_other, length-set, length-map}
use Rattle.std.proofs.lemmas.List.Sums.{sum_by-cons, sum_by-set, sum-map}
use Rattle.std.proofs.lemmas.Option.{slice_get_past}
use Rattle.std.proofs.Math.ListN.{get_or-eq_default}
use Rattle.std.proofs.Math.Seq.{get_or-append_seam}
use Rattle.loc_base.proofs.ShelfLists.{Contains-empty, Contains-first, Contains-later, Contains-cons}
use Rattle.design_core.specs.declared.signal.Signal.{Signal}
use Rattle.design_core.specs.declared.expression.UnaryOp.TheVariants as unary_op
use Rattle.design_core.specs.declared.driver.Driver.{Driver}
use Rattle.design_core.specs.declared.driver.Clocked.{Clocked}
use Rattle.design_core.specs.declared.driver.Reset.{Reset}
use Rattle.design_core.specs.declared.statement.Stmt.{Stmt}
use Rattle.design_core.specs.declared.design.Design.{Design}
use Rattle.design_core.specs.Valuation.{width_at}
use Rattle.design_core.specs.Drives.{is_listed}
use Rattle.design_core.specs.Reads.{IsOrder}
use Rattle.design_core.specs.WellFormed.{signal_fits}
use Rattle.design_core.proofs.Lists.{All-later, AllPairs-first, AllPairs-later}
use Rattle.word_net.specs.declared.node.Operation.TheVariants as operation
use Rattle.word_net.specs.declared.node.WordNode.{WordNode}
use Rattle.word_net.specs.Build.{Made, made, pushed}
use Rattle.synth_parts.specs.Expression.{unsigned}
use Rattle.synth_parts.specs.Store.{Nodes}
use Rattle.synth_parts.specs.Statement.{Maps, maps, statement_made}
use Rattle.synth_parts.specs.Driver.{driver_at_made, drivers_made}
use Rattle.synth_parts.specs.Tally.{Weights, tally, placed_in, placed_in_driver, placed_in_clocked, placed_in_design}
use Rattle.synth_parts.proofs.Base.{signal-at, width-bounds}
use Rattle.synth_parts.proofs.Tallies.{tally-pushed, light, statement-tally, driver-tally}
use Rattle.v_synth.specs.declared.clocked.Turn.{Turn}
use Rattle.v_synth.specs.declared.clocked.Turn.TheVariants.{When, Unless, Always}
use Rattle.v_synth.specs.Clocked.{has_state, place_in, inputs_made, masked_made, state_made, first_made, signals_made, begun_made, own_mask, left_at, turned_made, own_made, owns_made, left_made, active_made, reset_made, resets_made, body_made, bodies_made}
use Rattle.v_synth.specs.Net.{states_from, states_of, nexts_made, net_of}

-- ---- inputs and states

masked-tally : (w : Weights) (d : Design) (nodes : List WordNode) (s word : ℕ) → tally w (masked_made d nodes s word).nodes ≡ tally w nodes
unfolding masked_made
masked-tally w d nodes s word = light w _ (width_at d.signals.items s) _ refl ∙ light w nodes (width_at d.signals.items s) _ refl

state-tally : (w : Weights) (d : Design) (nodes : List WordNode) (s state : ℕ) → tally w (state_made d nodes s state).nodes ≡ tally w nodes + w.state (width_at d.signals.items s) state
unfolding state_made
state-tally w d nodes s state = masked-tally w d _ s _ ∙ tally-pushed w nodes (width_at d.signals.items s) (operation.State state)

-- weights of inputs and states are at most their widths
pub record IsByWidth (w : Weights) : Type 0 where
  pub input : (width i : ℕ) → w.input width i ≤ width
  pub state : (width i : ℕ) → w.state width i ≤ width

most-width : (signals : List Signal) (s : ℕ) → list_all signal_fits signals ≡ true → width_at signals s ≤ 128
most-width signals s fits = at (cases_lt s (length signals))
  where
    at : (s < length signals) ⊎ (length signals ≤ s) → width_at signals s ≤ 128
    at (inl low) = (width-bounds (width_at signals s) (signal-at signals s fits (lt-ltb s (length signals) low)).0).1
    at (inr past) =
        let none : width_at signals s ≡ 0 = ap (λ o. option_map_or (λ x. x.width) o 0) (slice_get_past signals s past) in omega (arith, none)

inputs-most : (w : Weights) (d : Design) (nodes : List WordNode) (place : ℕ) (inputs : List ℕ) → list_all signal_fits d.signals.items ≡ true → IsByWidth w
    → tally w (inputs_made d nodes place inputs) ≤ tally w nodes + 128 * length inputs
unfolding inputs_made
inputs-most w d nodes place [] fits by = omega arith
inputs-most w d nodes place (input ∷ inputs) fits by =
    let width : ℕ = width_at d.signals.items input in
    omega (arith, inputs-most w d (pushed nodes width (operation.Input place)).nodes (place + 1) inputs fits by, tally-pushed w nodes width (operation.Input place), by.input width place, most-width d.signals.items input fits)

first-most : (w : Weights) (d : Design) (nodes : List WordNode) (s state : ℕ) → list_all signal_fits d.signals.items ≡ true → IsByWidth w → tally w (first_made d nodes s state).nodes ≤ tally w nodes + 128
unfolding first_made
first-most w d nodes s state fits by = at (is_listed d s) (has_state d s)
  where
    width : ℕ
    width = width_at d.signals.items s

    at : (t u : Bool) → tally w (if t then made nodes (place_in d.inputs.items s) else (if u then state_made d nodes s state else pushed nodes width (operation.Const 0))).nodes ≤ tally w nodes + 128
    at true u = omega arith
    at false true = omega (arith, state-tally w d nodes s state, by.state width state, most-width d.signals.items s fits)
    at false false = omega (arith, light w nodes width (operation.Const 0) refl)

signals-most : (w : Weights) (d : Design) (nodes : List WordNode) (nodes_of : List ℕ) (state s more : ℕ) → list_all signal_fits d.signals.items ≡ true → IsByWidth w
    → tally w (signals_made d nodes nodes_of state s more).nodes ≤ tally w nodes + 128 * more
unfolding signals_made
signals-most w d nodes nodes_of state s zero fits by = omega arith
signals-most w d nodes nodes_of state s (suc more) fits by =
    let m : Made = first_made d nodes s state in
    omega (arith, signals-most w d m.nodes (nodes_of ++ m.node ∷ []) (if has_state d s then state + 1 else state) (s + 1) more fits by, first-most w d nodes s state fits by)

pub begun-most : (w : Weights) (d : Design) → list_all signal_fits d.signals.items ≡ true → IsByWidth w → tally w (begun_made d).nodes ≤ 128 * length d.inputs.items + 128 * length d.signals.items
unfolding begun_made tally
begun-most w d fits by =
    omega (arith, signals-most w d (inputs_made d [] 0 d.inputs.items) [] 0 0 (length d.signals.items) fits by, inputs-most w d [] 0 d.inputs.items fits by)

-- inputs and states that are numbered as they are in the design weigh 0
pub record AreLight (w : Weights) (d : Design) : Type 0 where
  pub input : (s i : ℕ) → i < length d.inputs.items → get_or d.inputs.items i 0 ≡ s → w.input (width_at d.signals.items s) i ≡ 0
  pub state : (s i : ℕ) → i < length (states_of d) → get_or (states_of d) i 0 ≡ s → w.state (width_at d.signals.items s) i ≡ 0

inputs-light : (w : Weights) (d : Design) (nodes : List WordNode) (place : ℕ) (inputs prefix : List ℕ) → AreLight w d → d.inputs.items ≡ prefix ++ inputs → length prefix ≡ place → tally w (inputs_made d nodes place inputs) ≡ tally w nodes
unfolding inputs_made
inputs-light w d nodes place [] prefix none whole long = refl
inputs-light w d nodes place (input ∷ inputs) prefix none whole long =
    let width : ℕ = width_at d.signals.items input in
    let many : length d.inputs.items ≡ length prefix + suc (length inputs) = ap length whole ∙ length-append prefix (input ∷ inputs) in
    let here : w.input width place ≡ 0 =
    none.input input place (omega (arith, many, long)) (ap (λ xs. get_or xs place 0) whole ∙ ap (λ k. get_or (prefix ++ input ∷ inputs) k 0) (sym long) ∙ get_or-append_seam prefix input inputs 0) in
    inputs-light w d (pushed nodes width (operation.Input place)).nodes (place + 1) inputs (prefix ++ input ∷ []) none (whole ∙ sym (append_assoc prefix (input ∷ []) inputs)) (omega (arith, length-append prefix (input ∷ []), long))
    ∙ light w nodes width (operation.Input place) here

first-light : (w : Weights) (d : Design) (nodes : List WordNode) (s state : ℕ) → (has_state d s ≡ true → w.state (width_at d.signals.items s) state ≡ 0) → tally w (first_made d nodes s state).nodes ≡ tally w nodes
unfolding first_made
first-light w d nodes s state none = at (is_listed d s) (has_state d s) refl
  where
    width : ℕ
    width = width_at d.signals.items s

    at : (t u : Bool) → has_state d s ≡ u → tally w (if t then made nodes (place_in d.inputs.items s) else (if u then state_made d nodes s state else pushed nodes width (operation.Const 0))).nodes ≡ tally w nodes
    at true u is = refl
    at false true is = omega (arith, state-tally w d nodes s state, none is)
    at false false is = light w nodes width (operation.Const 0) refl

signals-light : (w : Weights) (d : Design) (nodes : List WordNode) (nodes_of : List ℕ) (state s more : ℕ) (prefix : List ℕ) → AreLight w d → states_of d ≡ prefix ++ states_from d s more → length prefix ≡ state
    → tally w (signals_made d nodes nodes_of state s more).nodes ≡ tally w nodes
unfolding signals_made
signals-light w d nodes nodes_of state s zero prefix none states long = refl
signals-light w d nodes nodes_of state s (suc more) prefix none states long =
    let m : Made = first_made d nodes s state in
    let (p, is, n) = next (has_state d s) refl in
    signals-light w d m.nodes (nodes_of ++ m.node ∷ []) (if has_state d s then state + 1 else state) (s + 1) more p none is n ∙ first-light w d nodes s state here
  where
    rest : List ℕ
    rest = states_from d (s + 1) more

    here : has_state d s ≡ true → w.state (width_at d.signals.items s) state ≡ 0
    here has =
        let whole : states_of d ≡ prefix ++ s ∷ rest = states ∙ ap (λ t. prefix ++ (if t then s ∷ rest else rest)) has in
        let many : length (states_of d) ≡ length prefix + suc (length rest) = ap length whole ∙ length-append prefix (s ∷ rest) in
        none.state s state (omega (arith, many, long)) (ap (λ xs. get_or xs state 0) whole ∙ ap (λ k. get_or (prefix ++ s ∷ rest) k 0) (sym long) ∙ get_or-append_seam prefix s rest 0)

    next : (t : Bool) → has_state d s ≡ t → (p : List ℕ) × (states_of d ≡ p ++ rest) × (length p ≡ (if has_state d s then state + 1 else state))
    next true is = (
      prefix ++ s ∷ [],
      states ∙ ap (λ t. prefix ++ (if t then s ∷ rest else rest)) is ∙ sym (append_assoc prefix (s ∷ []) rest),
      rw is (omega (arith, length-append prefix (s ∷ []), long)),
    )
    next false is = (prefix, states ∙ ap (λ t. prefix ++ (if t then s ∷ rest else rest)) is, rw is long)

pub begun-light : (w : Weights) (d : Design) → AreLight w d → tally w (begun_made d).nodes ≡ 0
unfolding begun_made tally
begun-light w d none = signals-light w d (inputs_made d [] 0 d.inputs.items) [] 0 0 (length d.signals.items) [] none refl refl ∙ inputs-light w d [] 0 d.inputs.items [] none refl refl

-- ---- drivers

-- how much the assignments of the driver of a number weigh
abbrev placed_at : Weights → List Signal → List Driver → ℕ → ℕ
placed_at w signals drivers i = option_map_or (placed_in_driver w signals) (slice_get drivers i) 0

at-tally : (w : Weights) (signals : List Signal) (nodes : List WordNode) (nodes_of : List ℕ) (o : Option Driver)
    → tally w (driver_at_made signals nodes nodes_of o).nodes ≡ tally w nodes + option_map_or (placed_in_driver w signals) o 0
unfolding driver_at_made
at-tally w signals nodes nodes_of None = omega arith
at-tally w signals nodes nodes_of (Some driver) = driver-tally w signals nodes nodes_of driver

drivers-tally : (w : Weights) (signals : List Signal) (drivers : List Driver) (nodes : List WordNode) (nodes_of order : List ℕ)
    → tally w (drivers_made signals drivers nodes nodes_of order).nodes ≡ tally w nodes + sum_by (placed_at w signals drivers) order
unfolding drivers_made
drivers-tally w signals drivers nodes nodes_of [] = omega arith
drivers-tally w signals drivers nodes nodes_of (i ∷ order) =
    let m : Nodes = driver_at_made signals nodes nodes_of (slice_get drivers i) in
    omega (arith, drivers-tally w signals drivers m.nodes m.each order, at-tally w signals nodes nodes_of (slice_get drivers i), sum_by-cons (placed_at w signals drivers) i order)

sum-zero : (weights : List ℕ) → ((j : ℕ) → 0 < get_or weights j 0 → ⊥) → sum_by (λ x. x) weights ≡ 0
sum-zero [] none = refl
sum-zero (zero ∷ weights) none = omega (arith, sum_by-cons (λ x. x) 0 weights, sum-zero weights (λ j more. none (suc j) more))
sum-zero (suc n ∷ weights) none = absurd (none 0 (omega arith))

-- numbers that are all different, among them each that weighs something, weigh what all do
sum-order : (weights order : List ℕ) → All (λ i. i < length weights) order → AllPairs (λ i j. i ≢ j) order → ((j : ℕ) → 0 < get_or weights j 0 → Contains order j)
    → sum_by (λ i. get_or weights i 0) order ≡ sum_by (λ x. x) weights
sum-order weights [] numbers distinct complete = sym (sum-zero weights (λ j more. Contains-empty j (complete j more)))
sum-order weights (i ∷ order) numbers distinct complete =
    omega (
      arith,
      sum_by-cons (λ j. get_or weights j 0) i order,
      same order (λ j member. AllPairs-first (λ i j. i ≢ j) i order j distinct member),
      sum-order cleared order within (AllPairs-later (λ i j. i ≢ j) i order distinct) (λ j more. behind j more (cases_eq j i)),
      sum_by-set (λ x. x) weights i 0 0 low,
    )
  where
    low : i < length weights
    low = numbers 0 0 (omega arith)

    cleared : List ℕ
    cleared = set weights i 0

    within : All (λ j. j < length cleared) order
    within = subst (λ n. All (λ j. j < n) order) (sym (length-set weights i 0)) (All-later (λ j. j < length weights) i order numbers)

    same : (xs : List ℕ) → ((j : ℕ) → Contains xs j → i ≢ j) → sum_by (λ j. get_or weights j 0) xs ≡ sum_by (λ j. get_or cleared j 0) xs
    same [] apart = refl
    same (x ∷ xs) apart =
        sum_by-cons (λ j. get_or weights j 0) x xs
        ∙ ap₂ (λ a b. a + b) (sym (get_or-set_other weights i x 0 0 (λ e. apart x (Contains-first x xs) (sym e)))) (same xs (λ j member. apart j (Contains-later x xs j member)))
        ∙ sym (sum_by-cons (λ j. get_or cleared j 0) x xs)

    other : (j : ℕ) → j ≢ i → (i ≡ j) ⊎ Contains order j → Contains order j
    other j apart (inl at) = absurd (apart (sym at))
    other j apart (inr later) = later

    behind : (j : ℕ) → 0 < get_or cleared j 0 → (j ≡ i) ⊎ (j ≡ i → ⊥) → Contains order j
    behind j more (inl at) =
        let none : get_or cleared j 0 ≡ 0 = ap (λ k. get_or cleared k 0) at ∙ get_or-set_same weights i 0 0 low in absurd (omega (arith, none, more))
    behind j more (inr apart) =
        other j apart (Contains-cons i order j (complete j (subst (λ n. 0 < n) (get_or-set_other weights i j 0 0 apart) more)))

at-map : (f : Driver → ℕ) (drivers : List Driver) (i : ℕ) → option_map_or f (slice_get drivers i) 0 ≡ get_or (map f drivers) i 0
at-map f [] i = refl
at-map f (driver ∷ drivers) zero = refl
at-map f (driver ∷ drivers) (suc i) = at-map f drivers i

sum-same : (f g : ℕ → ℕ) (xs : List ℕ) → ((x : ℕ) → f x ≡ g x) → sum_by f xs ≡ sum_by g xs
sum-same f g [] same = refl
sum-same f g (x ∷ xs) same = sum_by-cons f x xs ∙ ap₂ (λ a b. a + b) (same x) (sum-same f g xs same) ∙ sym (sum_by-cons g x xs)

-- the drivers of an order weigh what all do
order-sum : (w : Weights) (d : Design) (order : List ℕ) → IsOrder d order → sum_by (placed_at w d.signals.items d.drivers.items) order ≡ sum_by (placed_in_driver w d.signals.items) d.drivers.items
order-sum w d order ordered =
    sum-same (placed_at w d.signals.items d.drivers.items) (λ i. get_or weights i 0) order (at-map f d.drivers.items)
    ∙ sum-order weights order (subst (λ n. All (λ i. i < n) order) (sym many) ordered.numbers) ordered.distinct (λ j more. ordered.complete j (below j more (cases_lt j (length d.drivers.items))))
    ∙ sum-map f d.drivers.items
  where
    f : Driver → ℕ
    f = placed_in_driver w d.signals.items

    weights : List ℕ
    weights = map f d.drivers.items

    many : length weights ≡ length d.drivers.items
    many = length-map d.drivers.items f

    below : (j : ℕ) → 0 < get_or weights j 0 → (j < length d.drivers.items) ⊎ (length d.drivers.items ≤ j) → j < length d.drivers.items
    below j more (inl low) = low
    below j more (inr past) = let none : get_or weights j 0 ≡ 0 = get_or-eq_default weights 0 (omega (arith, many, past)) in absurd (omega (arith, none, more))

-- ---- clocked blocks

own-tally : (w : Weights) (d : Design) (block : Clocked) (turn : Turn) (m : Maps) (nodes : List WordNode) (s so_far : ℕ) → tally w (own_made d block turn m nodes s so_far).nodes ≡ tally w nodes
unfolding own_made turned_made
own-tally w d block turn m nodes s so_far = at (own_mask d block s == 0)
  where
    width : ℕ
    width = width_at d.signals.items s

    b : Made
    b = pushed nodes width (operation.Blend (own_mask d block s) (unsigned (left_at block m s) width) (unsigned so_far width))

    turned : (t : Turn) → tally w (turned_made t b.nodes width b.node so_far).nodes ≡ tally w nodes
    turned (When test) = light w b.nodes width _ refl ∙ light w nodes width _ refl
    turned (Unless test) = light w b.nodes width _ refl ∙ light w nodes width _ refl
    turned Always = light w nodes width _ refl

    at : (t : Bool) → tally w (if t then made nodes so_far else turned_made turn b.nodes width b.node so_far).nodes ≡ tally w nodes
    at true = refl
    at false = turned turn

owns-tally : (w : Weights) (d : Design) (block : Clocked) (turn : Turn) (m : Maps) (nodes : List WordNode) (nodes_of : List ℕ) (s more : ℕ) → tally w (owns_made d block turn m nodes nodes_of s more).nodes ≡ tally w nodes
unfolding owns_made
owns-tally w d block turn m nodes nodes_of s zero = refl
owns-tally w d block turn m nodes nodes_of s (suc more) =
    let a : Made = own_made d block turn m nodes s (get_or nodes_of s 0) in
    owns-tally w d block turn m a.nodes (set nodes_of s a.node) (s + 1) more ∙ own-tally w d block turn m nodes s (get_or nodes_of s 0)

left-tally : (w : Weights) (d : Design) (block : Clocked) (turn : Turn) (statement : Stmt) (nodes : List WordNode) (from nodes_of : List ℕ)
    → tally w (left_made d block turn statement nodes from nodes_of).nodes ≡ tally w nodes + placed_in w d.signals.items statement
unfolding left_made
left-tally w d block turn statement nodes from nodes_of =
    let m : Maps = statement_made d.signals.items (maps nodes from from) statement in
    owns-tally w d block turn m m.nodes nodes_of 0 (length d.signals.items) ∙ statement-tally w d.signals.items (maps nodes from from) statement

active-tally : (w : Weights) (nodes : List WordNode) (nodes_of : List ℕ) (r : Reset) → tally w (active_made nodes nodes_of r).nodes ≡ tally w nodes
unfolding active_made
active-tally w nodes nodes_of r = at r.level
  where
    word : ℕ
    word = get_or nodes_of r.signal 0

    at : (t : Bool) → tally w (if t then made nodes word else pushed nodes 1 (operation.Unary unary_op.LogicalNot (unsigned word 1))).nodes ≡ tally w nodes
    at true = refl
    at false = light w nodes 1 _ refl

abbrev placed_in_reset : Weights → List Signal → Clocked → ℕ
placed_in_reset w signals block = option_map_or (λ r. placed_in w signals r.values) block.reset 0

abbrev placed_in_body : Weights → List Signal → Clocked → ℕ
placed_in_body w signals block = placed_in w signals block.body

reset-tally : (w : Weights) (d : Design) (from : List ℕ) (block : Clocked) (o : Option Reset) (nodes : List WordNode) (nodes_of : List ℕ)
    → tally w (reset_made d from block o nodes nodes_of).nodes ≡ tally w nodes + option_map_or (λ r. placed_in w d.signals.items r.values) o 0
unfolding reset_made
reset-tally w d from block None nodes nodes_of = omega arith
reset-tally w d from block (Some r) nodes nodes_of =
    let t : Made = active_made nodes from r in
    left-tally w d block (When t.node) r.values t.nodes from nodes_of ∙ ap (λ n. n + placed_in w d.signals.items r.values) (active-tally w nodes from r)

resets-tally : (w : Weights) (d : Design) (from : List ℕ) (nodes : List WordNode) (nodes_of : List ℕ) (blocks : List Clocked)
    → tally w (resets_made d from nodes nodes_of blocks).nodes ≡ tally w nodes + sum_by (placed_in_reset w d.signals.items) blocks
unfolding resets_made
resets-tally w d from nodes nodes_of [] = omega arith
resets-tally w d from nodes nodes_of (block ∷ blocks) =
    let m : Nodes = reset_made d from block block.reset nodes nodes_of in
    omega (arith, resets-tally w d from m.nodes m.each blocks, reset-tally w d from block block.reset nodes nodes_of, sum_by-cons (placed_in_reset w d.signals.items) block blocks)

body-tally : (w : Weights) (d : Design) (from : List ℕ) (block : Clocked) (o : Option Reset) (nodes : List WordNode) (nodes_of : List ℕ)
    → tally w (body_made d from block o nodes nodes_of).nodes ≡ tally w nodes + placed_in w d.signals.items block.body
unfolding body_made
body-tally w d from block None nodes nodes_of = left-tally w d block Always block.body nodes from nodes_of
body-tally w d from block (Some r) nodes nodes_of =
    let t : Made = active_made nodes from r in
    left-tally w d block (Unless t.node) block.body t.nodes from nodes_of ∙ ap (λ n. n + placed_in w d.signals.items block.body) (active-tally w nodes from r)

bodies-tally : (w : Weights) (d : Design) (from : List ℕ) (nodes : List WordNode) (nodes_of : List ℕ) (blocks : List Clocked)
    → tally w (bodies_made d from nodes nodes_of blocks).nodes ≡ tally w nodes + sum_by (placed_in_body w d.signals.items) blocks
unfolding bodies_made
bodies-tally w d from nodes nodes_of [] = omega arith
bodies-tally w d from nodes nodes_of (block ∷ blocks) =
    let m : Nodes = body_made d from block block.reset nodes nodes_of in
    omega (arith, bodies-tally w d from m.nodes m.each blocks, body-tally w d from block block.reset nodes nodes_of, sum_by-cons (placed_in_body w d.signals.items) block blocks)

blocks-sum : (w : Weights) (signals : List Signal) (blocks : List Clocked) → sum_by (placed_in_body w signals) blocks + sum_by (placed_in_reset w signals) blocks ≡ sum_by (placed_in_clocked w signals) blocks
blocks-sum w signals [] = refl
blocks-sum w signals (block ∷ blocks) =
    omega (arith, blocks-sum w signals blocks, sum_by-cons (placed_in_body w signals) block blocks, sum_by-cons (placed_in_reset w signals) block blocks, sum_by-cons (placed_in_clocked w signals) block blocks)

-- ---- the whole net

nexts-tally : (w : Weights) (d : Design) (nodes_of : List ℕ) (nodes : List WordNode) (next ss : List ℕ) → tally w (nexts_made d nodes_of nodes next ss).nodes ≡ tally w nodes
unfolding nexts_made
nexts-tally w d nodes_of nodes next [] = refl
nexts-tally w d nodes_of nodes next (s ∷ ss) =
    let m : Made = masked_made d nodes s (get_or nodes_of s 0) in
    nexts-tally w d nodes_of m.nodes (next ++ m.node ∷ []) ss ∙ masked-tally w d nodes s (get_or nodes_of s 0)

-- what the nodes weigh beside the first ones
pub net-tally : (w : Weights) (d : Design) (order : List ℕ) → IsOrder d order → tally w (net_of d order).nodes ≡ tally w (begun_made d).nodes + placed_in_design w d
unfolding net_of
net-tally w d order ordered =
    let first : Nodes = begun_made d in
    let registers : Nodes = resets_made d first.each first.nodes first.each d.clocked.items in
    let now : Nodes = drivers_made d.signals.items d.drivers.items registers.nodes registers.each order in
    let left : Nodes = bodies_made d now.each now.nodes now.each d.clocked.items in
    omega (
      arith,
      resets-tally w d first.each first.nodes first.each d.clocked.items,
      drivers-tally w d.signals.items d.drivers.items registers.nodes registers.each order,
      bodies-tally w d now.each now.nodes now.each d.clocked.items,
      nexts-tally w d left.each left.nodes [] (states_of d),
      order-sum w d order ordered,
      blocks-sum w d.signals.items d.clocked.items,
    )
