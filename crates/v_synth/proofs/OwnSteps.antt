-- Steps of the loop over the signals of a clocked block.
use Rattle.std.proofs.Common.{◌≡◌, ℕ, zero, suc, ◌+◌, ◌-◌, ◌<◌, ◌≤◌, ◌≢◌, Bool, true, false, List, [], length, get_or, set, All, Contains, bit_and, refl, sym, ◌∙◌, ap, subst, arith, ◌⊎◌, inl, inr}
use Rattle.std.specs.Prelude.{◌==◌, if◌then◌else◌}
use Rattle.std.specs.List.Sorted.{IsStrictlyIncreasing}
use Rattle.std.proofs.lemmas.Bool.{cases_eq, cases_lt}
use Rattle.std.proofs.lemmas.List.{get_or_default, set-get_or}
use Rattle.loc_base.proofs.ShelfBools.{equal-false}
use Rattle.design_core.specs.declared.driver.Clocked.{Clocked}
use Rattle.design_core.specs.declared.design.Design.{Design}
use Rattle.design_core.specs.Valuation.{width_at}
use Rattle.word_net.specs.declared.node.Operation.TheVariants as operation
use Rattle.word_net.specs.declared.node.WordNode.{WordNode}
use Rattle.word_net.specs.Build.{Made, made, pushed}
use Rattle.synth_parts.specs.Expression.{unsigned}
use Rattle.synth_parts.specs.Store.{Nodes, nodes_made}
use Rattle.synth_parts.specs.Statement.{Maps, maps}
use Rattle.v_synth.specs.declared.clocked.Turn.{Turn}
use Rattle.v_synth.specs.declared.clocked.Turn.TheVariants.{When, Unless, Always}
use Rattle.v_synth.specs.Clocked.{own_mask, left_at, turned_made, own_made, owns_made}
use Rattle.std.proofs.lemmas.Bool.{eqb-true}
use Rattle.v_synth.specs.Owned.{AreDriven, AreOwn, BlockFits}
use Rattle.synth_parts.specs.Arms.{StatementFits}
use Rattle.v_synth.proofs.Blocks.{wide-there, reset-parts, block-parts}
use Rattle.design_core.specs.declared.driver.Reset.{Reset}
use Rattle.design_core.specs.declared.statement.Stmt.{Stmt}
use Rattle.std.specs.Prelude.{Some, None}
use Rattle.synth_parts.specs.Statement.{statement_made}
use Rattle.v_synth.specs.Clocked.{active_made, left_made, reset_made, body_made}

-- ---- the node that is left

pub left-later : (d : Design) (block : Clocked) (registers drives : List ℕ) (later : List Bool) (current updated : List ℕ) (s : ℕ) → AreOwn d block registers drives later → s < length d.signals.items → get_or later s false ≡ true
    → left_at block (maps [] current updated) s ≡ get_or updated s 0
left-later d block registers drives later current updated s a within is =
    ap (λ b. if b then get_or updated s 0 else get_or current s 0) (sym (a.mark s within) ∙ is)

pub left-current : (d : Design) (block : Clocked) (registers drives : List ℕ) (later : List Bool) (current updated : List ℕ) (s : ℕ) → AreOwn d block registers drives later → s < length d.signals.items → get_or later s false ≡ false
    → left_at block (maps [] current updated) s ≡ get_or current s 0
left-current d block registers drives later current updated s a within is =
    ap (λ b. if b then get_or updated s 0 else get_or current s 0) (sym (a.mark s within) ∙ is)

pub ruleset mark_steps = (left-later, left-current)

-- ---- one signal

pub own-mask : (d : Design) (block : Clocked) (registers drives : List ℕ) (later : List Bool) (s : ℕ) → AreOwn d block registers drives later → s < length d.signals.items
    → bit_and (get_or registers s 0) (get_or drives s 0) ≡ own_mask d block s
own-mask d block registers drives later s own within = own.mask s within

pub ruleset mask_steps = (own-mask)

pub own-none : (d : Design) (block : Clocked) (turn : Turn) (m : Maps) (nodes : List WordNode) (s so_far mask : ℕ) → mask ≡ own_mask d block s → mask ≡ 0
    → own_made d block turn m nodes s so_far ≡ made nodes so_far
unfolding own_made
own-none d block turn m nodes s so_far mask of none = rw (sym of ∙ none) refl

pub own-here : (d : Design) (block : Clocked) (turn : Turn) (m : Maps) (nodes : List WordNode) (s so_far mask : ℕ) → mask ≢ 0 → mask ≡ own_mask d block s
    → own_made d block turn m nodes s so_far
    ≡ (let width = width_at d.signals.items s in
    let b = pushed nodes width (operation.Blend mask (unsigned (left_at block m s) width) (unsigned so_far width)) in
    turned_made turn b.nodes width b.node so_far)
unfolding own_made
own-here d block turn m nodes s so_far mask some is =
    let width : ℕ = width_at d.signals.items s in
    let body : ℕ → Made = λ k. let b = pushed nodes width (operation.Blend k (unsigned (left_at block m s) width) (unsigned so_far width)) in turned_made turn b.nodes width b.node so_far in
    ap (λ k. if k == 0 then made nodes so_far else body k) (sym is) ∙ ap (λ b. if b then made nodes so_far else body mask) (off (mask == 0) refl)
  where
    off : (b : Bool) → (mask == 0) ≡ b → (mask == 0) ≡ false
    off true e = absurd (some (eqb-true mask 0 e))
    off false e = e

pub ruleset own_steps = (own-none)

-- ---- all signals

pub owns-next : (d : Design) (block : Clocked) (turn : Turn) (start nodes after : List WordNode) (current later nodes_of : List ℕ) (s count n : ℕ) → s < count
    → made after n ≡ own_made d block turn (maps [] current later) nodes s (get_or nodes_of s 0)
    → owns_made d block turn (maps start current later) nodes nodes_of s (count - s) ≡ owns_made d block turn (maps start current later) after (set nodes_of s n) (s + 1) (count - (s + 1))
unfolding owns_made own_made
owns-next d block turn start nodes after current later nodes_of s count n low is =
    let left : count - s ≡ suc (count - (s + 1)) = omega (arith, low) in
    let rest : Made → Nodes = λ a. owns_made d block turn (maps start current later) a.nodes (set nodes_of s a.node) (s + 1) (count - (s + 1)) in
    ap (owns_made d block turn (maps start current later) nodes nodes_of s) left ∙ ap rest (sym is)

pub owns-end : (d : Design) (block : Clocked) (turn : Turn) (m : Maps) (nodes : List WordNode) (nodes_of : List ℕ) (count : ℕ)
    → owns_made d block turn m nodes nodes_of count (count - count) ≡ nodes_made nodes nodes_of
unfolding owns_made
owns-end d block turn m nodes nodes_of count = let left : count - count ≡ 0 = omega arith in rw left refl

pub owns-all : (d : Design) (block : Clocked) (turn : Turn) (m : Maps) (nodes : List WordNode) (nodes_of : List ℕ) (count : ℕ)
    → owns_made d block turn m nodes nodes_of 0 (count - 0) ≡ owns_made d block turn m nodes nodes_of 0 count
owns-all d block turn m nodes nodes_of count = ap (owns_made d block turn m nodes nodes_of 0) (omega arith)

-- a signal of which no bit is a register of the block
owns-none : (d : Design) (block : Clocked) (turn : Turn) (m : Maps) (nodes : List WordNode) (nodes_of : List ℕ) (s count : ℕ) → s < count → own_mask d block s ≡ 0
    → owns_made d block turn m nodes nodes_of s (count - s) ≡ owns_made d block turn m nodes nodes_of (s + 1) (count - (s + 1))
unfolding owns_made
owns-none d block turn m nodes nodes_of s count low none =
    let left : count - s ≡ suc (count - (s + 1)) = omega (arith, low) in
    let rest : Made → Nodes = λ a. owns_made d block turn m a.nodes (set nodes_of s a.node) (s + 1) (count - (s + 1)) in
    ap (owns_made d block turn m nodes nodes_of s) left
    ∙ ap rest (own-none d block turn m nodes s (get_or nodes_of s 0) (own_mask d block s) refl none)
    ∙ ap (λ (ns : List ℕ). owns_made d block turn m nodes ns (s + 1) (count - (s + 1))) (set-get_or nodes_of s 0)

-- some such signals
owns-skip : (d : Design) (block : Clocked) (turn : Turn) (m : Maps) (nodes : List WordNode) (nodes_of : List ℕ) (more s t count : ℕ) → s + more ≡ t → t ≤ count
    → ((q : ℕ) → s ≤ q → q < t → own_mask d block q ≡ 0)
    → owns_made d block turn m nodes nodes_of s (count - s) ≡ owns_made d block turn m nodes nodes_of t (count - t)
owns-skip d block turn m nodes nodes_of zero s t count far within none =
    let same : s ≡ t = omega (arith, far) in ap (λ k. owns_made d block turn m nodes nodes_of k (count - k)) same
owns-skip d block turn m nodes nodes_of (suc more) s t count far within none =
    owns-none d block turn m nodes nodes_of s count (omega (arith, far, within)) (none s (omega arith) (omega (arith, far)))
    ∙ owns-skip d block turn m nodes nodes_of more (s + 1) t count (omega (arith, far)) within (λ q from below. none q (omega (arith, from)) below)

-- ---- the signals that are gone over

-- the signal behind those that were gone over
pub gone : List ℕ → ℕ → ℕ
gone driven i = if i == 0 then 0 else get_or driven (i - 1) 0 + 1

gone-next : (driven : List ℕ) (i : ℕ) → gone driven (i + 1) ≡ get_or driven i 0 + 1
unfolding gone
gone-next driven i =
    let at : i + 1 - 1 ≡ i = omega arith in
    let some : (i + 1 == 0) ≡ false = equal-false (i + 1) 0 (λ e. omega (arith, e)) in
    ap (λ b. if b then 0 else get_or driven (i + 1 - 1) 0 + 1) some ∙ ap (λ k. get_or driven k 0 + 1) at

rises-far : (driven : List ℕ) (i more : ℕ) → IsStrictlyIncreasing driven → i + more < length driven → get_or driven i 0 + more ≤ get_or driven (i + more) 0
rises-far driven i zero rises within = let same : i + 0 ≡ i = omega arith in rw same (omega arith)
rises-far driven i (suc more) rises within =
    let far : i + suc more ≡ i + more + 1 = omega arith in
    let step : get_or driven (i + more) 0 < get_or driven (i + more + 1) 0 = rises (i + more) (omega (arith, within)) in
    let last : get_or driven (i + suc more) 0 ≡ get_or driven (i + more + 1) 0 = ap (λ k. get_or driven k 0) far in
    omega (arith, step, last, rises-far driven i more rises (omega (arith, within)))

-- a number of the list is before those gone over, or is the next or behind it
apart : (driven : List ℕ) (i q : ℕ) → IsStrictlyIncreasing driven → gone driven i ≤ q → (i < length driven → q < get_or driven i 0) → i ≤ length driven → Contains driven q → ⊥
unfolding gone
apart driven i q rises from below most (k, within, is) = at (cases_lt k i)
  where
    here : get_or driven k 0 ≡ q
    here = sym (get_or_default driven k q 0 within) ∙ is

    at : (k < i) ⊎ (i ≤ k) → ⊥
    at (inl before) =
        let last : i - 1 ≡ k + (i - 1 - k) = omega (arith, before) in
        let far : get_or driven k 0 + (i - 1 - k) ≤ get_or driven (k + (i - 1 - k)) 0 = rises-far driven k (i - 1 - k) rises (omega (arith, before, most)) in
        let end : gone driven i ≡ get_or driven (i - 1) 0 + 1 = subst (λ j. gone driven j ≡ get_or driven (i - 1) 0 + 1) (omega (arith, before)) (gone-next driven (i - 1)) in
        let same : get_or driven (i - 1) 0 ≡ get_or driven (k + (i - 1 - k)) 0 = ap (λ j. get_or driven j 0) last in
        omega (arith, here, far, end, same, from)
    at (inr behind) =
        let far : get_or driven i 0 + (k - i) ≤ get_or driven (i + (k - i)) 0 = rises-far driven i (k - i) rises (omega (arith, behind, within)) in
        let same : get_or driven (i + (k - i)) 0 ≡ get_or driven k 0 = ap (λ j. get_or driven j 0) (omega (arith, behind)) in
        omega (arith, here, far, same, below (omega (arith, behind, within)))

gone-within : (driven : List ℕ) (i count : ℕ) → All (λ s. s < count) driven → i ≤ length driven → gone driven i ≤ count
unfolding gone
gone-within driven i count within most = at (cases_eq i 0)
  where
    at : (i ≡ 0) ⊎ (i ≡ 0 → ⊥) → gone driven i ≤ count
    at (inl first) = subst (λ j. gone driven j ≤ count) (sym first) (omega arith)
    at (inr later) =
        let end : gone driven i ≡ get_or driven (i - 1) 0 + 1 = subst (λ j. gone driven j ≡ get_or driven (i - 1) 0 + 1) (omega (arith, later)) (gone-next driven (i - 1)) in
        omega (arith, end, within (i - 1) 0 (omega (arith, later, most)))

gone-before : (driven : List ℕ) (i : ℕ) → IsStrictlyIncreasing driven → i < length driven → gone driven i ≤ get_or driven i 0
unfolding gone
gone-before driven i rises within = at (cases_eq i 0)
  where
    at : (i ≡ 0) ⊎ (i ≡ 0 → ⊥) → gone driven i ≤ get_or driven i 0
    at (inl first) = subst (λ j. gone driven j ≤ get_or driven i 0) (sym first) (omega arith)
    at (inr later) =
        let end : gone driven i ≡ get_or driven (i - 1) 0 + 1 = subst (λ j. gone driven j ≡ get_or driven (i - 1) 0 + 1) (omega (arith, later)) (gone-next driven (i - 1)) in
        let step : get_or driven (i - 1) 0 < get_or driven (i - 1 + 1) 0 = rises (i - 1) (omega (arith, later, within)) in
        let same : get_or driven (i - 1 + 1) 0 ≡ get_or driven i 0 = ap (λ j. get_or driven j 0) (omega (arith, later)) in
        omega (arith, end, step, same)

-- up to the next signal that is driven
pub owns-to : (d : Design) (block : Clocked) (turn : Turn) (m : Maps) (nodes : List WordNode) (nodes_of driven : List ℕ) (i : ℕ) → AreDriven d block driven → i < length driven
    → owns_made d block turn m nodes nodes_of (gone driven i) (length d.signals.items - gone driven i)
    ≡ owns_made d block turn m nodes nodes_of (get_or driven i 0) (length d.signals.items - get_or driven i 0)
owns-to d block turn m nodes nodes_of driven i are within =
    let from : ℕ = gone driven i in
    let s : ℕ = get_or driven i 0 in
    let n : ℕ = length d.signals.items in
    let low : s < n = are.within i 0 within in
    let before : from ≤ s = gone-before driven i are.rises within in
    owns-skip d block turn m nodes nodes_of (s - from) from s n (omega (arith, before)) (omega (arith, low))
    (λ q past below. are.others q (omega (arith, below, low)) (apart driven i q are.rises past (λ _. below) (omega (arith, within))))

-- behind the last of them
pub owns-past : (d : Design) (block : Clocked) (turn : Turn) (m : Maps) (nodes : List WordNode) (nodes_of driven : List ℕ) (i : ℕ) → AreDriven d block driven → i ≡ length driven
    → owns_made d block turn m nodes nodes_of (gone driven i) (length d.signals.items - gone driven i) ≡ nodes_made nodes nodes_of
owns-past d block turn m nodes nodes_of driven i are end =
    let from : ℕ = gone driven i in
    let n : ℕ = length d.signals.items in
    let within : from ≤ n = gone-within driven i n are.within (omega (arith, end)) in
    owns-skip d block turn m nodes nodes_of (n - from) from n n (omega (arith, within)) (omega arith)
    (λ q past below. are.others q below (apart driven i q are.rises past (λ more. absurd (omega (arith, more, end))) (omega (arith, end))))
    ∙ owns-end d block turn m nodes nodes_of n

-- the next signal that is driven
pub owns-driven : (d : Design) (block : Clocked) (turn : Turn) (start nodes after : List WordNode) (current later nodes_of driven : List ℕ) (i s n : ℕ) → AreDriven d block driven
    → i < length driven → s ≡ get_or driven i 0 → made after n ≡ own_made d block turn (maps [] current later) nodes s (get_or nodes_of s 0)
    → owns_made d block turn (maps start current later) nodes nodes_of (gone driven i) (length d.signals.items - gone driven i)
    ≡ owns_made d block turn (maps start current later) after (set nodes_of s n) (gone driven (i + 1)) (length d.signals.items - gone driven (i + 1))
owns-driven d block turn start nodes after current later nodes_of driven i s n are within here is =
    let m : Maps = maps start current later in
    let count : ℕ = length d.signals.items in
    let next : s + 1 ≡ gone driven (i + 1) = ap (λ k. k + 1) here ∙ sym (gone-next driven i) in
    owns-to d block turn m nodes nodes_of driven i are within
    ∙ ap (λ k. owns_made d block turn m nodes nodes_of k (count - k)) (sym here)
    ∙ owns-next d block turn start nodes after current later nodes_of s count n (subst (λ k. k < count) (sym here) (are.within i 0 within)) is
    ∙ ap (λ k. owns_made d block turn m after (set nodes_of s n) k (count - k)) next

pub gone-none : (driven : List ℕ) → gone driven 0 ≡ 0
unfolding gone
gone-none driven = refl

pub driven-there : (d : Design) (block : Clocked) (driven : List ℕ) (i s : ℕ) → AreDriven d block driven → i < length driven → s ≡ get_or driven i s → s < length d.signals.items
driven-there d block driven i s are within is = subst (λ k. k < length d.signals.items) (sym is) (are.within i s within)

pub ruleset owns_steps = (owns-past, owns-all, gone-none, driven-there)

-- ---- what a statement of a block leaves

pub left-all : (d : Design) (block : Clocked) (turn : Turn) (statement : Stmt) (nodes after : List WordNode) (from current later nodes_of : List ℕ)
    → maps after current later ≡ statement_made d.signals.items (maps nodes from from) statement
    → owns_made d block turn (maps after current later) after nodes_of 0 (length d.signals.items) ≡ left_made d block turn statement nodes from nodes_of
unfolding left_made
left-all d block turn statement nodes after from current later nodes_of is = ap (λ (m : Maps). owns_made d block turn m m.nodes nodes_of 0 (length d.signals.items)) is

pub ruleset left_steps = (left-all)

-- ---- resets and bodies

pub reset-none : (d : Design) (from : List ℕ) (block : Clocked) (nodes : List WordNode) (nodes_of : List ℕ) → block.reset ≡ None → reset_made d from block block.reset nodes nodes_of ≡ nodes_made nodes nodes_of
unfolding reset_made
reset-none d from block nodes nodes_of is = ap (λ o. reset_made d from block o nodes nodes_of) is

pub reset-some : (d : Design) (from : List ℕ) (block : Clocked) (r : Reset) (nodes after : List WordNode) (nodes_of : List ℕ) (test : ℕ) → block.reset ≡ Some r → made after test ≡ active_made nodes from r
    → left_made d block (When test) r.values after from nodes_of ≡ reset_made d from block block.reset nodes nodes_of
unfolding reset_made
reset-some d from block r nodes after nodes_of test is t =
    ap (λ (k : Made). left_made d block (When k.node) r.values k.nodes from nodes_of) t ∙ sym (ap (λ o. reset_made d from block o nodes nodes_of) is)

pub body-none : (d : Design) (from : List ℕ) (block : Clocked) (nodes : List WordNode) (nodes_of : List ℕ) → block.reset ≡ None → left_made d block Always block.body nodes from nodes_of ≡ body_made d from block block.reset nodes nodes_of
unfolding body_made
body-none d from block nodes nodes_of is = sym (ap (λ o. body_made d from block o nodes nodes_of) is)

pub body-some : (d : Design) (from : List ℕ) (block : Clocked) (r : Reset) (nodes after : List WordNode) (nodes_of : List ℕ) (test : ℕ) → block.reset ≡ Some r → made after test ≡ active_made nodes from r
    → left_made d block (Unless test) block.body after from nodes_of ≡ body_made d from block block.reset nodes nodes_of
unfolding body_made
body-some d from block r nodes after nodes_of test is t =
    ap (λ (k : Made). left_made d block (Unless k.node) block.body k.nodes from nodes_of) t ∙ sym (ap (λ o. body_made d from block o nodes nodes_of) is)

pub reset-there : (d : Design) (block : Clocked) (r : Reset) → BlockFits d block → block.reset ≡ Some r → r.signal < length d.signals.items
reset-there d block r h is = wide-there d.signals.items r.signal (reset-parts d r ((block-parts d block h.fits).1 r is)).0

pub values-fit : (d : Design) (block : Clocked) (r : Reset) → BlockFits d block → block.reset ≡ Some r → StatementFits d.signals.items r.values
values-fit d block r h is = record { places = d.places.items; fits = (reset-parts d r ((block-parts d block h.fits).1 r is)).1 }

pub body-fits : (d : Design) (block : Clocked) → BlockFits d block → StatementFits d.signals.items block.body
body-fits d block h = record { places = d.places.items; fits = (block-parts d block h.fits).0 }

pub ruleset reset_steps = (reset-none, reset-some, reset-there, values-fit)

pub ruleset body_steps = (body-none, body-some, reset-there, body-fits)
