-- Arms that are merged at the signals in which they may differ, and steps of the loop over these.
use Rattle.std.proofs.Common.{◌≡◌, ◌≢◌, ℕ, zero, suc, ◌+◌, ◌-◌, ◌<◌, ◌≤◌, List, [], ◌∷◌, length, map, get_or, set, drop, All, Contains, refl, sym, ◌∙◌, ap, ap₂, subst, arith, ◌⊎◌, inl, inr}
use Rattle.std.specs.Prelude.{if◌then◌else◌}
use Rattle.std.specs.List.Sorted.{IsStrictlyIncreasing}
use Rattle.std.proofs.lemmas.Bool.{eq-eqb, cases_eq}
use Rattle.std.proofs.lemmas.List.{set-get_or, get_or-set_other, drop_all}
use Rattle.loc_base.proofs.ShelfBools.{suc-add_one}
use Rattle.loc_base.proofs.ShelfLists.{drop-at, Contains-cons}
use Rattle.design_core.specs.declared.signal.Signal.{Signal}
use Rattle.design_core.specs.Valuation.{width_at}
use Rattle.node_map.specs.declared.entry.Entry.{Entry}
use Rattle.node_map.specs.Entries.{entry_at}
use Rattle.word_net.specs.declared.node.Operation.TheVariants as operation
use Rattle.word_net.specs.declared.node.WordNode.{WordNode}
use Rattle.word_net.specs.Build.{Made, made, pushed}
use Rattle.synth_parts.specs.Expression.{unsigned}
use Rattle.synth_parts.specs.Store.{Nodes, nodes_made}
use Rattle.synth_parts.specs.Statement.{Maps, maps, chosen_made, row_made, merged}
use Rattle.synth_parts.specs.Rows.{entry_row, rows_merged}

-- ---- signals that are the same in both arms

chosen-same : (nodes : List WordNode) (test width one other : ℕ) → one ≡ other → chosen_made nodes test width one other ≡ made nodes other
unfolding chosen_made
chosen-same nodes test width one other same =
    ap (λ t. if t then made nodes other else pushed nodes width (operation.Choose (unsigned test 1) (unsigned one width) (unsigned other width))) (eq-eqb one other same)

row-same : (nodes : List WordNode) (test width s : ℕ) (arm map : List ℕ) → get_or arm s 0 ≡ get_or map s 0 → row_made nodes test width s arm map ≡ nodes_made nodes map
unfolding row_made
row-same nodes test width s arm map same =
    ap (λ (a : Made). nodes_made a.nodes (set map s a.node)) (chosen-same nodes test width (get_or arm s 0) (get_or map s 0) same)
    ∙ ap (nodes_made nodes) (set-get_or map s 0)

row-entry : (nodes : List WordNode) (test width s : ℕ) (arm map : List ℕ) → row_made nodes test width s arm map ≡ entry_row nodes test width s (get_or arm s 0) map
unfolding row_made entry_row
row-entry nodes test width s arm map = refl

row-other : (nodes : List WordNode) (test width s one : ℕ) (map : List ℕ) (t : ℕ) → t ≢ s → get_or (entry_row nodes test width s one map).each t 0 ≡ get_or map t 0
unfolding entry_row
row-other nodes test width s one map t apart = get_or-set_other map s t (chosen_made nodes test width one (get_or map s 0)).node 0 apart

-- ---- signals in ascending order

-- the signals rise from a number on, and stay below another
data IsRising : ℕ → ℕ → List ℕ → Type 0 where
  no_more : {s n : ℕ} → IsRising s n []
  one_more : {s n u : ℕ} {us : List ℕ} → s ≤ u → u < n → IsRising (u + 1) n us → IsRising s n (u ∷ us)

rises-later : {s t n : ℕ} {us : List ℕ} → t ≤ s → IsRising s n us → IsRising t n us
rises-later low no_more = no_more
rises-later low (one_more from below rest) = one_more (omega (arith, low, from)) below rest

not-below : (us : List ℕ) (s n t : ℕ) → IsRising s n us → t < s → Contains us t → ⊥
not-below [] s n t no_more low (k, within, is) = omega (arith, within)
not-below (u ∷ us) s n t (one_more from below rest) low member = at (Contains-cons u us t member) (λ later. not-below us (u + 1) n t rest (omega (arith, from, low)) later)
  where
    at : (u ≡ t) ⊎ Contains us t → (Contains us t → ⊥) → ⊥
    at (inl same) behind = omega (arith, same, from, low)
    at (inr later) behind = behind later

-- signals outside the list are the same in both
pub Same : List ℕ → List ℕ → List ℕ → ℕ → Type 0
Same us arm map s = (t : ℕ) → s ≤ t → ¬ Contains us t → get_or arm t 0 ≡ get_or map t 0

same-next : (us arm map : List ℕ) (s : ℕ) → Same us arm map s → Same us arm map (s + 1)
unfolding Same
same-next us arm map s same t from none = same t (omega (arith, from)) none

same-row : (nodes : List WordNode) (test width one : ℕ) (us arm map : List ℕ) (s : ℕ) → Same (s ∷ us) arm map s → Same us arm (entry_row nodes test width s one map).each (s + 1)
unfolding Same
same-row nodes test width one us arm map s same t from none =
    same t (omega (arith, from)) (λ member. at (Contains-cons s us t member)) ∙ sym (row-other nodes test width s one map t (λ e. absurd (omega (arith, e, from))))
  where
    at : (s ≡ t) ⊎ Contains us t → ⊥
    at (inl here) = omega (arith, here, from)
    at (inr later) = none later

-- a signal that is the same in both arms
skipped : (signals : List Signal) (test : ℕ) (arm : Maps) (more s : ℕ) (m : Maps) → get_or arm.now s 0 ≡ get_or m.now s 0 → get_or arm.later s 0 ≡ get_or m.later s 0
    → merged signals test arm m s (suc more) ≡ merged signals test arm m (s + 1) more
unfolding merged
skipped signals test arm more s m now later =
    let width : ℕ = width_at signals s in
    let go : Nodes → Nodes → Maps = λ a b. merged signals test arm (maps b.nodes a.each b.each) (s + 1) more in
    ap (λ (a : Nodes). go a (row_made a.nodes test width s arm.later m.later)) (row-same m.nodes test width s arm.now m.now now)
    ∙ ap (go (nodes_made m.nodes m.now)) (row-same m.nodes test width s arm.later m.later later)

nothing-there : (t : ℕ) → ¬ Contains [] t
nothing-there t (k, within, is) = omega (arith, within)

-- the maps after one signal
one_row : List Signal → ℕ → Maps → ℕ → Maps → Maps
one_row signals test arm s m =
    let width = width_at signals s in
    let a = entry_row m.nodes test width s (get_or arm.now s 0) m.now in
    let b = entry_row a.nodes test width s (get_or arm.later s 0) m.later in
    maps b.nodes a.each b.each

-- all signals from one on, where only those of the list differ
sparse : (signals : List Signal) (test : ℕ) (arm : Maps) (more s : ℕ) (us : List ℕ) (m : Maps) → IsRising s (s + more) us → Same us arm.now m.now s → Same us arm.later m.later s
    → merged signals test arm m s more ≡ rows_merged signals test (map (entry_at arm.now) us) (map (entry_at arm.later) us) m
unfolding merged rows_merged row_made entry_row one_row Same
sparse signals test arm zero s [] m rising now later = refl
sparse signals test arm zero s (u ∷ us) m (one_more from below rest) now later = absurd (omega (arith, from, below))
sparse signals test arm (suc more) s [] m rising now later =
    skipped signals test arm more s m (now s (omega arith) (nothing-there s)) (later s (omega arith) (nothing-there s))
    ∙ sparse signals test arm more (s + 1) [] m no_more (same-next [] arm.now m.now s now) (same-next [] arm.later m.later s later)
sparse signals test arm (suc more) s (u ∷ us) m (one_more from below rest) now later =
    let whole : s + suc more ≡ s + 1 + more = omega arith in
    let next : Maps = one_row signals test arm s m in
    at (cases_eq u s)
    (λ here.
    sparse signals test arm more (s + 1) us next (subst (λ n. IsRising (s + 1) n us) whole (subst (λ k. IsRising (k + 1) (s + suc more) us) here rest))
    (same-row m.nodes test (width_at signals s) (get_or arm.now s 0) us arm.now m.now s (subst (λ k. Same (k ∷ us) arm.now m.now s) here now))
    (same-row (entry_row m.nodes test (width_at signals s) s (get_or arm.now s 0) m.now).nodes test (width_at signals s) (get_or arm.later s 0) us arm.later m.later s (subst (λ k. Same (k ∷ us) arm.later m.later s) here later)))
    (λ high.
    skipped signals test arm more s m (now s (omega arith) (apart high)) (later s (omega arith) (apart high))
    ∙ sparse signals test arm more (s + 1) (u ∷ us) m (subst (λ n. IsRising (s + 1) n (u ∷ us)) whole (one_more (omega (arith, high)) below rest))
    (same-next (u ∷ us) arm.now m.now s now) (same-next (u ∷ us) arm.later m.later s later))
  where
    apart : s < u → ¬ Contains (u ∷ us) s
    apart high member = not-below (u ∷ us) u (s + suc more) s (one_more (omega arith) below rest) high member

    at : (u ≡ s) ⊎ (u ≡ s → ⊥)
        → (u ≡ s → merged signals test arm (one_row signals test arm s m) (s + 1) more ≡ rows_merged signals test (map (entry_at arm.now) us) (map (entry_at arm.later) us) (one_row signals test arm s m))
        → (s < u → merged signals test arm m s (suc more) ≡ rows_merged signals test (map (entry_at arm.now) (u ∷ us)) (map (entry_at arm.later) (u ∷ us)) m)
        → merged signals test arm m s (suc more) ≡ rows_merged signals test (map (entry_at arm.now) (u ∷ us)) (map (entry_at arm.later) (u ∷ us)) m
    at (inl here) taken other =
        subst (λ k. merged signals test arm m s (suc more) ≡ rows_merged signals test (map (entry_at arm.now) (k ∷ us)) (map (entry_at arm.later) (k ∷ us)) m) (sym here) (taken here)
    at (inr away) taken other = other (omega (arith, from, away))

-- ---- a list that rises

rising-from : (s n : ℕ) (us : List ℕ) → ((k : ℕ) → k + 1 < length us → get_or us k 0 < get_or us (k + 1) 0) → All (λ u. u < n) us → (0 < length us → s ≤ get_or us 0 0) → IsRising s n us
rising-from s n [] rises below first = no_more
rising-from s n (u ∷ us) rises below first =
    one_more (first (omega arith)) (below 0 u (omega arith))
    (rising-from (u + 1) n us (λ k within. subst (λ j. get_or us k 0 < get_or (u ∷ us) j 0) (sym (suc-add_one k)) (rises (suc k) (omega (arith, within)))) (λ k d within. below (suc k) d (omega (arith, within)))
    (λ some. omega (arith, rises 0 (omega (arith, some)))))

-- merging at the signals of a list is merging at all
pub merged-sparse : (signals : List Signal) (test : ℕ) (arm : Maps) (us : List ℕ) (m : Maps) → IsStrictlyIncreasing us → All (λ u. u < length signals) us
    → ((s : ℕ) → ¬ Contains us s → get_or arm.now s 0 ≡ get_or m.now s 0) → ((s : ℕ) → ¬ Contains us s → get_or arm.later s 0 ≡ get_or m.later s 0)
    → rows_merged signals test (map (entry_at arm.now) us) (map (entry_at arm.later) us) m ≡ merged signals test arm m 0 (length signals)
unfolding Same
merged-sparse signals test arm us m rises below now later =
    let whole : length signals ≡ 0 + length signals = omega arith in
    sym (sparse signals test arm (length signals) 0 us m (subst (λ n. IsRising 0 n us) whole (rising-from 0 (length signals) us rises below (λ _. omega arith))) (λ t _ none. now t none) (λ t _ none. later t none))

-- ---- the loop

pub rows-next : (signals : List Signal) (test : ℕ) (ones laters : List Entry) (i : ℕ) (one later : Entry) (nodes mid after : List WordNode) (now past now' past' : List ℕ)
    → i < length ones → i < length laters → one ≡ get_or ones i one → later ≡ get_or laters i later
    → nodes_made mid now' ≡ entry_row nodes test (width_at signals one.signal) one.signal one.node now
    → nodes_made after past' ≡ entry_row mid test (width_at signals one.signal) one.signal later.node past
    → rows_merged signals test (drop i ones) (drop i laters) (maps nodes now past) ≡ rows_merged signals test (drop (i + 1) ones) (drop (i + 1) laters) (maps after now' past')
unfolding rows_merged
rows-next signals test ones laters i one later nodes mid after now past now' past' within inside is is_later a b =
    let width : ℕ = width_at signals one.signal in
    let go : Nodes → Nodes → Maps = λ x y. rows_merged signals test (drop (i + 1) ones) (drop (i + 1) laters) (maps y.nodes x.each y.each) in
    ap₂ (λ xs ys. rows_merged signals test xs ys (maps nodes now past)) (drop-at ones i one within is) (drop-at laters i later inside is_later)
    ∙ ap (λ (x : Nodes). go x (entry_row x.nodes test width one.signal later.node past)) (sym a)
    ∙ ap (go (nodes_made mid now')) (sym b)

pub rows-end : (signals : List Signal) (test : ℕ) (ones laters : List Entry) (i : ℕ) (m : Maps) → length ones ≤ i → rows_merged signals test (drop i ones) (drop i laters) m ≡ m
unfolding rows_merged
rows-end signals test ones laters i m past = ap (λ xs. rows_merged signals test xs (drop i laters) m) (drop_all i ones past)

pub entry-within : (n : ℕ) (entries : List Entry) (i : ℕ) (entry : Entry) → All (λ (e : Entry). e.signal < n) entries → i < length entries → entry ≡ get_or entries i entry → entry.signal < n
entry-within n entries i entry h within is = subst (λ (e : Entry). e.signal < n) (sym is) (h i entry within)

pub ruleset steps = (rows-next, rows-end, entry-within)
