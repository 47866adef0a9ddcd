-- The net of a design keeps what a net keeps.
use Rattle.std.proofs.Common.{◌≡◌, ℕ, zero, suc, ◌+◌, ◌<◌, ◌≤◌, ◌^◌, true, false, List, [], ◌∷◌, length, map, get_or, refl, sym, ◌∙◌, ap, ap₂, subst, arith, ◌⊎◌, inl, inr}
use Rattle.std.specs.Prelude.{◌==◌, if◌then◌else◌, nat_lt, slice_get, Some}
use Rattle.std.specs.Option.{option_map_or}
use Rattle.std.proofs.lemmas.Bool.{and_parts, ltb-true, eqb-true, eq-eqb, cases_lt, cases_eq, both_ways}
use Rattle.std.proofs.lemmas.Option.{slice_get_past, slice_get_within}
use Rattle.loc_base.specs.declared.bits.Bits.{Bits}
use Rattle.loc_base.specs.Bits.{width_of}
use Rattle.loc_base.proofs.ShelfBools.{equal-false}
use Rattle.loc_base.proofs.ShelfOptions.{Some-same}
use Rattle.design_core.specs.declared.signal.Signal.{Signal}
use Rattle.design_core.specs.declared.place.Place.{Place}
use Rattle.design_core.specs.declared.design.Design.{Design}
use Rattle.design_core.specs.Valuation.{width_at}
use Rattle.design_core.specs.Constant.{zeros}
use Rattle.design_core.specs.After.{Choice}
use Rattle.design_core.specs.Cycle.{Cycle}
use Rattle.design_core.specs.DrivenOnce.{IsDrivenOnce}
use Rattle.design_core.specs.Reads.{IsOrder}
use Rattle.design_core.specs.WellFormed.{IsWellFormed, place_fits}
use Rattle.word_net.specs.declared.node.Operand.{Operand}
use Rattle.word_net.specs.declared.node.Operation.{Operation}
use Rattle.word_net.specs.declared.node.Operation.TheVariants.{Const, Input, State, Free, Unary, Binary, Choose, Join, Repeat, Resize, Slice, Pick, Is, Put, PutPick, Blend}
use Rattle.word_net.specs.declared.node.WordNode.{WordNode}
use Rattle.word_net.specs.Build.{Means}
use Rattle.word_net.specs.Nets.{Net, IsNet, is_source, source_bits}
use Rattle.word_net.specs.Values.{Source, net_values}
use Rattle.word_net.proofs.Meaning.{means-within}
use Rattle.synth_parts.specs.Tally.{Weights, weight, tally}
use Rattle.v_synth.specs.Net.{net_of, states_of, cycle_source}
use Rattle.v_synth.specs.Matches.{IsNetOf, MeansCycle, OneNet}
use Rattle.v_synth.proofs.NetTallies.{begun-most, net-tally}
use Rattle.v_synth.proofs.NetReads.{node-weight, once, of_place, none-design, place-tally, place-once, state-read}
use Rattle.v_synth.proofs.Whole.{AllMean, no_more, one_more, net-shown, net-matches}

-- ---- one node for each place

free-weight : (p : ℕ) (node : WordNode) (a : Operand) → node.operation ≡ Free p a → weight (of_place p) node.width node.operation ≡ 1
unfolding of_place
free-weight p node a is = ap (weight (of_place p) node.width) is ∙ ap once (eq-eqb p p refl)

one-node : (p : ℕ) (nodes : List WordNode) (i j : ℕ) (one other : WordNode) (a b : Operand) → tally (of_place p) nodes ≤ 1 → slice_get nodes i ≡ Some one → slice_get nodes j ≡ Some other
    → one.operation ≡ Free p a → other.operation ≡ Free p b → i ≡ j
unfolding tally
one-node p [] i j one other a b most at_i at_j free_i free_j = absurd (omega (arith, slice_get_within [] i one at_i))
one-node p (node ∷ nodes) zero zero one other a b most at_i at_j free_i free_j = refl
one-node p (node ∷ nodes) zero (suc j) one other a b most at_i at_j free_i free_j =
    let same : node ≡ one = Some-same at_i in
    let first : weight (of_place p) node.width node.operation ≡ 1 = free-weight p node a (ap (λ (n : WordNode). n.operation) same ∙ free_i) in
    absurd (omega (arith, most, first, node-weight (of_place p) nodes j other at_j, free-weight p other b free_j))
one-node p (node ∷ nodes) (suc i) zero one other a b most at_i at_j free_i free_j =
    let same : node ≡ other = Some-same at_j in
    let first : weight (of_place p) node.width node.operation ≡ 1 = free-weight p node b (ap (λ (n : WordNode). n.operation) same ∙ free_j) in
    absurd (omega (arith, most, first, node-weight (of_place p) nodes i one at_i, free-weight p one a free_i))
one-node p (node ∷ nodes) (suc i) (suc j) one other a b most at_i at_j free_i free_j =
    ap suc (one-node p nodes i j one other a b (omega (arith, most)) at_i at_j free_i free_j)

-- a place past the last one has no node
place-past : (places : List Place) (p width q : ℕ) → length places ≤ p → place_fits places width q ≡ true → once (q == p) ≡ 0
place-past places p width q past fits = at (cases_eq q p)
  where
    at : (q ≡ p) ⊎ (q ≡ p → ⊥) → once (q == p) ≡ 0
    at (inl same) =
        absurd (both_ways (place_fits places width q) (ap (λ o. option_map_or (λ x. x.width == width) o false) (slice_get_past places q (omega (arith, past, same)))) fits)
    at (inr apart) = ap once (equal-false q p apart)

place-most : (d : Design) (order : List ℕ) (p : ℕ) → IsWellFormed d → IsOrder d order → tally (of_place p) (net_of d order).nodes ≤ 1
unfolding of_place
place-most d order p well ordered = at (cases_lt p (length d.places.items))
  where
    at : (p < length d.places.items) ⊎ (length d.places.items ≤ p) → tally (of_place p) (net_of d order).nodes ≤ 1
    at (inl low) = omega (arith, place-once d order p well ordered low)
    at (inr past) =
        omega (arith, place-tally d order p ordered, none-design (of_place p) d well (record { none = λ width q fits. place-past d.places.items p width q past fits }))

-- ---- bits of inputs and states

by_width : Weights
by_width = record { input = λ width _. width; state = λ width _. width; place = λ _ _. 0 }

source-weight : (width n : ℕ) (op : Operation) → (if is_source op then width + n else n) ≡ weight by_width width op + n
unfolding by_width
source-weight width n (Const word) = omega arith
source-weight width n (Input input) = refl
source-weight width n (State state) = refl
source-weight width n (Free place computed) = omega arith
source-weight width n (Unary op arg) = omega arith
source-weight width n (Binary op left right) = omega arith
source-weight width n (Choose test one other) = omega arith
source-weight width n (Join high low) = omega arith
source-weight width n (Repeat times part) = omega arith
source-weight width n (Resize arg) = omega arith
source-weight width n (Slice word from) = omega arith
source-weight width n (Pick word select) = omega arith
source-weight width n (Is index value) = omega arith
source-weight width n (Put old from size word offset) = omega arith
source-weight width n (PutPick old select word offset) = omega arith
source-weight width n (Blend mask one other) = omega arith

bits-tally : (nodes : List WordNode) → source_bits nodes ≡ tally by_width nodes
unfolding source_bits tally
bits-tally [] = refl
bits-tally (node ∷ nodes) = source-weight node.width (source_bits nodes) node.operation ∙ ap (λ n. weight by_width node.width node.operation + n) (bits-tally nodes)

sources-few : (d : Design) (order : List ℕ) → IsWellFormed d → IsOrder d order → length d.signals.items ≤ 1048576 → length d.inputs.items ≤ length d.signals.items → source_bits (net_of d order).nodes ≤ 2 ^ 31
unfolding by_width
sources-few d order well ordered few inputs =
    let e : 2 ^ 31 ≡ 2147483648 = refl in
    omega (
      arith,
      bits-tally (net_of d order).nodes,
      net-tally by_width d order ordered,
      none-design by_width d well (record { none = λ width p fits. refl }),
      begun-most by_width d well.signals (record { input = λ width i. omega arith; state = λ width i. omega arith }),
      few,
      inputs,
      e,
    )

-- ---- states

-- the node of a signal in a list of nodes
record NodeAt (e : Source) (signals : List Signal) (nodes : List WordNode) (f : ℕ → ℕ) (ns : List ℕ) (i s : ℕ) : Type 0 where
  node : ℕ
  is : slice_get ns i ≡ Some node
  means : Means e nodes node (width_at signals s) (f s)

mean-at : {e : Source} {signals : List Signal} {nodes : List WordNode} {f : ℕ → ℕ} {ns ss : List ℕ} (i : ℕ) → AllMean e signals nodes f ns ss → i < length ss → NodeAt e signals nodes f ns i (get_or ss i 0)
mean-at i no_more low = absurd (omega (arith, low))
mean-at zero (one_more {n} m ms) low = record { node = n; is = refl; means = m }
mean-at (suc i) (one_more m ms) low = let r = mean-at i ms (omega (arith, low)) in record { node = r.node; is = r.is; means = r.means }

mean-within : {e : Source} {signals : List Signal} {nodes : List WordNode} {f : ℕ → ℕ} {ns ss : List ℕ} (i n : ℕ) → AllMean e signals nodes f ns ss → slice_get ns i ≡ Some n → n < length nodes
mean-within i n no_more at = absurd (omega (arith, slice_get_within [] i n at))
mean-within {nodes} zero n (one_more m ms) at = subst (λ k. k < length nodes) (Some-same at) (means-within m)
mean-within (suc i) n (one_more m ms) at = mean-within i n ms at

map-at : (f : ℕ → ℕ) (xs : List ℕ) (i : ℕ) → i < length xs → slice_get (map f xs) i ≡ Some (f (get_or xs i 0))
map-at f [] i low = absurd (omega (arith, low))
map-at f (x ∷ xs) zero low = refl
map-at f (x ∷ xs) (suc i) low = map-at f xs i (omega (arith, low))

-- ---- the whole net

nothing_chosen : Choice
nothing_chosen = record { frees = λ _. false; chosen = λ _. 0 }

net-keeps : (d : Design) (order : List ℕ) (start : List Bits) → IsWellFormed d → IsDrivenOnce d → IsOrder d order → length d.signals.items ≤ 1048576 → length d.inputs.items ≤ length d.signals.items
    → map width_of start ≡ map (width_at d.signals.items) (states_of d)
    → IsNet (record { nodes = (net_of d order).nodes; outputs = (net_of d order).outputs; next = (net_of d order).next; start = start })
net-keeps d order start well once ordered few inputs widths =
    let shown = net-shown d order [] zeros nothing_chosen well once ordered in
    record {
      nodes = shown.grown.fit tt;
      outputs = λ i n at. mean-within i n shown.outputs at;
      next = λ i n at. mean-within i n shown.next at;
      states = λ i state node at is.
          let both = and_parts (nat_lt state (length (states_of d))) (node.width == width_at d.signals.items (get_or (states_of d) state 0)) (state-read d order i state node well ordered at is) in
          let low : state < length (states_of d) = ltb-true state (length (states_of d)) both.0 in
          let wide : node.width ≡ width_at d.signals.items (get_or (states_of d) state 0) = eqb-true node.width (width_at d.signals.items (get_or (states_of d) state 0)) both.1 in
          let n = mean-at state shown.next low in
          record {
            start = ap (λ ws. slice_get ws state) widths ∙ map-at (width_at d.signals.items) (states_of d) state low ∙ ap Some (sym wide);
            next = n.node;
            is_next = n.is;
            next_width = n.means.there ∙ ap Some (sym wide);
          };
      places = λ i j p one other a b at_i at_j free_i free_j. one-node p (net_of d order).nodes i j one other a b (place-most d order p well ordered) at_i at_j free_i free_j;
      sources = sources-few d order well ordered few inputs;
    }

-- as code makes it
pub parts-keep : (d : Design) (order : List ℕ) (net : Net) → IsWellFormed d → IsDrivenOnce d → IsOrder d order → length d.signals.items ≤ 1048576 → length d.inputs.items ≤ length d.signals.items → IsNetOf d order net → IsNet net
parts-keep d order net well once ordered few inputs is =
    let same : record { nodes = (net_of d order).nodes; outputs = (net_of d order).outputs; next = (net_of d order).next; start = net.start } ≡ net =
    sym (ap₃ (λ ns os xs. record { nodes = ns; outputs = os; next = xs; start = net.start }) is.nodes is.outputs is.next) in
    subst IsNet same (net-keeps d order net.start well once ordered few inputs is.widths)
  where
    ap₃ : {A B C D : Type 0} (f : A → B → C → D) {a x : A} {b y : B} {c z : C} → a ≡ x → b ≡ y → c ≡ z → f a b c ≡ f x y z
    ap₃ f {a} {x} {b} {y} {c} {z} p q r = ap (λ k. f k b c) p ∙ ap (λ k. f x k c) q ∙ ap (f x y) r

-- its outputs and next states are those of each cycle
pub cycle-means : (d : Design) (order : List ℕ) (net : Net) → IsWellFormed d → IsDrivenOnce d → IsOrder d order → IsNetOf d order net → (c : OneNet) → c.design ≡ d → c.order ≡ order
    → Cycle c.design c.samples c.state c.choice c.values c.next → MeansCycle c net
cycle-means d order net well once ordered is c same_design same_order cycle =
    let own : IsNetOf c.design c.order net = subst (λ o. IsNetOf c.design o net) (sym same_order) (subst (λ x. IsNetOf x order net) (sym same_design) is) in
    let orders : IsOrder c.design c.order = subst (λ o. IsOrder c.design o) (sym same_order) (subst (λ x. IsOrder x order) (sym same_design) ordered) in
    let m = net-matches c (subst IsWellFormed (sym same_design) well) (subst IsDrivenOnce (sym same_design) once) orders cycle in
    let values : List WordNode → ℕ → ℕ = λ ns n. get_or (net_values (cycle_source c.design c.samples c.state c.choice) ns) n 0 in
    record {
      outputs = ap₂ (λ ns os. map (values ns) os) own.nodes own.outputs ∙ m.outputs;
      next = ap₂ (λ ns os. map (values ns) os) own.nodes own.next ∙ m.next;
    }
