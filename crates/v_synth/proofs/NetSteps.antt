-- Steps of the loops over the states and outputs of a net, and the net as it is put together.
use Rattle.std.proofs.Common.{◌≡◌, ℕ, ◌+◌, ◌<◌, ◌≤◌, ◌^◌, Bool, true, false, List, [], ◌∷◌, ◌++◌, length, map, get_or, take, drop, All, refl, sym, ◌∙◌, ap, ap₂, subst, arith, bit_and}
use Rattle.std.specs.Prelude.{◌&&◌, ◌||◌, IsTrue, Contains, eqb}
use Rattle.std.specs.List.{list_all, list_any}
use Rattle.std.specs.Option.{option_map_or}
use Rattle.std.proofs.lemmas.Bool.{and_parts, and_from, eqb-true, lt-ltb, ltb-true}
use Rattle.std.proofs.lemmas.Bool.Decides.{Decides-eqb}
use Rattle.std.proofs.lemmas.List.{drop_all, take_all, get_or_default}
use Rattle.std.proofs.lemmas.Map.Made.{IsDistinct-from_AllPairs}
use Rattle.std.proofs.lemmas.Map.Steps.{length-le_from_distinct_below}
use Rattle.std.proofs.lemmas.Nat.{and_le_l}
use Rattle.loc_base.specs.declared.bits.Bits.{Bits}
use Rattle.loc_base.specs.Bits.{value_of, width_of}
use Rattle.loc_base.proofs.ShelfLists.{drop-at, slice_get-at, map-take_at, list_all-member, All-member, Contains-at, Contains-first, Contains-later}
use Rattle.design_core.specs.declared.design.Design.{Design}
use Rattle.design_core.specs.declared.signal.Signal.{Signal}
use Rattle.design_core.specs.Valuation.{bit, number, width_at, distance_of}
use Rattle.design_core.specs.Drives.{is_register_bit}
use Rattle.design_core.specs.Run.{start_state}
use Rattle.design_core.specs.WellFormed.{IsWellFormed, is_signal, is_width, spans, signal_fits, input_fits}
use Rattle.design_core.proofs.NumberLaws.{number-same, number-below}
use Rattle.word_net.specs.declared.node.WordNode.{WordNode}
use Rattle.word_net.specs.Build.{Made, made}
use Rattle.synth_parts.specs.Store.{Nodes, nodes_made}
use Rattle.synth_parts.specs.Arms.{DriversFit}
use Rattle.synth_parts.specs.Driver.{drivers_made}
use Rattle.synth_parts.proofs.Base.{signal-at, width-bounds}
use Rattle.v_synth.specs.Clocked.{register_mask, masked_made, begun_made, resets_made, bodies_made}
use Rattle.v_synth.specs.Net.{net_of, nexts_made, states_of}
use Rattle.v_synth.specs.Matches.{IsNetOf}
use Rattle.v_synth.specs.Rows.{IsRow}
use Rattle.v_synth.proofs.RowSteps.{number-both}
use Rattle.v_synth.proofs.Whole.{input-there, states-there}

-- ---- next states

pub nexts-next : (d : Design) (left : List ℕ) (nodes after : List WordNode) (next : List ℕ) (k n s : ℕ) (states : List ℕ) → k < length states → s ≡ get_or states k s
    → made after n ≡ masked_made d nodes s (get_or left s 0)
    → nexts_made d left nodes next (drop k states) ≡ nexts_made d left after (next ++ n ∷ []) (drop (k + 1) states)
unfolding nexts_made
nexts-next d left nodes after next k n s states within is m =
    ap (nexts_made d left nodes next) (drop-at states k s within is)
    ∙ ap (λ (q : Made). nexts_made d left q.nodes (next ++ q.node ∷ []) (drop (k + 1) states)) (sym m)

pub nexts-end : (d : Design) (left : List ℕ) (nodes : List WordNode) (next : List ℕ) (k : ℕ) (states : List ℕ) → length states ≤ k
    → nexts_made d left nodes next (drop k states) ≡ nodes_made nodes next
unfolding nexts_made
nexts-end d left nodes next k states past = ap (nexts_made d left nodes next) (drop_all k states past)

pub state-within : (n : ℕ) (states : List ℕ) (k s : ℕ) → All (λ t. t < n) states → k < length states → s ≡ get_or states k s → s < n
state-within n states k s all within is = subst (λ t. t < n) (sym is) (all k s within)

pub ruleset nexts_steps = (nexts-next, nexts-end, state-within)

-- ---- outputs

pub outputs-next : (values outputs : List ℕ) (k s : ℕ) (ns after : List ℕ) → k < length outputs → s ≡ get_or outputs k s → ns ≡ map (λ t. get_or values t 0) (take k outputs)
    → after ≡ ns ++ get_or values s 0 ∷ [] → after ≡ map (λ t. get_or values t 0) (take (k + 1) outputs)
outputs-next values outputs k s ns after within is so_far more =
    more ∙ ap (λ xs. xs ++ get_or values s 0 ∷ []) so_far ∙ sym (map-take_at (λ t. get_or values t 0) outputs k s within is)

pub outputs-end : (values outputs : List ℕ) (k : ℕ) → length outputs ≤ k → map (λ t. get_or values t 0) (take k outputs) ≡ map (λ t. get_or values t 0) outputs
outputs-end values outputs k past = ap (map (λ t. get_or values t 0)) (take_all k outputs past)

pub ruleset outputs_steps = (outputs-next, outputs-end, state-within)

-- ---- start values

-- a signal and its start value
signal-start : (signals : List Signal) (s : ℕ) (signal : Signal) → IsTrue (list_all signal_fits signals) → s < length signals → signal ≡ get_or signals s signal
    → (signal.width ≡ width_at signals s) × (width_of signal.start ≡ signal.width)
signal-start signals s signal fit within is =
    let at = slice_get-at signals s signal within is in
    let own = list_all-member signal_fits signals signal fit (Contains-at signals s signal at) in
    let both = and_parts (is_width signal.width && spans signal.width (distance_of signal.left signal.right signal.left)) _ own in
    (sym (ap (λ o. option_map_or (λ x. x.width) o 0) at), eqb-true (width_of signal.start) signal.width both.1)

pub record StartFits (d : Design) (s width bits : ℕ) : Type 0 where
  pub least : 1 ≤ width
  pub most : width ≤ 128
  pub below : bits < 2 ^ width
  pub wide : width ≡ width_at d.signals.items s
  pub is : bits ≡ number (width_at d.signals.items s) (start_state d s)

pub start-fits : (d : Design) (registers : List ℕ) (s : ℕ) (signal : Signal) → IsTrue (list_all signal_fits d.signals.items) → IsRow (register_mask d) (length d.signals.items) registers
    → s < length d.signals.items → signal ≡ get_or d.signals.items s signal → StartFits d s signal.width (bit_and (get_or registers s 0) (value_of signal.start))
start-fits d registers s signal fit r within is =
    let parts = signal-start d.signals.items s signal fit within is in
    let at = slice_get-at d.signals.items s signal within is in
    let w : ℕ = width_at d.signals.items s in
    let bounds = width-bounds w (signal-at d.signals.items s fit (lt-ltb s (length d.signals.items) within)).0 in
    let mask : get_or registers s 0 ≡ number w (is_register_bit d s) = r.each s within in
    record {
      least = omega (arith, bounds.0, parts.0);
      most = omega (arith, bounds.1, parts.0);
      below =
          let low = and_le_l (get_or registers s 0) (value_of signal.start) in
          let small : number w (is_register_bit d s) < 2 ^ signal.width = subst (λ k. number w (is_register_bit d s) < 2 ^ k) (sym parts.0) (number-below w (is_register_bit d s)) in
          omega (arith, low, small, mask);
      wide = parts.0;
      is = ap (λ x. bit_and x (value_of signal.start)) mask
          ∙ number-both w (value_of signal.start) (is_register_bit d s) (bit (value_of signal.start)) bounds.1 (λ b _. refl)
          ∙ number-same w (λ b. is_register_bit d s b && bit (value_of signal.start) b) (start_state d s)
          (λ b _. ap (λ o. is_register_bit d s b && option_map_or (λ x. bit (value_of x.start) b) o false) (sym at));
    }

pub ruleset start_steps = (start-fits)

-- the start values so far
pub record StartSoFar (d : Design) (states : List ℕ) (start : List Bits) (k : ℕ) : Type 0 where
  pub widths : map width_of start ≡ map (width_at d.signals.items) (take k states)
  pub values : map value_of start ≡ map (λ s. number (width_at d.signals.items s) (start_state d s)) (take k states)

map-more : {X Y : Type 0} (f : X → Y) (xs : List X) (x : X) → map f (xs ++ x ∷ []) ≡ map f xs ++ f x ∷ []
map-more f [] x = refl
map-more f (y ∷ xs) x = ap (λ ys. f y ∷ ys) (map-more f xs x)

pub starts-none : (d : Design) (states : List ℕ) → StartSoFar d states [] 0
starts-none d states = record { widths = refl; values = refl }

pub starts-next : (d : Design) (states : List ℕ) (start after : List Bits) (k s : ℕ) (word : Bits) → StartSoFar d states start k → k < length states → s ≡ get_or states k s
    → width_of word ≡ width_at d.signals.items s → value_of word ≡ number (width_at d.signals.items s) (start_state d s) → after ≡ start ++ word ∷ [] → StartSoFar d states after (k + 1)
starts-next d states start after k s word so_far within is wide value more =
    let f : ℕ → ℕ = λ t. number (width_at d.signals.items t) (start_state d t) in
    record {
      widths = ap (map width_of) more ∙ map-more width_of start word ∙ ap₂ (λ xs x. xs ++ x ∷ []) so_far.widths wide ∙ sym (map-take_at (width_at d.signals.items) states k s within is);
      values = ap (map value_of) more ∙ map-more value_of start word ∙ ap₂ (λ xs x. xs ++ x ∷ []) so_far.values value ∙ sym (map-take_at f states k s within is);
    }

pub starts-end : (d : Design) (states : List ℕ) (start : List Bits) (k : ℕ) → StartSoFar d states start k → length states ≤ k
    → (map width_of start ≡ map (width_at d.signals.items) states) × (map value_of start ≡ map (λ s. number (width_at d.signals.items s) (start_state d s)) states)
starts-end d states start k so_far past =
    let all = take_all k states past in
    (so_far.widths ∙ ap (map (width_at d.signals.items)) all, so_far.values ∙ ap (map (λ s. number (width_at d.signals.items s) (start_state d s))) all)

pub ruleset starts_steps = (starts-none, starts-next, starts-end, state-within)

-- ---- the parts of a net

all-below : (signals : List Signal) (ss : List ℕ) → IsTrue (list_all (is_signal signals) ss) → All (λ s. s < length signals) ss
all-below signals ss fits k d within =
    ltb-true (get_or ss k d) (length signals) (list_all-member (is_signal signals) ss (get_or ss k d) fits (k, within, get_or_default ss k (get_or ss k d) d within))

inputs-there : (d : Design) → IsWellFormed d → (inputs : List ℕ) → IsTrue (list_all (input_fits d.signals.items) inputs) → IsTrue (list_all (is_signal d.signals.items) inputs)
inputs-there d well [] fits = refl
inputs-there d well (input ∷ inputs) fits =
    let both = and_parts (input_fits d.signals.items input) (list_all (input_fits d.signals.items) inputs) fits in
    and_from (is_signal d.signals.items input) (list_all (is_signal d.signals.items) inputs) (input-there d.signals.items input both.0) (inputs-there d well inputs both.1)

any-found : (xs : List ℕ) (q : ℕ) → list_any (eqb q) xs ≡ true → Contains xs q
any-found [] q some = cc
any-found (x ∷ xs) q some = at (eqb q x) refl some (any-found xs q)
  where
    at : (t : Bool) → eqb q x ≡ t → (t || list_any (eqb q) xs) ≡ true → (list_any (eqb q) xs ≡ true → Contains xs q) → Contains (x ∷ xs) q
    at true same found later = subst (λ y. Contains (y ∷ xs) q) (eqb-true q x same) (Contains-first q xs)
    at false apart found later = Contains-later x xs q (later found)

-- what code needs of a well-formed design and its order
pub record PartsFit (d : Design) (order : List ℕ) : Type 0 where
  pub inputs : All (λ s. s < length d.signals.items) d.inputs.items
  pub few_inputs : length d.inputs.items ≤ length d.signals.items
  pub outputs : All (λ s. s < length d.signals.items) d.outputs.items
  pub states : All (λ s. s < length d.signals.items) (states_of d)
  pub drivers : DriversFit d.signals.items d.drivers.items

pub parts-fit : (d : Design) (order : List ℕ) → IsWellFormed d → PartsFit d order
parts-fit d order well =
    let inputs = all-below d.signals.items d.inputs.items (inputs-there d well d.inputs.items well.inputs) in
    record {
      inputs = inputs;
      few_inputs =
          length-le_from_distinct_below d.inputs.items (length d.signals.items) (IsDistinct-from_AllPairs Decides-eqb d.inputs.items well.inputs_distinct)
          (λ q found. All-member (λ s. s < length d.signals.items) d.inputs.items q inputs (any-found d.inputs.items q found));
      outputs = all-below d.signals.items d.outputs.items well.outputs;
      states = all-below d.signals.items (states_of d) (states-there d 0 (length d.signals.items) (omega arith));
      drivers = record { places = d.places.items; fits = well.drivers };
    }

-- all parts, made one after another
pub net-is : (d : Design) (order : List ℕ) (n0 n1 n2 n3 n4 : List WordNode) (first registers values left next outputs states : List ℕ) (start : List Bits)
    → nodes_made n0 first ≡ begun_made d → nodes_made n1 registers ≡ resets_made d first n0 first d.clocked.items
    → nodes_made n2 values ≡ drivers_made d.signals.items d.drivers.items n1 registers order → nodes_made n3 left ≡ bodies_made d values n2 values d.clocked.items
    → nodes_made n4 next ≡ nexts_made d left n3 [] states → states ≡ states_of d → outputs ≡ map (λ s. get_or values s 0) d.outputs.items
    → map width_of start ≡ map (width_at d.signals.items) states → map value_of start ≡ map (λ s. number (width_at d.signals.items s) (start_state d s)) states
    → IsNetOf d order (record { nodes = n4; outputs = outputs; next = next; start = start })
unfolding net_of
net-is d order n0 n1 n2 n3 n4 first registers values left next outputs states start f r v l n are o w b =
    let resets : Nodes → Nodes = λ a. resets_made d a.each a.nodes a.each d.clocked.items in
    let drivers : Nodes → Nodes = λ a. drivers_made d.signals.items d.drivers.items a.nodes a.each order in
    let bodies : Nodes → Nodes = λ a. bodies_made d a.each a.nodes a.each d.clocked.items in
    let nexts : Nodes → Nodes = λ a. nexts_made d a.each a.nodes [] (states_of d) in
    let r1 : nodes_made n1 registers ≡ resets (begun_made d) = r ∙ ap resets f in
    let v1 : nodes_made n2 values ≡ drivers (resets (begun_made d)) = v ∙ ap drivers r1 in
    let l1 : nodes_made n3 left ≡ bodies (drivers (resets (begun_made d))) = l ∙ ap bodies v1 in
    let n5 : nodes_made n4 next ≡ nexts (bodies (drivers (resets (begun_made d)))) = n ∙ ap (nexts_made d left n3 []) are ∙ ap nexts l1 in
    record {
      nodes = ap (λ (a : Nodes). a.nodes) n5;
      outputs = o ∙ ap (λ (a : Nodes). map (λ s. get_or a.each s 0) d.outputs.items) v1;
      next = ap (λ (a : Nodes). a.each) n5;
      start = b ∙ ap (map (λ s. number (width_at d.signals.items s) (start_state d s))) are;
      widths = w ∙ ap (map (width_at d.signals.items)) are;
    }

pub ruleset parts_steps = (parts-fit)
