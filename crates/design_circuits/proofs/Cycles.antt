-- The circuit of a design's net has the design's cycles.
use Rattle.std.proofs.Common.{◌≡◌, ◌⊎◌, inl, inr, ℕ, zero, suc, ◌<◌, ◌≤◌, false, List, [], length, map, get_or, Some, refl, sym, ◌∙◌, ap, subst, arith}
use Rattle.std.specs.Prelude.{slice_get}
use Rattle.std.specs.Option.{option_map_or}
use Rattle.std.proofs.lemmas.Bool.{cases_lt}
use Rattle.std.proofs.lemmas.List.{get_or_past, length-map}
use Rattle.std.proofs.lemmas.Option.{get_or_from_slice_get, slice_get_past, slice_get_within}
use Rattle.loc_base.proofs.ShelfLists.{slice_get-some}
use Rattle.loc_base.proofs.ShelfOptions.{Some-same}
use Rattle.loc_base.specs.declared.bits.Bits.{Bits}
use Rattle.loc_base.specs.Bits.{value_of}
use Rattle.gate_base.specs.declared.literal.Literal.{Literal}
use Rattle.gate_base.specs.declared.literal.Literal.TheVariants.{Known}
use Rattle.gate_base.specs.Meaning.{bit_value}
use Rattle.design_core.specs.declared.design.Design.{Design}
use Rattle.design_core.specs.declared.place.Place.{Place}
use Rattle.design_core.specs.declared.signal.Signal.{Signal}
use Rattle.design_core.specs.Constant.{zeros}
use Rattle.design_core.specs.Valuation.{Valuation, bit, width_at}
use Rattle.design_core.specs.After.{Choice}
use Rattle.design_core.specs.Run.{start_state}
use Rattle.design_core.proofs.NumberLaws.{number-below}
use Rattle.word_net.specs.declared.node.WordNode.{WordNode}
use Rattle.word_net.specs.Fits.{widths_of}
use Rattle.word_net.specs.Nets.{Net}
use Rattle.word_net.specs.Values.{Source, net_values}
use Rattle.bit_circuit.specs.Circuits.{BitNet, circuit_of}
use Rattle.bit_circuit.specs.Meaning.{GivenNet, IsOf, MeanNodes, bits_of}
use Rattle.bit_circuit.proofs.CircuitLaws.{next-mean, outputs-mean}
use Rattle.bit_circuit.proofs.CircuitKept.{free-of}
use Rattle.bit_circuit.proofs.ExpandSteps.{nothing-given, nothing as no_words}
use Rattle.synth_parts.specs.Meaning.{word_of}
use Rattle.synth_parts.proofs.Base.{bit-number}
use Rattle.v_synth.specs.Matches.{MeansCycle, OneNet, value_in}
use Rattle.v_synth.specs.Net.{net_of, states_of}
use Rattle.v_synth.proofs.NetKeeps.{cycle-means}
use Rattle.v_synth.proofs.Whole.{AllMean, net-shown, no_more, one_more}
use Rattle.design_circuits.specs.Reads.{AllReadDesign, ReadsDesign}
use Rattle.unroller.specs.declared.free_bit.FreeBit.{FreeBit}
use Rattle.unroller.specs.Cycles.{free_bits, held, sampled}
use Rattle.form_laws.proofs.Columns.{node-of}
use Rattle.form_laws.specs.Circuits.{IsCircuitOf, OneCycle, given_cycle}
use Rattle.design_circuits.specs.Reading.{IsOfNet, OfNet, bit_within, read_of}
use Rattle.design_circuits.proofs.Words.{bit-within, image-or, images-at, known-false, literal-means, state-read, word-read}
use Rattle.design_circuits.proofs.Given.{all-wide, given_words, same-given, values-given}

-- ---- nodes of signals

-- a node of a list has a width
record NodeIn (nodes : List WordNode) (numbers : List ℕ) (i width : ℕ) : Type 0 where
  node : ℕ
  is : slice_get numbers i ≡ Some node
  wide : slice_get (widths_of nodes) node ≡ Some width

node-of_signal : {e : Source} {signals : List Signal} {nodes : List WordNode} {f : ℕ → ℕ} {ns ss : List ℕ} (i s : ℕ)
    → AllMean e signals nodes f ns ss → slice_get ss i ≡ Some s
    → NodeIn nodes ns i (width_at signals s)
node-of_signal i s no_more at = absurd (omega (arith, slice_get_within [] i s at))
node-of_signal {signals = signals} {nodes = nodes} zero s (one_more {n} m ms) at =
    record { node = n; is = refl; wide = subst (λ x. slice_get (widths_of nodes) n ≡ Some (width_at signals x)) (Some-same at) m.there }
node-of_signal (suc i) s (one_more m ms) at = let r = node-of_signal i s ms at in record { node = r.node; is = r.is; wide = r.wide }

as-many : {e : Source} {signals : List Signal} {nodes : List WordNode} {f : ℕ → ℕ} {ns ss : List ℕ} → AllMean e signals nodes f ns ss
    → length ns ≡ length ss
as-many no_more = refl
as-many (one_more m ms) = ap suc (as-many ms)

-- ---- parts of a circuit

outputs-many : (net : Net) → length (circuit_of net).outputs ≡ length net.outputs
unfolding circuit_of
outputs-many net = length-map net.outputs _

next-many : (net : Net) → length (circuit_of net).next ≡ length net.next
unfolding circuit_of
next-many net = length-map net.next _

start-same : (net : Net) → (circuit_of net).start ≡ net.start
unfolding circuit_of
start-same net = refl

net-starts : (d : Design) (order : List ℕ) → (net_of d order).start ≡ map (word_of d.signals.items (start_state d)) (states_of d)
unfolding net_of
net-starts d order = refl

module _ (of : OfNet) (is : IsOfNet of) (reads : AllReadDesign of.design of.net.nodes) where
  abbrev d : Design
  d = of.design

  abbrev net : Net
  net = of.net

  abbrev signals : List Signal
  signals = d.signals.items

  abbrev circuit : BitNet
  circuit = circuit_of net

  -- ---- widths, in any cycle

  nothing : Choice
  nothing = record { frees = λ _. false; chosen = λ _. 0 }

  output-node : (i s : ℕ) → slice_get d.outputs.items i ≡ Some s → NodeIn net.nodes net.outputs i (width_at signals s)
  output-node i s at =
      let shown = net-shown d of.order [] zeros nothing is.well_formed is.once is.order in
      subst (λ ns. NodeIn ns net.outputs i (width_at signals s)) (sym is.of_design.nodes)
      (subst (λ os. NodeIn (net_of d of.order).nodes os i (width_at signals s)) (sym is.of_design.outputs)
      (node-of_signal i s shown.outputs at))

  next-node : (i s : ℕ) → slice_get (states_of d) i ≡ Some s → NodeIn net.nodes net.next i (width_at signals s)
  next-node i s at =
      let shown = net-shown d of.order [] zeros nothing is.well_formed is.once is.order in
      subst (λ ns. NodeIn ns net.next i (width_at signals s)) (sym is.of_design.nodes)
      (subst (λ os. NodeIn (net_of d of.order).nodes os i (width_at signals s)) (sym is.of_design.next) (node-of_signal i s shown.next at))

  outputs-all : length circuit.outputs ≡ length d.outputs.items
  outputs-all =
      let shown = net-shown d of.order [] zeros nothing is.well_formed is.once is.order in
      outputs-many net ∙ ap length is.of_design.outputs ∙ as-many shown.outputs

  next-all : length circuit.next ≡ length (states_of d)
  next-all =
      let shown = net-shown d of.order [] zeros nothing is.well_formed is.once is.order in
      next-many net ∙ ap length is.of_design.next ∙ as-many shown.next

  -- an output has a literal for each bit of its signal
  output-wide : (i output : ℕ) (word : List Literal) → slice_get d.outputs.items i ≡ Some output → slice_get circuit.outputs i ≡ Some word
      → length word ≡ width_at signals output
  output-wide i output word in_design in_circuit =
      let node = output-node i output in_design in
      let any : GivenNet = record { net = net; source = no_words } in
      ap length (sym (get_or_from_slice_get circuit.outputs i word [] in_circuit))
      ∙ (outputs-mean any is.net (nothing-given net.nodes) i node.node (width_at signals output) node.is node.wide).wide

  -- ---- the states before the first cycle

  starts : (s b : ℕ) → sampled circuit.start s b ≡ read_of d (start_state d) s b
  starts s b =
      let numbers : map value_of net.start ≡ map (word_of signals (start_state d)) (states_of d) =
      is.of_design.start ∙ net-starts d of.order in
      ap (λ words. sampled words s b) (start-same net) ∙ word-read net.start s b
      ∙ ap (λ n. bit n b)
      (sym (image-or value_of net.start s) ∙ ap (λ ns. get_or ns s 0) numbers
      ∙ image-or (word_of signals (start_state d)) (states_of d) s)
      ∙ sym (state-read d (start_state d) s b)

  -- ---- a cycle

  module _ (samples : List Bits) (state : Valuation) (choice : Choice) (V next : Valuation)
      (one : OneCycle d samples state choice V next) where
    abbrev source : Source
    source = given_words d samples state choice

    abbrev given : GivenNet
    given = record { net = net; source = source }

    abbrev cycle : OneNet
    cycle = record { design = d; order = of.order; samples = samples; state = state; choice = choice; values = V; next = next }

    -- the literals for a signal mean its bits
    word-of : (numbers listed : List ℕ) (words : List (List Literal)) (W : Valuation) → MeanNodes given numbers words
        → map (value_in cycle net) numbers ≡ map (word_of signals W) listed
        → (i s : ℕ) → NodeIn net.nodes numbers i (width_at signals s) → slice_get listed i ≡ Some s
        → IsOf (bits_of source) circuit.nodes (get_or words i []) (width_at signals s) (word_of signals W s)
    word-of numbers listed words W mean values i s node at =
        let same : get_or (net_values source net.nodes) node.node 0 ≡ word_of signals W s =
        ap (λ vs. get_or vs node.node 0) (values-given d is.well_formed samples state choice one.samples_fit net.nodes reads)
        ∙ images-at (value_in cycle net) (word_of signals W) numbers listed i node.node s values node.is at in
        subst (λ v. IsOf (bits_of source) circuit.nodes (get_or words i []) (width_at signals s) v) same
        (mean i node.node (width_at signals s) node.is node.wide)

    means : MeansCycle cycle net
    means = cycle-means d of.order net is.well_formed is.once is.order is.of_design cycle refl refl one.cycle

    output-word : (i s : ℕ) → slice_get d.outputs.items i ≡ Some s
        → IsOf (bits_of source) circuit.nodes (get_or circuit.outputs i []) (width_at signals s) (word_of signals V s)
    output-word i s at =
        word-of net.outputs d.outputs.items circuit.outputs V
        (outputs-mean given is.net (all-wide d is.well_formed samples state choice one.samples_fit net.nodes reads)) means.outputs i s
        (output-node i s at) at

    next-word : (i s : ℕ) → slice_get (states_of d) i ≡ Some s
        → IsOf (bits_of source) circuit.nodes (get_or circuit.next i []) (width_at signals s) (word_of signals next s)
    next-word i s at =
        word-of net.next (states_of d) circuit.next next
        (next-mean given is.net (all-wide d is.well_formed samples state choice one.samples_fit net.nodes reads)) means.next i s
        (next-node i s at) at

    -- a literal means the same for the bits that the circuit is given
    same-value : (l : Literal)
        → bit_value (given_cycle samples (read_of d state) choice) circuit.nodes l ≡ bit_value (bits_of source) circuit.nodes l
    same-value l = ap (λ e. bit_value e circuit.nodes l) (same-given d samples state choice)

    outputs-are : (i output b : ℕ) (word : List Literal) (l : Literal) → slice_get d.outputs.items i ≡ Some output
        → slice_get circuit.outputs i ≡ Some word → slice_get word b ≡ Some l
        → bit_value (given_cycle samples (read_of d state) choice) circuit.nodes l ≡ V output b
    outputs-are i output b word l in_design in_circuit in_word =
        let width = width_at signals output in
        let own : IsOf (bits_of source) circuit.nodes word width (word_of signals V output) =
        subst (λ ls. IsOf (bits_of source) circuit.nodes ls width (word_of signals V output))
        (get_or_from_slice_get circuit.outputs i word [] in_circuit) (output-word i output in_design) in
        let low : b < width = omega (arith, slice_get_within word b l in_word, own.wide) in
        same-value l ∙ ap (bit_value (bits_of source) circuit.nodes) (sym (get_or_from_slice_get word b l (Known false) in_word))
        ∙ literal-means width (word_of signals V output) b own (number-below width (V output)) ∙ bit-number width (V output) b low

    next-is : (s b : ℕ)
        → bit_value (given_cycle samples (read_of d state) choice) circuit.nodes (held circuit.next s b) ≡ read_of d next s b
    next-is s b = same-value (held circuit.next s b) ∙ at (cases_lt s (length (states_of d)))
      where
        at : (s < length (states_of d)) ⊎ (length (states_of d) ≤ s)
            → bit_value (bits_of source) circuit.nodes (held circuit.next s b) ≡ read_of d next s b
        at (inl low) =
            let (x, there) = slice_get-some (states_of d) s low in
            literal-means (width_at signals x) (word_of signals next x) b (next-word s x there) (number-below (width_at signals x) (next x))
            ∙ bit-within (width_at signals x) (next x) b ∙ sym (ap (λ o. option_map_or (bit_within d next b) o false) there)
        at (inr past) =
            ap (λ word. bit_value (bits_of source) circuit.nodes (get_or word b (Known false)))
            (get_or_past circuit.next s [] (omega (arith, past, next-all)))
            ∙ known-false (bits_of source) circuit.nodes
            ∙ sym (ap (λ o. option_map_or (bit_within d next b) o false) (slice_get_past (states_of d) s past))

  -- ---- free bits

  free-place : (column : ℕ) (x : FreeBit) → slice_get (free_bits circuit.nodes) column ≡ Some x
      → (place : Place) × (slice_get d.places.items x.place ≡ Some place) × (x.bit < place.width)
  free-place column x there =
      let of_node = node-of circuit.nodes column x.place x.bit there in
      let free = free-of net is.net of_node.at of_node.moment x.place x.bit of_node.computed of_node.there in
      let (place, at, wide) = subst (ReadsDesign d free.node.width) free.is (reads free.at free.node free.there) in
      (place, at, omega (arith, free.within, wide))

  pub is-circuit : IsCircuitOf d circuit (read_of d)
  is-circuit = record {
    start = starts;
    outputs = outputs-all;
    wide = output-wide;
    values = outputs-are;
    next = next-is;
    places = free-place;
  }
