-- What the nodes of a design's net are given in a cycle, as words and as bits.
use Rattle.std.proofs.Common.{◌≡◌, ℕ, zero, suc, ◌^◌, ◌<◌, ◌==◌, true, List, [], ◌∷◌, Some, refl, sym, ◌∙◌, ap, ap₂, subst}
use Rattle.std.specs.Prelude.{Bool, slice_get}
use Rattle.std.specs.Option.{option_map_or}
use Rattle.std.proofs.Math.Path.{fun_ext}
use Rattle.std.proofs.lemmas.Bool.{and_parts, eqb-true}
use Rattle.std.proofs.lemmas.Option.{get_or_from_slice_get}
use Rattle.loc_base.proofs.ShelfOptions.{Some-same}
use Rattle.loc_base.specs.declared.bits.Bits.{Bits}
use Rattle.loc_base.specs.Bits.{value_of, value_of-range, width_of}
use Rattle.gate_base.specs.Meaning.{Source as BitSource}
use Rattle.design_core.specs.declared.design.Design.{Design}
use Rattle.design_core.specs.declared.signal.Signal.{Signal}
use Rattle.design_core.specs.Valuation.{Valuation, bit, width_at}
use Rattle.design_core.specs.After.{Choice}
use Rattle.design_core.specs.TraceFits.{samples_fit}
use Rattle.design_core.specs.WellFormed.{IsWellFormed}
use Rattle.design_core.proofs.NumberLaws.{number-below}
use Rattle.word_net.specs.declared.node.Operation.{Operation}
use Rattle.word_net.specs.declared.node.Operation.TheVariants.{Const, Input, State, Free, Unary, Binary, Choose, Join, Repeat, Resize, Slice, Pick, Is, Put, PutPick, Blend}
use Rattle.word_net.specs.declared.node.WordNode.{WordNode}
use Rattle.word_net.specs.Given.{number_at}
use Rattle.word_net.specs.Values.{Source, net_values}
use Rattle.bit_circuit.specs.Meaning.{AreOfWidth, IsOfWidth, bits_of}
use Rattle.synth_parts.specs.Meaning.{word_of}
use Rattle.v_synth.specs.Net.{cycle_source, states_of}
use Rattle.design_circuits.proofs.Sources.{input-is, values-same}
use Rattle.design_circuits.specs.Reads.{AllReadDesign, IsSignalOf, ReadsDesign}
use Rattle.form_laws.specs.Circuits.{given_cycle}
use Rattle.design_circuits.specs.Reading.{read_of}
use Rattle.design_circuits.proofs.Words.{state-read, state_number, word-read}

-- ---- words

-- the samples and the states as numbers, 0 where there is none
abbrev pub given_words : Design → List Bits → Valuation → Choice → Source
given_words d samples state choice = record { inputs = number_at samples; states = state_number d state; choice = choice }

-- their bits are what the circuit is given
pub same-given : (d : Design) (samples : List Bits) (state : Valuation) (choice : Choice)
    → given_cycle samples (read_of d state) choice ≡ bits_of (given_words d samples state choice)
same-given d samples state choice =
    ap₂ made (fun_ext (λ i. fun_ext (λ b. word-read samples i b))) (fun_ext (λ s. fun_ext (λ b. state-read d state s b)))
  where
    made : (ℕ → ℕ → Bool) → (ℕ → ℕ → Bool) → BitSource
    made inputs states = record {
      inputs = inputs;
      states = states;
      frees = choice.frees;
      chosen = λ moment place b. bit (choice.chosen place) b;
    }

-- the sample of an input
sample-there : (signals : List Signal) (inputs : List ℕ) (samples : List Bits) (i s : ℕ) → samples_fit signals inputs samples ≡ true
    → slice_get inputs i ≡ Some s
    → (x : Bits) × (slice_get samples i ≡ Some x) × (width_of x ≡ width_at signals s)
sample-there signals [] samples i s fits at = absurd cc
sample-there signals (input ∷ inputs) [] i s fits at = absurd cc
sample-there signals (input ∷ inputs) (sample ∷ samples) zero s fits at =
    let both = and_parts (width_of sample == width_at signals input) (samples_fit signals inputs samples) fits in
    (sample, refl, eqb-true (width_of sample) (width_at signals input) both.0 ∙ ap (width_at signals) (Some-same at))
sample-there signals (input ∷ inputs) (sample ∷ samples) (suc i) s fits at =
    let both = and_parts (width_of sample == width_at signals input) (samples_fit signals inputs samples) fits in
    sample-there signals inputs samples i s both.1 at

module _ (d : Design) (well : IsWellFormed d) (samples : List Bits) (state : Valuation) (choice : Choice)
    (fits : samples_fit d.signals.items d.inputs.items samples ≡ true) where
  abbrev given : Source
  given = given_words d samples state choice

  abbrev begun : Source
  begun = cycle_source d samples state choice

  input-same : (i width : ℕ) → IsSignalOf d d.inputs.items i width → given.inputs i ≡ begun.inputs i
  input-same i width (s, there, wide) =
      let (x, at, is) = sample-there d.signals.items d.inputs.items samples i s fits there in
      input-is d.signals.items d.inputs.items samples i x well.inputs_distinct fits at

  state-same : (i width : ℕ) → IsSignalOf d (states_of d) i width → given.states i ≡ begun.states i
  state-same i width (s, there, wide) =
      ap (λ o. option_map_or (word_of d.signals.items state) o 0) there
      ∙ ap (word_of d.signals.items state) (sym (get_or_from_slice_get (states_of d) i s 0 there))

  -- the nodes have the values of the cycle
  pub values-given : (nodes : List WordNode) → AllReadDesign d nodes → net_values given nodes ≡ net_values begun nodes
  values-given nodes reads =
      values-same given begun [] nodes
      (λ i node at. record {
        input = λ k is. input-same k node.width (subst (ReadsDesign d node.width) is (reads i node at));
        state = λ k is. state-same k node.width (subst (ReadsDesign d node.width) is (reads i node at));
        choice = refl;
      })

  input-wide : (i width : ℕ) → IsSignalOf d d.inputs.items i width → given.inputs i < 2 ^ width
  input-wide i width (s, there, wide) =
      let (x, at, is) = sample-there d.signals.items d.inputs.items samples i s fits there in
      subst (λ n. n < 2 ^ width) (sym (ap (λ o. option_map_or value_of o 0) at))
      (subst (λ w. value_of x < 2 ^ w) (is ∙ wide) (value_of-range x))

  state-wide : (i width : ℕ) → IsSignalOf d (states_of d) i width → given.states i < 2 ^ width
  state-wide i width (s, there, wide) =
      subst (λ n. n < 2 ^ width) (sym (ap (λ o. option_map_or (word_of d.signals.items state) o 0) there))
      (subst (λ w. word_of d.signals.items state s < 2 ^ w) wide (number-below (width_at d.signals.items s) (state s)))

  one-wide : (width : ℕ) (operation : Operation) → ReadsDesign d width operation → IsOfWidth given width operation
  one-wide width (Const value) reads = tt
  one-wide width (Input input) reads = input-wide input width reads
  one-wide width (State number) reads = state-wide number width reads
  one-wide width (Free place computed) reads = tt
  one-wide width (Unary op arg) reads = tt
  one-wide width (Binary op left right) reads = tt
  one-wide width (Choose test one other) reads = tt
  one-wide width (Join high low) reads = tt
  one-wide width (Repeat times part) reads = tt
  one-wide width (Resize arg) reads = tt
  one-wide width (Slice word from) reads = tt
  one-wide width (Pick word select) reads = tt
  one-wide width (Is index value) reads = tt
  one-wide width (Put old from size word offset) reads = tt
  one-wide width (PutPick old select word offset) reads = tt
  one-wide width (Blend mask one other) reads = tt

  -- and what they read is of their widths
  pub all-wide : (nodes : List WordNode) → AllReadDesign d nodes → AreOfWidth given nodes
  all-wide [] reads = tt
  all-wide (node ∷ nodes) reads = (one-wide node.width node.operation (reads 0 node refl), all-wide nodes (λ i n at. reads (suc i) n at))
