-- Values of places by the number of the cycle among all: the runs of a design with them, and what the form's literals are there.
use Rattle.std.proofs.Common.{◌≡◌, ◌⊎◌, inl, inr, ℕ, zero, suc, ◌+◌, ◌*◌, ◌<◌, Bool, true, false, List, [], ◌∷◌, length, map, get_or, Option, Some, None, refl, sym, ◌∙◌, ap, arith}
use Rattle.std.specs.Prelude.{All, Contains, slice_get}
use Rattle.std.specs.Option.{option_map_or}
use Rattle.std.proofs.Math.Path.{fun_ext}
use Rattle.std.proofs.lemmas.Bool.{cases_Bool}
use Rattle.std.proofs.lemmas.List.{length-map}
use Rattle.std.proofs.lemmas.Option.{slice_get_within}
use Rattle.loc_base.proofs.ShelfLists.{slice_get-some, All-member, Contains-at}
use Rattle.gate_base.specs.Literals.{IsBelow}
use Rattle.gate_base.specs.Meaning.{Source}
use Rattle.design_core.specs.declared.design.Design.{Design}
use Rattle.design_core.specs.declared.place.Place.{Place}
use Rattle.design_core.specs.declared.trace.Trace.{Trace}
use Rattle.design_core.specs.Valuation.{Valuation, bit, width_at}
use Rattle.design_core.specs.Explained.{place_width}
use Rattle.design_core.specs.Run.{Choices, IsRun, start_state}
use Rattle.design_core.specs.TraceFits.{IsTraceOf}
use Rattle.design_core.specs.Works.{AreOfWidth, Groups}
use Rattle.suspect_map.specs.declared.group.Group.{Group}
use Rattle.unroller.specs.Meaning.{FreesGrouped}
use Rattle.unroller.specs.Reads.{IsWordBelow}
use Rattle.unroller.specs.Unrolls.{Unrolling, is_grouped, cycles_of}
use Rattle.unroller.proofs.ReadSteps.{literal-below, word-below}
use Rattle.form_laws.specs.Runs.{value_in_cycle, state_before}
use Rattle.form_laws.specs.Models.{literal_in, freed_by, column_of}
use Rattle.form_laws.specs.Encodes.{Asked, CanBeAsked, unrolling_of}
use Rattle.form_laws.specs.Designs.{bits_of}
use Rattle.form_laws.proofs.Definitions.{HasValues}
use Rattle.form_laws.proofs.Equivalence.{ends-all}
use Rattle.form_laws.proofs.Moments.{first_of, cycles-within}
use Rattle.form_laws.proofs.Runs.{run-shows, run-long}
use Rattle.place_functions.specs.Functions.{IsMoment}
use Rattle.pair_form.specs.declared.pair.Pair.{Pair}
use Rattle.pair_form.specs.declared.compared.OutputBit.{OutputBit}
use Rattle.pair_form.specs.declared.compared.Compared.{Compared}
use Rattle.pair_form.specs.Following.{IsPair}
use Rattle.pair_form.specs.AllPairs.{operand_at, bits_from, pair_at, all_pairs}
use Rattle.function_laws.specs.Encoded.{OfFunctions, CanCompare, IsCompared}
use Rattle.function_laws.proofs.PairLists.{all-all}
use Rattle.function_laws.proofs.SelectorsOn.{selectors-below}
use Rattle.function_laws.proofs.Models.{kept, base-is, shown}

true-false : true ≡ false → ⊥
true-false same = cc

module _ (of : OfFunctions) (can : CanCompare of) where
  abbrev pub d : Design
  d = of.form.design

  abbrev pub asked : Asked
  asked = of.form.asked

  abbrev pub groups : List Group
  groups = asked.groups

  abbrev pub traces : List Trace
  traces = asked.traces

  abbrev pub u : Unrolling
  u = unrolling_of asked

  abbrev pub places : Groups
  places = map (λ (group : Group). group.places) groups

  abbrev pub pairs : List Pair
  pairs = all_pairs u groups of.compared

  pub askable : CanBeAsked asked
  askable = can.form.can_be_asked

  pub ends : length u.ends ≡ cycles_of traces
  ends = ends-all asked askable

  pub fits : (i : ℕ) (trace : Trace) → slice_get traces i ≡ Some trace → IsTraceOf d trace
  fits i trace there = All-member (IsTraceOf d) traces trace can.form.traces (Contains-at traces i trace there)

  -- ---- places and their bits

  pub width-is : (p : ℕ) (place : Place) → slice_get d.places.items p ≡ Some place → place_width d p ≡ place.width
  width-is p place there = ap (λ o. option_map_or (λ (x : Place). x.width) o 0) there

  pub record HasBit (p b : ℕ) : Type 0 where
    pub place : Place
    pub there : slice_get d.places.items p ≡ Some place
    pub below : b < place.width

  pub has-bit : (p b : ℕ) → b < place_width d p → HasBit p b
  has-bit p b below = by (slice_get d.places.items p) refl
    where
      by : (o : Option Place) → slice_get d.places.items p ≡ o → HasBit p b
      by None none =
          let zero_wide : place_width d p ≡ 0 = ap (λ o. option_map_or (λ (x : Place). x.width) o 0) none in
          absurd (omega (arith, below, zero_wide))
      by (Some place) there =
          let wide = width-is p place there in record { place = place; there = there; below = omega (arith, below, wide) }

  -- ---- pairs are pairs of the form's definitions

  operand-within : (s : ℕ) (o : OutputBit) → IsBelow (length u.definitions) (operand_at u s o)
  operand-within s o =
      let n = length u.definitions in
      literal-below n (get_or u.outputs (s * u.each + o.output) []) o.position
      (word-below n u.outputs (s * u.each + o.output) (kept asked askable).outputs)

  operands-within : (s : ℕ) (operands : List OutputBit) → IsWordBelow (length u.definitions) (map (operand_at u s) operands)
  operands-within s [] = tt
  operands-within s (o ∷ operands) = (operand-within s o, operands-within s operands)

  bits-within : (s p from more : ℕ) → IsWordBelow (length u.definitions) (bits_from u s p from more)
  bits-within s p from zero = tt
  bits-within s p from (suc more) =
      let n = length u.definitions in (
        literal-below n (get_or u.frees s []) (column_of u.bits p from) (word-below n u.frees s (kept asked askable).frees),
        bits-within s p (from + 1) more,
      )

  bits-long : (s p from more : ℕ) → length (bits_from u s p from more) ≡ more
  bits-long s p from zero = refl
  bits-long s p from (suc more) = ap suc (bits-long s p (from + 1) more)

  pair-is : (c : Compared) (s t : ℕ) → IsPair u.base (length u.definitions) (pair_at u groups c s t)
  pair-is c s t = record {
    operands = operands-within s c.operands;
    operands_then = operands-within t c.operands;
    as_many = length-map c.operands (operand_at u s) ∙ sym (length-map c.operands (operand_at u t));
    bits = bits-within s c.place 0 c.width;
    bits_then = bits-within t c.place 0 c.width;
    as_wide = bits-long s c.place 0 c.width ∙ sym (bits-long t c.place 0 c.width);
    groups = selectors-below c.place groups 1 u.base (omega (arith, base-is asked askable));
  }

  pub all-are : All (IsPair u.base (length u.definitions)) pairs
  all-are = all-all u groups (IsPair u.base (length u.definitions)) of.compared (λ c s t member apart below. pair-is c s t)

  pub is-compared : (c : Compared) → Contains of.compared c → IsCompared d c
  is-compared c member = All-member (IsCompared d) of.compared c can.compared member

  -- ---- values of places by the number of the cycle among all, and the runs with these

  module _ (set : List ℕ) (pick : ℕ → ℕ → ℕ) where
    abbrev pub freed : ℕ → Bool
    freed = freed_by groups set

    abbrev pub bits : ℕ → ℕ → ℕ → Bool
    bits moment p b = bit (pick moment p) b

    abbrev pub picked : ℕ → Choices
    picked i t p = pick (first_of traces i + t) p

    abbrev pub source : Source
    source = record { inputs = λ input b. false; states = λ state b. false; frees = freed; chosen = bits }

    abbrev pub AllWide : Type 0
    AllWide = (i : ℕ) (trace : Trace) → slice_get traces i ≡ Some trace → AreOfWidth d freed (picked i)

    abbrev pub AllRuns : (ℕ → List Valuation) → Type 0
    AllRuns runs = (i : ℕ) (trace : Trace) → slice_get traces i ≡ Some trace → IsRun d trace freed (picked i) (runs i)

    module _ (grouped : FreesGrouped source (is_grouped groups)) where
      -- a freed place is in a group
      pub in-group : (p : ℕ) → freed p ≡ true → is_grouped groups p ≡ true
      in-group p free = by (cases_Bool (is_grouped groups p))
        where
          by : (is_grouped groups p ≡ true) ⊎ (is_grouped groups p ≡ false) → is_grouped groups p ≡ true
          by (inl is) = is
          by (inr none) = absurd (true-false (sym free ∙ grouped p none))

      module _ (a : ℕ → Bool) (has : HasValues a u.base source u.definitions) (runs : ℕ → List Valuation) (wide : AllWide) (are : AllRuns runs) where
        -- a cycle of a run is one of its trace
        pub in-trace : (i : ℕ) (trace : Trace) → slice_get traces i ≡ Some trace → 0 + length (runs i) ≡ trace.cycles
        in-trace i trace there =
            run-long d asked.circuit of.form.read can.form.circuit trace (fits i trace there) freed (picked i) (wide i trace there) (runs i) 0
            (start_state d) (are i trace there)

        -- the literal of a bit of an output is the output's bit in the cycle
        tells-in : (i : ℕ) (trace : Trace) → slice_get traces i ≡ Some trace → (t : ℕ) (V : Valuation) → slice_get (runs i) t ≡ Some V
            → (o : OutputBit) (signal : ℕ) → slice_get d.outputs.items o.output ≡ Some signal → o.position < width_at d.signals.items signal
            → literal_in a u.base (operand_at u (first_of traces i + t) o) ≡ V signal o.position
        tells-in i trace there t V at o signal in_design below =
            let within = slice_get_within d.outputs.items o.output signal in_design in
            let (word, in_words) = slice_get-some asked.circuit.outputs o.output (omega (arith, within, can.form.circuit.outputs)) in
            let long = can.form.circuit.wide o.output signal word in_design in_words in
            let (l, in_word) = slice_get-some word o.position (omega (arith, below, long)) in
            let start : state_before asked.circuit trace freed (bits_of (picked i)) 0 ≡ of.form.read (start_state d) =
            fun_ext (λ s. fun_ext (λ b. can.form.circuit.start s b)) in
            let shows =
            run-shows d asked.circuit of.form.read can.form.circuit trace (fits i trace there) freed (picked i) (wide i trace there) (runs i) 0
            (start_state d) (are i trace there) start t V at in
            let here : t ≡ 0 + t = omega arith in
            let low : t < trace.cycles =
            (let cycle = slice_get_within (runs i) t V at in omega (arith, cycle, in-trace i trace there)) in
            shown asked askable source grouped a has i trace there t low o word l in_words in_word
            ∙ ap (λ n. value_in_cycle asked.circuit trace freed (bits_of (picked i)) n l) here
            ∙ shows o.output signal o.position word l in_design in_words in_word

        pub tells : (i t : ℕ) (V : Valuation) → IsMoment traces runs i t V
            → (o : OutputBit) (signal : ℕ) → slice_get d.outputs.items o.output ≡ Some signal → o.position < width_at d.signals.items signal
            → literal_in a u.base (operand_at u (first_of traces i + t) o) ≡ V signal o.position
        tells i t V m o signal in_design below =
            let (trace, there) = slice_get-some traces i m.in_traces in tells-in i trace there t V m.there o signal in_design below

        -- it is one of all cycles
        pub moment-within : (i t : ℕ) (V : Valuation) → IsMoment traces runs i t V → first_of traces i + t < length u.ends
        moment-within i t V m =
            let (trace, there) = slice_get-some traces i m.in_traces in
            let cycle = slice_get_within (runs i) t V m.there in
            omega (arith, cycle, in-trace i trace there, cycles-within traces i trace there, ends)
