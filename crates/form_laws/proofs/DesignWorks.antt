-- A set works in a design exactly where it works in the design's circuit.
use Rattle.std.proofs.Common.{◌≡◌, ◌⊎◌, inl, inr, ℕ, zero, suc, ◌+◌, ◌-◌, ◌*◌, ◌%◌, ◌^◌, ◌<◌, ◌≤◌, ◌==◌, Bool, true, false, if◌then◌else◌, List, map, Some, refl, sym, ◌∙◌, ap, subst, arith}
use Rattle.std.specs.Prelude.{cond, slice_get}
use Rattle.std.specs.Int.{bit_at}
use Rattle.std.specs.Option.{option_map_or}
use Rattle.std.proofs.Math.Path.{fun_ext}
use Rattle.std.proofs.lemmas.Bool.{cases_lt}
use Rattle.std.proofs.lemmas.Nat.Bits.{bit_at_cat_low, bit_at_cat_high, bit_at_lowest}
use Rattle.std.proofs.lemmas.Option.{slice_get_within}
use Rattle.loc_base.proofs.ShelfLists.{slice_get-some, All-member}
use Rattle.suspect_map.specs.declared.group.Group.{Group}
use Rattle.design_core.specs.declared.design.Design.{Design}
use Rattle.design_core.specs.declared.place.Place.{Place}
use Rattle.design_core.specs.declared.trace.Trace.{Trace}
use Rattle.design_core.specs.Valuation.{bit, number}
use Rattle.design_core.specs.Explained.{place_width}
use Rattle.design_core.specs.Run.{Choices, Meets, start_state}
use Rattle.design_core.specs.TraceFits.{IsTraceOf}
use Rattle.design_core.specs.Works.{AreOfWidth, Works, places_of}
use Rattle.design_core.proofs.NumberLaws.{number-suc, number-below}
use Rattle.design_core.proofs.RunLaws.{run-exists}
use Rattle.bit_circuit.specs.Circuits.{BitNet}
use Rattle.gate_base.specs.declared.literal.Literal.{Literal}
use Rattle.form_laws.specs.Runs.{Chosen, CircuitMeets, CircuitWorks, state_before, value_in_cycle}
use Rattle.form_laws.specs.Encodes.{IsEncoded}
use Rattle.form_laws.proofs.SameRuns.{ChooseAlike, meets-alike}
use Rattle.form_laws.proofs.Equivalence.{encodes}
use Rattle.form_laws.specs.Designs.{bits_of, EncodesDesign, IsOfDesign, MeetsAlike, OfDesign}
use Rattle.form_laws.proofs.Runs.{run-shows, run-long, right-circuit, right-design}

top : (is : Bool) (p : ℕ) → (if is then p else 0) ≡ cond is 1 0 * p
top true p = omega arith
top false p = omega arith

lowest : (is : Bool) → (cond is 1 0 % 2 == 1) ≡ is
lowest true = refl
lowest false = refl

number-at : (w : ℕ) (f : ℕ → Bool) (b : ℕ) → b < suc w → number (suc w) f ≡ cond (f w) 1 0 * 2 ^ w + number w f
    → (b < w → bit (number w f) b ≡ f b) → (b < w) ⊎ (w ≤ b) → bit (number (suc w) f) b ≡ f b
number-at w f b less whole rest (inl low) =
    ap (λ n. bit n b) whole ∙ ap (λ n. n == 1) (bit_at_cat_low (cond (f w) 1 0) w (number w f) b low) ∙ rest low
number-at w f b less whole rest (inr past) =
    let here : w ≡ b = omega (arith, past, less) in
    let none : b - w ≡ 0 = omega (arith, less) in
    ap (λ n. bit n b) whole ∙ ap (λ n. n == 1) (bit_at_cat_high (cond (f w) 1 0) w (number w f) b (number-below w f) past)
    ∙ ap (λ k. bit_at (cond (f w) 1 0) k == 1) none ∙ ap (λ n. n == 1) (bit_at_lowest (cond (f w) 1 0)) ∙ lowest (f w) ∙ ap f here

-- a number's bits are those that it was made of
number-has : (w : ℕ) (f : ℕ → Bool) (b : ℕ) → b < w → bit (number w f) b ≡ f b
number-has zero f b less = absurd (omega (arith, less))
number-has (suc w) f b less =
    number-at w f b less (omega (arith, number-suc w f, top (f w) (2 ^ w))) (λ low. number-has w f b low) (cases_lt b w)

module _ (of : OfDesign) (can : IsOfDesign of) where
  abbrev d : Design
  d = of.design

  abbrev circuit : BitNet
  circuit = of.asked.circuit

  start-same : (trace : Trace) (freed : ℕ → Bool) (chosen : Chosen) → state_before circuit trace freed chosen 0 ≡ of.read (start_state d)
  start-same trace freed chosen = fun_ext (λ s. fun_ext (λ b. can.circuit.start s b))

  module _ (trace : Trace) (freed : ℕ → Bool) (c : Choices) (fits : IsTraceOf d trace) (wide : AreOfWidth d freed c) where
    to-design : CircuitMeets circuit trace freed (bits_of c) → Meets d trace freed c
    to-design meets =
        let (run, is_run) = run-exists d of.order can.well_formed can.once can.order trace freed c in (
          run,
          is_run,
          (λ t V there.
              let long = run-long d circuit of.read can.circuit trace fits freed c wide run 0 (start_state d) is_run in
              let within = slice_get_within run t V there in
              let low : t < trace.cycles = omega (arith, long, within) in
              let here : 0 + t ≡ t = omega arith in
              let shows = run-shows d circuit of.read can.circuit trace fits freed c wide run 0 (start_state d) is_run
              (start-same trace freed (bits_of c)) t V there in
              right-design d circuit of.read can.circuit trace fits freed c wide t low V
              (λ i output b word l in_design in_words in_word.
              ap (λ n. value_at n l) (sym here) ∙ shows i output b word l in_design in_words in_word)
              (meets t low)),
        )
      where
        value_at : ℕ → Literal → Bool
        value_at t l = value_in_cycle circuit trace freed (bits_of c) t l

    to-circuit : Meets d trace freed c → CircuitMeets circuit trace freed (bits_of c)
    to-circuit (run, is_run, right) t low =
        let long = run-long d circuit of.read can.circuit trace fits freed c wide run 0 (start_state d) is_run in
        let (V, there) = slice_get-some run t (omega (arith, long, low)) in
        let here : 0 + t ≡ t = omega arith in
        let shows = run-shows d circuit of.read can.circuit trace fits freed c wide run 0 (start_state d) is_run
        (start-same trace freed (bits_of c)) t V there in
        right-circuit d circuit of.read can.circuit trace fits freed c wide t low V
        (λ i output b word l in_design in_words in_word.
        ap (λ n. value_at n l) (sym here) ∙ shows i output b word l in_design in_words in_word)
        (right t V there)
      where
        value_at : ℕ → Literal → Bool
        value_at t l = value_in_cycle circuit trace freed (bits_of c) t l

  pub meets-alike-design : MeetsAlike of
  meets-alike-design trace freed c fits wide = (to-design trace freed c fits wide, to-circuit trace freed c fits wide)

  -- bits of places as numbers of the places' widths
  abbrev numbers : Chosen → Choices
  numbers chosen t p = number (place_width d p) (chosen t p)

  width-is : (p : ℕ) (place : Place) → slice_get d.places.items p ≡ Some place → place_width d p ≡ place.width
  width-is p place there = ap (λ o. option_map_or (λ (x : Place). x.width) o 0) there

  numbers-wide : (freed : ℕ → Bool) (chosen : Chosen) → AreOfWidth d freed (numbers chosen)
  numbers-wide freed chosen t p place there is_free =
      subst (λ w. numbers chosen t p < 2 ^ w) (width-is p place there) (number-below (place_width d p) (chosen t p))

  numbers-alike : (trace : Trace) (freed : ℕ → Bool) (chosen : Chosen) → ChooseAlike circuit trace freed chosen (bits_of (numbers chosen))
  numbers-alike trace freed chosen t p b low read is_free =
      let (place, there, below) = can.circuit.places read.column (record { place = p; bit = b }) read.there in
      sym (number-has (place_width d p) (chosen t p) b (omega (arith, below, width-is p place there)))

  module _ (set : List ℕ) where
    abbrev groups : List (List ℕ)
    groups = map (λ (group : Group). group.places) of.asked.groups

    abbrev freed : ℕ → Bool
    freed = places_of groups set

    works-design : CircuitWorks circuit of.asked.traces freed → Works d of.asked.traces groups set
    works-design works trace member =
        let (chosen, meets) = works trace member in
        let fits = All-member (IsTraceOf d) of.asked.traces trace can.traces member in (
          numbers chosen,
          numbers-wide freed chosen,
          to-design trace freed (numbers chosen) fits (numbers-wide freed chosen)
              (meets-alike circuit trace freed chosen (bits_of (numbers chosen)) (numbers-alike trace freed chosen) meets),
        )

    works-circuit : Works d of.asked.traces groups set → CircuitWorks circuit of.asked.traces freed
    works-circuit works trace member =
        let (c, wide, meets) = works trace member in
        let fits = All-member (IsTraceOf d) of.asked.traces trace can.traces member in
        (bits_of c, to-circuit trace freed c fits wide meets)

  pub encodes-design : EncodesDesign of
  encodes-design j set size few =
      let both = encodes of.asked can.can_be_asked j set size few in
      ((λ (is : IsEncoded of.asked j set). works-design set (both.0 is)), (λ works. both.1 (works-circuit set works)))
