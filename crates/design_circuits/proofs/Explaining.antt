-- The values that a model gives to the places of a set explain the traces in the design.
use Rattle.std.proofs.Common.{◌≡◌, ◌⊎◌, inl, inr, ℕ, zero, suc, ◌+◌, ◌-◌, ◌*◌, ◌^◌, ◌<◌, ◌≤◌, ◌==◌, true, false, if◌then◌else◌, List, [], ◌∷◌, length, map, take, drop, refl, sym, ◌∙◌, ap, subst, arith}
use Rattle.std.specs.Option.{option_map_or}
use Rattle.std.proofs.Math.Nat.{mul-le-mul_right}
use Rattle.std.proofs.Math.Path.{fun_ext}
use Rattle.std.proofs.lemmas.Bool.{cases_Bool, cases_lt, ne_eqb}
use Rattle.std.proofs.lemmas.List.{drop-map, length-map, take-map}
use Rattle.loc_base.proofs.ShelfBools.{equal-true}
use Rattle.loc_base.proofs.ShelfLists.{All-member, Contains-at}
use Rattle.loc_base.specs.declared.bits.Bits.{Bits}
use Rattle.loc_base.specs.Bits.{value_of, value_of-range, width_of}
use Rattle.design_core.specs.declared.design.Design.{Design}
use Rattle.design_core.specs.declared.place.Place.{Place}
use Rattle.design_core.specs.declared.trace.Trace.{Trace}
use Rattle.design_core.specs.Explained.{AreRows, AreValuesOf, Explains, IsRow, choices_in, cycles_before, number_for, place_width, row_at, row_of}
use Rattle.design_core.specs.TraceFits.{IsTraceOf}
use Rattle.design_core.specs.Works.{AreOfWidth, places_of}
use Rattle.design_core.proofs.NumberLaws.{number-below}
use Rattle.bit_circuit.specs.Circuits.{circuit_of}
use Rattle.design_circuits.specs.Reads.{AllReadDesign, HasEachPlace}
use Rattle.unroller.specs.Unrolls.{Unrolling, cycles_of}
use Rattle.form_laws.specs.Encodes.{CanBeAsked, unrolling_of}
use Rattle.form_laws.proofs.Equivalence.{bits-are, ends-all}
use Rattle.form_values.specs.ModelValues.{width_in, widths_of}
use Rattle.form_values.proofs.Meets.{length-rows, meet-traces, row-at}
use Rattle.form_laws.proofs.DesignWorks.{meets-alike-design}
use Rattle.design_circuits.specs.Forms.{CanAskNet, IsModelOf, NetAsked, NetModel, asked_of, of_design, places_in}
use Rattle.design_circuits.specs.Reading.{read_of}
use Rattle.design_circuits.proofs.Asked.{can-be-asked, is-of_design, of-circuit}
use Rattle.design_circuits.proofs.FreeBits.{each-place, widths-are}

-- ---- the number for a place

some-power : (w : ℕ) → 0 < 2 ^ w
some-power w = let low = number-below w (λ _. false) in omega (arith, low)

head-same : (m n : ℕ) (ms ns : List ℕ) → m ∷ ms ≡ n ∷ ns → m ≡ n
head-same m n ms ns e = cc

tail-same : (m n : ℕ) (ms ns : List ℕ) → m ∷ ms ≡ n ∷ ns → ms ≡ ns
tail-same m n ms ns e = cc

-- in a row of words of the places' widths it is of the place's width
number-fits : (d : Design) (places : List ℕ) (row : List Bits) (p : ℕ) → IsRow d places row
    → number_for places (map value_of row) p < 2 ^ place_width d p
number-fits d [] row p fits = some-power (place_width d p)
number-fits d (q ∷ places) [] p fits = some-power (place_width d p)
number-fits d (q ∷ places) (x ∷ row) p fits =
    at (cases_Bool (q == p))
    (number-fits d places row p (tail-same (width_of x) (place_width d q) (map width_of row) (map (place_width d) places) fits))
  where
    at : ((q == p) ≡ true) ⊎ ((q == p) ≡ false) → number_for places (map value_of row) p < 2 ^ place_width d p
        → (if q == p then value_of x else number_for places (map value_of row) p) < 2 ^ place_width d p
    at (inl is) rest =
        let wide : width_of x ≡ place_width d p =
        head-same (width_of x) (place_width d q) (map width_of row) (map (place_width d) places) fits
        ∙ ap (place_width d) (equal-true q p is) in
        subst (λ t. (if t then value_of x else number_for places (map value_of row) p) < 2 ^ place_width d p) (sym is)
        (subst (λ w. value_of x < 2 ^ w) wide (value_of-range x))
    at (inr other) rest =
        subst (λ t. (if t then value_of x else number_for places (map value_of row) p) < 2 ^ place_width d p) (sym other) rest

no-number : (places : List ℕ) (p : ℕ) → number_for places [] p ≡ 0
no-number [] p = refl
no-number (q ∷ places) p = refl

drop-past : (n : ℕ) (xs : List Bits) → length xs ≤ n → drop n xs ≡ []
drop-past zero [] past = refl
drop-past zero (x ∷ xs) past = absurd (omega (arith, past))
drop-past (suc n) [] past = refl
drop-past (suc n) (x ∷ xs) past = drop-past n xs (omega (arith, past))

take-none : {X : Type 0} (n : ℕ) → take {A = X} n [] ≡ []
take-none zero = refl
take-none (suc n) = refl

-- in any row
any-fits : (d : Design) (places : List ℕ) (rows : List Bits) (count r p : ℕ) → AreRows d places rows count
    → number_for places (map value_of (row_of places rows r)) p < 2 ^ place_width d p
any-fits d places rows count r p are = at (cases_lt r count)
  where
    at : (r < count) ⊎ (count ≤ r) → number_for places (map value_of (row_of places rows r)) p < 2 ^ place_width d p
    at (inl low) = number-fits d places (row_of places rows r) p (are.each r low)
    at (inr past) =
        let more : count * length places ≤ r * length places = mul-le-mul_right (length places) past in
        let none : row_of places rows r ≡ [] =
        ap (take (length places)) (drop-past (r * length places) rows (omega (arith, more, are.whole))) ∙ take-none (length places) in
        subst (λ n. n < 2 ^ place_width d p) (sym (ap (λ row. number_for places (map value_of row) p) none ∙ no-number places p))
        (some-power (place_width d p))

-- the cycles of all traces
cycles-all : (traces : List Trace) → cycles_before traces (length traces) ≡ cycles_of traces
cycles-all [] = refl
cycles-all (trace ∷ traces) =
    let one : suc (length traces) - 1 ≡ length traces = omega arith in
    ap (λ t. if t then 0 else trace.cycles + cycles_before traces (suc (length traces) - 1))
    (ne_eqb (suc (length traces)) 0 (λ same. omega (arith, same)))
    ∙ ap (λ n. trace.cycles + cycles_before traces n) one ∙ ap (λ n. trace.cycles + n) (cycles-all traces)

module _ (model : NetModel) (can : CanAskNet model.asked) (is : IsModelOf model)
    (reads : AllReadDesign model.asked.of.design model.asked.of.net.nodes)
    (each : HasEachPlace model.asked.of.design model.asked.of.net.nodes) where
  abbrev net : NetAsked
  net = model.asked

  abbrev d : Design
  d = net.of.design

  abbrev form : Unrolling
  form = unrolling_of (asked_of net)

  abbrev places : List ℕ
  places = model.values.places.items

  abbrev rows : List Bits
  rows = model.values.rows.items

  abbrev count : ℕ
  count = length form.ends

  asked : CanBeAsked (asked_of net)
  asked = can-be-asked net can reads

  -- ---- the rows of the values

  same-widths : map (width_in form.bits) places ≡ map (place_width d) places
  same-widths =
      ap (λ f. map f places)
      (fun_ext (λ p. ap (λ bits. width_in bits p) (bits-are (asked_of net) asked)
      ∙ widths-are d can.of_net.well_formed (circuit_of net.of.net) (read_of d) (of-circuit net can reads)
      (each-place net.of can.of_net each) p))

  all-rows : length rows ≡ count * length places
  all-rows =
      sym (length-map rows width_of) ∙ ap length is.values.widths
      ∙ length-rows (length places) (λ n. map (width_in form.bits) places) (widths_of form places) refl (λ n. refl)
      (λ n. length-map places (width_in form.bits)) count

  one-row : (r : ℕ) → r < count → IsRow d places (row_of places rows r)
  one-row r low =
      sym (take-map width_of (length places) (drop (r * length places) rows))
      ∙ ap (take (length places)) (sym (drop-map width_of (r * length places) rows) ∙ ap (drop (r * length places)) is.values.widths)
      ∙ row-at (length places) (λ n. map (width_in form.bits) places) (widths_of form places) refl (λ n. refl)
      (λ n. length-map places (width_in form.bits)) count r low
      ∙ same-widths

  are-rows : AreRows d places rows count
  are-rows = record { whole = all-rows; each = one-row }

  ends : count ≡ cycles_before net.traces (length net.traces)
  ends = ends-all (asked_of net) asked ∙ sym (cycles-all net.traces)

  pub values-are : AreValuesOf d net.traces (places_in net) model.members model.values
  values-are = record { ascending = is.values.ascending; places = is.values.places; rows = subst (AreRows d places rows) ends are-rows }

  -- ---- the traces

  widths-fit : (j : ℕ) → AreOfWidth d (places_of (places_in net) model.members) (choices_in net.traces model.values j)
  widths-fit j t p place there freed =
      let wide : place_width d p ≡ place.width = ap (λ o. option_map_or (λ (x : Place). x.width) o 0) there in
      subst (λ w. number_for places (row_at model.values (cycles_before net.traces j + t)) p < 2 ^ w) wide
      (any-fits d places rows count (cycles_before net.traces j + t) p are-rows)

  pub explains : Explains d net.traces (places_in net) model.members model.values
  explains = record {
    widths = λ j trace there. widths-fit j;
    meets = λ j trace there.
        (meets-alike-design (of_design net) (is-of_design net can reads) trace (places_of (places_in net) model.members)
        (choices_in net.traces model.values j) (All-member (IsTraceOf d) net.traces trace can.traces (Contains-at net.traces j trace there))
        (widths-fit j)).0
        (meet-traces model.assignment form net.groups model.members model.values is.values (asked_of net) asked refl refl is.satisfies
        is.selects j trace there);
  }
