-- What the texts of a set say: any two values of theirs are the same numbers, and where traces are right with them they explain the
-- traces.
use Rattle.std.proofs.Common.{◌≡◌, ◌⊎◌, inl, inr, ℕ, zero, suc, ◌+◌, ◌*◌, ◌^◌, ◌<◌, ◌≤◌, ◌==◌, Bool, true, false, if◌then◌else◌, List, [], ◌∷◌, ◌++◌, length, get_or, map, take, Some, refl, sym, ap, ap₂, ◌∙◌, subst, arith}
use Rattle.std.specs.Prelude.{slice_get}
use Rattle.std.specs.Option.{option_map_or}
use Rattle.std.proofs.Math.Nat.{mul-le-mul_right, one-le-pow}
use Rattle.std.proofs.Math.Path.{fun_ext}
use Rattle.std.proofs.lemmas.Bool.{cases_Bool, cases_lt}
use Rattle.std.proofs.lemmas.List.{drop_all}
use Rattle.loc_base.proofs.ShelfBools.{equal-true}
use Rattle.loc_base.specs.declared.bits.Bits.{Bits}
use Rattle.loc_base.specs.Bits.{value_of, value_of-range, width_of}
use Rattle.design_core.specs.declared.design.Design.{Design}
use Rattle.design_core.specs.declared.place.Place.{Place}
use Rattle.design_core.specs.declared.trace.Trace.{Trace}
use Rattle.design_core.specs.declared.values.Values.{Values}
use Rattle.design_core.specs.Explained.{AreRows, Explains, IsRow, choices_in, cycles_before, is_one_of, number_for, place_width, row_at, row_of}
use Rattle.design_core.specs.Run.{Choices, Meets}
use Rattle.design_core.specs.Works.{AreOfWidth, places_of}
use Rattle.design_core.proofs.CyclesBefore.{cycles_before-suc}
use Rattle.report_doc.specs.declared.types.ReportSet.{ReportSet}
use Rattle.report_sets.specs.Found.{row_texts, rows_texts, traces_texts, word_text}
use Rattle.report_sets.specs.Reading.{all_rows}
use Rattle.report_sets.specs.Written.{IsWritten}
use Rattle.report_sets.proofs.Spelling.{word_text-same}
use Rattle.report_sets.proofs.Writing.{places-same}

-- ---- words of the same widths and texts
pub numbers-same : (one other : List Bits) → map width_of one ≡ map width_of other → map word_text one ≡ map word_text other
    → map value_of one ≡ map value_of other
numbers-same [] [] wide same = refl
numbers-same [] (y ∷ ys) wide same = cc
numbers-same (x ∷ xs) [] wide same = cc
numbers-same (x ∷ xs) (y ∷ ys) wide same =
    ap₂ (λ (n : ℕ) (ns : List ℕ). n ∷ ns) (word_text-same x y (first (width_of x) (width_of y) (map width_of xs) (map width_of ys) wide)
    (first (word_text x) (word_text y) (map word_text xs) (map word_text ys) same))
    (numbers-same xs ys (behind (width_of x) (width_of y) (map width_of xs) (map width_of ys) wide)
    (behind (word_text x) (word_text y) (map word_text xs) (map word_text ys) same))
  where
    first : {X : Type 0} (a b : X) (xs ys : List X) → a ∷ xs ≡ b ∷ ys → a ≡ b
    first a b xs ys e = cc

    behind : {X : Type 0} (a b : X) (xs ys : List X) → a ∷ xs ≡ b ∷ ys → xs ≡ ys
    behind a b xs ys e = cc

-- ---- the rows of texts
rows-split : (values : Values) (first one other : ℕ)
    → rows_texts values first (one + other) ≡ rows_texts values first one ++ rows_texts values (first + one) other
unfolding rows_texts
rows-split values first zero other =
    let none : zero + other ≡ other = omega arith in
    let same : first + 0 ≡ first = omega arith in
    ap (rows_texts values first) none ∙ ap (λ n. rows_texts values n other) (sym same)
rows-split values first (suc one) other =
    let next : suc one + other ≡ suc (one + other) = omega arith in
    let far : first + 1 + one ≡ first + suc one = omega arith in
    ap (rows_texts values first) next
    ∙ ap (λ rest. row_texts values first ∷ rest)
    (rows-split values (first + 1) one other ∙ ap (λ n. rows_texts values (first + 1) one ++ rows_texts values n other) far)

row-get : (values : Values) (first count r : ℕ) → r < count → get_or (rows_texts values first count) r [] ≡ row_texts values (first + r)
unfolding rows_texts
row-get values first zero r low = absurd (omega (arith, low))
row-get values first (suc count) zero low = let same : first ≡ first + 0 = omega arith in ap (row_texts values) same
row-get values first (suc count) (suc r) low =
    let far : first + 1 + r ≡ first + suc r = omega arith in
    row-get values (first + 1) count r (omega (arith, low)) ∙ ap (row_texts values) far

abbrev total : List Trace → ℕ
total traces = cycles_before traces (length traces)

all-of_traces : (values : Values) (first : ℕ) (traces : List Trace) → all_rows (traces_texts values first traces) ≡ rows_texts values first (total traces)
unfolding traces_texts rows_texts
all-of_traces values first [] = refl
all-of_traces values first (trace ∷ traces) =
    ap (λ rest. rows_texts values first trace.cycles ++ rest) (all-of_traces values (first + trace.cycles) traces)
    ∙ sym (rows-split values first trace.cycles (total traces))
    ∙ ap (rows_texts values first) (sym (cycles_before-suc trace traces (length traces)))

take-none : {X : Type 0} (n : ℕ) → take {A = X} n [] ≡ []
take-none zero = refl
take-none (suc n) = refl

-- behind the last row there is nothing
row-past : (d : Design) (places : List ℕ) (rows : List Bits) (count r : ℕ) → AreRows d places rows count → count ≤ r → row_of places rows r ≡ []
row-past d places rows count r are past =
    let more : count * length places ≤ r * length places = mul-le-mul_right (length places) past in
    ap (take (length places)) (drop_all (r * length places) rows (omega (arith, more, are.whole))) ∙ take-none (length places)

module _ (d : Design) (traces : List Trace) (groups : List (List ℕ)) (set : ReportSet) (one other : Values)
    (first : IsWritten d traces groups set one) (second : IsWritten d traces groups set other) where
  same-places : one.places.items ≡ other.places.items
  same-places =
      places-same one.places.items other.places.items first.rows.ascending second.rows.ascending
      (λ p. first.rows.places p ∙ sym (second.rows.places p))

  same-texts : (r : ℕ) → r < total traces → row_texts one r ≡ row_texts other r
  same-texts r low =
      let here : 0 + r ≡ r = omega arith in
      ap (row_texts one) (sym here) ∙ sym (row-get one 0 (total traces) r low) ∙ ap (λ rows. get_or rows r [])
      (sym (all-of_traces one 0 traces) ∙ ap all_rows (sym first.texts ∙ second.texts) ∙ all-of_traces other 0 traces)
      ∙ row-get other 0 (total traces) r low ∙ ap (row_texts other) here

  same-row : (r : ℕ) → row_at one r ≡ row_at other r
  same-row r = at (cases_lt r (total traces))
    where
      at : (r < total traces) ⊎ (total traces ≤ r) → row_at one r ≡ row_at other r
      at (inl low) =
          numbers-same (row_of one.places.items one.rows.items r) (row_of other.places.items other.rows.items r)
          (first.rows.rows.each r low ∙ ap (map (place_width d)) same-places ∙ sym (second.rows.rows.each r low)) (same-texts r low)
      at (inr past) =
          ap (map value_of)
          (row-past d one.places.items one.rows.items (total traces) r first.rows.rows past
          ∙ sym (row-past d other.places.items other.rows.items (total traces) r second.rows.rows past))

  same-choices : (j : ℕ) → choices_in traces one j ≡ choices_in traces other j
  same-choices j =
      fun_ext (λ t. fun_ext (λ p. ap₂ (λ places numbers. number_for places numbers p) same-places (same-row (cycles_before traces j + t))))

  -- a trace is right with the one values where it is with the others
  pub meets-same : (j : ℕ) (trace : Trace) → Meets d trace (is_one_of one.places.items) (choices_in traces one j)
      → Meets d trace (is_one_of other.places.items) (choices_in traces other j)
  meets-same j trace right =
      subst (λ (c : Choices). Meets d trace (is_one_of other.places.items) c) (same-choices j)
      (subst (λ places. Meets d trace (is_one_of places) (choices_in traces one j)) same-places right)

-- ---- the number for a place
some-power : (w : ℕ) → 0 < 2 ^ w
some-power w = let low : 1 ≤ 2 ^ w = one-le-pow w 2 (omega arith) in omega (arith, low)

-- in a row of words of the places' widths it is of the place's width
number-fits : (d : Design) (places : List ℕ) (row : List Bits) (p : ℕ) → IsRow d places row
    → number_for places (map value_of row) p < 2 ^ place_width d p
number-fits d [] row p fits = some-power (place_width d p)
number-fits d (q ∷ places) [] p fits = some-power (place_width d p)
number-fits d (q ∷ places) (x ∷ row) p fits =
    at (cases_Bool (q == p)) (number-fits d places row p (behind fits))
  where
    front : width_of x ∷ map width_of row ≡ place_width d q ∷ map (place_width d) places → width_of x ≡ place_width d q
    front e = cc

    behind : width_of x ∷ map width_of row ≡ place_width d q ∷ map (place_width d) places → map width_of row ≡ map (place_width d) places
    behind e = cc

    at : ((q == p) ≡ true) ⊎ ((q == p) ≡ false) → number_for places (map value_of row) p < 2 ^ place_width d p
        → (if q == p then value_of x else number_for places (map value_of row) p) < 2 ^ place_width d p
    at (inl is) rest =
        let wide : width_of x ≡ place_width d p = front fits ∙ ap (place_width d) (equal-true q p is) in
        subst (λ t. (if t then value_of x else number_for places (map value_of row) p) < 2 ^ place_width d p) (sym is)
        (subst (λ w. value_of x < 2 ^ w) wide (value_of-range x))
    at (inr other) rest =
        subst (λ t. (if t then value_of x else number_for places (map value_of row) p) < 2 ^ place_width d p) (sym other) rest

no-number : (places : List ℕ) (p : ℕ) → number_for places [] p ≡ 0
no-number [] p = refl
no-number (q ∷ places) p = refl

any-fits : (d : Design) (places : List ℕ) (rows : List Bits) (count r p : ℕ) → AreRows d places rows count
    → number_for places (map value_of (row_of places rows r)) p < 2 ^ place_width d p
any-fits d places rows count r p are = at (cases_lt r count)
  where
    at : (r < count) ⊎ (count ≤ r) → number_for places (map value_of (row_of places rows r)) p < 2 ^ place_width d p
    at (inl low) = number-fits d places (row_of places rows r) p (are.each r low)
    at (inr past) =
        subst (λ n. n < 2 ^ place_width d p)
        (sym (ap (λ row. number_for places (map value_of row) p) (row-past d places rows count r are past) ∙ no-number places p))
        (some-power (place_width d p))

-- values of a set with which each trace is right explain the traces
pub written-explains : (d : Design) (traces : List Trace) (groups : List (List ℕ)) (set : ReportSet) (values : Values)
    → IsWritten d traces groups set values
    → ((j : ℕ) (trace : Trace) → slice_get traces j ≡ Some trace → Meets d trace (is_one_of values.places.items) (choices_in traces values j))
    → Explains d traces groups set.members values
written-explains d traces groups set values written right = record {
  widths = λ j trace there. fits j;
  meets = λ j trace there. subst (λ (freed : ℕ → Bool). Meets d trace freed (choices_in traces values j)) (fun_ext written.rows.places) (right j trace there);
}
  where
    fits : (j : ℕ) → AreOfWidth d (places_of groups set.members) (choices_in traces values j)
    fits j t p place there freed =
        let wide : place_width d p ≡ place.width = ap (λ o. option_map_or (λ (x : Place). x.width) o 0) there in
        subst (λ w. number_for values.places.items (row_at values (cycles_before traces j + t)) p < 2 ^ w) wide
        (any-fits d values.places.items values.rows.items (cycles_before traces (length traces)) (cycles_before traces j + t) p written.rows.rows)
