-- The values that a model gives to the places of its true selectors make each trace right.
use Rattle.std.proofs.Common.{◌≡◌, ◌⊎◌, inl, inr, ℕ, zero, suc, ◌+◌, ◌-◌, ◌*◌, ◌^◌, ◌%◌, ◌<◌, ◌≤◌, ◌==◌, max, Bool, true, false, ◌||◌, if◌then◌else◌, List, [], ◌∷◌, ◌++◌, length, map, get_or, take, drop, refl, sym, ◌∙◌, ap, subst, arith, length-append}
use Rattle.std.specs.Prelude.{All, cond, nat_le, slice_get, Some}
use Rattle.std.specs.Int.{bit_at}
use Rattle.std.specs.List.{list_any}
use Rattle.std.specs.List.Sorted.{IsStrictlyIncreasing}
use Rattle.std.specs.Option.{option_map_or}
use Rattle.std.proofs.Math.Nat.{mul-le-mul_right}
use Rattle.std.proofs.lemmas.Bool.{and_parts, cases_lt, ne_eqb, eq-eqb, cases_Bool}
use Rattle.std.proofs.lemmas.Nat.Bits.{bit_at_cat_low, bit_at_cat_high, bit_at_lowest}
use Rattle.std.proofs.lemmas.List.{drop-map, length-map, take-map, take_all, take-append-le, drop-append-le, drop_at, length-drop}
use Rattle.loc_base.proofs.ShelfBools.{equal-true}
use Rattle.loc_base.proofs.ShelfLists.{list_any-found, list_any-member}
use Rattle.loc_base.proofs.ShelfOptions.{Some-same}
use Rattle.loc_base.specs.Bits.{value_of, width_of}
use Rattle.suspect_map.specs.declared.group.Group.{Group}
use Rattle.design_core.specs.declared.trace.Trace.{Trace}
use Rattle.design_core.specs.declared.values.Values.{Values}
use Rattle.design_core.specs.Valuation.{bit, number}
use Rattle.design_core.specs.Works.{suspect_has}
use Rattle.design_core.specs.Explained.{choices_in, cycles_before, is_one_of, number_for, row_at}
use Rattle.design_core.proofs.NumberLaws.{number-suc, number-below}
use Rattle.unroller.specs.declared.free_bit.FreeBit.{FreeBit}
use Rattle.unroller.specs.Unrolls.{Unrolling}
use Rattle.unroller.specs.Reads.{free_at, moment_of}
use Rattle.form_laws.specs.Runs.{CircuitMeets}
use Rattle.form_laws.specs.Models.{AreOfModel, Selects, column_of, freed_by, value_in}
use Rattle.form_laws.specs.Encodes.{Asked, CanBeAsked, SatisfiesForm, unrolling_of}
use Rattle.form_laws.proofs.Columns.{column-there}
use Rattle.form_laws.proofs.Moments.{first_of, cycles-within}
use Rattle.form_laws.proofs.Selecting.{Suspect, suspect-of}
use Rattle.form_laws.proofs.Equivalence.{columns, ends-all, firsts-are, models-meet}
use Rattle.form_values.specs.ModelValues.{AreModelValues, ArePlaces, IsPlace, MeetTraces, chosen_in, model_bit, model_number, model_numbers, width_in, widths_of}

-- ---- the places of the members are places of the circuit

module _ (u : Unrolling) (groups : List Group) (are : ArePlaces u groups) where
  freed-place : (members : List ℕ) (p : ℕ) → freed_by groups members p ≡ true → IsPlace u p
  freed-place members p freed =
      let places = map (λ (group : Group). group.places) groups in
      let (m, member, has) = list_any-found (suspect_has places p) members freed in
      let (some, at_place) =
      and_parts (nat_le 1 m) (option_map_or (λ qs. list_any (λ q. q == p) qs) (slice_get places (m - 1)) false) has in
      let s : Suspect groups p (m - 1) = suspect-of groups p (m - 1) at_place in
      let (q, in_group, same) = list_any-found (λ q. q == p) s.group.places s.has in
      subst (IsPlace u) (equal-true q p same) (are (m - 1) q s.group s.there in_group)

  pub listed-places : (members places : List ℕ) → ((p : ℕ) → is_one_of places p ≡ freed_by groups members p) → All (IsPlace u) places
  listed-places members places same i d within =
      let p = get_or places i d in
      freed-place members p
      (sym (same p) ∙ list_any-member (λ q. q == p) places p (i, within, refl-at places i d p within) (eq-eqb p p refl))
    where
      refl-at : (xs : List ℕ) (i d e : ℕ) → i < length xs → get_or xs i e ≡ get_or xs i d
      refl-at [] i d e less = absurd (omega (arith, less))
      refl-at (x ∷ xs) zero d e less = refl
      refl-at (x ∷ xs) (suc i) d e less = refl-at xs i d e (omega (arith, less))

-- ---- bits of numbers

-- a number's bits are those that it was made of
number-has : (w : ℕ) (f : ℕ → Bool) (b : ℕ) → b < w → bit (number w f) b ≡ f b
number-has zero f b less = absurd (omega (arith, less))
number-has (suc w) f b less = at (cases_lt b w) (λ low. number-has w f b low)
  where
    top : (is : Bool) (p : ℕ) → (if is then p else 0) ≡ (cond is 1 0) * p
    top true p = omega arith
    top false p = omega arith

    whole : number (suc w) f ≡ cond (f w) 1 0 * 2 ^ w + number w f
    whole = omega (arith, number-suc w f, top (f w) (2 ^ w))

    lowest : (is : Bool) → ((cond is 1 0) % 2 == 1) ≡ is
    lowest true = refl
    lowest false = refl

    at : (b < w) ⊎ (w ≤ b) → (b < w → bit (number w f) b ≡ f b) → bit (number (suc w) f) b ≡ f b
    at (inl low) rest =
        ap (λ n. bit n b) whole ∙ ap (λ n. n == 1) (bit_at_cat_low (cond (f w) 1 0) w (number w f) b low) ∙ rest low
    at (inr past) rest =
        let here : w ≡ b = omega (arith, past, less) in
        let none : b - w ≡ 0 = omega (arith, less) in
        ap (λ n. bit n b) whole ∙ ap (λ n. n == 1) (bit_at_cat_high (cond (f w) 1 0) w (number w f) b (number-below w f) past)
        ∙ ap (λ k. bit_at (cond (f w) 1 0) k == 1) none ∙ ap (λ n. n == 1) (bit_at_lowest (cond (f w) 1 0)) ∙ lowest (f w) ∙ ap f here

-- a bit of a place is below its width
pub bit-below : (bits : List FreeBit) (column place b : ℕ) → slice_get bits column ≡ Some (record { place = place; bit = b })
    → b < width_in bits place
bit-below [] column place b there = cc
bit-below (x ∷ bits) zero place b there =
    let same : x.place ≡ place = ap (λ (y : FreeBit). y.place) (Some-same there) in
    let bit_is : x.bit ≡ b = ap (λ (y : FreeBit). y.bit) (Some-same there) in
    let width : width_in (x ∷ bits) place ≡ max (x.bit + 1) (width_in bits place) =
    ap (λ is. if is then max (x.bit + 1) (width_in bits place) else width_in bits place) (eq-eqb x.place place same) in
    omega (arith, width, bit_is)
bit-below (x ∷ bits) (suc column) place b there = wider (x.place == place) (bit-below bits column place b there)
  where
    wider : (is : Bool) → b < width_in bits place → b < (if is then max (x.bit + 1) (width_in bits place) else width_in bits place)
    wider true less = omega (arith, less)
    wider false less = less

-- ---- rows

below-rows : (r n w : ℕ) → r < n → r * w + w ≤ n * w
below-rows r n w less =
    let more : (r + 1) * w ≤ n * w = mul-le-mul_right w (omega (arith, less)) in
    let one : (r + 1) * w ≡ r * w + w = omega arith in
    omega (arith, more, one)

-- rows of so many entries, one after another
module _ (w : ℕ) (row : ℕ → List ℕ) (all : ℕ → List ℕ) (none : all 0 ≡ []) (next : (n : ℕ) → all (suc n) ≡ all n ++ row n) (wide : (n : ℕ) → length (row n) ≡ w) where
  pub length-rows : (n : ℕ) → length (all n) ≡ n * w
  length-rows zero = let no_entries : 0 ≡ 0 * w = omega arith in ap length none ∙ no_entries
  length-rows (suc n) =
      ap length (next n) ∙ omega (arith, length-append (all n) (row n), length-rows n, wide n, more n w)
    where
      more : (n w : ℕ) → suc n * w ≡ n * w + w
      more n w = omega arith

  pub row-at : (n r : ℕ) → r < n → take w (drop (r * w) (all n)) ≡ row r
  row-at zero r less = absurd (omega (arith, less))
  row-at (suc n) r less = ap (λ xs. take w (drop (r * w) xs)) (next n) ∙ at (cases_lt r n) (λ low. row-at n r low)
    where
      at : (r < n) ⊎ (n ≤ r) → (r < n → take w (drop (r * w) (all n)) ≡ row r) → take w (drop (r * w) (all n ++ row n)) ≡ row r
      at (inl low) rest =
          let room : r * w + w ≤ length (all n) = omega (arith, below-rows r n w low, length-rows n) in
          ap (take w) (drop-append-le (r * w) (all n) (row n) (omega (arith, room)))
          ∙ take-append-le w (drop (r * w) (all n)) (row n) (omega (arith, room, length-drop (r * w) (all n)))
          ∙ rest low
      at (inr past) rest =
          let here : n ≡ r = omega (arith, past, less) in
          let long : length (all n) ≡ r * w = length-rows n ∙ ap (λ k. k * w) here in
          ap (take w) (drop_at (all n) (row n) (r * w) long) ∙ take_all w (row n) (omega (arith, wide n)) ∙ ap row here

-- the number for a place that is listed
number-for : (f : ℕ → ℕ) (places : List ℕ) (p : ℕ) → is_one_of places p ≡ true → number_for places (map f places) p ≡ f p
number-for f [] p there = cc
number-for f (x ∷ places) p there = at (cases_Bool (x == p)) there (λ rest. number-for f places p rest)
  where
    at : ((x == p) ≡ true) ⊎ ((x == p) ≡ false) → is_one_of (x ∷ places) p ≡ true
        → (is_one_of places p ≡ true → number_for places (map f places) p ≡ f p)
        → (if x == p then f x else number_for places (map f places) p) ≡ f p
    at (inl is) there rest = ap (λ b. if b then f x else number_for places (map f places) p) is ∙ ap f (equal-true x p is)
    at (inr apart) there rest =
        ap (λ b. if b then f x else number_for places (map f places) p) apart
        ∙ rest (ap (λ b. b || is_one_of places p) (sym apart) ∙ there)

-- the cycles of the traces before one
before-is : (traces : List Trace) (j : ℕ) → cycles_before traces j ≡ first_of traces j
before-is [] zero = refl
before-is [] (suc j) = refl
before-is (x ∷ traces) zero = refl
before-is (x ∷ traces) (suc j) =
    let none : suc j - 1 ≡ j = omega arith in
    ap (λ b. if b then 0 else x.cycles + cycles_before traces (suc j - 1)) (ne_eqb (suc j) 0 (λ same. omega (arith, same)))
    ∙ ap (λ n. x.cycles + cycles_before traces n) none ∙ ap (λ n. x.cycles + n) (before-is traces j)

-- ---- the values

module _ (of : Asked) (can : CanBeAsked of) (a : ℕ → Bool) (members : List ℕ) (values : Values) where
  abbrev form : Unrolling
  form = unrolling_of of

  module _ (are : AreModelValues a form of.groups members values) where
    -- the number that is chosen for a place of the members in a cycle
    chosen-number : (j : ℕ) (trace : Trace) → slice_get of.traces j ≡ Some trace → (t p : ℕ) → t < trace.cycles
        → freed_by of.groups members p ≡ true
        → choices_in of.traces values j t p ≡ model_number a form (first_of of.traces j + t) p
    chosen-number j trace there t p low freed =
        let places = values.places.items in
        let r = first_of of.traces j + t in
        let within : r < length form.ends = omega (arith, low, cycles-within of.traces j trace there, ends-all of can) in
        let row : row_at values r ≡ map (model_number a form r) places =
        sym (take-map value_of (length places) (drop (r * length places) values.rows.items))
        ∙ ap (take (length places)) (sym (drop-map value_of (r * length places) values.rows.items) ∙ ap (drop (r * length places)) are.numbers)
        ∙ row-at (length places) (λ n. map (model_number a form n) places) (model_numbers a form places) refl (λ n. refl)
        (λ n. length-map places (model_number a form n)) (length form.ends) r within in
        ap (λ n. number_for places (row_at values (n + t)) p) (before-is of.traces j)
        ∙ ap (λ ns. number_for places ns p) row
        ∙ number-for (model_number a form r) places p (are.places p ∙ freed)

    of-model : (j : ℕ) (trace : Trace) → slice_get of.traces j ≡ Some trace
        → AreOfModel a form (freed_by of.groups members) j trace (chosen_in of.traces values j)
    of-model j trace there t place b l low freed at =
        let r = first_of of.traces j + t in
        let moment : moment_of form j t ≡ r = ap (λ n. n + t) (firsts-are of can j trace there) in
        let inside : b < width_in form.bits place = bit-below form.bits at.column place b at.of_bit in
        let first : column_of form.bits place b ≡ at.column =
        columns of can (column_of form.bits place b) at.column place b (column-there form.bits at.column place b at.of_bit) at.of_bit in
        ap (λ n. bit n b) (chosen-number j trace there t place low freed)
        ∙ number-has (width_in form.bits place) (model_bit a form r place) b inside
        ∙ ap (λ c. value_in a (free_at form r c)) first
        ∙ ap (λ m. value_in a (free_at form m at.column)) (sym moment)
        ∙ ap (value_in a) (sym at.is)

    values-meet : SatisfiesForm of a → Selects a (length of.groups) members → (j : ℕ) (trace : Trace) → slice_get of.traces j ≡ Some trace
        → CircuitMeets of.circuit trace (freed_by of.groups members) (chosen_in of.traces values j)
    values-meet satisfied selects j trace there =
        models-meet of can a members j trace (chosen_in of.traces values j) satisfied selects there (of-model j trace there)

pub meet-traces : (a : ℕ → Bool) (u : Unrolling) (groups : List Group) (members : List ℕ) (values : Values)
    → AreModelValues a u groups members values → MeetTraces a u groups members values
meet-traces a u groups members values are of can same_form same_groups satisfied selects j trace there =
    let asked : AreModelValues a (unrolling_of of) of.groups members values =
    subst (λ gs. AreModelValues a (unrolling_of of) gs members values) same_groups
    (subst (λ v. AreModelValues a v groups members values) same_form are) in
    subst (λ gs. CircuitMeets of.circuit trace (freed_by gs members) (chosen_in of.traces values j)) (sym same_groups)
    (values-meet of can a members values asked satisfied (subst (λ gs. Selects a (length gs) members) same_groups selects) j trace there)

-- the places of the same groups
pub same-places : (places members : List ℕ) (gs groups : List Group) → gs ≡ groups
    → ((p : ℕ) → is_one_of places p ≡ freed_by gs members p) → (p : ℕ) → is_one_of places p ≡ freed_by groups members p
same-places places members gs groups same are p = are p ∙ ap (λ x. freed_by x members p) same

-- the same, as the code has the values
pub meet-values : (a : ℕ → Bool) (u : Unrolling) (groups : List Group) (members : List ℕ) (values : Values) (listed : List ℕ)
    → listed ≡ values.places.items → IsStrictlyIncreasing values.places.items
    → ((p : ℕ) → is_one_of values.places.items p ≡ freed_by groups members p)
    → map width_of values.rows.items ≡ widths_of u listed (length u.ends)
    → map value_of values.rows.items ≡ model_numbers a u listed (length u.ends) → MeetTraces a u groups members values
meet-values a u groups members values listed same ascending places widths numbers =
    meet-traces a u groups members values (record {
      ascending = ascending;
      places = places;
      widths = subst (λ ps. map width_of values.rows.items ≡ widths_of u ps (length u.ends)) same widths;
      numbers = subst (λ ps. map value_of values.rows.items ≡ model_numbers a u ps (length u.ends)) same numbers;
    })
