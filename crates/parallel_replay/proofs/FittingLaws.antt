-- Whether values fit a design, by their tests.
use Rattle.std.proofs.Common.{ℕ, zero, suc, ◌+◌, ◌*◌, ◌≡◌, ◌<◌, ◌≤◌, Bool, true, List, [], ◌∷◌, length, map, refl, ap, sym, subst, ◌∙◌, arith, ◌⊎◌, inl, inr}
use Rattle.std.specs.Prelude.{◌==◌, ◌&&◌, ◌↔◌, All, IsTrue, nat_lt}
use Rattle.std.specs.List.{list_all}
use Rattle.std.proofs.lemmas.Bool.{and_parts, cases_lt, eqb-true, false≢true, lt-ltb, ltb-true}
use Rattle.std.proofs.lemmas.Bool.Decides.{nat_tests}
use Rattle.loc_base.proofs.ShelfLists.{list_all-below}
use Rattle.loc_base.specs.declared.bits.Bits.{Bits}
use Rattle.loc_base.specs.Bits.{width_of}
use Rattle.design_core.specs.declared.design.Design.{Design}
use Rattle.design_core.specs.declared.trace.Trace.{Trace}
use Rattle.design_core.specs.declared.values.Values.{Values}
use Rattle.design_core.specs.Given.{row}
use Rattle.design_core.specs.Explained.{cycles_before, place_width, row_of, IsRow}
use Rattle.design_core.proofs.CyclesBefore.{cycles_before-none, cycles_before-next}
use Rattle.cycle_sim.specs.Misses.{AreValuesFor}
use Rattle.cycle_sim.proofs.Chosen.{row-is}
use Rattle.parallel_replay.specs.Fitting.{AreRowsBefore, row_fits}

eqb_true : (n : ℕ) → (n == n) ≡ true
eqb_true n = grind (arith, nat_tests)

-- the test finds a row
row-found : (d : Design) (places : List ℕ) (words : List Bits) → row_fits d places words ≡ true → IsRow d places words
row-found d [] [] fits = refl
row-found d [] (word ∷ words) fits = absurd (false≢true fits)
row-found d (place ∷ places) [] fits = absurd (false≢true fits)
row-found d (place ∷ places) (word ∷ words) fits =
    let both = and_parts (width_of word == place_width d place) (row_fits d places words) fits in
    let one : width_of word ≡ place_width d place = eqb-true (width_of word) (place_width d place) both.0 in
    let rest : map width_of words ≡ map (place_width d) places = row-found d places words both.1 in
    ap (λ n. n ∷ map width_of words) one ∙ ap (λ ns. place_width d place ∷ ns) rest

head-same : (m n : ℕ) (ms ns : List ℕ) → m ∷ ms ≡ n ∷ ns → m ≡ n
head-same m n ms ns e = cc

tail-same : (m n : ℕ) (ms ns : List ℕ) → m ∷ ms ≡ n ∷ ns → ms ≡ ns
tail-same m n ms ns e = cc

-- and each row passes it
row-passes : (d : Design) (places : List ℕ) (words : List Bits) → IsRow d places words → row_fits d places words ≡ true
row-passes d [] [] row = refl
row-passes d [] (word ∷ words) row = absurd (cc)
row-passes d (place ∷ places) [] row = absurd (cc)
row-passes d (place ∷ places) (word ∷ words) row =
    let one : width_of word ≡ place_width d place = head-same _ _ _ _ row in
    let rest : row_fits d places words ≡ true = row-passes d places words (tail-same _ _ _ _ row) in
    ap (λ n. (n == place_width d place) && row_fits d places words) one ∙ ap (λ b. b && row_fits d places words) (eqb_true (place_width d place)) ∙ rest

-- the row of a number, as it is cut out
pub row-decided : (d : Design) (places : List ℕ) (rows : List Bits) (r : ℕ) (cut : List Bits) (answer : Bool)
    → cut ≡ row rows (length places) r → answer ≡ row_fits d places cut → IsTrue answer ↔ IsRow d places (row_of places rows r)
row-decided d places rows r cut answer is decides = (
  λ holds. subst (IsRow d places) same (row-found d places cut (sym decides ∙ holds)),
  λ fits. decides ∙ row-passes d places cut (subst (IsRow d places) (sym same) fits),
)
  where
    same : cut ≡ row_of places rows r
    same = is ∙ row-is places rows r

pub ruleset fitting_rules = (row-decided)

-- ---- numbers below a count
below-found : (n : ℕ) (xs : List ℕ) → list_all (λ i. nat_lt i n) xs ≡ true → All (λ p. p < n) xs
below-found n [] h i d low = absurd (omega (arith, low))
below-found n (x ∷ xs) h zero d low = ltb-true x n (and_parts (nat_lt x n) (list_all (λ i. nat_lt i n) xs) h).0
below-found n (x ∷ xs) h (suc i) d low = below-found n xs (and_parts (nat_lt x n) (list_all (λ i. nat_lt i n) xs) h).1 i d (omega (arith, low))

pub below-decided : (n : ℕ) (xs : List ℕ) (answer : Bool) → answer ≡ list_all (λ i. nat_lt i n) xs → IsTrue answer ↔ All (λ p. p < n) xs
below-decided n xs answer is = (λ holds. below-found n xs (sym is ∙ holds), λ all. is ∙ list_all-below n xs all)

pub ruleset cycles_rules = (cycles_before-none, cycles_before-next)

-- ---- rows
-- no row, and one more
pub rows-none : (d : Design) (values : Values) → AreRowsBefore d values 0
rows-none d values r low = absurd (omega (arith, low))

pub rows-next : (d : Design) (values : Values) (n : ℕ) → AreRowsBefore d values n → IsRow d values.places.items (row_of values.places.items values.rows.items n)
    → AreRowsBefore d values (n + 1)
rows-next d values n before fits r low = by_place (cases_lt r n)
  where
    by_place : (r < n) ⊎ (n ≤ r) → IsRow d values.places.items (row_of values.places.items values.rows.items r)
    by_place (inl earlier) = before r earlier
    by_place (inr last) =
        let same : n ≡ r = omega (arith, last, low) in
        subst (λ k. IsRow d values.places.items (row_of values.places.items values.rows.items k)) same fits

pub ruleset rows_rules = (rows-none, rows-next)

-- a row of no place
no-place : (d : Design) (places : List ℕ) (rows : List Bits) (r : ℕ) → length places ≡ 0 → IsRow d places (row_of places rows r)
no-place d [] rows r none = refl
no-place d (place ∷ places) rows r none = absurd (omega (arith, none))

-- values that fit
pub values-fit : (d : Design) (traces : List Trace) (values : Values) (cycles : ℕ) → cycles ≡ cycles_before traces (length traces)
    → All (λ p. p < length d.places.items) values.places.items → length values.rows.items ≡ cycles * length values.places.items
    → AreRowsBefore d values cycles → AreValuesFor d traces values
values-fit d traces values cycles is places whole each =
    record {
      places = places;
      rows = record {
        whole = subst (λ n. length values.rows.items ≡ n * length values.places.items) is whole;
        each = λ r low. each r (subst (λ n. r < n) (sym is) low);
      };
    }

-- those of no place do
pub no-rows : (d : Design) (values : Values) (n : ℕ) → length values.places.items ≡ 0 → AreRowsBefore d values n
no-rows d values n none r low = no-place d values.places.items values.rows.items r none

-- and what values that fit have
pub whole-of : (d : Design) (traces : List Trace) (values : Values) (cycles : ℕ) → cycles ≡ cycles_before traces (length traces) → AreValuesFor d traces values
    → length values.rows.items ≡ cycles * length values.places.items
whole-of d traces values cycles is fit = subst (λ n. length values.rows.items ≡ n * length values.places.items) (sym is) fit.rows.whole

pub each-of : (d : Design) (traces : List Trace) (values : Values) (cycles : ℕ) → cycles ≡ cycles_before traces (length traces) → AreValuesFor d traces values
    → AreRowsBefore d values cycles
each-of d traces values cycles is fit r low = fit.rows.each r (subst (λ n. r < n) is low)

pub ruleset values_rules = (values-fit, no-rows, whole-of, each-of)
