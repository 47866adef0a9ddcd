-- The literals that the rows of a text read have signals where all are used well.
use Rattle.std.proofs.Common.{◌≡◌, ℕ, suc, ◌+◌, ◌-◌, ◌*◌, ◌<◌, ◌≤◌, ◌==◌, Bool, true, false, not, ◌&&◌, ◌||◌, List, [], ◌∷◌, map, length, drop, Option, Some, None, is_some, if◌then◌else◌, refl, sym, ◌∙◌, ap, ap₂, subst, arith, ◌⊎◌, inl, inr}
use Rattle.std.specs.Prelude.{slice_get, slice_index, nat_lt, nat_le}
use Rattle.std.proofs.Math.Nat.{sub-zero}
use Rattle.std.specs.Option.{option_map_or, option_and_then}
use Rattle.std.proofs.lemmas.Bool.{cases_Bool, cases_lt, cond-true, cond-false, lt-ltb, le-ltb, le-leb, false≢true, true≢false}
use Rattle.std.proofs.lemmas.Option.{slice_get_within}
use Rattle.loc_base.proofs.ShelfOptions.{is_some-true}
use Rattle.loc_base.proofs.ShelfBools.{equal-true}
use Rattle.aiger_text.specs.declared.row.Counts.{Counts}
use Rattle.aiger_text.specs.declared.row.Section.TheVariants.{Outputs}
use Rattle.aiger_text.specs.declared.row.Row.{Row}
use Rattle.aiger_text.specs.declared.row.Row.TheVariants as row
use Rattle.aiger_text.specs.Numbers.{numbers_in}
use Rattle.aiger_text.specs.Lines.{first_line}
use Rattle.aiger_text.specs.Rows.{first_latch, first_output, first_and, row_count, section_at, row_of, row_at}
use Rattle.aiger_text.specs.Content.{Content, HasRows}
use Rattle.aiger_rules.specs.First.{first_at, is_key}
use Rattle.aiger_rules.specs.Literals.{defined, definer, even, some_read, is_bad_read, is_bad_definition, misuses, IsUsedWell}
use Rattle.aiger_design.specs.declared.numbering.Numbering.{Numbering}
use Rattle.aiger_design.specs.Numbering.{input_signal, latch_signal, and_signal, row_signal, signal_count, IsSmall}
use Rattle.aiger_design.specs.Values.{first_read, second_read}
use Rattle.aiger_design.specs.Reads.{HasSignal, HasSignals}

-- a row that numbers make is one of its section: those of outputs define nothing
output-row : (numbers : List ℕ) (r : Row) → row_of Outputs numbers ≡ Some r → defined r ≡ None
output-row numbers r is = at (length numbers == 1) is
  where
    at : (one : Bool) → (if one then Some (row.Output (slice_index numbers 0)) else None) ≡ Some r → defined r ≡ None
    at true same = let here : row.Output (slice_index numbers 0) ≡ r = cc in sym (ap defined here)
    at false same = cc

-- what is read by two steps
then-some : {A B : Type 0} (f : A → Option B) (o : Option A) (y : B) → option_and_then f o ≡ Some y → (x : A) × (f x ≡ Some y)
then-some f None y is = cc
then-some f (Some x) y is = (x, is)

-- the section of an output's number
outputs-at : (c : Counts) (k : ℕ) → first_output c ≤ k → k < first_and c → section_at c k ≡ Outputs
outputs-at c k from below =
    cond-false _ _ _ (le-ltb k (first_latch c) (omega (arith, from))) ∙ cond-false _ _ _ (le-ltb k (first_output c) from) ∙ cond-true _ _ _ (lt-ltb k (first_and c) below)

-- an output's row defines nothing
output-defines : (front : List (List ℕ)) (c : Counts) (rows : List Row) (k : ℕ) (r : Row) → HasRows front c rows → first_output c ≤ k → k < first_and c
    → slice_get rows k ≡ Some r → defined r ≡ None
output-defines front c rows k r has from below there =
    let at : row_at front c k ≡ Some r = has.each k (omega (arith, below)) ∙ there in
    let (line, read) = then-some (λ line. option_and_then (row_of (section_at c k)) (numbers_in line)) (first_line (drop k front)) r at in
    let (numbers, is) = then-some (row_of (section_at c k)) (numbers_in line) r read in
    output-row numbers r (sym (ap (λ s. row_of s numbers) (outputs-at c k from below)) ∙ is)

-- the row that defines a literal defines one
definer-defines : (rows : List Row) (literal k at : ℕ) → first_at (is_key literal) at (map defined rows) ≡ Some k
    → (r : Row) × (at ≤ k) × (slice_get rows (k - at) ≡ Some r) × (is_key literal (defined r) ≡ true)
definer-defines [] literal k at is = cc
definer-defines (r ∷ rows) literal k at is =
    found (is_key literal (defined r)) refl is (λ same. definer-defines rows literal k (at + 1) same)
  where
    found : (passes : Bool) → is_key literal (defined r) ≡ passes → (if passes then Some at else first_at (is_key literal) (at + 1) (map defined rows)) ≡ Some k
        → (first_at (is_key literal) (at + 1) (map defined rows) ≡ Some k → (s : Row) × (at + 1 ≤ k) × (slice_get rows (k - (at + 1)) ≡ Some s) × (is_key literal (defined s) ≡ true))
        → (s : Row) × (at ≤ k) × (slice_get (r ∷ rows) (k - at) ≡ Some s) × (is_key literal (defined s) ≡ true)
    found true key same behind =
        let here : at ≡ k = cc in
        let none : k - at ≡ 0 = omega (arith, here) in
        (r, omega (arith, here), ap (slice_get (r ∷ rows)) none, key)
    found false key same behind =
        let (s, above, there, passes) = behind same in
        let next : k - at ≡ suc (k - (at + 1)) = omega (arith, above) in
        (s, omega (arith, above), ap (slice_get (r ∷ rows)) next ∙ there, passes)

-- the signal of a row that is no output's
signal-within : (n : Numbering) (k : ℕ) → IsSmall n → k < row_count n.counts → (k < first_output n.counts) ⊎ (first_and n.counts ≤ k) → row_signal n k < signal_count n
signal-within n k small within apart = at (cases_lt k (first_latch n.counts)) (cases_lt k (first_output n.counts)) apart
  where
    shown : (s : ℕ) → row_signal n k ≡ s → s < signal_count n → row_signal n k < signal_count n
    shown s is below = omega (arith, is, below)

    input : k < first_latch n.counts → input_signal n k < signal_count n
    input below = first (cases_Bool (k == n.left_out)) (cases_lt k n.left_out)
      where
        first : ((k == n.left_out) ≡ true) ⊎ ((k == n.left_out) ≡ false) → (k < n.left_out) ⊎ (n.left_out ≤ k) → input_signal n k < signal_count n
        first (inl own) order =
            let here : k ≡ n.left_out = equal-true k n.left_out own in
            let is : input_signal n k ≡ 0 = cond-true _ _ _ own in
            omega (arith, is, small.named (omega (arith, here, below)))
        first (inr other) (inl before) =
            let is : input_signal n k ≡ n.clocks + k = cond-false _ _ _ other ∙ cond-true _ _ _ (lt-ltb k n.left_out before) in
            omega (arith, is, before)
        first (inr other) (inr behind) =
            let is : input_signal n k ≡ n.clocks + k - 1 = cond-false _ _ _ other ∙ cond-false _ _ _ (le-ltb k n.left_out behind) in
            omega (arith, is, behind, below, small.named (omega (arith, behind, below)))

    at : (k < first_latch n.counts) ⊎ (first_latch n.counts ≤ k) → (k < first_output n.counts) ⊎ (first_output n.counts ≤ k)
        → (k < first_output n.counts) ⊎ (first_and n.counts ≤ k) → row_signal n k < signal_count n
    at (inl below) second third = shown (input_signal n k) (cond-true _ _ _ (lt-ltb k (first_latch n.counts) below)) (input below)
    at (inr above) (inl latch) third =
        shown (latch_signal n k) (cond-false _ _ _ (le-ltb k (first_latch n.counts) above) ∙ cond-true _ _ _ (lt-ltb k (first_output n.counts) latch)) (omega (arith, above, latch))
    at (inr above) (inr behind) (inl latch) = absurd (omega (arith, behind, latch))
    at (inr above) (inr behind) (inr and) =
        shown (and_signal n k) (cond-false _ _ _ (le-ltb k (first_latch n.counts) above) ∙ cond-false _ _ _ (le-ltb k (first_output n.counts) behind)) (omega (arith, and, within))

-- a literal that is read well has a signal
read-signal : (front : List (List ℕ)) (w : Content) (n : Numbering) (literal : ℕ) → HasRows front w.counts w.rows → n.counts ≡ w.counts → IsSmall n
    → is_bad_read w.counts.most (definer w.rows) literal ≡ false → HasSignal w.rows n literal
read-signal front w n literal has counts small good = at (cases_lt literal 2)
  where
    right-false : (a b : Bool) → (a || b) ≡ false → b ≡ false
    right-false true b is = absurd (true≢false is)
    right-false false b is = is

    there : (a b : Bool) → (a && not b) ≡ false → a ≡ true → b ≡ true
    there true true is holds = refl
    there true false is holds = absurd (true≢false is)
    there false b is holds = absurd (false≢true holds)

    apart : (k : ℕ) (r : Row) → slice_get w.rows k ≡ Some r → is_key (even literal) (defined r) ≡ true → (k < first_output w.counts) ⊎ (first_and w.counts ≤ k)
    apart k r here key =
        elim (cases_lt k (first_output w.counts)) [
          | inl before ↦ inl before
          | inr from ↦ elim (cases_lt k (first_and w.counts)) [
            | inr behind ↦ inr behind
            | inl below ↦ absurd (false≢true (sym (ap (is_key (even literal)) (output-defines front w.counts w.rows k r has from below here)) ∙ key))
          ]
        ]

    at : (literal < 2) ⊎ (2 ≤ literal) → HasSignal w.rows n literal
    at (inl below) = inl below
    at (inr above) =
        let some : is_some (definer w.rows (even literal)) ≡ true =
        there (nat_le 2 literal) (is_some (definer w.rows (even literal)))
        (right-false (nat_lt (2 * w.counts.most + 1) literal) (nat_le 2 literal && not (is_some (definer w.rows (even literal)))) good) (le-leb 2 literal above) in
        let (k, is) = is_some-true (definer w.rows (even literal)) some in
        let (r, low, here, key) = definer-defines w.rows (even literal) k 0 is in
        let own : slice_get w.rows k ≡ Some r = sym (ap (slice_get w.rows) (sub-zero k)) ∙ here in
        let within : k < row_count w.counts = omega (arith, slice_get_within w.rows k r own, has.long) in
        let P : Counts → Type 0 = λ c. (k < row_count c) × ((k < first_output c) ⊎ (first_and c ≤ k)) in
        let (below, side) = subst P (sym counts) (within, apart k r own key) in
        inr (k, is, signal-within n k small below side)

-- so do those that rows read
first-good : (most : ℕ) (f : ℕ → Option ℕ) (r : Row) → some_read (is_bad_read most f) r ≡ false → is_bad_read most f (first_read r) ≡ false
first-good most f (row.Input literal) good = ap₂ (λ a b. a || b) (le-ltb (2 * most + 1) 0 (omega arith)) refl
first-good most f (row.Latch literal next) good = good
first-good most f (row.Output literal) good = good
first-good most f (row.And literal left right) good = left-false (is_bad_read most f left) (is_bad_read most f right) good
  where
    left-false : (a b : Bool) → (a || b) ≡ false → a ≡ false
    left-false true b is = absurd (true≢false is)
    left-false false b is = refl

constant-good : (most : ℕ) (f : ℕ → Option ℕ) → is_bad_read most f 0 ≡ false
constant-good most f = ap₂ (λ a b. a || b) (le-ltb (2 * most + 1) 0 (omega arith)) refl

second-good : (most : ℕ) (f : ℕ → Option ℕ) (r : Row) → some_read (is_bad_read most f) r ≡ false → is_bad_read most f (second_read r) ≡ false
second-good most f (row.Input literal) good = constant-good most f
second-good most f (row.Latch literal next) good = constant-good most f
second-good most f (row.Output literal) good = constant-good most f
second-good most f (row.And literal left right) good = right-false (is_bad_read most f left) (is_bad_read most f right) good
  where
    right-false : (a b : Bool) → (a || b) ≡ false → b ≡ false
    right-false true b is = absurd (true≢false is)
    right-false false b is = is

row-good : (w : Content) → IsUsedWell w → (number : ℕ) (r : Row) → slice_get w.rows number ≡ Some r → some_read (is_bad_read w.counts.most (definer w.rows)) r ≡ false
row-good w used number r there =
    right-false (option_map_or (is_bad_definition w.counts.most (definer w.rows) number) (defined r) false) (some_read (is_bad_read w.counts.most (definer w.rows)) r)
    (sym (ap (λ o. option_map_or (misuses w.counts.most (definer w.rows) number) o false) there) ∙ used number)
  where
    right-false : (a b : Bool) → (a || b) ≡ false → b ≡ false
    right-false true b is = absurd (true≢false is)
    right-false false b is = is

pub has-signals : (front : List (List ℕ)) (w : Content) (n : Numbering) → HasRows front w.counts w.rows → n.counts ≡ w.counts → IsSmall n → IsUsedWell w
    → HasSignals w.rows n
has-signals front w n has counts small used = record {
  first = λ number r there. read-signal front w n (first_read r) has counts small (first-good w.counts.most (definer w.rows) r (row-good w used number r there));
  second = λ number r there. read-signal front w n (second_read r) has counts small (second-good w.counts.most (definer w.rows) r (row-good w used number r there));
}
