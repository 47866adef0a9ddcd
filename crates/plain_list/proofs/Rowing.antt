-- Rows of words for some places.
use Rattle.std.proofs.Common.{◌≡◌, ℕ, zero, suc, ◌+◌, ◌*◌, ◌<◌, ◌≤◌, ◌^◌, ◌⊎◌, inl, inr, List, [], ◌∷◌, ◌++◌, length, take, drop, map, get_or, refl, ap, sym, ◌∙◌, subst, arith, length-append}
use Rattle.std.proofs.Math.Nat.{mul-le-mul_right, eq-or-lt_of_le}
use Rattle.std.proofs.Math.Seq.{take-length, drop-append_seam}
use Rattle.std.proofs.lemmas.List.{take-append-le, drop-append-le, length-map, map-append, map_more, take_more}
use Rattle.loc_base.specs.declared.bits.Bits.{Bits}
use Rattle.loc_base.specs.Bits.{width_of, value_of, value_of-range}
use Rattle.design_core.specs.declared.design.Design.{Design}
use Rattle.design_core.specs.declared.trace.Trace.{Trace}
use Rattle.design_core.specs.Run.{samples_at, expected_at}
use Rattle.plain_list.specs.Trial.{AreNumbersFor}
use Rattle.design_core.specs.Explained.{place_width}
use Rattle.plain_list.specs.Rightness.{AreRight}
use Rattle.plain_list.specs.Rows.{IsRightRow, AreAdded}
use Rattle.design_core.specs.Explained.{row_of, IsRow, AreRows}

next-mul : (t n : ℕ) → t * n + n ≡ (t + 1) * n
next-mul t n = grind arith

-- a row of a number below the count ends within the rows
pub row_within : (t c n : ℕ) → t < c → t * n + n ≤ c * n
row_within t c n h = let le : (t + 1) * n ≤ c * n = mul-le-mul_right n (omega (arith, h)) in subst (λ m. m ≤ c * n) (sym (next-mul t n)) le

-- the numbers of a row fit its places
pub IsRow-numbers : (d : Design) (places : List ℕ) (row : List Bits) → IsRow d places row → AreNumbersFor d places (map value_of row)
IsRow-numbers d [] [] r = tt
IsRow-numbers d [] (word ∷ row) r = absurd (cc)
IsRow-numbers d (place ∷ places) [] r = absurd (cc)
IsRow-numbers d (place ∷ places) (word ∷ row) r = (subst (λ n. value_of word < 2 ^ n) (heads r) (value_of-range word), IsRow-numbers d places row (tails r))
  where
    heads : width_of word ∷ map width_of row ≡ place_width d place ∷ map (place_width d) places → width_of word ≡ place_width d place
    heads e = cc

    tails : width_of word ∷ map width_of row ≡ place_width d place ∷ map (place_width d) places → map width_of row ≡ map (place_width d) places
    tails e = cc

pub IsRow-length : (d : Design) (places : List ℕ) (row : List Bits) → IsRow d places row → length row ≡ length places
IsRow-length d places row r = sym (length-map row width_of) ∙ ap length r ∙ length-map places (place_width d)

-- a row as far as it is made
pub row-next : (d : Design) (places numbers : List ℕ) (row new : List Bits) (word : Bits) (i : ℕ) → i < length places → length places ≡ length numbers
    → (map width_of row ≡ map (place_width d) (take i places)) × (map value_of row ≡ take i numbers)
    → new ≡ row ++ word ∷ [] → width_of word ≡ place_width d (get_or places i 0) → value_of word ≡ get_or numbers i 0
    → (map width_of new ≡ map (place_width d) (take (i + 1) places)) × (map value_of new ≡ take (i + 1) numbers)
row-next d places numbers row new word i h long so n width value = (
  ap (map width_of) n ∙ map-append width_of row (word ∷ []) ∙ ap (λ xs. xs ++ width_of word ∷ []) so.0
      ∙ ap (λ w. map (place_width d) (take i places) ++ w ∷ []) width ∙ sym (map_more (place_width d) places i 0 h),
  ap (map value_of) n ∙ map-append value_of row (word ∷ []) ∙ ap (λ xs. xs ++ value_of word ∷ []) so.1
      ∙ ap (λ v. take i numbers ++ v ∷ []) value ∙ sym (take_more numbers i 0 (subst (λ m. i < m) long h)),
)

-- a row behind others leaves them as they are
pub row_of-before : (places : List ℕ) (rows more : List Bits) (count r : ℕ) → length rows ≡ count * length places → r < count → row_of places (rows ++ more) r ≡ row_of places rows r
row_of-before places rows more count r whole h =
    let n : ℕ = length places in
    let within : r * n + n ≤ length rows = subst (λ m. r * n + n ≤ m) (sym whole) (row_within r count n h) in
    ap (take n) (drop-append-le (r * n) rows more (omega (arith, within)))
    ∙ take-append-le n (drop (r * n) rows) more (enough (r * n) n rows within)
  where
    enough : (m n : ℕ) (xs : List Bits) → m + n ≤ length xs → n ≤ length (drop m xs)
    enough zero n xs h = omega (arith, h)
    enough (suc m) n [] h = omega (arith, h)
    enough (suc m) n (x ∷ xs) h = enough m n xs (omega (arith, h))

-- and is the last
pub row_of-last : (places : List ℕ) (rows row : List Bits) (count : ℕ) → length rows ≡ count * length places → length row ≡ length places → row_of places (rows ++ row) count ≡ row
row_of-last places rows row count whole long =
    ap (λ m. take (length places) (drop m (rows ++ row))) (sym whole) ∙ ap (take (length places)) (drop-append_seam rows row)
    ∙ ap (λ m. take m row) (sym long) ∙ take-length row

pub AreRows-push : (d : Design) (places : List ℕ) (rows row : List Bits) (count : ℕ) → AreRows d places rows count → IsRow d places row → AreRows d places (rows ++ row) (count + 1)
AreRows-push d places rows row count a r =
    record {
      whole = length-append rows row ∙ ap (λ m. m + length row) a.whole ∙ ap (λ m. count * length places + m) (IsRow-length d places row r) ∙ next-mul count (length places);
      each = λ k h. each k (eq-or-lt_of_le (below k h));
    }
  where
    below : (k : ℕ) → k < count + 1 → k ≤ count
    below k h = omega (arith, h)

    each : (k : ℕ) → (k ≡ count) ⊎ (k < count) → IsRow d places (row_of places (rows ++ row) k)
    each k (inl e) = subst (λ m. IsRow d places (row_of places (rows ++ row) m)) (sym e) (subst (IsRow d places) (sym (row_of-last places rows row count a.whole (IsRow-length d places row r))) r)
    each k (inr l) = subst (IsRow d places) (sym (row_of-before places rows row count k a.whole l)) (a.each k l)

-- at first nothing is added
pub none-added : (d : Design) (order : List ℕ) (trace : Trace) (places : List ℕ) (rows : List Bits) (first : ℕ) → AreRows d places rows first → AreAdded d order trace places rows rows first 0
none-added d order trace places rows first a =
    record { rows = subst (AreRows d places rows) (sym plus) a; kept = λ r h. refl; right = λ t h. absurd (omega (arith, h)) }
  where
    plus : first + 0 ≡ first
    plus = omega arith

-- one more right row
pub one_more-added : (d : Design) (order : List ℕ) (trace : Trace) (places numbers : List ℕ) (old rows row new : List Bits) (first t : ℕ)
    → AreAdded d order trace places old rows first t → IsRow d places row → map value_of row ≡ numbers → new ≡ rows ++ row
    → AreRight d order (samples_at d trace t) (expected_at d trace t) places numbers
    → AreAdded d order trace places old new first (t + 1)
one_more-added d order trace places numbers old rows row new first t a r v n right =
    record {
      rows = subst (λ xs. AreRows d places xs (first + (t + 1))) (sym n) (subst (AreRows d places (rows ++ row)) plus (AreRows-push d places rows row (first + t) a.rows r));
      kept = λ k h. ap (λ xs. row_of places xs k) n ∙ row_of-before places rows row (first + t) k a.rows.whole (omega (arith, h)) ∙ a.kept k h;
      right = λ u h. subst (λ xs. IsRightRow d order trace places xs u (first + u)) (sym n) (right_at u (eq-or-lt_of_le (below u h)));
    }
  where
    plus : first + t + 1 ≡ first + (t + 1)
    plus = omega arith

    below : (u : ℕ) → u < t + 1 → u ≤ t
    below u h = omega (arith, h)

    last : row_of places (rows ++ row) (first + t) ≡ row
    last = row_of-last places rows row (first + t) a.rows.whole (IsRow-length d places row r)

    right_at : (u : ℕ) → (u ≡ t) ⊎ (u < t) → IsRightRow d order trace places (rows ++ row) u (first + u)
    right_at u (inl e) =
        subst (λ m. IsRightRow d order trace places (rows ++ row) m (first + m)) (sym e)
        (subst (λ xs. AreRight d order (samples_at d trace t) (expected_at d trace t) places (map value_of xs)) (sym last)
        (subst (AreRight d order (samples_at d trace t) (expected_at d trace t) places) (sym v) right))
    right_at u (inr l) =
        subst (λ xs. AreRight d order (samples_at d trace u) (expected_at d trace u) places (map value_of xs))
        (sym (row_of-before places rows row (first + t) (first + u) a.rows.whole (omega (arith, l)))) (a.right u l)
