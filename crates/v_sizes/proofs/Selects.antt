-- What the nodes of names and their selects mean, and that they fit.
use Rattle.std.proofs.Common.{◌≡◌, ℕ, zero, suc, ◌+◌, ◌<◌, ◌≤◌, Bool, true, false, List, [], ◌∷◌, ◌++◌, length, Some, None, refl, ap, sym, subst, ◌∙◌, arith, length-append}
use Rattle.std.proofs.lemmas.Option.{slice_get_within}
use Rattle.std.specs.Prelude.{if◌then◌else◌, nat_le, nat_lt, ℤ, pos, negsuc, ◌+ℤ◌, slice_get}
use Rattle.std.specs.Option.{option_and_then, option_map_or}
use Rattle.std.proofs.lemmas.Bool.{le-leb, leb-true, lt-ltb, ltb-true, ltb-false, eq-eqb, and_from}
use Rattle.std.proofs.lemmas.Int.{ints}
use Rattle.design_core.specs.declared.signal.Signal.{Signal}
use Rattle.design_core.specs.declared.expression.Typed.{Typed}
use Rattle.design_core.specs.declared.expression.Node.TheVariants as node
use Rattle.design_core.specs.Valuation.{Valuation, number, width_at, position_at, distance_of, place_within, bit_or_zero}
use Rattle.design_core.specs.Operator.{integer_of}
use Rattle.design_core.specs.Value.{value, index_value, picked}
use Rattle.design_core.specs.WellFormed.{is_signal}
use Rattle.design_core.proofs.NumberLaws.{number-same, number-zero, number-suc}
use Rattle.design_core.proofs.ExpressionSteps.{value_pick, fits_pick}
use Rattle.v_syntax.specs.declared.expression.PartKind.{PartKind}
use Rattle.v_sizes.specs.Selected.{bit_at_index, part_number, part_distance, part_offset, base_index, descends}
use Rattle.v_sizes.specs.Sizing.{Sizing, integer}
use Rattle.v_sizes.specs.Sized.{sized, offsets_to, start_of}
use Rattle.v_sizes.specs.Context.{IsThere}
use Rattle.v_sizes.proofs.Parts.{distance-step}
use Rattle.v_sizes.proofs.Meant.{Within, Meant, is-width}

-- ---- a signal that is there
pub there-width : (signals : List Signal) (width : ℕ) (left right : ℤ) (signal : ℕ) (is : IsThere signals width left right signal) → width_at signals signal ≡ width
there-width signals width left right signal is = ap (λ o. option_map_or (λ s. s.width) o 0) is.there ∙ is.is.of_width

pub there-signal : (signals : List Signal) (width : ℕ) (left right : ℤ) (signal : ℕ) → IsThere signals width left right signal → is_signal signals signal ≡ true
there-signal signals width left right signal is = lt-ltb signal (length signals) (slice_get_within signals signal is.signal is.there)

there-position : (signals : List Signal) (width : ℕ) (left right : ℤ) (signal : ℕ) (index : ℤ) → IsThere signals width left right signal
    → position_at signals signal index ≡ place_within width (distance_of left right index)
there-position signals width left right signal index is =
    ap (option_and_then (λ s. place_within s.width (distance_of s.left s.right index))) is.there
    ∙ ap (λ w. place_within w (distance_of is.signal.left is.signal.right index)) is.is.of_width
    ∙ ap (λ l. place_within width (distance_of l is.signal.right index)) is.is.of_left
    ∙ ap (λ r. place_within width (distance_of left r index)) is.is.of_right

-- ---- all of it
pub whole-meant : (signals : List Signal) (width : ℕ) (left right : ℤ) (signal : ℕ) (signed : Bool) → Within width → IsThere signals width left right signal
    → Meant signals (sized width signed (node.Whole signal)) width signed (λ V. number width (V signal))
whole-meant signals width left right signal signed within is =
    record {
      of_width = refl;
      of_sign = refl;
      means = λ V. refl;
      fits = and_from _ _ (and_from _ _ (is-width width within) (there-signal signals width left right signal is)) (eq-eqb (width_at signals signal) width (there-width signals width left right signal is));
    }

-- ---- some bits that are there
pub slice-meant : (signals : List Signal) (width : ℕ) (left right : ℤ) (signal from count : ℕ) (signed : Bool) → Within count → from + count ≤ width → IsThere signals width left right signal
    → Meant signals (sized count signed (node.Slice signal from count)) count signed (λ V. number count (λ b. V signal (from + b)))
slice-meant signals width left right signal from count signed within inside is =
    record {
      of_width = refl;
      of_sign = refl;
      means = λ V. refl;
      fits = and_from _ _
          (and_from _ _ (and_from _ _ (there-signal signals width left right signal is) (is-width count within))
          (le-leb (from + count) (width_at signals signal) (subst (λ w. from + count ≤ w) (sym (there-width signals width left right signal is)) inside))
          )
          (eq-eqb count count refl);
    }

-- ---- by an index
offsets-zero : (offset : ℕ → ℤ) → offsets_to offset zero ≡ []
unfolding offsets_to
offsets-zero offset = refl

pub offsets-suc : (offset : ℕ → ℤ) (count : ℕ) → offsets_to offset (suc count) ≡ offsets_to offset count ++ offset count ∷ []
unfolding offsets_to
offsets-suc offset count = refl

offsets-length : (offset : ℕ → ℤ) (count : ℕ) → length (offsets_to offset count) ≡ count
offsets-length offset zero = ap length (offsets-zero offset)
offsets-length offset (suc count) =
    let one_more : length (offsets_to offset (suc count)) ≡ length (offsets_to offset count) + 1 =
    ap length (offsets-suc offset count) ∙ length-append (offsets_to offset count) (offset count ∷ []) in
    omega (arith, one_more, offsets-length offset count)

slice-front : {X : Type 0} (xs ys : List X) (b : ℕ) → b < length xs → slice_get (xs ++ ys) b ≡ slice_get xs b
slice-front [] ys b below = absurd (omega (arith, below))
slice-front (x ∷ xs) ys zero below = refl
slice-front (x ∷ xs) ys (suc b) below = slice-front xs ys b (omega (arith, below))

slice-last : {X : Type 0} (xs : List X) (y : X) → slice_get (xs ++ y ∷ []) (length xs) ≡ Some y
slice-last [] y = refl
slice-last (x ∷ xs) y = slice-last xs y

offset-at : (offset : ℕ → ℤ) (count b : ℕ) → b < count → slice_get (offsets_to offset count) b ≡ Some (offset b)
offset-at offset zero b below = absurd (omega (arith, below))
offset-at offset (suc count) b below = ap (λ xs. slice_get xs b) (offsets-suc offset count) ∙ by (nat_lt b count) refl (λ less. offset-at offset count b less)
  where
    by : (holds : Bool) → nat_lt b count ≡ holds → (b < count → slice_get (offsets_to offset count) b ≡ Some (offset b))
        → slice_get (offsets_to offset count ++ offset count ∷ []) b ≡ Some (offset b)
    by true is before =
        slice-front (offsets_to offset count) (offset count ∷ []) b (subst (λ n. b < n) (sym (offsets-length offset count)) (ltb-true b count is))
        ∙ before (ltb-true b count is)
    by false is before =
        let last : b ≡ count = omega (arith, below, ltb-false b count is) in
        subst (λ n. slice_get (offsets_to offset count ++ offset count ∷ []) n ≡ Some (offset b)) (offsets-length offset count ∙ sym last)
        (slice-last (offsets_to offset count) (offset count) ∙ ap (λ n. Some (offset n)) (sym last))

-- the value of an index as a whole number
pub index-means : (signals : List Signal) (index : Typed) (x : Sizing) → Meant signals index x.width x.signed (λ V. x.value V x.width x.signed) → (V : Valuation)
    → index_value signals V index ≡ integer x V
index-means signals index x meant V =
    ap (λ s. integer_of s index.width (value signals V index)) meant.of_sign
    ∙ ap (λ w. integer_of x.signed w (value signals V index)) meant.of_width
    ∙ ap (integer_of x.signed x.width) (meant.means V)

pub pick-meant : (signals : List Signal) (width : ℕ) (left right : ℤ) (signal count : ℕ) (offset : ℕ → ℤ) (index : Typed) (x : Sizing) (signed : Bool)
    → Within count → IsThere signals width left right signal → Meant signals index x.width x.signed (λ V. x.value V x.width x.signed)
    → Meant signals (sized count signed (node.Pick signal index (offsets_to offset count))) count signed (λ V. part_number (V signal) width left right (integer x V) count offset)
pick-meant signals width left right signal count offset index x signed within is meant =
    record {
      of_width = refl;
      of_sign = refl;
      means = λ V.
          value_pick signals V count signal index (offsets_to offset count)
          ∙ ap (λ i. number count (picked signals V signal i (offsets_to offset count))) (index-means signals index x meant V)
          ∙ number-same count (picked signals V signal (integer x V) (offsets_to offset count)) (λ b. bit_at_index (V signal) width left right (integer x V +ℤ offset b))
          (λ b below.
          ap (λ o. bit_or_zero (V signal) (option_and_then (λ k. position_at signals signal (integer x V +ℤ k)) o)) (offset-at offset count b below)
          ∙ ap (bit_or_zero (V signal)) (there-position signals width left right signal (integer x V +ℤ offset b) is));
      fits = fits_pick signals signed count signal index (offsets_to offset count)
          ∙ and_from _ _ (and_from _ _ (and_from _ _ (is-width count within) (there-signal signals width left right signal is))
          (eq-eqb (length (offsets_to offset count)) count (offsets-length offset count))) meant.fits;
    }

-- ---- at a known place
-- bits that a word has, by where the first of them lies
inside : (bits : ℕ → Bool) (width from b : ℕ) → from + b < width → bit_or_zero bits (place_within width (pos from +ℤ pos b)) ≡ bits (from + b)
inside bits width from b below = ap (λ holds. bit_or_zero bits (if holds then Some (from + b) else None)) (lt-ltb (from + b) width below)

pub start-known : (width count : ℕ) (d : ℤ) (from : ℕ) → start_of width count d ≡ Some from → (d ≡ pos from) × (from + count ≤ width)
start-known width count (pos n) from h = by (nat_le (n + count) width) refl h
  where
    by : (holds : Bool) → nat_le (n + count) width ≡ holds → (if holds then Some n else None) ≡ Some from → (pos n ≡ pos from) × (from + count ≤ width)
    by true is same =
        let e : n ≡ from = cc in
        (ap pos e, subst (λ m. m + count ≤ width) e (leb-true (n + count) width is))
    by false is same = cc
start-known width count (negsuc n) from h = cc

-- one bit at a known place
pub bit-known : (bits : ℕ → Bool) (width from : ℕ) (left right index : ℤ) → start_of width 1 (distance_of left right index) ≡ Some from
    → number 1 (λ b. bits (from + b)) ≡ (if bit_at_index bits width left right index then 1 else 0)
bit-known bits width from left right index h =
    let k = start-known width 1 (distance_of left right index) from h in
    let zero_on : pos from ≡ pos from +ℤ pos 0 = omega (arith, ints) in
    number-suc 0 (λ b. bits (from + b)) ∙ ap (λ n. n + (if bits (from + 0) then 1 else 0)) (number-zero (λ b. bits (from + b)))
    ∙ bit-number (bits (from + 0)) (bit_at_index bits width left right index)
    (sym (ap (λ d. bit_or_zero bits (place_within width d)) (k.0 ∙ zero_on) ∙ inside bits width from 0 (omega (arith, k.1))))
  where
    bit-number : (x y : Bool) → x ≡ y → 0 + (if x then 1 else 0) ≡ (if y then 1 else 0)
    bit-number true true e = refl
    bit-number false false e = refl
    bit-number true false e = cc
    bit-number false true e = cc

-- bits at a known place
pub part-known : (bits : ℕ → Bool) (width from count : ℕ) (left right : ℤ) (k : PartKind) (one other : ℤ)
    → start_of width count (part_distance left right k one other count) ≡ Some from
    → number count (λ b. bits (from + b)) ≡ part_number bits width left right (base_index k one other) count (part_offset k (descends left right) count)
part-known bits width from count left right k one other h =
    let s = start-known width count (part_distance left right k one other count) from h in
    number-same count (λ b. bits (from + b)) (λ b. bit_at_index bits width left right (base_index k one other +ℤ part_offset k (descends left right) count b))
    (λ b below.
    sym (ap (λ d. bit_or_zero bits (place_within width d)) (distance-step left right k one other count b below ∙ ap (λ d. d +ℤ pos b) s.0)
    ∙ inside bits width from b (omega (arith, s.1, below))))
