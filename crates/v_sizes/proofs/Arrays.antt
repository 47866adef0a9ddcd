-- What the nodes of words of arrays mean, and that they fit.
use Rattle.std.proofs.Common.{◌≡◌, ℕ, zero, suc, ◌+◌, ◌-◌, ◌*◌, ◌^◌, ◌<◌, ◌≤◌, Bool, true, false, List, [], ◌∷◌, length, Option, Some, None, refl, ap, sym, subst, ◌∙◌, arith}
use Rattle.std.specs.Prelude.{if◌then◌else◌, ◌==◌, ℤ, take, drop, slice_get}
use Rattle.std.specs.List.{list_all}
use Rattle.std.proofs.lemmas.Bool.{le-leb, eq-eqb, and_from}
use Rattle.std.proofs.lemmas.Option.{slice_get_within}
use Rattle.std.proofs.lemmas.Nat.{pow-add}
use Rattle.std.proofs.Math.Nat.{add-mul, mul_comm}
use Rattle.design_core.specs.declared.signal.Signal.{Signal}
use Rattle.design_core.specs.declared.expression.Typed.{Typed}
use Rattle.design_core.specs.declared.expression.Node.TheVariants as node
use Rattle.design_core.specs.Valuation.{Valuation, number, width_at, word_at}
use Rattle.design_core.specs.Value.{word_value}
use Rattle.design_core.specs.WellFormed.{words_fit}
use Rattle.design_core.proofs.NumberLaws.{number-zero, number-suc}
use Rattle.design_core.proofs.ExpressionSteps.{value_word, fits_word}
use Rattle.v_sizes.specs.Sizing.{Sizing, integer, word_bits}
use Rattle.v_sizes.specs.Sized.{sized}
use Rattle.v_sizes.specs.Context.{IsThere}
use Rattle.v_sizes.proofs.Steady.{number-none}
use Rattle.v_sizes.proofs.Meant.{Within, Meant, is-width}
use Rattle.v_sizes.proofs.Selects.{there-width, there-signal, index-means}

-- ---- numbers by halves
higher : (bit : Bool) (a b : ℕ) → (if bit then 2 ^ (a + b) else 0) ≡ (if bit then 2 ^ b else 0) * 2 ^ a
higher true a b = pow-add 2 a b ∙ mul_comm (2 ^ a) (2 ^ b)
higher false a b = let nothing : 0 * 2 ^ a ≡ 0 = omega arith in sym nothing

pub number-halves : (a b : ℕ) (f : ℕ → Bool) → number (a + b) f ≡ number b (λ i. f (a + i)) * 2 ^ a + number a f
number-halves a zero f =
    let same : a + 0 ≡ a = omega arith in
    let nothing : 0 * 2 ^ a + number a f ≡ number a f = omega arith in
    ap (λ m. number m f) same ∙ sym (ap (λ n. n * 2 ^ a + number a f) (number-zero (λ i. f (a + i))) ∙ nothing)
number-halves a (suc b) f =
    let low = number-halves a b f in
    let top : number (suc (a + b)) f ≡ number (a + b) f + (if f (a + b) then 2 ^ (a + b) else 0) = number-suc (a + b) f in
    let part : number (suc b) (λ i. f (a + i)) * 2 ^ a ≡ (number b (λ i. f (a + i)) + (if f (a + b) then 2 ^ b else 0)) * 2 ^ a =
    ap (λ n. n * 2 ^ a) (number-suc b (λ i. f (a + i))) in
    let lifted = higher (f (a + b)) a b in
    let next : a + suc b ≡ suc (a + b) = omega arith in
    ap (λ n. number n f) next ∙ top ∙ ap (λ n. n + (if f (a + b) then 2 ^ (a + b) else 0)) low
    ∙ ap (λ n. number b (λ i. f (a + i)) * 2 ^ a + number a f + n) lifted
    ∙ sym (ap (λ n. n + number a f) part ∙ spread (number b (λ i. f (a + i))) (if f (a + b) then 2 ^ b else 0) (2 ^ a) (number a f))
  where
    spread : (x y z w : ℕ) → (x + y) * z + w ≡ x * z + w + y * z
    spread x y z w = omega (arith, add-mul x y z)

-- ---- words that are there
words-alike : (signals : List Signal) (first count width : ℕ) → ((k : ℕ) → k < count → (s : Signal) × (slice_get signals (first + k) ≡ Some s) × (s.width ≡ width))
    → list_all (λ s. s.width == width) (take count (drop first signals)) ≡ true
words-alike signals first zero width there = refl
words-alike [] first (suc count) width there =
    let one = there 0 (omega arith) in
    let past : first + 0 < 0 = slice_get_within [] (first + 0) one.0 one.1 in
    absurd (omega (arith, past))
words-alike (s ∷ signals) zero (suc count) width there =
    let one = there 0 (omega arith) in
    and_from _ _ (eq-eqb s.width width (ap (λ x. x.width) (some s one.0 one.1) ∙ one.2))
    (words-alike signals zero count width (λ k below. moved k below))
  where
    some : (x y : Signal) → Some x ≡ Some y → x ≡ y
    some x y h = cc

    moved : (k : ℕ) → k < count → (x : Signal) × (slice_get signals (0 + k) ≡ Some x) × (x.width ≡ width)
    moved k below =
        let next : 0 + suc k ≡ suc (0 + k) = omega arith in
        subst (λ n. (x : Signal) × (slice_get (s ∷ signals) n ≡ Some x) × (x.width ≡ width)) next (there (suc k) (omega (arith, below)))
words-alike (s ∷ signals) (suc first) (suc count) width there = words-alike signals first (suc count) width (λ k below. moved k below)
  where
    moved : (k : ℕ) → k < suc count → (x : Signal) × (slice_get signals (first + k) ≡ Some x) × (x.width ≡ width)
    moved k below =
        let next : suc first + k ≡ suc (first + k) = omega arith in
        subst (λ n. (x : Signal) × (slice_get (s ∷ signals) n ≡ Some x) × (x.width ≡ width)) next (there k below)

-- ---- some bits of a word at a variable address
there-words : (signals : List Signal) (width : ℕ) (left right : ℤ) (first count from size : ℕ) → Within size → from + size ≤ width → 1 ≤ count
    → ((k : ℕ) → k < count → IsThere signals width left right (first + k)) → words_fit signals first count from size ≡ true
there-words signals width left right first count from size within inside some there =
    let start : IsThere signals width left right first = subst (λ n. IsThere signals width left right n) (omega arith) (there 0 some) in
    let last : IsThere signals width left right (first + (count - 1)) = there (count - 1) (omega (arith, some)) in
    let past : first + (count - 1) < length signals = slice_get_within signals (first + (count - 1)) last.signal last.there in
    let declared : width_at signals first ≡ width = there-width signals width left right first start in
    and_from _ _
    (and_from _ _ (and_from _ _ (le-leb 1 count some) (le-leb (first + count) (length signals) (omega (arith, past, some))))
    (and_from _ _ (and_from _ _ (there-signal signals width left right first start) (is-width size within))
    (le-leb (from + size) (width_at signals first) (subst (λ w. from + size ≤ w) (sym declared) inside))
    )
    )
    (words-alike signals first count (width_at signals first)
    (λ k below. let is = there k below in (is.signal, is.there, is.is.of_width ∙ sym declared))
    )

no_word : (size from : ℕ) (V : Valuation) → number size (λ b. word_bits V None (from + b)) ≡ 0
no_word size from V = number-none size

word-same : (V : Valuation) (from size : ℕ) (word : Option ℕ) → word_value V from size word ≡ number size (λ b. word_bits V word (from + b))
word-same V from size None = sym (no_word size from V)
word-same V from size (Some signal) = refl

pub word-meant : (signals : List Signal) (width : ℕ) (left right : ℤ) (first count : ℕ) (low : ℤ) (from size : ℕ) (index : Typed) (x : Sizing) (signed : Bool)
    → Within size → from + size ≤ width → 1 ≤ count → ((k : ℕ) → k < count → IsThere signals width left right (first + k))
    → Meant signals index x.width x.signed (λ V. x.value V x.width x.signed)
    → Meant signals (sized size signed (node.Word first count low index from size)) size signed (λ V. number size (λ b. word_bits V (word_at first count low (integer x V)) (from + b)))
word-meant signals width left right first count low from size index x signed within inside some there meant =
    record {
      of_width = refl;
      of_sign = refl;
      means = λ V.
          value_word signals V size first count low index from size
          ∙ ap (λ i. word_value V from size (word_at first count low i)) (index-means signals index x meant V)
          ∙ word-same V from size (word_at first count low (integer x V));
      fits = fits_word signals signed size first count low index from size
          ∙ and_from _ _ (and_from _ _ (there-words signals width left right first count from size within inside some there) (eq-eqb size size refl)) meant.fits;
    }
