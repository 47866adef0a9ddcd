-- Words as lists of the bits that a function gives.
use Rattle.std.proofs.Common.{◌≡◌, ℕ, zero, suc, ◌+◌, ◌-◌, ◌*◌, ◌/◌, ◌%◌, ◌^◌, ◌==◌, ◌≤◌, ◌<◌, Bool, true, false, if◌then◌else◌, List, [], ◌∷◌, ◌++◌, length, take, drop, refl, sym, ◌∙◌, ap, ap₂, arith, add-zero, zero-add}
use Rattle.std.proofs.lemmas.Grind.{common_steps}
use Rattle.std.proofs.lemmas.Nat.Bits.{bit_at_lowest}
use Rattle.loc_base.proofs.BitLaws.{bit_at-shr}
use Rattle.gate_base.specs.declared.literal.Literal.{Literal}
use Rattle.gate_base.specs.declared.node.Node.{Node}
use Rattle.gate_base.specs.Meaning.{Source, MeansAll}
use Rattle.design_core.specs.Valuation.{bit, number}
use Rattle.design_core.proofs.NumberLaws.{number-zero, number-suc, number-same, power_double}
use Rattle.bit_words.specs.Bits.{one_if, number_of, IsWord}
use Rattle.bit_words.proofs.Meaning.{all-as}
use Rattle.bit_words.proofs.WordLaws.{MeansAll-length}

-- the bits from one on
unfoldable pub bits_from : (ℕ → Bool) → ℕ → ℕ → List Bool
bits_from f b zero = []
bits_from f b (suc count) = f b ∷ bits_from f (b + 1) count

pub length-bits : (f : ℕ → Bool) (b n : ℕ) → length (bits_from f b n) ≡ n
unfolding bits_from
length-bits f b zero = refl
length-bits f b (suc n) = ap suc (length-bits f (b + 1) n)

pub bits-same : (f g : ℕ → Bool) (b c n : ℕ) → ((i : ℕ) → i < n → f (b + i) ≡ g (c + i)) → bits_from f b n ≡ bits_from g c n
unfolding bits_from
bits-same f g b c zero same = refl
bits-same f g b c (suc n) same =
    ap₂ (λ x xs. x ∷ xs)
    (ap f (sym (add-zero b)) ∙ same 0 (omega arith) ∙ ap g (add-zero c))
    (bits-same f g (b + 1) (c + 1) n (λ i within. ap f (next b i) ∙ same (suc i) (omega (arith, within)) ∙ ap g (sym (next c i))))
  where
    next : (b i : ℕ) → b + 1 + i ≡ b + suc i
    next b i = omega arith

low-first : (b : Bool) (n m : ℕ) → n ≡ 0 → m ≡ 0 → n + (if b then 1 else 0) ≡ one_if b + 2 * m
low-first true n m n_is m_is = omega (arith, n_is, m_is)
low-first false n m n_is m_is = omega (arith, n_is, m_is)

low-step : (b : Bool) (x n m p q : ℕ) → n ≡ x + 2 * m → q ≡ 2 * p → n + (if b then q else 0) ≡ x + 2 * (m + (if b then p else 0))
low-step true x n m p q n_is q_is = omega (arith, n_is, q_is)
low-step false x n m p q n_is q_is = omega (arith, n_is, q_is)

-- the lowest bit and those above it
pub number-low : (w : ℕ) (g : ℕ → Bool) → number (suc w) g ≡ one_if (g 0) + 2 * number w (λ i. g (suc i))
number-low zero g = number-suc 0 g ∙ low-first (g 0) (number 0 g) (number 0 (λ i. g (suc i))) (number-zero g) (number-zero (λ i. g (suc i)))
number-low (suc w) g =
    number-suc (suc w) g
    ∙ low-step (g (suc w)) (one_if (g 0)) (number (suc w) g) (number w (λ i. g (suc i))) (2 ^ w) (2 ^ suc w) (number-low w g) (power_double w)
    ∙ ap (λ m. one_if (g 0) + 2 * m) (sym (number-suc w (λ i. g (suc i))))

-- the number that they mean
pub number-from : (f : ℕ → Bool) (b n : ℕ) → number_of (bits_from f b n) ≡ number n (λ i. f (b + i))
unfolding bits_from
number-from f b zero = sym (number-zero (λ i. f (b + i)))
number-from f b (suc n) =
    ap (λ m. one_if (f b) + 2 * m) (number-from f (b + 1) n ∙ number-same n (λ i. f (b + 1 + i)) (λ i. f (b + suc i)) (λ i within. ap f (next i)))
    ∙ ap (λ x. one_if x + 2 * number n (λ i. f (b + suc i))) (ap f (sym (add-zero b)))
    ∙ sym (number-low n (λ i. f (b + i)))
  where
    next : (i : ℕ) → b + 1 + i ≡ b + suc i
    next i = omega arith

lowest : (c : Bool) (m : ℕ) → ((one_if c + 2 * m) % 2 == 1) ≡ c
lowest true m = grind (arith, common_steps)
lowest false m = grind (arith, common_steps)

above : (c : Bool) (m : ℕ) → (one_if c + 2 * m) / 2 ≡ m
above true m = omega arith
above false m = omega arith

-- bits are those of the number that they mean
bits-are : (bs : List Bool) (f : ℕ → Bool) (b : ℕ) → ((i : ℕ) → f (b + i) ≡ bit (number_of bs) i) → bs ≡ bits_from f b (length bs)
unfolding bits_from
bits-are [] f b is = refl
bits-are (c ∷ cs) f b is =
    let v = one_if c + 2 * number_of cs in
    ap₂ (λ x xs. x ∷ xs)
    (sym (ap f (sym (add-zero b)) ∙ is 0 ∙ ap (λ n. n == 1) (bit_at_lowest v) ∙ lowest c (number_of cs)))
    (bits-are cs f (b + 1) (λ i. ap f (next i) ∙ is (suc i) ∙ ap (bit v) (after i) ∙ ap (λ n. n == 1) (sym (bit_at-shr v 1 i)) ∙ ap (λ m. bit m i) (above c (number_of cs))))
  where
    next : (i : ℕ) → b + 1 + i ≡ b + suc i
    next i = omega arith

    after : (i : ℕ) → suc i ≡ 1 + i
    after i = omega arith

-- the literals of a word mean the bits of its number
pub word-bits : {e : Source} {nodes : List Node} {xs : List Literal} {v : ℕ} → IsWord e nodes xs v → MeansAll e nodes xs (bits_from (bit v) 0 (length xs))
word-bits {xs = xs} {v = v} x =
    all-as (bits-are x.bits (bit v) 0 (λ i. ap (bit v) (zero-add i) ∙ ap (λ n. bit n i) (sym x.number)) ∙ ap (bits_from (bit v) 0) (MeansAll-length x.means)) x.means

-- and literals that mean bits are a word of the bits' number
pub bits-word : {e : Source} {nodes : List Node} {xs : List Literal} (f : ℕ → Bool) (n : ℕ) → MeansAll e nodes xs (bits_from f 0 n) → IsWord e nodes xs (number n f)
bits-word f n ms = record { bits = bits_from f 0 n; means = ms; number = number-from f 0 n ∙ number-same n (λ i. f (0 + i)) f (λ i within. ap f (zero-add i)) }

-- ---- parts

pub bits-take : (f : ℕ → Bool) (n b m : ℕ) → n ≤ m → take n (bits_from f b m) ≡ bits_from f b n
unfolding bits_from
bits-take f zero b m within = refl
bits-take f (suc n) b zero within = absurd (omega (arith, within))
bits-take f (suc n) b (suc m) within = ap (λ xs. f b ∷ xs) (bits-take f n (b + 1) m (omega (arith, within)))

pub bits-drop : (f : ℕ → Bool) (n b m : ℕ) → n ≤ m → drop n (bits_from f b m) ≡ bits_from f (b + n) (m - n)
unfolding bits_from
bits-drop f zero b m within = ap₂ (bits_from f) (sym (add-zero b)) (none m)
  where
    none : (m : ℕ) → m ≡ m - 0
    none m = omega arith
bits-drop f (suc n) b zero within = absurd (omega (arith, within))
bits-drop f (suc n) b (suc m) within = bits-drop f n (b + 1) m (omega (arith, within)) ∙ ap₂ (bits_from f) next rest
  where
    next : b + 1 + n ≡ b + suc n
    next = omega arith

    rest : m - n ≡ suc m - suc n
    rest = omega arith

pub bits-append : (f : ℕ → Bool) (n b m : ℕ) → bits_from f b (n + m) ≡ bits_from f b n ++ bits_from f (b + n) m
unfolding bits_from
bits-append f zero b m = ap₂ (bits_from f) (sym (add-zero b)) (zero-add m)
bits-append f (suc n) b m = ap (bits_from f b) more ∙ ap (λ xs. f b ∷ xs) (bits-append f n (b + 1) m ∙ ap (λ c. bits_from f (b + 1) n ++ bits_from f c m) next)
  where
    more : suc n + m ≡ suc (n + m)
    more = omega arith

    next : b + 1 + n ≡ b + suc n
    next = omega arith
