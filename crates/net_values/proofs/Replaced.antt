-- Bits that are replaced and blended, and words beside numbers.
use Rattle.std.proofs.Common.{◌≡◌, ℕ, zero, suc, ◌+◌, ◌*◌, ◌/◌, ◌^◌, ◌%◌, ◌<◌, ◌≤◌, Bool, true, false, not, min, refl, sym, ◌∙◌, ap, arith, ◌⊎◌, inl, inr}
use Rattle.std.specs.Prelude.{◌&&◌, ◌==◌, if◌then◌else◌, bit_and, bit_xor}
use Rattle.std.specs.Int.{bit_at}
use Rattle.std.proofs.Math.Nat.{mod-eq_of_lt}
use Rattle.std.proofs.lemmas.Nat.Bits.{bit_at_and, bit_at_xor, bit_at-lt}
use Rattle.std.proofs.Math.Path.{fun_ext}
use Rattle.loc_base.proofs.ShelfBools.{below_two}
use Rattle.design_core.specs.Valuation.{bit, number}
use Rattle.design_core.proofs.NumberLaws.{number-same, number-bit}
use Rattle.word_net.specs.Selects.{put_bits}
use Rattle.plain_values.proofs.EvaluateSelect.{integer-pos, integer-neg}
use Rattle.plain_values.proofs.EvaluateWrite.{bit-shr}

-- a number below 2 ^ width is that of its bits
pub number-is : (w v : ℕ) (f : ℕ → Bool) → v < 2 ^ w → ((b : ℕ) → b < w → bit v b ≡ f b) → v ≡ number w f
number-is w v f below same =
    let low : v % 2 ^ w ≡ v = mod-eq_of_lt below in sym low ∙ sym (number-bit w v) ∙ number-same w (bit v) f same

-- ---- blending

bit-xor : (m n b : ℕ) → bit (bit_xor m n) b ≡ (if bit m b then not (bit n b) else bit n b)
bit-xor m n b = ap (λ k. k == 1) (bit_at_xor m n b) ∙ at (below_two (bit_at m b) (bit_at-lt m b)) (below_two (bit_at n b) (bit_at-lt n b))
  where
    at : {x y : ℕ} → (x ≡ 0) ⊎ (x ≡ 1) → (y ≡ 0) ⊎ (y ≡ 1) → ((x + y) % 2 == 1) ≡ (if x == 1 then not (y == 1) else y == 1)
    at (inl e) (inl f) = rw (e, f) refl
    at (inl e) (inr f) = rw (e, f) refl
    at (inr e) (inl f) = rw (e, f) refl
    at (inr e) (inr f) = rw (e, f) refl

bit-and : (m n b : ℕ) → bit (bit_and m n) b ≡ (bit m b && bit n b)
bit-and m n b = ap (λ k. k == 1) (bit_at_and m n b) ∙ at (below_two (bit_at m b) (bit_at-lt m b)) (below_two (bit_at n b) (bit_at-lt n b))
  where
    at : {x y : ℕ} → (x ≡ 0) ⊎ (x ≡ 1) → (y ≡ 0) ⊎ (y ≡ 1) → (min x y == 1) ≡ (x == 1 && y == 1)
    at (inl e) (inl f) = rw (e, f) refl
    at (inl e) (inr f) = rw (e, f) refl
    at (inr e) (inl f) = rw (e, f) refl
    at (inr e) (inr f) = rw (e, f) refl

blend-bit : (t f m : Bool) → (if t then not ((if t then not f else f) && m) else (if t then not f else f) && m) ≡ (if m then f else t)
blend-bit true true true = refl
blend-bit true true false = refl
blend-bit true false true = refl
blend-bit true false false = refl
blend-bit false true true = refl
blend-bit false true false = refl
blend-bit false false true = refl
blend-bit false false false = refl

pub blend-value : (w mask one other v : ℕ) → v < 2 ^ w → v ≡ bit_xor other (bit_and (bit_xor other one) mask) → v ≡ number w (λ b. if bit mask b then bit one b else bit other b)
blend-value w mask one other v below is =
    number-is w v (λ b. if bit mask b then bit one b else bit other b) below
    (λ b _. ap (λ n. bit n b) is ∙ bit-xor other (bit_and (bit_xor other one) mask) b
    ∙ ap (λ x. if bit other b then not x else x) (bit-and (bit_xor other one) mask b ∙ ap (λ x. x && bit mask b) (bit-xor other one b))
    ∙ blend-bit (bit other b) (bit one b) (bit mask b))

pub ruleset blend_steps = (blend-value)

-- ---- bits that are put

-- the bits of a shifted value
pub shifted-bits : (v k : ℕ) → bit (v / 2 ^ k) ≡ (λ b. bit v (k + b))
shifted-bits v k = fun_ext (λ b. bit-shr v k b)

pub put-value : (w r old word shifted from size offset : ℕ) → r < 2 ^ w → shifted ≡ word / 2 ^ offset → ((p : ℕ) → p < w → bit r p ≡ put_bits (bit old) from size (bit shifted) p)
    → r ≡ number w (put_bits (bit old) from size (λ b. bit word (offset + b)))
put-value w r old word shifted from size offset below is same =
    number-is w r (put_bits (bit old) from size (λ b. bit word (offset + b))) below
    (λ p low. same p low ∙ ap (λ f. put_bits (bit old) from size f p) (ap bit is ∙ shifted-bits word offset))

-- a number of bits, in another width that is the same
pub as_wide : (f : ℕ → Bool) {v a b : ℕ} → v ≡ number a f → a ≡ b → v ≡ number b f
as_wide f is same = is ∙ ap (λ n. number n f) same

-- ---- numbers

pub join-value : (a b w x y v : ℕ) → a ≡ x → b ≡ y → w ≡ v → a * 2 ^ w + b ≡ x * 2 ^ v + y
join-value a b w x y v first second wide = ap (λ t. t * 2 ^ w + b) first ∙ ap (λ k. x * 2 ^ k + b) wide ∙ ap (λ t. x * 2 ^ v + t) second

pub times-some : (times part width : ℕ) → times * part ≡ width → 1 ≤ width → 1 ≤ times
times-some zero part width is least = absurd (omega (arith, is, least))
times-some (suc times) part width is least = omega arith

pub ruleset number_steps = (integer-pos, integer-neg)
