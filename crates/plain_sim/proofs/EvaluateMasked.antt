-- A word differs from another in no bit of a mask where their difference under the mask is 0.
use Rattle.std.proofs.Common.{◌≡◌, ℕ, zero, suc, ◌+◌, ◌<◌, ◌%◌, ◌⊎◌, inl, inr, min, true, false, ◌==◌, bit_and, nat_eq, refl, ap, sym, ◌∙◌, subst, arith}
use Rattle.std.specs.Prelude.{bit_xor}
use Rattle.std.specs.Int.{bit_at}
use Rattle.std.proofs.lemmas.Nat.Bits.{bit_at_and, bit_at_xor, bit_at-zero, bit_at-lt, same_from_bits}
use Rattle.std.proofs.lemmas.Grind.{common_steps}
use Rattle.loc_base.proofs.ShelfBools.{below_two}

-- two bits are the same where they do not differ
pub bits_same : (x y m : ℕ) → x < 2 → y < 2 → min ((x + y) % 2) m ≡ 0 → m ≡ 1 → (x == 1) ≡ (y == 1)
bits_same x y m hx hy e h = by_cases (two x hx) (two y hy)
  where
    two : (n : ℕ) → n < 2 → (n ≡ 0) ⊎ (n ≡ 1)
    two zero h = inl refl
    two (suc n) h = inr (omega (arith, h))

    by_cases : (x ≡ 0) ⊎ (x ≡ 1) → (y ≡ 0) ⊎ (y ≡ 1) → (x == 1) ≡ (y == 1)
    by_cases (inl p) (inl q) = rw (p, q) refl
    by_cases (inr p) (inr q) = rw (p, q) refl
    by_cases (inl p) (inr q) = let bad : min 1 1 ≡ 0 = subst (λ k. min 1 k ≡ 0) h (subst (λ k. min ((0 + k) % 2) m ≡ 0) q (subst (λ k. min ((k + y) % 2) m ≡ 0) p e)) in absurd (omega (arith, bad))
    by_cases (inr p) (inl q) = let bad : min 1 1 ≡ 0 = subst (λ k. min 1 k ≡ 0) h (subst (λ k. min ((1 + k) % 2) m ≡ 0) q (subst (λ k. min ((k + y) % 2) m ≡ 0) p e)) in absurd (omega (arith, bad))

pub masked-same : (a e m b : ℕ) → bit_and (bit_xor a e) m ≡ 0 → (bit_at m b == 1) ≡ true → (bit_at a b == 1) ≡ (bit_at e b == 1)
masked-same a e m b z h =
    bits_same (bit_at a b) (bit_at e b) (bit_at m b) (bit_at-lt a b) (bit_at-lt e b)
    (ap (λ k. min k (bit_at m b)) (sym (bit_at_xor a e b)) ∙ sym (bit_at_and (bit_xor a e) m b) ∙ ap (λ n. bit_at n b) z ∙ bit_at-zero b)
    (grind (arith, common_steps))

pub bits_alike : (x y m : ℕ) → x < 2 → y < 2 → m < 2 → ((m == 1) ≡ true → (x == 1) ≡ (y == 1)) → min ((x + y) % 2) m ≡ 0
bits_alike x y m hx hy hm same = by_mask (below_two m hm)
  where
    by_bits : (x ≡ 0) ⊎ (x ≡ 1) → (y ≡ 0) ⊎ (y ≡ 1) → (x == 1) ≡ (y == 1) → min ((x + y) % 2) 1 ≡ 0
    by_bits (inl p) (inl q) e = rw (p, q) refl
    by_bits (inr p) (inr q) e = rw (p, q) refl
    by_bits (inl p) (inr q) e = let bad : false ≡ true = subst (λ k. (0 == 1) ≡ (k == 1)) q (subst (λ k. (k == 1) ≡ (y == 1)) p e) in absurd (cc)
    by_bits (inr p) (inl q) e = let bad : true ≡ false = subst (λ k. (1 == 1) ≡ (k == 1)) q (subst (λ k. (k == 1) ≡ (y == 1)) p e) in absurd (cc)

    by_mask : (m ≡ 0) ⊎ (m ≡ 1) → min ((x + y) % 2) m ≡ 0
    by_mask (inl p) = rw p (omega arith)
    by_mask (inr p) = rw p (by_bits (below_two x hx) (below_two y hy) (same (rw p refl)))

pub masked-zero : (a e m : ℕ) → ((b : ℕ) → (bit_at m b == 1) ≡ true → (bit_at a b == 1) ≡ (bit_at e b == 1)) → bit_and (bit_xor a e) m ≡ 0
masked-zero a e m same =
    same_from_bits (bit_and (bit_xor a e) m) 0
    (λ i. bit_at_and (bit_xor a e) m i ∙ ap (λ k. min k (bit_at m i)) (bit_at_xor a e i)
    ∙ bits_alike (bit_at a i) (bit_at e i) (bit_at m i) (bit_at-lt a i) (bit_at-lt e i) (bit_at-lt m i) (same i) ∙ sym (bit_at-zero i))

pub zero_test : (n : ℕ) → nat_eq n 0 ≡ true → n ≡ 0
zero_test n h = grind (arith, common_steps)

pub zero_tested : (n : ℕ) → n ≡ 0 → nat_eq n 0 ≡ true
zero_tested n h = rw h refl
