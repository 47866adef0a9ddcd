-- The level of a value's digits.
use Rattle.std.proofs.Common.{◌≡◌, ℕ, zero, suc, ◌+◌, ◌-◌, ◌*◌, ◌/◌, ◌%◌, ◌^◌, ◌<◌, ◌≤◌, ◌==◌, if◌then◌else◌, List, [], ◌∷◌, refl, sym, ◌∙◌, ap, inl, inr, arith}
use Rattle.std.specs.Prelude.{fold, bit_and}
use Rattle.std.proofs.lemmas.Bool.{cases_Bool, cond-true, cond-false}
use Rattle.std.proofs.lemmas.List.Sums.{fold-append}
use Rattle.std.proofs.lemmas.Nat.{and_shr, and_mod, mod-pow-add, mod-mul-add, pow_pos}
use Rattle.std.proofs.Math.Nat.{pow-suc, pow-le-pow_right, mod-lt, mod-eq_of_lt, mod-mod}
use Rattle.std.proofs.Math.Pow.{mod-mod-pow}
use Rattle.vcd_words.specs.declared.level.Level.{Level}
use Rattle.vcd_words.specs.Levels.{is_unknown, shifted, filled, cut_level, digit_of, digits_of, DigitsMean}
use Rattle.vcd_words.proofs.DigitSteps.{digits_step, digits_none}

abbrev filled_with : ℕ → Level
filled_with unknowns = record { ones = 0; unknowns = unknowns }

-- digits behind unknown bits or zeros
abbrev run : ℕ → List ℕ → Level
run unknowns digits = fold shifted (filled_with unknowns) digits

-- the two bits of one digit
one_bit : (bit known : ℕ) → bit < 2 → known < 2 → (if digit_of bit known == 49 then 1 else 0) ≡ bit_and bit known
one_bit zero zero _ _ = refl
one_bit zero (suc zero) _ _ = refl
one_bit (suc zero) zero _ _ = refl
one_bit (suc zero) (suc zero) _ _ = refl
one_bit (suc (suc bit)) known small _ = absurd (omega (arith, small))
one_bit zero (suc (suc known)) _ small = absurd (omega (arith, small))
one_bit (suc zero) (suc (suc known)) _ small = absurd (omega (arith, small))

unknown_bit : (bit known : ℕ) → bit < 2 → known < 2 → (if is_unknown (digit_of bit known) then 1 else 0) ≡ 1 - known
unknown_bit zero zero _ _ = refl
unknown_bit zero (suc zero) _ _ = refl
unknown_bit (suc zero) zero _ _ = refl
unknown_bit (suc zero) (suc zero) _ _ = refl
unknown_bit (suc (suc bit)) known small _ = absurd (omega (arith, small))
unknown_bit zero (suc (suc known)) _ small = absurd (omega (arith, small))
unknown_bit (suc zero) (suc (suc known)) _ small = absurd (omega (arith, small))

-- the lowest bit of what is left, and the others
halves : (n width : ℕ) → n % 2 ^ suc width ≡ (n / 2 % 2 ^ width) * 2 + n % 2
halves n width = ap (λ k. n % 2 ^ k) (omega arith) ∙ mod-pow-add n width 1

run_step : (width unknowns value mask : ℕ)
    → run unknowns (digits_of (suc width) value mask) ≡ shifted (run unknowns (digits_of width (value / 2) (mask / 2))) (digit_of (value % 2) (mask % 2))
run_step width unknowns value mask =
    ap (run unknowns) (digits_step width value mask)
    ∙ fold-append shifted (filled_with unknowns) (digits_of width (value / 2) (mask / 2)) (digit_of (value % 2) (mask % 2) ∷ [])

below : (width n : ℕ) → width ≤ 128 → n % 2 ^ width % 2 ^ 128 ≡ n % 2 ^ width
below width n within =
    let most : 2 ^ width ≤ 2 ^ 128 = pow-le-pow_right {n = 2} (omega arith) {i = width} {j = 128} within in
    let small : n % 2 ^ width < 2 ^ width = mod-lt n (pow_pos width) in
    mod-eq_of_lt (omega (arith, most, small))

run_ones : (width unknowns value mask : ℕ) → width ≤ 128 → (run unknowns (digits_of width value mask)).ones ≡ bit_and value mask % 2 ^ width
run_ones zero unknowns value mask within = ap (λ digits. (run unknowns digits).ones) (digits_none value mask) ∙ omega arith
run_ones (suc width) unknowns value mask within =
    let before : (run unknowns (digits_of width (value / 2) (mask / 2))).ones ≡ bit_and (value / 2) (mask / 2) % 2 ^ width =
    run_ones width unknowns (value / 2) (mask / 2) (omega arith) in
    let low : (if digit_of (value % 2) (mask % 2) == 49 then 1 else 0) ≡ bit_and value mask % 2 =
    one_bit (value % 2) (mask % 2) (omega arith) (omega arith) ∙ sym (and_mod value mask 1) in
    ap (λ (level : Level). level.ones) (run_step width unknowns value mask)
    ∙ ap (λ n. (n * 2 + (if digit_of (value % 2) (mask % 2) == 49 then 1 else 0)) % 2 ^ 128) before
    ∙ ap (λ n. (bit_and (value / 2) (mask / 2) % 2 ^ width * 2 + n) % 2 ^ 128) low
    ∙ ap (λ n. (n % 2 ^ width * 2 + bit_and value mask % 2) % 2 ^ 128) (sym (and_shr value mask 1))
    ∙ ap (λ n. n % 2 ^ 128) (sym (halves (bit_and value mask) width))
    ∙ below (suc width) (bit_and value mask) within

-- the unknown bits of one digit more
more_unknown : (power unknowns known bit : ℕ) → known < power → bit < 2
    → ((unknowns * power + (power - 1 - known)) % 2 ^ 128 * 2 + (1 - bit)) % 2 ^ 128 ≡ (unknowns * (power * 2) + (power * 2 - 1 - (known * 2 + bit))) % 2 ^ 128
more_unknown power unknowns known bit small low =
    twice (unknowns * power + (power - 1 - known)) (1 - bit) (omega arith)
    ∙ ap (λ n. n % 2 ^ 128) (omega arith)
  where
    twice : (n b : ℕ) → b < 2 → (n % 2 ^ 128 * 2 + b) % 2 ^ 128 ≡ (n * 2 + b) % 2 ^ 128
    twice n b few = omega (arith, few)

run_unknowns : (width unknowns value mask : ℕ) → unknowns < 2 ^ 128
    → (run unknowns (digits_of width value mask)).unknowns ≡ (unknowns * 2 ^ width + (2 ^ width - 1 - mask % 2 ^ width)) % 2 ^ 128
run_unknowns zero unknowns value mask small = ap (λ digits. (run unknowns digits).unknowns) (digits_none value mask) ∙ omega (arith, small)
run_unknowns (suc width) unknowns value mask small =
    let before : (run unknowns (digits_of width (value / 2) (mask / 2))).unknowns ≡ (unknowns * 2 ^ width + (2 ^ width - 1 - mask / 2 % 2 ^ width)) % 2 ^ 128 =
    run_unknowns width unknowns (value / 2) (mask / 2) small in
    let low : (if is_unknown (digit_of (value % 2) (mask % 2)) then 1 else 0) ≡ 1 - mask % 2 =
    unknown_bit (value % 2) (mask % 2) (omega arith) (omega arith) in
    ap (λ (level : Level). level.unknowns) (run_step width unknowns value mask)
    ∙ ap (λ n. (n * 2 + (if is_unknown (digit_of (value % 2) (mask % 2)) then 1 else 0)) % 2 ^ 128) before
    ∙ ap (λ n. ((unknowns * 2 ^ width + (2 ^ width - 1 - mask / 2 % 2 ^ width)) % 2 ^ 128 * 2 + n) % 2 ^ 128) low
    ∙ more_unknown (2 ^ width) unknowns (mask / 2 % 2 ^ width) (mask % 2) (mod-lt (mask / 2) (pow_pos width)) (omega arith)
    ∙ ap (λ n. (unknowns * n + (n - 1 - (mask / 2 % 2 ^ width * 2 + mask % 2))) % 2 ^ 128) (sym (pow-suc 2 width))
    ∙ ap (λ n. (unknowns * 2 ^ suc width + (2 ^ suc width - 1 - n)) % 2 ^ 128) (sym (halves mask width))

-- what stands on the left of digits
filled_is : (digits : List ℕ) → filled digits ≡ filled_with ((filled digits).unknowns)
filled_is [] = refl
filled_is (digit ∷ digits) = refl

filled_fits : (digits : List ℕ) → (filled digits).unknowns < 2 ^ 128
filled_fits [] = omega arith
filled_fits (digit ∷ digits) =
    elim (cases_Bool (is_unknown digit)) [
      | inl unknown ↦ let e : (filled (digit ∷ digits)).unknowns ≡ 2 ^ 128 - 1 = cond-true (is_unknown digit) (2 ^ 128 - 1) 0 unknown in omega (arith, e)
      | inr known ↦ let e : (filled (digit ∷ digits)).unknowns ≡ 0 = cond-false (is_unknown digit) (2 ^ 128 - 1) 0 known in omega (arith, e)
    ]

cut_unknowns : (width unknowns mask : ℕ) → width ≤ 128
    → (unknowns * 2 ^ width + (2 ^ width - 1 - mask % 2 ^ width)) % 2 ^ 128 % 2 ^ width ≡ 2 ^ width - 1 - mask % 2 ^ width
cut_unknowns width unknowns mask within =
    let all : 128 ≡ 128 - width + width = omega arith in
    let some : 0 < 2 ^ width = pow_pos width in
    ap (λ n. (unknowns * 2 ^ width + (2 ^ width - 1 - mask % 2 ^ width)) % 2 ^ n % 2 ^ width) all
    ∙ mod-mod-pow (unknowns * 2 ^ width + (2 ^ width - 1 - mask % 2 ^ width)) (128 - width) width
    ∙ mod-mul-add unknowns (2 ^ width) (2 ^ width - 1 - mask % 2 ^ width) (omega (arith, some))

pub mean : DigitsMean
mean width value mask some within =
    let digits : List ℕ = digits_of width value mask in
    let fill : ℕ = (filled (digits_of width value mask)).unknowns in
    ap (λ level. cut_level width (fold shifted level (digits_of width value mask))) (filled_is (digits_of width value mask))
    ∙ ap (λ n. record { ones = n % 2 ^ width; unknowns = (run fill (digits_of width value mask)).unknowns % 2 ^ width }) (run_ones width fill value mask within)
    ∙ ap (λ n. record { ones = bit_and value mask % 2 ^ width % 2 ^ width; unknowns = n % 2 ^ width }) (run_unknowns width fill value mask (filled_fits digits))
    ∙ ap (λ n. record { ones = n; unknowns = (fill * 2 ^ width + (2 ^ width - 1 - mask % 2 ^ width)) % 2 ^ 128 % 2 ^ width }) (mod-mod (bit_and value mask) (2 ^ width))
    ∙ ap (λ n. record { ones = bit_and value mask % 2 ^ width; unknowns = n }) (cut_unknowns width fill mask within)

pub ruleset level_laws = (mean)
