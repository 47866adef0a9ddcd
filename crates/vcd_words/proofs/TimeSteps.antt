-- The digits of a time, one by one.
use Rattle.std.proofs.Common.{◌≡◌, ℕ, ◌+◌, ◌*◌, ◌^◌, ◌<◌, ◌≤◌, ◌∙◌, ap, arith, add-one}
use Rattle.std.proofs.Math.Nat.{pow-suc, pow-le-pow_right}
use Rattle.std.proofs.lemmas.List.Sums.{fold_more}
use Rattle.std.proofs.lemmas.List.Folds.{list_all_more}
use Rattle.vcd_words.proofs.Lists.{all_breaks}

-- a number of at most 17 digits
pub few_digits : (time i : ℕ) → time < 10 ^ i → i < 18 → time < 100000000000000000
few_digits time i low few =
    let most : 10 ^ i ≤ 10 ^ 17 = pow-le-pow_right {n = 10} (omega arith) {i = i} {j = 17} (omega (arith, few)) in
    omega (arith, low, most)

-- one more digit
pub one_more : (time digit i : ℕ) → time < 10 ^ i → digit < 10 → time * 10 + digit < 10 ^ (i + 1)
one_more time digit i low small =
    let more : 10 ^ (i + 1) ≡ 10 ^ i * 10 = ap (λ k. 10 ^ k) (add-one i) ∙ pow-suc 10 i in
    omega (arith, low, small, more)

pub ruleset time_steps = (fold_more, list_all_more, all_breaks, few_digits, one_more)
