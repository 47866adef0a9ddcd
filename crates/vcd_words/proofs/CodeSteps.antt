-- Codes, digit by digit, and the places of codes, byte by byte.
use Rattle.std.proofs.Common.{◌≡◌, ◌≢◌, ℕ, suc, ◌+◌, ◌-◌, ◌*◌, ◌/◌, ◌%◌, ◌^◌, ◌<◌, ◌≤◌, ◌==◌, if◌then◌else◌, List, [], ◌∷◌, ◌++◌, length, get_or, take, refl, sym, ◌∙◌, ap, arith, add-one, append_assoc, eq-eqb}
use Rattle.std.proofs.lemmas.Bool.{cond-true, cond-false}
use Rattle.std.proofs.lemmas.Bool.Decides.{nat_tests}
use Rattle.std.proofs.lemmas.List.{append-nil, take_more, length-take-le}
use Rattle.std.proofs.lemmas.List.Folds.{list_all_more}
use Rattle.std.proofs.Math.Nat.{pow-suc, pow-le-pow_right, mul-le-mul_right}
use Rattle.vcd_words.specs.Codes.{code_from, place_of}
use Rattle.vcd_words.proofs.Lists.{all_breaks}

pub code_step : (most number : ℕ) → code_from (suc most) number ≡ (33 + number % 94) ∷ (if number / 94 == 0 then [] else code_from most (number / 94))
unfolding code_from
code_step most number = refl

pub code_zero : (number : ℕ) → code_from 0 number ≡ []
unfolding code_from
code_zero number = refl

pub last_digit : (most number : ℕ) → number / 94 ≡ 0 → code_from (suc most) number ≡ (33 + number % 94) ∷ []
last_digit most number ends =
    code_step most number ∙ ap (λ code. (33 + number % 94) ∷ code) (cond-true (number / 94 == 0) [] (code_from most (number / 94)) (eq-eqb (number / 94) 0 ends))

pub next_digit : (most number : ℕ) → number / 94 ≢ 0 → code_from (suc most) number ≡ (33 + number % 94) ∷ code_from most (number / 94)
next_digit most number goes =
    code_step most number ∙ ap (λ code. (33 + number % 94) ∷ code) (cond-false (number / 94 == 0) [] (code_from most (number / 94)) (grind (arith, nat_tests)))

-- the digit that is written last, and one before it
pub code_ends : (done left : ℕ) (text : List ℕ) → done < 10 → left / 94 ≡ 0
    → text ++ code_from (10 - done) left ≡ text ++ (33 + left % 94) ∷ []
code_ends done left text within ends =
    let most : 10 - done ≡ suc (9 - done) = omega arith in
    ap (λ n. text ++ code_from n left) most ∙ ap (λ code. text ++ code) (last_digit (9 - done) left ends)

pub code_goes : (done left : ℕ) (text : List ℕ) → done < 10 → left / 94 ≢ 0
    → text ++ code_from (10 - done) left ≡ (text ++ (33 + left % 94) ∷ []) ++ code_from (10 - (done + 1)) (left / 94)
code_goes done left text within goes =
    let most : 10 - done ≡ suc (9 - done) = omega arith in
    let less : 9 - done ≡ 10 - (done + 1) = omega arith in
    ap (λ n. text ++ code_from n left) most ∙ ap (λ code. text ++ code) (next_digit (9 - done) left goes)
    ∙ ap (λ n. text ++ (33 + left % 94) ∷ code_from n (left / 94)) less
    ∙ sym (append_assoc text ((33 + left % 94) ∷ []) (code_from (10 - (done + 1)) (left / 94)))

-- all digits are written
pub code_done : (done left : ℕ) (text whole : List ℕ) → 10 ≤ done → text ++ code_from (10 - done) left ≡ whole → text ≡ whole
code_done done left text whole all is =
    let none : 10 - done ≡ 0 = omega arith in
    sym (append-nil text) ∙ ap (λ l. text ++ l) (sym (code_zero left)) ∙ ap (λ n. text ++ code_from n left) (sym none) ∙ is

pub ruleset code_steps = (code_ends, code_goes, code_done)

-- one byte more
place_push : (code : List ℕ) (byte : ℕ) → place_of (code ++ byte ∷ []) ≡ place_of code + (byte - 32) * 94 ^ length code
place_push [] byte = omega arith
place_push (first ∷ code) byte =
    let before : place_of (code ++ byte ∷ []) ≡ place_of code + (byte - 32) * 94 ^ length code = place_push code byte in
    let power : 94 ^ suc (length code) ≡ 94 ^ length code * 94 = pow-suc 94 (length code) in
    ap (λ n. first - 32 + 94 * n) before ∙ (omega arith ∙ ap (λ n. first - 32 + 94 * place_of code + (byte - 32) * n) (sym power))

pub place_more : (word : List ℕ) (i place power digit : ℕ) → i < length word → place ≡ place_of (take i word) → power ≡ 94 ^ i
    → digit ≡ get_or word i 0 - 32 → place + digit * power ≡ place_of (take (i + 1) word)
place_more word i place power digit within place_is power_is digit_is =
    let few : length (take i word) ≡ i = length-take-le i word (omega arith) in
    ap (λ n. place + n * power) digit_is ∙ ap (λ n. n + (get_or word i 0 - 32) * power) place_is
    ∙ ap (λ n. place_of (take i word) + (get_or word i 0 - 32) * n) (power_is ∙ ap (λ n. 94 ^ n) (sym few))
    ∙ sym (ap place_of (take_more word i 0 within) ∙ place_push (take i word) (get_or word i 0))

pub power_more : (i power : ℕ) → power ≡ 94 ^ i → power * 94 ≡ 94 ^ (i + 1)
power_more i power is = ap (λ n. n * 94) is ∙ sym (ap (λ n. 94 ^ n) (add-one i) ∙ pow-suc 94 i)

pub low_more : (place power digit : ℕ) → 93 * place + 94 ≤ 94 * power → digit ≤ 94 → 93 * (place + digit * power) + 94 ≤ 94 * (power * 94)
low_more place power digit low small =
    let most : digit * power ≤ 94 * power = mul-le-mul_right power small in
    omega arith

pub few_powers : (i power : ℕ) → power ≡ 94 ^ i → i < 9 → power ≤ 6095689385410816
few_powers i power is few =
    let most : 94 ^ i ≤ 94 ^ 8 = pow-le-pow_right {n = 94} (omega arith) {i = i} {j = 8} (omega (arith, few)) in
    omega (arith, is, most)

pub place_fits : (place power digit : ℕ) → 93 * place + 94 ≤ 94 * power → digit ≤ 94 → power ≤ 6095689385410816 → place + digit * power < 2 ^ 64
place_fits place power digit low small few =
    let most : digit * power ≤ 94 * power = mul-le-mul_right power small in
    omega arith

pub ruleset place_steps = (place_more, power_more, low_more, few_powers, place_fits, all_breaks, list_all_more)
