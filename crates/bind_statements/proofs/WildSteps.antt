-- The wild bits of digits in 128 bits.
use Rattle.std.proofs.Common.{◌≡◌, ℕ, ◌+◌, ◌-◌, ◌*◌, ◌%◌, ◌<◌, ◌≤◌, cond, Bool, true, false, List, [], ◌∷◌, length, get_or, drop, ap, ◌∙◌, sym}
use Rattle.std.proofs.lemmas.Nat.{mul-mod_first}
use Rattle.std.proofs.Math.Nat.{mod-mod, add-mod, mod-eq_of_lt}
use Rattle.std.proofs.lemmas.List.{drop_all}
use Rattle.v_syntax.specs.Numbers.{is_hexadecimal, is_wild}
use Rattle.v_syntax.proofs.Digits.{drop_at}
use Rattle.v_binding.specs.Cases.{wild_from}
use Rattle.bind_statements.specs.WildDigits.{next_wild}

next_by-mod : (base v m : ℕ) (wild digit : Bool)
    → cond wild (v % m * base + (base - 1)) (cond digit (v % m * base) (v % m)) % m ≡ cond wild (v * base + (base - 1)) (cond digit (v * base) v) % m
next_by-mod base v m true digit =
    add-mod (v % m * base) (base - 1) m ∙ ap (λ x. (x + (base - 1) % m) % m) (mul-mod_first v base m) ∙ sym (add-mod (v * base) (base - 1) m)
next_by-mod base v m false true = mul-mod_first v base m
next_by-mod base v m false false = mod-mod v m

-- one digit more modulo m
next-mod : (base v byte m : ℕ) → next_wild base (v % m) byte % m ≡ next_wild base v byte % m
next-mod base v byte m = next_by-mod base v m (is_wild byte) (is_hexadecimal byte)

-- numbers that are the same modulo m
wild_from-same : (base v w m : ℕ) (digits : List ℕ) → v % m ≡ w % m → wild_from base v digits % m ≡ wild_from base w digits % m
wild_from-same base v w m [] same = same
wild_from-same base v w m (byte ∷ rest) same =
    wild_from-same base (next_wild base v byte) (next_wild base w byte) m rest
    (sym (next-mod base v byte m) ∙ ap (λ x. next_wild base x byte % m) same ∙ next-mod base w byte m)

-- the number with the digit at a place
pub wild_more-mod : (base wild next start : ℕ) (digits : List ℕ) (i m : ℕ) → i < length digits → next ≡ next_wild base wild (get_or digits i 0) % m
    → wild_from base wild (drop i digits) % m ≡ wild_from base start digits % m → wild_from base next (drop (i + 1) digits) % m ≡ wild_from base start digits % m
wild_more-mod base wild next start digits i m within is before =
    wild_from-same base next (next_wild base wild (get_or digits i 0)) m (drop (i + 1) digits) (ap (λ n. n % m) is ∙ mod-mod (next_wild base wild (get_or digits i 0)) m)
    ∙ sym (ap (λ ds. wild_from base wild ds % m) (drop_at digits i within)) ∙ before

-- behind the last digit
pub wild_done-mod : (base wild start : ℕ) (digits : List ℕ) (i m : ℕ) → length digits ≤ i → wild < m
    → wild_from base wild (drop i digits) % m ≡ wild_from base start digits % m → wild ≡ wild_from base start digits % m
wild_done-mod base wild start digits i m end below same =
    sym (mod-eq_of_lt below) ∙ sym (ap (λ ds. wild_from base wild ds % m) (drop_all i digits end)) ∙ same

pub ruleset wild_steps = (wild_more-mod, wild_done-mod)
