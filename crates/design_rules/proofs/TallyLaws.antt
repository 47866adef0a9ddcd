-- Bits that are counted entry by entry.
use Rattle.std.proofs.Common.{ℕ, ◌≡◌, ◌<◌, ◌+◌, List, [], ◌∷◌, length, get_or, take, Bool, true, false, cond, refl, sym, ◌∙◌, ap, subst, arith}
use Rattle.std.specs.Prelude.{◌&&◌, ◌||◌, nat_lt, nat_le, count_by, if◌then◌else◌}
use Rattle.std.proofs.lemmas.Bool.{lt-ltb}
use Rattle.std.proofs.lemmas.Bool.Decides.{nat_tests}
use Rattle.loc_base.proofs.ShelfBools.{or-false}
use Rattle.loc_base.proofs.ShelfLists.{take-at}
use Rattle.design_core.specs.Valuation.{bit}
use Rattle.design_bits.specs.Masks.{Adds, has}
use Rattle.design_bits.proofs.Masks.{bit-zero, bit-ones}
use Rattle.std.proofs.lemmas.List.Sums.{sum_by-append}
use Rattle.design_bits.proofs.Touched.{owned}
use Rattle.design_rules.proofs.OneDriverLaws.{count_by-cons}
use Rattle.design_rules.specs.Tallies.{IsTallied}

-- one entry more
count-once : (input : Bool) (o : Bool) (t : ℕ) → ((input || nat_lt 0 t) || o) ≡ (input || nat_lt 0 (t + cond o 1 0))
count-once true o t = refl
count-once false true t = grind (arith, nat_tests)
count-once false false t = or-false (nat_lt 0 t) ∙ ap (nat_lt 0) (omega arith)

count-twice : (input : Bool) (o : Bool) (t : ℕ) → (nat_le (if input then 1 else 2) t || ((input || nat_lt 0 t) && o)) ≡ nat_le (if input then 1 else 2) (t + cond o 1 0)
count-twice true true t = grind (arith, nat_tests)
count-twice true false t = or-false (nat_le 1 t) ∙ ap (nat_le 1) (omega arith)
count-twice false true t = grind (arith, nat_tests)
count-twice false false t = dropped (nat_lt 0 t) (nat_le 2 t) ∙ ap (nat_le 2) (omega arith)
  where
    dropped : (x y : Bool) → (y || (x && false)) ≡ y
    dropped true y = or-false y
    dropped false y = or-false y

pub tallied-step : (input : ℕ → Bool) (times more : ℕ → ℕ → ℕ) (n : ℕ) (once twice once' twice' own : List ℕ) (o : ℕ → ℕ → Bool) → IsTallied input times n once twice
    → Adds twice twice' (λ s b. has once s b && has own s b) → Adds once once' (λ s b. has own s b)
    → ((s b : ℕ) → s < n → b < 128 → has own s b ≡ o s b) → ((s b : ℕ) → more s b ≡ times s b + cond (o s b) 1 0)
    → IsTallied input more n once' twice'
tallied-step input times more n once twice once' twice' own o t two one owned count =
    record {
      once_long = one.long ∙ t.once_long;
      twice_long = two.long ∙ t.twice_long;
      once_bits = λ s b below inside.
          one.bits s b (subst (λ k. s < k) (sym t.once_long) below) inside
          ∙ ap (λ x. x || has own s b) (t.once_bits s b below inside)
          ∙ ap (λ x. (input s || nat_lt 0 (times s b)) || x) (owned s b below inside)
          ∙ count-once (input s) (o s b) (times s b) ∙ ap (λ k. input s || nat_lt 0 k) (sym (count s b));
      twice_bits = λ s b below inside.
          two.bits s b (subst (λ k. s < k) (sym t.twice_long) below) inside
          ∙ ap (λ x. x || (has once s b && has own s b)) (t.twice_bits s b below inside)
          ∙ ap (λ x. nat_le (if input s then 1 else 2) (times s b) || (x && has own s b)) (t.once_bits s b below inside)
          ∙ ap (λ x. nat_le (if input s then 1 else 2) (times s b) || ((input s || nat_lt 0 (times s b)) && x)) (owned s b below inside)
          ∙ count-twice (input s) (o s b) (times s b) ∙ ap (nat_le (if input s then 1 else 2)) (sym (count s b));
    }

-- one more of a list
pub count_by-more : {X : Type 0} (test : X → Bool) (xs : List X) (i : ℕ) (x : X) → i < length xs → x ≡ get_or xs i x
    → count_by test (take (i + 1) xs) ≡ count_by test (take i xs) + cond (test x) 1 0
count_by-more test xs i x below is =
    ap (count_by test) (take-at xs i x below is) ∙ sum_by-append (λ y. cond (test y) 1 0) (take i xs) (x ∷ [])
    ∙ ap (λ k. count_by test (take i xs) + k) (count_by-cons test x [] ∙ omega arith)

-- one entry is counted
pub entry-step : (input : ℕ → Bool) (times more : ℕ → ℕ → ℕ) (n : ℕ) (once twice once' twice' cleared own : List ℕ) (o : ℕ → ℕ → Bool) → IsTallied input times n once twice
    → length cleared ≡ n → ((s : ℕ) → get_or cleared s 0 ≡ 0) → Adds cleared own o
    → Adds twice twice' (λ s b. has once s b && has own s b) → Adds once once' (λ s b. has own s b)
    → ((s b : ℕ) → more s b ≡ times s b + cond (o s b) 1 0)
    → (length own ≡ n) × IsTallied input more n once' twice'
entry-step input times more n once twice once' twice' cleared own o t long none adds two one count =
    (adds.long ∙ long, tallied-step input times more n once twice once' twice' own o t two one (owned cleared own o n long none adds) count)

pub all-bits : (b : ℕ) → b < 128 → bit 340282366920938463463374607431768211455 b ≡ true
all-bits b below = bit-ones 128 b ∙ lt-ltb b 128 below

pub ruleset input_bits = (all-bits, bit-zero)
