-- Bits that are added to a set.
use Rattle.std.proofs.Common.{ℕ, ◌≡◌, ◌<◌, ◌≤◌, ◌+◌, ◌-◌, ◌^◌, List, [], ◌∷◌, length, get_or, take, Result, Ok, Err, Bool, true, false, refl, sym, ◌∙◌, ap, subst, arith, eq-eqb, ◌⊎◌, inl, inr, bit_and, bit_or}
use Rattle.std.proofs.Math.ListN.{set}
use Rattle.std.specs.Int.{bit_not, w128}
use Rattle.std.specs.List.{list_any}
use Rattle.std.proofs.lemmas.List.Folds.{list_any-append}
use Rattle.loc_base.specs.declared.memory.NoMemory.{NoMemory}
use Rattle.loc_base.proofs.ShelfLists.{take-at}
use Rattle.std.specs.Prelude.{OnOk, ◌==◌, not, ◌&&◌, ◌||◌, nat_lt}
use Rattle.std.proofs.lemmas.Bool.{cases_eq}
use Rattle.std.proofs.lemmas.Bool.Decides.{nat_tests}
use Rattle.std.proofs.lemmas.List.{get_or-set_same, get_or-set_other, length-set, take_all}
use Rattle.loc_base.proofs.ShelfBools.{equal-false, or-false, or-assoc}
use Rattle.design_core.specs.Drives.{is_among}
use Rattle.design_core.specs.Valuation.{bit}
use Rattle.design_bits.specs.Masks.{Adds, has}
use Rattle.design_bits.proofs.Masks.{bit-or, bit-and, bit-not}

-- a set to which nothing was added
pub adds-none : (a : List ℕ) (t : ℕ → ℕ → Bool) → ((s b : ℕ) → s < length a → b < 128 → t s b ≡ false) → Adds a a t
adds-none a t none = record { long = refl; bits = λ s b below within. sym (ap (λ x. has a s b || x) (none s b below within) ∙ or-false (has a s b)) }

-- one addition after another
pub adds-both : (a b c : List ℕ) (t u : ℕ → ℕ → Bool) → Adds a b t → Adds b c u → Adds a c (λ s k. t s k || u s k)
adds-both a b c t u one other =
    record {
      long = other.long ∙ one.long;
      bits = λ s k below within.
          other.bits s k (subst (λ n. s < n) (sym one.long) below) within
          ∙ ap (λ x. x || u s k) (one.bits s k below within)
          ∙ or-assoc (has a s k) (t s k) (u s k);
    }

-- what is added, said in another way
pub adds-same : (a b : List ℕ) (t u : ℕ → ℕ → Bool) → Adds a b t → ((s k : ℕ) → s < length a → k < 128 → t s k ≡ u s k) → Adds a b u
adds-same a b t u one same =
    record { long = one.long; bits = λ s k below within. one.bits s k below within ∙ ap (λ x. has a s k || x) (same s k below within) }

-- bits of one signal
pub adds-one : (a : List ℕ) (signal mask : ℕ) → signal < length a → Adds a (set a signal (bit_or (get_or a signal 0) mask)) (λ s b. signal == s && bit mask b)
adds-one a signal mask within =
    record { long = length-set a signal (bit_or (get_or a signal 0) mask); bits = λ s b below inside. at s b (cases_eq s signal) }
  where
    at : (s b : ℕ) → (s ≡ signal) ⊎ (s ≡ signal → ⊥) → has (set a signal (bit_or (get_or a signal 0) mask)) s b ≡ (has a s b || (signal == s && bit mask b))
    at s b (inl same) =
        ap (λ n. bit n b) (ap (λ q. get_or (set a signal (bit_or (get_or a signal 0) mask)) q 0) same ∙ get_or-set_same a signal (bit_or (get_or a signal 0) mask) 0 within)
        ∙ bit-or (get_or a signal 0) mask b
        ∙ ap (λ q. bit (get_or a q 0) b || bit mask b) (sym same)
        ∙ ap (λ x. has a s b || (x && bit mask b)) (sym (eq-eqb signal s (sym same)))
    at s b (inr apart) =
        ap (λ n. bit n b) (get_or-set_other a signal s (bit_or (get_or a signal 0) mask) 0 apart)
        ∙ sym (ap (λ x. has a s b || (x && bit mask b)) (equal-false signal s (λ e. apart (sym e))) ∙ or-false (has a s b))

-- one step of a loop that adds bits of one signal
pub adds-step : (a b c : List ℕ) (t u : ℕ → ℕ → Bool) (signal mask : ℕ) → Adds a b t → signal < length b → c ≡ set b signal (bit_or (get_or b signal 0) mask)
    → ((s k : ℕ) → k < 128 → (t s k || (signal == s && bit mask k)) ≡ u s k) → Adds a c u
adds-step a b c t u signal mask before within is same =
    subst (λ x. Adds a x u) (sym is)
    (adds-same a (set b signal (bit_or (get_or b signal 0) mask)) (λ s k. t s k || (signal == s && bit mask k)) u
    (adds-both a b (set b signal (bit_or (get_or b signal 0) mask)) t (λ s k. signal == s && bit mask k) before (adds-one b signal mask within))
    (λ s k below inside. same s k inside))

-- equality, turned
pub equal-turned : (a b : ℕ) → (a == b) ≡ (b == a)
equal-turned a b = grind (arith, nat_tests)

-- one signal more of a region
among-more : (first signal s : ℕ) → first ≤ signal → (is_among first (signal - first) s || signal == s) ≡ is_among first (signal + 1 - first) s
among-more first signal s ordered = grind (arith, nat_tests)

spread : (a e m n : Bool) → (((a && m) && n) || (e && (m && n))) ≡ (((a || e) && m) && n)
spread true true true true = refl
spread true true true false = refl
spread true true false n = refl
spread true false m n = or-false (m && n)
spread false true true n = refl
spread false true false n = refl
spread false false m n = refl

pub region-more : (first signal mask s b : ℕ) (sure : List ℕ) → first ≤ signal → b < 128 → get_or sure signal 0 < 2 ^ 128
    → (((is_among first (signal - first) s && bit mask b) && not (has sure s b)) || (signal == s && bit (bit_and mask (bit_not w128 (get_or sure signal 0))) b))
    ≡ ((is_among first (signal + 1 - first) s && bit mask b) && not (has sure s b))
region-more first signal mask s b sure ordered below fits = at (cases_eq s signal)
  where
    cut : bit (bit_and mask (bit_not w128 (get_or sure signal 0))) b ≡ (bit mask b && not (bit (get_or sure signal 0) b))
    cut = bit-and mask (bit_not w128 (get_or sure signal 0)) b ∙ ap (λ x. bit mask b && x) (bit-not (get_or sure signal 0) b fits below)

    at : (s ≡ signal) ⊎ (s ≡ signal → ⊥)
        → (((is_among first (signal - first) s && bit mask b) && not (has sure s b)) || (signal == s && bit (bit_and mask (bit_not w128 (get_or sure signal 0))) b))
        ≡ ((is_among first (signal + 1 - first) s && bit mask b) && not (has sure s b))
    at (inl same) =
        ap (λ x. ((is_among first (signal - first) s && bit mask b) && not (has sure s b)) || (signal == s && x)) (cut ∙ ap (λ q. bit mask b && not (bit (get_or sure q 0) b)) (sym same))
        ∙ spread (is_among first (signal - first) s) (signal == s) (bit mask b) (not (has sure s b))
        ∙ ap (λ x. (x && bit mask b) && not (has sure s b)) (among-more first signal s ordered)
    at (inr apart) =
        let other = equal-false signal s (λ e. apart (sym e)) in
        ap (λ x. ((is_among first (signal - first) s && bit mask b) && not (has sure s b)) || (x && bit (bit_and mask (bit_not w128 (get_or sure signal 0))) b)) other
        ∙ or-false ((is_among first (signal - first) s && bit mask b) && not (has sure s b))
        ∙ ap (λ x. (x && bit mask b) && not (has sure s b)) (sym (or-false (is_among first (signal - first) s)) ∙ ap (λ x. is_among first (signal - first) s || x) (sym other) ∙ among-more first signal s ordered)

-- one signal more of those that are added whole
pub whole-more : (first signal s b mask : ℕ) (widths : ℕ → ℕ) → first ≤ signal → bit mask b ≡ nat_lt b (widths signal)
    → ((is_among first (signal - first) s && nat_lt b (widths s)) || (signal == s && bit mask b)) ≡ (is_among first (signal + 1 - first) s && nat_lt b (widths s))
whole-more first signal s b mask widths ordered is = at (cases_eq s signal)
  where
    joined : (a e m : Bool) → ((a && m) || (e && m)) ≡ ((a || e) && m)
    joined true true true = refl
    joined true true false = refl
    joined true false m = or-false m
    joined false e m = refl

    at : (s ≡ signal) ⊎ (s ≡ signal → ⊥)
        → ((is_among first (signal - first) s && nat_lt b (widths s)) || (signal == s && bit mask b)) ≡ (is_among first (signal + 1 - first) s && nat_lt b (widths s))
    at (inl same) =
        ap (λ x. (is_among first (signal - first) s && nat_lt b (widths s)) || (signal == s && x)) (is ∙ ap (λ q. nat_lt b (widths q)) (sym same))
        ∙ joined (is_among first (signal - first) s) (signal == s) (nat_lt b (widths s))
        ∙ ap (λ x. x && nat_lt b (widths s)) (among-more first signal s ordered)
    at (inr apart) =
        let other = equal-false signal s (λ e. apart (sym e)) in
        ap (λ x. (is_among first (signal - first) s && nat_lt b (widths s)) || (x && bit mask b)) other
        ∙ or-false (is_among first (signal - first) s && nat_lt b (widths s))
        ∙ ap (λ x. x && nat_lt b (widths s)) (sym (or-false (is_among first (signal - first) s)) ∙ ap (λ x. is_among first (signal - first) s || x) (sym other) ∙ among-more first signal s ordered)

-- what is added of each of a list
pub adds-more : {X : Type 0} (a b c : List ℕ) (t : X → ℕ → ℕ → Bool) (xs : List X) (i : ℕ) (x : X) → i < length xs → x ≡ get_or xs i x
    → Adds a b (λ s k. list_any (λ y. t y s k) (take i xs)) → Adds b c (t x) → Adds a c (λ s k. list_any (λ y. t y s k) (take (i + 1) xs))
adds-more a b c t xs i x below is before one =
    adds-same a c (λ s k. list_any (λ y. t y s k) (take i xs) || t x s k) (λ s k. list_any (λ y. t y s k) (take (i + 1) xs))
    (adds-both a b c (λ s k. list_any (λ y. t y s k) (take i xs)) (t x) before one)
    (λ s k _ _.
    sym (ap (list_any (λ y. t y s k)) (take-at xs i x below is) ∙ list_any-append (λ y. t y s k) (take i xs) (x ∷ []) ∙ ap (λ v. list_any (λ y. t y s k) (take i xs) || v) (or-false (t x s k))))

pub adds-all : {X : Type 0} (a b : List ℕ) (t : X → ℕ → ℕ → Bool) (xs : List X) (i : ℕ) → length xs ≤ i → Adds a b (λ s k. list_any (λ y. t y s k) (take i xs)) → Adds a b (λ s k. list_any (λ y. t y s k) xs)
adds-all a b t xs i past before = subst (λ ys. Adds a b (λ s k. list_any (λ y. t y s k) ys)) (take_all i xs past) before

-- what holds at Ok
pub on-ok : (r : Result (Unit {0}) NoMemory) (P Q : Type 0) → (P → Q) → OnOk r P → OnOk r Q
on-ok (Ok v) P Q f p = f p
on-ok (Err e) P Q f p = p
