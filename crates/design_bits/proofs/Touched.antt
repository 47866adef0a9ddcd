-- The signals that a set has bits of, one after the other.
use Rattle.std.proofs.Common.{ℕ, zero, suc, ◌≡◌, ◌≢◌, ◌<◌, ◌≤◌, ◌+◌, List, [], ◌∷◌, length, get_or, take, Bool, true, false, refl, sym, ◌∙◌, ap, subst, arith, eq-eqb, ◌⊎◌, inl, inr}
use Rattle.std.specs.Prelude.{◌==◌, ◌&&◌, ◌||◌, Contains}
use Rattle.std.specs.List.{list_any}
use Rattle.std.proofs.lemmas.Bool.{false≢true, cases_eq}
use Rattle.std.proofs.lemmas.List.{take_all}
use Rattle.std.proofs.lemmas.List.Folds.{list_any-append}
use Rattle.loc_base.proofs.ShelfBools.{equal-false, or-false, and-false}
use Rattle.loc_base.proofs.ShelfLists.{take-at}
use Rattle.design_core.specs.Valuation.{bit}
use Rattle.design_bits.specs.Masks.{Adds, has}
use Rattle.design_bits.proofs.Masks.{bit-zero}
use Rattle.design_bits.proofs.Added.{adds-same}

-- one signal more of a list
pub join-more : (xs : List ℕ) (i signal s : ℕ) (g : ℕ → Bool) (here : Bool) → i < length xs → signal ≡ get_or xs i signal → here ≡ g signal
    → ((list_any (λ t. t == s) (take i xs) && g s) || (signal == s && here)) ≡ (list_any (λ t. t == s) (take (i + 1) xs) && g s)
join-more xs i signal s g here below is value = at (cases_eq signal s)
  where
    more : list_any (λ t. t == s) (take (i + 1) xs) ≡ (list_any (λ t. t == s) (take i xs) || signal == s)
    more =
        ap (list_any (λ t. t == s)) (take-at xs i signal below is) ∙ list_any-append (λ t. t == s) (take i xs) (signal ∷ [])
        ∙ ap (λ x. list_any (λ t. t == s) (take i xs) || x) (or-false (signal == s))

    joined : (a e m : Bool) → ((a && m) || (e && m)) ≡ ((a || e) && m)
    joined true true true = refl
    joined true true false = refl
    joined true false m = or-false m
    joined false e m = refl

    at : (signal ≡ s) ⊎ (signal ≡ s → ⊥) → ((list_any (λ t. t == s) (take i xs) && g s) || (signal == s && here)) ≡ (list_any (λ t. t == s) (take (i + 1) xs) && g s)
    at (inl same) =
        ap (λ x. (list_any (λ t. t == s) (take i xs) && g s) || (signal == s && x)) (value ∙ ap g same)
        ∙ joined (list_any (λ t. t == s) (take i xs)) (signal == s) (g s) ∙ ap (λ x. x && g s) (sym more)
    at (inr apart) =
        let other = equal-false signal s apart in
        ap (λ x. (list_any (λ t. t == s) (take i xs) && g s) || (x && here)) other ∙ or-false (list_any (λ t. t == s) (take i xs) && g s)
        ∙ ap (λ x. x && g s) (sym (or-false (list_any (λ t. t == s) (take i xs))) ∙ ap (λ x. list_any (λ t. t == s) (take i xs) || x) (sym other) ∙ sym more)

or_right : (a b : Bool) → b ≡ true → (a || b) ≡ true
or_right true b h = refl
or_right false b h = h

-- a member is in the list
pub listed : (xs : List ℕ) (s : ℕ) → Contains xs s → list_any (λ t. t == s) xs ≡ true
listed [] s (k, below, is) = absurd (omega (arith, below))
listed (x ∷ xs) s (zero, below, is) = ap (λ v. v || list_any (λ t. t == s) xs) (eq-eqb x s is)
listed (x ∷ xs) s (suc k, below, is) = or_right (x == s) (list_any (λ t. t == s) xs) (listed xs s (k, omega arith, is))

-- all signals that have a bit were gone through
pub join-all : (a c own xs : List ℕ) (i : ℕ) (g : ℕ → ℕ → Bool) → length xs ≤ i → ((s : ℕ) → get_or own s 0 ≢ 0 → Contains xs s)
    → ((s b : ℕ) → g s b ≡ true → has own s b ≡ true)
    → Adds a c (λ s b. list_any (λ t. t == s) (take i xs) && g s b) → Adds a c g
join-all a c own xs i g past all within before =
    adds-same a c (λ s b. list_any (λ t. t == s) (take i xs) && g s b) g before
    (λ s b _ _. at s b (g s b) refl)
  where
    some : (s b : ℕ) → g s b ≡ true → list_any (λ t. t == s) (take i xs) ≡ true
    some s b is =
        ap (list_any (λ t. t == s)) (take_all i xs past)
        ∙ listed xs s (all s (λ zero_mask. false≢true (sym (ap (λ n. bit n b) zero_mask ∙ bit-zero b) ∙ within s b is)))

    at : (s b : ℕ) (v : Bool) → g s b ≡ v → (list_any (λ t. t == s) (take i xs) && g s b) ≡ g s b
    at s b true is = ap (λ x. x && g s b) (some s b is)
    at s b false is = ap (λ x. list_any (λ t. t == s) (take i xs) && x) is ∙ and-false (list_any (λ t. t == s) (take i xs)) ∙ sym is

-- a place of a list
pub get_or-same : (xs : List ℕ) (i d : ℕ) → i < length xs → get_or xs i (get_or xs i d) ≡ get_or xs i d
get_or-same [] i d below = absurd (omega (arith, below))
get_or-same (x ∷ xs) zero d below = refl
get_or-same (x ∷ xs) (suc i) d below = get_or-same xs i d (omega (arith, below))

-- what a set has that was empty
pub owned : (cleared own : List ℕ) (o : ℕ → ℕ → Bool) (n : ℕ) → length cleared ≡ n → ((s : ℕ) → get_or cleared s 0 ≡ 0) → Adds cleared own o
    → (s b : ℕ) → s < n → b < 128 → has own s b ≡ o s b
owned cleared own o n long none adds s b below inside =
    adds.bits s b (subst (λ k. s < k) (sym long) below) inside ∙ ap (λ x. x || o s b) (ap (λ m. bit m b) (none s) ∙ bit-zero b)
