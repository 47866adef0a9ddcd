-- Marks that are put at signals.
use Rattle.std.proofs.Common.{ℕ, ◌≡◌, ◌<◌, ◌≤◌, ◌+◌, ◌-◌, List, [], ◌∷◌, length, get_or, take, Bool, true, false, refl, sym, ◌∙◌, ap, subst, arith, eq-eqb, ◌⊎◌, inl, inr}
use Rattle.std.proofs.Math.ListN.{set}
use Rattle.std.specs.List.{list_any}
use Rattle.std.specs.Prelude.{◌==◌, ◌||◌, if◌then◌else◌}
use Rattle.std.proofs.lemmas.List.Folds.{list_any-append}
use Rattle.std.proofs.lemmas.Bool.{cases_eq}
use Rattle.std.proofs.lemmas.Bool.Decides.{nat_tests}
use Rattle.std.proofs.lemmas.List.{get_or-set_same, get_or-set_other, length-set, take_all}
use Rattle.loc_base.proofs.ShelfBools.{equal-false, or-false}
use Rattle.loc_base.proofs.ShelfLists.{take-at}
use Rattle.design_core.specs.Drives.{is_among}
use Rattle.v_synth.specs.Rows.{Marked}

pub marked-none : (mark : Bool) (a : List Bool) (t : ℕ → Bool) → ((s : ℕ) → s < length a → t s ≡ false) → Marked mark a a t
marked-none mark a t none = record { long = refl; each = λ s within. sym (ap (λ x. if x then mark else get_or a s false) (none s within)) }

-- what is marked, said in another way
pub marked-same : (mark : Bool) (a b : List Bool) (t u : ℕ → Bool) → Marked mark a b t → ((s : ℕ) → s < length a → t s ≡ u s) → Marked mark a b u
marked-same mark a b t u m same =
    record { long = m.long; each = λ s within. m.each s within ∙ ap (λ x. if x then mark else get_or a s false) (same s within) }

-- one after another
pub marked-both : (mark : Bool) (a b c : List Bool) (t u : ℕ → Bool) → Marked mark a b t → Marked mark b c u → Marked mark a c (λ s. t s || u s)
marked-both mark a b c t u one other =
    record {
      long = other.long ∙ one.long;
      each = λ s within.
          other.each s (subst (λ n. s < n) (sym one.long) within) ∙ ap (λ x. if u s then mark else x) (one.each s within)
          ∙ both (t s) (u s) (get_or a s false);
    }
  where
    both : (x y z : Bool) → (if y then mark else (if x then mark else z)) ≡ (if x || y then mark else z)
    both true true z = refl
    both true false z = refl
    both false true z = refl
    both false false z = refl

-- one signal
pub marked-one : (mark : Bool) (a : List Bool) (k : ℕ) → k < length a → Marked mark a (set a k mark) (λ s. s == k)
marked-one mark a k within = record { long = length-set a k mark; each = λ s below. at s (cases_eq s k) }
  where
    at : (s : ℕ) → (s ≡ k) ⊎ (s ≡ k → ⊥) → get_or (set a k mark) s false ≡ (if s == k then mark else get_or a s false)
    at s (inl same) =
        ap (λ q. get_or (set a k mark) q false) same ∙ get_or-set_same a k mark false within
        ∙ sym (ap (λ x. if x then mark else get_or a s false) (eq-eqb s k same))
    at s (inr apart) =
        get_or-set_other a k s mark false apart
        ∙ sym (ap (λ x. if x then mark else get_or a s false) (equal-false s k apart))

pub run-more : (first k s : ℕ) → first ≤ k → (is_among first (k - first) s || s == k) ≡ is_among first (k + 1 - first) s
run-more first k s ordered = grind (arith, nat_tests)

pub run-none : (first s : ℕ) → is_among first (first - first) s ≡ false
run-none first s = grind (arith, nat_tests)

pub run-next : (mark : Bool) (a b c : List Bool) (first k : ℕ) → Marked mark a b (is_among first (k - first)) → first ≤ k → k < length b → c ≡ set b k mark
    → Marked mark a c (is_among first (k + 1 - first))
run-next mark a b c first k before ordered within is =
    subst (λ x. Marked mark a x (is_among first (k + 1 - first))) (sym is)
    (marked-same mark a (set b k mark) (λ s. is_among first (k - first) s || s == k) (is_among first (k + 1 - first))
    (marked-both mark a b (set b k mark) (is_among first (k - first)) (λ s. s == k) before (marked-one mark b k within))
    (λ s below. run-more first k s ordered))

pub run-end : (first count k n s : ℕ) → s < n → (first + count ≤ k) ⊎ (n ≤ k) → k ≤ first + count → is_among first (k - first) s ≡ is_among first count s
run-end first count k n s within (inl past) most = grind (arith, nat_tests)
run-end first count k n s within (inr past) most = grind (arith, nat_tests)

pub one-named : (first s : ℕ) → is_among first 1 s ≡ (s == first)
one-named first s = grind (arith, nat_tests)

pub marked-single : (mark : Bool) (a b : List Bool) (signal : ℕ) → Marked mark a b (is_among signal 1) → Marked mark a b (λ s. s == signal)
marked-single mark a b signal m = marked-same mark a b (is_among signal 1) (λ s. s == signal) m (λ s _. one-named signal s)

pub ruleset part_steps = (marked-single)

pub ruleset run_steps = (run-next)

-- ---- lists

any-next : {X : Type 0} (test : X → Bool) (xs : List X) (i : ℕ) (x : X) → i < length xs → x ≡ get_or xs i x → (list_any test (take i xs) || test x) ≡ list_any test (take (i + 1) xs)
any-next test xs i x within is =
    ap (λ b. list_any test (take i xs) || b) (sym (or-false (test x))) ∙ sym (list_any-append test (take i xs) (x ∷ [])) ∙ ap (list_any test) (sym (take-at xs i x within is))

pub list-next : {X : Type 0} (mark : Bool) (test : ℕ → X → Bool) (a b c : List Bool) (xs : List X) (i : ℕ) (x : X) → i < length xs → x ≡ get_or xs i x
    → Marked mark a b (λ s. list_any (test s) (take i xs)) → Marked mark b c (λ s. test s x) → Marked mark a c (λ s. list_any (test s) (take (i + 1) xs))
list-next mark test a b c xs i x within is before one =
    marked-same mark a c (λ s. list_any (test s) (take i xs) || test s x) (λ s. list_any (test s) (take (i + 1) xs))
    (marked-both mark a b c (λ s. list_any (test s) (take i xs)) (λ s. test s x) before one)
    (λ s _. any-next (test s) xs i x within is)

pub list-end : {X : Type 0} (mark : Bool) (test : ℕ → X → Bool) (a b : List Bool) (xs : List X) (i : ℕ) → length xs ≤ i
    → Marked mark a b (λ s. list_any (test s) (take i xs)) → Marked mark a b (λ s. list_any (test s) xs)
list-end mark test a b xs i past m = marked-same mark a b (λ s. list_any (test s) (take i xs)) (λ s. list_any (test s) xs) m (λ s _. ap (list_any (test s)) (take_all i xs past))

pub ruleset list_steps = (list-next, list-end)
