-- The first of two numbers that have properties.
use Rattle.std.proofs.Common.{ℕ, zero, suc, ◌≡◌, ◌≢◌, ◌<◌, ◌≤◌, ◌+◌, List, [], ◌∷◌, length, get_or, take, Bool, true, false, refl, sym, subst, ◌∙◌, ap, ap₂, arith, Option, Some, None, ◌⊎◌, inl, inr}
use Rattle.std.specs.Prelude.{◌==◌, ◌&&◌, ◌||◌, not, min, if◌then◌else◌, Result, Ok, Err, IfOk}
use Rattle.std.specs.Option.{option_map_or}
use Rattle.std.specs.List.{list_any}
use Rattle.std.proofs.Math.Nat.{min-eq_left, min-eq_right, min-le_left}
use Rattle.std.proofs.lemmas.Bool.{false≢true, and_parts, or_cases, eq-eqb, cases_lt, cases_eq}
use Rattle.std.proofs.lemmas.List.{take_all}
use Rattle.std.proofs.lemmas.List.Folds.{list_any-append}
use Rattle.loc_base.proofs.ShelfBools.{or-false, or-true, and-false, equal-true, equal-false, not-true}
use Rattle.loc_base.proofs.ShelfLists.{take-at}
use Rattle.v_binding.specs.Starts.{Initial}
use Rattle.design_rules.specs.First.{IsFirst}
use Rattle.bind_rules.specs.Lower.{lower_of, is_this}
use Rattle.bind_rules.specs.Rules.{is_initial}

-- ---- an answer that is not want of memory
pub if-ok : {A E : Type 0} (r : Result A E) (P Q : A → Type 0) → ((x : A) → P x → Q x) → IfOk r P → IfOk r Q
if-ok (Ok x) P Q more is = more x is
if-ok (Err e) P Q more is = tt

-- ---- either of two
no-either : (p q : ℕ → Bool) (k : ℕ) → (p k ≡ true → ⊥) → (q k ≡ true → ⊥) → (p k || q k) ≡ true → ⊥
no-either p q k one other some = at (or_cases (p k) (q k) some)
  where
    at : (p k ≡ true) ⊎ (q k ≡ true) → ⊥
    at (inl here) = one here
    at (inr here) = other here

or-one : (a b : Bool) → a ≡ true → (a || b) ≡ true
or-one true b is = refl
or-one false b is = absurd (false≢true is)

or-other : (a b : Bool) → b ≡ true → (a || b) ≡ true
or-other a b is = ap (λ x. a || x) is ∙ or-true a

min-low : (n m : ℕ) → n ≤ m → min n m ≡ n
min-low n m low = min-eq_left low

min-high : (n m : ℕ) → m < n → min n m ≡ m
min-high n m high = min-eq_right (omega (arith, high))

pub either-first : (p q : ℕ → Bool) (one other : Option ℕ) → IsFirst (λ s. p s ≡ true) one → IsFirst (λ s. q s ≡ true) other
    → IsFirst (λ s. (p s || q s) ≡ true) (lower_of one other)
either-first p q None None first second = λ k. no-either p q k (first k) (second k)
either-first p q None (Some m) first second = (or-other (p m) (q m) second.0, λ k below. no-either p q k (first k) (second.1 k below))
either-first p q (Some n) None first second = (or-one (p n) (q n) first.0, λ k below. no-either p q k (first.1 k below) (second k))
either-first p q (Some n) (Some m) first second = at (cases_lt m n)
  where
    at : (m < n) ⊎ (n ≤ m) → IsFirst (λ s. (p s || q s) ≡ true) (Some (min n m))
    at (inl high) =
        subst (λ k. IsFirst (λ s. (p s || q s) ≡ true) (Some k)) (sym (min-high n m high))
        (or-other (p m) (q m) second.0, λ k below. no-either p q k (first.1 k (omega (arith, below, high))) (second.1 k below))
    at (inr low) =
        subst (λ k. IsFirst (λ s. (p s || q s) ≡ true) (Some k)) (sym (min-low n m low))
        (or-one (p n) (q n) first.0, λ k below. no-either p q k (first.1 k below) (second.1 k (omega (arith, below, low))))

-- the lower of two has the first property exactly where it is the first of those that have it
pub first-this : (p : ℕ → Bool) (one other : Option ℕ) (s : ℕ) → IsFirst (λ k. p k ≡ true) one → lower_of one other ≡ Some s → p s ≡ is_this one s
first-this p None other s first is = at (p s) refl
  where
    at : (b : Bool) → p s ≡ b → p s ≡ false
    at true here = absurd (first s here)
    at false here = here
first-this p (Some n) None s first is =
    let same : n ≡ s = cc in ap p (sym same) ∙ first.0 ∙ sym (eq-eqb n s same)
first-this p (Some n) (Some m) s first is = at (cases_eq n s)
  where
    lower : min n m ≡ s
    lower = cc

    at : (n ≡ s) ⊎ (n ≡ s → ⊥) → p s ≡ (n == s)
    at (inl same) = ap p (sym same) ∙ first.0 ∙ sym (eq-eqb n s same)
    at (inr apart) = below (p s) refl ∙ sym (equal-false n s apart)
      where
        less : s < n
        less = under (cases_lt s n)
          where
            under : (s < n) ⊎ (n ≤ s) → s < n
            under (inl low) = low
            under (inr high) = absurd (apart (omega (arith, high, lower, min-le_left n m)))

        below : (b : Bool) → p s ≡ b → p s ≡ false
        below true here = absurd (first.1 s less here)
        below false here = here

-- ---- initial blocks
-- of the first ones, one assigns a signal that is no variable
abbrev pub is_set_among : (ℕ → Bool) → List Initial → ℕ → Bool
is_set_among variable list s = not (variable s) && list_any (is_initial s) list

alone-first : (n : ℕ) → IsFirst (λ s. (n == s) ≡ true) (Some n)
alone-first n = (eq-eqb n n refl, λ k below same. let eq : n ≡ k = equal-true n k same in absurd (omega (arith, below, eq)))

any-more : (s : ℕ) (list : List Initial) (i : ℕ) (x : Initial) → i < length list → x ≡ get_or list i x
    → list_any (is_initial s) (take (i + 1) list) ≡ (list_any (is_initial s) (take i list) || x.start.signal == s)
any-more s list i x below is =
    ap (list_any (is_initial s)) (take-at list i x below is) ∙ list_any-append (is_initial s) (take i list) (x ∷ [])
    ∙ ap (λ b. list_any (is_initial s) (take i list) || b) (or-false (x.start.signal == s))

spread : (v a b : Bool) → (v && (a || b)) ≡ ((v && a) || (v && b))
spread true a b = refl
spread false a b = refl

same-first : (p q : ℕ → Bool) (found : Option ℕ) → ((s : ℕ) → p s ≡ q s) → IsFirst (λ s. p s ≡ true) found → IsFirst (λ s. q s ≡ true) found
same-first p q None same first = λ k is. first k (same k ∙ is)
same-first p q (Some n) same first = (sym (same n) ∙ first.0, λ k below is. first.1 k below (same k ∙ is))

-- one that assigns a signal that is no variable
pub set-here : (variable : ℕ → Bool) (list : List Initial) (i : ℕ) (x : Initial) (found : Option ℕ) → i < length list → x ≡ get_or list i x → variable x.start.signal ≡ false
    → IsFirst (λ s. is_set_among variable (take i list) s ≡ true) found
    → IsFirst (λ s. is_set_among variable (take (i + 1) list) s ≡ true) (lower_of found (Some x.start.signal))
set-here variable list i x found below is net first =
    same-first (λ s. is_set_among variable (take i list) s || x.start.signal == s) (is_set_among variable (take (i + 1) list)) (lower_of found (Some x.start.signal))
    (λ s. same s (cases_eq x.start.signal s))
    (either-first (is_set_among variable (take i list)) (λ s. x.start.signal == s) found (Some x.start.signal) first (alone-first x.start.signal))
  where
    same : (s : ℕ) → (x.start.signal ≡ s) ⊎ (x.start.signal ≡ s → ⊥)
        → (is_set_among variable (take i list) s || x.start.signal == s) ≡ is_set_among variable (take (i + 1) list) s
    same s (inl eq) =
        let own : (x.start.signal == s) ≡ true = eq-eqb x.start.signal s eq in
        let free : not (variable s) ≡ true = ap not (ap variable (sym eq) ∙ net) in
        ap (λ b. is_set_among variable (take i list) s || b) own ∙ or-true (is_set_among variable (take i list) s)
        ∙ sym (ap₂ (λ v a. v && a) free (any-more s list i x below is ∙ ap (λ b. list_any (is_initial s) (take i list) || b) own ∙ or-true (list_any (is_initial s) (take i list))))
    same s (inr apart) =
        let other : (x.start.signal == s) ≡ false = equal-false x.start.signal s apart in
        ap (λ b. is_set_among variable (take i list) s || b) other ∙ or-false (is_set_among variable (take i list) s)
        ∙ sym (ap (λ a. not (variable s) && a) (any-more s list i x below is ∙ ap (λ b. list_any (is_initial s) (take i list) || b) other ∙ or-false (list_any (is_initial s) (take i list))))

-- one that assigns a variable
pub set-past : (variable : ℕ → Bool) (list : List Initial) (i : ℕ) (x : Initial) (found : Option ℕ) → i < length list → x ≡ get_or list i x → variable x.start.signal ≡ true
    → IsFirst (λ s. is_set_among variable (take i list) s ≡ true) found → IsFirst (λ s. is_set_among variable (take (i + 1) list) s ≡ true) found
set-past variable list i x found below is own first =
    same-first (is_set_among variable (take i list)) (is_set_among variable (take (i + 1) list)) found (λ s. same s (cases_eq x.start.signal s)) first
  where
    same : (s : ℕ) → (x.start.signal ≡ s) ⊎ (x.start.signal ≡ s → ⊥) → is_set_among variable (take i list) s ≡ is_set_among variable (take (i + 1) list) s
    same s (inl eq) =
        let held : not (variable s) ≡ false = ap not (ap variable (sym eq) ∙ own) in
        ap (λ v. v && list_any (is_initial s) (take i list)) held ∙ sym (ap (λ v. v && list_any (is_initial s) (take (i + 1) list)) held)
    same s (inr apart) =
        sym
        (ap (λ a. not (variable s) && a)
        (any-more s list i x below is ∙ ap (λ b. list_any (is_initial s) (take i list) || b) (equal-false x.start.signal s apart) ∙ or-false (list_any (is_initial s) (take i list))))

-- one start value more
pub set-step : (variable : ℕ → Bool) (list : List Initial) (i : ℕ) (x : Initial) (found : Option ℕ) → i < length list → x ≡ get_or list i x
    → IsFirst (λ s. is_set_among variable (take i list) s ≡ true) found
    → IsFirst (λ s. is_set_among variable (take (i + 1) list) s ≡ true) (if variable x.start.signal then found else lower_of found (Some x.start.signal))
set-step variable list i x found below is first = at (variable x.start.signal) refl
  where
    at : (v : Bool) → variable x.start.signal ≡ v → IsFirst (λ s. is_set_among variable (take (i + 1) list) s ≡ true) (if v then found else lower_of found (Some x.start.signal))
    at true own = set-past variable list i x found below is own first
    at false net = set-here variable list i x found below is net first

pub set-whole : (variable : ℕ → Bool) (list : List Initial) (i : ℕ) (found : Option ℕ) → length list ≤ i → IsFirst (λ s. is_set_among variable (take i list) s ≡ true) found
    → IsFirst (λ s. is_set_among variable list s ≡ true) found
set-whole variable list i found past first = subst (λ xs. IsFirst (λ s. is_set_among variable xs s ≡ true) found) (take_all i list past) first

pub set-none : (variable : ℕ → Bool) (list : List Initial) → IsFirst (λ s. is_set_among variable (take 0 list) s ≡ true) None
set-none variable list = λ k is. false≢true (sym (and-false (not (variable k))) ∙ is)
