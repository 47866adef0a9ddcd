-- Steps of the loops over suspects and their places.
use Rattle.std.proofs.Common.{◌≡◌, ◌≢◌, ◌⊎◌, inl, inr, ℕ, zero, suc, ◌+◌, ◌-◌, ◌<◌, ◌≤◌, ◌==◌, ◌||◌, ◌&&◌, not, Bool, true, false, if◌then◌else◌, List, [], ◌∷◌, ◌++◌, length, get_or, take, drop, refl, sym, ◌∙◌, ap, ap₂, subst, arith, append_assoc, append-nil, length-append}
use Rattle.std.proofs.Math.ListN.{set}
use Rattle.std.specs.List.{list_any}
use Rattle.std.proofs.lemmas.Bool.{ne_eqb, eq-eqb, and_from}
use Rattle.std.proofs.lemmas.List.{take_all, length-take-le, get_or-set_other}
use Rattle.std.proofs.lemmas.Bool.Decides.{eqb_tells}
use Rattle.std.proofs.lemmas.Grind.{get_or-set_at}
use Rattle.std.proofs.lemmas.List.Folds.{list_any_more}
use Rattle.std.proofs.Math.Seq.{get_or-append_seam}
use Rattle.loc_base.proofs.ShelfLists.{take-at}
use Rattle.suspect_map.specs.declared.group.Group.{Group}
use Rattle.clause_base.specs.declared.literal.Lit.{Lit}
use Rattle.clause_base.specs.Literal.{positive, has_variable, has_distinct_variables}
use Rattle.card_counter.specs.InForm.{literals_from}
use Rattle.unroller.proofs.GroupSteps.{get_or-push_default}
use Rattle.clause_form.specs.Clauses.{selectors_from, selectors_of}
use Rattle.clause_form.specs.Variables.{AreBelow, AreSelectors, ends_with, once}

-- ---- all selectors

pub all-more : (all : List Lit) (i n : ℕ) → i < n
    → all ++ literals_from (i + 1) (n - i) ≡ (all ++ positive (i + 1) ∷ []) ++ literals_from (i + 1 + 1) (n - (i + 1))
all-more all i n less =
    ap (λ m. all ++ literals_from (i + 1) m) count ∙ sym (append_assoc all (positive (i + 1) ∷ []) (literals_from (i + 1 + 1) (n - (i + 1))))
  where
    count : n - i ≡ suc (n - (i + 1))
    count = omega (arith, less)

pub all-end : (all : List Lit) (i n : ℕ) → n ≤ i → all ++ literals_from (i + 1) (n - i) ≡ all
all-end all i n past = ap (λ m. all ++ literals_from (i + 1) m) count ∙ append-nil all
  where
    count : n - i ≡ 0
    count = omega (arith, past)

pub ruleset all = (all-more, all-end)

-- ---- one selector, where a place is in a group

abbrev one_of : Bool → ℕ → List Lit → List Lit
one_of is n rest = if is then positive n ∷ rest else rest

-- ---- rows

-- rows read the same with one more that is empty
pub get_or-push_none : (rows : List (List Lit)) (p : ℕ) → get_or (rows ++ [] ∷ []) p [] ≡ get_or rows p []
get_or-push_none rows p = get_or-push_default rows [] p

pub ruleset longer = (get_or-push_none)

-- ---- a selector behind a row

-- the last of literals that are below a variable isn't of it
last-below : (n : ℕ) (xs : List Lit) (i : ℕ) → 1 ≤ n → AreBelow n xs → (get_or xs i (positive 0)).var < n
last-below n [] i some below = omega (arith, some)
last-below n (x ∷ xs) zero some below = below.0
last-below n (x ∷ xs) (suc i) some below = last-below n xs i some below.1

once-below : (n : ℕ) (xs : List Lit) → 1 ≤ n → AreBelow n xs → once n xs ≡ xs ++ positive n ∷ []
once-below n xs some below =
    ap (λ b. if b then xs else xs ++ positive n ∷ [])
    (ne_eqb (get_or xs (length xs - 1) (positive 0)).var n (λ same. omega (arith, same, last-below n xs (length xs - 1) some below)))

once-there : (n : ℕ) (xs : List Lit) → once n (xs ++ positive n ∷ []) ≡ xs ++ positive n ∷ []
once-there n xs =
    ap (λ b. if b then xs ++ positive n ∷ [] else (xs ++ positive n ∷ []) ++ positive n ∷ [])
    (eq-eqb (get_or (xs ++ positive n ∷ []) (length (xs ++ positive n ∷ []) - 1) (positive 0)).var n (ap (λ l. l.var) last))
  where
    place : length (xs ++ positive n ∷ []) - 1 ≡ length xs
    place = omega (arith, length-append xs (positive n ∷ []))

    last : get_or (xs ++ positive n ∷ []) (length (xs ++ positive n ∷ []) - 1) (positive 0) ≡ positive n
    last = ap (λ i. get_or (xs ++ positive n ∷ []) i (positive 0)) place ∙ get_or-append_seam xs (positive n) [] (positive 0)

-- no literals end with a variable
pub ends-none : (n : ℕ) (xs : List Lit) → 1 ≤ n → length xs ≡ 0 → ends_with n xs ≡ false
ends-none n [] some none = ne_eqb 0 n (λ same. omega (arith, some, same))
ends-none n (x ∷ xs) some none = absurd (omega (arith, none))

pub ruleset ends = (ends-none)

-- a row with a selector behind it, where a test says so
abbrev pub added : Bool → ℕ → List Lit → List Lit
added is n xs = if is then xs ++ positive n ∷ [] else xs

-- one more place
row-step : (n : ℕ) (before same : Bool) (xs : List Lit) → 1 ≤ n → AreBelow n xs
    → (if same then once n (added before n xs) else added before n xs) ≡ added (before || same) n xs
row-step n true true xs some below = once-there n xs
row-step n true false xs some below = refl
row-step n false true xs some below = once-below n xs some below
row-step n false false xs some below = refl

pub places-more : (n : ℕ) (places : List ℕ) (i p : ℕ) (xs : List Lit) → 1 ≤ n → AreBelow n xs → i < length places
    → (if get_or places i 0 == p then once n (added (list_any (λ q. q == p) (take i places)) n xs)
    else added (list_any (λ q. q == p) (take i places)) n xs)
    ≡ added (list_any (λ q. q == p) (take (i + 1) places)) n xs
places-more n places i p xs some below within =
    row-step n (list_any (λ q. q == p) (take i places)) (get_or places i 0 == p) xs some below
    ∙ ap (λ b. added b n xs) (sym (list_any_more (λ q. q == p) places i 0 within))

pub places-all : (n : ℕ) (places : List ℕ) (i p : ℕ) (xs : List Lit) → length places ≤ i
    → added (list_any (λ q. q == p) (take i places)) n xs ≡ added (list_any (λ q. q == p) places) n xs
places-all n places i p xs past = ap (λ qs. added (list_any (λ q. q == p) qs) n xs) (take_all i places past)

-- ---- one group more

head-row : (is : Bool) (n : ℕ) (rest more : List Lit) → one_of is n (rest ++ more) ≡ one_of is n rest ++ more
head-row true n rest more = refl
head-row false n rest more = refl

added-head : (first is : Bool) (m n : ℕ) (rest : List Lit) → one_of first m (added is n rest) ≡ added is n (one_of first m rest)
added-head true true m n rest = refl
added-head true false m n rest = refl
added-head false true m n rest = refl
added-head false false m n rest = refl

pub selectors-push : (n : ℕ) (groups : List Group) (group : Group) (p : ℕ)
    → selectors_from n (groups ++ group ∷ []) p ≡ added (list_any (λ q. q == p) group.places) (n + length groups) (selectors_from n groups p)
selectors-push n [] group p = one (list_any (λ q. q == p) group.places)
  where
    one : (is : Bool) → one_of is n [] ≡ added is (n + 0) []
    one true = ap (λ m. positive m ∷ []) (omega arith)
    one false = refl
selectors-push n (g ∷ groups) group p =
    ap (one_of (list_any (λ q. q == p) g.places) n) (selectors-push (n + 1) groups group p)
    ∙ added-head (list_any (λ q. q == p) g.places) (list_any (λ q. q == p) group.places) n (n + 1 + length groups)
    (selectors_from (n + 1) groups p)
    ∙ ap (λ m. added (list_any (λ q. q == p) group.places) m (one_of (list_any (λ q. q == p) g.places) n (selectors_from (n + 1) groups p)))
    (omega arith)

below-one : (is : Bool) (n m : ℕ) (rest : List Lit) → n < m → AreBelow m rest → AreBelow m (one_of is n rest)
below-one true n m rest less below = (less, below)
below-one false n m rest less below = below

-- selectors are of numbers of groups
pub selectors-below : (n : ℕ) (groups : List Group) (p m : ℕ) → n + length groups ≤ m → AreBelow m (selectors_from n groups p)
selectors-below n [] p m few = tt
selectors-below n (g ∷ groups) p m few =
    below-one (list_any (λ q. q == p) g.places) n m (selectors_from (n + 1) groups p) (omega (arith, few))
    (selectors-below (n + 1) groups p m (omega (arith, few)))

pub rows-below : (groups : List Group) (i p m : ℕ) → i < length groups → i + 1 ≤ m → AreBelow m (selectors_of (take i groups) p)
rows-below groups i p m within few =
    selectors-below 1 (take i groups) p m (omega (arith, few, length-take-le i groups (omega (arith, within))))

pub rows-more : (groups : List Group) (i p : ℕ) (group : Group) → i < length groups → group ≡ get_or groups i group
    → added (list_any (λ q. q == p) group.places) (i + 1) (selectors_of (take i groups) p) ≡ selectors_of (take (i + 1) groups) p
rows-more groups i p group within is =
    ap (λ m. added (list_any (λ q. q == p) group.places) m (selectors_of (take i groups) p)) count
    ∙ sym (selectors-push 1 (take i groups) group p)
    ∙ ap (λ gs. selectors_of gs p) (sym (take-at groups i group within is))
  where
    count : i + 1 ≡ 1 + length (take i groups)
    count = omega (arith, length-take-le i groups (omega (arith, within)))

pub rows-all : (groups : List Group) (i p : ℕ) → length groups ≤ i → selectors_of (take i groups) p ≡ selectors_of groups p
rows-all groups i p past = ap (λ gs. selectors_of gs p) (take_all i groups past)

-- ---- distinct selectors

no-lower : (n v : ℕ) (groups : List Group) (p : ℕ) → v < n → has_variable (selectors_from n groups p) v ≡ false
no-lower n v [] p less = refl
no-lower n v (g ∷ groups) p less = one (list_any (λ q. q == p) g.places) (no-lower (n + 1) v groups p (omega (arith, less)))
  where
    one : (is : Bool) → has_variable (selectors_from (n + 1) groups p) v ≡ false
        → has_variable (one_of is n (selectors_from (n + 1) groups p)) v ≡ false
    one true rest = ap₂ (λ a b. a || b) (ne_eqb n v (λ same. omega (arith, same, less))) rest
    one false rest = rest

pub selectors-distinct : (n : ℕ) (groups : List Group) (p : ℕ) → has_distinct_variables (selectors_from n groups p) ≡ true
selectors-distinct n [] p = refl
selectors-distinct n (g ∷ groups) p = one (list_any (λ q. q == p) g.places) (selectors-distinct (n + 1) groups p)
  where
    one : (is : Bool) → has_distinct_variables (selectors_from (n + 1) groups p) ≡ true
        → has_distinct_variables (one_of is n (selectors_from (n + 1) groups p)) ≡ true
    one true rest =
        and_from (not (has_variable (selectors_from (n + 1) groups p) n)) (has_distinct_variables (selectors_from (n + 1) groups p))
        (ap not (no-lower (n + 1) n groups p (omega arith))) rest
    one false rest = rest

pub are-selectors : (base : ℕ) (groups : List Group) (rows : List (List Lit)) → ((p : ℕ) → get_or rows p [] ≡ selectors_of groups p)
    → 1 + length groups ≤ base → AreSelectors base rows
are-selectors base groups rows is few = record {
  below = λ p. subst (AreBelow base) (sym (is p)) (selectors-below 1 groups p base few);
  distinct = λ p. subst (λ row. has_distinct_variables row ≡ true) (sym (is p)) (selectors-distinct 1 groups p);
}

-- a row that is set
pub get_or-set_row : (rows : List (List Lit)) (i p : ℕ) (row : List Lit) → i < length rows
    → get_or (set rows i row) p [] ≡ (if i == p then row else get_or rows p [])
get_or-set_row rows i p row within = at (eqb_tells i p)
  where
    at : ((i == p ≡ true) × (i ≡ p)) ⊎ ((i == p ≡ false) × (i ≢ p)) → get_or (set rows i row) p [] ≡ (if i == p then row else get_or rows p [])
    at (inl (is, same)) = get_or-set_at rows i p row [] (sym same) within ∙ sym (ap (λ b. if b then row else get_or rows p []) is)
    at (inr (is, apart)) =
        get_or-set_other rows i p row [] (λ e. apart (sym e)) ∙ sym (ap (λ b. if b then row else get_or rows p []) is)

pub ruleset adds = (get_or-set_row)

pub ruleset places = (places-more, places-all)

pub ruleset rows = (rows-below, rows-more, rows-all)
