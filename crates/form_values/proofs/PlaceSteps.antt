-- Steps of the loops over the members of a set and their places.
use Rattle.std.proofs.Common.{◌≡◌, ℕ, zero, suc, ◌+◌, ◌-◌, ◌<◌, ◌≤◌, ◌==◌, ◌&&◌, ◌||◌, Bool, true, false, if◌then◌else◌, List, [], ◌∷◌, ◌++◌, length, map, get_or, take, drop, Some, refl, sym, ◌∙◌, ap, ap₂, subst, arith, append_assoc, append-nil, add-one, drop-cons, All}
use Rattle.std.specs.Prelude.{slice_get, slice_index}
use Rattle.std.specs.List.{list_any}
use Rattle.std.specs.List.Sorted.{IsStrictlyIncreasing}
use Rattle.std.specs.Option.{option_map_or}
use Rattle.std.proofs.lemmas.Bool.{le-leb, ne_eqb, eq-eqb}
use Rattle.std.proofs.lemmas.List.{drop_all, take_all}
use Rattle.std.proofs.lemmas.List.Folds.{list_any_more}
use Rattle.loc_base.proofs.ShelfBools.{suc-add_one}
use Rattle.loc_base.proofs.ShelfLists.{slice_get-at}
use Rattle.suspect_map.specs.declared.group.Group.{Group}
use Rattle.design_core.specs.Explained.{is_one_of}
use Rattle.design_core.specs.Works.{suspect_has}
use Rattle.form_laws.specs.Models.{freed_by}
use Rattle.form_values.specs.Places.{numbers_of}

-- ---- the members

group-places : (groups : List Group) (at : ℕ) (group : Group) → slice_get groups at ≡ Some group
    → slice_get (map (λ (g : Group). g.places) groups) at ≡ Some group.places
group-places [] at group there = cc
group-places (g ∷ groups) zero group there = ap (λ (x : Group). Some x.places) (Some-is there)
  where
    Some-is : Some g ≡ Some group → g ≡ group
    Some-is same = cc
group-places (g ∷ groups) (suc at) group there = group-places groups at group there

-- a member has the places of its group
member-has : (groups : List Group) (m p : ℕ) (group : Group) → 1 ≤ m → slice_get groups (m - 1) ≡ Some group
    → suspect_has (map (λ (g : Group). g.places) groups) p m ≡ list_any (λ q. q == p) group.places
member-has groups m p group some there =
    ap (λ b. b && option_map_or (λ places. list_any (λ q. q == p) places) (slice_get (map (λ (g : Group). g.places) groups) (m - 1)) false)
    (le-leb 1 m some)
    ∙ ap (λ o. option_map_or (λ places. list_any (λ q. q == p) places) o false) (group-places groups (m - 1) group there)

or-swap : (a b : Bool) → (b || a) ≡ (a || b)
or-swap true true = refl
or-swap true false = refl
or-swap false true = refl
or-swap false false = refl

-- the places of one member more
pub members-more : (groups : List Group) (members : List ℕ) (i p : ℕ) (group : Group) → i < length members
    → 1 ≤ get_or members i 0 → slice_get groups (get_or members i 0 - 1) ≡ Some group
    → (list_any (λ q. q == p) group.places || freed_by groups (take i members) p) ≡ freed_by groups (take (i + 1) members) p
members-more groups members i p group within some there =
    or-swap (freed_by groups (take i members) p) (list_any (λ q. q == p) group.places)
    ∙ ap (λ b. freed_by groups (take i members) p || b) (sym (member-has groups (get_or members i 0) p group some there))
    ∙ sym (list_any_more (suspect_has (map (λ (g : Group). g.places) groups) p) members i 0 within)

pub members-end : (groups : List Group) (members : List ℕ) (i p : ℕ) → length members ≤ i
    → freed_by groups (take i members) p ≡ freed_by groups members p
members-end groups members i p past = ap (λ ms. freed_by groups ms p) (take_all i members past)

pub ruleset members = (members-more, members-end)

-- ---- the places that are noted

-- the numbers from a place of the table on, by whether it is noted
numbers-left : (table : List Bool) (i : ℕ) → i < length table
    → numbers_of i (drop i table)
    ≡ (if get_or table i false then i ∷ numbers_of (i + 1) (drop (i + 1) table) else numbers_of (i + 1) (drop (i + 1) table))
numbers-left table i within =
    ap (numbers_of i) (drop-cons table i false within ∙ ap (λ n. get_or table i false ∷ drop n table) (sym (add-one i)))

pub numbers-more : (places : List ℕ) (table : List Bool) (i : ℕ) → i < length table → get_or table i false ≡ true
    → places ++ numbers_of i (drop i table) ≡ (places ++ i ∷ []) ++ numbers_of (i + 1) (drop (i + 1) table)
numbers-more places table i within is =
    ap (λ ns. places ++ ns) (numbers-left table i within)
    ∙ ap (λ b. places ++ (if b then i ∷ numbers_of (i + 1) (drop (i + 1) table) else numbers_of (i + 1) (drop (i + 1) table))) is
    ∙ sym (append_assoc places (i ∷ []) (numbers_of (i + 1) (drop (i + 1) table)))

pub numbers-other : (places : List ℕ) (table : List Bool) (i : ℕ) → i < length table → get_or table i false ≡ false
    → places ++ numbers_of i (drop i table) ≡ places ++ numbers_of (i + 1) (drop (i + 1) table)
numbers-other places table i within is =
    ap (λ ns. places ++ ns) (numbers-left table i within)
    ∙ ap (λ b. places ++ (if b then i ∷ numbers_of (i + 1) (drop (i + 1) table) else numbers_of (i + 1) (drop (i + 1) table))) is

pub numbers-end : (places : List ℕ) (table : List Bool) (i : ℕ) → length table ≤ i → places ++ numbers_of i (drop i table) ≡ places
numbers-end places table i past = ap (λ bs. places ++ numbers_of i bs) (drop_all i table past) ∙ append-nil places

pub ruleset numbers = (numbers-more, numbers-other, numbers-end)

-- numbers from one on, each above the one before
data Rising : ℕ → List ℕ → Type 0 where
  none : {from : ℕ} → Rising from []
  more : {from x : ℕ} {xs : List ℕ} → from ≤ x → Rising (x + 1) xs → Rising from (x ∷ xs)

rising-lower : {from low : ℕ} {xs : List ℕ} → low ≤ from → Rising from xs → Rising low xs
rising-lower less none = none
rising-lower less (more up rest) = more (omega (arith, less, up)) rest

numbers-rising : (i : ℕ) (table : List Bool) → Rising i (numbers_of i table)
numbers-rising i [] = none
numbers-rising i (true ∷ table) = more (omega arith) (numbers-rising (i + 1) table)
numbers-rising i (false ∷ table) = rising-lower (omega arith) (numbers-rising (i + 1) table)

rising-increases : (from : ℕ) (xs : List ℕ) → Rising from xs → IsStrictlyIncreasing xs
rising-increases from [] none k h = absurd (omega (arith, h))
rising-increases from (x ∷ []) (more up none) k h = absurd (omega (arith, h))
rising-increases from (x ∷ y ∷ xs) (more up (more next rest)) zero h = omega (arith, next)
rising-increases from (x ∷ y ∷ xs) (more up (more next rest)) (suc k) h =
    subst (λ m. slice_index (x ∷ y ∷ xs) (suc k) < slice_index (x ∷ y ∷ xs) m) (suc-add_one k)
    (rising-increases (x + 1) (y ∷ xs) (more next rest) k (omega (arith, h)))

pub places-ascend : (table : List Bool) → IsStrictlyIncreasing (numbers_of 0 table)
places-ascend table = rising-increases 0 (numbers_of 0 table) (numbers-rising 0 table)

-- none of the numbers from one on is below it
numbers-past : (i p : ℕ) (table : List Bool) → p < i → is_one_of (numbers_of i table) p ≡ false
numbers-past i p [] less = refl
numbers-past i p (true ∷ table) less =
    ap (λ b. b || is_one_of (numbers_of (i + 1) table) p) (ne_eqb i p (λ same. omega (arith, same, less)))
    ∙ numbers-past (i + 1) p table (omega (arith, less))
numbers-past i p (false ∷ table) less = numbers-past (i + 1) p table (omega (arith, less))

-- a place is listed where it is noted
listed-from : (i p : ℕ) (table : List Bool) → is_one_of (numbers_of i table) (i + p) ≡ get_or table p false
listed-from i p [] = refl
listed-from i zero (true ∷ table) =
    let here : i ≡ i + 0 = omega arith in ap (λ b. b || is_one_of (numbers_of (i + 1) table) (i + 0)) (eq-eqb i (i + 0) here)
listed-from i zero (false ∷ table) = numbers-past (i + 1) (i + 0) table (omega arith)
listed-from i (suc p) (true ∷ table) =
    let next : i + 1 + p ≡ i + suc p = omega arith in
    ap (λ b. b || is_one_of (numbers_of (i + 1) table) (i + suc p)) (ne_eqb i (i + suc p) (λ same. omega (arith, same)))
    ∙ ap (is_one_of (numbers_of (i + 1) table)) (sym next) ∙ listed-from (i + 1) p table
listed-from i (suc p) (false ∷ table) =
    let next : i + 1 + p ≡ i + suc p = omega arith in
    ap (is_one_of (numbers_of (i + 1) table)) (sym next) ∙ listed-from (i + 1) p table

pub places-listed : (table : List Bool) (p : ℕ) → is_one_of (numbers_of 0 table) p ≡ get_or table p false
places-listed table p = let here : p ≡ 0 + p = omega arith in ap (is_one_of (numbers_of 0 table)) here ∙ listed-from 0 p table

pub ruleset lists = (places-ascend, places-listed)

-- the table with one member more
pub freed-more : (groups : List Group) (members : List ℕ) (i : ℕ) (before after : ℕ → Bool) (group : Group) (listed : List ℕ)
    → All (λ m. (1 ≤ m) × (m ≤ length groups)) members → i < length members → group ≡ get_or groups (get_or members i 0 - 1) group
    → listed ≡ group.places → ((p : ℕ) → before p ≡ freed_by groups (take i members) p)
    → ((p : ℕ) → after p ≡ (list_any (λ q. q == p) listed || before p))
    → (p : ℕ) → after p ≡ freed_by groups (take (i + 1) members) p
freed-more groups members i before after group listed all within is same begun marked p =
    let (some, few) = all i 0 within in
    let there : slice_get groups (get_or members i 0 - 1) ≡ Some group =
    slice_get-at groups (get_or members i 0 - 1) group (omega (arith, some, few)) is in
    marked p ∙ ap₂ (λ qs b. list_any (λ q. q == p) qs || b) same (begun p)
    ∙ members-more groups members i p group within some there
