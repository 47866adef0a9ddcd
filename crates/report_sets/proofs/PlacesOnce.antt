-- Places of members, one group behind the other; and the numbers of a sorted list, each once.
use Rattle.std.proofs.Common.{◌≡◌, ◌≢◌, ◌⊎◌, inl, inr, ℕ, zero, suc, ◌+◌, ◌-◌, ◌<◌, ◌≤◌, ◌==◌, ◌||◌, ◌&&◌, Bool, true, false, List, [], ◌∷◌, ◌++◌, length, get_or, take, refl, sym, ap, ap₂, ◌∙◌, subst, arith, length-append}
use Rattle.std.specs.Prelude.{Contains, Err, IfOk, IsPermutation, Ok, Result, Some, Vec, slice_get}
use Rattle.std.specs.declared.alloc.Global.{Global}
use Rattle.std.specs.List.{list_any}
use Rattle.std.specs.List.Sorted.{IsNonDecreasing, IsStrictlyIncreasing}
use Rattle.std.specs.Option.{option_map_or}
use Rattle.std.proofs.lemmas.Bool.{cases_lt, eq-eqb, le-leb}
use Rattle.std.proofs.lemmas.List.{get_or-take, get_or_append_left, get_or_at, get_or_default, length-take-le, take_all, take_more}
use Rattle.std.proofs.lemmas.List.Elements.{Contains-get_or}
use Rattle.std.proofs.lemmas.List.Folds.{list_any-append, list_any_more}
use Rattle.std.proofs.lemmas.List.Sorted.{list_any-IsPermutation}
use Rattle.loc_base.specs.declared.memory.NoMemory.{NoMemory}
use Rattle.loc_base.proofs.ShelfBools.{equal-true}
use Rattle.loc_base.proofs.ShelfLists.{list_any-found, list_any-member, slice_get-at}
use Rattle.design_core.specs.Explained.{is_one_of}
use Rattle.design_core.specs.Works.{places_of, suspect_has}
use Rattle.suspect_map.specs.declared.group.Group.{Group}
use Rattle.report_sets.specs.Reading.{groups_of}

-- ---- the members
group-places : (groups : List Group) (at : ℕ) (group : Group) → slice_get groups at ≡ Some group
    → slice_get (groups_of groups) at ≡ Some group.places
group-places [] at group there = cc
group-places (g ∷ groups) zero group there = ap (λ (x : Group). Some x.places) (inner there)
  where
    inner : Some g ≡ Some group → g ≡ group
    inner same = cc
group-places (g ∷ groups) (suc at) group there = group-places groups at group there

-- a member has the places of its group
member-has : (groups : List Group) (m p : ℕ) (group : Group) → 1 ≤ m → slice_get groups (m - 1) ≡ Some group
    → suspect_has (groups_of groups) p m ≡ is_one_of group.places p
member-has groups m p group some there =
    ap (λ b. b && option_map_or (λ places. list_any (λ q. q == p) places) (slice_get (groups_of groups) (m - 1)) false) (le-leb 1 m some)
    ∙ ap (λ o. option_map_or (λ places. list_any (λ q. q == p) places) o false) (group-places groups (m - 1) group there)

-- the places of one member more
pub member-more : (groups : List Group) (members : List ℕ) (at m : ℕ) (group : Group) (old new : List ℕ) → at < length members
    → m ≡ get_or members at m → 1 ≤ m → m - 1 < length groups → group ≡ get_or groups (m - 1) group → new ≡ old ++ group.places
    → ((p : ℕ) → is_one_of old p ≡ places_of (groups_of groups) (take at members) p)
    → (p : ℕ) → is_one_of new p ≡ places_of (groups_of groups) (take (at + 1) members) p
member-more groups members at m group old new within is some few there grown before p =
    ap (λ ps. is_one_of ps p) grown ∙ list_any-append (λ place. place == p) old group.places
    ∙ ap₂ (λ a b. a || b) (before p)
    (sym (member-has groups m p group some (slice_get-at groups (m - 1) group few there)) ∙ ap (suspect_has (groups_of groups) p) is)
    ∙ sym (list_any_more (suspect_has (groups_of groups) p) members at m within)

pub member-end : (groups : List Group) (members : List ℕ) (at : ℕ) (places : List ℕ) → length members ≤ at
    → ((p : ℕ) → is_one_of places p ≡ places_of (groups_of groups) (take at members) p)
    → (p : ℕ) → is_one_of places p ≡ places_of (groups_of groups) members p
member-end groups members at places past before p = before p ∙ ap (λ ms. places_of (groups_of groups) ms p) (take_all at members past)

pub ruleset member_rules = (member-more, member-end)

-- ---- each once
is-one : (xs : List ℕ) (p : ℕ) → Contains xs p → is_one_of xs p ≡ true
is-one xs p member = list_any-member (λ x. x == p) xs p member (eq-eqb p p refl)

one-of : (xs : List ℕ) (p : ℕ) → is_one_of xs p ≡ true → Contains xs p
one-of xs p holds = let (x, member, same) = list_any-found (λ x. x == p) xs holds in subst (Contains xs) (equal-true x p same) member

rises-pushed : (xs : List ℕ) (y : ℕ) → IsStrictlyIncreasing xs → ((k : ℕ) → k < length xs → get_or xs k 0 < y) → IsStrictlyIncreasing (xs ++ y ∷ [])
rises-pushed xs y up below k within = at (cases_lt (k + 1) (length xs))
  where
    at : (k + 1 < length xs) ⊎ (length xs ≤ k + 1) → get_or (xs ++ y ∷ []) k 0 < get_or (xs ++ y ∷ []) (k + 1) 0
    at (inl inside) = omega (
      arith,
      up k inside,
      get_or_append_left xs (y ∷ []) 0 k (omega (arith, inside)),
      get_or_append_left xs (y ∷ []) 0 (k + 1) inside,
    )
    at (inr last) =
        let long : length (xs ++ y ∷ []) ≡ length xs + 1 = length-append xs (y ∷ []) in
        omega (
          arith,
          below k (omega (arith, long, within)),
          get_or_append_left xs (y ∷ []) 0 k (omega (arith, long, within)),
          get_or_at xs y [] 0 (k + 1) (omega (arith, long, within, last)),
        )

-- what is one of the first of a sorted list is at most the last of them
taken-most : (sorted : List ℕ) (place p : ℕ) → IsNonDecreasing sorted → 0 < place → place ≤ length sorted → is_one_of (take place sorted) p ≡ true
    → p ≤ get_or sorted (place - 1) 0
taken-most sorted place p up some few has =
    let (k, low, is) = one-of (take place sorted) p has in
    let long : length (take place sorted) ≡ place = length-take-le place sorted few in
    let below : k < place = omega (arith, low, long) in
    omega (
      arith,
      up k (place - 1) 0 (omega (arith, below)) (omega (arith, some, few)),
      get_or-take place sorted k 0 below,
      get_or_default (take place sorted) k p 0 low,
      is,
    )

pub once-pushed : (sorted once new : List ℕ) (place x : ℕ) → IsNonDecreasing sorted → place < length sorted → x ≡ get_or sorted place x
    → (0 < place → get_or sorted (place - 1) 0 ≢ x) → IsStrictlyIncreasing once
    → ((p : ℕ) → is_one_of once p ≡ is_one_of (take place sorted) p) → new ≡ once ++ x ∷ []
    → IsStrictlyIncreasing new × ((p : ℕ) → is_one_of new p ≡ is_one_of (take (place + 1) sorted) p)
once-pushed sorted once new place x up within is other rises same grown = (
  subst IsStrictlyIncreasing (sym grown) (rises-pushed once x rises (λ k low. below k low (cases_lt 0 place))),
  λ p. ap (λ xs. is_one_of xs p) grown ∙ list_any-append (λ y. y == p) once (x ∷ [])
      ∙ ap (λ b. b || is_one_of (x ∷ []) p) (same p) ∙ sym (list_any-append (λ y. y == p) (take place sorted) (x ∷ []))
      ∙ ap (λ xs. is_one_of xs p) (ap (λ y. take place sorted ++ y ∷ []) is ∙ sym (take_more sorted place x within)),
)
  where
    below : (k : ℕ) → k < length once → (0 < place) ⊎ (place ≤ 0) → get_or once k 0 < x
    below k low (inl some) =
        let has : is_one_of (take place sorted) (get_or once k 0) ≡ true = sym (same (get_or once k 0)) ∙ is-one once (get_or once k 0) (Contains-get_or once k 0 low) in
        let most : get_or once k 0 ≤ get_or sorted (place - 1) 0 =
        taken-most sorted place (get_or once k 0) up some (omega (arith, within)) has in
        let next : get_or sorted (place - 1) 0 ≤ get_or sorted place 0 = up (place - 1) place 0 (omega arith) within in
        let here : get_or sorted place 0 ≡ x = sym (is ∙ get_or_default sorted place x 0 within) in
        let apart : get_or sorted (place - 1) 0 ≢ x = other some in
        omega (arith, most, next, here, apart)
    below k low (inr none) =
        let empty : place ≡ 0 = omega (arith, none) in
        let has : is_one_of once (get_or once k 0) ≡ true = is-one once (get_or once k 0) (Contains-get_or once k 0 low) in
        let not : is_one_of once (get_or once k 0) ≡ false = same (get_or once k 0) ∙ ap (λ n. is_one_of (take n sorted) (get_or once k 0)) empty in
        let wrong : true ≡ false = sym has ∙ not in cc

pub once-met : (sorted once : List ℕ) (place x : ℕ) → place < length sorted → 0 < place → x ≡ get_or sorted place x
    → get_or sorted (place - 1) 0 ≡ x → ((p : ℕ) → is_one_of once p ≡ is_one_of (take place sorted) p)
    → (p : ℕ) → is_one_of once p ≡ is_one_of (take (place + 1) sorted) p
once-met sorted once place x within some is last same p =
    same p ∙ kept (is_one_of (take place sorted) p) (x == p) (λ holds. there (equal-true x p holds))
    ∙ sym (list_any_more (λ y. y == p) sorted place x within ∙ ap (λ y. is_one_of (take place sorted) p || (y == p)) (sym is))
  where
    kept : (a b : Bool) → (b ≡ true → a ≡ true) → a ≡ (a || b)
    kept true b has = refl
    kept false true has = has refl
    kept false false has = refl

    long : length (take place sorted) ≡ place
    long = length-take-le place sorted (omega (arith, within))

    there : x ≡ p → is_one_of (take place sorted) p ≡ true
    there same_one =
        is-one (take place sorted) p (
          place - 1,
          omega (arith, long, some),
          get_or_default (take place sorted) (place - 1) p 0 (omega (arith, long, some))
              ∙ (get_or-take place sorted (place - 1) 0 (omega (arith, some)) ∙ (last ∙ same_one)),
        )

pub ruleset once_rules = (once-pushed, once-met)

-- the places once more, sorted and each once
pub sorted-places : (groups : List Group) (members places sorted given : List ℕ) (r : Result (Vec ℕ Global) NoMemory)
    → ((p : ℕ) → is_one_of places p ≡ places_of (groups_of groups) members p) → IsPermutation places sorted → given ≡ sorted
    → IfOk r (λ once. (p : ℕ) → is_one_of once.items p ≡ is_one_of given p)
    → IfOk r (λ once. (p : ℕ) → is_one_of once.items p ≡ places_of (groups_of groups) members p)
sorted-places groups members places sorted given (Ok once) are same is holds = λ p.
    holds p ∙ ap (λ xs. is_one_of xs p) is ∙ sym (list_any-IsPermutation (λ x. x == p) places sorted same) ∙ are p
sorted-places groups members places sorted given (Err e) are same is holds = tt
