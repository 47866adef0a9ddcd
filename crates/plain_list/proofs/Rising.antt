-- Sets as rising lists, and that the combinations are all of them, in order.
use Rattle.std.proofs.Common.{◌≡◌, ℕ, zero, suc, ◌+◌, ◌<◌, ◌≤◌, inl, inr, true, List, [], ◌∷◌, ◌++◌, length, map, refl, ap, sym, ◌∙◌, subst, arith, get_or}
use Rattle.std.proofs.Math.Nat.{eq-or-lt_of_le}
use Rattle.std.specs.Prelude.{All, AllPairs, Contains}
use Rattle.std.proofs.lemmas.List.{get_or-map, length-map}
use Rattle.std.proofs.lemmas.List.Elements.{All-nil, All-cons, All-append, All-map, Contains-append_left, Contains-append_right}
use Rattle.std.proofs.lemmas.List.Kept.{AllPairs-cons}
use Rattle.std.proofs.lemmas.Grind.{common_steps}
use Rattle.loc_base.proofs.ShelfLists.{Contains-first}
use Rattle.loc_base.specs.Sets.{is_lower}
use Rattle.plain_list.specs.Candidates.{combinations, numbers_from, behind}

-- a list that rises from `low` on, below `high`
abbrev pub Rises : ℕ → ℕ → List ℕ → Type 0
Rises low high [] = Unit {0}
Rises low high (x ∷ xs) = (low ≤ x) × (x < high) × Rises (x + 1) high xs

pub Rises-lower : (low lower high : ℕ) (xs : List ℕ) → lower ≤ low → Rises low high xs → Rises lower high xs
Rises-lower low lower high [] h r = tt
Rises-lower low lower high (x ∷ xs) h r = (omega (arith, h, r.0), r.1, r.2)

pub All-implied : {X : Type 0} (P Q : X → Type 0) (xs : List X) → ((x : X) → P x → Q x) → All P xs → All Q xs
All-implied P Q xs f a k d h = f (get_or xs k d) (a k d h)

pub AllPairs-nil : {X : Type 0} (R : X → X → Type 0) → AllPairs R []
AllPairs-nil R i j d h k = absurd (omega (arith, k))

-- R of each element of the one list and each of the other, and within each
pub AllPairs-append : {X : Type 0} (R : X → X → Type 0) (xs ys : List X) → AllPairs R xs → AllPairs R ys → All (λ x. All (R x) ys) xs → AllPairs R (xs ++ ys)
AllPairs-append R [] ys a b c = b
AllPairs-append R (x ∷ xs) ys a b c =
    AllPairs-cons R x (xs ++ ys)
    (All-append (R x) xs ys (λ k d h. a 0 (suc k) d (omega arith) (omega (arith, h))) (c 0 x (omega arith)))
    (AllPairs-append R xs ys
    (λ i j d h k. a (suc i) (suc j) d (omega (arith, h)) (omega (arith, k)))
    b
    (λ k d h. c (suc k) d (omega (arith, h))))

pub Contains-map : {X Y : Type 0} (f : X → Y) (xs : List X) (x : X) → Contains xs x → Contains (map f xs) (f x)
Contains-map f xs x (k, h, e) = (k, rw (length-map xs f) h, get_or-map f xs k x (f x) h ∙ ap f e)

abbrev pub IsChosen : ℕ → ℕ → ℕ → List ℕ → Type 0
IsChosen first high size set = Rises first high set × (length set ≡ size)

pub numbers_from-suc : (first count : ℕ) → numbers_from first (suc count) ≡ first ∷ numbers_from (first + 1) count
unfolding numbers_from
numbers_from-suc first count = refl

-- each combination is a rising list of the numbers, of the size
pub combinations-each : (size first count : ℕ) → All (IsChosen first (first + count) size) (combinations size (numbers_from first count))
unfolding numbers_from
combinations-each zero first count = All-cons (IsChosen first (first + count) 0) [] [] nothing (All-nil (IsChosen first (first + count) 0))
  where
    nothing : IsChosen first (first + count) 0 []
    nothing = (tt, refl)
combinations-each (suc size) first zero = All-nil _
combinations-each (suc size) first (suc count) =
    All-append (IsChosen first (first + suc count) (suc size)) _ _
    (All-map (IsChosen first (first + suc count) (suc size)) (λ others. first ∷ others) _
    (All-implied (IsChosen (first + 1) (first + 1 + count) size) _ _ with_first (combinations-each size (first + 1) count)))
    (All-implied (IsChosen (first + 1) (first + 1 + count) (suc size)) _ _ without_first (combinations-each (suc size) (first + 1) count))
  where
    high : first + 1 + count ≡ first + suc count
    high = omega arith

    with_first : (set : List ℕ) → IsChosen (first + 1) (first + 1 + count) size set → IsChosen first (first + suc count) (suc size) (first ∷ set)
    with_first set h = ((omega arith, omega arith, subst (λ n. Rises (first + 1) n set) high h.0), ap suc h.1)

    without_first : (set : List ℕ) → IsChosen (first + 1) (first + 1 + count) (suc size) set → IsChosen first (first + suc count) (suc size) set
    without_first set h = (Rises-lower (first + 1) first (first + suc count) set (omega arith) (subst (λ n. Rises (first + 1) n set) high h.0), h.1)

pub is_lower-behind : (x : ℕ) (one other : List ℕ) → is_lower (x ∷ one) (x ∷ other) ≡ is_lower one other
is_lower-behind x one other = grind (arith, common_steps)

pub is_lower-head : (x y : ℕ) (one other : List ℕ) → x < y → is_lower (x ∷ one) (y ∷ other) ≡ true
is_lower-head x y one other h = grind (arith, common_steps)

pub AllPairs-map : {X Y : Type 0} (R : X → X → Type 0) (S : Y → Y → Type 0) (f : X → Y) (xs : List X)
    → ((a b : X) → R a b → S (f a) (f b)) → AllPairs R xs → AllPairs S (map f xs)
AllPairs-map R S f [] g a = AllPairs-nil S
AllPairs-map R S f (x ∷ xs) g a =
    AllPairs-cons S (f x) (map f xs)
    (All-map (S (f x)) f xs (λ k d h. g x (get_or xs k d) (a 0 (suc k) d (omega arith) (omega (arith, h)))))
    (AllPairs-map R S f xs g (λ i j d h k. a (suc i) (suc j) d (omega (arith, h)) (omega (arith, k))))

abbrev pub IsLower : List ℕ → List ℕ → Type 0
IsLower one other = is_lower one other ≡ true

-- the combinations stand in order
pub combinations-ordered : (size first count : ℕ) → AllPairs IsLower (combinations size (numbers_from first count))
unfolding numbers_from
combinations-ordered zero first count = AllPairs-cons IsLower [] [] (All-nil (IsLower [])) (AllPairs-nil IsLower)
combinations-ordered (suc size) first zero = AllPairs-nil IsLower
combinations-ordered (suc size) first (suc count) =
    AllPairs-append IsLower (behind (first ∷ []) (combinations size (numbers_from (first + 1) count))) (combinations (suc size) (numbers_from (first + 1) count))
    (AllPairs-map IsLower IsLower (λ others. first ∷ others) (combinations size (numbers_from (first + 1) count)) (λ a b h. is_lower-behind first a b ∙ h) (combinations-ordered size (first + 1) count))
    (combinations-ordered (suc size) (first + 1) count)
    (All-map (λ x. All (IsLower x) (combinations (suc size) (numbers_from (first + 1) count))) (λ others. first ∷ others) (combinations size (numbers_from (first + 1) count))
    (λ k d h. All-implied (IsChosen (first + 1) (first + 1 + count) (suc size)) _ _ (above (get_or (combinations size (numbers_from (first + 1) count)) k d)) (combinations-each (suc size) (first + 1) count)))
  where
    above : (others set : List ℕ) → IsChosen (first + 1) (first + 1 + count) (suc size) set → IsLower (first ∷ others) set
    above others [] h = absurd (omega (arith, h.1))
    above others (x ∷ set) h = is_lower-head first x others set (omega (arith, h.0.0))

-- each rising list of the numbers is one of the combinations
pub combinations-complete : (size first count : ℕ) (set : List ℕ) → IsChosen first (first + count) size set → Contains (combinations size (numbers_from first count)) set
unfolding numbers_from
combinations-complete zero first count [] h = Contains-first [] []
combinations-complete zero first count (x ∷ set) h = absurd (omega (arith, h.1))
combinations-complete (suc size) first count [] h = absurd (omega (arith, h.1))
combinations-complete (suc size) first zero (x ∷ set) h = absurd (omega (arith, h.0.0, h.0.1))
combinations-complete (suc size) first (suc count) (x ∷ set) h =
    elim (eq-or-lt_of_le h.0.0) [
      | inl same ↦ now (sym same) (λ parts. combinations-complete size (first + 1) count set parts)
      | inr above ↦ later above (λ parts. combinations-complete (suc size) (first + 1) count (x ∷ set) parts)
    ]
  where
    high : first + suc count ≡ first + 1 + count
    high = omega arith

    with_first : List (List ℕ)
    with_first = behind (first ∷ []) (combinations size (numbers_from (first + 1) count))

    without_first : List (List ℕ)
    without_first = combinations (suc size) (numbers_from (first + 1) count)

    later : first < x → (IsChosen (first + 1) (first + 1 + count) (suc size) (x ∷ set) → Contains without_first (x ∷ set)) → Contains (with_first ++ without_first) (x ∷ set)
    later above found =
        let parts : IsChosen (first + 1) (first + 1 + count) (suc size) (x ∷ set) =
        ((omega (arith, above), omega (arith, h.0.1), subst (λ n. Rises (x + 1) n set) high h.0.2), h.1) in
        Contains-append_right with_first without_first (x ∷ set) (found parts)

    now : x ≡ first → (IsChosen (first + 1) (first + 1 + count) size set → Contains (combinations size (numbers_from (first + 1) count)) set) → Contains (with_first ++ without_first) (x ∷ set)
    now same found =
        let parts : IsChosen (first + 1) (first + 1 + count) size set =
        (subst (λ n. Rises (first + 1) n set) high (subst (λ y. Rises (y + 1) (first + suc count) set) same h.0.2), omega (arith, h.1)) in
        subst (λ y. Contains (with_first ++ without_first) (y ∷ set)) (sym same)
        (Contains-append_left with_first without_first (first ∷ set)
        (Contains-map (λ others. first ∷ others) (combinations size (numbers_from (first + 1) count)) set (found parts)))
