-- The suspects that are places of their own, and the places of a set of them.
use Rattle.std.proofs.Common.{◌≡◌, ℕ, zero, suc, ◌+◌, ◌-◌, ◌<◌, ◌≤◌, ◌==◌, false, ◌&&◌, ◌||◌, List, [], ◌∷◌, length, map, refl, ap, ◌∙◌, subst, arith}
use Rattle.std.specs.Prelude.{All, slice_get, slice_index, Some}
use Rattle.std.specs.List.{list_any}
use Rattle.std.specs.List.Sorted.{IsStrictlyIncreasing}
use Rattle.std.specs.Option.{option_map_or}
use Rattle.std.proofs.Math.Path.{fun_ext}
use Rattle.std.proofs.lemmas.Bool.{le-leb}
use Rattle.std.proofs.lemmas.List.{length-map}
use Rattle.std.proofs.lemmas.List.Elements.{All-head, All-tail, All-map}
use Rattle.loc_base.proofs.ShelfBools.{or-false, suc-add_one}
use Rattle.design_core.specs.declared.design.Design.{Design}
use Rattle.design_core.specs.Works.{suspect_has, places_of, IsSet}
use Rattle.plain_list.specs.Candidates.{numbers_from}
use Rattle.design_core.specs.Explained.{is_one_of}
use Rattle.plain_list.specs.Groups.{groups_of, places_in}
use Rattle.plain_list.proofs.Rising.{All-implied}
use Rattle.plain_list.proofs.Ordered.{IsNumber, IsStrictlyIncreasing-tail}

pub numbers_from-length : (first count : ℕ) → length (numbers_from first count) ≡ count
unfolding numbers_from
numbers_from-length first zero = refl
numbers_from-length first (suc count) = ap suc (numbers_from-length (first + 1) count)

pub groups_of-length : (d : Design) → length (groups_of d) ≡ length d.places.items
groups_of-length d = length-map (numbers_from 0 (length d.places.items)) (λ place. place ∷ []) ∙ numbers_from-length 0 (length d.places.items)

-- the suspect of a number has the place of that number
pub suspect-at : (first count k : ℕ) → k < count → slice_get (map (λ (place : ℕ). place ∷ []) (numbers_from first count)) k ≡ Some ((first + k) ∷ [])
unfolding numbers_from
suspect-at first zero k h = absurd (omega (arith, h))
suspect-at first (suc count) zero h = ap (λ n. Some (n ∷ [])) plus
  where
    plus : first ≡ first + 0
    plus = omega arith
suspect-at first (suc count) (suc k) h = suspect-at (first + 1) count k (omega (arith, h)) ∙ ap (λ n. Some (n ∷ [])) plus
  where
    plus : first + 1 + k ≡ first + suc k
    plus = omega arith

pub suspect_has-place : (d : Design) (place suspect : ℕ) → IsNumber (length d.places.items) suspect → suspect_has (groups_of d) place suspect ≡ ((suspect - 1) == place)
suspect_has-place d place suspect h =
    ap (λ some. some && option_map_or (λ places. list_any (λ p. p == place) places) (slice_get (groups_of d) (suspect - 1)) false) (le-leb 1 suspect h.0)
    ∙ ap (λ o. option_map_or (λ places. list_any (λ p. p == place) places) o false) (suspect-at 0 (length d.places.items) (suspect - 1) (omega (arith, h.0, h.1)))
    ∙ ap (λ n. (n == place) || false) none_add ∙ or-false ((suspect - 1) == place)
  where
    none_add : 0 + (suspect - 1) ≡ suspect - 1
    none_add = omega arith

pub places_of-place : (d : Design) (set : List ℕ) (place : ℕ) → All (IsNumber (length d.places.items)) set → places_of (groups_of d) set place ≡ is_one_of (places_in set) place
places_of-place d [] place a = refl
places_of-place d (suspect ∷ set) place a =
    ap (λ x. x || places_of (groups_of d) set place) (suspect_has-place d place suspect (All-head (IsNumber (length d.places.items)) suspect set a))
    ∙ ap (λ x. ((suspect - 1) == place) || x) (places_of-place d set place (All-tail (IsNumber (length d.places.items)) suspect set a))

-- the numbers of a set are those of places, from 1
pub set-numbers : (d : Design) (set : List ℕ) → IsSet (groups_of d) set → All (IsNumber (length d.places.items)) set
set-numbers d set s = All-implied (IsNumber (length (groups_of d))) (IsNumber (length d.places.items)) set (λ x h. (h.0, subst (λ n. x ≤ n) (groups_of-length d) h.1)) s.numbers

-- the freed places of a set are its places
pub freed-places : (d : Design) (set : List ℕ) → IsSet (groups_of d) set → places_of (groups_of d) set ≡ is_one_of (places_in set)
freed-places d set s = fun_ext (λ place. places_of-place d set place (set-numbers d set s))

pub set-positive : (d : Design) (set : List ℕ) → IsSet (groups_of d) set → All (λ suspect. 1 ≤ suspect) set
set-positive d set s = All-implied (IsNumber (length d.places.items)) (λ suspect. 1 ≤ suspect) set (λ x h. h.0) (set-numbers d set s)

-- the places of a set are places of the design
pub set-places : (d : Design) (set : List ℕ) → IsSet (groups_of d) set → All (λ p. p < length d.places.items) (places_in set)
set-places d set s =
    All-map (λ p. p < length d.places.items) (λ suspect. suspect - 1) set
    (All-implied (IsNumber (length d.places.items)) (λ suspect. suspect - 1 < length d.places.items) set (λ x h. omega (arith, h.0, h.1)) (set-numbers d set s))

-- the places of a rising set rise
pub places_in-rising : (set : List ℕ) → All (λ suspect. 1 ≤ suspect) set → IsStrictlyIncreasing set → IsStrictlyIncreasing (places_in set)
places_in-rising [] some up k h = absurd (omega (arith, h))
places_in-rising (x ∷ []) some up k h = absurd (omega (arith, h))
places_in-rising (x ∷ y ∷ set) some up zero h =
    let low : 1 ≤ x = All-head (λ suspect. 1 ≤ suspect) x (y ∷ set) some in
    let next : x < y = up 0 (omega arith) in
    omega (arith, low, next)
places_in-rising (x ∷ y ∷ set) some up (suc k) h =
    subst (λ m. slice_index (places_in (x ∷ y ∷ set)) (suc k) < slice_index (places_in (x ∷ y ∷ set)) m) (suc-add_one k)
    (places_in-rising (y ∷ set) (All-tail (λ suspect. 1 ≤ suspect) x (y ∷ set) some) (IsStrictlyIncreasing-tail x (y ∷ set) up) k (omega (arith, h)))
