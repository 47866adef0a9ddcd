-- The one suspect with all places.
use Rattle.std.proofs.Common.{◌≡◌, ℕ, ◌+◌, ◌<◌, true, List, [], ◌∷◌, ◌++◌, length, get_or, take, refl, sym, ◌∙◌, ap, arith}
use Rattle.std.specs.Prelude.{All, codes}
use Rattle.std.specs.List.Sorted.{IsStrictlyIncreasing}
use Rattle.std.proofs.lemmas.List.{length-take-le}
use Rattle.std.proofs.lemmas.List.Elements.{All-nil, All-cons}
use Rattle.loc_base.proofs.ShelfLists.{take-at}
use Rattle.design_core.specs.declared.place.Place.{Place}
use Rattle.suspect_map.specs.declared.group.Group.{Group}
use Rattle.suspect_map.specs.Groups.{AreAscending, AreWithin, numbers_at}
use Rattle.suspect_map.proofs.Ascending.{numbers_at-ascend}
use Rattle.suspect_map.proofs.GroupLaws.{numbers_at-within}
use Rattle.localise_cmd_tests.specs.Own.{everything}

-- the numbers of one more
every-push : {A : Type 0} (at : ℕ) (xs : List A) (x : A) → numbers_at (λ (_ : A). true) at (xs ++ x ∷ []) ≡ numbers_at (λ (_ : A). true) at xs ++ (at + length xs) ∷ []
every-push at [] x = ap (λ n. n ∷ []) (omega arith)
every-push {A} at (y ∷ ys) x =
    ap (λ (numbers : List ℕ). at ∷ numbers) (every-push (at + 1) ys x ∙ ap (λ n. numbers_at (λ (_ : A). true) (at + 1) ys ++ n ∷ []) (omega arith))

-- and so of the next in a list
pub every-next : {A : Type 0} (xs : List A) (i : ℕ) (x : A) → i < length xs → x ≡ get_or xs i x
    → numbers_at (λ (_ : A). true) 0 (take i xs) ++ i ∷ [] ≡ numbers_at (λ (_ : A). true) 0 (take (i + 1) xs)
every-next {A} xs i x within is =
    let long : length (take i xs) ≡ i = length-take-le i xs (omega (arith, within)) in
    ap (λ n. numbers_at (λ (_ : A). true) 0 (take i xs) ++ n ∷ []) (omega (arith, long)) ∙ sym (every-push 0 (take i xs) x)
    ∙ ap (numbers_at (λ (_ : A). true) 0) (sym (take-at xs i x within is))

-- each place of the suspect is one of the places
pub everything-within : (places : List Place) → AreWithin (length places) (everything places)
everything-within places =
    All-cons (λ group. All (λ number. number < length places) group.places) (record { kind = codes "all"; label = codes "all"; places = numbers_at (λ _. true) 0 places }) []
    (numbers_at-within (λ _. true) 0 places (length places) (omega arith)) (All-nil _)

-- and they ascend
pub everything-ascends : (places : List Place) → AreAscending (everything places)
everything-ascends places =
    All-cons (λ group. IsStrictlyIncreasing group.places) (record { kind = codes "all"; label = codes "all"; places = numbers_at (λ _. true) 0 places }) []
    (numbers_at-ascend (λ _. true) 0 places) (All-nil _)
