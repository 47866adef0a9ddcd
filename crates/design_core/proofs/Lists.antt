-- Pairs of lists; two lists in one strict order, where the one is the front of the other.
use Rattle.std.proofs.Common.{suc, ◌≡◌, List, [], ◌∷◌, ◌++◌, refl, sym, ◌∙◌, subst, arith, ◌⊎◌, inl, inr}
use Rattle.std.specs.Prelude.{All, AllPairs, Contains}
pub use Rattle.loc_base.proofs.ShelfLists.{Contains-first, Contains-later, Contains-cons, Contains-empty, All-member}

pub All-later : {X : Type 0} (P : X → Type 0) (x : X) (xs : List X) → All P (x ∷ xs) → All P xs
All-later P x xs all k d below = all (suc k) d (omega arith)

pub AllPairs-later : {X : Type 0} (R : X → X → Type 0) (x : X) (xs : List X) → AllPairs R (x ∷ xs) → AllPairs R xs
AllPairs-later R x xs pairs i j d before below = pairs (suc i) (suc j) d (omega arith) (omega arith)

pub AllPairs-first : {X : Type 0} (R : X → X → Type 0) (x : X) (xs : List X) (y : X) → AllPairs R (x ∷ xs) → Contains xs y → R x y
AllPairs-first R x xs y pairs (k, below, at) = subst (R x) at (pairs 0 (suc k) y (omega arith) (omega arith))

-- where no two elements stand before each other, no element of the rest of a list is its first
pub first-apart : {X : Type 0} (R : X → X → Type 0) → ((x y : X) → R x y → R y x → ⊥) → (x : X) (xs : List X) (y : X)
    → AllPairs R (x ∷ xs) → Contains xs y → x ≡ y → ⊥
first-apart R apart x xs y pairs later same =
    let before : R x y = AllPairs-first R x xs y pairs later in
    let again : R x x = subst (R x) (sym same) before in
    apart x x again again

-- where a list has all elements of another, and the other has each of the list's that stands before one of the other's,
-- both in one order, the other is a prefix of the list
pub prefix_of : {X : Type 0} (R : X → X → Type 0) → ((x y : X) → R x y → R y x → ⊥) → (front list : List X)
    → AllPairs R front → AllPairs R list
    → ((x : X) → Contains front x → Contains list x)
    → ((x y : X) → Contains list x → Contains front y → R x y → Contains front x)
    → (rest : List X) × (list ≡ front ++ rest)
prefix_of R apart [] list front_pairs list_pairs within closed = (list, refl)
prefix_of R apart (f ∷ fs) [] front_pairs list_pairs within closed = absurd (Contains-empty f (within f (Contains-first f fs)))
prefix_of {X} R apart (f ∷ fs) (l ∷ ls) front_pairs list_pairs within closed =
    let (rest, tail) =
    prefix_of R apart fs ls (AllPairs-later R f fs front_pairs) (AllPairs-later R l ls list_pairs)
    (λ x member. other_member x member (Contains-cons l ls x (within x (Contains-later f fs x member))))
    (λ x y member listed before. other_front x member (Contains-cons f fs x (closed x y (Contains-later l ls x member) (Contains-later f fs y listed) before))) in
    (rest, joined rest tail)
  where
    second : Contains ls f → (f ≡ l) ⊎ Contains fs l → f ≡ l
    second later (inl same) = same
    second later (inr behind) = absurd (apart f l (AllPairs-first R f fs l front_pairs behind) (AllPairs-first R l ls f list_pairs later))

    first : ((l ≡ f) ⊎ Contains ls f) → f ≡ l
    first (inl same) = sym same
    first (inr later) =
        second later (Contains-cons f fs l (closed l f (Contains-first l ls) (Contains-first f fs) (AllPairs-first R l ls f list_pairs later)))

    same : f ≡ l
    same = first (Contains-cons l ls f (within f (Contains-first f fs)))

    joined : (rest : List X) → ls ≡ fs ++ rest → (l ∷ ls) ≡ (f ∷ fs) ++ rest
    joined rest tail = let head : f ≡ l = same in cc

    other_member : (x : X) → Contains fs x → (l ≡ x) ⊎ Contains ls x → Contains ls x
    other_member x member (inl at) = absurd (first-apart R apart f fs x front_pairs member (same ∙ at))
    other_member x member (inr later) = later

    other_front : (x : X) → Contains ls x → (f ≡ x) ⊎ Contains fs x → Contains fs x
    other_front x member (inl at) = absurd (first-apart R apart l ls x list_pairs member (sym same ∙ at))
    other_front x member (inr later) = later
