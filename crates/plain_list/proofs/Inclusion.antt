-- Sets of numbers as rising lists, and which are within which.
use Rattle.std.proofs.Common.{◌≡◌, ℕ, suc, ◌+◌, ◌<◌, ◌≤◌, ◌⊎◌, inl, inr, List, [], ◌∷◌, length, get_or, refl, ap, sym, ◌∙◌, subst, arith}
use Rattle.std.specs.Prelude.{Contains}
use Rattle.std.proofs.Math.Nat.{eq-or-lt_of_le}
use Rattle.std.proofs.lemmas.List.{get_or_default, length-map, get_or-map}
use Rattle.design_core.specs.declared.values.SetWithValues.{SetWithValues}
use Rattle.design_core.specs.Works.{IsWithin}
use Rattle.design_core.proofs.Lists.{Contains-cons, Contains-empty, All-member, All-later}
use Rattle.plain_list.specs.Search.{members_of, ContainsOne}
use Rattle.plain_list.proofs.Rising.{Rises}

-- a member of a rising list is not below its start
pub Rises-member : (low high : ℕ) (xs : List ℕ) (x : ℕ) → Rises low high xs → Contains xs x → low ≤ x
Rises-member low high [] x r c = absurd (Contains-empty x c)
Rises-member low high (y ∷ xs) x r c = at (Contains-cons y xs x c) (λ later. Rises-member (y + 1) high xs x r.2 later)
  where
    at : (y ≡ x) ⊎ Contains xs x → (Contains xs x → y + 1 ≤ x) → low ≤ x
    at (inl e) rest = omega (arith, r.0, e)
    at (inr later) rest = omega (arith, r.0, rest later)

-- a list within itself
pub within-itself : (xs : List ℕ) → IsWithin xs xs
within-itself xs k d h = (k, h, get_or_default xs k (get_or xs k d) d h)

pub within-through : (xs ys zs : List ℕ) → IsWithin xs ys → IsWithin ys zs → IsWithin xs zs
within-through xs ys zs w v k d h = All-member (Contains zs) ys (get_or xs k d) v (w k d h)

-- what is within a list and has all its numbers above the first is within the rest
within-rest : (y : ℕ) (xs ys : List ℕ) → ((x : ℕ) → Contains xs x → y < x) → IsWithin xs (y ∷ ys) → IsWithin xs ys
within-rest y xs ys above w k d h = at (Contains-cons y ys (get_or xs k d) (w k d h))
  where
    at : (y ≡ get_or xs k d) ⊎ Contains ys (get_or xs k d) → Contains ys (get_or xs k d)
    at (inl e) = absurd (omega (arith, e, above (get_or xs k d) (k, h, get_or_default xs k (get_or xs k d) d h)))
    at (inr later) = later

-- a set within another is that one, or has fewer members
pub within-cases : (low high low' high' : ℕ) (xs ys : List ℕ) → Rises low high xs → Rises low' high' ys → IsWithin xs ys → (xs ≡ ys) ⊎ (length xs < length ys)
within-cases low high low' high' [] [] r s w = inl refl
within-cases low high low' high' [] (y ∷ ys) r s w = inr (omega arith)
within-cases low high low' high' (x ∷ xs) [] r s w = absurd (Contains-empty x (w 0 x (omega arith)))
within-cases low high low' high' (x ∷ xs) (y ∷ ys) r s w =
    at (Contains-cons y ys x (w 0 x (omega arith)))
    (λ v. within-cases (x + 1) high (y + 1) high' xs ys r.2 s.2 v)
    (λ v. within-cases low high (y + 1) high' (x ∷ xs) ys r s.2 v)
  where
    rest : IsWithin xs (y ∷ ys)
    rest = All-later (Contains (y ∷ ys)) x xs w

    first : x ≡ y → (xs ≡ ys) ⊎ (length xs < length ys) → (x ∷ xs ≡ y ∷ ys) ⊎ (length (x ∷ xs) < length (y ∷ ys))
    first e (inl same) = inl (ap (λ z. z ∷ xs) e ∙ ap (λ zs. y ∷ zs) same)
    first e (inr less) = inr (omega (arith, less))

    shorter : (x ∷ xs ≡ ys) ⊎ (length (x ∷ xs) < length ys) → (x ∷ xs ≡ y ∷ ys) ⊎ (length (x ∷ xs) < length (y ∷ ys))
    shorter (inl same) = inr (omega (arith, ap length same))
    shorter (inr less) = inr (omega (arith, less))

    at : (y ≡ x) ⊎ Contains ys x → (IsWithin xs ys → (xs ≡ ys) ⊎ (length xs < length ys)) → (IsWithin (x ∷ xs) ys → (x ∷ xs ≡ ys) ⊎ (length (x ∷ xs) < length ys))
        → (x ∷ xs ≡ y ∷ ys) ⊎ (length (x ∷ xs) < length (y ∷ ys))
    at (inl e) same later = first (sym e) (same (within-rest y xs ys (λ z c. omega (arith, e, Rises-member (x + 1) high xs z r.2 c)) rest))
    at (inr c) same later =
        shorter (later (within-rest y (x ∷ xs) ys (λ z m. omega (arith, Rises-member (y + 1) high' ys x s.2 c, Rises-member x high (x ∷ xs) z (omega arith, r.1, r.2) m)) w))

-- none of the front of the found sets is within a set
abbrev pub ContainsNoneBefore : List SetWithValues → List ℕ → ℕ → Type 0
ContainsNoneBefore found set i = (k : ℕ) (d : SetWithValues) → k < i → k < length found → ¬ IsWithin (get_or found k d).members set

pub one-contained : (found : List SetWithValues) (set : List ℕ) (i : ℕ) (listed : SetWithValues) → i < length found → listed ≡ get_or found i listed → IsWithin listed.members set
    → ContainsOne (members_of found) set
one-contained found set i listed h at w =
    (listed.members, (i, subst (λ n. i < n) (sym (length-map found (λ (s : SetWithValues). s.members))) h, get_or-map (λ (s : SetWithValues). s.members) found i listed listed.members h ∙ ap (λ (s : SetWithValues). s.members) (sym at)), w)

pub none-contained : (found : List SetWithValues) (set : List ℕ) → ContainsNoneBefore found set (length found) → ¬ ContainsOne (members_of found) set
none-contained [] set none (listed, c, w) = Contains-empty listed c
none-contained (first ∷ found) set none (listed, c, w) =
    at (Contains-cons first.members (members_of found) listed c)
    (λ later. none-contained found set (λ k d h l. none (suc k) d (omega (arith, l)) (omega (arith, l))) (listed, later, w))
  where
    at : (first.members ≡ listed) ⊎ Contains (members_of found) listed → (Contains (members_of found) listed → ⊥) → ⊥
    at (inl e) rest = none 0 first (omega arith) (omega arith) (subst (λ xs. IsWithin xs set) (sym e) w)
    at (inr later) rest = rest later

-- one more of the found sets is not within it
pub none-next : (found : List SetWithValues) (set : List ℕ) (i : ℕ) (listed : SetWithValues) → i < length found → listed ≡ get_or found i listed → ContainsNoneBefore found set i
    → ¬ IsWithin listed.members set → ContainsNoneBefore found set (i + 1)
none-next found set i listed h at none here k d below l = by_place (eq-or-lt_of_le le)
  where
    le : k ≤ i
    le = omega (arith, below)

    by_place : (k ≡ i) ⊎ (k < i) → ¬ IsWithin (get_or found k d).members set
    by_place (inl e) w =
        here (subst (λ (s : SetWithValues). IsWithin s.members set) (ap (λ n. get_or found n d) e ∙ get_or_default found i d listed h ∙ sym at) w)
    by_place (inr less) w = none k d less l w
