-- The selectors of the groups with a place, as variables.
use Rattle.std.proofs.Common.{◌≡◌, ◌⊎◌, inl, inr, ℕ, ◌+◌, ◌<◌, ◌≤◌, ◌==◌, Bool, true, false, ◌||◌, if◌then◌else◌, List, [], ◌∷◌, length, map, ap, ◌∙◌, arith}
use Rattle.std.specs.Prelude.{All, Contains}
use Rattle.std.specs.List.{list_any}
use Rattle.std.proofs.lemmas.Bool.{or_cases, or_left, or_right}
use Rattle.std.proofs.lemmas.List.Elements.{All-nil, All-cons}
use Rattle.loc_base.proofs.ShelfLists.{Contains-empty, Contains-first, Contains-later, Contains-cons}
use Rattle.suspect_map.specs.declared.group.Group.{Group}
use Rattle.clause_base.specs.declared.literal.Lit.{Lit}
use Rattle.clause_base.specs.Literal.{positive}
use Rattle.clause_base.specs.Satisfaction.{is_satisfied}
use Rattle.clause_form.specs.Clauses.{selectors_from}

abbrev pub vars : List Lit → List ℕ
vars ls = map (λ (l : Lit). l.var) ls

-- the selectors of a place, by whether the first group has it
abbrev with_first : Bool → ℕ → List Lit → List Lit
with_first is first rest = if is then positive first ∷ rest else rest

-- one of some variables is true
pub record IsOn (a : ℕ → Bool) (xs : List ℕ) : Type 0 where
  pub x : ℕ
  pub member : Contains xs x
  pub on : a x ≡ true

module _ (a : ℕ → Bool) where
  here-on : (first x : ℕ) (rest : List Lit) → (Contains (vars rest) x → is_satisfied a rest ≡ true) → a x ≡ true
      → (first ≡ x) ⊎ Contains (vars rest) x → (a first || is_satisfied a rest) ≡ true
  here-on first x rest behind on (inl same) = or_left (a first) (is_satisfied a rest) (ap a same ∙ on)
  here-on first x rest behind on (inr later) = or_right (a first) (is_satisfied a rest) (behind later)

  first-on : (is : Bool) (first : ℕ) (rest : List Lit) (x : ℕ) → (Contains (vars rest) x → is_satisfied a rest ≡ true)
      → Contains (vars (with_first is first rest)) x → a x ≡ true → is_satisfied a (with_first is first rest) ≡ true
  first-on true first rest x behind member on = here-on first x rest behind on (Contains-cons first (vars rest) x member)
  first-on false first rest x behind member on = behind member

  -- where one of them is true, some literal is
  pub member-satisfies : (place : ℕ) (groups : List Group) (first x : ℕ) → Contains (vars (selectors_from first groups place)) x
      → a x ≡ true → is_satisfied a (selectors_from first groups place) ≡ true
  member-satisfies place [] first x member on = absurd (Contains-empty x member)
  member-satisfies place (g ∷ groups) first x member on =
      first-on (list_any (λ p. p == place) g.places) first (selectors_from (first + 1) groups place) x
      (λ later. member-satisfies place groups (first + 1) x later on) member on

  here-member : (first : ℕ) (rest : List Lit) → (is_satisfied a rest ≡ true → IsOn a (vars rest))
      → (a first ≡ true) ⊎ (is_satisfied a rest ≡ true) → IsOn a (first ∷ vars rest)
  here-member first rest behind (inl here) = record { x = first; member = Contains-first first (vars rest); on = here }
  here-member first rest behind (inr later) =
      let b = behind later in record { x = b.x; member = Contains-later first (vars rest) b.x b.member; on = b.on }

  first-member : (is : Bool) (first : ℕ) (rest : List Lit) → (is_satisfied a rest ≡ true → IsOn a (vars rest))
      → is_satisfied a (with_first is first rest) ≡ true → IsOn a (vars (with_first is first rest))
  first-member true first rest behind holds = here-member first rest behind (or_cases (a first) (is_satisfied a rest) holds)
  first-member false first rest behind holds = behind holds

  -- and the other way round
  pub satisfied-member : (place : ℕ) (groups : List Group) (first : ℕ) → is_satisfied a (selectors_from first groups place) ≡ true
      → IsOn a (vars (selectors_from first groups place))
  satisfied-member place [] first holds = cc
  satisfied-member place (g ∷ groups) first holds =
      first-member (list_any (λ p. p == place) g.places) first (selectors_from (first + 1) groups place)
      (λ later. satisfied-member place groups (first + 1) later) holds

module _ (P : ℕ → Type 0) where
  first-holds : (is : Bool) (first : ℕ) (rest : List Lit) → P first → All P (vars rest) → All P (vars (with_first is first rest))
  first-holds true first rest here all = All-cons P first (vars rest) here all
  first-holds false first rest here all = all

  -- what is true of the numbers of all groups is true of each of them
  pub selectors-hold : (place : ℕ) (groups : List Group) (first : ℕ) → ((x : ℕ) → first ≤ x → x < first + length groups → P x)
      → All P (vars (selectors_from first groups place))
  selectors-hold place [] first each = All-nil P
  selectors-hold place (g ∷ groups) first each =
      first-holds (list_any (λ p. p == place) g.places) first (selectors_from (first + 1) groups place) (each first (omega arith) (omega arith))
      (selectors-hold place groups (first + 1) (λ x from below. each x (omega (arith, from)) (omega (arith, below))))

-- they stand before a variable behind those of all groups
pub selectors-below : (place : ℕ) (groups : List Group) (first n : ℕ) → first + length groups ≤ n
    → All (λ x. x < n) (vars (selectors_from first groups place))
selectors-below place groups first n room =
    selectors-hold (λ x. x < n) place groups first (λ x from below. omega (arith, from, below, room))
