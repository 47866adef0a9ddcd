-- What the tests of clauses mean.
use Rattle.std.proofs.Common.{◌≡◌, ◌⊎◌, inl, inr, ℕ, ◌<◌, ◌==◌, Bool, true, ◌&&◌, ◌||◌, List, [], ◌∷◌, Option, Some, None}
use Rattle.std.proofs.Common.{refl, ap, sym, ◌∙◌, subst}
use Rattle.std.specs.Prelude.{nat_lt, Contains}
use Rattle.std.specs.List.{list_all}
use Rattle.std.proofs.lemmas.Bool.{false≢true, and_from, and_parts, eq-eqb, lt-ltb, ltb-true, or_cases, or_left, or_right}
use Rattle.loc_base.proofs.ShelfBools.{equal-true}
use Rattle.loc_base.proofs.ShelfLists.{list_any-found, list_any-member}
use Rattle.clause_base.specs.declared.literal.Lit.{Lit}
use Rattle.clause_base.specs.Counted.{ShowsAbsent}
use Rattle.clause_base.specs.Literal.{has, negative, same_lit}
use Rattle.clause_base.proofs.Sets.{lit_ext, same_lit-true, same_lit_itself}
use Rattle.front_cert.specs.Reaches.{is_alone, is_in, is_literal, may_stand, shows_absent}

-- each literal of a clause passes a test that all pass
all-has : (test : Lit → Bool) (clause : List Lit) → list_all test clause ≡ true → (l : Lit) → has clause l ≡ true → test l ≡ true
all-has test [] all l is = absurd (false≢true is)
all-has test (x ∷ clause) all l is =
    (elim (or_cases (same_lit x l) (has clause l) is) [ inl same ↦ ap test (sym (same_lit-true x l same)) ∙ (and_parts (test x) (list_all test clause) all).0 | inr later ↦ all-has test clause (and_parts (test x) (list_all test clause) all).1 l later ])

has-all : (test : Lit → Bool) (clause : List Lit) → ((l : Lit) → has clause l ≡ true → test l ≡ true) → list_all test clause ≡ true
has-all test [] each = refl
has-all test (x ∷ clause) each =
    and_from (test x) (list_all test clause) (each x (or_left (same_lit x x) (has clause x) (same_lit_itself x)))
    (has-all test clause (λ l is. each l (or_right (same_lit x l) (has clause l) is)))

-- the literal is the bound
literal-is : (bound : Option Lit) (l : Lit) → is_literal bound l ≡ true → bound ≡ Some l
literal-is None l is = absurd (false≢true is)
literal-is (Some b) l is = ap Some (same_lit-true b l is)

is-literal : (bound : Option Lit) (l : Lit) → bound ≡ Some l → is_literal bound l ≡ true
is-literal bound l same = subst (λ b. is_literal b l ≡ true) (sym same) (same_lit_itself l)

-- a clause of the bound alone
pub alone-means : (bound : Option Lit) (clause : List Lit) → is_alone bound clause ≡ true → (l : Lit) → has clause l ≡ true → bound ≡ Some l
alone-means bound clause all l is = literal-is bound l (all-has (is_literal bound) clause all l is)

pub means-alone : (bound : Option Lit) (clause : List Lit) → ((l : Lit) → has clause l ≡ true → bound ≡ Some l) → is_alone bound clause ≡ true
means-alone bound clause each = has-all (is_literal bound) clause (λ l is. is-literal bound l (each l is))

-- members
pub is-member : (members : List ℕ) (v : ℕ) → is_in members v ≡ true → Contains members v
is-member members v is =
    let (m, member, same) = list_any-found (λ m. m == v) members is in
    subst (Contains members) (equal-true m v same) member

pub member-is : (members : List ℕ) (v : ℕ) → Contains members v → is_in members v ≡ true
member-is members v member = list_any-member (λ m. m == v) members v member (eq-eqb v v refl)

-- why a literal may stand in a clause that shows x absent
abbrev MayStand : List ℕ → Option Lit → ℕ → Lit → Type 0
MayStand members bound x l = (l ≡ negative x) ⊎ (((m : ℕ) × Contains members m × (m < x) × (l ≡ negative m)) ⊎ (bound ≡ Some l))

module _ (members : List ℕ) (bound : Option Lit) (x : ℕ) where
  abbrev is_among : Lit → Bool
  is_among l = l.var == x || (is_in members l.var && nat_lt l.var x)

  stand-means : (l : Lit) → may_stand members bound x l ≡ true → MayStand members bound x l
  stand-means l stands =
      (elim (or_cases (is_literal bound l) (l.negated && is_among l) stands) [ inl b ↦ inr (inr (literal-is bound l b)) | inr rest ↦ denied (and_parts l.negated (is_among l) rest).0 (and_parts l.negated (is_among l) rest).1 ])
    where
      denied : l.negated ≡ true → is_among l ≡ true → MayStand members bound x l
      denied negated rest =
          (elim (or_cases (l.var == x) (is_in members l.var && nat_lt l.var x) rest) [ inl same ↦ inl (lit_ext l (negative x) (equal-true l.var x same) negated) | inr both ↦ inr (inl (l.var, is-member members l.var (and_parts (is_in members l.var) (nat_lt l.var x) both).0, ltb-true l.var x (and_parts (is_in members l.var) (nat_lt l.var x) both).1, lit_ext l (negative l.var) refl negated)) ])

  means-stand : (l : Lit) → MayStand members bound x l → may_stand members bound x l ≡ true
  means-stand l (inl same) =
      subst (λ (y : Lit). may_stand members bound x y ≡ true) (sym same)
      (or_right (is_literal bound (negative x)) (is_among (negative x)) (or_left (x == x) (is_in members x && nat_lt x x) (eq-eqb x x refl)))
  means-stand l (inr (inl (m, member, less, same))) =
      subst (λ (y : Lit). may_stand members bound x y ≡ true) (sym same)
      (or_right (is_literal bound (negative m)) (is_among (negative m))
      (or_right (m == x) (is_in members m && nat_lt m x) (and_from (is_in members m) (nat_lt m x) (member-is members m member) (lt-ltb m x less))))
  means-stand l (inr (inr is)) = or_left (is_literal bound l) (l.negated && is_among l) (is-literal bound l is)

  -- a clause that shows x absent
  pub absent-means : (clause : List Lit) → shows_absent members bound x clause ≡ true → ShowsAbsent members bound x clause
  absent-means clause all l is = stand-means l (all-has (may_stand members bound x) clause all l is)

  pub means-absent : (clause : List Lit) → ShowsAbsent members bound x clause → shows_absent members bound x clause ≡ true
  means-absent clause each = has-all (may_stand members bound x) clause (λ l is. means-stand l (each l is))
