-- The clauses of a form are of distinct variables.
use Rattle.std.proofs.Common.{◌≡◌, ◌≢◌, ℕ, zero, suc, ◌+◌, ◌<◌, ◌≤◌, ◌==◌, ◌||◌, ◌&&◌, Bool, true, false, not, List, [], ◌∷◌, ◌++◌, length, Some, None, refl, sym, ◌∙◌, ap, ap₂, arith, All, IsTrue}
use Rattle.std.proofs.lemmas.Bool.{ne_eqb, and_from}
use Rattle.clause_base.specs.declared.literal.Lit.{Lit}
use Rattle.clause_base.specs.Literal.{has_variable, has_distinct_variables, AllDistinct}
use Rattle.gate_base.specs.declared.literal.Literal.{Literal}
use Rattle.gate_base.specs.declared.literal.Literal.TheVariants.{Known, Of}
use Rattle.gate_base.specs.Literals.{opposite, IsBelow, AreOfTwo}
use Rattle.clause_form.specs.Clauses.{simplified, with_literal, clause_of, defined}
use Rattle.clause_form.specs.Variables.{AreBelow}

none-distinct : AllDistinct []
none-distinct k d below = absurd (omega (arith, below))

one-distinct : (clause : List Lit) → has_distinct_variables clause ≡ true → AllDistinct (clause ∷ [])
one-distinct clause is zero d below = is
one-distinct clause is (suc k) d below = absurd (omega (arith, below))

-- a variable behind all of some literals is of none of them
pub has_variable-behind : (n v : ℕ) (xs : List Lit) → AreBelow n xs → n ≤ v → has_variable xs v ≡ false
has_variable-behind n v [] below behind = refl
has_variable-behind n v (x ∷ xs) below behind =
    ap₂ (λ a b. a || b) (ne_eqb x.var v (λ same. omega (arith, same, behind, below.0))) (has_variable-behind n v xs below.1 behind)

distinct-more : (x : Lit) (xs : List Lit) → has_variable xs x.var ≡ false → has_distinct_variables xs ≡ true
    → has_distinct_variables (x ∷ xs) ≡ true
distinct-more x xs apart rest = and_from (not (has_variable xs x.var)) (has_distinct_variables xs) (ap not apart) rest

module _ (base i : ℕ) (selectors : List Lit) (below : AreBelow base selectors) (rest : has_distinct_variables selectors ≡ true) where
  -- the literal of a definition before selectors
  first-distinct : (n : ℕ) (s : Bool) → has_distinct_variables (defined base n s ∷ selectors) ≡ true
  first-distinct n s = distinct-more (defined base n s) selectors (has_variable-behind base (base + n) selectors below (omega arith)) rest

  -- a definition, a literal of an earlier one, and selectors
  pub pair-distinct : (s : Bool) (x : Literal) → IsBelow i x → AllDistinct (clause_of base (Of i s ∷ x ∷ []) selectors)
  unfolding simplified
  pair-distinct s (Known true) x_below = none-distinct
  pair-distinct s (Known false) x_below = one-distinct (defined base i s ∷ selectors) (first-distinct i s)
  pair-distinct s (Of n t) x_below =
      one-distinct (defined base i s ∷ defined base n t ∷ selectors)
      (distinct-more (defined base i s) (defined base n t ∷ selectors)
      (ap₂ (λ a b. a || b) (ne_eqb (base + n) (base + i) (λ same. omega (arith, same, x_below)))
      (has_variable-behind base (base + i) selectors below (omega arith)))
      (first-distinct n t))

-- a definition and literals of two earlier ones
pub triple-distinct : (base i : ℕ) (s : Bool) (x y : Literal) → IsBelow i x → IsBelow i y → AreOfTwo x y
    → AllDistinct (clause_of base (Of i s ∷ opposite x ∷ opposite y ∷ []) [])
unfolding simplified opposite
triple-distinct base i s (Known a) y x_below y_below two = absurd two
triple-distinct base i s (Of n t) (Known b) x_below y_below two = absurd two
triple-distinct base i s (Of n t) (Of m u) x_below y_below two =
    one-distinct (defined base i s ∷ defined base n (not t) ∷ defined base m (not u) ∷ [])
    (distinct-more (defined base i s) (defined base n (not t) ∷ defined base m (not u) ∷ [])
    (ap₂ (λ a b. a || b) (ne_eqb (base + n) (base + i) (λ same. omega (arith, same, x_below)))
    (ap (λ a. a || false) (ne_eqb (base + m) (base + i) (λ same. omega (arith, same, y_below)))))
    (distinct-more (defined base n (not t)) (defined base m (not u) ∷ [])
    (ap (λ a. a || false) (ne_eqb (base + m) (base + n) (λ same. two (omega (arith, same)))))
    (distinct-more (defined base m (not u)) [] refl refl)))

-- one literal
pub single-distinct : (base : ℕ) (x : Literal) → AllDistinct (clause_of base (x ∷ []) [])
unfolding simplified
single-distinct base (Known true) = none-distinct
single-distinct base (Known false) = one-distinct [] refl
single-distinct base (Of n s) = one-distinct (defined base n s ∷ []) (distinct-more (defined base n s) [] refl refl)

pub below-opposite : (i : ℕ) (x : Literal) → IsBelow i x → IsBelow i (opposite x)
unfolding opposite
below-opposite i (Known value) below = tt
below-opposite i (Of n s) below = below
