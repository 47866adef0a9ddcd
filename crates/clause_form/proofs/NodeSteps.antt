-- The clauses of one definition after another.
use Rattle.std.proofs.Common.{◌≡◌, ℕ, ◌+◌, ◌<◌, ◌≤◌, ◌^◌, true, false, List, [], ◌∷◌, ◌++◌, get_or, refl, sym, ◌∙◌, ap, ap₂, arith, append_assoc, Bool, if◌then◌else◌, subst}
use Rattle.loc_base.specs.Bits.{bit_of}
use Rattle.design_core.specs.declared.trace.Checked.{Checked}
use Rattle.clause_base.specs.declared.literal.Lit.{Lit}
use Rattle.clause_base.specs.Literal.{has_distinct_variables, AllDistinct}
use Rattle.gate_base.specs.declared.literal.Literal.{Literal}
use Rattle.gate_base.specs.declared.literal.Literal.TheVariants.{Of}
use Rattle.gate_base.specs.declared.node.Node.TheVariants.{Input, State, And, Free}
use Rattle.gate_base.specs.Literals.{opposite, IsBelow, AreOfTwo}
use Rattle.clause_form.specs.Clauses.{clause_of, and_clauses, bit_clauses, free_clauses, node_clauses}
use Rattle.clause_form.specs.Fields.{Sunk, after}
use Rattle.clause_form.specs.Variables.{AreBelow, HaveVariables, AreSelectors}
use Rattle.clause_form.proofs.SinkSteps.{after-after, after-none}
use Rattle.clause_form.proofs.WalkSteps.{refused-more, count-more, have-below, have-opposite}
use Rattle.clause_form.proofs.Distinct.{pair-distinct, triple-distinct, single-distinct, below-opposite}

-- ---- variables and distinct variables

module _ (base i : ℕ) (few : base + i < 2 ^ 32) where
  pub pair-have : (s : Bool) (x : Literal) → IsBelow i x → HaveVariables base (Of i s ∷ x ∷ [])
  pair-have s x below = (few, have-below base i x [] below (omega (arith, few)) tt)

  pub triple-have : (s : Bool) (x y : Literal) → IsBelow i x → IsBelow i y → HaveVariables base (Of i s ∷ opposite x ∷ opposite y ∷ [])
  triple-have s x y x_below y_below = (
    few,
    have-below base i (opposite x) (opposite y ∷ []) (below-opposite i x x_below) (omega (arith, few))
        (have-below base i (opposite y) [] (below-opposite i y y_below) (omega (arith, few)) tt),
  )

pub triple-have_at : (base b i : ℕ) (s : Bool) (x y u v : Literal) → b ≡ base → u ≡ opposite x → v ≡ opposite y → base + i < 2 ^ 32 → IsBelow i x
    → IsBelow i y → HaveVariables b (Of i s ∷ u ∷ v ∷ [])
triple-have_at base b i s x y u v is_base is_u is_v few x_below y_below =
    subst (λ z. HaveVariables z (Of i s ∷ u ∷ v ∷ [])) (sym is_base)
    (subst (λ z. HaveVariables base (Of i s ∷ z ∷ v ∷ [])) (sym is_u)
    (subst (λ z. HaveVariables base (Of i s ∷ opposite x ∷ z ∷ [])) (sym is_v) (triple-have base i few s x y x_below y_below)))

pub triple-distinct_at : (base i : ℕ) (s : Bool) (x y u v : Literal) → u ≡ opposite x → v ≡ opposite y → IsBelow i x → IsBelow i y
    → AreOfTwo x y → AllDistinct (clause_of base (Of i s ∷ u ∷ v ∷ []) [])
triple-distinct_at base i s x y u v is_u is_v x_below y_below two =
    rw (is_u, is_v) (triple-distinct base i s x y x_below y_below two)

pub pair-have_at : (base b i : ℕ) (s : Bool) (x u : Literal) → b ≡ base → u ≡ opposite x → base + i < 2 ^ 32 → IsBelow i x
    → HaveVariables b (Of i s ∷ u ∷ [])
pair-have_at base b i s x u is_base is_u few x_below =
    subst (λ z. HaveVariables z (Of i s ∷ u ∷ [])) (sym is_base)
    (subst (λ z. HaveVariables base (Of i s ∷ z ∷ [])) (sym is_u) (pair-have base i few s (opposite x) (below-opposite i x x_below)))

pub pair-distinct_at : (base b i : ℕ) (selectors : List Lit) (s : Bool) (x u : Literal) → b ≡ base → u ≡ opposite x → AreBelow base selectors
    → has_distinct_variables selectors ≡ true → IsBelow i x → AllDistinct (clause_of b (Of i s ∷ u ∷ []) selectors)
pair-distinct_at base b i selectors s x u is_base is_u below distinct x_below =
    rw (is_base, is_u) (pair-distinct base i selectors below distinct s (opposite x) (below-opposite i x x_below))

-- ---- clauses behind clauses, the variable of the first definition being the same

pub then-one : (s0 s1 : Sunk) (a : List (List Lit)) (f : ℕ → List (List Lit)) (s2 : Sunk)
    → s1 ≡ after s0 a → s2 ≡ after s1 (f s1.base) → s2 ≡ after s0 (a ++ f s0.base)
then-one s0 s1 a f s2 one two =
    two ∙ ap (λ s. after s (f s.base)) one ∙ after-after s0 a (f s0.base)

-- ---- the clauses of an AND

module _ (s0 : Sunk) (i : ℕ) (x y : Literal) where
  abbrev one_of : ℕ → List (List Lit)
  one_of base = clause_of base (Of i true ∷ x ∷ []) []

  abbrev two_of : ℕ → List (List Lit)
  two_of base = clause_of base (Of i true ∷ y ∷ []) []

  abbrev three_of : ℕ → List (List Lit)
  three_of base = clause_of base (Of i false ∷ opposite x ∷ opposite y ∷ []) []

  and-whole : (s1 s2 s3 : Sunk) → s1 ≡ after s0 (one_of s0.base) → s2 ≡ after s1 (two_of s1.base)
      → s3 ≡ after s2 (three_of s2.base) → s3 ≡ after s0 (and_clauses s0.base i x y)
  unfolding and_clauses
  and-whole s1 s2 s3 one two three =
      then-one s0 s2 (one_of s0.base ++ two_of s0.base) three_of s3 (then-one s0 s1 (one_of s0.base) two_of s2 one two) three
      ∙ ap (after s0) (append_assoc (one_of s0.base) (two_of s0.base) (three_of s0.base))

  pub and-done : (s1 s2 s3 : Sunk) (u v : Literal) → s1 ≡ after s0 (one_of s0.base) → s2 ≡ after s1 (two_of s1.base)
      → u ≡ opposite x → v ≡ opposite y → s3 ≡ after s2 (clause_of s2.base (Of i false ∷ u ∷ v ∷ []) [])
      → s3 ≡ after s0 (and_clauses s0.base i x y)
  and-done s1 s2 s3 u v one two is_u is_v three =
      and-whole s1 s2 s3 one two (three ∙ ap₂ (λ p q. after s2 (clause_of s2.base (Of i false ∷ p ∷ q ∷ []) [])) is_u is_v)

  pub and-count-one : (after s0 (one_of s0.base)).count ≤ (after s0 (and_clauses s0.base i x y)).count
  unfolding and_clauses
  and-count-one = count-more s0 (one_of s0.base) (two_of s0.base ++ three_of s0.base)

  pub and-count-two : (s1 : Sunk) → s1 ≡ after s0 (one_of s0.base)
      → (after s1 (two_of s1.base)).count ≤ (after s0 (and_clauses s0.base i x y)).count
  unfolding and_clauses
  and-count-two s1 one =
      omega (
        arith,
        ap (λ s. s.count) (then-one s0 s1 (one_of s0.base) two_of (after s1 (two_of s1.base)) one refl),
        count-more s0 (one_of s0.base ++ two_of s0.base) (three_of s0.base),
        ap (λ cs. (after s0 cs).count) (append_assoc (one_of s0.base) (two_of s0.base) (three_of s0.base)),
      )

  pub and-count-three : (s1 s2 : Sunk) (u v : Literal) → s1 ≡ after s0 (one_of s0.base) → s2 ≡ after s1 (two_of s1.base)
      → u ≡ opposite x → v ≡ opposite y
      → (after s2 (clause_of s2.base (Of i false ∷ u ∷ v ∷ []) [])).count ≤ (after s0 (and_clauses s0.base i x y)).count
  and-count-three s1 s2 u v one two is_u is_v =
      omega (arith, ap (λ s. s.count) (and-done s1 s2 (after s2 (clause_of s2.base (Of i false ∷ u ∷ v ∷ []) [])) u v one two is_u is_v refl))

-- ---- those of a bit of a place

module _ (s0 : Sunk) (selectors : List Lit) (i : ℕ) (f : Literal) where
  abbrev with_of : ℕ → List (List Lit)
  with_of base = clause_of base (Of i true ∷ f ∷ []) selectors

  abbrev without_of : ℕ → List (List Lit)
  without_of base = clause_of base (Of i false ∷ opposite f ∷ []) selectors

  pub free-done : (s1 s2 : Sunk) (g : Literal) → s1 ≡ after s0 (with_of s0.base) → g ≡ opposite f
      → s2 ≡ after s1 (clause_of s1.base (Of i false ∷ g ∷ []) selectors) → s2 ≡ after s0 (free_clauses s0.base selectors i f)
  unfolding free_clauses
  free-done s1 s2 g one is_g two =
      then-one s0 s1 (with_of s0.base) without_of s2 one
      (two ∙ ap (λ p. after s1 (clause_of s1.base (Of i false ∷ p ∷ []) selectors)) is_g)

  pub free-count-one : (after s0 (with_of s0.base)).count ≤ (after s0 (free_clauses s0.base selectors i f)).count
  unfolding free_clauses
  free-count-one = count-more s0 (with_of s0.base) (without_of s0.base)

  pub free-count-two : (s1 : Sunk) (g : Literal) → s1 ≡ after s0 (with_of s0.base) → g ≡ opposite f
      → (after s1 (clause_of s1.base (Of i false ∷ g ∷ []) selectors)).count ≤ (after s0 (free_clauses s0.base selectors i f)).count
  free-count-two s1 g one is_g =
      omega (arith, ap (λ s. s.count) (free-done s1 (after s1 (clause_of s1.base (Of i false ∷ g ∷ []) selectors)) g one is_g refl))

pub ruleset nodes = (after-none)

-- ---- the clause of a bit

pub opposite-have_at : (base : ℕ) (x u : Literal) → u ≡ opposite x → HaveVariables base (x ∷ []) → HaveVariables base (u ∷ [])
opposite-have_at base x u is have = rw is (have-opposite base x [] have)

-- a bit that isn't checked
pub bit-none : (s : Sunk) (checked : Checked) (bit : ℕ) (l : Literal) → bit_of checked.mask bit ≡ false
    → after s (bit_clauses s.base checked bit l) ≡ s
unfolding bit_clauses
bit-none s checked bit l is =
    ap (λ b. after s (if b then clause_of s.base ((if bit_of checked.value bit then l else opposite l) ∷ []) [] else [])) is ∙ after-none s

pub ruleset bits = (single-distinct, opposite-have_at, bit-none)
