-- Steps of the loops over definitions, bits, outputs and cycles.
use Rattle.std.proofs.Common.{◌≡◌, ℕ, zero, suc, ◌+◌, ◌-◌, ◌*◌, ◌<◌, ◌≤◌, ◌^◌, Bool, true, false, if◌then◌else◌, List, [], ◌∷◌, ◌++◌, length, get_or, take, drop, refl, sym, ◌∙◌, ap, ap₂, subst, arith, add-one, drop-cons}
use Rattle.std.specs.Prelude.{slice_range}
use Rattle.std.proofs.Math.Nat.{mul-le-mul_right}
use Rattle.std.proofs.lemmas.List.{drop_all, length-drop, length-take-le}
use Rattle.loc_base.proofs.Cut.{start-le, end-le}
use Rattle.loc_base.proofs.ShelfLists.{drop-at}
use Rattle.gate_base.specs.declared.literal.Literal.{Literal}
use Rattle.gate_base.specs.declared.literal.Literal.TheVariants.{Known, Of}
use Rattle.gate_base.specs.declared.node.Node.{Node}
use Rattle.gate_base.specs.declared.node.Node.TheVariants.{Input, State, And, Free}
use Rattle.gate_base.specs.Literals.{opposite, IsBelow}
use Rattle.gate_base.specs.Nodes.{NodeFits, AreOrdered, AreOrderedFrom}
use Rattle.gate_base.proofs.Chains.{drop-literal}
use Rattle.design_core.specs.declared.trace.Checked.{Checked}
use Rattle.clause_base.specs.declared.literal.Lit.{Lit}
use Rattle.unroller.specs.Unrolls.{Unrolling}
use Rattle.unroller.specs.Reads.{IsWordBelow, IsUnrolled}
use Rattle.unroller.proofs.ReadSteps.{word-below}
use Rattle.unroller.proofs.NodeSteps.{drop-node}
use Rattle.clause_form.specs.declared.error.FormErr.{FormErr}
use Rattle.clause_form.specs.declared.error.FormErr.TheVariants.{Literals, NoMemory}
use Rattle.clause_form.specs.Limits.{IsRefused}
use Rattle.clause_form.specs.Clauses.{literals_in, node_clauses, nodes_clauses, bit_clauses, word_clauses, words_clauses, cycle_clauses, cycles_clauses}
use Rattle.clause_form.specs.Fields.{Sunk, after}
use Rattle.clause_form.specs.Variables.{HaveVariables}
use Rattle.clause_form.proofs.SinkSteps.{after-after, after-none, literals_in-append}

-- a refusal's cause, of fewer literals
pub refused-more : (e : FormErr) (m n : ℕ) → m ≤ n → IsRefused e (64000000 < m) → IsRefused e (64000000 < n)
refused-more Literals m n more cause = omega (arith, more, cause)
refused-more NoMemory m n more cause = tt

-- fewer clauses count less
pub count-more : (s : Sunk) (a b : List (List Lit)) → (after s a).count ≤ (after s (a ++ b)).count
count-more s a b = omega (arith, literals_in-append a b)

-- ---- a loop over clauses, the variable of the first definition being the same

module _ (s0 s : Sunk) (whole : List (List Lit)) (f h l : ℕ → List (List Lit)) (rest : after s0 whole ≡ after s (f s.base))
    (at : f s.base ≡ h s.base ++ l s.base) where
  pub walk-step : (next : Sunk) → next ≡ after s (h s.base) → after s0 whole ≡ after next (l next.base)
  walk-step next step =
      rest ∙ ap (after s) at ∙ sym (after-after s (h s.base) (l s.base)) ∙ ap (λ x. after x (l x.base)) (sym step)

  pub walk-count : (after s (h s.base)).count ≤ (after s0 whole).count
  walk-count =
      omega (arith, ap (λ x. x.count) rest, ap (λ cs. (after s cs).count) at, count-more s (h s.base) (l s.base))

pub walk-end : (s0 s : Sunk) (whole left : List (List Lit)) → after s0 whole ≡ after s left → left ≡ [] → s ≡ after s0 whole
walk-end s0 s whole left rest none = sym (rest ∙ ap (after s) none ∙ after-none s)

-- ---- literals have variables

pub have-below : (base n : ℕ) (l : Literal) (rest : List Literal) → IsBelow n l → base + n ≤ 2 ^ 32 → HaveVariables base rest
    → HaveVariables base (l ∷ rest)
have-below base n (Known value) rest below few have = have
have-below base n (Of node negated) rest below few have = (omega (arith, below, few), have)

pub have-opposite : (base : ℕ) (l : Literal) (rest : List Literal) → HaveVariables base (l ∷ rest) → HaveVariables base (opposite l ∷ rest)
unfolding opposite
have-opposite base (Known value) rest have = have
have-opposite base (Of node negated) rest have = have

pub have-word : (base n : ℕ) (word : List Literal) → IsWordBelow n word → base + n ≤ 2 ^ 32 → HaveVariables base word
have-word base n [] below few = tt
have-word base n (l ∷ word) below few = have-below base n l word below.0 few (have-word base n word below.1 few)

have-rest : (base : ℕ) (l : Literal) (rest : List Literal) → HaveVariables base (l ∷ rest) → HaveVariables base rest
have-rest base (Known value) rest have = have
have-rest base (Of node negated) rest have = have.1

have-first : (base : ℕ) (l : Literal) (rest : List Literal) → HaveVariables base (l ∷ rest) → HaveVariables base (l ∷ [])
have-first base (Known value) rest have = tt
have-first base (Of node negated) rest have = (have.0, tt)

-- each of some literals has its variable
pub have-at : (base : ℕ) (word : List Literal) (i : ℕ) → HaveVariables base word → i < length word
    → HaveVariables base (get_or word i (Known false) ∷ [])
have-at base [] i have within = absurd (omega (arith, within))
have-at base (l ∷ word) zero have within = have-first base l word have
have-at base (l ∷ word) (suc i) have within = have-at base word i (have-rest base l word have) (omega (arith, within))

-- ---- definitions

ordered-at : (first : ℕ) (nodes : List Node) (i : ℕ) → AreOrderedFrom first nodes → i < length nodes
    → NodeFits (first + i) (get_or nodes i (Input 0 0))
ordered-at first [] i fit within = absurd (omega (arith, within))
ordered-at first (node ∷ nodes) zero fit within = subst (λ n. NodeFits n node) (omega arith) fit.0
ordered-at first (node ∷ nodes) (suc i) fit within =
    subst (λ n. NodeFits n (get_or nodes i (Input 0 0))) (omega arith)
    (ordered-at (suc first) nodes i fit.1 (omega (arith, within)))

pub fits-at : (first : ℕ) (nodes : List Node) (i : ℕ) → AreOrderedFrom first nodes → i < length nodes
    → NodeFits (first + i) (get_or nodes i (Input 0 0))
fits-at first nodes i fit within = ordered-at first nodes i fit within

module _ (base : ℕ) (selectors : ℕ → List Lit) (definitions : List Node) (i first : ℕ) where
  pub nodes-at : i < length definitions
      → nodes_clauses base selectors (first + i) (drop i definitions)
      ≡ node_clauses base selectors (first + i) (get_or definitions i (Input 0 0))
      ++ nodes_clauses base selectors (first + (i + 1)) (drop (i + 1) definitions)
  unfolding nodes_clauses
  nodes-at within =
      ap (nodes_clauses base selectors (first + i)) (drop-node definitions i within)
      ∙ ap (λ n. node_clauses base selectors (first + i) (get_or definitions i (Input 0 0)) ++ nodes_clauses base selectors n (drop (i + 1) definitions)) sum
    where
      sum : first + i + 1 ≡ first + (i + 1)
      sum = omega arith

  pub nodes-none : length definitions ≤ i → nodes_clauses base selectors (first + i) (drop i definitions) ≡ []
  unfolding nodes_clauses
  nodes-none past = ap (nodes_clauses base selectors (first + i)) (drop_all i definitions past)

-- ---- the bits of an output

module _ (base : ℕ) (checked : Checked) (literals : List Literal) (i : ℕ) where
  pub word-at : i < length literals
      → word_clauses base checked i (drop i literals)
      ≡ bit_clauses base checked i (get_or literals i (Known false)) ++ word_clauses base checked (i + 1) (drop (i + 1) literals)
  unfolding word_clauses
  word-at within = ap (word_clauses base checked i) (drop-literal literals i within)

  pub word-none : length literals ≤ i → word_clauses base checked i (drop i literals) ≡ []
  unfolding word_clauses
  word-none past = ap (word_clauses base checked i) (drop_all i literals past)

-- ---- the outputs of a cycle

pub slice-more : {X : Type 0} (xs : List X) (a b : ℕ) (d : X) → a < b → b ≤ length xs
    → slice_range xs a b ≡ get_or xs a d ∷ slice_range xs (a + 1) b
slice-more xs a b d less within =
    ap (λ ys. take (b - a) ys) (drop-cons xs a d (omega (arith, less, within)))
    ∙ ap (λ m. take m (get_or xs a d ∷ drop (suc a) xs)) count
    ∙ ap (λ m. get_or xs a d ∷ take (b - (a + 1)) (drop m xs)) (sym (add-one a))
  where
    count : b - a ≡ suc (b - (a + 1))
    count = omega (arith, less)

pub slice-none : {X : Type 0} (xs : List X) (a b : ℕ) → b ≤ a → slice_range xs a b ≡ []
slice-none xs a b past = ap (λ m. take m (drop a xs)) count
  where
    count : b - a ≡ 0
    count = omega (arith, past)

module _ (base : ℕ) (expected : List Checked) (rows : List (List Literal)) (o first end : ℕ) (checked : Checked) where
  pub words-at : o < length expected → checked ≡ get_or expected o checked → first + o < end → end ≤ length rows
      → words_clauses base (drop o expected) (slice_range rows (first + o) end)
      ≡ word_clauses base checked 0 (get_or rows (first + o) []) ++ words_clauses base (drop (o + 1) expected) (slice_range rows (first + (o + 1)) end)
  unfolding words_clauses
  words-at within is low in_rows =
      ap₂ (λ es ws. words_clauses base es ws) (drop-at expected o checked within is)
      (slice-more rows (first + o) end [] low in_rows ∙ ap (λ n. get_or rows (first + o) [] ∷ slice_range rows n end) sum)
    where
      sum : first + o + 1 ≡ first + (o + 1)
      sum = omega arith

pub words-none : (base : ℕ) (expected : List Checked) (rows : List (List Literal)) (o : ℕ) → length expected ≤ o
    → words_clauses base (drop o expected) rows ≡ []
unfolding words_clauses
words-none base expected rows o past = ap (λ es. words_clauses base es rows) (drop_all o expected past)

-- ---- cycles

module _ (u : Unrolling) (selectors : ℕ → List Lit) (t : ℕ) where
  abbrev cycle_here : List (List Lit)
  cycle_here = cycle_clauses u selectors t (get_or (0 ∷ u.ends) t 0) (get_or u.ends t 0)

  pub cycles-at : t < length u.ends
      → cycles_clauses u selectors t (get_or (0 ∷ u.ends) t 0) (drop t u.ends)
      ≡ cycle_here ++ cycles_clauses u selectors (t + 1) (get_or (0 ∷ u.ends) (t + 1) 0) (drop (t + 1) u.ends)
  unfolding cycles_clauses
  cycles-at within =
      ap (cycles_clauses u selectors t (get_or (0 ∷ u.ends) t 0))
      (drop-cons u.ends t 0 within ∙ ap (λ n. get_or u.ends t 0 ∷ drop n u.ends) (sym (add-one t)))
      ∙ ap (λ n. cycle_here ++ cycles_clauses u selectors (t + 1) n (drop (t + 1) u.ends)) (ap (λ n. get_or (0 ∷ u.ends) n 0) (sym (add-one t)))

  pub cycles-none : length u.ends ≤ t → cycles_clauses u selectors t (get_or (0 ∷ u.ends) t 0) (drop t u.ends) ≡ []
  unfolding cycles_clauses
  cycles-none past = ap (cycles_clauses u selectors t (get_or (0 ∷ u.ends) t 0)) (drop_all t u.ends past)

-- the definitions of a cycle are ordered
ordered-take : (first : ℕ) (nodes : List Node) (n : ℕ) → AreOrderedFrom first nodes → AreOrderedFrom first (take n nodes)
ordered-take first nodes zero fit = tt
ordered-take first [] (suc n) fit = tt
ordered-take first (node ∷ nodes) (suc n) fit = (fit.0, ordered-take (suc first) nodes n fit.1)

ordered-drop : (first : ℕ) (nodes : List Node) (n : ℕ) → AreOrderedFrom first nodes → AreOrderedFrom (first + n) (drop n nodes)
ordered-drop first nodes zero fit = subst (λ m. AreOrderedFrom m nodes) (omega arith) fit
ordered-drop first [] (suc n) fit = tt
ordered-drop first (node ∷ nodes) (suc n) fit =
    subst (λ m. AreOrderedFrom m (drop n nodes)) (omega arith) (ordered-drop (suc first) nodes n fit.1)

pub ordered-slice : (nodes : List Node) (from end : ℕ) → AreOrdered nodes → AreOrderedFrom from (slice_range nodes from end)
ordered-slice nodes from end fit =
    ordered-take from (drop from nodes) (end - from)
    (subst (λ n. AreOrderedFrom n (drop from nodes)) count (ordered-drop 0 nodes from fit))
  where
    count : 0 + from ≡ from
    count = omega arith

-- ---- what a cycle is made of

one-more : (t w : ℕ) → (t + 1) * w ≡ t * w + w
one-more t w = omega arith

module _ (u : Unrolling) (is : IsUnrolled u) (t : ℕ) (within : t < length u.ends) where
  pub from-end : get_or (0 ∷ u.ends) t 0 ≤ get_or u.ends t 0
  from-end = start-le 0 u.ends (length u.definitions) t is.kept.ends within

  pub end-there : get_or u.ends t 0 ≤ length u.definitions
  end-there = end-le 0 u.ends (length u.definitions) t is.kept.ends within

  row-there : t * u.each + u.each ≤ length u.ends * u.each
  row-there =
      let more : (t + 1) * u.each ≤ length u.ends * u.each = mul-le-mul_right u.each (omega (arith, within)) in
      omega (arith, more, one-more t u.each)

  pub expected-there : t * u.each + u.each ≤ length u.expected
  expected-there = omega (arith, row-there, is.kept.expected_each)

  pub outputs-there : t * u.each + u.each ≤ length u.outputs
  outputs-there = omega (arith, row-there, is.kept.outputs_each)

  pub ordered-cycle : AreOrderedFrom (get_or (0 ∷ u.ends) t 0) (slice_range u.definitions (get_or (0 ∷ u.ends) t 0) (get_or u.ends t 0))
  ordered-cycle = ordered-slice u.definitions (get_or (0 ∷ u.ends) t 0) (get_or u.ends t 0) is.kept.ordered

pub have-outputs : (u : Unrolling) → IsUnrolled u → (i : ℕ) → HaveVariables u.base (get_or u.outputs i [])
have-outputs u is i =
    have-word u.base (length u.definitions) (get_or u.outputs i []) (word-below (length u.definitions) u.outputs i is.kept.outputs)
    (omega (arith, is.some, is.within))

-- the length of a part
pub length-part : {X : Type 0} (xs : List X) (from width : ℕ) → from + width ≤ length xs → length (slice_range xs from (from + width)) ≡ width
length-part xs from width there =
    length-take-le (from + width - from) (drop from xs) (omega (arith, length-drop from xs)) ∙ omega arith

pub slice-ends : {X : Type 0} (xs : List X) (from end : ℕ) → from ≤ end → end ≤ length xs → from + length (slice_range xs from end) ≡ end
slice-ends xs from end order there =
    omega (arith, order, length-take-le (end - from) (drop from xs) (omega (arith, there, length-drop from xs)))
