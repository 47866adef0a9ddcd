-- The variables of a form's clauses: the cycles name selectors and definitions alone, the counter selectors and counters.
use Rattle.std.proofs.Common.{◌≡◌, ◌⊎◌, inl, inr, ℕ, zero, suc, ◌+◌, ◌-◌, ◌*◌, ◌<◌, ◌≤◌, Bool, true, false, if◌then◌else◌, List, [], ◌∷◌, ◌++◌, length, take, drop, Option, Some, None, refl, sym, subst, arith}
use Rattle.std.specs.Prelude.{All, nat_le, ◌==◌}
use Rattle.std.specs.List.{list_any}
use Rattle.std.proofs.lemmas.Bool.{cases_Bool, leb-true, leb-false}
use Rattle.std.proofs.lemmas.List.Elements.{All-nil, All-cons, All-append}
use Rattle.std.proofs.lemmas.Option.{slice_get_within}
use Rattle.loc_base.proofs.ShelfBools.{if-true, if-false}
use Rattle.loc_base.specs.Bits.{bit_of}
use Rattle.gate_base.specs.declared.literal.Literal.{Literal}
use Rattle.gate_base.specs.declared.literal.Literal.TheVariants.{Known, Of}
use Rattle.gate_base.specs.declared.node.Node.{Node}
use Rattle.gate_base.specs.declared.node.Node.TheVariants.{Input, State, And, Free}
use Rattle.gate_base.specs.Literals.{opposite, IsBelow}
use Rattle.gate_base.specs.Nodes.{NodeFits}
use Rattle.suspect_map.specs.declared.group.Group.{Group}
use Rattle.design_core.specs.declared.trace.Checked.{Checked}
use Rattle.design_core.specs.Given.{row}
use Rattle.clause_base.specs.declared.literal.Lit.{Lit}
use Rattle.clause_base.specs.Literal.{positive, negative, IsWithin}
use Rattle.clause_base.specs.Literal as literal
use Rattle.card_counter.specs.Places.{width, starts, at_least}
use Rattle.card_counter.specs.Counter.{carries, counts_on, pair, pairs, counter_from}
use Rattle.card_counter.specs.InForm.{literals_from}
use Rattle.card_counter.proofs.Counting.{starts-within}
use Rattle.unroller.specs.Unrolls.{Unrolling}
use Rattle.unroller.specs.Reads.{IsWordBelow, AreWordsBelow, AreKept}
use Rattle.clause_form.specs.Clauses.{with_literal, simplified, with_selectors, clause_of, selectors_from, selectors_of, and_clauses, free_clauses, node_clauses, bit_clauses, word_clauses, words_clauses, cycles_clauses}
use Rattle.form_laws.proofs.Definitions.{ordered-at}
use Rattle.form_laws.proofs.Splits.{cycles-hold}

-- ---- the clauses of cycles

-- the literal is a selector, up to n, or a definition, from `base` on and before `end`
abbrev pub IsNamed : ℕ → ℕ → ℕ → Lit → Type 0
IsNamed n base end l = ((1 ≤ l.var) × (l.var ≤ n)) ⊎ ((base ≤ l.var) × (l.var < end))

abbrev pub AreNamed : ℕ → ℕ → ℕ → List Lit → Type 0
AreNamed n base end clause = All (IsNamed n base end) clause

module _ (n base count : ℕ) where
  abbrev Named : List Lit → Type 0
  Named clause = AreNamed n base (base + count) clause

  -- what there is of a clause names these alone
  abbrev OptionNamed : Option (List Lit) → Type 0
  OptionNamed None = Unit {0}
  OptionNamed (Some clause) = Named clause

  with-named : (l : Lit) (o : Option (List Lit)) → IsNamed n base (base + count) l → OptionNamed o → OptionNamed (with_literal l o)
  with-named l None is rest = tt
  with-named l (Some clause) is rest = All-cons (IsNamed n base (base + count)) l clause is rest

  simplified-named : (xs : List Literal) → IsWordBelow count xs → OptionNamed (simplified base xs)
  unfolding simplified
  simplified-named [] below = All-nil (IsNamed n base (base + count))
  simplified-named (Known true ∷ xs) below = tt
  simplified-named (Known false ∷ xs) below = simplified-named xs below.1
  simplified-named (Of node negated ∷ xs) below =
      with-named (record { var = base + node; negated = negated }) (simplified base xs)
      (inr (omega arith, omega (arith, below.0))) (simplified-named xs below.1)

  option-named : (o : Option (List Lit)) (selectors : List Lit) → OptionNamed o → Named selectors → All Named (with_selectors o selectors)
  option-named None selectors is rest = All-nil Named
  option-named (Some clause) selectors is rest =
      All-cons Named (clause ++ selectors) [] (All-append (IsNamed n base (base + count)) clause selectors is rest) (All-nil Named)

  clause-named : (xs : List Literal) (selectors : List Lit) → IsWordBelow count xs → Named selectors
      → All Named (clause_of base xs selectors)
  clause-named xs selectors below rest = option-named (simplified base xs) selectors (simplified-named xs below) rest

  none-named : Named []
  none-named = All-nil (IsNamed n base (base + count))

  opposite-below : (l : Literal) → IsBelow count l → IsBelow count (opposite l)
  unfolding opposite
  opposite-below (Known value) below = tt
  opposite-below (Of node negated) below = below

  more-below : (i : ℕ) (l : Literal) → i ≤ count → IsBelow i l → IsBelow count l
  more-below i (Known value) few below = tt
  more-below i (Of node negated) few below = omega (arith, few, below)

  module _ (selectors : ℕ → List Lit) (selected : (place : ℕ) → Named (selectors place)) where
    pub node-named : (i : ℕ) (node : Node) → i < count → NodeFits i node → All Named (node_clauses base selectors i node)
    unfolding node_clauses and_clauses free_clauses
    node-named i (Input input bit) within fits = All-nil Named
    node-named i (State state bit) within fits = All-nil Named
    node-named i (And left right) within fits =
        let x = more-below i left (omega (arith, within)) fits.0 in
        let y = more-below i right (omega (arith, within)) fits.1 in
        All-append Named (clause_of base (Of i true ∷ left ∷ []) [])
        (clause_of base (Of i true ∷ right ∷ []) [] ++ clause_of base (Of i false ∷ opposite left ∷ opposite right ∷ []) [])
        (clause-named (Of i true ∷ left ∷ []) [] (within, (x, tt)) none-named)
        (All-append Named (clause_of base (Of i true ∷ right ∷ []) [])
        (clause_of base (Of i false ∷ opposite left ∷ opposite right ∷ []) [])
        (clause-named (Of i true ∷ right ∷ []) [] (within, (y, tt)) none-named)
        (clause-named (Of i false ∷ opposite left ∷ opposite right ∷ []) []
        (within, (opposite-below left x, (opposite-below right y, tt))) none-named))
    node-named i (Free moment place bit computed) within fits =
        let f = more-below i computed (omega (arith, within)) fits in
        All-append Named (clause_of base (Of i true ∷ computed ∷ []) (selectors place))
        (clause_of base (Of i false ∷ opposite computed ∷ []) (selectors place))
        (clause-named (Of i true ∷ computed ∷ []) (selectors place) (within, (f, tt)) (selected place))
        (clause-named (Of i false ∷ opposite computed ∷ []) (selectors place) (within, (opposite-below computed f, tt)) (selected place))

  expected-below : (value : Bool) (l : Literal) → IsBelow count l → IsBelow count (if value then l else opposite l)
  expected-below true l below = below
  expected-below false l below = opposite-below l below

  bit-named : (checked value : Bool) (l : Literal) → IsBelow count l
      → All Named (if checked then clause_of base ((if value then l else opposite l) ∷ []) [] else [])
  bit-named true value l below =
      clause-named ((if value then l else opposite l) ∷ []) [] (expected-below value l below, tt) none-named
  bit-named false value l below = All-nil Named

  word-named : (checked : Checked) (bit : ℕ) (word : List Literal) → IsWordBelow count word → All Named (word_clauses base checked bit word)
  unfolding word_clauses bit_clauses
  word-named checked bit [] below = All-nil Named
  word-named checked bit (l ∷ word) below =
      All-append Named (bit_clauses base checked bit l) (word_clauses base checked (bit + 1) word)
      (bit-named (bit_of checked.mask bit) (bit_of checked.value bit) l below.0) (word-named checked (bit + 1) word below.1)

  pub words-named : (expected : List Checked) (words : List (List Literal)) → AreWordsBelow count words
      → All Named (words_clauses base expected words)
  unfolding words_clauses
  words-named [] words below = All-nil Named
  words-named (checked ∷ expected) [] below = All-nil Named
  words-named (checked ∷ expected) (word ∷ words) below =
      All-append Named (word_clauses base checked 0 word) (words_clauses base expected words)
      (word-named checked 0 word below.0) (words-named expected words below.1)

-- the words of a cycle are among all
drop-below : (count i : ℕ) (words : List (List Literal)) → AreWordsBelow count words → AreWordsBelow count (drop i words)
drop-below count zero words below = below
drop-below count (suc i) [] below = tt
drop-below count (suc i) (word ∷ words) below = drop-below count i words below.1

take-below : (count i : ℕ) (words : List (List Literal)) → AreWordsBelow count words → AreWordsBelow count (take i words)
take-below count zero words below = tt
take-below count (suc i) [] below = tt
take-below count (suc i) (word ∷ words) below = (below.0, take-below count i words below.1)

row-below : (count width t : ℕ) (words : List (List Literal)) → AreWordsBelow count words → AreWordsBelow count (row words width t)
row-below count width t words below =
    take-below count (t * width + width - t * width) (drop (t * width) words) (drop-below count (t * width) words below)

-- selectors are of numbers of groups
selectors-named : (n base end first : ℕ) (groups : List Group) (place : ℕ) → 1 ≤ first → first + length groups ≤ n + 1
    → AreNamed n base end (selectors_from first groups place)
selectors-named n base end first [] place some few = All-nil (IsNamed n base end)
selectors-named n base end first (group ∷ groups) place some few =
    at (list_any (λ p. p == place) group.places) (selectors-named n base end (first + 1) groups place (omega arith) (omega (arith, few)))
  where
    at : (is : Bool) → AreNamed n base end (selectors_from (first + 1) groups place)
        → AreNamed n base end
        (if is then positive first ∷ selectors_from (first + 1) groups place else selectors_from (first + 1) groups place)
    at true rest =
        All-cons (IsNamed n base end) (positive first) (selectors_from (first + 1) groups place) (inl (some, omega (arith, few))) rest
    at false rest = rest

-- the clauses of the cycles name selectors and definitions
pub cycles-named : (u : Unrolling) (groups : List Group) → AreKept u
    → All (AreNamed (length groups) u.base (u.base + length u.definitions)) (cycles_clauses u (selectors_of groups) 0 0 u.ends)
cycles-named u groups kept =
    let n = length groups in
    let count = length u.definitions in
    cycles-hold (AreNamed n u.base (u.base + count)) u (selectors_of groups) 0 0 u.ends kept.ends (record {
      definitions = λ i node from there.
          let within : i < count = slice_get_within u.definitions i node there in
          node-named n u.base count (selectors_of groups)
          (λ place. selectors-named n u.base (u.base + count) 1 groups place (omega arith) (omega arith)) i node within
          (subst (λ m. NodeFits m node) (at-start i) (ordered-at 0 u.definitions i node kept.ordered there));
      outputs = λ i less. words-named n u.base count (row u.expected u.each (0 + i)) (row u.outputs u.each (0 + i))
          (row-below count u.each (0 + i) u.outputs kept.outputs);
    })
  where
    at-start : (i : ℕ) → 0 + i ≡ i
    at-start i = omega arith

-- ---- the clauses of the counter

module _ (n k vars : ℕ) (room : n + starts k (n + 1) ≤ vars) where
  abbrev Counted : Lit → Type 0
  Counted l = (1 ≤ l.var) × (l.var ≤ vars)

  counter-within : (i m : ℕ) → i ≤ n → 1 ≤ m → m ≤ width k i
      → (1 ≤ at_least (n + 1) k i m) × (at_least (n + 1) k i m ≤ vars)
  counter-within i m low some few =
      let next : starts k i + width k i ≤ starts k (n + 1) = starts-within k i (n + 1) (omega (arith, low)) in
      (omega arith, omega (arith, room, next, some, few))

  module _ (i : ℕ) (low : i < n) (x : Lit) (x_within : Counted x) where
    abbrev first : ℕ
    first = n + 1

    less-wide : (m : ℕ) → 1 < m → m ≤ width k (i + 1) → m - 1 ≤ width k i
    less-wide m more few = omega (arith, more, few)

    module _ (m : ℕ) (some : 1 ≤ m) (few : m ≤ width k (i + 1)) where
      abbrev carry : List Lit
      carry = negative (at_least first k i m) ∷ positive (at_least first k (i + 1) m) ∷ []

      abbrev begin : List Lit
      begin = literal.opposite x ∷ positive (at_least first k (i + 1) m) ∷ []

      abbrev on : List Lit
      on = literal.opposite x ∷ negative (at_least first k i (m - 1)) ∷ positive (at_least first k (i + 1) m) ∷ []

      last : All Counted (positive (at_least first k (i + 1) m) ∷ [])
      last =
          All-cons Counted (positive (at_least first k (i + 1) m)) [] (counter-within (i + 1) m (omega (arith, low)) some few) (All-nil Counted)

      carries-at : (nat_le m (width k i) ≡ true) ⊎ (nat_le m (width k i) ≡ false) → All (All Counted) (carries first k i m)
      carries-at (inl is) =
          subst (All (All Counted)) (sym (if-true (nat_le m (width k i)) (carry ∷ []) [] (carry ∷ []) is refl))
          (All-cons (All Counted) carry []
          (All-cons Counted (negative (at_least first k i m)) (positive (at_least first k (i + 1) m) ∷ [])
          (counter-within i m (omega (arith, low)) some (leb-true m (width k i) is)) last) (All-nil (All Counted)))
      carries-at (inr other) =
          subst (All (All Counted)) (sym (if-false (nat_le m (width k i)) (carry ∷ []) [] [] other refl)) (All-nil (All Counted))

      counts-at : (nat_le m 1 ≡ true) ⊎ (nat_le m 1 ≡ false) → All Counted (counts_on first k i x m)
      counts-at (inl is) =
          subst (All Counted) (sym (if-true (nat_le m 1) begin on begin is refl))
          (All-cons Counted (literal.opposite x) (positive (at_least first k (i + 1) m) ∷ []) x_within last)
      counts-at (inr other) =
          let more : 1 < m = leb-false m 1 other in
          subst (All Counted) (sym (if-false (nat_le m 1) begin on on other refl))
          (All-cons Counted (literal.opposite x)
          (negative (at_least first k i (m - 1)) ∷ positive (at_least first k (i + 1) m) ∷ []) x_within
          (All-cons Counted (negative (at_least first k i (m - 1))) (positive (at_least first k (i + 1) m) ∷ [])
          (counter-within i (m - 1) (omega (arith, low)) (omega (arith, more)) (less-wide m more few)) last))

      pair-within : All (All Counted) (pair first k i x m)
      pair-within =
          All-append (All Counted) (carries first k i m) (counts_on first k i x m ∷ []) (carries-at (cases_Bool (nat_le m (width k i))))
          (All-cons (All Counted) (counts_on first k i x m) [] (counts-at (cases_Bool (nat_le m 1))) (All-nil (All Counted)))

    pairs-within : (m count : ℕ) → 1 ≤ m → m + count ≤ width k (i + 1) + 1 → All (All Counted) (pairs first k i x m count)
    pairs-within m zero some few = All-nil (All Counted)
    pairs-within m (suc count) some few =
        All-append (All Counted) (pair first k i x m) (pairs first k i x (m + 1) count)
        (pair-within m some (omega (arith, few)))
        (pairs-within (m + 1) count (omega arith) (omega (arith, few)))

  -- the clauses of the selectors from one on, so many
  pub counter-named : (i count : ℕ) → i + count ≤ n → All (All Counted) (counter_from (n + 1) k i (literals_from (i + 1) count))
  counter-named i zero few = All-nil (All Counted)
  counter-named i (suc count) few =
      All-append (All Counted) (pairs (n + 1) k i (positive (i + 1)) 1 (width k (i + 1)))
      (counter_from (n + 1) k (i + 1) (literals_from (i + 1 + 1) count))
      (pairs-within i (omega (arith, few)) (positive (i + 1)) (omega arith, omega (arith, few, room)) 1 (width k (i + 1))
      (omega arith) (omega arith))
      (counter-named (i + 1) count (omega (arith, few)))
