-- How many literals and clauses there are at most: so many for each definition, and one for each bit of an output.
use Rattle.std.proofs.Common.{◌≡◌, ℕ, suc, ◌+◌, ◌-◌, ◌*◌, ◌<◌, ◌≤◌, Bool, true, false, if◌then◌else◌, List, [], ◌∷◌, ◌++◌, length, get_or, take, drop, Option, Some, None, refl, sym, ◌∙◌, ap, arith, length-append}
use Rattle.std.specs.Prelude.{slice_range}
use Rattle.std.proofs.Math.Nat.{mul-le-mul_right}
use Rattle.std.proofs.lemmas.List.{drop-drop, length-take, take-append-drop, take_all, take_more}
use Rattle.loc_base.specs.Rows.{EndsAscend}
use Rattle.loc_base.specs.Bits.{bit_of}
use Rattle.design_core.specs.declared.trace.Checked.{Checked}
use Rattle.design_core.specs.Given.{row}
use Rattle.clause_base.specs.declared.literal.Lit.{Lit}
use Rattle.gate_base.specs.declared.literal.Literal.{Literal}
use Rattle.gate_base.specs.declared.literal.Literal.TheVariants.{Known, Of}
use Rattle.gate_base.specs.declared.node.Node.{Node}
use Rattle.gate_base.specs.declared.node.Node.TheVariants.{Input, State, And, Free}
use Rattle.gate_base.specs.Literals.{opposite}
use Rattle.unroller.specs.Unrolls.{Unrolling}
use Rattle.unroller.specs.Reads.{IsUnrolled}
use Rattle.clause_form.specs.declared.beginning.Beginning.{Beginning}
use Rattle.clause_form.specs.Clauses.{simplified, with_literal, with_selectors, clause_of, and_clauses, free_clauses, node_clauses, nodes_clauses, bit_clauses, word_clauses, words_clauses, cycle_clauses, cycles_clauses, literals_in, defined}
use Rattle.clause_form.specs.Fields.{CanBegin, whole_of}
use Rattle.clause_form.specs.Variables.{bits_in}
use Rattle.clause_form.proofs.SinkSteps.{literals_in-append, literals_in-one}

-- ---- bits of words

bits-append : (a b : List (List Literal)) → bits_in (a ++ b) ≡ bits_in a + bits_in b
bits-append [] b = omega arith
bits-append (word ∷ a) b = omega (arith, bits-append a b)

pub bits-more : (words : List (List Literal)) (i : ℕ) → i < length words
    → bits_in (take (i + 1) words) ≡ bits_in (take i words) + length (get_or words i [])
bits-more words i within =
    ap bits_in (take_more words i [] within) ∙ bits-append (take i words) (get_or words i [] ∷ []) ∙ omega arith

pub bits-end : (words : List (List Literal)) (i : ℕ) → length words ≤ i → bits_in (take i words) ≡ bits_in words
bits-end words i past = ap bits_in (take_all i words past)

pub ruleset bits = (bits-more, bits-end)

-- ---- a count of clauses, which is no more than so many for each definition

pub record IsCount (count : List (List Lit) → ℕ) (base : ℕ) (selectors : ℕ → List Lit) (each : ℕ) : Type 0 where
  pub none : count [] ≡ 0
  pub append : (a b : List (List Lit)) → count (a ++ b) ≡ count a + count b
  pub node : (i : ℕ) (node : Node) → count (node_clauses base selectors i node) ≤ each
  pub bit : (checked : Checked) (bit : ℕ) (l : Literal) → count (bit_clauses base checked bit l) ≤ 1

more-one : (n each : ℕ) → suc n * each ≡ n * each + each
more-one n each = omega arith

more-row : (t each : ℕ) → t * each + each ≡ (t + 1) * each
more-row t each = omega arith

width-is : (from each : ℕ) → from + each - from ≡ each
width-is from each = omega arith

length-slice : {X : Type 0} (xs : List X) (from end : ℕ) → from ≤ end → from + length (slice_range xs from end) ≤ end
length-slice xs from end order = omega (arith, order, length-take (end - from) (drop from xs))

module _ (count : List (List Lit) → ℕ) (u : Unrolling) (selectors : ℕ → List Lit) (each : ℕ) (is : IsCount count u.base selectors each) where
  nodes-most : (i : ℕ) (nodes : List Node) → count (nodes_clauses u.base selectors i nodes) ≤ length nodes * each
  unfolding nodes_clauses
  nodes-most i [] = omega (arith, is.none)
  nodes-most i (node ∷ nodes) =
      omega (
        arith,
        is.append (node_clauses u.base selectors i node) (nodes_clauses u.base selectors (i + 1) nodes),
        is.node i node,
        nodes-most (i + 1) nodes,
        more-one (length nodes) each,
      )

  word-most : (checked : Checked) (bit : ℕ) (word : List Literal) → count (word_clauses u.base checked bit word) ≤ length word
  unfolding word_clauses
  word-most checked bit [] = omega (arith, is.none)
  word-most checked bit (l ∷ word) =
      omega (
        arith,
        is.append (bit_clauses u.base checked bit l) (word_clauses u.base checked (bit + 1) word),
        is.bit checked bit l,
        word-most checked (bit + 1) word,
      )

  words-most : (expected : List Checked) (words : List (List Literal)) → count (words_clauses u.base expected words) ≤ bits_in words
  unfolding words_clauses
  words-most [] words = omega (arith, is.none)
  words-most (checked ∷ expected) [] = omega (arith, is.none)
  words-most (checked ∷ expected) (word ∷ words) =
      omega (
        arith,
        is.append (word_clauses u.base checked 0 word) (words_clauses u.base expected words),
        word-most checked 0 word,
        words-most expected words,
      )

  -- the bits of a cycle, and of those behind it
  bits-row : (t : ℕ) → bits_in (row u.outputs u.each t) + bits_in (drop ((t + 1) * u.each) u.outputs) ≡ bits_in (drop (t * u.each) u.outputs)
  bits-row t =
      sym (bits-append (row u.outputs u.each t) (drop ((t + 1) * u.each) u.outputs))
      ∙ ap (λ n. bits_in (take n (drop (t * u.each) u.outputs) ++ drop ((t + 1) * u.each) u.outputs)) (width-is (t * u.each) u.each)
      ∙ ap (λ n. bits_in (take u.each (drop (t * u.each) u.outputs) ++ drop n u.outputs)) (sym (more-row t u.each))
      ∙ ap (λ ws. bits_in (take u.each (drop (t * u.each) u.outputs) ++ ws)) (sym (drop-drop u.each (t * u.each) u.outputs))
      ∙ ap bits_in (take-append-drop u.each (drop (t * u.each) u.outputs))

  cycle-most : (t from end : ℕ) → from ≤ end
      → count (cycle_clauses u selectors t from end) + from * each ≤ end * each + bits_in (row u.outputs u.each t)
  unfolding cycle_clauses
  cycle-most t from end order =
      let part = slice_range u.definitions from end in
      let all : (from + length part) * each ≤ end * each = mul-le-mul_right each (length-slice u.definitions from end order) in
      let sum : (from + length part) * each ≡ from * each + length part * each = omega arith in
      omega (
        arith,
        is.append (nodes_clauses u.base selectors from part) (words_clauses u.base (row u.expected u.each t) (row u.outputs u.each t)),
        nodes-most from part,
        words-most (row u.expected u.each t) (row u.outputs u.each t),
        all,
        sum,
      )

  cycles-most : (t from total : ℕ) (ends : List ℕ) → EndsAscend from ends total
      → count (cycles_clauses u selectors t from ends) + from * each ≤ total * each + bits_in (drop (t * u.each) u.outputs)
  unfolding cycles_clauses
  cycles-most t from total [] ascend = omega (arith, is.none, ap (λ n. n * each) ascend)
  cycles-most t from total (end ∷ ends) ascend =
      omega (
        arith,
        is.append (cycle_clauses u selectors t from end) (cycles_clauses u selectors (t + 1) end ends),
        cycle-most t from end ascend.0,
        cycles-most (t + 1) end total ends ascend.1,
        bits-row t,
      )

  pub all-most : IsUnrolled u → count (cycles_clauses u selectors 0 0 u.ends) ≤ length u.definitions * each + bits_in u.outputs
  all-most kept =
      let none : 0 * u.each ≡ 0 = omega arith in
      omega (
        arith,
        cycles-most 0 0 (length u.definitions) u.ends kept.kept.ends,
        ap (λ n. bits_in (drop n u.outputs)) none,
      )

-- ---- literals

-- a clause, where there is one, has no more literals
abbrev IsShort : ℕ → Option (List Lit) → Type 0
IsShort n None = Unit {0}
IsShort n (Some clause) = length clause ≤ n

short-more : (n : ℕ) (o : Option (List Lit)) → IsShort n o → IsShort (suc n) o
short-more n None short = tt
short-more n (Some clause) short = omega (arith, short)

short-with : (n : ℕ) (l : Lit) (o : Option (List Lit)) → IsShort n o → IsShort (suc n) (with_literal l o)
short-with n l None short = tt
short-with n l (Some clause) short = omega (arith, short)

simplified-short : (base : ℕ) (xs : List Literal) → IsShort (length xs) (simplified base xs)
unfolding simplified
simplified-short base [] = omega arith
simplified-short base (Known true ∷ xs) = tt
simplified-short base (Known false ∷ xs) = short-more (length xs) (simplified base xs) (simplified-short base xs)
simplified-short base (Of node negated ∷ xs) =
    short-with (length xs) (defined base node negated) (simplified base xs) (simplified-short base xs)

clause-literals : (base : ℕ) (xs : List Literal) (selectors : List Lit) → 1 ≤ length xs
    → literals_in (clause_of base xs selectors) ≤ length xs + length selectors
unfolding literals_in
clause-literals base xs selectors some = at (simplified base xs) (simplified-short base xs)
  where
    at : (o : Option (List Lit)) → IsShort (length xs) o → literals_in (with_selectors o selectors) ≤ length xs + length selectors
    at None short = omega arith
    at (Some clause) short =
        omega (arith, some, short, literals_in-one (clause ++ selectors), length-append clause selectors)

module _ (base : ℕ) (selectors : ℕ → List Lit) (each longest : ℕ) (gate : 7 ≤ each) (place_each : 2 * longest + 4 ≤ each)
    (short : (place : ℕ) → length (selectors place) ≤ longest) where
  node-literals : (i : ℕ) (node : Node) → literals_in (node_clauses base selectors i node) ≤ each
  unfolding node_clauses and_clauses free_clauses literals_in
  node-literals i (Input input bit) = omega arith
  node-literals i (State state bit) = omega arith
  node-literals i (And x y) =
      let one = clause_of base (Of i true ∷ x ∷ []) [] in
      let two = clause_of base (Of i true ∷ y ∷ []) [] in
      let three = clause_of base (Of i false ∷ opposite x ∷ opposite y ∷ []) [] in
      omega (
        arith,
        gate,
        literals_in-append one (two ++ three),
        literals_in-append two three,
        clause-literals base (Of i true ∷ x ∷ []) [] (omega arith),
        clause-literals base (Of i true ∷ y ∷ []) [] (omega arith),
        clause-literals base (Of i false ∷ opposite x ∷ opposite y ∷ []) [] (omega arith),
      )
  node-literals i (Free moment place bit f) =
      let one = clause_of base (Of i true ∷ f ∷ []) (selectors place) in
      let two = clause_of base (Of i false ∷ opposite f ∷ []) (selectors place) in
      omega (
        arith,
        place_each,
        short place,
        literals_in-append one two,
        clause-literals base (Of i true ∷ f ∷ []) (selectors place) (omega arith),
        clause-literals base (Of i false ∷ opposite f ∷ []) (selectors place) (omega arith),
      )

  bit-literals : (checked : Checked) (bit : ℕ) (l : Literal) → literals_in (bit_clauses base checked bit l) ≤ 1
  unfolding bit_clauses literals_in
  bit-literals checked bit l = at (bit_of checked.mask bit)
    where
      x : Literal
      x = if bit_of checked.value bit then l else opposite l

      at : (b : Bool) → literals_in (if b then clause_of base (x ∷ []) [] else []) ≤ 1
      at true = omega (arith, clause-literals base (x ∷ []) [] (omega arith))
      at false = omega arith

  literals-count : IsCount literals_in base selectors each
  unfolding literals_in
  literals-count = record { none = refl; append = literals_in-append; node = node-literals; bit = bit-literals }

-- ---- clauses

clause-one : (base : ℕ) (xs : List Literal) (selectors : List Lit) → length (clause_of base xs selectors) ≤ 1
clause-one base xs selectors = at (simplified base xs)
  where
    at : (o : Option (List Lit)) → length (with_selectors o selectors) ≤ 1
    at None = omega arith
    at (Some clause) = omega arith

module _ (base : ℕ) (selectors : ℕ → List Lit) where
  node-clauses : (i : ℕ) (node : Node) → length (node_clauses base selectors i node) ≤ 3
  unfolding node_clauses and_clauses free_clauses
  node-clauses i (Input input bit) = omega arith
  node-clauses i (State state bit) = omega arith
  node-clauses i (And x y) =
      let one = clause_of base (Of i true ∷ x ∷ []) [] in
      let two = clause_of base (Of i true ∷ y ∷ []) [] in
      let three = clause_of base (Of i false ∷ opposite x ∷ opposite y ∷ []) [] in
      omega (
        arith,
        length-append one (two ++ three),
        length-append two three,
        clause-one base (Of i true ∷ x ∷ []) [],
        clause-one base (Of i true ∷ y ∷ []) [],
        clause-one base (Of i false ∷ opposite x ∷ opposite y ∷ []) [],
      )
  node-clauses i (Free moment place bit f) =
      let one = clause_of base (Of i true ∷ f ∷ []) (selectors place) in
      let two = clause_of base (Of i false ∷ opposite f ∷ []) (selectors place) in
      omega (
        arith,
        length-append one two,
        clause-one base (Of i true ∷ f ∷ []) (selectors place),
        clause-one base (Of i false ∷ opposite f ∷ []) (selectors place),
      )

  bit-clause : (checked : Checked) (bit : ℕ) (l : Literal) → length (bit_clauses base checked bit l) ≤ 1
  unfolding bit_clauses
  bit-clause checked bit l = at (bit_of checked.mask bit)
    where
      x : Literal
      x = if bit_of checked.value bit then l else opposite l

      at : (b : Bool) → length (if b then clause_of base (x ∷ []) [] else []) ≤ 1
      at true = clause-one base (x ∷ []) []
      at false = omega arith

  clauses-count : IsCount (λ clauses. length clauses) base selectors 3
  clauses-count = record { none = refl; append = length-append; node = node-clauses; bit = bit-clause }

clauses-few : (clauses : List (List Lit)) → length clauses ≤ literals_in clauses
unfolding literals_in
clauses-few [] = omega arith
clauses-few (clause ∷ clauses) = omega (arith, clauses-few clauses)

-- ---- the whole

module _ (u : Unrolling) (b : Beginning) (kept : IsUnrolled u) (can : CanBegin u b) where
  pub whole-literals : (each longest most : ℕ) → 7 ≤ each → 2 * longest + 4 ≤ each
      → ((place : ℕ) → length (get_or b.selectors place []) ≤ longest)
      → most ≡ b.count + length u.definitions * each + bits_in u.outputs → literals_in (whole_of b u) ≤ most
  whole-literals each longest most gate place_each short is =
      let selectors = λ (place : ℕ). get_or b.selectors place [] in
      omega (
        arith,
        is,
        can.count,
        literals_in-append b.counter (cycles_clauses u selectors 0 0 u.ends),
        all-most literals_in u selectors each (literals-count u.base selectors each longest gate place_each short) kept,
      )

  pub whole-clauses : (most : ℕ) → most ≡ b.count + length u.definitions * 3 + bits_in u.outputs → length (whole_of b u) ≤ most
  whole-clauses most is =
      let selectors = λ (place : ℕ). get_or b.selectors place [] in
      omega (
        arith,
        is,
        can.count,
        clauses-few b.counter,
        length-append b.counter (cycles_clauses u selectors 0 0 u.ends),
        all-most (λ clauses. length clauses) u selectors 3 (clauses-count u.base selectors) kept,
      )

  pub whole-few : literals_in (whole_of b u) ≤ 64000000 → length (whole_of b u) ≤ 64000000
  whole-few few = omega (arith, few, clauses-few (whole_of b u))
