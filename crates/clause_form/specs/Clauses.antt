-- The clauses of an unrolled form (Tseitin 1968), in which sets of at most k suspects are asked for: a counter of the selectors,
-- then for each cycle the clauses of its definitions and one for each bit that is checked.
use Rattle.std.specs.Prelude.{ℕ, ◌+◌, ◌==◌, max, Bool, true, false, if◌then◌else◌, List, [], ◌∷◌, ◌++◌, length, Option, Some, None, slice_range}
use Rattle.std.specs.List.{list_any}
use Rattle.loc_base.specs.Bits.{bit_of}
use Rattle.gate_base.specs.declared.literal.Literal.{Literal}
use Rattle.gate_base.specs.declared.literal.Literal.TheVariants.{Known, Of}
use Rattle.gate_base.specs.declared.node.Node.{Node}
use Rattle.gate_base.specs.declared.node.Node.TheVariants.{Input, State, And, Free}
use Rattle.gate_base.specs.Literals.{opposite}
use Rattle.design_core.specs.declared.trace.Checked.{Checked}
use Rattle.design_core.specs.Given.{row}
use Rattle.suspect_map.specs.declared.group.Group.{Group}
use Rattle.clause_base.specs.declared.literal.Lit.{Lit}
use Rattle.clause_base.specs.Literal.{positive}
use Rattle.card_counter.specs.InForm.{literals_from}
use Rattle.card_counter.specs.Counter.{counter_clauses}
use Rattle.unroller.specs.Unrolls.{Unrolling}

-- the literal of a definition, the first of which has the variable `base`
abbrev pub defined : ℕ → ℕ → Bool → Lit
defined base node negated = record { var = base + node; negated = negated }

-- one literal more, where there is a clause
abbrev pub with_literal : Lit → Option (List Lit) → Option (List Lit)
with_literal l None = None
with_literal l (Some clause) = Some (l ∷ clause)

-- the literals of a clause without those that are false, and no clause where one is true
unfoldable pub simplified : ℕ → List Literal → Option (List Lit)
simplified base [] = Some []
simplified base (Known true ∷ xs) = None
simplified base (Known false ∷ xs) = simplified base xs
simplified base (Of node negated ∷ xs) = with_literal (defined base node negated) (simplified base xs)

-- a clause with some selectors, where there is one
abbrev pub with_selectors : Option (List Lit) → List Lit → List (List Lit)
with_selectors None selectors = []
with_selectors (Some clause) selectors = (clause ++ selectors) ∷ []

-- the clause of these literals and selectors
abbrev pub clause_of : ℕ → List Literal → List Lit → List (List Lit)
clause_of base xs selectors = with_selectors (simplified base xs) selectors

-- the selectors of the groups with a place, of which the first has a number
abbrev pub selectors_from : ℕ → List Group → ℕ → List Lit
selectors_from i [] place = []
selectors_from i (group ∷ groups) place =
    if list_any (λ p. p == place) group.places then positive i ∷ selectors_from (i + 1) groups place
    else selectors_from (i + 1) groups place

abbrev pub selectors_of : List Group → ℕ → List Lit
selectors_of groups place = selectors_from 1 groups place

-- the clauses of v = AND(x, y): (not v, x), (not v, y), (v, not x, not y)
unfoldable pub and_clauses : ℕ → ℕ → Literal → Literal → List (List Lit)
and_clauses base i x y =
    clause_of base (Of i true ∷ x ∷ []) []
    ++ (clause_of base (Of i true ∷ y ∷ []) [] ++ clause_of base (Of i false ∷ opposite x ∷ opposite y ∷ []) [])

-- those of a bit o of a place with f and the selectors of its place: (not o, f, selectors), (o, not f, selectors)
unfoldable pub free_clauses : ℕ → List Lit → ℕ → Literal → List (List Lit)
free_clauses base selectors i f =
    clause_of base (Of i true ∷ f ∷ []) selectors ++ clause_of base (Of i false ∷ opposite f ∷ []) selectors

-- the clauses of a definition
unfoldable pub node_clauses : ℕ → (ℕ → List Lit) → ℕ → Node → List (List Lit)
node_clauses base selectors i (Input input bit) = []
node_clauses base selectors i (State state bit) = []
node_clauses base selectors i (And x y) = and_clauses base i x y
node_clauses base selectors i (Free moment place bit f) = free_clauses base (selectors place) i f

-- those of definitions one after another, of which the first has a number
unfoldable pub nodes_clauses : ℕ → (ℕ → List Lit) → ℕ → List Node → List (List Lit)
nodes_clauses base selectors i [] = []
nodes_clauses base selectors i (node ∷ nodes) = node_clauses base selectors i node ++ nodes_clauses base selectors (i + 1) nodes

-- the clause of a bit that is checked: its literal, negated where 0 is expected
unfoldable pub bit_clauses : ℕ → Checked → ℕ → Literal → List (List Lit)
bit_clauses base checked bit l =
    if bit_of checked.mask bit then clause_of base ((if bit_of checked.value bit then l else opposite l) ∷ []) [] else []

-- those of an output, from a bit on
unfoldable pub word_clauses : ℕ → Checked → ℕ → List Literal → List (List Lit)
word_clauses base checked bit [] = []
word_clauses base checked bit (l ∷ word) = bit_clauses base checked bit l ++ word_clauses base checked (bit + 1) word

-- those of the outputs of a cycle
unfoldable pub words_clauses : ℕ → List Checked → List (List Literal) → List (List Lit)
words_clauses base [] words = []
words_clauses base (checked ∷ expected) [] = []
words_clauses base (checked ∷ expected) (word ∷ words) = word_clauses base checked 0 word ++ words_clauses base expected words

-- the clauses of a cycle, whose definitions are those from one number to another
unfoldable pub cycle_clauses : Unrolling → (ℕ → List Lit) → ℕ → ℕ → ℕ → List (List Lit)
cycle_clauses u selectors t from end =
    nodes_clauses u.base selectors from (slice_range u.definitions from end)
    ++ words_clauses u.base (row u.expected u.each t) (row u.outputs u.each t)

-- those of the cycles from one on, by where their definitions end
unfoldable pub cycles_clauses : Unrolling → (ℕ → List Lit) → ℕ → ℕ → List ℕ → List (List Lit)
cycles_clauses u selectors t from [] = []
cycles_clauses u selectors t from (end ∷ ends) = cycle_clauses u selectors t from end ++ cycles_clauses u selectors (t + 1) end ends

-- the counter of the selectors, for sets of at most k
abbrev pub selector_clauses : ℕ → ℕ → List (List Lit)
selector_clauses n k = counter_clauses (literals_from 1 n) k (n + 1)

-- the clauses of the form
unfoldable pub form_clauses : Unrolling → List Group → ℕ → List (List Lit)
form_clauses u groups k = selector_clauses (length groups) k ++ cycles_clauses u (selectors_of groups) 0 0 u.ends

-- how many literals a clause counts for: an empty one counts for one
abbrev pub weight_of : List Lit → ℕ
weight_of clause = max 1 (length clause)

-- how many literals clauses have
unfoldable pub literals_in : List (List Lit) → ℕ
literals_in [] = 0
literals_in (clause ∷ clauses) = weight_of clause + literals_in clauses
