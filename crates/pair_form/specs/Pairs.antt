-- The clauses of pairs of cycles (Tseitin 1968), behind those of an unrolled form: where the selector of a place's group is true and
-- the place's operands have the same values in two cycles, its bits have the same values there.
use Rattle.std.specs.Prelude.{ℕ, if◌then◌else◌, List, [], ◌∷◌, ◌++◌, length, drop, Option, Some, None}
use Rattle.std.specs.Option.{option_and_then}
use Rattle.gate_base.specs.declared.literal.Literal.{Literal}
use Rattle.gate_base.specs.declared.node.Node.{Node}
use Rattle.gate_base.specs.Literals.{opposite}
use Rattle.gate_base.specs.Nodes.{Word, word, xor_made}
use Rattle.clause_base.specs.declared.literal.Lit.{Lit}
use Rattle.clause_base.specs.Literal.{negative, has}
use Rattle.clause_base.specs.Literal.{opposite as negation}
use Rattle.clause_form.specs.Clauses.{simplified, nodes_clauses}
use Rattle.pair_form.specs.declared.pair.Pair.{Pair}

-- XOR of each two literals of two words, one after another, behind those that were made
unfoldable pub differ_made : List Node → List Literal → List Literal → List Literal → Word
differ_made nodes made [] ys = word nodes made
differ_made nodes made (x ∷ xs) [] = word nodes made
differ_made nodes made (x ∷ xs) (y ∷ ys) =
    let m = xor_made nodes x y in differ_made m.nodes (made ++ m.bit ∷ []) xs ys

-- the literals of a clause behind some: one whose negation stands there makes it true, so that there is none; one that stands there
-- already isn't written again
unfoldable pub settled : List Lit → List Lit → Option (List Lit)
settled there [] = Some there
settled there (l ∷ ls) =
    if has there (negation l) then None else (if has there l then settled there ls else settled (there ++ l ∷ []) ls)

-- a clause behind the negation of a selector, where there is one
abbrev pub selected : ℕ → Option (List Lit) → List (List Lit)
selected x None = []
selected x (Some clause) = (negative x ∷ clause) ∷ []

-- the clause of the negation of a selector and these literals: constants are left out, and each variable comes once
abbrev pub settled_clause : ℕ → ℕ → List Literal → List (List Lit)
settled_clause base x xs = selected x (option_and_then (settled []) (simplified base xs))

-- for a selector and a bit of its place in two cycles: one of the operands differs, or the bit is the same
abbrev pub two_clauses : ℕ → List Literal → Literal → Literal → ℕ → List (List Lit)
two_clauses base differ p q x =
    settled_clause base x (differ ++ opposite p ∷ q ∷ []) ++ settled_clause base x (differ ++ p ∷ opposite q ∷ [])

-- for each selector of the place
unfoldable pub groups_clauses : ℕ → List Literal → Literal → Literal → List ℕ → List (List Lit)
groups_clauses base differ p q [] = []
groups_clauses base differ p q (x ∷ xs) = two_clauses base differ p q x ++ groups_clauses base differ p q xs

-- and each bit of the place
unfoldable pub bits_clauses : ℕ → List Literal → List Literal → List Literal → List ℕ → List (List Lit)
bits_clauses base differ [] qs groups = []
bits_clauses base differ (p ∷ ps) [] groups = []
bits_clauses base differ (p ∷ ps) (q ∷ qs) groups = groups_clauses base differ p q groups ++ bits_clauses base differ ps qs groups

-- the definitions behind a pair, and the literals that say which of its operands differ
abbrev pub pair_made : List Node → Pair → Word
pair_made nodes pair = differ_made nodes [] pair.operands pair.operands_then

-- the clauses of a pair: those of its new definitions, and then those of its bits
unfoldable pub pair_clauses : ℕ → List Node → Pair → List (List Lit)
pair_clauses base nodes pair =
    let m = pair_made nodes pair in
    nodes_clauses base (λ _. []) (length nodes) (drop (length nodes) m.nodes)
    ++ bits_clauses base m.bits pair.bits pair.bits_then pair.groups

-- the definitions behind some pairs
unfoldable pub pairs_made : List Node → List Pair → List Node
pairs_made nodes [] = nodes
pairs_made nodes (pair ∷ pairs) = pairs_made (pair_made nodes pair).nodes pairs

-- the clauses of pairs, one after another
unfoldable pub pairs_clauses : ℕ → List Node → List Pair → List (List Lit)
pairs_clauses base nodes [] = []
pairs_clauses base nodes (pair ∷ pairs) = pair_clauses base nodes pair ++ pairs_clauses base (pair_made nodes pair).nodes pairs
