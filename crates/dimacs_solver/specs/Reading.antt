-- The clauses that a list of words gives.
use Rattle.std.specs.Prelude.{cond, List, [], ◌∷◌, ◌++◌}
use Rattle.clause_base.specs.declared.literal.Lit.{Lit}
use Rattle.clause_base.specs.Literal.{has, has_distinct_variables}
use Rattle.dimacs_solver.specs.declared.words.Word.{Word}
use Rattle.dimacs_solver.specs.declared.words.Word.TheVariants.{Literal, End}

-- the clauses that were ended, and the literals since the last end
pub record Reading : Type 0 where
  pub clauses : List (List Lit)
  pub literals : List Lit

-- a clause has each literal once
abbrev pub with_literal : List Lit → Lit → List Lit
with_literal clause l = cond (has clause l) clause (clause ++ l ∷ [])

-- a clause with both signs of a variable is left out
abbrev pub with_clause : List (List Lit) → List Lit → List (List Lit)
with_clause clauses clause = cond (has_distinct_variables clause) (clauses ++ clause ∷ []) clauses

-- what is read with one word more
abbrev pub after : Reading → Word → Reading
after r (Literal l) = record { clauses = r.clauses; literals = with_literal r.literals l }
after r End = record { clauses = with_clause r.clauses r.literals; literals = [] }

-- what is read with some words more
abbrev pub after_all : Reading → List Word → Reading
after_all r [] = r
after_all r (word ∷ words) = after_all (after r word) words

-- the clauses that the words give
abbrev pub clauses_of : List Word → List (List Lit)
clauses_of words = (after_all (record { clauses = []; literals = [] }) words).clauses
