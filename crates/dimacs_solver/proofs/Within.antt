-- Words within bounds give clauses within bounds.
use Rattle.std.proofs.Common.{ℕ, ◌≤◌, Bool, true, false, cond, List, [], ◌∷◌, ◌++◌, All}
use Rattle.std.proofs.lemmas.List.Elements.{All-push, All-nil, All-head, All-tail}
use Rattle.clause_base.specs.declared.literal.Lit.{Lit}
use Rattle.clause_base.specs.Literal.{has, has_distinct_variables, IsWithin, AreWithin}
use Rattle.dimacs_solver.specs.declared.words.Word.{Word}
use Rattle.dimacs_solver.specs.declared.words.Word.TheVariants.{Literal, End}
use Rattle.dimacs_solver.specs.Words.{IsWordWithin}
use Rattle.dimacs_solver.specs.Reading.{Reading, with_literal, with_clause, after, after_all, clauses_of}

-- what holds of what is read, between any two words
pub record IsBounded (vars : ℕ) (r : Reading) : Type 0 where
  pub clauses : AreWithin vars r.clauses
  pub literals : IsWithin vars r.literals

cond_has : {X : Type 0} (P : X → Type 0) (b : Bool) (x y : X) → P x → P y → P (cond b x y)
cond_has P true x y p q = p
cond_has P false x y p q = q

abbrev IsBetween : ℕ → Lit → Type 0
IsBetween vars l = (1 ≤ l.var) × (l.var ≤ vars)

with_literal_bounded : (vars : ℕ) (clause : List Lit) (l : Lit) → IsWithin vars clause → IsBetween vars l → IsWithin vars (with_literal clause l)
with_literal_bounded vars clause l within bound =
    cond_has (λ c. IsWithin vars c) (has clause l) clause (clause ++ l ∷ []) within
    (All-push (IsBetween vars) clause l within bound)

with_clause_bounded : (vars : ℕ) (clauses : List (List Lit)) (clause : List Lit) → AreWithin vars clauses → IsWithin vars clause → AreWithin vars (with_clause clauses clause)
with_clause_bounded vars clauses clause all one =
    cond_has (λ c. AreWithin vars c) (has_distinct_variables clause) (clauses ++ clause ∷ []) clauses
    (All-push (λ c. IsWithin vars c) clauses clause all one) all

after_bounded : (vars : ℕ) (r : Reading) (word : Word) → IsBounded vars r → IsWordWithin vars word → IsBounded vars (after r word)
after_bounded vars r (Literal l) h bound = record { clauses = h.clauses; literals = with_literal_bounded vars r.literals l h.literals bound }
after_bounded vars r End h bound = record { clauses = with_clause_bounded vars r.clauses r.literals h.clauses h.literals; literals = All-nil (IsBetween vars) }

after_all_bounded : (vars : ℕ) (r : Reading) (words : List Word) → IsBounded vars r → All (λ word. IsWordWithin vars word) words → IsBounded vars (after_all r words)
after_all_bounded vars r [] h bounds = h
after_all_bounded vars r (word ∷ words) h bounds =
    after_all_bounded vars (after r word) words
    (after_bounded vars r word h (All-head (λ w. IsWordWithin vars w) word words bounds))
    (All-tail (λ w. IsWordWithin vars w) word words bounds)

pub clauses_of_within : (vars : ℕ) (words : List Word) → All (λ word. IsWordWithin vars word) words → AreWithin vars (clauses_of words)
clauses_of_within vars words bounds =
    (after_all_bounded vars (record { clauses = []; literals = [] }) words (record { clauses = All-nil (λ c. IsWithin vars c); literals = All-nil (IsBetween vars) }) bounds).clauses

pub ruleset within = (clauses_of_within)
