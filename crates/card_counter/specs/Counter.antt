-- The clauses of a counter: a sequential counter (Sinz, CP 2005) whose rows end at k + 1.
use Rattle.std.specs.Prelude.{ℕ, zero, suc, ◌+◌, ◌-◌, Bool, if◌then◌else◌, nat_le, List, [], ◌∷◌, ◌++◌}
use Rattle.clause_base.specs.declared.literal.Lit.{Lit}
use Rattle.clause_base.specs.Literal.{positive, negative, opposite}
use Rattle.card_counter.specs.Places.{width, at_least}

-- what is true of the first i selectors is true of one more: not s(i, m), s(i + 1, m)
abbrev pub carries : ℕ → ℕ → ℕ → ℕ → List (List Lit)
carries first k i m =
    if nat_le m (width k i) then (negative (at_least first k i m) ∷ positive (at_least first k (i + 1) m) ∷ []) ∷ [] else []

-- one more is true where the next selector is: not x, s(i + 1, 1), or else not x, not s(i, m - 1), s(i + 1, m)
abbrev pub counts_on : ℕ → ℕ → ℕ → Lit → ℕ → List Lit
counts_on first k i x m =
    if nat_le m 1 then opposite x ∷ positive (at_least first k (i + 1) m) ∷ []
    else opposite x ∷ negative (at_least first k i (m - 1)) ∷ positive (at_least first k (i + 1) m) ∷ []

-- the clauses of s(i + 1, m), x being the selector i + 1
abbrev pub pair : ℕ → ℕ → ℕ → Lit → ℕ → List (List Lit)
pair first k i x m = carries first k i m ++ counts_on first k i x m ∷ []

-- the clauses of s(i + 1, m) and of the next ones, so many
abbrev pub pairs : ℕ → ℕ → ℕ → Lit → ℕ → ℕ → List (List Lit)
pairs first k i x m zero = []
pairs first k i x m (suc count) = pair first k i x m ++ pairs first k i x (m + 1) count

-- the clauses of the selectors behind the first i
abbrev pub counter_from : ℕ → ℕ → ℕ → List Lit → List (List Lit)
counter_from first k i [] = []
counter_from first k i (x ∷ xs) = pairs first k i x 1 (width k (i + 1)) ++ counter_from first k (i + 1) xs

-- the clauses of a counter
abbrev pub counter_clauses : List Lit → ℕ → ℕ → List (List Lit)
counter_clauses selectors k first = counter_from first k 0 selectors
