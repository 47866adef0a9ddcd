-- What the variables of literals are, and how many literals a clause and how many bits words have; only private contracts cite it.
use Rattle.std.specs.Prelude.{ℕ, ◌≡◌, ◌==◌, ◌+◌, ◌-◌, ◌<◌, ◌^◌, Bool, true, false, if◌then◌else◌, List, [], ◌∷◌, ◌++◌, length, get_or, Option, Some, None}
use Rattle.std.specs.Option.{option_map}
use Rattle.clause_base.specs.declared.literal.Lit.{Lit}
use Rattle.clause_base.specs.Literal.{positive, has_distinct_variables}
use Rattle.clause_base.specs.Literal.{opposite as negated_of}
use Rattle.clause_form.specs.Clauses.{defined}
use Rattle.gate_base.specs.declared.literal.Literal.{Literal}
use Rattle.gate_base.specs.declared.literal.Literal.TheVariants.{Known, Of}

-- the variables of these literals are numbers of 32 bits
abbrev pub HaveVariables : ℕ → List Literal → Type 0
HaveVariables base [] = Unit {0}
HaveVariables base (Known value ∷ xs) = HaveVariables base xs
HaveVariables base (Of node negated ∷ xs) = (base + node < 2 ^ 32) × HaveVariables base xs

-- how many literals a clause has without those that are false, and nothing where one is true
abbrev pub size_of : List Literal → Option ℕ
size_of [] = Some 0
size_of (Known true ∷ xs) = None
size_of (Known false ∷ xs) = size_of xs
size_of (Of node negated ∷ xs) = option_map (λ n. n + 1) (size_of xs)

-- how many bits words have
abbrev pub bits_in : List (List Literal) → ℕ
bits_in [] = 0
bits_in (word ∷ words) = length word + bits_in words

-- each variable is below a number
abbrev pub AreBelow : ℕ → List Lit → Type 0
AreBelow n [] = Unit {0}
AreBelow n (l ∷ ls) = (l.var < n) × AreBelow n ls

-- the selectors of each place are of distinct variables, all below a number
pub record AreSelectors (base : ℕ) (rows : List (List Lit)) : Type 0 where
  pub below : (place : ℕ) → AreBelow base (get_or rows place [])
  pub distinct : (place : ℕ) → has_distinct_variables (get_or rows place []) ≡ true

-- whether the last of some literals is of a variable
abbrev pub ends_with : ℕ → List Lit → Bool
ends_with v xs = (get_or xs (length xs - 1) (positive 0)).var == v

-- some literals with a variable behind them, where it isn't the last of them
abbrev pub once : ℕ → List Lit → List Lit
once v xs = if ends_with v xs then xs else xs ++ positive v ∷ []

-- the literal of a definition, where it is no constant
abbrev pub literal_of : ℕ → Literal → Option Lit
literal_of base (Known value) = None
literal_of base (Of node negated) = Some (defined base node negated)

-- the clauses of v = AND(x, y), where none of them is a constant
unfoldable pub gate_clauses : Lit → Lit → Lit → List (List Lit)
gate_clauses v x y = (negated_of v ∷ x ∷ []) ∷ (negated_of v ∷ y ∷ []) ∷ (v ∷ negated_of x ∷ negated_of y ∷ []) ∷ []
