-- The least number that has a property, where there is one.
use Rattle.std.specs.Prelude.{ℕ, ◌<◌, Option, Some, None}

-- no number has the property; or this one has it, and no lower one
abbrev pub IsFirst : (ℕ → Type 0) → Option ℕ → Type 0
IsFirst P None = (n : ℕ) → ¬ P n
IsFirst P (Some n) = P n × ((k : ℕ) → k < n → ¬ P k)
