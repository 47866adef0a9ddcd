-- Where the variables of a counter stand. The counter s(i, m), for m from 1 to min(i, k + 1), tells whether at least m of the
-- first i selectors are true. The counters stand row by row, that of i = 1 first.
use Rattle.std.specs.Prelude.{ℕ, zero, suc, ◌+◌, ◌-◌, ◌<◌, ◌≤◌, ◌⊎◌, min}

-- how many counters of i selectors there are
abbrev pub width : ℕ → ℕ → ℕ
width k i = min i (k + 1)

-- how many stand before those of i selectors
abbrev pub starts : ℕ → ℕ → ℕ
starts k zero = 0
starts k (suc i) = starts k i + width k i

-- the variable s(i, m), where the first counter is a variable `first`
abbrev pub at_least : ℕ → ℕ → ℕ → ℕ → ℕ
at_least first k i m = first + starts k i + (m - 1)

-- a variable is none of the counters of the first n selectors
abbrev pub IsNoCounter : ℕ → ℕ → ℕ → ℕ → Type 0
IsNoCounter first k n variable = (variable < first) ⊎ (first + starts k (n + 1) ≤ variable)
