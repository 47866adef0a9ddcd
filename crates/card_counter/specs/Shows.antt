-- When a log shows that no set is missing from a list before its last one. The log is over a form whose variables from 1 to n are
-- selectors, with a sequential counter up to k + 1 behind them (Sinz, CP 2005); sets are listed by size, and then by members.
use Rattle.std.specs.Prelude.{◌≡◌, ℕ, zero, suc, ◌+◌, ◌-◌, if◌then◌else◌, nat_lt, true, List, [], length, slice_get, Option, Some, None, Contains}
use Rattle.std.specs.Option.{option_map_or}
use Rattle.clause_base.specs.declared.literal.Lit.{Lit}
use Rattle.clause_base.specs.declared.log.Step.{Step}
use Rattle.clause_base.specs.Literal.{positive, has}
use Rattle.clause_base.specs.Counted.{IsPassedOver, ShowsAbsent}
use Rattle.card_counter.specs.Places.{at_least}

-- the counter s(n, j + 1), which says that more than j of the n selectors are true; none where there are no more than j
abbrev pub bound_of : ℕ → ℕ → ℕ → Option Lit
bound_of n k j = if nat_lt j n then Some (positive (at_least (n + 1) k n (j + 1))) else None

-- some step's clause has no literal but the bound
pub record ShowsAlone (bound : Option Lit) (log : List Step) : Type 0 where
  pub step : Step
  pub in_log : Contains log step
  pub clause : (l : Lit) → has step.clause l ≡ true → bound ≡ Some l

-- no set is left that has fewer members than so many: there can be none, or some step's clause has no literal but the bound below
abbrev pub ShowsSize : ℕ → ℕ → ℕ → List Step → Type 0
ShowsSize n k zero log = Unit {0}
ShowsSize n k (suc j) log = ShowsAlone (bound_of n k j) log

-- some step's clause says that x isn't a member: its literals are among the negation of x, those of the members below x, and the bound
pub record ShowsWithout (n k : ℕ) (members : List ℕ) (log : List Step) (x : ℕ) : Type 0 where
  pub step : Step
  pub in_log : Contains log step
  pub clause : ShowsAbsent members (bound_of n k (length members)) x step.clause

-- the log shows that no set is missing before the one with these members: none has fewer, and each suspect that the set passes over is
-- shown absent, so that none with as many stands before it
pub record Shows (n k : ℕ) (members : List ℕ) (log : List Step) : Type 0 where
  pub size : ShowsSize n k (length members) log
  pub passed : (x : ℕ) → IsPassedOver members x → ShowsWithout n k members log x

-- the members of a list's last set, none where there is no set
abbrev pub last_of : List (List ℕ) → List ℕ
last_of sets = option_map_or (λ set. set) (slice_get sets (length sets - 1)) []
