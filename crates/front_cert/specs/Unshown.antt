-- What a log doesn't show of a list's last set.
use Rattle.std.specs.Prelude.{ℕ, zero, suc, ◌+◌, ◌^◌, ◌<◌, ◌≤◌, List, length, All, Option, MatchOption}
use Rattle.std.specs.List.Sorted.{IsStrictlyIncreasing}
use Rattle.clause_base.specs.declared.log.Step.{Step}
use Rattle.clause_base.specs.Counted.{IsPassedOver}
use Rattle.card_counter.specs.Places.{starts}
use Rattle.front_cert.specs.declared.front.Front.{Front}
use Rattle.card_counter.specs.Shows.{Shows, ShowsSize, ShowsWithout}

-- x is the least suspect that is passed over and isn't shown absent
pub record IsLeastUnshown (n k : ℕ) (members : List ℕ) (log : List Step) (x : ℕ) : Type 0 where
  pub size : ShowsSize n k (length members) log
  pub passed : IsPassedOver members x
  pub fails : ¬ ShowsWithout n k members log x
  pub before : (y : ℕ) → y < x → IsPassedOver members y → ShowsWithout n k members log y

-- 0 where the size isn't shown, else that suspect
abbrev pub IsUnshown : ℕ → ℕ → List ℕ → List Step → ℕ → Type 0
IsUnshown n k members log zero = ¬ ShowsSize n k (length members) log
IsUnshown n k members log (suc y) = IsLeastUnshown n k members log (suc y)

-- nothing is missing where the log shows it, else what isn't shown first
abbrev pub SaysMissing : ℕ → ℕ → List ℕ → List Step → Option ℕ → Type 0
SaysMissing n k members log missing = MatchOption missing (Shows n k members log) (IsUnshown n k members log)

-- the members are ascending numbers of suspects, at most k, and the variables of the counter, like the steps, have numbers of 32 bits
pub record MayBeShown (front : Front) : Type 0 where
  pub ascending : IsStrictlyIncreasing front.last.now
  pub members : All (λ m. (1 ≤ m) × (m ≤ front.n)) front.last.now
  pub size : length front.last.now ≤ front.k
  pub small : front.n + 1 < 2 ^ 32
  pub variables : front.n + 1 + starts front.k (front.n + 1) ≤ 2 ^ 32
  pub steps : length front.log.now < 2 ^ 32
