-- The main statement: what the right list of suspect sets is, and what may be listed where the search was cut off.
use Rattle.std.specs.Prelude.{ℕ, ◌≤◌, IsTrue, List, length, All, AllPairs, Contains}
use Rattle.loc_base.specs.Sets.{is_before}
use Rattle.design_core.specs.declared.design.Design.{Design}
use Rattle.design_core.specs.declared.trace.Trace.{Trace}
use Rattle.design_core.specs.Works.{Groups, IsSet, IsMinimalFor, Works}

-- ---- of whatever is asked of a set

-- a minimal set of at most k suspects
pub record IsEntryFor (Work : List ℕ → Type 0) (groups : Groups) (k : ℕ) (set : List ℕ) : Type 0 where
  pub suspects : IsSet groups set
  pub size : length set ≤ k
  pub minimal : IsMinimalFor Work groups set

-- the whole list: every minimal set of at most k suspects, and nothing else, in order
pub record IsListFor (Work : List ℕ → Type 0) (groups : Groups) (k : ℕ) (sets : List (List ℕ)) : Type 0 where
  pub entries : All (IsEntryFor Work groups k) sets
  pub ordered : AllPairs (λ one other. IsTrue (is_before one other)) sets
  pub complete : (set : List ℕ) → IsEntryFor Work groups k set → Contains sets set

-- a front: minimal sets of at most k suspects in order, and none is missing before one that is there
pub record IsFrontFor (Work : List ℕ → Type 0) (groups : Groups) (k : ℕ) (sets : List (List ℕ)) : Type 0 where
  pub entries : All (IsEntryFor Work groups k) sets
  pub ordered : AllPairs (λ one other. IsTrue (is_before one other)) sets
  pub none_missing : (set listed : List ℕ) → IsEntryFor Work groups k set → Contains sets listed
      → IsTrue (is_before set listed) → Contains sets set

-- ---- of sets that work

-- a minimal working set of at most k suspects
abbrev pub IsEntry : Design → List Trace → Groups → ℕ → List ℕ → Type 0
IsEntry d traces groups k set = IsEntryFor (Works d traces groups) groups k set

-- the whole list of the minimal working sets of at most k suspects
abbrev pub IsList : Design → List Trace → Groups → ℕ → List (List ℕ) → Type 0
IsList d traces groups k sets = IsListFor (Works d traces groups) groups k sets

-- a front of that list
abbrev pub IsFront : Design → List Trace → Groups → ℕ → List (List ℕ) → Type 0
IsFront d traces groups k sets = IsFrontFor (Works d traces groups) groups k sets
