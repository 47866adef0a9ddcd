-- The one order in which drivers are carried out: again and again the least driver all of whose dependencies were taken.
-- Of the topological orders it comes first by its numbers (Kahn, Topological sorting of large networks, CACM 5, 1962);
-- where drivers depend on each other in a circle there is none.
use Rattle.std.specs.Prelude.{ℕ, ◌<◌, List, [], ◌∷◌, ◌++◌, length, Contains}
use Rattle.design_core.specs.declared.design.Design.{Design}
use Rattle.design_core.specs.Reads.{Depends}

-- `D i j` says that the number i depends on j. A number is ready where it was not taken, and all were on which it depends
pub record IsReady (D : ℕ → ℕ → Type 0) (taken : List ℕ) (i : ℕ) : Type 0 where
  pub untaken : ¬ Contains taken i
  pub met : (j : ℕ) → D i j → Contains taken j

-- the least number below n that is ready
pub record IsNext (D : ℕ → ℕ → Type 0) (n : ℕ) (taken : List ℕ) (i : ℕ) : Type 0 where
  pub within : i < n
  pub ready : IsReady D taken i
  pub least : (k : ℕ) → k < i → ¬ IsReady D taken k

-- each number of a list is the next one when those before it were taken
abbrev pub AreNext : (ℕ → ℕ → Type 0) → ℕ → List ℕ → List ℕ → Type 0
AreNext D n taken [] = Unit {0}
AreNext D n taken (i ∷ rest) = IsNext D n taken i × AreNext D n (taken ++ i ∷ []) rest

-- all numbers below n in the least order
pub record IsLeastOrderOf (D : ℕ → ℕ → Type 0) (n : ℕ) (order : List ℕ) : Type 0 where
  pub next : AreNext D n [] order
  pub complete : (i : ℕ) → i < n → Contains order i

-- a number depends on the first of a path, each number of the path on the next, and the last one on a last number
abbrev pub Leads : (ℕ → ℕ → Type 0) → ℕ → List ℕ → ℕ → Type 0
Leads D i [] last = D i last
Leads D i (j ∷ path) last = D i j × Leads D j path last

-- a number below n from which a path leads back to it
pub record HasCircleOf (D : ℕ → ℕ → Type 0) (n : ℕ) : Type 0 where
  pub number : ℕ
  pub path : List ℕ
  pub within : number < n
  pub leads : Leads D number path number

-- the least order of a design's drivers
abbrev pub IsLeastOrder : Design → List ℕ → Type 0
IsLeastOrder d order = IsLeastOrderOf (Depends d) (length d.drivers.items) order

-- some drivers depend on each other in a circle, or one on itself
abbrev pub HasCircle : Design → Type 0
HasCircle d = HasCircleOf (Depends d) (length d.drivers.items)
