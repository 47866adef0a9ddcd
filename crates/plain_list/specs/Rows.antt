-- Rows of words for some places that make cycles right.
use Rattle.std.specs.Prelude.{ℕ, ◌≡◌, ◌<◌, ◌+◌, Bool, List, map, slice_get, Some, Contains}
use Rattle.loc_base.specs.declared.bits.Bits.{Bits}
use Rattle.loc_base.specs.Bits.{value_of}
use Rattle.design_core.specs.declared.design.Design.{Design}
use Rattle.design_core.specs.declared.trace.Trace.{Trace}
use Rattle.design_core.specs.Run.{Choices, Meets, samples_at, expected_at}
use Rattle.design_core.specs.Works.{AreOfWidth}
use Rattle.design_core.specs.Explained.{cycles_before, row_of, AreRows}
use Rattle.plain_list.specs.Rightness.{AreRight}

-- the row of a number makes a cycle of a trace right
abbrev pub IsRightRow : Design → List ℕ → Trace → List ℕ → List Bits → ℕ → ℕ → Type 0
IsRightRow d order trace places rows t r =
    AreRight d order (samples_at d trace t) (expected_at d trace t) places (map value_of (row_of places rows r))

-- to the first rows so many are added, each of which makes the next cycle of a trace right
pub record AreAdded (d : Design) (order : List ℕ) (trace : Trace) (places : List ℕ) (old new : List Bits) (first count : ℕ) : Type 0 where
  pub rows : AreRows d places new (first + count)
  pub kept : (r : ℕ) → r < first → row_of places new r ≡ row_of places old r
  pub right : (t : ℕ) → t < count → IsRightRow d order trace places new t (first + t)

-- so many traces have their rows, one for each cycle, which make them right
pub record AreExplained (d : Design) (order : List ℕ) (traces : List Trace) (places : List ℕ) (rows : List Bits) (count : ℕ) : Type 0 where
  pub fit : AreRows d places rows (cycles_before traces count)
  pub right : (j : ℕ) (trace : Trace) (t : ℕ) → slice_get traces j ≡ Some trace → j < count → t < trace.cycles
      → IsRightRow d order trace places rows t (cycles_before traces j + t)

-- for each trace, some values of the freed places make it right
abbrev pub CanBeRight : Design → List Trace → (ℕ → Bool) → Type 0
CanBeRight d traces freed =
    (trace : Trace) → Contains traces trace → (c : Choices) × AreOfWidth d freed c × Meets d trace freed c
