use Rattle.std.proofs.Common.{◌≡◌, ℕ, take}
use Rattle.std.specs.List.Sorted.{IsStrictlyIncreasing}
use Rattle.design_core.specs.Explained.{is_one_of}
use Rattle.report_sets.proofs.places.each_once.Given as goal

abbrev pub invariant-loop-place : goal.invariant-loop-place
invariant-loop-place l = record {
  ascending : IsStrictlyIncreasing l.once.items;
  same : (p : ℕ) → is_one_of l.once.items p ≡ is_one_of (take l.place l.sorted) p;
}
