use Rattle.std.proofs.Common.{◌≡◌, ℕ, ◌<◌, false, length, get_or}
use Rattle.sat_core.proofs.analysis.unmark_all.Given as goal

abbrev pub invariant-loop-place : goal.invariant-loop-place
invariant-loop-place l = record {
  end : l.place-end ≡ length l.fn.marked.items;
  size : length l.marked.items ≡ length l.fn.marked.items;
  each : (k : ℕ) → k < l.place → get_or l.marked.items k false ≡ false;
}
