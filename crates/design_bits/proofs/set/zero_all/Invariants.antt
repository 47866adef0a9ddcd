use Rattle.std.proofs.Common.{◌≢◌, ◌<◌, ℕ, slice_index, get_or}
use Rattle.design_bits.proofs.set.zero_all.Given as goal

abbrev pub invariant-loop-place : goal.invariant-loop-place
invariant-loop-place l = (s : ℕ) → slice_index l.masks s ≢ 0 → (slice_index l.initial.masks s ≢ 0) × ((k : ℕ) → k < l.place-index → get_or l.places k 0 ≢ s)
