use Rattle.std.proofs.Common.{◌≡◌, ◌<◌, ◌==◌, ◌&&◌, ℕ, length, slice_index, vec_len, nat_lt}
use Rattle.std.specs.Ordering.{nat_cmp}
use Rattle.std.specs.BTreeSet.{contains}
use Rattle.design_order.specs.Rows.{row}
use Rattle.design_order.proofs.least.begin.Given as goal

abbrev pub invariant-loop-i : goal.invariant-loop-i
invariant-loop-i l =
    (vec_len l.counts ≡ l.i)
    × ((k : ℕ) → k < l.i → slice_index l.counts.items k ≡ length (row l.needs k))
    × ((k : ℕ) → contains nat_cmp l.ready k ≡ (nat_lt k l.i && slice_index l.counts.items k == 0))
