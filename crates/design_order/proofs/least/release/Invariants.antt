use Rattle.std.proofs.Common.{◌≡◌, ◌+◌, ◌==◌, ◌&&◌, ◌||◌, ℕ, take, slice_index, vec_len}
use Rattle.std.specs.Ordering.{nat_cmp}
use Rattle.std.specs.BTreeSet.{contains}
use Rattle.design_order.specs.Rows.{has, times}
use Rattle.design_order.proofs.least.release.Given as goal

abbrev pub invariant-loop-user : goal.invariant-loop-user
invariant-loop-user l =
    (vec_len l.counts ≡ vec_len l.initial.counts)
    × ((k : ℕ) → slice_index l.counts.items k + times k (take l.user-index l.users) ≡ slice_index l.initial.counts.items k)
    × ((k : ℕ) → contains nat_cmp l.ready k ≡ (contains nat_cmp l.initial.ready k || (has (take l.user-index l.users) k && slice_index l.counts.items k == 0)))
