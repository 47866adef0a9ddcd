use Rattle.std.proofs.Common.{◌≡◌, ◌+◌, ◌-◌, map, take, is_some, count_by, length}
use Rattle.std.specs.Vec.{vec_capacity}
use Rattle.trail_core.specs.Layout.{IsIndex, value_in}
use Rattle.trail_core.proofs.plain.back.shorten.Given as goal

abbrev pub invariant-loop : goal.invariant-loop
invariant-loop l = record {
  end : l.end ≡ length l.fn.entries.items;
  left : l.entries.items ≡ take (l.keep + (l.end - l.counter)) l.fn.entries.items;
  capacity : vec_capacity l.entries ≡ vec_capacity l.fn.entries;
  size : length l.assigned.items ≡ length l.fn.assigned.items;
  index : IsIndex l.assigned.items l.entries.items;
  counted : count_by is_some l.assigned.items ≡ length l.entries.items;
  values : l.values.items ≡ map value_in l.assigned.items;
  value_size : length l.values.items ≡ length l.assigned.items;
}
