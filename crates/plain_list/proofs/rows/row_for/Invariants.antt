use Rattle.std.proofs.Common.{◌≡◌, map, take}
use Rattle.loc_base.specs.Bits.{width_of, value_of}
use Rattle.design_core.specs.Explained.{place_width}
use Rattle.plain_list.proofs.rows.row_for.Given as goal

abbrev pub invariant-loop-i : goal.invariant-loop-i
invariant-loop-i l = (map width_of l.row.items ≡ map (place_width l.d) (take l.i l.places)) × (map value_of l.row.items ≡ take l.i l.numbers)
