use Rattle.std.proofs.Common.{◌≡◌, ℤ, ◌∙◌, ap, arith}
use Rattle.std.proofs.lemmas.Int.{ints, to_z-of_z}
use Rattle.v_selects.proofs.Indexes.{capped-distance}
use Rattle.v_selects.proofs.selected.distance_of.Goals as goal

pub returns : goal.returns
returns c = grind (arith, ints, to_z-of_z, capped-distance)
