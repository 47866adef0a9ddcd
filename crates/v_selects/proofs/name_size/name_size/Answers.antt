use Rattle.std.proofs.Common.{subst}
use Rattle.v_sizes.specs.Context.{IsMeaning}
use Rattle.v_selects.proofs.name_size.name_size.Goals as goal

pub array_size-requires : goal.array_size-requires
array_size-requires c = (subst IsMeaning c.in-Array.is (c.requires c.in-Some.meaning c.in-Some.is)).2
