use Rattle.std.proofs.Common.{arith}
use Rattle.design_core.proofs.NumberLaws.{power_fits}
use Rattle.v_selects.proofs.part_select.with_bit.Goals as goal

pub overflow_add-result : goal.overflow_add-result
overflow_add-result c = omega (arith, c.requires.below, c.two_to.ensures, power_fits c.args.place c.requires.few)
