use Rattle.std.proofs.Common.{take}
use Rattle.std.specs.List.{list_any}
use Rattle.design_bits.specs.Masks.{Adds}
use Rattle.design_rules.specs.Used.{output_has}
use Rattle.design_rules.proofs.undriven.add_outputs.Given as goal

abbrev pub invariant-loop-output : goal.invariant-loop-output
invariant-loop-output l = Adds l.initial.used l.used (λ s b. list_any (λ y. output_has l.design s b y) (take l.output-index l.design.outputs.items))
