use Rattle.std.proofs.Common.{take}
use Rattle.design_rules.specs.Tallies.{AreInputs}
use Rattle.design_rules.proofs.one_driver.input_masks.Given as goal

abbrev pub invariant-loop-signal : goal.invariant-loop-signal
invariant-loop-signal l = AreInputs (take l.signal-index l.signals) l.masks.items
