use Rattle.std.proofs.Common.{◌≡◌, drop}
use Rattle.std.specs.List.{list_all}
use Rattle.design_core.specs.WellFormed.{typed_fits}
use Rattle.design_fits.proofs.expression.+typed.Given as goal

abbrev pub invariant-all_fit-loop-part : goal.invariant-all_fit-loop-part
invariant-all_fit-loop-part l = list_all (typed_fits l.signals) (drop l.part-index l.parts) ≡ list_all (typed_fits l.signals) l.parts
