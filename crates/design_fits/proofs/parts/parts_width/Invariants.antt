use Rattle.std.proofs.Common.{◌≡◌, ◌+◌, ◌≤◌, drop}
use Rattle.design_core.specs.Store.{parts_width}
use Rattle.design_fits.proofs.parts.parts_width.Given as goal

abbrev pub invariant-loop-part : goal.invariant-loop-part
invariant-loop-part l =
    record {
      sum : parts_width l.signals l.parts ≡ l.total + parts_width l.signals (drop l.part-index l.parts);
      most : l.total ≤ 128;
    }
