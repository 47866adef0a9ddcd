use Rattle.std.proofs.Common.{◌∙◌, ap, bit_and}
use Rattle.std.specs.Prelude.{◌==◌, ◌&&◌}
use Rattle.design_core.specs.Valuation.{bit}
use Rattle.design_bits.proofs.ListedLaws.{met-entry}
use Rattle.design_bits.proofs.listed.met_one.Goals as goal

pub returns : goal.returns
returns c = λ s b below.
    let entry = c.args.entry in
    ap (λ m. (entry.signal == s) && bit (bit_and entry.mask m) b) c.mask_at.ensures ∙ met-entry c.args.set.now entry.signal entry.mask s b
