use Rattle.std.proofs.Common.{◌∙◌, sym}
use Rattle.design_core.specs.FullCase.{deciding_bits}
use Rattle.design_bits.specs.Full.{labels_take}
use Rattle.design_bits.proofs.FullLaws.{full-some}
use Rattle.design_bits.proofs.full.is_full.Goals as goal

pub returns-clause-some : goal.returns-clause-some
returns-clause-some c =
    λ full. full-some (deciding_bits c.args.subject.now.width c.args.subject.now.node) c.args.items.now (λ x n. labels_take c.args.signals.now c.args.subject.now n x)
    (sym c.takes_all.ensures ∙ full)
