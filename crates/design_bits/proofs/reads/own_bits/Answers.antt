use Rattle.std.proofs.Common.{◌∙◌, ap, ap₂, sym}
use Rattle.std.specs.Prelude.{◌==◌, ◌&&◌}
use Rattle.design_core.specs.Pick.{may_pick}
use Rattle.design_bits.specs.Operands.{own_reads}
use Rattle.design_bits.proofs.ReadSteps.{own_pick}
use Rattle.design_bits.proofs.reads.own_bits.Goals as goal

pub returns-in-Pick : goal.returns-in-Pick
returns-in-Pick c = λ s b below.
    let S = c.args.signals.now in
    let p = c.in-Pick in
    let width = c.args.read.now.width in
    c.of-in-Pick.ensures s b below
    ∙ ap (λ x. s == p.signal && x)
    (c.may_pick.ensures b below ∙ ap₂ (λ index offsets. may_pick S p.signal index.width index.signed index.node offsets b) c.deref.ensures c.deref-in-Pick.ensures)
    ∙ sym (own_pick S s b width p.signal p.index p.offsets) ∙ ap (own_reads S s b width) (sym c.in-Pick.is)
