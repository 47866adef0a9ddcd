use Rattle.std.proofs.Common.{rules}
use Rattle.design_core.specs.declared.expression.Node.TheViews.{the_lemmas}
use Rattle.design_bits.proofs.FullLaws.{resize-arg}
use Rattle.design_bits.proofs.full.+constant_value.Goals as goal

pub constant_value-requires : goal.constant_value-requires
constant_value-requires t c =
    let fits = resize-arg c.args.signals.now c.args.e.now.signed c.args.e.now.width c.in-Resize.arg (rw c.in-Resize.is at c.requires) in
    (search (rules, the_lemmas), rw c.deref.ensures fits)
