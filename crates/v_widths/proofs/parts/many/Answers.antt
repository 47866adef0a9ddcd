use Rattle.std.proofs.Common.{sym, ◌∙◌, ap}
use Rattle.v_widths.specs.Parts.{behind}
use Rattle.v_widths.proofs.Many.{many-none, many-one_more}
use Rattle.v_widths.proofs.parts.many.Goals as goal

pub loop-init : goal.loop-init
loop-init c = record { value = sym (many-none c.args.width c.args.number) }

pub loop-preserved : goal.loop-preserved
loop-preserved c = record {
  value = c.behind-value.ensures ∙ ap (λ v. behind v c.args.width c.args.number) c.loop.invariant.value ∙ sym (many-one_more c.loop.counter c.args.width c.args.number);
}
