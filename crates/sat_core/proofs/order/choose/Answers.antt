use Rattle.std.proofs.Common.{◌∙◌, ap, sym, Some}
use Rattle.clause_base.specs.Literal.{has}
use Rattle.sat_core.proofs.OrderLemmas.{contrary_member, beq_same}
use Rattle.sat_core.proofs.order.choose.Goals as goal

pub returns-in-Some : goal.returns-in-Some
returns-in-Some c = record {
  member = ap (has c.args.assume.now) c.item-l.ensures ∙ contrary_member c.args.assume.now c.args.preferred.now c.loop-place.place c.if-place-assume.true;
  is_false = sym c.value.ensures ∙ (c.in-Some.is ∙ ap Some (beq_same c.in-Some.value c.item-l.result.negated c.if-value-l.true));
}
