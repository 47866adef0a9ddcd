use Rattle.std.proofs.Common.{◌∙◌}
use Rattle.loc_base.specs.Bits.{value_of}
use Rattle.design_core.specs.Words.{valuation_of}
use Rattle.plain_values.proofs.EvaluateStore.{assigned_later, assigned_now}
use Rattle.plain_values.proofs.store.+assign.Goals as goal

pub returns-then-is_later-clause-value : goal.returns-then-is_later-clause-value
returns-then-is_later-clause-value t c =
    assigned_later c.args.signals.now (valuation_of c.args.now.now) (valuation_of c.args.later.now) (valuation_of c.assign.new.now) (valuation_of c.assign.new.later)
    (valuation_of c.store_part.new.words) c.args.parts.now c.in-Some.left.now c.in-Some.last.now (value_of c.args.value) c.from.result (value_of c.shift_right-high.result)
    c.args.is_later c.if-is_later.true c.in-Some.ensures.cases.0 (c.from.ensures ∙ c.part_width.ensures) c.shift_right-high.ensures.value c.assign.ensures.value
    (c.store_part.ensures.value (valuation_of c.args.now.now) c.part_index-at.ensures)

pub returns-else-is_later-clause-value : goal.returns-else-is_later-clause-value
returns-else-is_later-clause-value t c =
    assigned_now c.args.signals.now (valuation_of c.args.now.now) (valuation_of c.args.later.now) (valuation_of c.assign.new.now) (valuation_of c.assign.new.later)
    (valuation_of c.store_part-else-is_later.new.words) c.args.parts.now c.in-Some.left.now c.in-Some.last.now (value_of c.args.value) c.from.result (value_of c.shift_right-high.result)
    c.args.is_later c.if-is_later.false c.in-Some.ensures.cases.0 (c.from.ensures ∙ c.part_width.ensures) c.shift_right-high.ensures.value c.assign.ensures.value
    (c.store_part-else-is_later.ensures.value (valuation_of c.args.now.now) c.part_index-at.ensures)
