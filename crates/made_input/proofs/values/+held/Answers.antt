use Rattle.std.proofs.Common.{◌≡◌, ◌-◌, ◌%◌, ◌^◌, ◌∙◌, ap}
use Rattle.loc_base.specs.Bits.{value_of, width_of}
use Rattle.made_input.specs.Made.{constant, held, width}
use Rattle.made_input.proofs.Steps.{held-first, held-next, held-one}
use Rattle.made_input.proofs.values.+held.Goals as goal

pub returns-then-cycle-eq0-clause-value : goal.returns-then-cycle-eq0-clause-value
returns-then-cycle-eq0-clause-value t c =
    held-first c.args.number c.args.cycle c.args.stage (value_of c.zero.result) c.if-cycle-eq0.true c.zero.ensures.value

pub returns-then-stage-eq1-clause-value : goal.returns-then-stage-eq1-clause-value
returns-then-stage-eq1-clause-value t c =
    held-one c.args.number c.args.cycle c.args.stage (value_of c.a_in.result) (value_of c.b_in.result) (width_of c.a_in.result)
    (value_of c.add.result) c.if-cycle-eq0.false c.if-stage-eq1.true c.a_in.ensures.value c.b_in.ensures.value
    c.a_in.ensures.width c.add.ensures.value

pub returns-clause-value : goal.returns-clause-value
returns-clause-value t c =
    let added : value_of c.low_bits.result ≡ constant c.args.stage % 2 ^ width c.args.number =
    cc (c.low_bits.ensures.value, c.from.ensures, c.constant.ensures, c.width-2.ensures.is) in
    held-next c.args.number c.args.cycle c.args.stage (value_of c.held-before.result) (value_of c.low_bits.result)
    (width_of c.held-before.result) (value_of c.add-2.result) c.if-cycle-eq0.false c.if-stage-eq1.false
    (c.held-before.ensures.value ∙ ap (λ s. held c.args.number (c.args.cycle - 1) s) c.saturating_sub.ensures) added
    c.held-before.ensures.width c.add-2.ensures.value
