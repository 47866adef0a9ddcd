use Rattle.std.proofs.Common.{[], get_or, length, ap, ◌∙◌, arith}
use Rattle.form_values.proofs.WordSteps.{column-in}
use Rattle.debug_core.proofs.supposed.literal_at.Goals as goal

pub offset_bounds-row-column : goal.offset_bounds-row-column
offset_bounds-row-column c =
    let row = c.row.ensures ∙ ap (λ rows. get_or rows c.args.moment []) c.frees.ensures in
    omega (arith, column-in c.args.u.now c.requires.kept c.args.moment c.args.column c.requires.cycle c.requires.column, ap length row)

pub bounds-row-column : goal.bounds-row-column
bounds-row-column c =
    let row = c.row.ensures ∙ ap (λ rows. get_or rows c.args.moment []) c.frees.ensures in
    omega (arith, column-in c.args.u.now c.requires.kept c.args.moment c.args.column c.requires.cycle c.requires.column, ap length row)
