use Rattle.std.proofs.Common.{[], false, get_or, length, ap, sym, subst, ◌∙◌, arith}
use Rattle.gate_base.specs.declared.literal.Literal.TheVariants.{Known}
use Rattle.gate_base.specs.Literals.{IsBelow}
use Rattle.unroller.specs.Reads.{IsUnrolled}
use Rattle.unroller.proofs.ReadSteps.{free-within, free-below}
use Rattle.unroller.proofs.unrolled.Unrolled.free.Goals as goal

pub offset_bounds-row-column : goal.offset_bounds-row-column
offset_bounds-row-column c =
    let row = c.row.ensures ∙ ap (λ v. get_or v.frees c.moment-moment.result []) c.self.view_is in
    let below = free-within c.args.self.now (subst IsUnrolled c.self.view_is c.self.invariant) c.moment-moment.result c.column-column.result
    c.args.place c.args.bit c.moment-moment.ensures.within c.column-column.ensures.is in
    omega (arith, below, ap length row)

pub bounds-row-column : goal.bounds-row-column
bounds-row-column c =
    let row = c.row.ensures ∙ ap (λ v. get_or v.frees c.moment-moment.result []) c.self.view_is in
    let below = free-within c.args.self.now (subst IsUnrolled c.self.view_is c.self.invariant) c.moment-moment.result c.column-column.result
    c.args.place c.args.bit c.moment-moment.ensures.within c.column-column.ensures.is in
    omega (arith, below, ap length row)

pub literal-requires : goal.literal-requires
literal-requires c =
    let u = c.args.self.now in
    let row = c.row.ensures ∙ ap (λ v. get_or v.frees c.moment-moment.result []) c.self.view_is in
    subst (λ xs. IsBelow (length u.definitions) (get_or xs c.column-column.result (Known false))) (sym row)
    (free-below u (subst IsUnrolled c.self.view_is c.self.invariant) c.moment-moment.result c.column-column.result)
