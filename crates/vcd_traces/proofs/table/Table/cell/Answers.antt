use Rattle.std.proofs.Common.{sym, ◌∙◌, ap, Some}
use Rattle.vcd_traces.specs.declared.codes.Role.TheVariants.{Port}
use Rattle.vcd_traces.proofs.TableLaws.{not_other, not_none}
use Rattle.vcd_traces.proofs.table.Table.cell.Goals as goal

pub returns-in-Some-Port : goal.returns-in-Some-Port
returns-in-Some-Port c h ports t declared of_port =
    (t.role c.args.code.now (Port c.in-Some-Port.cell c.in-Some-Port.field-0-1)
    (sym c.find.ensures ∙ c.in-Some-Port.is ∙ ap Some c.in-Some-Port.field-0-is)).2

pub returns-in-Some-Other : goal.returns-in-Some-Other
returns-in-Some-Other c h ports t declared of_port =
    absurd (not_other h ports c.args.self.now c.args.code.now t (sym c.find.ensures ∙ c.in-Some-Other.is ∙ ap Some c.in-Some-Other.field-0-is) of_port)

pub returns-in-None : goal.returns-in-None
returns-in-None c h ports t declared of_port = absurd (not_none h ports c.args.self.now c.args.code.now t (sym c.find.ensures ∙ c.in-None.is) declared)
