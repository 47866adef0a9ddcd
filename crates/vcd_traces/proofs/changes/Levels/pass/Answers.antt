use Rattle.std.proofs.Common.{◌≡◌, refl, Some}
use Rattle.vcd_traces.specs.declared.codes.Role.TheVariants.{Other, Port as OfPort}
use Rattle.vcd_traces.specs.Table.{role_of, cell_codes}
use Rattle.vcd_traces.specs.Levels.{Keeps}
use Rattle.vcd_traces.proofs.ChangeLaws.{does_by, passes_other, passes_port}
use Rattle.vcd_traces.proofs.changes.Levels.pass.Goals as goal

pub returns-in-Some-Other : goal.returns-in-Some-Other
returns-in-Some-Other c ports past table keeps =
    let has : role_of c.args.table.now.codes c.args.change.now.code.now ≡ Some Other = cc in
    does_by _ _ (Keeps (cell_codes c.args.table.now)) _ _ (passes_other ports past c.args.table.now _ _ table has) keeps

pub returns-in-Some-Port : goal.returns-in-Some-Port
returns-in-Some-Port c ports past table keeps =
    let has : role_of c.args.table.now.codes c.args.change.now.code.now ≡ Some (OfPort c.in-Some-Port.field-0-0 c.in-Some-Port.field-0-1) = cc in
    does_by _ _ (Keeps (cell_codes c.args.table.now)) _ _ (passes_port ports past c.args.table.now _ _ _ _ table has) refl
