use Rattle.std.proofs.Common.{◌≡◌, refl, Some, List, ℕ}
use Rattle.vcd_words.specs.Words.{Placed}
use Rattle.vcd_traces.specs.declared.codes.Role.TheVariants.{Other, Port as OfPort}
use Rattle.vcd_traces.specs.Table.{role_of, cell_codes}
use Rattle.vcd_traces.specs.Levels.{Keeps}
use Rattle.vcd_traces.proofs.ChangeLaws.{does_by, changes_other, changes_long, changes_fit, keeps_other, keeps_port}
use Rattle.vcd_traces.proofs.RunningLaws.{lt_from, not_less}
use Rattle.vcd_traces.proofs.changes.Levels.change.Goals as goal

pub returns-in-Some-Other : goal.returns-in-Some-Other
returns-in-Some-Other c ports past table keeps =
    let code : List ℕ = c.args.change.now.code.now in
    let place : Placed = record { at = c.args.change.now.code_at; word = code } in
    let has : role_of c.args.table.now.codes code ≡ Some Other = cc in
    does_by _ _ (Keeps (cell_codes c.args.table.now)) _ _
    (changes_other ports past c.args.table.now c.args.level c.args.digits c.args.change.now.value_at place table has)
    (keeps_other ports past c.args.table.now c.args.self.now code c.args.level table has keeps)

pub returns-then-limit-digits : goal.returns-then-limit-digits
returns-then-limit-digits c ports past table keeps =
    let code : List ℕ = c.args.change.now.code.now in
    let place : Placed = record { at = c.args.change.now.code_at; word = code } in
    let has : role_of c.args.table.now.codes code ≡ Some (OfPort c.in-Some-Port.cell c.in-Some-Port.limit) = cc in
    does_by _ _ (Keeps (cell_codes c.args.table.now)) _ _
    (changes_long ports past c.args.table.now c.args.level c.args.digits c.args.change.now.value_at place c.in-Some-Port.cell c.in-Some-Port.limit table has (lt_from _ _ c.if-limit-digits.true))
    refl

pub returns-else-limit-digits : goal.returns-else-limit-digits
returns-else-limit-digits c ports past table keeps =
    let code : List ℕ = c.args.change.now.code.now in
    let place : Placed = record { at = c.args.change.now.code_at; word = code } in
    let has : role_of c.args.table.now.codes code ≡ Some (OfPort c.in-Some-Port.cell c.in-Some-Port.limit) = cc in
    does_by _ _ (Keeps (cell_codes c.args.table.now)) _ _
    (changes_fit ports past c.args.table.now c.args.level c.args.digits c.args.change.now.value_at place c.in-Some-Port.cell c.in-Some-Port.limit table has (not_less _ _ c.if-limit-digits.false))
    (keeps_port ports past c.args.table.now c.args.self.now c.change_cell.new.self code c.in-Some-Port.cell c.in-Some-Port.limit c.args.level table has
    c.change_cell.ensures.time c.change_cell.ensures.running keeps)
