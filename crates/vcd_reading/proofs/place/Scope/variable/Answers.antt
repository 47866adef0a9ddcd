use Rattle.std.proofs.Common.{sym, ◌∙◌, ◌≡◌}
use Rattle.std.specs.Prelude.{slice_get}
use Rattle.std.specs.Option.{option_copied}
use Rattle.vcd_reading.proofs.PlaceLaws.{lent_at, variable_at, variable_none}
use Rattle.vcd_reading.proofs.place.Scope.variable.Goals as goal

pub returns-in-None : goal.returns-in-None
returns-in-None c h is = variable_none h c.args.self.now c.args.name.now is (sym c.find.ensures ∙ c.in-None.is)

pub returns-in-Some : goal.returns-in-Some
returns-in-Some c h is =
    let at : option_copied c.get.result ≡ slice_get c.args.self.now.variables.now c.in-Some.number =
    lent_at c.args.self.now.variables.now c.in-Some.number c.get.result c.get.ensures.lookup.0 c.get.ensures.lookup.1 in
    variable_at h c.args.self.now c.args.name.now c.in-Some.number c.copied.result is (sym c.find.ensures ∙ c.in-Some.is) (c.copied.ensures ∙ at)
