use Rattle.std.proofs.Common.{None, Some, sym, ◌∙◌, ap}
use Rattle.vcd_reading.specs.Paths.{bytes_behind}
use Rattle.vcd_reading.specs.Scopes.{path_in}
use Rattle.vcd_reading.proofs.PathLaws.{rest_some}
use Rattle.vcd_reading.proofs.paths.Met.rest.Goals as goal

pub returns-in-Some-None : goal.returns-in-Some-None
returns-in-Some-None c paths is =
    rest_some c.args.path.now paths c.args.self.now c.in-Some.around c.args.scope.now.name.now None is
    (sym c.outer.ensures ∙ c.in-Some-None.is ∙ ap Some c.in-Some-None.field-0-is)
    ∙ ap (λ a. bytes_behind c.args.path.now (path_in paths a c.args.scope.now.name.now)) (sym c.in-Some.is)

pub returns-in-Some-Some : goal.returns-in-Some-Some
returns-in-Some-Some c paths is =
    c.bytes_inside.ensures
    ∙ rest_some c.args.path.now paths c.args.self.now c.in-Some.around c.args.scope.now.name.now (Some c.in-Some-Some.rest) is
    (sym c.outer.ensures ∙ c.in-Some-Some.is ∙ ap Some c.in-Some-Some.field-0-is)
    ∙ ap (λ a. bytes_behind c.args.path.now (path_in paths a c.args.scope.now.name.now)) (sym c.in-Some.is)
