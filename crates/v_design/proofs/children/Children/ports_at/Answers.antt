use Rattle.std.proofs.Common.{ℕ, List, [], map, sym, ap, ◌∙◌}
use Rattle.std.specs.Prelude.{get_or}
use Rattle.std.proofs.lemmas.List.{get_or_past}
use Rattle.v_binding.specs.Connections.{Socket}
use Rattle.bind_scopes.specs.Views.{socket_of}
use Rattle.v_design.proofs.ItemWalkLaws.{ports-here}
use Rattle.v_design.proofs.children.Children.ports_at.Goals as goal

pub returns-then-number-self : goal.returns-then-number-self
returns-then-number-self c =
    let ports_of : ℕ → List Socket = λ number. map socket_of (get_or c.args.self.ports.now number []) in
    sym (ports-here ports_of c.args.self.numbers.now c.args.place 0 c.if-place-self.false
    ∙ ap (map socket_of) (get_or_past c.args.self.ports.now (get_or c.args.self.numbers.now c.args.place 0) [] c.if-number-self.true))
