use Rattle.std.proofs.Common.{◌∙◌, ap, sym, length, map, subst, List}
use Rattle.std.proofs.lemmas.List.{length-map}
use Rattle.std.specs.Option.{option_map}
use Rattle.vcd_reading.specs.declared.header.Variable.{Variable}
use Rattle.vcd_reading.specs.Found.{IsIndex}
use Rattle.vcd_reading.specs.HeaderView.{header_of, opened_of, variable_of}
use Rattle.vcd_reading.specs.PortView.{ports_in}
use Rattle.vcd_reading.specs.Scopes.{scope_by}
use Rattle.vcd_reading.proofs.found.scope_of.Goals as goal

pub returns-in_default : goal.returns-in_default
returns-in_default c =
    let h = header_of c.args.header.now in
    let none = ap (option_map _) c.in_default.is in
    c.first_scope.ensures h (ap (map variable_of) (sym c.as_slice-variables.ensures.value)) c.requires
    (length-map c.args.header.now.scopes.items opened_of ∙ ap length (sym c.as_slice-scopes.ensures.value))
    ∙ ap (scope_by h (ports_in c.args.sought.now.ports.now)) (sym none)
