use Rattle.std.proofs.Common.{◌<◌, length, sym, ◌∙◌, arith}
use Rattle.vcd_reading.specs.PortView.{ports_in}
use Rattle.vcd_reading.specs.Scopes.{declares}
use Rattle.vcd_reading.proofs.IndexLaws.{least_found}
use Rattle.vcd_reading.proofs.found.first_scope.Goals as goal

pub returns-then-declares : goal.returns-then-declares
returns-then-declares c h variables index count =
    let within : c.loop-number.number < length h.scopes = omega (arith, c.loop-number-test.true, count) in
    sym (least_found (declares h (ports_in c.args.ports.now)) c.loop-number.number (length h.scopes) within (c.loop-number.invariant h variables index)
    (sym (c.declares.ensures h (record { variables = variables; index = index })) ∙ c.if-declares.true))
