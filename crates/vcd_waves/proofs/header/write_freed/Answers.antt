use Rattle.std.proofs.Common.{◌<◌, ◌++◌, ◌∙◌, sym, ap, length, rules}
use Rattle.vcd_waves.specs.Variables.{clock_of}
use Rattle.vcd_waves.proofs.LineSteps.{appended3, freed_text}
use Rattle.vcd_waves.proofs.header.write_freed.Goals as goal

pub returns : goal.returns
returns c =
    let some : 0 < length c.args.freed.now = search rules in
    appended3 _ _ _ _ _ _ _ c.in_ok-write_scope.ensures c.in_ok-write_variables.ensures c.in_ok-append.ensures.ok
    ∙ ap (λ l. c.args.text.now ++ l) (sym (freed_text c.args.wave.now.design.now (clock_of c.args.wave.now) c.args.first c.args.freed.now some))
