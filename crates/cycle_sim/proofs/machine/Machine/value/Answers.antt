use Rattle.cycle_code.specs.Program.{program_of}
use Rattle.cycle_sim.proofs.Held.{now-width, now-bits}
use Rattle.cycle_sim.proofs.machine.Machine.value.Goals as goal

pub returns : goal.returns
returns c =
    let machine = c.args.self.now in
    let p = program_of machine.compiled.code in
    let holding = c.requires.holding in
    record {
      width = now-width p machine.design.now machine.cells.items c.args.signal c.index.result.now
          holding.compiled.sound holding.cells holding.compiled.design c.requires.signal c.index.ensures;
      bits = λ b. now-bits p machine.design.now machine.cells.items c.args.signal b c.index.result.now
          holding.compiled.sound holding.cells holding.compiled.design c.requires.signal c.index.ensures;
    }
