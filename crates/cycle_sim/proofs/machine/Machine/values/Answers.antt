use Rattle.std.proofs.Common.{◌≡◌, length, arith}
use Rattle.cycle_code.specs.Program.{program_of}
use Rattle.cycle_sim.proofs.Held.{front-fits, front-value}
use Rattle.cycle_sim.proofs.machine.Machine.values.Goals as goal

pub returns : goal.returns
returns c =
    let machine = c.args.self.now in
    let p = program_of machine.compiled.code in
    let many : c.len.result ≡ length machine.design.now.signals.items = omega (arith, c.len.ensures, machine.design.now.signals.ok.0) in
    record {
      words = front-fits p machine.design.now machine.cells.items c.deref.result.now c.len.result
          c.requires.compiled.sound c.requires.cells c.requires.compiled.design many c.deref.ensures.value;
      value = front-value p machine.design.now machine.cells.items c.deref.result.now c.len.result
          c.requires.compiled.design many c.deref.ensures.value;
    }
