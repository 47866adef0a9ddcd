use Rattle.cycle_code.specs.Program.{program_of}
use Rattle.cycle_sim.proofs.Pushing.{Carries-pushed}
use Rattle.cycle_sim.proofs.compiled.carry.Goals as goal

pub returns-clause-carries : goal.returns-clause-carries
returns-clause-carries c =
    Carries-pushed (program_of c.args.code.now) (program_of c.carry_out.new.code)
    (record { from = c.len-from.result; to = c.len-to.result }) c.args.statement.now
    c.requires.sound c.len-from.ensures c.len-to.ensures c.in_ok-carry_out.ensures.runs

pub returns-clause-grown : goal.returns-clause-grown
returns-clause-grown c = c.in_ok-carry_out.ensures.runs.grown
