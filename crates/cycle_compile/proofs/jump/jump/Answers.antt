use Rattle.cycle_code.specs.Program.{program_of}
use Rattle.cycle_compile.proofs.Jumping.{Jumps-push}
use Rattle.cycle_compile.proofs.Outcomes.{on_ok-three}
use Rattle.cycle_compile.proofs.jump.jump.Goals as goal

pub returns-clause-jumps : goal.returns-clause-jumps
returns-clause-jumps c =
    on_ok-three c.push.result
    (λ is sound grown. Jumps-push (program_of c.args.code.now) (program_of c.push.new.self) c.args.target c.requires.target is sound grown)
    c.push.ensures.value c.push.ensures.sound c.push.ensures.grown
