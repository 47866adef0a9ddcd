use Rattle.std.proofs.Common.{rules, sym, subst, arith}
use Rattle.std.proofs.lemmas.Grind.{common_steps}
use Rattle.cycle_code.specs.Program.{program_of, Grown}
use Rattle.cycle_code.specs.Fitting.{IsSound}
use Rattle.cycle_code.proofs.SoundLaws.{Grown-instruction, IsSound-instruction}
use Rattle.cycle_code.proofs.code.Code.push.Goals as goal

pub returns-clause-value : goal.returns-clause-value
returns-clause-value c = first_of (search rules, grind (arith, common_steps))

pub returns-clause-sound : goal.returns-clause-sound
returns-clause-sound c =
    subst IsSound (sym (returns-clause-value c))
    (IsSound-instruction c.args.instruction (program_of c.args.self.now) c.requires.sound c.requires.fits)

pub returns-clause-grown : goal.returns-clause-grown
returns-clause-grown c =
    subst (Grown (program_of c.args.self.now)) (sym (returns-clause-value c))
    (Grown-instruction c.args.instruction (program_of c.args.self.now))
