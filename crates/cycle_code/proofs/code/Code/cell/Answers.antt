use Rattle.std.proofs.Common.{rules, sym, subst, arith}
use Rattle.std.proofs.lemmas.Grind.{common_steps}
use Rattle.loc_base.specs.Bits.{width_of, value_of}
use Rattle.cycle_code.specs.Program.{program_of, Grown}
use Rattle.cycle_code.specs.Fitting.{IsSound}
use Rattle.cycle_code.proofs.SoundLaws.{Grown-cell, IsSound-cell}
use Rattle.cycle_code.proofs.code.Code.cell.Goals as goal

pub returns-clause-value : goal.returns-clause-value
returns-clause-value c = first_of (search rules, grind (arith, common_steps))

pub returns-clause-sound : goal.returns-clause-sound
returns-clause-sound c =
    subst IsSound (sym (returns-clause-value c))
    (IsSound-cell c.args.fixed (width_of c.args.word) (value_of c.args.word) (program_of c.args.self.now) c.requires)

pub returns-clause-grown : goal.returns-clause-grown
returns-clause-grown c =
    subst (Grown (program_of c.args.self.now)) (sym (returns-clause-value c))
    (Grown-cell c.args.fixed (width_of c.args.word) (value_of c.args.word) (program_of c.args.self.now))
