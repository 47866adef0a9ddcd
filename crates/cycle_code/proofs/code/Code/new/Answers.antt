use Rattle.std.proofs.Common.{rules, sym, subst, arith}
use Rattle.std.proofs.lemmas.Grind.{common_steps}
use Rattle.cycle_code.specs.Fitting.{IsSound}
use Rattle.cycle_code.proofs.SoundLaws.{IsSound-empty}
use Rattle.cycle_code.proofs.code.Code.new.Goals as goal

pub returns-clause-value : goal.returns-clause-value
returns-clause-value c = first_of (search rules, grind (arith, common_steps))

pub returns-clause-sound : goal.returns-clause-sound
returns-clause-sound c = subst IsSound (sym (returns-clause-value c)) (IsSound-empty c.args.design.now)
