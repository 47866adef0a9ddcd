use Rattle.std.proofs.Common.{refl, subst}
use Rattle.sat_core.specs.Derivation.{Unmarks}
use Rattle.sat_core.proofs.Unmarking.{unmarked_all}
use Rattle.sat_core.proofs.analysis.Analysis.clear.Goals as goal

pub returns-clause-empty : goal.returns-clause-empty
returns-clause-empty c = record {
  clean = unmarked_all c.args.self.now.marked.items c.unmark.new.marked.items c.args.self.now.literals.items c.requires.cover
      (subst (λ ls. Unmarks c.args.self.now.marked.items c.unmark.new.marked.items ls) c.deref.ensures.value c.unmark.ensures);
  literals = c.clear.ensures.items;
  chain = c.clear-2.ensures.items;
  present = refl;
}
