use Rattle.std.proofs.Common.{◌∙◌, ◌++◌, ap, sym, subst}
use Rattle.sat_core.specs.Derivation.{Refutes, opposites_of}
use Rattle.sat_core.proofs.Denying.{Denies-from}
use Rattle.sat_core.proofs.EngineLemmas.{on_ok_map}
use Rattle.sat_core.proofs.analysis.Analysis.finish.Goals as goal

pub returns-clause-denies : goal.returns-clause-denies
returns-clause-denies c = on_ok_map c.collect.result _ _
    (λ e. Denies-from c.args.trail.now c.args.self.now.literals.items c.collect.new.self.literals.items c.args.self.now.marked.items c.refute.new.self.marked.items c.args.self.now.chain.items c.collect.new.self.chain.items c.requires.trail c.requires.starts
    (subst (λ v. Refutes c.args.trail.now c.args.self.now.marked.items c.refute.new.self.marked.items c.args.self.now.chain.items v.items 0) (sym c.collect.ensures.chain) c.in_ok-refute.ensures.refutes)
    (e ∙ ap (λ v. v.items ++ opposites_of c.refute.new.self.marked.items c.args.trail.now.entries) c.refute.ensures.literals))
    c.collect.ensures.literals
