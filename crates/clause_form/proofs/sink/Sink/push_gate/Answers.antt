use Rattle.std.proofs.Common.{[], ◌∷◌, sym, subst}
use Rattle.std.specs.Prelude.{IsTrue}
use Rattle.clause_base.specs.declared.literal.Lit.{Lit}
use Rattle.clause_base.specs.Literal.{has_distinct_variables}
use Rattle.clause_form.proofs.GateSteps.{gate-parts}
use Rattle.clause_form.proofs.sink.Sink.push_gate.Goals as goal

pub push-requires : goal.push-requires
push-requires c =
    subst (λ (l : Lit). IsTrue (has_distinct_variables (l ∷ c.args.x ∷ []))) (sym c.opposite.ensures)
    (gate-parts c.args.v c.args.x c.args.y c.requires.distinct).0

pub push-requires-2 : goal.push-requires-2
push-requires-2 c =
    subst (λ (l : Lit). IsTrue (has_distinct_variables (l ∷ c.args.y ∷ []))) (sym c.opposite-2.ensures)
    (gate-parts c.args.v c.args.x c.args.y c.requires.distinct).1
