use Rattle.std.proofs.Common.{◌∙◌, false, get_or, sym, subst, inl, inr}
use Rattle.clause_base.specs.declared.literal.Lit.{Lit}
use Rattle.trail_core.specs.Values.{IsVariable}
use Rattle.trail_core.proofs.Looks.{has_at, variable_at}
use Rattle.sat_core.proofs.TakingIn.{TakesIn-kept, TakesIn-more}
use Rattle.sat_core.proofs.analysis.Analysis.take_in.Goals as goal
use Rattle.sat_core.proofs.analysis.Analysis.take_in.Goals.{then-l-skip+then-not-is_marked+in_ok-mark, else-l-skip, else-l-skip-via-then-l-skip+else-not-is_marked, else-l-skip-via-else-l-skip}

abbrev none : Lit
none = record { var = 0; negated = false }

pub mark-requires-clause-falsified : goal.mark-requires-clause-falsified
mark-requires-clause-falsified c = c.requires.falsified _ (has_at c.args.literals.now c.loop-l.l-index none c.loop-l-test.true) c.if-l-skip.true

pub loop-l-preserved : goal.loop-l-preserved
loop-l-preserved c =
    elim c.if-l-skip.branch [
      | then-l-skip+then-not-is_marked+in_ok-mark w ↦
          TakesIn-more c.args.trail.now c.args.self.now c.loop-l.self w.mark.new.self c.if-l-skip.self c.args.literals.now c.loop-l.l-index none c.args.skip c.loop-l-test.true c.loop-l.invariant w.if-l-skip.true
          (subst (λ n. IsVariable n (get_or c.args.literals.now c.loop-l.l-index none).var) (sym c.requires.tracks.size) (variable_at c.args.trail.now.vars c.args.literals.now c.loop-l.l-index none c.requires.within c.loop-l-test.true))
          w.in_ok-mark.ensures.chain w.in_ok-mark.ensures.tracks w.in_ok-mark.ensures.marks w.self-is
      | else-l-skip w ↦
          TakesIn-kept c.args.trail.now c.args.self.now c.loop-l.self c.if-l-skip.self c.args.literals.now c.loop-l.l-index none c.args.skip c.loop-l-test.true c.loop-l.invariant
          (elim w.else-l-skip.branch [
            | else-l-skip-via-then-l-skip+else-not-is_marked x ↦ inr (sym x.is_marked.ensures ∙ x.if-not-is_marked.false)
            | else-l-skip-via-else-l-skip x ↦ inl x.if-l-skip.false
          ])
          w.self-is
    ]
