use Rattle.std.proofs.Common.{◌∙◌, false, get_or, length, refl, ap, sym, subst, inl, inr}
use Rattle.clause_base.specs.declared.literal.Lit.{Lit}
use Rattle.trail_core.specs.Values.{IsVariable}
use Rattle.trail_core.specs.TrailState.{values_of}
use Rattle.trail_core.proofs.Looks.{has_at, variable_at}
use Rattle.sat_core.specs.declared.tracing.Tracing.{Tracing}
use Rattle.sat_core.specs.Derivation.{AreFalse}
use Rattle.sat_core.proofs.Marks.{MarksOthers-kept_at, MarksOthers-more_at}
use Rattle.sat_core.proofs.TracingBack.{marked_read}
use Rattle.sat_core.proofs.tracing.Tracing.take_in.Goals as goal
use Rattle.sat_core.proofs.tracing.Tracing.take_in.Goals.{then-l-skip+then-not-index+in_ok-mark, else-l-skip, else-l-skip-via-then-l-skip+else-not-index, else-l-skip-via-else-l-skip}

abbrev none : Lit
none = record { var = 0; negated = false }

pub mark-requires-clause-falsified : goal.mark-requires-clause-falsified
mark-requires-clause-falsified c =
    subst (λ ls. AreFalse (values_of c.args.trail.now.entries) ls c.args.skip) (sym c.clause-clause.ensures.value) c.requires.falsified _
    (has_at c.clause-clause.result.now c.loop-l.l-index none c.loop-l-test.true) c.if-l-skip.true

pub loop-l-preserved : goal.loop-l-preserved
loop-l-preserved c =
    let old = c.args.self.now.marked.items in
    let now = c.loop-l.self in
    let clause = c.clause-clause.result.now in
    let variable = variable_at c.args.trail.now.vars clause c.loop-l.l-index none c.clause-clause.ensures.within c.loop-l-test.true in
    elim c.if-l-skip.branch [
      | then-l-skip+then-not-index+in_ok-mark w ↦ rw w.self-is record {
        tracing = w.in_ok-mark.ensures.tracing;
        marks = MarksOthers-more_at old now.marked.items w.mark.new.self.marked.items clause c.loop-l.l-index none c.args.skip c.loop-l-test.true c.loop-l.invariant.marks w.if-l-skip.true
            (subst (λ n. IsVariable n (get_or clause c.loop-l.l-index none).var) (sym c.requires.tracing.size) variable) w.in_ok-mark.ensures.marks;
        chain = ap (λ v. v.items) w.mark.ensures.chain ∙ c.loop-l.invariant.chain;
      }
      | else-l-skip w ↦ rw w.self-is record {
        tracing = c.loop-l.invariant.tracing;
        marks = MarksOthers-kept_at old now.marked.items now.marked.items clause c.loop-l.l-index none c.args.skip c.loop-l-test.true c.loop-l.invariant.marks
            (elim w.else-l-skip.branch [
              | else-l-skip-via-then-l-skip+else-not-index x ↦ inr (marked_read now.marked.items (get_or clause c.loop-l.l-index none).var _ _
                  (subst (λ n. IsVariable n (get_or clause c.loop-l.l-index none).var) (sym c.loop-l.invariant.tracing.size) variable) x.index.ensures x.if-not-index.false)
              | else-l-skip-via-else-l-skip x ↦ inl x.if-l-skip.false
            ])
            refl;
        chain = c.loop-l.invariant.chain;
      }
    ]
