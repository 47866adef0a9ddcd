use Rattle.std.proofs.Common.{◌∙◌, sym, subst, false, take, Some, ◌+◌}
use Rattle.clause_base.specs.declared.literal.Lit.{Lit}
use Rattle.clause_base.specs.Literal.{IsWithin}
use Rattle.clause_base.specs.Acceptance.{numbered}
use Rattle.trail_core.specs.Values.{IsUnit}
use Rattle.trail_core.specs.TrailState.{values_of}
use Rattle.trail_core.proofs.Looks.{SoFar, variable_at, variable_of, look_rests_open, look_rests_true, look_false, look_open, look_all}
use Rattle.trail_core.proofs.plain.PlainTrail.look.Goals as goal
use Rattle.trail_core.proofs.plain.PlainTrail.look.Goals.{in-None-2, in-Some+else-value-l}

abbrev none : Lit
none = record { var = 0; negated = false }

pub value-requires : goal.value-requires
value-requires c =
    variable_at c.args.self.now.vars c.clause-l-items.result.now c.loop-l.l-index none c.clause-l-items.ensures.within c.loop-l-test.true

pub returns-in-None : goal.returns-in-None
returns-in-None c =
    look_rests_open (values_of c.args.self.now.entries) _ c.clause-l-items.result.now c.loop-l.l-index none c.loop-l.unassigned
    c.clause-l-items.ensures.value c.loop-l-test.true c.clause-l-items.ensures.distinct c.loop-l.invariant (sym c.is_some.ensures ∙ c.if-is_some.true) (sym c.value.ensures ∙ c.in-None.is)

pub returns-in-Some : goal.returns-in-Some
returns-in-Some c =
    look_rests_true (values_of c.args.self.now.entries) _ c.clause-l-items.result.now c.loop-l.l-index none c.in-Some.value
    c.clause-l-items.ensures.value c.loop-l-test.true (sym c.value.ensures ∙ c.in-Some.is) c.if-value-l.true

pub loop-l-preserved : goal.loop-l-preserved
loop-l-preserved c =
    let values = values_of c.args.self.now.entries in
    let items = c.clause-l-items.result.now in
    elim c.match-value.branch [
      | in-None-2 w ↦ subst (SoFar values (take (c.loop-l.l-index + 1) items)) (sym w.unassigned-is)
          (look_open values items c.loop-l.l-index none c.loop-l.unassigned c.loop-l-test.true c.loop-l.invariant (sym w.is_some.ensures ∙ w.if-is_some.false) (sym c.value.ensures ∙ w.in-None-2.is))
      | in-Some+else-value-l w ↦ subst (SoFar values (take (c.loop-l.l-index + 1) items)) (sym w.unassigned-is)
          (look_false values items c.loop-l.l-index none c.loop-l.unassigned w.in-Some.value c.loop-l-test.true c.loop-l.invariant (sym c.value.ensures ∙ w.in-Some.is) w.if-value-l.false)
    ]

pub returns-in-Some-unassigned : goal.returns-in-Some-unassigned
returns-in-Some-unassigned c =
    let unit : IsUnit (values_of c.args.self.now.entries) (numbered c.args.self.now.clauses c.args.number) c.in-Some-unassigned.l =
    look_all (values_of c.args.self.now.entries) (numbered c.args.self.now.clauses c.args.number) c.clause-l-items.result.now c.loop-l.l-index (Some c.in-Some-unassigned.l)
    c.clause-l-items.ensures.value c.loop-l-test.false (subst (SoFar (values_of c.args.self.now.entries) (take c.loop-l.l-index c.clause-l-items.result.now)) c.in-Some-unassigned.is c.loop-l.invariant) in
    record {
      variable = variable_of c.args.self.now.vars (numbered c.args.self.now.clauses c.args.number) c.in-Some-unassigned.l (subst (IsWithin c.args.self.now.vars) c.clause-l-items.ensures.value c.clause-l-items.ensures.within) unit.member;
      reason = record { number = c.requires; unit = unit };
    }
