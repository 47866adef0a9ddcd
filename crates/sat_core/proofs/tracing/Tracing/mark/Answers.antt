use Rattle.std.proofs.Common.{◌∙◌, ◌∷◌, ◌-◌, ◌≤◌, true, set, sym, ap, subst}
use Rattle.std.specs.Prelude.{is_none}
use Rattle.std.specs.BinaryHeap.{heap_items}
use Rattle.std.proofs.lemmas.List.{length-set}
use Rattle.std.proofs.lemmas.List.Elements.{All-push}
use Rattle.clause_base.specs.Literal.{IsWithin}
use Rattle.trail_core.specs.Values.{IsVariable}
use Rattle.sat_core.specs.Tracing.{AreDue}
use Rattle.sat_core.proofs.TracingBack.{AreDue-decision, AreDue-marked, AreDue-permutation, AreOf-marked, Gathers-decision, Gathers-marked, entry_for, place_for}
use Rattle.sat_core.proofs.tracing.Tracing.mark.Goals as goal

pub returns-in_ok-push-in-Some-clause-tracing : goal.returns-in_ok-push-in-Some-clause-tracing
returns-in_ok-push-in-Some-clause-tracing c =
    let t = c.args.trail.now in
    let s = c.args.self.now in
    let l = c.args.l in
    let h = c.requires.tracing in
    let e = entry_for t l c.requires.falsified in
    let inside = subst (λ n. IsVariable n l.var) (sym h.size) c.requires.variable in
    let reason = sym c.reason.ensures ∙ c.in-Some.is in
    record {
      size = length-set s.marked.items (l.var - 1) true ∙ h.size;
      places = h.places;
      are_due = AreDue-permutation t (set s.marked.items (l.var - 1) true) _ _ c.in_ok-push-in-Some.ensures.permutation
          (subst (λ p. AreDue t (set s.marked.items (l.var - 1) true) (p ∷ heap_items s.due)) (sym (place_for t s.places.items l.var e c.index.result.now h.places c.requires.variable c.index.ensures))
          (AreDue-marked t s.marked.items e.place l.var c.requires.trail h.size e.within e.variable (heap_items s.due) h.are_due c.requires.unmarked (ap is_none (sym e.reason ∙ reason))));
      order = c.in_ok-push-in-Some.ensures.heap_order h.order;
      gathers = Gathers-marked t s.marked.items s.literals.items l c.requires.trail h.size h.gathers c.requires.variable c.in-Some.field-0 c.requires.unmarked reason;
      met_within = subst (IsWithin t.vars) (sym c.in_ok-push.ensures.items) (All-push (λ x. (1 ≤ x.var) × (x.var ≤ t.vars)) s.met.items l h.met_within (c.requires.variable.above, c.requires.variable.within));
      met_each = AreOf-marked s.marked.items s.met.items c.push.new.self.items l h.met_each inside c.in_ok-push.ensures.items;
    }

pub returns-in_ok-push-in-None-clause-tracing : goal.returns-in_ok-push-in-None-clause-tracing
returns-in_ok-push-in-None-clause-tracing c =
    let t = c.args.trail.now in
    let s = c.args.self.now in
    let l = c.args.l in
    let h = c.requires.tracing in
    let e = entry_for t l c.requires.falsified in
    let inside = subst (λ n. IsVariable n l.var) (sym h.size) c.requires.variable in
    let none = sym c.reason.ensures ∙ c.in-None.is in
    record {
      size = length-set s.marked.items (l.var - 1) true ∙ h.size;
      places = h.places;
      are_due = AreDue-decision t s.marked.items e.place l.var c.requires.trail h.size e.within e.variable (heap_items s.due) h.are_due (ap is_none (sym e.reason ∙ none));
      order = h.order;
      gathers = Gathers-decision t s.marked.items s.literals.items l c.requires.trail h.size h.gathers c.requires.variable c.push-in-None.new.self.items c.requires.falsified c.requires.unmarked none c.in_ok-push-in-None.ensures.items;
      met_within = subst (IsWithin t.vars) (sym c.in_ok-push.ensures.items) (All-push (λ x. (1 ≤ x.var) × (x.var ≤ t.vars)) s.met.items l h.met_within (c.requires.variable.above, c.requires.variable.within));
      met_each = AreOf-marked s.marked.items s.met.items c.push.new.self.items l h.met_each inside c.in_ok-push.ensures.items;
    }
