use Rattle.std.proofs.Common.{[], ◌∷◌, ◌++◌, ◌∙◌, ap, arith}
use Rattle.design_core.specs.declared.place.Place.{Place}
use Rattle.aiger_text.specs.Rows.{first_and}
use Rattle.aiger_design.specs.Drivers.{and_place}
use Rattle.aiger_rules.proofs.PortSteps.{push-range}
use Rattle.aiger_design.proofs.file.File.push_and_places.Goals as goal

pub loop-row-preserved : goal.loop-row-preserved
loop-row-preserved c = record {
  made = push-range (and_place c.args.self.now.rows.now c.args.self.now.numbering c.args.top.now) (first_and c.args.self.now.numbering.counts) c.loop-row.row c.args.places.now.items c.loop-row.places.items c.push.new.self.items c.loop-row.invariant.from c.loop-row.invariant.made
      (c.in_ok-push.ensures.items ∙ ap (λ (x : Place). c.loop-row.places.items ++ x ∷ []) (c.in_ok-and_place.ensures));
  from = omega arith;
  few = omega arith;
}
