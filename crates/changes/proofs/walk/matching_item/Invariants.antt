use Rattle.std.proofs.Common.{◌≡◌, drop, IsTrue, find}
use Rattle.std.specs.List.{list_all}
use Rattle.loc_base.specs.Bits.{width_of, value_of}
use Rattle.design_core.specs.Words.{valuation_of}
use Rattle.plain_values.specs.Evaluate.{item_matches, item_fits}
use Rattle.changes.proofs.walk.matching_item.Given as goal

abbrev pub invariant-loop-i : goal.invariant-loop-i
invariant-loop-i l =
    let test = item_matches l.moment.design.now.signals.items (valuation_of l.words) (value_of l.subject) in
    record {
      fits : IsTrue (list_all (item_fits l.moment.design.now.signals.items l.moment.design.now.places.items (width_of l.subject))
          (drop l.i l.items));
      first : find test (drop l.i l.items) ≡ find test l.items;
    }
