use Rattle.std.proofs.Common.{◌≡◌, drop, IsTrue}
use Rattle.std.specs.List.{list_all, list_any}
use Rattle.loc_base.specs.Bits.{width_of, value_of}
use Rattle.design_core.specs.After.{matches}
use Rattle.design_core.specs.WellFormed.{label_fits}
use Rattle.design_core.specs.Words.{valuation_of}
use Rattle.changes.proofs.walk.some_label_matches.Given as goal

abbrev pub invariant-loop-label : goal.invariant-loop-label
invariant-loop-label l =
    let test = matches l.signals (valuation_of l.words) (value_of l.subject) in
    record {
      fits : IsTrue (list_all (label_fits l.signals (width_of l.subject)) (drop l.label-index l.labels));
      value : list_any test (drop l.label-index l.labels) ≡ list_any test l.labels;
    }
