use Rattle.std.proofs.Common.{◌≡◌, ◌+◌, drop, IsTrue}
use Rattle.std.specs.List.{list_all}
use Rattle.design_core.specs.WellFormed.{typed_fits}
use Rattle.loc_base.specs.Bits.{width_of, value_of}
use Rattle.design_core.specs.Words.{valuation_of}
use Rattle.plain_values.specs.Evaluate.{join_parts, parts_sum}
use Rattle.plain_values.proofs.expression.+value.Given as goal

abbrev pub invariant-joined-loop-part : goal.invariant-joined-loop-part
invariant-joined-loop-part l = record {
  width : width_of l.word + parts_sum (drop l.part-index l.part-items) ≡ parts_sum l.parts;
  value : join_parts l.signals (valuation_of l.words) (value_of l.word) (drop l.part-index l.part-items)
      ≡ join_parts l.signals (valuation_of l.words) 0 l.parts;
  fits : IsTrue (list_all (typed_fits l.signals) (drop l.part-index l.part-items));
}
