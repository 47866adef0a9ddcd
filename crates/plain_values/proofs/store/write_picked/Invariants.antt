use Rattle.std.proofs.Common.{◌≡◌, drop}
use Rattle.loc_base.specs.Bits.{width_of, value_of}
use Rattle.design_core.specs.Operator.{integer_of}
use Rattle.design_core.specs.Valuation.{bit}
use Rattle.design_core.specs.Store.{with_picked}
use Rattle.design_core.specs.Words.{valuation_of, AreWordsOf}
use Rattle.plain_values.proofs.store.write_picked.Given as goal

abbrev pub invariant-loop-b : goal.invariant-loop-b
invariant-loop-b l =
    let index = integer_of l.signed (width_of l.at) (value_of l.at) in
    record {
      words : AreWordsOf l.signals l.words;
      value : with_picked l.signals (valuation_of l.words) l.signal index l.b (drop l.b l.offsets) (bit (value_of l.value))
          ≡ with_picked l.signals (valuation_of l.initial.words) l.signal index 0 l.offsets (bit (value_of l.value));
    }
