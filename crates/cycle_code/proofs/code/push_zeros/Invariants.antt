use Rattle.std.proofs.Common.{◌≡◌, ◌++◌, map, take}
use Rattle.std.specs.Prelude.{false}
use Rattle.loc_base.specs.Bits.{width_of, value_of}
use Rattle.cycle_code.proofs.code.push_zeros.Given as goal

abbrev pub invariant-loop-signal : goal.invariant-loop-signal
invariant-loop-signal l =
    let passed = take l.signal-index l.signals in
    record {
      widths : map width_of l.cells.items ≡ map width_of l.initial.cells.items ++ map (λ s. s.width) passed;
      values : map value_of l.cells.items ≡ map value_of l.initial.cells.items ++ map (λ s. 0) passed;
      fixed : l.fixed.items ≡ l.initial.fixed.items ++ map (λ s. false) passed;
    }
