use Rattle.std.proofs.Common.{ℕ, ◌<◌, length, get_or, ap, sym, ◌∙◌, arith}
use Rattle.std.proofs.lemmas.List.{drop_all}
use Rattle.loc_base.specs.Bits.{width_of}
use Rattle.design_core.specs.Words.{valuation_of}
use Rattle.plain_sim.specs.EvaluateCycle.{blended}
use Rattle.cycle_sim.specs.Masks.{is_among}
use Rattle.cycle_sim.proofs.WholeRegisters.{copied-next, copied-widths, width-alike}
use Rattle.cycle_sim.proofs.registers.copy_words.Goals as goal

pub loop-signal-preserved : goal.loop-signal-preserved
loop-signal-preserved c =
    let signal : ℕ = get_or c.args.signals.now c.loop-signal.signal-index 0 in
    let within : signal < length c.loop-signal.to =
    omega (arith, c.requires.within c.loop-signal.signal-index 0 c.loop-signal-test.true, c.loop-signal.auto.to) in
    let same = c.requires.from ∙ sym c.loop-signal.invariant.widths in
    record {
      widths = rw c.take.ensures (copied-widths c.loop-signal.to c.args.from.now signal c.index-from-signal.result same
          c.index-from-signal.is)
          ∙ c.loop-signal.invariant.widths;
      value =
          rw c.take.ensures (copied-next c.args.signals.now c.loop-signal.to c.args.from.now c.loop-signal.signal-index
          c.index-from-signal.result same c.loop-signal-test.true within c.index-from-signal.is)
          ∙ c.loop-signal.invariant.value;
    }

pub returns-clause-value : goal.returns-clause-value
returns-clause-value c =
    sym (ap (λ signals. blended (λ s b. is_among signals s) (valuation_of c.args.from.now) (valuation_of c.loop-signal.to))
    (drop_all c.loop-signal.signal-index c.args.signals.now c.loop-signal-test.false))
    ∙ c.loop-signal.invariant.value

pub take-requires : goal.take-requires
take-requires c =
    let signal : ℕ = get_or c.args.signals.now c.loop-signal.signal-index 0 in
    let within : signal < length c.loop-signal.to =
    omega (arith, c.requires.within c.loop-signal.signal-index 0 c.loop-signal-test.true, c.loop-signal.auto.to) in
    ap width_of (sym c.index-to-signal.is)
    ∙ width-alike c.loop-signal.to c.args.from.now signal c.index-to-signal.result c.index-from-signal.result
    (c.requires.from ∙ sym c.loop-signal.invariant.widths) within c.index-to-signal.is c.index-from-signal.is
