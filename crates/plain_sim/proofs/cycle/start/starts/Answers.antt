use Rattle.std.proofs.Common.{◌≡◌, List, length, ◌∙◌, ap, map, take, arith}
use Rattle.std.proofs.Math.Seq.{take-length}
use Rattle.loc_base.specs.Bits.{width_of}
use Rattle.design_core.specs.declared.signal.Signal.{Signal}
use Rattle.plain_sim.proofs.EvaluateRun.{starts-fit}
use Rattle.plain_sim.proofs.cycle.start.starts.Goals as goal

pub returns-clause-words : goal.returns-clause-words
returns-clause-words c =
    let signals : List Signal = c.args.design.now.signals.items in
    let all : c.loop-signal.signal-index ≡ length signals =
    omega (arith, c.loop-signal-test.false, c.loop-signal.auto.signal-index-end, ap length c.deref-signal-items.ensures.value) in
    record {
      widths =
          ap (map width_of) (c.loop-signal.invariant ∙ ap (λ n. map (λ (s : Signal). s.start) (take n signals)) all ∙ ap (map (λ (s : Signal). s.start)) (take-length signals))
          ∙ starts-fit signals c.requires.design.signals;
    }
