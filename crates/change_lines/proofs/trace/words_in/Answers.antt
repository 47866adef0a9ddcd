use Rattle.std.proofs.Common.{◌≡◌, ◌≤◌, ◌+◌, ◌<◌, ℕ, List, length, map, take, ap, sym, subst, ◌∙◌, arith}
use Rattle.std.proofs.lemmas.List.{length_push, take_all}
use Rattle.loc_base.specs.declared.bits.Bits.{Bits}
use Rattle.design_core.specs.declared.design.Design.{Design}
use Rattle.design_core.specs.Valuation.{Valuation, width_at}
use Rattle.design_core.specs.Words.{valuation_of}
use Rattle.cycle_sim.specs.Simulator.{held_by}
use Rattle.change_lines.proofs.WordLaws.{sim-past, widths-more, words-all, words-more}
use Rattle.change_lines.proofs.trace.words_in.Goals as goal

pub loop-signal-preserved : goal.loop-signal-preserved
loop-signal-preserved c =
    let d : Design = c.args.design.now in
    let V : Valuation = (held_by c.args.sim.now).values in
    let i : ℕ = c.loop-signal.signal in
    let items = c.in_ok-push.ensures.items in
    let width = c.value.ensures.width ∙ ap (λ (q : Design). width_at q.signals.items i) c.requires.design in
    record {
      count = ap length items ∙ length_push c.loop-signal.words.items c.value.result ∙ ap (λ n. n + 1) c.loop-signal.invariant.count;
      widths = widths-more d.signals.items c.loop-signal.words.items _ c.value.result i (omega arith) width items c.loop-signal.invariant.widths;
      values = subst (λ (ws : List Bits). (s b : ℕ) → s < i + 1 → valuation_of ws s b ≡ V s b) (sym items)
          (words-more c.loop-signal.words.items c.value.result V i c.loop-signal.invariant.count c.loop-signal.invariant.values c.value.ensures.bits);
    }

pub returns-clause-words : goal.returns-clause-words
returns-clause-words c =
    let whole : length c.args.design.now.signals.items ≤ c.loop-signal.signal = omega arith in
    record {
      widths = c.loop-signal.invariant.widths ∙ ap (map (λ s. s.width)) (take_all c.loop-signal.signal c.args.design.now.signals.items whole);
    }

pub returns-clause-values : goal.returns-clause-values
returns-clause-values c =
    let whole : length c.args.design.now.signals.items ≤ c.loop-signal.signal = omega arith in
    words-all c.loop-signal.words.items (held_by c.args.sim.now).values
    (λ s b low. c.loop-signal.invariant.values s b (omega (arith, low, c.loop-signal.invariant.count)))
    (λ s b far. sim-past c.args.sim.now c.requires.sim s b
    (omega (arith, far, whole, c.loop-signal.invariant.count, ap (λ (q : Design). length q.signals.items) c.requires.design)))
