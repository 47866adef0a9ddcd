use Rattle.std.proofs.Common.{◌≡◌, ◌+◌, ◌<◌, ◌++◌, ℕ, suc, List, [], ◌∷◌, length, map, take, get_or, ap, sym, subst, ◌∙◌, arith}
use Rattle.std.proofs.Math.Seq.{take-suc}
use Rattle.design_core.specs.declared.design.Design.{Design}
use Rattle.design_core.specs.declared.trace.Checked.{Checked}
use Rattle.design_core.specs.Valuation.{Valuation}
use Rattle.cycle_sim.specs.Simulator.{held_by}
use Rattle.vcd_waves.specs.Lines.{expected}
use Rattle.set_waves.specs.Scenes.{given}
use Rattle.set_waves.proofs.OutputLaws.{given-known, output-next}
use Rattle.set_waves.proofs.outputs.push_outputs.Goals as goal

next : (k : ℕ) → k + 1 ≡ suc k
next k = omega arith

pub loop-output-preserved : goal.loop-output-preserved
loop-output-preserved c =
    let d : Design = c.args.design.now in
    let V : Valuation = (held_by c.args.sim.now).values in
    let i : ℕ = c.loop-output.output-index in
    let items : c.deref-output-items.result.now ≡ d.outputs.items = c.deref-output-items.ensures.value in
    let low : i < length d.outputs.items = subst (λ (xs : List ℕ). i < length xs) items c.loop-output-test.true in
    let output : ℕ = get_or d.outputs.items i 0 in
    let width = rw (items, c.requires.design) at c.value.ensures.width in
    let bits = rw items at c.value.ensures.bits in
    let more : take (i + 1) d.outputs.items ≡ take i d.outputs.items ++ output ∷ [] =
    ap (λ n. take n d.outputs.items) (next i) ∙ take-suc d.outputs.items i 0 low in
    subst (λ (xs : List Checked). map expected xs ≡ map expected c.args.entries.now.items
    ++ map (given d V) (take (i + 1) d.outputs.items)) (sym c.in_ok-push.ensures.items)
    (output-next d V c.args.entries.now.items c.loop-output.entries.items d.outputs.items i output c.all_known.result
    c.loop-output.invariant (c.all_known.ensures ∙ given-known d V output c.value.result width bits) more)
