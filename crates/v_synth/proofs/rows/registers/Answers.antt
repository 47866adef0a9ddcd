use Rattle.std.proofs.Common.{◌≡◌, ℕ, ◌+◌, ◌<◌, List, length, arith, ap, sym, ◌∙◌, subst}
use Rattle.std.proofs.lemmas.List.{length-replicate}
use Rattle.design_core.specs.declared.design.Design.{Design}
use Rattle.design_core.specs.declared.signal.Signal.{Signal}
use Rattle.design_core.specs.Valuation.{bit}
use Rattle.design_core.specs.Drives.{is_driven}
use Rattle.v_synth.specs.Clocked.{register_mask}
use Rattle.v_synth.proofs.RowSteps.{RowSoFar, row-push, added-bits, register-is}
use Rattle.v_synth.proofs.rows.registers.Goals as goal

pub loop-s-preserved : goal.loop-s-preserved
loop-s-preserved c =
    let d : Design = c.args.design.now in
    let n : ℕ = length d.signals.items in
    let s : ℕ = c.loop-s.s in
    let signal : Signal = c.index.result.now in
    let set : List ℕ = c.in_ok-driven.driven in
    let within : s < n = omega (arith, c.loop-s-test.true, c.len-s-end.ensures) in
    let long : length set ≡ n = c.in_ok-driven.ensures.long ∙ length-replicate n 0 in
    let is : c.registers_of.result ≡ register_mask d s =
    c.registers_of.ensures (is_driven d s) (λ b low. ap (λ x. bit x b) c.mask.ensures ∙ added-bits n set (is_driven d) s b c.in_ok-driven.ensures within low long)
    ∙ register-is d s signal within c.index.ensures in
    subst (λ r. RowSoFar (register_mask d) r (s + 1)) (sym c.in_ok-push.ensures.ok) (row-push (register_mask d) c.loop-s.row s c.registers_of.result c.loop-s.invariant is)
