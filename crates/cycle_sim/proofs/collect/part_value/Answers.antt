use Rattle.std.proofs.Common.{◌≡◌, ℕ, ◌+◌, ◌^◌, arith, ap, sym, ◌∙◌}
use Rattle.std.specs.Prelude.{Bool, if◌then◌else◌}
use Rattle.design_core.specs.Valuation.{number}
use Rattle.design_core.specs.Drives.{part_drives}
use Rattle.design_core.proofs.NumberLaws.{number-zero, number-one_more, number-below}
use Rattle.cycle_sim.proofs.collect.part_value.Goals as goal

pub loop-b-init : goal.loop-b-init
loop-b-init c = sym (number-zero (λ b. part_drives c.args.signals.now c.args.s b c.args.part.now))

pub with_next-value-requires-clause-below : goal.with_next-value-requires-clause-below
with_next-value-requires-clause-below c =
    let f : ℕ → Bool = λ b. part_drives c.args.signals.now c.args.s b c.args.part.now in
    omega (arith, number-below c.loop-b.b f, c.loop-b.invariant, ap (λ n. 2 ^ n) c.from.ensures)

pub loop-b-preserved : goal.loop-b-preserved
loop-b-preserved c =
    let f : ℕ → Bool = λ b. part_drives c.args.signals.now c.args.s b c.args.part.now in
    c.with_next-value.ensures
    ∙ ap (λ k. c.loop-b.value + (if c.part_drives.result then 2 ^ k else 0)) c.from.ensures
    ∙ ap (λ n. n + (if c.part_drives.result then 2 ^ c.loop-b.b else 0)) c.loop-b.invariant
    ∙ ap (λ b. number c.loop-b.b f + (if b then 2 ^ c.loop-b.b else 0)) c.part_drives.ensures
    ∙ sym (number-one_more c.loop-b.b f)

pub returns : goal.returns
returns c =
    let f : ℕ → Bool = λ b. part_drives c.args.signals.now c.args.s b c.args.part.now in
    let same : c.loop-b.b ≡ c.args.width = omega (arith, c.loop-b-test.false, c.loop-b.auto.b-end) in
    c.loop-b.invariant ∙ ap (λ k. number k f) same
