use Rattle.std.proofs.Common.{◌≡◌, ◌^◌, ◌-◌, ap, arith, inl, inr}
use Rattle.std.specs.Prelude.{false}
use Rattle.design_core.specs.Drives.{is_reg}
use Rattle.v_synth.proofs.RowSteps.{registers-kind, registers-other}
use Rattle.v_synth.proofs.rows.registers_of.Goals as goal

pub returns-in-Input : goal.returns-in-Input
returns-in-Input c =
    let other : is_reg c.args.signal.now.kind ≡ false = elim c.in-Input.is [ inl e ↦ ap is_reg e | inr e ↦ ap is_reg e ] in
    λ f same. registers-other c.args.signal.now.width c.args.signal.now.kind f other

pub returns-in-Reg : goal.returns-in-Reg
returns-in-Reg c =
    let all : c.value.result ≡ 2 ^ c.args.signal.now.width - 1 =
    omega (arith, c.value.ensures, c.not.ensures.value, c.zero.ensures.value, ap (λ k. 2 ^ k) c.zero.ensures.width) in
    λ f same. registers-kind c.args.signal.now.width c.args.driven c.value.result c.args.signal.now.kind f c.requires.most (omega (arith, c.ranges.driven.fits)) same c.in-Reg.is all
