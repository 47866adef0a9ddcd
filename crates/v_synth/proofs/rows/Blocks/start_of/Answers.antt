use Rattle.std.proofs.Common.{◌≡◌, sym, ◌∙◌, subst, bit_and, get_or}
use Rattle.std.specs.Prelude.{IfSome}
use Rattle.loc_base.specs.Bits.{width_of, value_of}
use Rattle.v_synth.proofs.NetSteps.{StartFits, start-fits}
use Rattle.v_synth.proofs.rows.Blocks.start_of.Goals as goal

pub unwrap-requires : goal.unwrap-requires
unwrap-requires c =
    let f = subst (λ v. StartFits c.args.self.now.design.now c.args.signal c.index-declared.result.now.width (bit_and (get_or c.args.self.now.registers.now c.args.signal 0) v)) (sym c.value.ensures)
    (start-fits c.args.self.now.design.now c.args.self.now.registers.now c.args.signal c.index-declared.result.now c.requires.fits c.requires.registers c.requires.within c.index-declared.ensures) in
    c.new.ensures.some.1 (f.least, f.most, f.below)

pub returns-clause-width : goal.returns-clause-width
returns-clause-width c =
    let f = start-fits c.args.self.now.design.now c.args.self.now.registers.now c.args.signal c.index-declared.result.now c.requires.fits c.requires.registers c.requires.within c.index-declared.ensures in
    let width : width_of c.unwrap.result ≡ c.index-declared.result.now.width = subst (λ o. IfSome o (λ b. width_of b ≡ c.index-declared.result.now.width)) c.unwrap.ensures c.new.ensures.width in
    width ∙ f.wide

pub returns-clause-value : goal.returns-clause-value
returns-clause-value c =
    let f = subst (λ v. StartFits c.args.self.now.design.now c.args.signal c.index-declared.result.now.width (bit_and (get_or c.args.self.now.registers.now c.args.signal 0) v)) (sym c.value.ensures)
    (start-fits c.args.self.now.design.now c.args.self.now.registers.now c.args.signal c.index-declared.result.now c.requires.fits c.requires.registers c.requires.within c.index-declared.ensures) in
    let value : value_of c.unwrap.result ≡ bit_and (get_or c.args.self.now.registers.now c.args.signal 0) c.value.result =
    subst (λ o. IfSome o (λ b. value_of b ≡ bit_and (get_or c.args.self.now.registers.now c.args.signal 0) c.value.result)) c.unwrap.ensures c.new.ensures.value in
    value ∙ f.is
