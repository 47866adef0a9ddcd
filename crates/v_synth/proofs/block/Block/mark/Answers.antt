use Rattle.std.proofs.Common.{List, sym, subst}
use Rattle.design_core.specs.declared.design.Design.{Design}
use Rattle.design_core.specs.declared.driver.Clocked.{Clocked}
use Rattle.design_core.specs.declared.signal.Signal.{Signal}
use Rattle.design_core.specs.Drives.{block_drives}
use Rattle.design_bits.specs.Masks.{Adds}
use Rattle.v_synth.specs.Owned.{AreOwn}
use Rattle.v_synth.proofs.AssignedSteps.{own-is}
use Rattle.v_synth.proofs.block.Block.mark.Goals as goal

pub returns-clause-own : goal.returns-clause-own
returns-clause-own c =
    let d : Design = c.args.self.now.design.now in
    let block : Clocked = c.args.self.now.block.now in
    let added : Adds c.args.assigned.now.drives c.add_block.new.set (λ s b. block_drives d.signals.items s b block) =
    subst (λ (xs : List Signal). Adds c.args.assigned.now.drives c.add_block.new.set (λ s b. block_drives xs s b block)) c.as_slice.ensures.value
    c.in_ok-add_block.ensures in
    let own : AreOwn d block c.args.self.now.registers.now c.add_block.new.set c.mark.new.self.later.items =
    own-is d block c.args.self.now.registers.now c.args.assigned.now.drives c.add_block.new.set c.args.assigned.now.later.items c.mark.new.self.later.items
    c.requires.fits c.requires.registers c.requires.blank.marks added c.mark.ensures.marked in
    subst (λ drives. AreOwn d block c.args.self.now.registers.now drives c.mark.new.self.later.items) (sym c.mark.ensures.drives) own
