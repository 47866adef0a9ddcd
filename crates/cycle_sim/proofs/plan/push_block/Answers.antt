use Rattle.cycle_sim.proofs.Planning.{pushed-masks}
use Rattle.cycle_sim.proofs.plan.push_block.Goals as goal

pub returns : goal.returns
returns c =
    record {
      own = c.in_ok-own.own.items;
      at_once = c.in_ok-at_once.at_once.items;
      now = c.in_ok-now.now.items;
      own_last = rw c.deref-3.ensures.value at c.in_ok-push.ensures.ok;
      at_once_last = rw c.deref-4.ensures.value at c.in_ok-push-2.ensures.ok;
      now_last = rw c.deref-5.ensures.value at c.in_ok-push-3.ensures.ok;
      masks =
          pushed-masks c.args.design.now c.args.block.now c.args.registers.now c.in_ok-all.all.items c.in_ok-own.own.items
          c.in_ok-at_once.at_once.items c.in_ok-now.now.items
          c.requires.registers c.requires.fits c.requires.bits c.in_ok-all.ensures c.in_ok-own.ensures.widths
          (rw c.deref.ensures.value at c.in_ok-own.ensures.bits)
          c.in_ok-at_once.ensures (rw c.deref-2.ensures.value at c.in_ok-now.ensures.widths)
          (rw c.deref-2.ensures.value at c.in_ok-now.ensures.bits);
    }
