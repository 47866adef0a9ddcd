use Rattle.std.proofs.Common.{◌≡◌, ◌-◌, ℕ, length, drop, arith, subst}
use Rattle.std.specs.Prelude.{nat_lt}
use Rattle.std.proofs.lemmas.Bool.{ltb-true}
use Rattle.design_core.specs.Drives.{is_driven}
use Rattle.cycle_code.specs.Program.{Program, program_of}
use Rattle.cycle_sim.specs.Compiled.{Pushes, numbers_now}
use Rattle.cycle_sim.proofs.Collecting.{passes-at}
use Rattle.cycle_sim.proofs.Pushing.{drivers-more, Drives-pushed}
use Rattle.cycle_sim.proofs.compiled.drive_all.Goals as goal

pub drive_one-requires-clause-number : goal.drive_one-requires-clause-number
drive_one-requires-clause-number c =
    let count : ℕ = length c.args.design.now.drivers.items in
    ltb-true c.number_at.result count (passes-at (λ i. nat_lt i count) c.args.order.now (c.loop-k.k - 1) c.number_at.result
    c.requires.order c.number_at.ensures)

pub loop-k-preserved : goal.loop-k-preserved
loop-k-preserved c = record {
  pushes = drivers-more (program_of c.args.code.now) (program_of c.loop-k.code) (program_of c.drive_one.new.code)
      c.number_at.result c.loop-k.k c.args.order.now
      c.args.design.now c.loop-k-test.true c.number_at.ensures c.loop-k.invariant.pushes c.in_ok-drive_one.ensures.pushes;
  sound = c.in_ok-drive_one.ensures.sound;
}

pub returns-clause-drives : goal.returns-clause-drives
returns-clause-drives c =
    let old : Program = program_of c.args.code.now in
    let new : Program = program_of c.loop-k.code in
    let none : c.loop-k.k ≡ 0 = omega (arith, c.loop-k-test.false) in
    Drives-pushed old new (record { from = c.len-from.result; to = c.len-to.result }) c.args.order.now c.args.design.now
    c.requires.sound c.requires.design
    c.len-from.ensures c.len-to.ensures
    (subst (λ (k : ℕ). Pushes old new (numbers_now (drop k c.args.order.now)) (is_driven c.args.design.now)) none c.loop-k.invariant.pushes)
