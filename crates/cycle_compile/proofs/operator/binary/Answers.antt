use Rattle.std.proofs.Common.{length, ap, ◌∙◌}
use Rattle.cycle_code.specs.Program.{Program, program_of}
use Rattle.cycle_code.proofs.GrowthLaws.{Grown-trans}
use Rattle.cycle_compile.specs.Compiling.{is_leaf}
use Rattle.cycle_compile.proofs.Placing.{IsPlaceFor-grown}
use Rattle.cycle_compile.proofs.Operating.{Awaits-binary}
use Rattle.cycle_compile.proofs.OperatorFits.{binary-operands, binary-instruction}
use Rattle.cycle_compile.proofs.Wide.{fits-grown_program}
use Rattle.cycle_compile.proofs.operator.binary.Goals as goal

pub place-requires-clause-fits : goal.place-requires-clause-fits
place-requires-clause-fits c =
    (binary-operands c.args.code.now.design.now.signals.items c.args.e.now c.args.op c.args.left.now c.args.right.now
    c.requires.node c.requires.fits).0

pub place-requires-2-clause-fits : goal.place-requires-2-clause-fits
place-requires-2-clause-fits c =
    fits-grown_program (program_of c.args.code.now) (program_of c.place.new.code) c.args.right.now c.in_ok-high.ensures.grown
    (binary-operands c.args.code.now.design.now.signals.items c.args.e.now c.args.op c.args.left.now c.args.right.now
    c.requires.node c.requires.fits).1

pub push-requires-clause-fits : goal.push-requires-clause-fits
push-requires-clause-fits c =
    let before : Program = program_of c.args.code.now in
    let between : Program = program_of c.place.new.code in
    let old : Program = program_of c.place-2.new.code in
    c.specialized-instruction.ensures.fitting old (length old.instructions)
    (binary-instruction before old (length old.instructions) c.args.e.now c.args.cell c.args.op c.args.left.now
    c.in_ok-high.high c.args.right.now c.in_ok-low.low
    c.args.left.now.signed c.args.right.now.signed c.requires.node c.requires.fits
    (Grown-trans before between old c.in_ok-high.ensures.grown c.in_ok-low.ensures.grown) c.requires.place
    (IsPlaceFor-grown between old c.args.left.now c.in_ok-high.high c.in_ok-low.ensures.grown c.in_ok-high.ensures.place)
    c.in_ok-low.ensures.place)

pub returns-clause-awaits : goal.returns-clause-awaits
returns-clause-awaits c =
    let before : Program = program_of c.args.code.now in
    let between : Program = program_of c.place.new.code in
    let old : Program = program_of c.place-2.new.code in
    let new : Program = program_of c.push.new.self in
    let one = c.in_ok-high.ensures in
    let other = c.in_ok-low.ensures in
    let pushed = c.in_ok-push.ensures in
    Awaits-binary c.specialized-instruction.result before between old new c.args.e.now c.args.cell c.args.op c.args.left.now
    c.in_ok-high.high c.args.right.now c.in_ok-low.low
    c.requires.node c.specialized-instruction.ensures c.requires.sound
    (record {
      made = pushed.value;
      sound = pushed.sound;
      same = other.instructions ∙ one.instructions;
      grown = Grown-trans before between new one.grown (Grown-trans between old new other.grown pushed.grown);
      place = c.requires.place;
      inner = ap is_leaf c.requires.node;
      fits = c.requires.fits;
    })
    (record { place = one.place; fresh = one.fresh; grown = one.grown })
    (record { place = other.place; fresh = other.fresh; grown = other.grown })
    pushed.grown
