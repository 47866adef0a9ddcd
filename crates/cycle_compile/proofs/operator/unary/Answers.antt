use Rattle.std.proofs.Common.{length, ap}
use Rattle.cycle_code.specs.Program.{Program, program_of}
use Rattle.cycle_code.proofs.GrowthLaws.{Grown-trans}
use Rattle.cycle_compile.specs.Compiling.{is_leaf}
use Rattle.cycle_compile.proofs.Operating.{Awaits-unary}
use Rattle.cycle_compile.proofs.OperatorFits.{unary-operand, unary-instruction}
use Rattle.cycle_compile.proofs.operator.unary.Goals as goal

pub place-requires-clause-fits : goal.place-requires-clause-fits
place-requires-clause-fits c =
    unary-operand c.args.code.now.design.now.signals.items c.args.e.now c.args.op c.args.arg.now c.requires.node c.requires.fits

pub push-requires-clause-fits : goal.push-requires-clause-fits
push-requires-clause-fits c =
    c.specialized-instruction.ensures.fitting (program_of c.place.new.code) (length (program_of c.place.new.code).instructions)
    (unary-instruction (program_of c.args.code.now) (program_of c.place.new.code)
    (length (program_of c.place.new.code).instructions) c.args.e.now c.args.cell
    c.args.op c.args.arg.now c.in_ok-operand.operand c.requires.node c.requires.fits c.in_ok-operand.ensures.grown
    c.requires.place c.in_ok-operand.ensures.place)

pub returns-clause-awaits : goal.returns-clause-awaits
returns-clause-awaits c =
    let before : Program = program_of c.args.code.now in
    let old : Program = program_of c.place.new.code in
    let new : Program = program_of c.push.new.self in
    let placed = c.in_ok-operand.ensures in
    let pushed = c.in_ok-push.ensures in
    Awaits-unary c.specialized-instruction.result before old new c.args.e.now c.args.cell c.args.op c.args.arg.now
    c.in_ok-operand.operand c.requires.node
    c.specialized-instruction.ensures
    (record {
      made = pushed.value;
      sound = pushed.sound;
      same = placed.instructions;
      grown = Grown-trans before old new placed.grown pushed.grown;
      place = c.requires.place;
      inner = ap is_leaf c.requires.node;
      fits = c.requires.fits;
    })
    (record { place = placed.place; fresh = placed.fresh; grown = placed.grown })
    pushed.grown
