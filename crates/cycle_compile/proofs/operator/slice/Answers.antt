use Rattle.std.proofs.Common.{length, ap, refl}
use Rattle.cycle_code.specs.Program.{Program, program_of}
use Rattle.cycle_compile.specs.Compiling.{is_leaf}
use Rattle.cycle_compile.proofs.Outcomes.{on_ok-three}
use Rattle.cycle_compile.proofs.Operating.{Values-slice}
use Rattle.cycle_compile.proofs.OperatorFits.{slice-known, slice-instruction}
use Rattle.cycle_compile.proofs.operator.slice.Goals as goal

pub push-requires-clause-fits : goal.push-requires-clause-fits
push-requires-clause-fits c =
    slice-instruction (program_of c.args.code.now) (length (program_of c.args.code.now).instructions) c.args.e.now c.args.cell
    c.args.signal c.args.from c.args.width
    c.requires.node c.requires.fits c.requires.sound c.requires.place

pub returns-clause-values : goal.returns-clause-values
returns-clause-values c =
    let before : Program = program_of c.args.code.now in
    let new : Program = program_of c.push.new.self in
    on_ok-three c.push.result (λ made sound grown.
    Values-slice before new c.args.e.now c.args.cell c.args.signal c.args.from c.args.width c.requires.node
    (slice-known before c.args.e.now c.args.signal c.args.from c.args.width c.requires.node c.requires.fits c.requires.sound).signal_low
    (record {
      made = made;
      sound = sound;
      same = refl;
      grown = grown;
      place = c.requires.place;
      inner = ap is_leaf c.requires.node;
      fits = c.requires.fits;
    }))
    c.push.ensures.value c.push.ensures.sound c.push.ensures.grown
