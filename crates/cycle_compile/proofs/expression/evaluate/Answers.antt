use Rattle.std.proofs.Common.{ap}
use Rattle.cycle_code.specs.Program.{Program, program_of}
use Rattle.cycle_compile.proofs.Computing.{Values-tree}
use Rattle.cycle_compile.proofs.Outcomes.{on_ok-three}
use Rattle.cycle_code.proofs.GrowthLaws.{Grown-trans}
use Rattle.cycle_compile.proofs.expression.evaluate.Goals as goal

pub returns-clause-values : goal.returns-clause-values
returns-clause-values c =
    let before : Program = program_of c.args.code.now in
    let old : Program = program_of c.push_tree.new.self in
    let new : Program = program_of c.push.new.self in
    let made = c.in_ok-tree.ensures in
    on_ok-three c.push.result (λ value sound grown.
    Values-tree before old new c.args.e.now c.in_ok-tree.tree c.args.cell made.number made.value
    (record {
      made = value;
      sound = sound;
      same = ap (λ (p : Program). p.instructions) made.value;
      grown = Grown-trans before old new made.grown grown;
      place = c.requires.place;
      inner = c.requires.inner;
      fits = c.requires.fits;
    })
    grown)
    c.push.ensures.value c.push.ensures.sound c.push.ensures.grown
