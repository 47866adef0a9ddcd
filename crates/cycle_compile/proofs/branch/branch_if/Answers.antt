use Rattle.std.proofs.Common.{◌≤◌, length, arith}
use Rattle.std.proofs.lemmas.Bool.{le-leb}
use Rattle.cycle_code.specs.Program.{Program, program_of}
use Rattle.cycle_code.proofs.GrowthLaws.{both, is_cell-grown}
use Rattle.cycle_compile.proofs.Outcomes.{on_ok-three}
use Rattle.cycle_compile.proofs.Jumping.{more-instructions}
use Rattle.cycle_compile.proofs.Deciding.{Branches-if, Branches-unless}
use Rattle.cycle_compile.proofs.branch.branch_if.Goals as goal

pub push-requires-clause-fits : goal.push-requires-clause-fits
push-requires-clause-fits c =
    both (le-leb c.args.yes (length (program_of c.args.code.now).instructions) c.requires.yes) c.requires.cond

pub push-requires-2-clause-fits : goal.push-requires-2-clause-fits
push-requires-2-clause-fits c =
    let before : Program = program_of c.args.code.now in
    let old : Program = program_of c.jump.new.code in
    let most = more-instructions before old c.in_ok-jump.ensures.jumps.grown in
    let low : c.args.no ≤ length before.instructions = c.requires.no in
    both (le-leb c.args.no (length old.instructions) (omega arith))
    (is_cell-grown before old c.args.cond c.in_ok-jump.ensures.jumps.grown c.requires.cond)

pub returns-then-no-len-clause-branches : goal.returns-then-no-len-clause-branches
returns-then-no-len-clause-branches c =
    on_ok-three c.push.result
    (λ made sound grown. Branches-if (program_of c.args.code.now) (program_of c.push.new.self) c.args.cond c.args.yes
    c.args.no (omega arith) c.requires.yes made sound grown)
    c.push.ensures.value c.push.ensures.sound c.push.ensures.grown

pub returns-clause-branches : goal.returns-clause-branches
returns-clause-branches c =
    on_ok-three c.push-2.result
    (λ made sound grown.
    Branches-unless (program_of c.args.code.now) (program_of c.jump.new.code) (program_of c.push-2.new.self) c.args.cond
    c.args.yes c.args.no
    c.in_ok-jump.ensures.jumps c.requires.no made sound grown)
    c.push-2.ensures.value c.push-2.ensures.sound c.push-2.ensures.grown
