use Rattle.std.proofs.Common.{◌≤◌, List, length, sym, subst, ◌∙◌}
use Rattle.cycle_code.specs.declared.instruction.Instruction.{Instruction}
use Rattle.cycle_code.specs.Program.{Program, program_of}
use Rattle.cycle_code.proofs.GrowthLaws.{Grown-trans}
use Rattle.cycle_compile.proofs.Placing.{IsPlaceFor-grown}
use Rattle.cycle_compile.proofs.Wide.{fits-grown_program}
use Rattle.cycle_compile.proofs.Deciding.{Tests-equal}
use Rattle.cycle_compile.proofs.test.test_equal.Goals as goal

pub place-requires-2-clause-fits : goal.place-requires-2-clause-fits
place-requires-2-clause-fits c =
    fits-grown_program (program_of c.args.code.now) (program_of c.place.new.code) c.args.right.now c.in_ok-high.ensures.grown
    c.requires.right

pub branch_equal-requires-clause-left : goal.branch_equal-requires-clause-left
branch_equal-requires-clause-left c =
    (IsPlaceFor-grown (program_of c.place.new.code) (program_of c.place-2.new.code) c.args.left.now c.in_ok-high.high
    c.in_ok-low.ensures.grown
    c.in_ok-high.ensures.place).is_there

pub branch_equal-requires-clause-right : goal.branch_equal-requires-clause-right
branch_equal-requires-clause-right c = c.in_ok-low.ensures.place.is_there

pub branch_equal-requires-clause-yes : goal.branch_equal-requires-clause-yes
branch_equal-requires-clause-yes c =
    subst (λ (is : List Instruction). c.args.yes ≤ length is)
    (sym (c.in_ok-low.ensures.instructions ∙ c.in_ok-high.ensures.instructions)) c.requires.yes

pub branch_equal-requires-clause-no : goal.branch_equal-requires-clause-no
branch_equal-requires-clause-no c =
    subst (λ (is : List Instruction). c.args.no ≤ length is)
    (sym (c.in_ok-low.ensures.instructions ∙ c.in_ok-high.ensures.instructions)) c.requires.no

pub returns-clause-awaits : goal.returns-clause-awaits
returns-clause-awaits c =
    let before : Program = program_of c.args.code.now in
    let between : Program = program_of c.place.new.code in
    let placed : Program = program_of c.place-2.new.code in
    let old : Program = program_of c.branch_equal.new.code in
    let one = c.in_ok-high.ensures in
    let other = c.in_ok-low.ensures in
    let branches = c.in_ok-branch_equal.ensures.branches in
    let later = Grown-trans between placed old other.grown branches.grown in
    record {
      grown = Grown-trans before between old one.grown later;
      left_place = IsPlaceFor-grown between old c.args.left.now c.in_ok-high.high later one.place;
      right_place = IsPlaceFor-grown placed old c.args.right.now c.in_ok-low.low branches.grown other.place;
      serves = λ middle last rights lefts.
          Tests-equal before between placed old middle last c.args.left.now c.args.right.now c.in_ok-high.high c.in_ok-low.low
          c.args.yes c.args.no c.requires.sound
          (record { place = one.place; fresh = one.fresh; grown = one.grown })
          (record { place = other.place; fresh = other.fresh; grown = other.grown })
          branches rights lefts;
    }
