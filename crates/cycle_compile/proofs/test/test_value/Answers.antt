use Rattle.std.proofs.Common.{◌≤◌, List, length, sym, subst}
use Rattle.cycle_code.specs.declared.instruction.Instruction.{Instruction}
use Rattle.cycle_code.specs.Program.{Program, program_of}
use Rattle.cycle_code.proofs.GrowthLaws.{Grown-trans}
use Rattle.cycle_compile.proofs.Placing.{IsPlaceFor-grown}
use Rattle.cycle_compile.proofs.Deciding.{Decides-value}
use Rattle.cycle_compile.proofs.test.test_value.Goals as goal

pub branch_if-requires-clause-cond : goal.branch_if-requires-clause-cond
branch_if-requires-clause-cond c = c.in_ok-cond.ensures.place.is_there

pub branch_if-requires-clause-yes : goal.branch_if-requires-clause-yes
branch_if-requires-clause-yes c =
    subst (λ (is : List Instruction). c.args.yes ≤ length is) (sym c.in_ok-cond.ensures.instructions) c.requires.yes

pub branch_if-requires-clause-no : goal.branch_if-requires-clause-no
branch_if-requires-clause-no c =
    subst (λ (is : List Instruction). c.args.no ≤ length is) (sym c.in_ok-cond.ensures.instructions) c.requires.no

pub returns-clause-awaits : goal.returns-clause-awaits
returns-clause-awaits c =
    let before : Program = program_of c.args.code.now in
    let placed : Program = program_of c.place.new.code in
    let old : Program = program_of c.branch_if.new.code in
    let at = c.in_ok-cond.ensures in
    let branches = c.in_ok-branch_if.ensures.branches in
    record {
      grown = Grown-trans before placed old at.grown branches.grown;
      place = IsPlaceFor-grown placed old c.args.e.now c.in_ok-cond.cond branches.grown at.place;
      serves = λ last values.
          Decides-value before placed old last c.args.e.now c.in_ok-cond.cond c.args.yes c.args.no
          (record { place = at.place; fresh = at.fresh; grown = at.grown })
          branches values;
    }
