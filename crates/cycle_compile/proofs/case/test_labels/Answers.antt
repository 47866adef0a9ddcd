use Rattle.std.proofs.Common.{◌≡◌, ℕ, ◌<◌, ◌-◌, List, length, drop, arith, ap, sym, subst, ◌∙◌}
use Rattle.std.proofs.lemmas.Bool.{ltb-true}
use Rattle.std.proofs.lemmas.Result.{on_ok_weaker}
use Rattle.design_core.specs.declared.statement.Label.{Label}
use Rattle.plain_values.proofs.EvaluateValue.{passes_at}
use Rattle.cycle_code.specs.Program.{Program, program_of, signals_of}
use Rattle.cycle_code.specs.Cells.{width_in}
use Rattle.cycle_compile.specs.Carrying.{Tests, some_equal, label_suits}
use Rattle.cycle_compile.proofs.Jumping.{more-instructions}
use Rattle.cycle_compile.proofs.Labelling.{labels-more, labels-end, label-suits-grown, drop-back}
use Rattle.cycle_compile.proofs.case.test_labels.Goals as goal

pub test_label-requires-clause-suits : goal.test_label-requires-clause-suits
test_label-requires-clause-suits c =
    let old : Program = program_of c.args.code.now in
    let test = label_suits (signals_of old) (width_in old.widths c.args.subject) in
    let within : c.loop-i.i - 1 < length c.args.labels.now = omega (arith, c.loop-i.auto.i, c.loop-i-test.true) in
    label-suits-grown old (program_of c.loop-i.code) c.args.subject c.index-labels-i.result c.loop-i.invariant.tests.grown
    c.requires.subject
    (ap test c.index-labels-i.is ∙ passes_at test c.args.labels.now (c.loop-i.i - 1) c.index-labels-i.result c.requires.suits within)

pub test_label-requires-clause-yes : goal.test_label-requires-clause-yes
test_label-requires-clause-yes c =
    let more = more-instructions (program_of c.args.code.now) (program_of c.loop-i.code) c.loop-i.invariant.tests.grown in
    omega (arith, more, c.requires.yes)

pub loop-i-preserved : goal.loop-i-preserved
loop-i-preserved c =
    let old : Program = program_of c.args.code.now in
    let mid : Program = program_of c.loop-i.code in
    let new : Program = program_of c.test_label.new.code in
    let rest : List Label = drop c.loop-i.i c.args.labels.now in
    let within = ltb-true c.args.subject (length old.widths) c.requires.subject in
    let back = drop-back c.args.labels.now c.loop-i.i c.index-labels-i.result c.loop-i-test.true c.loop-i.auto.i c.index-labels-i.is in
    let tests =
    labels-more old mid new c.loop-i.missed c.args.subject c.index-labels-i.result rest c.args.yes c.args.no within c.requires.sound
    c.loop-i.invariant.tests c.in_ok-test_label.ensures.tests in
    record {
      tests = subst (λ (n : ℕ). Tests old new n (some_equal c.args.subject (drop (c.loop-i.i - 1) c.args.labels.now)) c.args.yes c.args.no)
          (sym c.in_ok-missed.ensures)
          (subst (λ (ls : List Label). Tests old new (length new.instructions) (some_equal c.args.subject ls) c.args.yes
          c.args.no) (sym back) tests);
      sound = c.in_ok-test_label.ensures.sound;
    }

pub returns-clause-tests : goal.returns-clause-tests
returns-clause-tests c =
    let old : Program = program_of c.args.code.now in
    let mid : Program = program_of c.loop-i.code in
    let none : c.loop-i.i ≡ 0 = omega (arith, c.loop-i-test.false) in
    let tests =
    subst (λ (k : ℕ). Tests old mid c.loop-i.missed (some_equal c.args.subject (drop k c.args.labels.now)) c.args.yes c.args.no) none
    c.loop-i.invariant.tests in
    on_ok_weaker c.jump.result
    (λ jumps. labels-end old mid (program_of c.jump.new.code) c.loop-i.missed c.args.subject c.args.labels.now c.args.yes
    c.args.no tests jumps)
    c.jump.ensures.jumps
