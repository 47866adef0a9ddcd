use Rattle.std.proofs.Common.{◌≢◌, sym, ◌∙◌}
use Rattle.loc_base.specs.Bits.{width_of, value_of}
use Rattle.cycle_code.specs.Program.{program_of}
use Rattle.cycle_compile.proofs.Labelling.{unlike-tests, no_match-tests, no_match-fits}
use Rattle.cycle_compile.proofs.Outcomes.{on_ok-three}
use Rattle.cycle_compile.proofs.case.compare.Goals as goal

pub returns-then-value-eq0-clause-tests : goal.returns-then-value-eq0-clause-tests
returns-then-value-eq0-clause-tests c =
    on_ok-three c.push.result
    (λ is sound grown.
    unlike-tests (program_of c.args.code.now) (program_of c.push.new.self) c.args.subject c.args.cell (value_of c.args.wild) c.args.no
    (sym c.value.ensures ∙ c.if-value-eq0.true) c.requires.no is sound grown)
    c.push.ensures.value c.push.ensures.sound c.push.ensures.grown

pub push-requires-2-clause-fits : goal.push-requires-2-clause-fits
push-requires-2-clause-fits c =
    let some : value_of c.args.wild ≢ 0 = λ none. c.if-value-eq0.false (c.value.ensures ∙ none) in
    no_match-fits (program_of c.args.code.now) (program_of c.constant.new.self) c.args.subject c.args.cell c.in_ok-wild.wild
    (width_of c.args.wild)
    (value_of c.args.wild) c.args.no c.in_ok-wild.ensures.number c.in_ok-wild.ensures.value c.in_ok-wild.ensures.grown
    c.requires.no c.requires.subject
    c.requires.cell (c.requires.cell_width some) (c.requires.wild_width some)

pub returns-clause-tests : goal.returns-clause-tests
returns-clause-tests c =
    on_ok-three c.push-2.result
    (λ is sound grown.
    no_match-tests (program_of c.args.code.now) (program_of c.constant.new.self) (program_of c.push-2.new.self) c.args.subject c.args.cell
    c.in_ok-wild.wild (width_of c.args.wild) (value_of c.args.wild) c.args.no c.requires.sound c.in_ok-wild.ensures.number
    c.in_ok-wild.ensures.value
    c.in_ok-wild.ensures.grown c.requires.no is sound grown)
    c.push-2.ensures.value c.push-2.ensures.sound c.push-2.ensures.grown
