use Rattle.std.proofs.Common.{option_map, inr, sym, ◌∙◌}
use Rattle.v_hierarchy.specs.Views.{instances_of}
use Rattle.v_design.proofs.MeansLaws.{can-run, known, too-large, broken, fine}
use Rattle.v_design.proofs.meant.design.Goals as goal

pub returns-then-is_too_large-clause-err : goal.returns-then-is_too_large-clause-err
returns-then-is_too_large-clause-err c =
    inr (inr (too-large (instances_of c.args.instances.now) (option_map (λ n. n.now) c.args.clock) c.in_ok-listed.listed.design c.in_ok-listed.ensures.ok.is
    (sym c.is_too_large.ensures ∙ c.if-is_too_large.true)))

pub first_broken-requires : goal.first_broken-requires
first_broken-requires c =
    let made = c.in_ok-listed.ensures.ok in
    can-run (instances_of c.args.instances.now) (option_map (λ n. n.now) c.args.clock) made.is.lists c.in_ok-listed.listed.design c.requires.stands c.requires.text
    made.is.bound made.is.of (sym c.is_too_large.ensures ∙ c.if-is_too_large.false)

pub returns-in-Some-clause-err : goal.returns-in-Some-clause-err
returns-in-Some-clause-err c =
    inr (inr (broken (instances_of c.args.instances.now) (option_map (λ n. n.now) c.args.clock) c.in_ok-listed.listed _ c.in_ok-fault.field-0 c.in-Some.fault
    c.in_ok-listed.ensures.ok c.beside.ensures c.in-Some.is c.in_ok-fault.ensures))

pub returns-in-None-clause-ok : goal.returns-in-None-clause-ok
returns-in-None-clause-ok c =
    fine (instances_of c.args.instances.now) (option_map (λ n. n.now) c.args.clock) c.in_ok-listed.listed _ c.in_ok-fault.field-0
    c.in_ok-listed.ensures.ok c.beside.ensures c.in-None.is c.in_ok-fault.ensures

pub returns-in-None-clause-well_formed : goal.returns-in-None-clause-well_formed
returns-in-None-clause-well_formed c =
    (known (instances_of c.args.instances.now) (option_map (λ n. n.now) c.args.clock) c.in_ok-listed.listed.design c.requires.stands c.requires.text
    (sym c.is_too_large.ensures ∙ c.if-is_too_large.false)
    (fine (instances_of c.args.instances.now) (option_map (λ n. n.now) c.args.clock) c.in_ok-listed.listed _ c.in_ok-fault.field-0
    c.in_ok-listed.ensures.ok c.beside.ensures c.in-None.is c.in_ok-fault.ensures)).well_formed

pub returns-in-None-clause-once : goal.returns-in-None-clause-once
returns-in-None-clause-once c =
    (known (instances_of c.args.instances.now) (option_map (λ n. n.now) c.args.clock) c.in_ok-listed.listed.design c.requires.stands c.requires.text
    (sym c.is_too_large.ensures ∙ c.if-is_too_large.false)
    (fine (instances_of c.args.instances.now) (option_map (λ n. n.now) c.args.clock) c.in_ok-listed.listed _ c.in_ok-fault.field-0
    c.in_ok-listed.ensures.ok c.beside.ensures c.in-None.is c.in_ok-fault.ensures)).once
