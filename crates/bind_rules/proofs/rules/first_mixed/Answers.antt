use Rattle.std.proofs.Common.{◌≡◌, true, sym, ap, subst, ◌∙◌}
use Rattle.std.specs.Prelude.{if◌then◌else◌}
use Rattle.design_rules.specs.Assignments.{is_misassigned}
use Rattle.design_rules.specs.First.{IsFirst}
use Rattle.bind_rules.specs.Rules.{span_at, initial_span, is_set_first, is_mixed}
use Rattle.bind_rules.specs.Views.{beside_of}
use Rattle.bind_rules.proofs.FirstLaws.{either-first, first-this}
use Rattle.bind_rules.proofs.rules.first_mixed.Goals as goal

pub returns-in-Some-clause-first : goal.returns-in-Some-clause-first
returns-in-Some-clause-first c =
    let d = c.args.design.now in
    let b = beside_of c.args.beside in
    subst (IsFirst (λ k. is_mixed d b k ≡ true)) (sym c.lower_of.ensures ∙ c.in-Some.is)
    (either-first (is_misassigned d b.homes) (is_set_first d b) c.in_ok-misassigned.misassigned c.first_set.result c.in_ok-misassigned.ensures c.first_set.ensures)

pub returns-in-Some-clause-span : goal.returns-in-Some-clause-span
returns-in-Some-clause-span c =
    let d = c.args.design.now in
    let b = beside_of c.args.beside in
    let s = c.in-Some.signal in
    c.shown.ensures
    ∙ ap (λ t. if t then span_at b.spans s else initial_span s b.initial)
    (sym
    (first-this (is_misassigned d b.homes) c.in_ok-misassigned.misassigned c.first_set.result s c.in_ok-misassigned.ensures (sym c.lower_of.ensures ∙ c.in-Some.is)))
