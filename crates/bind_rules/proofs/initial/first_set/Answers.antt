use Rattle.std.proofs.Common.{◌≡◌, ◌+◌, ◌∙◌, Some, true, sym, ap, ap₂, subst, take}
use Rattle.std.specs.Prelude.{if◌then◌else◌}
use Rattle.design_rules.specs.First.{IsFirst}
use Rattle.bind_rules.specs.Lower.{lower_of}
use Rattle.design_rules.specs.Entries.{is_variable}
use Rattle.bind_rules.proofs.FirstLaws.{is_set_among, set-none, set-step, set-whole}
use Rattle.bind_rules.proofs.initial.first_set.Goals as goal

pub loop-start-init : goal.loop-start-init
loop-start-init c = set-none (is_variable c.args.design.now.signals.items) c.args.beside.initial.now

pub returns : goal.returns
returns c = set-whole (is_variable c.args.design.now.signals.items) c.args.beside.initial.now c.loop-start.start-index c.loop-start.found c.loop-start-test.false c.loop-start.invariant

pub loop-start-preserved : goal.loop-start-preserved
loop-start-preserved c =
    let signals = c.args.design.now.signals.items in
    let list = c.args.beside.initial.now in
    let i = c.loop-start.start-index in
    let x = c.start-item.result in
    let found = c.loop-start.found in
    let number = c.signal-signal.ensures ∙ ap (λ s. s.signal) c.start.ensures in
    let variable = c.is_variable-variable.ensures ∙ ap (λ ss. is_variable ss c.signal-signal.result) c.deref.ensures.value ∙ ap (is_variable signals) number in
    subst (IsFirst (λ s. is_set_among (is_variable signals) (take (i + 1) list) s ≡ true))
    (sym (c.with_set-found.ensures ∙ ap₂ (λ v n. if v then found else lower_of found (Some n)) variable number))
    (set-step (is_variable signals) list i x found c.loop-start-test.true c.start-item.is c.loop-start.invariant)
