use Rattle.std.proofs.Common.{ℕ, ◌∙◌, Option, get_or, ap}
use Rattle.aiger_rules.specs.First.{place_of, with_place}
use Rattle.aiger_rules.proofs.FirstLaws.{with_place-first}
use Rattle.aiger_rules.proofs.NameSteps.{key_of, no_symbol, symbol-is}
use Rattle.aiger_rules.proofs.names.symbols_of.Goals as goal

pub loop-place-preserved : goal.loop-place-preserved
loop-place-preserved c row =
    let symbols = c.args.content.now.symbols.items in
    let read = c.deref-symbol-items.result.now in
    let place = c.loop-place.place in
    let old = place_of c.loop-place.firsts in
    let symbol = get_or read place no_symbol in
    let (within, is) = symbol-is symbols read place c.deref-symbol-items.ensures.value c.loop-place-test.true in
    c.in_ok-meet.ensures row ∙ ap (λ (one : Option ℕ). with_place old one place row) c.named_row.ensures
    ∙ with_place-first (key_of c.args.content.now.counts) symbols place symbol row old within is c.loop-place.invariant
