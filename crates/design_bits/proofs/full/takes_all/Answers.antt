use Rattle.std.proofs.Common.{◌^◌, sym, subst, ℕ}
use Rattle.std.specs.List.{list_any}
use Rattle.design_core.specs.FullCase.{deciding_bits}
use Rattle.design_bits.specs.Full.{labels_take, Marks}
use Rattle.design_bits.proofs.FullLaws.{full-true, full-false}
use Rattle.design_bits.proofs.full.takes_all.Goals as goal

pub returns-in-None : goal.returns-in-None
returns-in-None c =
    let e = c.args.subject.now in
    let t = (λ (n : ℕ). list_any (λ y. labels_take c.args.signals.now e n y) c.args.items.now) in
    sym (full-true (2 ^ deciding_bits e.width e.node) c.mark_items.new.seen t (subst (λ o. Marks o c.mark_items.new.seen t) c.requires.none c.mark_items.ensures) c.in-None.ensures.none)

pub returns-in-Some : goal.returns-in-Some
returns-in-Some c =
    let e = c.args.subject.now in
    let t = (λ (n : ℕ). list_any (λ y. labels_take c.args.signals.now e n y) c.args.items.now) in
    sym (full-false (2 ^ deciding_bits e.width e.node) c.mark_items.new.seen t c.in-Some.field-0 (subst (λ o. Marks o c.mark_items.new.seen t) c.requires.none c.mark_items.ensures)
    c.in-Some.ensures.some.0 c.in-Some.ensures.some.1)
