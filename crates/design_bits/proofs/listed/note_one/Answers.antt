use Rattle.std.proofs.Common.{◌∙◌, ap, refl, get_or, bit_or}
use Rattle.std.proofs.Math.ListN.{set}
use Rattle.design_bits.specs.Listed.{undone}
use Rattle.design_bits.proofs.Added.{adds-one}
use Rattle.design_bits.proofs.ListedLaws.{undone-noted}
use Rattle.design_bits.proofs.listed.note_one.Goals as goal

pub returns-in_ok-push-clause-added : goal.returns-in_ok-push-clause-added
returns-in_ok-push-clause-added c = adds-one c.args.table.now c.args.entry.signal c.args.entry.mask c.if-signal-table.true

pub returns-in_ok-push-clause-undone : goal.returns-in_ok-push-clause-undone
returns-in_ok-push-clause-undone c =
    let table = c.args.table.now in
    let signal = c.args.entry.signal in
    let added = bit_or (get_or table signal 0) c.args.entry.mask in
    ap (λ xs. undone xs (set table signal added)) c.in_ok-push.ensures.items
    ∙ undone-noted c.args.before.now.items table (record { signal = signal; mask = get_or table signal 0 }) added c.if-signal-table.true refl
