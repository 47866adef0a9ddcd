use Rattle.std.proofs.Common.{◌<◌, ◌∙◌, ◌∷◌, ◌++◌, [], Some, None, ap, ap₂, sym, subst, arith, length, get_or, slice_set}
use Rattle.bind_clocks.specs.Tables.{with_root, AreRooted}
use Rattle.bind_clocks.proofs.EntryLaws.{rooted-grown, rooted-more}
use Rattle.bind_clocks.proofs.roots.Roots.push.Goals as goal

pub invariant_of-self-2 : goal.invariant_of-self-2
invariant_of-self-2 c =
    let list = c.self.inside.list in
    let table = c.fit.new.table.items in
    let e = Some c.with_root-entry.result in
    let are = rooted-grown list c.self.inside.table.items table c.self.invariant c.in_ok-fit.ensures.same c.in_ok-fit.ensures.no_less in
    let number = c.signal-signal.ensures in
    let below : c.args.root.signal < length table = omega (arith, c.in_ok-fit.ensures.long, number) in
    let is = c.with_root-entry.ensures ∙ ap₂ with_root (c.entry_of.ensures ∙ ap (λ n. get_or table n None) number) c.input.ensures in
    subst (λ xs. AreRooted xs (slice_set table c.signal-signal.result e)) (sym c.in_ok-push.ensures.ok)
    (subst (λ n. AreRooted (list ++ c.args.root ∷ []) (slice_set table n e)) (sym number) (rooted-more list c.args.root table e are below (ap Some is)))
