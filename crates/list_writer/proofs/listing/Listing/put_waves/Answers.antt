use Rattle.std.proofs.Common.{◌≡◌, ℕ, List, Option, Some, ap, sym, subst}
use Rattle.std.specs.Option.{option_copied}
use Rattle.design_core.specs.declared.values.SetWithValues.{SetWithValues}
use Rattle.write_order.specs.Writes.{Leaves, on_shelf}
use Rattle.set_waves.specs.Waved.{AreRuns, Waved, waved_of}
use Rattle.set_waves.specs.Writes.{waves_of, waves_writes}
use Rattle.list_writer.specs.Asked.{Asked}
use Rattle.list_writer.specs.Jobs.{asked_of}
use Rattle.list_writer.specs.Texts.{waved_for}
use Rattle.list_writer.proofs.listing.Listing.put_waves.Goals as goal

pub returns-in-Some-clause-left : goal.returns-in-Some-clause-left
returns-in-Some-clause-left g c = λ told runs printed are.
    let asked : Asked = asked_of c.args.self.now.job in
    let found : List SetWithValues = c.args.self.now.found.items in
    let is : asked.waves ≡ Some c.in-Some.prefix.now = ap option_copied c.in-Some.is in
    let o = on_shelf (g.S.Shelf.written c.args.shelf.now) (g.S.Shelf.written c.put_waves.new.shelf) printed in
    let under = c.waves_under.result in
    let left : AreRuns (waved_of under) found runs → Leaves (waves_writes (waved_of under) under.prefix.now runs 0 found) o c.put_waves.result =
    subst (λ (xs : List SetWithValues). AreRuns (waved_of under) xs runs
    → Leaves (waves_writes (waved_of under) under.prefix.now runs 0 xs) o c.put_waves.result) c.deref.ensures.value
    (c.put_waves.ensures.left told runs printed) in
    let own : AreRuns (waved_for asked) found runs → Leaves (waves_writes (waved_for asked) under.prefix.now runs 0 found) o c.put_waves.result =
    subst (λ (w : Waved). AreRuns w found runs → Leaves (waves_writes w under.prefix.now runs 0 found) o c.put_waves.result)
    c.waves_under.ensures.waved left in
    subst (λ (p : Option (List ℕ)). Leaves (waves_of p (waved_for asked) runs found) o c.put_waves.result) (sym is)
    (subst (λ (p : List ℕ). Leaves (waves_writes (waved_for asked) p runs 0 found) o c.put_waves.result) c.waves_under.ensures.prefix (own are))
