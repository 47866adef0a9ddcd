use Rattle.std.proofs.Common.{sym, subst}
use Rattle.std.specs.List.Sorted.{IsNonDecreasing}
use Rattle.std.proofs.lemmas.List.Sorted.{IsNonDecreasingBy-from_sort}
use Rattle.report_sets.proofs.PlacesOnce.{sorted-places}
use Rattle.report_sets.proofs.places.places_of.Goals as goal

pub each_once-requires : goal.each_once-requires
each_once-requires c =
    subst IsNonDecreasing (sym c.deref.ensures.value)
    (IsNonDecreasingBy-from_sort (λ x. x) c.sort_unstable.new.self.items c.sort_unstable.ensures.sorted)

pub returns-clause-places : goal.returns-clause-places
returns-clause-places c =
    sorted-places c.args.groups.now c.args.members.now c.in_ok-places.places.items c.sort_unstable.new.self.items c.deref.result.now c.each_once.result
    c.in_ok-places.ensures c.sort_unstable.ensures.permutation c.deref.ensures.value c.each_once.ensures.same
