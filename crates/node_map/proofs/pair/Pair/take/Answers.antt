use Rattle.std.proofs.Common.{ℕ, ◌<◌, List, length, All, sym, subst}
use Rattle.node_map.specs.Entries.{AreWithin}
use Rattle.node_map.proofs.PairSteps.{entries-within}
use Rattle.node_map.proofs.pair.Pair.take.Goals as goal

pub returns-clause-within_current : goal.returns-clause-within_current
returns-clause-within_current c =
    let now : List ℕ = c.args.self.now.current.now in
    subst (AreWithin (length now)) (sym c.in_ok-kept.ensures.current)
    (entries-within now c.as_slice.result.now (length now) (subst (All (λ s. s < length now)) (sym c.as_slice.ensures) c.in_ok-signals.ensures.current.within))

pub returns-clause-within_later : goal.returns-clause-within_later
returns-clause-within_later c =
    let now : List ℕ = c.args.self.now.later.now in
    subst (AreWithin (length now)) (sym c.in_ok-kept.ensures.later)
    (entries-within now c.as_slice.result.now (length now) (subst (All (λ s. s < length now)) (sym c.as_slice.ensures) c.in_ok-signals.ensures.later.within))
