use Rattle.std.proofs.Common.{◌≡◌, ◌++◌, map, drop}
use Rattle.bind_scopes.specs.Views.{numbered_of}
use Rattle.v_design.proofs.copies.signals_in.Given as goal

abbrev pub invariant-loop-one : goal.invariant-loop-one
invariant-loop-one l =
    l.signals ++ map (λ n. n.signal) (map numbered_of (drop l.one-index l.numbered)) ≡ map (λ n. n.signal) (map numbered_of l.numbered)
