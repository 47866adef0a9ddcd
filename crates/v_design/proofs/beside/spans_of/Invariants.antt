use Rattle.std.proofs.Common.{◌≡◌, ◌++◌, map, drop}
use Rattle.bind_scopes.specs.Views.{numbered_of}
use Rattle.v_design.proofs.beside.spans_of.Given as goal

abbrev pub invariant-loop-one : goal.invariant-loop-one
invariant-loop-one l = l.spans ++ map (λ n. n.span) (map numbered_of (drop l.one-index l.signals)) ≡ map (λ n. n.span) (map numbered_of l.signals)
