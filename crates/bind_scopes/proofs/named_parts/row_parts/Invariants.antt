use Rattle.std.proofs.Common.{◌≡◌, ◌++◌, map}
use Rattle.std.specs.Vec.Iter.{into_iter_items}
use Rattle.v_binding.specs.Lefts.{part_of}
use Rattle.design_core.specs.declared.expression.Typed.{Typed}
use Rattle.bind_scopes.proofs.named_parts.row_parts.Given as goal

abbrev pub invariant-loop-typed : goal.invariant-loop-typed
invariant-loop-typed l =
    (l.parts ++ map (λ (e : Typed). part_of l.own e.node) (into_iter_items l.typed-iterator)) ≡ map (λ (e : Typed). part_of l.own e.node) l.fn.row
