use Rattle.std.proofs.Common.{◌≡◌, drop, map}
use Rattle.std.specs.Prelude.{option_map}
use Rattle.v_syntax.specs.Tree.{tree_of}
use Rattle.v_scopes.specs.Around.{frames_of}
use Rattle.v_scopes.specs.Listed.{listed}
use Rattle.v_hierarchy.specs.Names.{look_in}
use Rattle.v_hierarchy.specs.Parameters.{given_by_order}
use Rattle.v_hierarchy.specs.Views.{given_of}
use Rattle.v_scopes.proofs.GivenLaws.{onto}
use Rattle.v_scopes.proofs.scope_stack.Scopes.given_by_order.Given as goal

abbrev pub invariant-loop-at : goal.invariant-loop-at
invariant-loop-at l =
    onto (map given_of l.done) (given_by_order (look_in (frames_of l.self)) (drop l.at (listed l.names)) (map (option_map tree_of) (drop l.at l.values)))
    ≡ given_by_order (look_in (frames_of l.self)) (listed l.names) (map (option_map tree_of) l.values)
