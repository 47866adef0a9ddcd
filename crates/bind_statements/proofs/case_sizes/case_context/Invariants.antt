use Rattle.std.proofs.Common.{◌≡◌, map, drop}
use Rattle.v_syntax.specs.Tree.{tree_of}
use Rattle.v_hierarchy.specs.Views.{arm_of, arms_of}
use Rattle.v_binding.specs.Cases.{with_arms}
use Rattle.v_binding.specs.Cases as case
use Rattle.v_binding.specs.Seen.{names_in}
use Rattle.bind_statements.specs.Contexts.{context_of}
use Rattle.bind_statements.proofs.case_sizes.case_context.Given as goal

abbrev pub invariant-loop-arm : goal.invariant-loop-arm
invariant-loop-arm l =
    with_arms (names_in l.names) (arms_of (map arm_of (drop l.arm-index l.arms))) (context_of l.all)
    ≡ case.context_of (names_in l.names) (tree_of l.subject) (arms_of (map arm_of l.arms))
