use Rattle.std.proofs.Common.{◌≡◌, map, drop}
use Rattle.v_hierarchy.specs.Views.{steps_of, step_list_of, arm_of, arms_of, turn_of, turns_of}
use Rattle.bind_signals.specs.LoopNames.{listed, with_all, with_arms, with_turns}
use Rattle.bind_signals.proofs.looped.+loops.Given as goal

abbrev pub invariant-add_all-loop-steps : goal.invariant-add_all-loop-steps
invariant-add_all-loop-steps l =
    with_all (step_list_of (map steps_of (drop l.steps-index l.list))) (listed l.names) ≡ with_all (step_list_of (map steps_of l.list)) (listed l.fn.names)

abbrev pub invariant-add_arms-loop-arm : goal.invariant-add_arms-loop-arm
invariant-add_arms-loop-arm l =
    with_arms (arms_of (map arm_of (drop l.arm-index l.arms))) (listed l.names) ≡ with_arms (arms_of (map arm_of l.arms)) (listed l.fn.names)

abbrev pub invariant-add_turns-loop-turn : goal.invariant-add_turns-loop-turn
invariant-add_turns-loop-turn l =
    with_turns (turns_of (map turn_of (drop l.turn-index l.turns))) (listed l.names) ≡ with_turns (turns_of (map turn_of l.turns)) (listed l.fn.names)
