use Rattle.std.proofs.Common.{◌≡◌, reverse, vec_len}
use Rattle.v_binding.specs.Gates.{outputs_driven}
use Rattle.v_binding.specs.Homes.{home_of}
use Rattle.bind_items.proofs.outputs.drive.Given as goal

abbrev pub invariant-loop-output : goal.invariant-loop-output
invariant-loop-output l =
    outputs_driven l.scene.frame.now (home_of l.scene.home) l.given.span l.given.copy l.given.value.now (reverse l.rest.items) l.bound
    ≡ outputs_driven l.scene.frame.now (home_of l.scene.home) l.given.span l.given.copy l.given.value.now l.fn.outputs l.initial.bound

abbrev pub decreases-loop-output : goal.decreases-loop-output
decreases-loop-output l = vec_len l.rest
