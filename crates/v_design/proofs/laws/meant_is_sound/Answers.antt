use Rattle.v_design.specs.Means.{beside_binding}
use Rattle.v_design.proofs.Unbroken.{sound}
use Rattle.v_design.proofs.laws.meant_is_sound.Goals as goal

pub returns : goal.returns
returns c = λ instances clock d meant. sound d (beside_binding meant.is.lists) meant.sound
