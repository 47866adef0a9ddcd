use Rattle.std.proofs.Common.{subst, length}
use Rattle.std.specs.Prelude.{◌||◌, OnOk}
use Rattle.std.specs.List.{list_any}
use Rattle.design_core.specs.Reads.{reads, part_reads}
use Rattle.design_bits.specs.Waits.{HasGone}
use Rattle.design_bits.proofs.waits.read_assignment.Goals as goal

pub returns : goal.returns
returns c =
    subst
    (λ S. OnOk c.read_both.result (HasGone (length S) c.args.walk.now c.read_both.new.walk (λ s b. reads S s b c.args.value.now || list_any (part_reads S s b) c.args.parts.now)))
    c.deref.ensures.value c.read_both.ensures
