use Rattle.std.proofs.Common.{◌∙◌, arith}
use Rattle.list_verdict.proofs.Logs.{block-collected}
use Rattle.list_verdict.proofs.log.block_of.Goals as goal

pub new-requires : goal.new-requires
new-requires c =
    block-collected c.args.members.now c.deref.result.now c.loop-member.member-index (omega arith)
    (c.deref.ensures.value ∙ c.loop-member.invariant) c.requires
