use Rattle.io_ports.proofs.Transfers.{sent_more}
use Rattle.io_ports.proofs.transfer.write_piece.Goals as goal

pub loop-rest-preserved : goal.loop-rest-preserved
loop-rest-preserved g c = sent_more _ _ _ _ _ _ c.loop-rest.invariant c.in-Ok.ensures.bytes
