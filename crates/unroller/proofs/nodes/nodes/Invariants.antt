use Rattle.std.proofs.Common.{◌≡◌, [], drop, length, take}
use Rattle.unroller.specs.Cycles.{frees_at, nodes_unrolled}
use Rattle.unroller.specs.Fields.{frame_of}
use Rattle.unroller.proofs.nodes.nodes.Given as goal

abbrev pub invariant-loop-i : goal.invariant-loop-i
invariant-loop-i l = record {
  limit : l.maker.limit ≡ l.fn.maker.limit;
  rest : nodes_unrolled (frame_of l.frame) l.fn.maker.nodes [] l.nodes ≡ nodes_unrolled (frame_of l.frame) l.maker.nodes l.now (drop l.i l.nodes);
  count : length l.now ≡ l.i;
  frees : l.frees ≡ frees_at (take l.i l.nodes) l.now;
}
