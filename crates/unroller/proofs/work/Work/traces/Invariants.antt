use Rattle.std.proofs.Common.{◌≡◌, ◌+◌, length, drop}
use Rattle.unroller.specs.Unrolls.{cycles_of, traces_unrolled}
use Rattle.unroller.specs.Fields.{frame_of, unrolling_of}
use Rattle.unroller.proofs.work.Work.traces.Given as goal

abbrev pub invariant-loop-i : goal.invariant-loop-i
invariant-loop-i l = record {
  limit : l.self.maker.limit ≡ l.fn.self.maker.limit;
  grouped : l.frame.grouped ≡ l.fn.frame.grouped;
  many : length l.self.ends + cycles_of (drop l.i l.traces) ≡ length l.fn.self.ends + cycles_of l.traces;
  rest : traces_unrolled l.circuit (frame_of l.fn.frame).grouped (unrolling_of l.fn.self) l.traces
      ≡ traces_unrolled l.circuit (frame_of l.fn.frame).grouped (unrolling_of l.self) (drop l.i l.traces);
}
