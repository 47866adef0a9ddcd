use Rattle.std.proofs.Common.{◌≡◌, ◌+◌, ◌-◌}
use Rattle.std.specs.Prelude.{length}
use Rattle.unroller.specs.Unrolls.{cycles_unrolled}
use Rattle.unroller.specs.Fields.{frame_of, unrolling_of}
use Rattle.unroller.proofs.work.Work.trace.Given as goal

abbrev pub invariant-loop-t : goal.invariant-loop-t
invariant-loop-t l = record {
  limit : l.self.maker.limit ≡ l.fn.self.maker.limit;
  grouped : l.frame.grouped ≡ l.fn.frame.grouped;
  many : length l.self.ends ≡ length l.fn.self.ends + l.t;
  rest : cycles_unrolled l.circuit (frame_of l.fn.frame).grouped l.trace (unrolling_of l.fn.self) l.fn.frame.states 0 l.trace.cycles
      ≡ cycles_unrolled l.circuit (frame_of l.fn.frame).grouped l.trace (unrolling_of l.self) l.frame.states l.t (l.trace.cycles - l.t);
}
