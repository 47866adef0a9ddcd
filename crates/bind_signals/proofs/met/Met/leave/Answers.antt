use Rattle.std.proofs.Common.{◌+◌, arith}
use Rattle.v_binding.specs.Seen.{names_in}
use Rattle.bind_signals.proofs.ScopingLaws.{drop_next, some_left}
use Rattle.bind_signals.proofs.met.Met.leave.Goals as goal

pub pop-requires : goal.pop-requires
pop-requires c =
    some_left (names_in c.args.self.now.seen) (names_in c.loop-place.self.seen) c.loop-place._place (omega (arith, c.loop-place-test.true, c.requires)) c.loop-place.invariant.rest

pub loop-place-preserved : goal.loop-place-preserved
loop-place-preserved c = record {
  same = c.loop-place.invariant.same;
  rest = drop_next (names_in c.args.self.now.seen) (names_in c.loop-place.self.seen) (names_in c.pop.new.self) c.loop-place._place (c.loop-place._place + 1) (omega arith)
      c.loop-place.invariant.rest c.pop.ensures;
}
