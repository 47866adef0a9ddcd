use Rattle.std.proofs.Common.{◌≡◌, drop}
use Rattle.v_binding.specs.Seen.{names_in}
use Rattle.bind_signals.specs.Scopings.{scoping_of}
use Rattle.bind_signals.proofs.met.Met.leave.Given as goal

abbrev pub invariant-loop-place : goal.invariant-loop-place
invariant-loop-place l = record {
  same : scoping_of l.self ≡ scoping_of l.initial.self;
  rest : names_in l.self.seen ≡ drop l._place (names_in l.initial.self.seen);
}
