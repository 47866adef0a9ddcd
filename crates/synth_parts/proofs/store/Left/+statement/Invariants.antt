use Rattle.std.proofs.Common.{◌≡◌, drop, length}
use Rattle.std.specs.List.{All}
use Rattle.synth_parts.specs.Statement.{Maps, maps}
use Rattle.synth_parts.specs.Arms.{ArmFits, ItemsFit, StatementsFit, all_made, case_made, closed}
use Rattle.synth_parts.proofs.store.Left.+statement.Given as goal

abbrev pub invariant-arms-loop-i : goal.invariant-arms-loop-i
invariant-arms-loop-i l = record {
  fits : ItemsFit l.self.signals.now l.subject.width (drop l.i l.items);
  arms : All (ArmFits l.self.signals.now) l.arms;
  back : l.both ≡ l.fn.both;
  rest : (other : Maps → Maps) → closed l.self.signals.now l.fn.both.current.now l.fn.both.later.now l.arms
      (case_made l.self.signals.now (maps l.nodes l.fn.both.current.now l.fn.both.later.now) l.subject (drop l.i l.items) other)
      ≡ case_made l.self.signals.now (maps l.fn.nodes l.fn.both.current.now l.fn.both.later.now) l.subject l.items other;
}

abbrev pub invariant-statements-loop-i : goal.invariant-statements-loop-i
invariant-statements-loop-i l = record {
  current : length l.both.current.now ≡ length l.self.signals.now;
  later : length l.both.later.now ≡ length l.self.signals.now;
  base : l.both.current.base ≡ l.fn.both.current.base;
  base_later : l.both.later.base ≡ l.fn.both.later.base;
  fits : StatementsFit l.self.signals.now (drop l.i l.statements);
  rest : all_made l.self.signals.now (maps l.fn.nodes l.fn.both.current.now l.fn.both.later.now) l.statements
      ≡ all_made l.self.signals.now (maps l.nodes l.both.current.now l.both.later.now) (drop l.i l.statements);
}
