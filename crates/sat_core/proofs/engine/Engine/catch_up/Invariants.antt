use Rattle.std.proofs.Common.{◌≡◌, ◌+◌, ◌-◌, ◌≤◌, length}
use Rattle.sat_core.specs.Engines.{IsFit, KeepsPace}
use Rattle.sat_core.proofs.engine.Engine.catch_up.Given as goal

abbrev pub invariant-loop-self : goal.invariant-loop-self
invariant-loop-self l = record {
  fit : IsFit l.self;
  level : l.self.trail.level ≡ 0;
  pace : KeepsPace l.fn.self l.self l.log;
  known : l.self.known ≤ length l.log;
  count : length l.self.trail.clauses + l.fn.self.known ≡ length l.fn.self.trail.clauses + l.self.known;
  entries : l.self.trail.entries ≡ l.fn.self.trail.entries;
  vars : l.self.trail.vars ≡ l.fn.self.trail.vars;
  chosen : l.self.chosen ≡ l.fn.self.chosen;
  preferred : l.self.preferred ≡ l.fn.self.preferred;
  form_len : l.self.form_len ≡ l.fn.self.form_len;
  model : l.self.model ≡ l.fn.self.model;
}

abbrev pub decreases-loop-self : goal.decreases-loop-self
decreases-loop-self l = length l.log - l.self.known
