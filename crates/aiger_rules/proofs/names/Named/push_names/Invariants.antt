use Rattle.std.proofs.Common.{◌≡◌, ◌≤◌, ◌-◌, ◌++◌, map}
use Rattle.std.specs.List.{range_with_len}
use Rattle.aiger_text.specs.Content.{content_of}
use Rattle.aiger_rules.specs.Names.{port_name}
use Rattle.aiger_rules.proofs.names.Named.push_names.Given as goal

abbrev pub invariant-loop-row : goal.invariant-loop-row
invariant-loop-row l = record {
  pushed : l.names ≡ l.initial.names ++ map (port_name (content_of l.self.content.now)) (range_with_len l.from (l.row - l.from));
  few : l.row - l.from ≤ l.to - l.from;
}
