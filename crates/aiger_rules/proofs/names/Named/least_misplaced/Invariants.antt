use Rattle.aiger_text.specs.Content.{content_of}
use Rattle.aiger_rules.specs.Naming.{is_misplaced, IsLeastOf, IsLineOf}
use Rattle.aiger_rules.specs.Ports.{symbol_line}
use Rattle.aiger_rules.proofs.names.Named.least_misplaced.Given as goal

abbrev pub invariant-loop-place : goal.invariant-loop-place
invariant-loop-place l = IsLeastOf (IsLineOf (is_misplaced (content_of l.self.content.now)) (symbol_line (content_of l.self.content.now)) l.place) l.least
