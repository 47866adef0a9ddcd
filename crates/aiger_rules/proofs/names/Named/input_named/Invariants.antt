use Rattle.std.proofs.Common.{◌≡◌, ℕ, ◌<◌, false}
use Rattle.std.specs.Str.{bytes_eq}
use Rattle.aiger_text.specs.Content.{content_of}
use Rattle.aiger_rules.specs.Names.{port_name}
use Rattle.aiger_rules.proofs.names.Named.input_named.Given as goal

abbrev pub invariant-loop-row : goal.invariant-loop-row
invariant-loop-row l = (k : ℕ) → k < l.row → bytes_eq (port_name (content_of l.self.content.now) k) l.name ≡ false
