use Rattle.std.specs.List.{between}
use Rattle.proof_check.proofs.Parts.{text-of_lines}
use Rattle.proof_check.proofs.text.parts.read_part.Goals as goal

pub returns-in-Ok : goal.returns-in-Ok
returns-in-Ok c = text-of_lines (between c.args.part.from c.args.part.end c.args.text.now) c.in-Ok.log c.in-Ok.ensures.ok
