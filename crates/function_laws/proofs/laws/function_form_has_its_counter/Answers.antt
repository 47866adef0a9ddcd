use Rattle.function_laws.proofs.Join.{functions-counter, functions-within}
use Rattle.function_laws.proofs.laws.function_form_has_its_counter.Goals as goal

pub returns : goal.returns
returns g c = record { counter = functions-counter g.of c.requires; within = functions-within g.of c.requires }
