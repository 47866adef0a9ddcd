use Rattle.v_parser.proofs.FewParts.{few_parts}
use Rattle.v_parser.proofs.source_laws.few_parts.Goals as goal

pub returns : goal.returns
returns c = λ t s is. few_parts t s is
