use Rattle.v_parser.proofs.FewParts.{one_source}
use Rattle.v_parser.proofs.source_laws.one_source.Goals as goal

pub returns : goal.returns
returns c = λ t s r is other. one_source t s r is other
