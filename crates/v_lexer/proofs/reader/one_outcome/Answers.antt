use Rattle.v_lexer.proofs.Unique.{one_text}
use Rattle.v_lexer.proofs.reader.one_outcome.Goals as goal

pub returns : goal.returns
returns c = one_text
