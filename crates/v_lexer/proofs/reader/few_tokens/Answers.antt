use Rattle.v_lexer.proofs.Counted as counted
use Rattle.v_lexer.proofs.reader.few_tokens.Goals as goal

pub returns : goal.returns
returns c = counted.few_tokens
