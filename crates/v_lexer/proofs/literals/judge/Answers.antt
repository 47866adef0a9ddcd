use Rattle.std.proofs.Common.{sym}
use Rattle.v_lexer.proofs.LiteralRows.{judge_unquoted, judge_sized, judge_quoted}
use Rattle.v_lexer.proofs.literals.judge.Goals as goal

pub returns-in-None-clause-judged : goal.returns-in-None-clause-judged
returns-in-None-clause-judged c = judge_unquoted c.args.bytes.now c.judge_plain.result (sym c.in-None.ensures.at) c.judge_plain.ensures.judged

pub returns-then-is_bad_size-clause-judged : goal.returns-then-is_bad_size-clause-judged
returns-then-is_bad_size-clause-judged c = judge_sized c.args.bytes.now c.split_at.result.0.now c.in-Some.at (sym c.in-Some.ensures.at) c.split_at.ensures.front (cc)

pub returns-else-is_bad_size-clause-judged : goal.returns-else-is_bad_size-clause-judged
returns-else-is_bad_size-clause-judged c = judge_quoted c.args.bytes.now c.split_at.result.0.now c.in-Some.at c.judge_based.result (sym c.in-Some.ensures.at) c.split_at.ensures.front (cc) (cc)
