use Rattle.verilog_front_end.specs.Errors.{Refuses}
use Rattle.verilog_front_end.specs.Refusals.{IsRefusal}
use Rattle.verilog_front_end.proofs.Answers.{handed-on}
use Rattle.verilog_front_end.proofs.text.tree_of.Goals as goal

pub returns-in_err-tokens-clause-err : goal.returns-in_err-tokens-clause-err
returns-in_err-tokens-clause-err c = λ top clock.
    handed-on (Refuses (IsRefusal c.args.text.now top clock)) c.from_residual.result c.in_err-tokens.field-0.0
    c.from_residual.ensures.1 (c.in_err-tokens.ensures.err top clock)
