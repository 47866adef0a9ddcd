use Rattle.std.proofs.Common.{◌-◌, ◌++◌, ◌∙◌, ap}
use Rattle.std.specs.Prelude.{codes}
use Rattle.made_input.specs.Made.{stage_lines, stages}
use Rattle.made_input.proofs.Pieces.{appended3}
use Rattle.made_input.proofs.design.write_block.Goals as goal

pub returns : goal.returns
returns c =
    appended3 _ _ _ _ (codes "always @(posedge clk) begin\nr1 <= a + b;\n")
    (stage_lines c.args.number (stages c.args.number - 1)) (codes "end\nendmodule\n") c.in_ok-append.ensures.ok
    (c.in_ok-write_stages.ensures ∙ ap (λ s. c.append.new.self ++ stage_lines c.args.number (s - 1)) c.stages.ensures.is)
    c.in_ok-append-2.ensures.ok
