use Rattle.std.proofs.Common.{ℕ, List, ◌++◌, ◌∙◌, sym, ap}
use Rattle.std.specs.Prelude.{codes}
use Rattle.vcd_words.specs.Lines.{line_text}
use Rattle.vcd_waves.specs.Lines.{variable_line}
use Rattle.made_input.specs.Made.{width}
use Rattle.made_input.proofs.Pieces.{appended7, header_text}
use Rattle.made_input.proofs.trace.write_header.Goals as goal

pub returns : goal.returns
returns c =
    let n = c.args.number in
    let wide = λ (code : ℕ) (name : List ℕ) (old : List ℕ).
    ap (λ w. old ++ line_text (variable_line code w name)) c.width-width.ensures.is in
    appended7 _ _ _ _ _ _ _ _ (codes "$timescale 1ns $end\n$scope module made $end\n")
    (line_text (variable_line 0 1 (codes "clk"))) (line_text (variable_line 1 (width n) (codes "a")))
    (line_text (variable_line 2 (width n) (codes "b"))) (line_text (variable_line 3 (width n) (codes "y")))
    (line_text (variable_line 4 (width n) (codes "z"))) (codes "$upscope $end\n$enddefinitions $end\n")
    c.in_ok-append.ensures.ok c.in_ok-write_variable.ensures
    (c.in_ok-write_variable-2.ensures ∙ wide 1 (codes "a") c.write_variable.new.text)
    (c.in_ok-write_variable-3.ensures ∙ wide 2 (codes "b") c.write_variable-2.new.text)
    (c.in_ok-write_variable-4.ensures ∙ wide 3 (codes "y") c.write_variable-3.new.text)
    (c.in_ok-write_variable-5.ensures ∙ wide 4 (codes "z") c.write_variable-4.new.text)
    c.in_ok-append-2.ensures.ok
    ∙ ap (λ l. c.args.text.now ++ l) (sym (header_text n))
