use Rattle.std.proofs.Common.{◌≡◌, ◌∙◌, ◌++◌, false, List, ℕ, ap, append_assoc, length, map, sym}
use Rattle.std.specs.Prelude.{◌==◌, codes}
use Rattle.std.specs.List.{flat_map}
use Rattle.design_core.specs.Words.{valuation_of}
use Rattle.change_lines.specs.Lines.{Shown, operands_text, shown, shown_text}
use Rattle.change_lines.proofs.ShownLaws.{on-ok, operands-some}
use Rattle.change_lines.proofs.names.push_operands.Goals as goal

pub returns : goal.returns
returns c =
    let signals : List ℕ = c.args.signals.now in
    let old : List ℕ = c.args.text.now.items in
    let some : (length signals == 0) ≡ false = sym c.is_empty.ensures ∙ c.if-is_empty.false in
    let f : ℕ → Shown = shown c.args.design.now (valuation_of c.args.words.now) in
    let all : List ℕ = flat_map (λ s. shown_text (f s)) signals in
    on-ok c.push_all_shown.result (c.push_all_shown.new.text.items ≡ c.push_bytes.new.text.items ++ all)
    (c.push_all_shown.new.text.items ≡ old ++ operands_text (map f signals))
    (λ is.
    is ∙ ap (λ t. t ++ all) c.in_ok-push_bytes.ensures ∙ append_assoc old (codes ";") all
    ∙ ap (λ t. old ++ t) (sym (operands-some f signals some)))
    c.push_all_shown.ensures
