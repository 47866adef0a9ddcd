use Rattle.std.proofs.Common.{◌≡◌, ◌∙◌, ◌++◌, List, ℕ, ap, ap₂, arith, length, rules}
use Rattle.std.specs.List.{flat_map}
use Rattle.change_lines.specs.Lines.{head_text}
use Rattle.change_lines.proofs.SetSteps.{text-whole}
use Rattle.change_lines.proofs.set.set_text.Goals as goal

pub returns-clause-text : goal.returns-clause-text
returns-clause-text c lines are =
    let texts : List (List ℕ) = c.in_ok-lines.lines.items in
    let members : List ℕ = c.args.set.now.members in
    let count : c.len.result ≡ length texts = first_of (search rules, grind arith) in
    let head : c.push_head.new.text.items ≡ head_text members (length texts) =
    c.in_ok-push_head.ensures ∙ rw (c.new-text.ensures.items) (ap₂ head_text c.as_slice.ensures count) in
    text-whole members lines texts c.from_vec.result (c.in_ok-lines.ensures.lines lines are)
    (c.from_vec.ensures ∙ c.in_ok-push_lines.ensures
    ∙ ap (λ (ls : List (List ℕ)). c.push_head.new.text.items ++ flat_map (λ (line : List ℕ). line) ls) c.deref.ensures.value
    ∙ ap (λ (t : List ℕ). t ++ flat_map (λ (line : List ℕ). line) texts) head)
