use Rattle.std.proofs.Common.{◌≡◌, ◌∙◌, ◌++◌, List, ℕ, ap, ap₂, arith, length, map, rules}
use Rattle.loc_base.specs.declared.bits.Bits.{Bits}
use Rattle.loc_base.specs.Bits.{value_of}
use Rattle.design_core.specs.declared.design.Design.{Design}
use Rattle.design_core.specs.Words.{valuation_of}
use Rattle.printed_text.specs.Numerals.{newline}
use Rattle.change_lines.specs.Lines.{cycle_text, line_of, member_of, name_of, operands_text, place_text, shown, words_text}
use Rattle.change_lines.specs.Operands.{named_below}
use Rattle.change_lines.specs.Telling.{places_in}
use Rattle.change_lines.proofs.ShownLaws.{line-whole}
use Rattle.change_lines.proofs.change.line.Goals as goal

pub returns : goal.returns
returns c =
    let d : Design = c.args.site.now.moment.design.now in
    let p : ℕ = c.args.change.now.place in
    let takes : ℕ = value_of c.args.change.now.takes in
    let place : List ℕ = place_text (member_of (map places_in c.args.site.now.groups.now) c.args.site.now.members.now p) (line_of d p) (name_of d p) in
    let cycle : List ℕ = cycle_text c.args.site.now.trace c.args.site.now.cycle in
    let count : c.len.result ≡ length d.signals.items = first_of (search rules, grind arith) in
    c.from_vec.ensures
    ∙ line-whole c.new-text.result.items c.push_suspect.new.text.items c.push_cycle.new.text.items c.push_words.new.text.items
    c.push_operands.new.text.items c.push_bytes.new.text.items place cycle _ _ newline c.new-text.ensures.items c.in_ok-push_suspect.ensures
    c.in_ok-push_cycle.ensures c.in_ok-push_words.ensures c.in_ok-push_operands.ensures c.in_ok-push_bytes.ensures
    ∙ ap₂ (λ words operands. place ++ cycle ++ words ++ operands ++ newline)
    (ap₂ (λ width computes. words_text width computes takes) c.requires.computes c.requires.value)
    (ap₂ (λ (ws : List Bits) (ss : List ℕ). operands_text (map (shown d (valuation_of ws)) ss)) c.deref.ensures.value
    (c.deref-2.ensures.value ∙ c.in_ok-signals.ensures ∙ ap (λ n. named_below n c.args.executed.now.side.now) count))
