use Rattle.std.proofs.Common.{◌∙◌, ap, sym}
use Rattle.std.specs.Prelude.{◌||◌}
use Rattle.std.specs.List.{list_any}
use Rattle.std.proofs.lemmas.Bool.{eq-eqb, ne_eqb}
use Rattle.change_lines.specs.Operands.{names, node_names}
use Rattle.change_lines.proofs.NameRows.{names_pick, names_word, names_unary, names_binary, names_choose, names_join, names_repeat, names_resize}
use Rattle.change_lines.proofs.operands.+names.Goals as goal

pub names-returns-then-own-signal : goal.names-returns-then-own-signal
names-returns-then-own-signal t c =
    let s = c.args.signal in
    let p = c.in-Pick in
    eq-eqb p.own s c.if-own-signal.true ∙ ap (λ b. b || names s p.index) (sym (eq-eqb p.own s c.if-own-signal.true))
    ∙ sym (names_pick s p.own p.index p.offsets) ∙ ap (node_names s) (sym p.is)

pub names-returns-else-own-signal : goal.names-returns-else-own-signal
names-returns-else-own-signal t c =
    let s = c.args.signal in
    let p = c.in-Pick in
    c.names.ensures ∙ ap (names s) c.deref.ensures
    ∙ ap (λ b. b || names s p.index) (sym (ne_eqb p.own s c.if-own-signal.false))
    ∙ sym (names_pick s p.own p.index p.offsets) ∙ ap (node_names s) (sym p.is)

pub names-returns-in-Word : goal.names-returns-in-Word
names-returns-in-Word t c =
    let s = c.args.signal in
    let w = c.in-Word in
    c.names-in-Word.ensures ∙ ap (names s) c.deref-in-Word.ensures
    ∙ sym (names_word s w.first w.count w.low w.index w.from w.width) ∙ ap (node_names s) (sym w.is)

pub names-returns-in-Unary : goal.names-returns-in-Unary
names-returns-in-Unary t c =
    let s = c.args.signal in
    let u = c.in-Unary in
    c.names-in-Unary.ensures ∙ ap (names s) c.deref-in-Unary.ensures ∙ sym (names_unary s u.op u.arg) ∙ ap (node_names s) (sym u.is)

pub names-returns-in-Binary : goal.names-returns-in-Binary
names-returns-in-Binary t c =
    let s = c.args.signal in
    let e = c.in-Binary in
    ap (λ b. b || c.names-in-Binary-2.result) (c.names-in-Binary.ensures ∙ ap (names s) c.deref-in-Binary.ensures)
    ∙ ap (λ b. names s e.left || b) (c.names-in-Binary-2.ensures ∙ ap (names s) c.deref-in-Binary-2.ensures)
    ∙ sym (names_binary s e.op e.left e.right) ∙ ap (node_names s) (sym e.is)

pub names-returns-in-Choose : goal.names-returns-in-Choose
names-returns-in-Choose t c =
    let s = c.args.signal in
    let e = c.in-Choose in
    ap (λ b. b || c.names-in-Choose-2.result || c.names-in-Choose-3.result) (c.names-in-Choose.ensures ∙ ap (names s) c.deref-in-Choose.ensures)
    ∙ ap (λ b. names s e.cond || b || c.names-in-Choose-3.result) (c.names-in-Choose-2.ensures ∙ ap (names s) c.deref-in-Choose-2.ensures)
    ∙ ap (λ b. names s e.cond || names s e.yes || b) (c.names-in-Choose-3.ensures ∙ ap (names s) c.deref-in-Choose-3.ensures)
    ∙ sym (names_choose s e.cond e.yes e.no) ∙ ap (node_names s) (sym e.is)

pub names-returns-in-Repeat : goal.names-returns-in-Repeat
names-returns-in-Repeat t c =
    let s = c.args.signal in
    let r = c.in-Repeat in
    c.names-in-Repeat.ensures ∙ ap (names s) c.deref-in-Repeat.ensures ∙ sym (names_repeat s r.times r.part) ∙ ap (node_names s) (sym r.is)

pub names-returns-in-Join : goal.names-returns-in-Join
names-returns-in-Join t c =
    let s = c.args.signal in
    let j = c.in-Join in
    c.some_names.ensures ∙ ap (list_any (names s)) c.deref-in-Join.ensures ∙ sym (names_join s j.parts) ∙ ap (node_names s) (sym j.is)

pub names-returns-in-Resize : goal.names-returns-in-Resize
names-returns-in-Resize t c =
    let s = c.args.signal in
    let r = c.in-Resize in
    c.names-in-Resize.ensures ∙ ap (names s) c.deref-in-Resize.ensures ∙ sym (names_resize s r.arg) ∙ ap (node_names s) (sym r.is)
