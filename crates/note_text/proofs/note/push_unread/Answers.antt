use Rattle.std.proofs.Common.{◌++◌, ap, codes, ◌∙◌}
use Rattle.note_text.proofs.Beginning.{begins-both, on-ok}
use Rattle.note_text.proofs.note.push_unread.Goals as goal

pub returns : goal.returns
returns c = on-ok c.push_words.result c.push_words.ensures (λ next.
    begins-both (codes "cannot read ") c.args.name.now c.in_ok-push_bytes.ensures
    (c.in_ok-push_bytes-2.ensures ∙ ap (λ t. c.push_bytes.new.text.items ++ t) c.as_bytes.ensures.value) next)
