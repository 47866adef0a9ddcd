use Rattle.std.proofs.Common.{codes}
use Rattle.note_text.proofs.Beginning.{appended, appended-on, begins, on-ok}
use Rattle.note_text.proofs.note.push_unwritten.Goals as goal

pub returns : goal.returns
returns c = on-ok c.push_words.result c.push_words.ensures (λ next.
    begins (codes "cannot write ") c.in_ok-push_bytes.ensures (appended-on (appended _ c.in_ok-push_bytes-2.ensures) next))
