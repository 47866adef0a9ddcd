use Rattle.note_text.proofs.Beginning.{appended, appended-on, on-ok}
use Rattle.note_text.proofs.excerpt.push_excerpt.Goals as goal

pub returns : goal.returns
returns c = on-ok c.push_bytes-3.result c.push_bytes-3.ensures (λ is.
    appended-on (appended _ c.in_ok-push_bytes.ensures) (appended-on (appended _ c.in_ok-push_shown.ensures)
    (appended-on (appended _ c.in_ok-push_bytes-2.ensures) (appended-on (appended _ c.in_ok-push_spaces.ensures) (appended _ is)))))
