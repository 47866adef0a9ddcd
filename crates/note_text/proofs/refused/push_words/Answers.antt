use Rattle.note_text.proofs.Beginning.{appended, on-ok}
use Rattle.note_text.proofs.refused.push_words.Goals as goal

pub returns : goal.returns
returns g c = on-ok c.push_bytes.result c.push_bytes.ensures (λ is. appended c.as_bytes.result.now is)
