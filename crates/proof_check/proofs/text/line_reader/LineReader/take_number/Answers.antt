use Rattle.std.proofs.Common.{◌≡◌, Some, refl, ap, ◌∙◌, lit<}
use Rattle.proof_check.specs.Text.{most_number}
use Rattle.proof_check.specs.LineWords.{read_number}
use Rattle.proof_check.proofs.Lexed.{read_number-decimal}
use Rattle.proof_check.proofs.text.line_reader.LineReader.take_number.Goals as goal

pub returns : goal.returns
returns c =
    let read : read_number most_number c.args.word.now ≡ Some c.in-Some.number = ap (read_number most_number) c.in-Some.ensures.1 ∙ read_number-decimal most_number c.in-Some.number (lit< tt) c.in-Some.ensures.0 in
    rw (read, c.in_ok-push.ensures.items, ← c.self.view_is) (refl, refl)
