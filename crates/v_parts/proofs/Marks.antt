-- Marks that tests compare.
use Rattle.std.proofs.Common.{◌≡◌, true}
use Rattle.v_lexer.specs.declared.types.terminal.Terminal.{Terminal}
use Rattle.v_tree.specs.Marks.{same}
use Rattle.v_tree.proofs.MarkLemmas.{same_true}

pub is_mark : (m n : Terminal) → same m n ≡ true → m ≡ n
is_mark m n e = same_true m n e
