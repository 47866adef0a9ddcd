use Rattle.std.proofs.Common.{ℕ, ◌+◌, drop}
use Rattle.v_lexer.specs.declared.pieces.Piece.{Piece}
use Rattle.v_lexer.specs.Pieces.{block_rest}
use Rattle.v_lexer.specs.Longest.{HasFront}
use Rattle.v_lexer.proofs.comments.block_piece.Given as goal

abbrev pub invariant-loop-i : goal.invariant-loop-i
invariant-loop-i l =
    (kind : Piece) (size : ℕ) → HasFront (block_rest l.close l.star) (drop l.i l.rest) kind size
    → HasFront (block_rest l.close l.first) l.rest kind (l.i + size)
