use Rattle.std.proofs.Common.{ℕ, ◌+◌, drop, false}
use Rattle.v_lexer.specs.declared.pieces.Piece.{Piece}
use Rattle.v_lexer.specs.Directives.{is_line}
use Rattle.v_lexer.specs.Pieces.{if_all}
use Rattle.v_lexer.specs.Longest.{HasFront}
use Rattle.v_lexer.proofs.directives.line_length.Given as goal

abbrev pub invariant-loop-i : goal.invariant-loop-i
invariant-loop-i l =
    (kind : Piece) (size : ℕ) → HasFront (if_all (is_line l.escaped) kind) (drop l.i l.rest) kind size
    → HasFront (if_all (is_line false) kind) l.rest kind (l.i + size)
