-- The longest front of a text that is a piece.
use Rattle.std.specs.Prelude.{◌≡◌, ℕ, suc, ◌≤◌, List, [], ◌∷◌, length, Option, Some, None}
use Rattle.v_lexer.specs.declared.pieces.Piece.{Piece}

-- the empty front, where it is a piece
abbrev pub empty_front : Option Piece → Option (Piece × ℕ)
empty_front None = None
empty_front (Some kind) = Some (kind, 0)

-- a front found behind the first byte, else the empty one
abbrev pub longer : Option (Piece × ℕ) → Option Piece → Option (Piece × ℕ)
longer None here = empty_front here
longer (Some (kind, size)) here = Some (kind, suc size)

-- the kind and the length of the longest front that the kinds know
abbrev pub longest : (List ℕ → Option Piece) → List ℕ → Option (Piece × ℕ)
longest kinds [] = empty_front (kinds [])
longest kinds (byte ∷ text) = longer (longest (λ rest. kinds (byte ∷ rest)) text) (kinds [])

-- the longest front of the text is of this kind and has so many bytes
pub record HasFront (kinds : List ℕ → Option Piece) (text : List ℕ) (kind : Piece) (size : ℕ) : Type 0 where
  pub found : longest kinds text ≡ Some (kind, size)
  pub fits : size ≤ length text

-- no front of the text is a piece
pub record HasNoFront (kinds : List ℕ → Option Piece) (text : List ℕ) : Type 0 where
  pub none : longest kinds text ≡ None
