-- Literals: constants, nodes and negated nodes.
use Rattle.std.specs.Prelude.{ℕ, ◌==◌, ◌<◌, ◌≢◌, Bool, false, not, cond, ◌&&◌, if◌then◌else◌, Option, Some, None}
use Rattle.gate_base.specs.declared.literal.Literal.{Literal}
use Rattle.gate_base.specs.declared.literal.Literal.TheVariants.{Known, Of}

-- two truth values are the same
abbrev pub same_sign : Bool → Bool → Bool
same_sign a b = cond a b (not b)

-- the literal that is true where this one is false
unfoldable pub opposite : Literal → Literal
opposite (Known value) = Known (not value)
opposite (Of node negated) = Of node (not negated)

-- two literals are the same
unfoldable pub is_same : Literal → Literal → Bool
is_same (Known a) (Known b) = same_sign a b
is_same (Known a) (Of m t) = false
is_same (Of n s) (Known b) = false
is_same (Of n s) (Of m t) = (n == m) && same_sign s t

-- AND where it needs no node: false where one is false or they are opposite, the other where one is true, the one where
-- they are equal
unfoldable pub folded : Literal → Literal → Option Literal
folded (Known a) y = Some (if a then y else Known false)
folded (Of n s) (Known b) = Some (if b then Of n s else Known false)
folded (Of n s) (Of m t) = if n == m then Some (if same_sign s t then Of n s else Known false) else None

-- the literal is a constant, or of a node with a number below that
abbrev pub IsBelow : ℕ → Literal → Type 0
IsBelow i (Known value) = Unit {0}
IsBelow i (Of node negated) = node < i

-- the literals are of two different nodes
abbrev pub AreOfTwo : Literal → Literal → Type 0
AreOfTwo (Known a) y = ⊥
AreOfTwo (Of n s) (Known b) = ⊥
AreOfTwo (Of n s) (Of m t) = n ≢ m
