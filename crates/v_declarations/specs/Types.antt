-- The words and the types of declarations (IEEE 1364-2005, 4.2, 4.3, 4.10 and A.2): which part of the tree the tokens from a place
-- up to another one spell, where `nesting_left` levels of nesting are left. Each production stands as its comment, as in Productions.
use Rattle.std.specs.Prelude.{◌≡◌, ◌≢◌, ℕ, ◌+◌, ◌⊎◌, Bool, true, false, List, Option, Some, None}
use Rattle.v_lexer.specs.Lexeme.{Lexeme}
use Rattle.v_syntax.specs.declared.item.Direction.{Direction}
use Rattle.v_syntax.specs.declared.item.Direction.TheVariants as direction
use Rattle.v_syntax.specs.declared.item.NetKind.{NetKind}
use Rattle.v_syntax.specs.declared.item.NetKind.TheVariants as net
use Rattle.v_lexer.specs.declared.types.terminal.Terminal.{Terminal}
use Rattle.v_lexer.specs.declared.types.terminal.Terminal.TheVariants.{Input, Output, Wire, Reg, Signed, Integer, OpenBracket}
use Rattle.v_tree.specs.Marks.{mark_at}
use Rattle.v_syntax.specs.PartTree.{PlainRange}
use Rattle.v_syntax.specs.ItemTree.{PlainParameterType, vector_type, integer_type}
use Rattle.v_parts.specs.Productions.{IsOptional, IsRange}

-- 'input' | 'output'
abbrev pub IsDirection : List Lexeme → Direction → ℕ → ℕ → Type 0
IsDirection tokens x a b =
    ((mark_at tokens a ≡ Input) × ((x ≡ direction.Input) × (b ≡ a + 1))) ⊎ ((mark_at tokens a ≡ Output) × ((x ≡ direction.Output) × (b ≡ a + 1)))

-- the words of directions
abbrev pub is_direction : Terminal → Bool
is_direction Input = true
is_direction Output = true
is_direction _ = false

-- ('wire' | 'reg')?
abbrev pub IsNetIf : List Lexeme → Option NetKind → ℕ → ℕ → Type 0
IsNetIf tokens x a b =
    ((mark_at tokens a ≡ Wire) × ((x ≡ Some net.Wire) × (b ≡ a + 1)))
    ⊎ (((mark_at tokens a ≡ Reg) × ((x ≡ Some net.Reg) × (b ≡ a + 1)))
    ⊎ ((mark_at tokens a ≢ Wire) × (mark_at tokens a ≢ Reg) × ((x ≡ None) × (b ≡ a))))

-- whether those words are output reg
abbrev pub is_output_reg : Direction → Option NetKind → Bool
is_output_reg direction.Output (Some net.Reg) = true
is_output_reg _ _ = false

-- 'signed'?
abbrev pub IsSignedIf : List Lexeme → Bool → ℕ → ℕ → Type 0
IsSignedIf tokens x a b = ((mark_at tokens a ≡ Signed) × ((x ≡ true) × (b ≡ a + 1))) ⊎ ((mark_at tokens a ≢ Signed) × ((x ≡ false) × (b ≡ a)))

-- range?
abbrev pub IsRangeIf : List Lexeme → ℕ → Option PlainRange → ℕ → ℕ → Type 0
IsRangeIf tokens nesting_left = IsOptional tokens OpenBracket (IsRange tokens nesting_left)

-- 'signed'? range?
abbrev pub IsVectorType : List Lexeme → ℕ → PlainParameterType → ℕ → ℕ → Type 0
IsVectorType tokens nesting_left x a b =
    (signed : Bool) × (m : ℕ) × IsSignedIf tokens signed a m
    × ((range : Option PlainRange) × (n : ℕ) × IsRangeIf tokens nesting_left range m n
    × ((x ≡ vector_type signed range) × (b ≡ n)))

-- 'integer' | 'signed'? range?
abbrev pub IsParameterType : List Lexeme → ℕ → PlainParameterType → ℕ → ℕ → Type 0
IsParameterType tokens nesting_left x a b =
    ((mark_at tokens a ≡ Integer) × ((x ≡ integer_type) × (b ≡ a + 1))) ⊎ ((mark_at tokens a ≢ Integer) × IsVectorType tokens nesting_left x a b)
