-- How the code reads: the function on lists that each reader is. No public clause speaks of it.
use Rattle.std.specs.Prelude.{ℕ, zero, suc, ◌+◌, List, [], ◌∷◌, length, Option, Some, None, Ok, Err, if◌then◌else◌}
use Rattle.v_lexer.specs.Lexeme.{Lexeme}
use Rattle.v_syntax.specs.declared.declaration.Identifier.{Identifier}
use Rattle.v_lexer.specs.declared.types.terminal.Terminal.{Terminal}
use Rattle.v_lexer.specs.declared.types.terminal.Terminal.TheVariants as mark
use Rattle.v_tree.specs.declared.fault.Fault.TheVariants.{Unsupported, Deep}
use Rattle.v_tree.specs.Marks.{mark_at, same}
use Rattle.v_tree.specs.Sites.{text_at, site}
use Rattle.v_tree.specs.Faults.{no_place}
use Rattle.v_syntax.specs.Tree.{Tree}
use Rattle.v_tree.specs.Reading.{Read, ◌>>=◌, expect, lower, below, selects_at, whole_expression}
use Rattle.v_syntax.specs.PartTree.{PlainRange, PlainNamed, PlainDelay, number_delay, name_delay, parens_delay, PlainLeft, name_left, concat_left, lefts_of}

-- a part, where its first token stands
unfoldable pub optional_at : {A : Type 0} → List Lexeme → Terminal → (ℕ → Read A) → ℕ → Read (Option A)
optional_at tokens first part a = if same (mark_at tokens a) first then (part a >>= λ x. Ok (Some x.0, x.1)) else Ok (None, a)

-- what is read where no token of that mark stands, which is of a form that is left out
abbrev pub unless_at : {A : Type 0} → List Lexeme → Terminal → ℕ → Read A → Read A
unless_at tokens out a read = if same (mark_at tokens a) out then Err (Unsupported a) else read

-- (',' part)*, at most so many
unfoldable pub more_at : {A : Type 0} → List Lexeme → (ℕ → Read A) → ℕ → ℕ → Read (List A)
more_at tokens part zero a = Ok ([], a)
more_at tokens part (suc n) a =
    if same (mark_at tokens a) mark.Comma then (part (a + 1) >>= λ x. more_at tokens part n x.1 >>= λ xs. Ok (x.0 ∷ xs.0, xs.1)) else Ok ([], a)

-- part,+
unfoldable pub list_at : {A : Type 0} → List Lexeme → (ℕ → Read A) → ℕ → Read (List A)
list_at tokens part a = part a >>= λ x. more_at tokens part (length tokens) x.1 >>= λ xs. Ok (x.0 ∷ xs.0, xs.1)

-- parts up to a token of the mark `last` and that token, at most so many; what is found changes what may follow
unfoldable pub run_at : {S A : Type 0} → List Lexeme → Terminal → (S → ℕ → Read A) → (S → A → S) → ℕ → S → ℕ → Read (List A)
run_at tokens last part next zero s a = Err (no_place tokens a)
run_at tokens last part next (suc n) s a =
    if same (mark_at tokens a) last then Ok ([], a + 1) else (part s a >>= λ x. run_at tokens last part next n (next s x.0) x.1 >>= λ xs. Ok (x.0 ∷ xs.0, xs.1))

unfoldable pub name_at : List Lexeme → ℕ → Read (List ℕ)
name_at tokens a = if same (mark_at tokens a) mark.Name then Ok (text_at tokens a, a + 1) else Err (no_place tokens a)

unfoldable pub identifier_at : List Lexeme → ℕ → Read Identifier
identifier_at tokens a = name_at tokens a >>= λ x. Ok (record { site = site tokens a x.1; name = x.0 }, x.1)

unfoldable pub value_at : List Lexeme → ℕ → ℕ → Read Tree
value_at tokens nesting_left a = if same (mark_at tokens a) mark.Wild then Err (Unsupported a) else whole_expression tokens nesting_left a

unfoldable pub equals_at : List Lexeme → ℕ → ℕ → Read Tree
equals_at tokens nesting_left a = expect tokens mark.Equals a >>= λ m. value_at tokens nesting_left m

unfoldable pub range_at : List Lexeme → ℕ → ℕ → Read PlainRange
range_at tokens nesting_left a =
    lower nesting_left a >>= λ less. value_at tokens less (a + 1) >>= λ x. expect tokens mark.Colon x.1 >>= λ m. value_at tokens less m >>= λ y.
    expect tokens mark.CloseBracket y.1 >>= λ b. Ok (record { site = site tokens a b; left = x.0; right = y.0 }, b)

unfoldable pub parens_delay_at : List Lexeme → ℕ → ℕ → ℕ → Read PlainDelay
parens_delay_at tokens nesting_left a m =
    lower nesting_left m >>= λ less. value_at tokens less (m + 1) >>= λ x. expect tokens mark.Close x.1 >>= λ b. Ok (parens_delay (site tokens a b) x.0, b)

unfoldable pub name_delay_at : List Lexeme → ℕ → ℕ → Read PlainDelay
name_delay_at tokens a m = name_at tokens m >>= λ x. Ok (name_delay (site tokens a x.1) x.0, x.1)

unfoldable pub number_delay_at : List Lexeme → ℕ → ℕ → Read PlainDelay
number_delay_at tokens a m = Ok (number_delay (site tokens a (m + 1)) (text_at tokens m), m + 1)

-- what stands behind the # at a
unfoldable pub behind_hash_at : List Lexeme → ℕ → ℕ → ℕ → Read PlainDelay
behind_hash_at tokens nesting_left a m =
    if same (mark_at tokens m) mark.Number then number_delay_at tokens a m
    else if same (mark_at tokens m) mark.Open then parens_delay_at tokens nesting_left a m
    else name_delay_at tokens a m

unfoldable pub delay_at : List Lexeme → ℕ → ℕ → Read PlainDelay
delay_at tokens nesting_left a = expect tokens mark.Hash a >>= λ m. behind_hash_at tokens nesting_left a m

unfoldable pub name_left_at : List Lexeme → ℕ → ℕ → Read PlainLeft
name_left_at tokens nesting_left a =
    name_at tokens a >>= λ x. selects_at tokens nesting_left (below tokens nesting_left).whole 4097 2 x.1 >>= λ xs. Ok (name_left (site tokens a xs.1) x.0 xs.0, xs.1)

unfoldable pub close_left_at : List Lexeme → ℕ → List PlainLeft → ℕ → Read PlainLeft
close_left_at tokens a parts m = expect tokens mark.CloseBrace m >>= λ b. Ok (concat_left (site tokens a b) (lefts_of parts), b)

unfoldable pub concat_left_at : List Lexeme → ℕ → (ℕ → Read PlainLeft) → ℕ → Read PlainLeft
concat_left_at tokens nesting_left inner a =
    lower nesting_left a >>= λ less. list_at tokens inner (a + 1) >>= λ xs. close_left_at tokens a xs.0 xs.1

-- a left side, with the reader of what nests in it
unfoldable pub left_with : List Lexeme → ℕ → (ℕ → Read PlainLeft) → ℕ → Read PlainLeft
left_with tokens nesting_left inner a = if same (mark_at tokens a) mark.OpenBrace then concat_left_at tokens nesting_left inner a else name_left_at tokens nesting_left a

unfoldable pub left_at : List Lexeme → ℕ → ℕ → Read PlainLeft
left_at tokens zero = left_with tokens zero (λ a. Err (Deep a))
left_at tokens (suc nesting_left) = left_with tokens (suc nesting_left) (left_at tokens nesting_left)

-- the left sides within, where so much nesting is left
abbrev pub left_below : List Lexeme → ℕ → ℕ → Read PlainLeft
left_below tokens zero = λ a. Err (Deep a)
left_below tokens (suc nesting_left) = left_at tokens nesting_left

unfoldable pub named_value_at : List Lexeme → ℕ → ℕ → Read PlainNamed
named_value_at tokens nesting_left a =
    identifier_at tokens a >>= λ x. expect tokens mark.Equals x.1 >>= λ m. value_at tokens nesting_left m >>= λ y.
    Ok (record { site = site tokens a y.1; name = x.0; value = y.0 }, y.1)
