-- The open conditionals, from the innermost outwards, against a vector from the outermost inwards.
use Rattle.std.proofs.Common.{◌≡◌, List, [], ◌∷◌, ◌++◌, reverse, refl, ◌∙◌, ap, Some, None}
use Rattle.std.proofs.lemmas.List.{reverse-append}
use Rattle.v_lexer.specs.declared.conditionals.Conditional.{Conditional}
use Rattle.v_lexer.specs.Conditionals.{outermost}

pub reverse_push : (xs : List Conditional) (x : Conditional) → reverse (xs ++ x ∷ []) ≡ x ∷ reverse xs
reverse_push xs x = reverse-append xs (x ∷ [])

outermost_last : (xs : List Conditional) (x : Conditional) → outermost (xs ++ x ∷ []) ≡ Some x
outermost_last [] x = refl
outermost_last (y ∷ xs) x = ap (λ o. elim o [ Some first ↦ Some first | None ↦ Some y ]) (outermost_last xs x)

-- the first of a vector is the outermost
pub outermost_first : (x : Conditional) (xs : List Conditional) → outermost (reverse (x ∷ xs)) ≡ Some x
outermost_first x xs = ap outermost (reverse-append (x ∷ []) xs) ∙ outermost_last (reverse xs) x

pub ruleset conditional_rows = (reverse_push, outermost_first)
