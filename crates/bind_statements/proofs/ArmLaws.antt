-- The arms of a block with a reset, over lists of statements.
use Rattle.std.proofs.Common.{◌≡◌, ◌≢◌, ℕ, List, [], ◌∷◌, ◌++◌, length, get_or, Bool, false, refl, sym, ap, ◌∙◌, arith, Option, Some, None}
use Rattle.std.specs.Option.{option_map_or}
use Rattle.design_core.specs.declared.statement.Stmt.{Stmt, Row_of-Stmt, end_of-Stmt, more_of-Stmt, items-the_row-Stmt, items_hidden-the_row-Stmt-0}
use Rattle.design_core.specs.declared.statement.Stmt.TheVariants.{Block}
use Rattle.design_core.specs.declared.statement.Stmt.TheVariants as stmt
use Rattle.design_core.specs.declared.statement.Stmt.TheBlock.{shape-the_row-Stmt-1, hidden-the_row-Stmt-1, hidden-the_row-Stmt-0}
use denote.Hole.Carrier.{hidden}
use Rattle.design_core.specs.declared.expression.Typed.{Typed}
use Rattle.design_core.specs.WellFormed.{is_reset_values}
use Rattle.v_binding.specs.Clocks.{Arms, arms_here, arms_alone, arms_of}
use Rattle.bind_statements.specs.Parted.{arms_listed}

arms-row : {shape : _} (row : Row_of-Stmt shape) → arms_alone row ≡ arms_listed (items-the_row-Stmt shape row)
arms-row end_of-Stmt = refl
arms-row (more_of-Stmt s end_of-Stmt) = refl
arms-row (more_of-Stmt s (more_of-Stmt t rest)) = refl

-- of a block, by the list of its statements
pub arms-block : (statements : List Stmt) → arms_of (Block statements) ≡ arms_listed statements
arms-block statements = arms-row (hidden-the_row-Stmt-0 statements) ∙ ap arms_listed (items_hidden-the_row-Stmt-0 statements)

pub ruleset blocks = (arms-block)

-- of a statement with two arms
abbrev pub two_arms : Stmt → Stmt → Arms
two_arms on_true on_false = record { values = on_true; body = on_false }

pub arms-if : (e : Typed) (on_true on_false : Stmt) → arms_here (stmt.If e on_true on_false) ≡ Some (record { values = on_true; body = on_false })
unfolding shape-the_row-Stmt-1 hidden-the_row-Stmt-1 hidden
arms-if e on_true on_false = refl

-- ---- whether the first arm has the values of a reset
abbrev pub has_values : Option Arms → Bool
has_values o = option_map_or (λ arms. is_reset_values arms.values) o false

pub values-alone : (xs : List Stmt) (x : Stmt) → length xs ≡ 1 → x ≡ get_or xs 0 x → arms_listed xs ≡ arms_here x
values-alone [] x one is = absurd (omega (arith, one))
values-alone (y ∷ []) x one is = ap arms_here (sym is)
values-alone (y ∷ z ∷ xs) x one is = absurd (omega (arith, one))

pub values-others : (xs : List Stmt) → length xs ≢ 1 → arms_listed xs ≡ None
values-others [] other = refl
values-others (y ∷ []) other = absurd (other refl)
values-others (y ∷ z ∷ xs) other = refl

pub ruleset listed = (values-alone, values-others)

-- ---- the last statement taken off
pub arms-more : (rest : List Stmt) (last : Stmt) → rest ≢ [] → arms_listed (rest ++ last ∷ []) ≡ None
arms-more [] last some = absurd (some refl)
arms-more (x ∷ []) last some = refl
arms-more (x ∷ y ∷ rest) last some = refl

pub arms-last : (rest : List Stmt) (last : Stmt) → rest ≡ [] → arms_listed (rest ++ last ∷ []) ≡ arms_here last
arms-last rest last none = ap (λ xs. arms_listed (xs ++ last ∷ [])) none

pub ruleset popped = (arms-more, arms-last)
