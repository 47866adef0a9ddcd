-- A statement of a reset's values has no conditions, so it stays as it is.
use Rattle.std.proofs.Common.{◌≡◌, true, List, [], ◌++◌, refl, ap, ◌∙◌, ℕ}
use Rattle.std.proofs.lemmas.Bool.{and_parts}
use Rattle.design_core.specs.declared.statement.Stmt.{Stmt, Row_of-Stmt, end_of-Stmt, more_of-Stmt}
use Rattle.design_core.specs.declared.statement.Stmt.TheVariants.{Nothing, Block', If', Case', Set}
use Rattle.design_core.specs.WellFormed.{is_reset_values, are_reset_values}
use Rattle.freed_conditions.specs.Kept.{Next, behind}
use Rattle.freed_conditions.specs.Widths.{widths, widths_of}
use Rattle.freed_conditions.specs.Freed.{freed, freed_all}

mutual
  pub reset-freed : (n : Next) (statement : Stmt) → is_reset_values statement ≡ true → freed n statement ≡ statement
  reset-freed n Nothing is = refl
  reset-freed n (Block' shape statements) is = ap (Block' shape) (resets-freed n statements is)
  reset-freed n (If' _ _ _ _ _) is = cc
  reset-freed n (Case' _ _ _ _ _ _) is = cc
  reset-freed n (Set _ _ _ _) is = refl

  pub resets-freed : {shape : _} (n : Next) (statements : Row_of-Stmt shape) → are_reset_values statements ≡ true → freed_all n statements ≡ statements
  resets-freed n end_of-Stmt is = refl
  resets-freed n (more_of-Stmt statement rest) is =
      let both = and_parts (is_reset_values statement) (are_reset_values rest) is in
      ap (λ s. more_of-Stmt s (freed_all (behind (widths statement) n) rest)) (reset-freed n statement both.0)
      ∙ ap (more_of-Stmt statement) (resets-freed (behind (widths statement) n) rest both.1)

mutual
  pub reset-widths : (statement : Stmt) → is_reset_values statement ≡ true → widths statement ≡ []
  reset-widths Nothing is = refl
  reset-widths (Block' _ statements) is = resets-widths statements is
  reset-widths (If' _ _ _ _ _) is = cc
  reset-widths (Case' _ _ _ _ _ _) is = cc
  reset-widths (Set _ _ _ _) is = refl

  pub resets-widths : {shape : _} (statements : Row_of-Stmt shape) → are_reset_values statements ≡ true → widths_of statements ≡ []
  resets-widths end_of-Stmt is = refl
  resets-widths (more_of-Stmt statement rest) is =
      let both = and_parts (is_reset_values statement) (are_reset_values rest) is in
      ap (λ (w : List ℕ). w ++ widths_of rest) (reset-widths statement both.0) ∙ resets-widths rest both.1
