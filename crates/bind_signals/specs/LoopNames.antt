-- The variables of the loops of a scope, in the order of the text.
use Rattle.std.specs.Prelude.{ℕ, Bool, false, ◌&&◌, ◌||◌, if◌then◌else◌, List, [], ◌∷◌, ◌++◌, map}
use Rattle.std.specs.Borrow.{Bor}
use Rattle.loc_base.specs.declared.name.Name.{Name}
use Rattle.v_syntax.specs.declared.declaration.Identifier.{Identifier}
use Rattle.v_hierarchy.specs.Names.{Entry, same_name}
use Rattle.v_hierarchy.specs.Unrolled.{Steps, nothing, still, run, branch, choose, repeated, StepList, no_step, step, Arms, no_arm, arm, default_arm, Turns, no_turn, turn}
use Rattle.v_hierarchy.specs.Items.{Copied, written, always, child, inner, Block, scope, Copies, no_copy, copy}
use Rattle.v_hierarchy.specs.Items as items
use Rattle.v_binding.specs.Signals.{hides}
use Rattle.v_hierarchy.specs.Views.{PlainArm, labelled, otherwise}

abbrev pub Listed : Type 0
Listed = List Identifier

-- behind those before
abbrev mutual
  pub with_loops : Steps → Listed → Listed
  with_loops nothing before = before
  with_loops (still _) before = before
  with_loops (run steps) before = with_all steps before
  with_loops (branch _ on_true other) before = with_loops other (with_loops on_true before)
  with_loops (choose _ _ arms) before = with_arms arms before
  with_loops (repeated variable turns) before = with_turns turns (before ++ variable ∷ [])

  pub with_all : StepList → Listed → Listed
  with_all no_step before = before
  with_all (step x xs) before = with_all xs (with_loops x before)

  pub with_arms : Arms → Listed → Listed
  with_arms no_arm before = before
  with_arms (arm _ x xs) before = with_arms xs (with_loops x before)
  with_arms (default_arm x xs) before = with_arms xs (with_loops x before)

  pub with_turns : Turns → Listed → Listed
  with_turns no_turn before = before
  with_turns (turn _ x xs) before = with_turns xs (with_loops x before)

abbrev pub with_arm : PlainArm → Listed → Listed
with_arm (labelled _ body) before = with_loops body before
with_arm (otherwise body) before = with_loops body before

-- those that stand before what a scope declares by their names
abbrev pub with_unhidden : List Entry → Listed → Listed → Listed
with_unhidden entries [] before = before
with_unhidden entries (x ∷ xs) before = with_unhidden entries xs (if hides x.name entries x.site.token then before else before ++ x ∷ [])

-- those that haven't one name
abbrev pub without : List ℕ → Listed → Listed → Listed
without name [] before = before
without name (x ∷ xs) before = without name xs (if same_name name x.name then before else before ++ x ∷ [])

abbrev mutual
  pub with_copies : Copies → Listed → Listed
  with_copies no_copy before = before
  with_copies (copy x xs) before = with_copies xs (with_copied x before)

  pub with_copied : Copied → Listed → Listed
  with_copied (written _) before = before
  with_copied (always _ _ body) before = with_loops body before
  with_copied (child _ _) before = before
  with_copied (inner block) before = with_block block before
  with_copied (items.turn variable _ block) before = without variable.name (with_block block []) before

  pub with_block : Block → Listed → Listed
  with_block (scope _ entries copies) before = with_unhidden entries (with_copies copies []) before

-- names as the code holds them
abbrev pub named : List (Bor Name) → List (List ℕ)
named names = map (λ n. n.now) names

-- variables as the code holds them
abbrev pub listed : List (Bor Identifier) → Listed
listed variables = map (λ v. v.now) variables

-- whether one of a name stands where an integer is seen
abbrev pub is_used : List ℕ → (ℕ → Bool) → Listed → Bool
is_used name seen [] = false
is_used name seen (x ∷ xs) = (same_name x.name name && seen x.site.token) || is_used name seen xs
