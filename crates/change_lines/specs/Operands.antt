-- The operands of an expression (IEEE 1364-2005, clause 5): the signals that it names, but for the words of arrays, of which it names one by
-- an index: the signals that the index names are among them.
use Rattle.std.specs.Prelude.{ℕ, zero, suc, ◌==◌, Bool, false, ◌||◌, if◌then◌else◌, List, [], ◌∷◌, ◌++◌}
use Rattle.design_core.specs.declared.expression.Typed.{Typed}
use Rattle.design_core.specs.declared.expression.Node.{Node, Row_of-Typed, end_of-Typed, more_of-Typed}
use Rattle.design_core.specs.declared.expression.Node.TheVariants.{Const, Whole, Slice, Pick', Word', Unary', Binary', Choose', Join', Repeat', Resize'}

-- whether a node names a signal
abbrev mutual
  pub node_names : ℕ → Node → Bool
  node_names s (Const _) = false
  node_names s (Whole signal) = signal == s
  node_names s (Slice signal _ _) = signal == s
  node_names s (Pick' signal _ (more_of-Typed _ _ index end_of-Typed) _) = signal == s || node_names s index
  node_names s (Word' _ _ _ _ (more_of-Typed _ _ index end_of-Typed) _ _) = node_names s index
  node_names s (Unary' _ _ (more_of-Typed _ _ arg end_of-Typed)) = node_names s arg
  node_names s (Binary' _ _ (more_of-Typed _ _ left end_of-Typed) _ (more_of-Typed _ _ right end_of-Typed)) = node_names s left || node_names s right
  node_names s (Choose' _ (more_of-Typed _ _ cond end_of-Typed) _ (more_of-Typed _ _ on_true end_of-Typed) _ (more_of-Typed _ _ on_false end_of-Typed)) =
      node_names s cond || node_names s on_true || node_names s on_false
  node_names s (Join' _ parts) = parts_name s parts
  node_names s (Repeat' _ _ (more_of-Typed _ _ part end_of-Typed)) = node_names s part
  node_names s (Resize' _ (more_of-Typed _ _ arg end_of-Typed)) = node_names s arg

  pub parts_name : {shape : _} → ℕ → Row_of-Typed shape → Bool
  parts_name s end_of-Typed = false
  parts_name s (more_of-Typed _ _ node rest) = node_names s node || parts_name s rest

-- whether an expression does
abbrev pub names : ℕ → Typed → Bool
names s e = node_names s e.node

-- the signals below a number that it names, ascending
unfoldable pub named_below : ℕ → Typed → List ℕ
named_below zero e = []
named_below (suc n) e = named_below n e ++ (if names n e then n ∷ [] else [])
