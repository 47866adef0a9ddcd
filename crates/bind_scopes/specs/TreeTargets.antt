-- The left side that a tree is, without the question whether it can be one. What only private contracts cite.
use Rattle.std.specs.Prelude.{Result, Ok}
use Rattle.v_syntax.specs.Tree.{Tree, Trees, no_tree, tree}
use Rattle.v_syntax.specs.Tree as written
use Rattle.v_binding.specs.declared.error.BindErr.{BindErr}
use Rattle.v_binding.specs.declared.left.Left.{Left}
use Rattle.v_binding.specs.Steps.{◌>>=◌}
use Rattle.v_binding.specs.Names.{Names}
use Rattle.v_binding.specs.Lefts.{name_target, nothing_named, beside, of_width}

abbrev mutual
  pub target_of_tree : Names → Tree → Result Left BindErr
  target_of_tree names (written.name site text selects) = name_target names site text selects
  target_of_tree names (written.concat site parts) = targets_of_trees names parts nothing_named >>= λ l. of_width site.span l
  target_of_tree names _ = Ok nothing_named

  pub targets_of_trees : Names → Trees → Left → Result Left BindErr
  targets_of_trees names no_tree done = Ok done
  targets_of_trees names (tree x xs) done = target_of_tree names x >>= λ one. targets_of_trees names xs (beside done one)
