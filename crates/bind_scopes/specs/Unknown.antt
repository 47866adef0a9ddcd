-- Which name of a select is refused as unknown, one select of a list at a time.
use Rattle.std.specs.Prelude.{Bool, Option}
use Rattle.v_syntax.specs.Tree.{Selection}
use Rattle.v_syntax.specs.Tree as written
use Rattle.v_binding.specs.Names.{Names}
use Rattle.v_binding.specs.Unknown.{unknown_in}

abbrev pub unknown_select : Names → Selection → Option Bool → Option Bool
unknown_select names (written.bit _ index) before = unknown_in names index before
unknown_select names (written.part _ _ one other) before = unknown_in names other (unknown_in names one before)
