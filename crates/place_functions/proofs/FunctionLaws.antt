-- A set that works by functions works.
use Rattle.std.proofs.Common.{ℕ, List}
use Rattle.loc_base.proofs.ShelfLists.{Contains-place}
use Rattle.design_core.specs.declared.design.Design.{Design}
use Rattle.design_core.specs.declared.trace.Trace.{Trace}
use Rattle.design_core.specs.Works.{Groups, Works}
use Rattle.place_functions.specs.Functions.{WorksByFunctions}

pub function-works : (d : Design) (traces : List Trace) (groups : Groups) (set : List ℕ) → WorksByFunctions d traces groups set → Works d traces groups set
function-works d traces groups set by_functions trace member =
    let at = Contains-place traces trace member in (
      by_functions.chosen at.0,
      by_functions.explains.widths at.0 trace at.1,
      (by_functions.runs at.0, by_functions.explains.are_runs at.0 trace at.1, by_functions.explains.right at.0 trace at.1),
    )
