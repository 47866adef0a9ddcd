-- What the definitions over statements say of each statement as code makes it, one statement in its place.
use Rattle.std.proofs.Common.{◌≡◌, List, refl}
use Rattle.std.specs.Prelude.{Bool, ◌&&◌, ◌||◌, if◌then◌else◌}
use denote.Hole.Carrier.{hidden}
use Rattle.design_core.specs.declared.signal.Signal.{Signal}
use Rattle.design_core.specs.declared.place.Place.{Place}
use Rattle.design_core.specs.declared.expression.Typed.{Typed}
use Rattle.design_core.specs.declared.statement.Part.{Part}
use Rattle.design_core.specs.declared.statement.Stmt.{Stmt}
use Rattle.design_core.specs.declared.statement.Stmt.TheVariants as stmt
use Rattle.design_core.specs.declared.statement.Stmt.TheBlock.{shape-the_row-Stmt-1, hidden-the_row-Stmt-1}
use Rattle.design_core.specs.Operator.{is_true}
use Rattle.design_core.specs.Value.{value}
use Rattle.design_core.specs.After.{Choice, Updates, after}
use Rattle.design_core.specs.Drives.{some_set}
use Rattle.design_core.specs.WellFormed.{typed_fits, statement_fits}

pub after_if : (signals : List Signal) (choice : Choice) (test : Typed) (on_true on_false : Stmt) (m : Updates)
    → after signals choice (stmt.If test on_true on_false) m ≡ (if is_true (value signals m.now test) then after signals choice on_true m else after signals choice on_false m)
unfolding shape-the_row-Stmt-1 hidden-the_row-Stmt-1 hidden
after_if signals choice test on_true on_false m = refl

pub fits_if : (signals : List Signal) (places : List Place) (test : Typed) (on_true on_false : Stmt)
    → statement_fits signals places (stmt.If test on_true on_false)
    ≡ (typed_fits signals test && statement_fits signals places on_true && statement_fits signals places on_false)
unfolding shape-the_row-Stmt-1 hidden-the_row-Stmt-1 hidden
fits_if signals places test on_true on_false = refl

pub sets_if : (passes : List Part → Bool → Bool) (test : Typed) (on_true on_false : Stmt)
    → some_set passes (stmt.If test on_true on_false) ≡ (some_set passes on_true || some_set passes on_false)
unfolding shape-the_row-Stmt-1 hidden-the_row-Stmt-1 hidden
sets_if passes test on_true on_false = refl

pub ruleset statement_steps = (after_if, fits_if, sets_if)
