-- A name without selects.
use Rattle.std.proofs.Common.{◌≡◌, ℕ, suc, zero, List, [], ◌∷◌, length, map, false, refl, arith}
use Rattle.std.specs.Prelude.{◌==◌, ◌&&◌}
use Rattle.loc_base.proofs.ShelfBools.{equal-false}
use Rattle.v_syntax.specs.declared.expression.Select.{Select}
use Rattle.v_syntax.specs.declared.site.Site.{Site}
use Rattle.v_syntax.specs.Tree.{Selections, no_select, select, selection_of, selections_of}
use Rattle.v_syntax.specs.Tree as written
use Rattle.v_hierarchy.specs.Names.{same_name}
use Rattle.v_binding.specs.Clocks.{is_name}
use Rattle.bind_statements.specs.Conditions.{has_none}

pub counted-none : (selects : List Select) → (length selects == 0) ≡ has_none (selections_of (map selection_of selects))
counted-none [] = refl
counted-none (s ∷ selects) = equal-false (suc (length selects)) zero (λ same. absurd (omega (arith, same)))

pub ruleset alone = (counted-none)

pub name-alone : (text name : List ℕ) (site : Site) (selects : Selections) → is_name text (written.name site name selects) ≡ (has_none selects && same_name name text)
name-alone text name site no_select = refl
name-alone text name site (select s rest) = refl

pub ruleset named = (name-alone)
