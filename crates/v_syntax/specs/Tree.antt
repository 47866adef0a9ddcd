-- The tree of an expression without where it lies in memory, a case for each production (IEEE 1364-2005, A.8).
use Rattle.std.specs.Prelude.{ℕ, List, [], ◌∷◌}
use Rattle.v_syntax.specs.declared.site.Site.{Site}
use Rattle.v_syntax.specs.declared.operator.Unary.{Unary}
use Rattle.v_syntax.specs.declared.operator.Binary.{Binary}
use Rattle.v_syntax.specs.declared.operator.SystemFunction.{SystemFunction}
use Rattle.v_syntax.specs.declared.expression.PartKind.{PartKind}
use Rattle.v_syntax.specs.declared.expression.Expr.{Expr, fold-Expr}
use Rattle.v_syntax.specs.declared.expression.Expr.TheFolds.{fold-Select}
use Rattle.v_syntax.specs.declared.expression.Expr.TheOpen.{Expr-F, Select-F}
use Rattle.v_syntax.specs.declared.expression.Select.{Select}

mutual
  pub data Tree : Type 0 where
    number : Site → List ℕ → Tree
    wild : Site → List ℕ → Tree
    name : Site → List ℕ → Selections → Tree
    parens : Site → Tree → Tree
    concat : Site → Trees → Tree
    repeat : Site → Tree → Trees → Tree
    system : Site → SystemFunction → Tree → Tree
    unary : Site → Unary → Tree → Tree
    binary : Site → Binary → Tree → Tree → Tree
    conditional : Site → Tree → Tree → Tree → Tree

  pub data Trees : Type 0 where
    no_tree : Trees
    tree : Tree → Trees → Trees

  pub data Selection : Type 0 where
    bit : Site → Tree → Selection
    part : Site → PartKind → Tree → Tree → Selection

  pub data Selections : Type 0 where
    no_select : Selections
    select : Selection → Selections → Selections

abbrev pub trees_of : List Tree → Trees
trees_of [] = no_tree
trees_of (t ∷ ts) = tree t (trees_of ts)

abbrev pub selections_of : List Selection → Selections
selections_of [] = no_select
selections_of (s ∷ ss) = select s (selections_of ss)

-- one level of the code's tree, with what is inside already seen so
abbrev pub expr_step : Expr-F Tree Selection → Tree
expr_step (Expr-F.Number s text) = number s text
expr_step (Expr-F.Wild s text) = wild s text
expr_step (Expr-F.Name s text selects) = name s text (selections_of selects.items)
expr_step (Expr-F.Parens s inner) = parens s inner.value
expr_step (Expr-F.Concat s parts) = concat s (trees_of parts.items)
expr_step (Expr-F.Repeat s count parts) = repeat s count.value (trees_of parts.items)
expr_step (Expr-F.System s function argument) = system s function argument.value
expr_step (Expr-F.Unary s operator operand) = unary s operator operand.value
expr_step (Expr-F.Binary s operator left right) = binary s operator left.value right.value
expr_step (Expr-F.Conditional s condition then other) = conditional s condition.value then.value other.value

abbrev pub select_step : Select-F Tree Selection → Selection
select_step (Select-F.Bit s index) = bit s index
select_step (Select-F.Part s kind left right) = part s kind left right

-- the code's tree
abbrev pub tree_of : Expr → Tree
tree_of = fold-Expr Tree Selection expr_step select_step

abbrev pub selection_of : Select → Selection
selection_of = fold-Select Tree Selection expr_step select_step

-- the expressions of one list, and then those of another
abbrev pub append_parts : Trees → Trees → Trees
append_parts no_tree more = more
append_parts (tree t ts) more = tree t (append_parts ts more)

abbrev pub append_selects : Selections → Selections → Selections
append_selects no_select more = more
append_selects (select s ss) more = select s (append_selects ss more)
