-- The tree above expressions without where it lies in memory, a case for each production (IEEE 1364-2005, A.2, A.6 and A.8.5).
use Rattle.std.specs.Prelude.{ℕ, List, [], ◌∷◌, map}
use Rattle.v_syntax.specs.declared.site.Site.{Site}
use Rattle.v_syntax.specs.declared.declaration.Identifier.{Identifier}
use Rattle.v_syntax.specs.declared.declaration.Range.{Range}
use Rattle.v_syntax.specs.declared.declaration.NamedValue.{NamedValue}
use Rattle.v_syntax.specs.declared.declaration.Delay.{Delay}
use Rattle.v_syntax.specs.declared.declaration.Delay.TheVariants as variant
use Rattle.v_syntax.specs.declared.declaration.Left.{Left, fold-Left}
use Rattle.v_syntax.specs.declared.declaration.Left.TheOpen.{Left-F}
use Rattle.v_syntax.specs.Tree.{Tree, tree_of, selection_of, Selections, selections_of}

-- a range of a declaration
pub record PlainRange : Type 0 where
  pub site : Site
  pub left : Tree
  pub right : Tree

-- a name with a value
pub record PlainNamed : Type 0 where
  pub site : Site
  pub name : Identifier
  pub value : Tree

-- a delay
pub data PlainDelay : Type 0 where
  number_delay : Site → List ℕ → PlainDelay
  name_delay : Site → List ℕ → PlainDelay
  parens_delay : Site → Tree → PlainDelay

-- a left side
mutual
  pub data PlainLeft : Type 0 where
    name_left : Site → List ℕ → Selections → PlainLeft
    concat_left : Site → Lefts → PlainLeft

  pub data Lefts : Type 0 where
    no_left : Lefts
    left : PlainLeft → Lefts → Lefts

abbrev pub lefts_of : List PlainLeft → Lefts
lefts_of [] = no_left
lefts_of (x ∷ xs) = left x (lefts_of xs)

abbrev pub range_of : Range → PlainRange
range_of r = record { site = r.site; left = tree_of r.left; right = tree_of r.right }

abbrev pub named_of : NamedValue → PlainNamed
named_of x = record { site = x.site; name = x.name; value = tree_of x.value }

abbrev pub delay_of : Delay → PlainDelay
delay_of (variant.Number s text) = number_delay s text
delay_of (variant.Name s text) = name_delay s text
delay_of (variant.Parens s value) = parens_delay s (tree_of value)

-- one level of the code's left side, with what is inside already seen so
abbrev pub left_step : Left-F PlainLeft → PlainLeft
left_step (Left-F.Name s text selects) = name_left s text (selections_of (map selection_of selects.items))
left_step (Left-F.Concat s parts) = concat_left s (lefts_of parts.items)

abbrev pub left_of : Left → PlainLeft
left_of = fold-Left PlainLeft left_step
