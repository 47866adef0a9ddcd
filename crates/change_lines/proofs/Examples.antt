-- Worked examples of lines.
use Rattle.std.proofs.Common.{◌≡◌, ℕ, List, [], ◌∷◌, Some, None, option_map, refl, lit<}
use Rattle.std.specs.Prelude.{false, codes, pos}
use Rattle.std.specs.Fmt.{digits}
use Rattle.printed_text.specs.Numerals.{hex}
use Rattle.design_core.specs.declared.design.Design.{Design}
use Rattle.design_core.specs.declared.expression.BinaryOp.TheVariants as binary_op
use Rattle.design_core.specs.declared.expression.Typed.{Typed}
use Rattle.design_core.specs.declared.expression.Node.TheVariants as node
use Rattle.design_core.specs.declared.expression.Node.TheBlock.{shape-the_row-Typed-0, hidden-the_row-Typed-0}
use denote.Hole.Carrier.{hidden}
use Rattle.design_core.specs.declared.place.Place.{Place}
use Rattle.design_core.specs.declared.place.PlaceKind.TheVariants as place_kind
use Rattle.design_core.specs.Constant.{zeros}
use Rattle.design_core.specs.Valuation.{number}
use Rattle.design_core.proofs.Examples.{Any, freed, vec}
use Rattle.design_core.proofs.CycleExamples.{held}
use Rattle.change_lines.specs.Lines.{ChangeLine, Site, change_at, change_text, member_of, set_text}
use Rattle.change_lines.specs.Operands.{named_below}

-- ---- as text
-- a place of nine bits that reads a signal of nine bits
abbrev told : ChangeLine
told = record {
  member = 11;
  line = 32;
  name = codes "shift";
  trace = 1;
  cycle = 29;
  width = 9;
  computes = 0;
  takes = 1;
  operands = record { name = codes "shift"; width = 9; value = 0 } ∷ record { name = codes "busy"; width = 1; value = 1 } ∷ [];
}

pub the_line_of_a_change : change_text told ≡ codes "  11 line 32 shift trace 1 cycle 29: computes 000, takes 001; shift=000 busy=1\n"
unfolding hex digits
the_line_of_a_change = refl

pub a_line_without_operands : change_text (record told { operands = [] }) ≡ codes "  11 line 32 shift trace 1 cycle 29: computes 000, takes 001\n"
unfolding hex digits
a_line_without_operands = refl

pub a_set_that_changes_nothing : set_text (2 ∷ 11 ∷ []) [] ≡ codes "set {2,11} 0\n"
unfolding digits
a_set_that_changes_nothing = refl

pub the_lines_stand_behind_their_number : set_text (11 ∷ []) (record told { operands = [] } ∷ [])
    ≡ codes "set {11} 1\n  11 line 32 shift trace 1 cycle 29: computes 000, takes 001\n"
unfolding hex digits
the_lines_stand_behind_their_number = refl

-- ---- whose a place is
-- suspect 1 has the places 0 and 2, suspect 2 has 2 and 3
pub the_first_member_with_the_place_is_told : member_of ((0 ∷ 2 ∷ []) ∷ (2 ∷ 3 ∷ []) ∷ []) (1 ∷ 2 ∷ []) 2 ≡ 1
the_first_member_with_the_place_is_told = refl

pub a_member_without_the_place_is_passed : member_of ((0 ∷ 2 ∷ []) ∷ (2 ∷ 3 ∷ []) ∷ []) (1 ∷ 2 ∷ []) 3 ≡ 2
a_member_without_the_place_is_passed = refl

-- ---- operands
abbrev whole : ℕ → Typed
whole signal = record { width = 1; signed = false; node = node.Whole signal }

-- the signal 3, and the word of the array of the signals 4 and 5 whose index is the signal 1
abbrev sum : Typed
sum = record {
  width = 1;
  signed = false;
  node = node.Binary binary_op.Add (whole 3) (record { width = 1; signed = false; node = node.Word 4 2 (pos 0) (whole 1) 0 1 });
}

pub operands_are_named_once_by_number : named_below 6 sum ≡ 1 ∷ 3 ∷ []
unfolding named_below shape-the_row-Typed-0 hidden-the_row-Typed-0 hidden
operands_are_named_once_by_number = refl

-- ---- always @(posedge clk) q <= q; with q at 0
abbrev place_of_q : Any → Place
place_of_q any = record {
  kind = place_kind.Step;
  width = 1;
  site = 0;
  home = 0;
  copy = 0;
  line = 4;
  «module» = any.path;
  path = any.path;
  signal = 1;
}

abbrev register : Any → Design
register any = record (held any) { places = vec any (place_of_q any ∷ []) (lit< tt) }

abbrev site : Any → Site
site any = record { design = register any; groups = (0 ∷ []) ∷ []; members = 1 ∷ []; trace = 1; cycle = 0 }

pub a_place_that_takes_another_word_has_a_line : (any : Any)
    → option_map (λ (line : ChangeLine). line.computes ∷ line.takes ∷ []) (change_at (site any) (freed 0 1) zeros 0) ≡ Some (0 ∷ 1 ∷ [])
unfolding number
a_place_that_takes_another_word_has_a_line any = refl

pub a_place_that_takes_what_it_computes_has_none : (any : Any) → change_at (site any) (freed 0 0) zeros 0 ≡ None
unfolding number
a_place_that_takes_what_it_computes_has_none any = refl
