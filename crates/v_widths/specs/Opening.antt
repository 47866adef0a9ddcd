-- What the pass up gives of an expression, one case for each form. `only` where constants alone are wanted.
use Rattle.std.specs.Prelude.{Bool, true, false, ◌||◌, List, [], ◌∷◌}
use Rattle.loc_base.specs.declared.span.Span.{Span}
use Rattle.v_syntax.specs.declared.operator.SystemFunction.{SystemFunction}
use Rattle.v_syntax.specs.declared.operator.SystemFunction.TheVariants as function
use Rattle.v_syntax.specs.Tree.{Tree, Trees, no_tree, tree, Selection, Selections, no_select, select}
use Rattle.v_syntax.specs.Tree as written
use Rattle.v_sizes.specs.Look.{Look}
use Rattle.v_sizes.specs.Operations.{class_of}
use Rattle.v_sizes.specs.Refusals.{only_first, only_later, is_bound}
use Rattle.v_selects.specs.declared.closed.Closed.{Closed}
use Rattle.v_widths.specs.declared.measured.Measured.{Measured}
use Rattle.v_selects.specs.declared.closed.Picked.{Picked}
use Rattle.v_selects.specs.declared.closed.Picked.TheVariants as picked
use Rattle.v_widths.specs.Closing.{alone}
use Rattle.v_widths.specs.Measuring.{number_measured, unary_measured, binary_measured, called_measured, conditional_measured}
use Rattle.v_widths.specs.Named.{named, logarithm_measured}
use Rattle.v_widths.specs.Parts.{no_parts, with_parts, joined_parts, repeated_parts}

abbrev pub system_measured : Span → SystemFunction → Closed → Measured
system_measured span function.Signed argument = called_measured true argument
system_measured span function.Unsigned argument = called_measured false argument
system_measured span function.Clog2 argument = logarithm_measured span argument

abbrev mutual
  pub opened : Look → Bool → Tree → Measured
  opened look only (written.number site text) = number_measured site.span text
  opened look only (written.wild site text) = number_measured site.span text
  opened look only (written.name site text selects) = named site.span only (look text) (opened_selects look (only_first only (look text)) (only_later only (look text)) selects)
  opened look only (written.parens _ inner) = opened look only inner
  opened look only (written.concat site parts) = joined_parts site.span (with_parts no_parts (opened_parts look only parts))
  opened look only (written.repeat site count parts) =
      repeated_parts site.span (alone (opened look true count)) (with_parts no_parts (opened_parts look only parts))
  opened look only (written.system site name argument) = system_measured site.span name (alone (opened look only argument))
  opened look only (written.unary _ op operand) = unary_measured op (opened look only operand)
  opened look only (written.binary site op left right) = binary_measured site.span (class_of op) (opened look only left) (opened look only right)
  opened look only (written.conditional _ condition on_true on_false) =
      conditional_measured (alone (opened look only condition)) (opened look only on_true) (opened look only on_false)

  pub opened_parts : Look → Bool → Trees → List Closed
  opened_parts look only no_tree = []
  opened_parts look only (tree one rest) = alone (opened look only one) ∷ opened_parts look only rest

  pub opened_selects : Look → Bool → Bool → Selections → List Picked
  opened_selects look first later no_select = []
  opened_selects look first later (select one rest) = opened_select look first one ∷ opened_selects look later later rest

  pub opened_select : Look → Bool → Selection → Picked
  opened_select look only (written.bit _ index) = picked.Bit (alone (opened look only index))
  opened_select look only (written.part _ kind one other) =
      picked.Part kind (alone (opened look (only || is_bound kind) one)) (alone (opened look true other))
