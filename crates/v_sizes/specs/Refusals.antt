-- Which part of an expression is refused, and why. A part is wrong by itself only where none of its own parts is; of several
-- that are, the leftmost counts, and of one part's faults the first in the order unknown name, no constant, division by
-- zero, range (IEEE 1364-2005, clause 5; the bounds of 128 bits are this project's own).
use Rattle.std.specs.Prelude.{ℕ, ◌*◌, ◌==◌, Bool, true, false, not, ◌&&◌, ◌||◌, if◌then◌else◌, max, nat_lt, int_lt, pos, List, [], ◌∷◌, Option, Some, None}
use Rattle.std.specs.Option.{option_or}
use Rattle.loc_base.specs.declared.span.Span.{Span}
use Rattle.v_syntax.specs.declared.operator.SystemFunction.{SystemFunction}
use Rattle.v_syntax.specs.declared.operator.SystemFunction.TheVariants as function
use Rattle.v_syntax.specs.declared.expression.PartKind.{PartKind}
use Rattle.v_syntax.specs.declared.expression.PartKind.TheVariants as kind
use Rattle.v_syntax.specs.Tree.{Tree, Trees, no_tree, tree, Selections, no_select, select}
use Rattle.v_syntax.specs.Tree as written
use Rattle.design_core.specs.Constant.{zeros}
use Rattle.v_sizes.specs.declared.error.WidthErr.{WidthErr}
use Rattle.v_sizes.specs.declared.error.WidthErr.TheVariants as fault
use Rattle.v_sizes.specs.declared.meaning.Meaning.{Meaning}
use Rattle.v_sizes.specs.declared.meaning.Meaning.TheVariants as meaning
use Rattle.v_sizes.specs.Look.{Look}
use Rattle.v_sizes.specs.Literal.{written_width}
use Rattle.v_sizes.specs.Selected.{part_count, runs_along, descends}
use Rattle.v_sizes.specs.Operations.{by_context, shift, comparison, logical, quotient, remainder, power, class_of, keeps_width, is_below_0}
use Rattle.v_sizes.specs.Sizing.{Sizing, sizing, sizings, Chosen, one_bit, some_bits, chosen_of, joined_width, known, times_of, has_known_size, is_chosen_by_constants}

-- the fault where its condition holds, else what the rest says
abbrev pub when : Bool → WidthErr → Option WidthErr → Option WidthErr
when holds wrong rest = if holds then Some wrong else rest

abbrev pub is_bad_width : ℕ → Bool
is_bad_width n = n == 0 || nat_lt 128 n

-- a part-select against the direction of its range, or of a width that is none
abbrev pub is_bad_part : Bool → Chosen → Bool
is_bad_part down (one_bit _) = false
is_bad_part down (some_bits kind one other) = not (runs_along kind down (known one) (known other)) || is_bad_width (part_count kind (known one) (known other))

-- what is wrong with the select of a word that has a range; `all` where its index must be a constant too
abbrev pub chosen_fault : Span → Bool → Bool → Chosen → Option WidthErr
chosen_fault span all down chosen =
    when (not (has_known_size chosen) || (all && not (is_chosen_by_constants chosen))) (fault.NotConstant span) (when (is_bad_part down chosen) (fault.Range span) None)

-- a word with at most one select; `signal` where it is none that a constant can have
abbrev pub word_fault : Span → Bool → Bool → Bool → List Chosen → Option WidthErr
word_fault span signal all down [] = when signal (fault.NotConstant span) None
word_fault span signal all down (chosen ∷ []) = when signal (fault.NotConstant span) (chosen_fault span all down chosen)
word_fault span signal all down (_ ∷ _ ∷ _) = Some (fault.UnknownName span)

-- what is wrong with a name by itself; `only` where constants alone are wanted. An array's first select is an index, and its
-- second one is constant
abbrev pub name_fault : Span → Bool → Option Meaning → List Chosen → Option WidthErr
name_fault span only None chosen = Some (fault.UnknownName span)
name_fault span only (Some (meaning.Constant _ left right)) chosen = word_fault span false true (descends left right) chosen
name_fault span only (Some (meaning.Signal _ _ _ left right)) chosen = word_fault span only false (descends left right) chosen
name_fault span only (Some (meaning.Array _ _ _ _ _ left right)) [] = Some (fault.UnknownName span)
name_fault span only (Some (meaning.Array _ _ _ _ _ left right)) (some_bits _ _ _ ∷ _) = Some (fault.UnknownName span)
name_fault span only (Some (meaning.Array _ _ _ _ _ left right)) (one_bit _ ∷ rest) = word_fault span only true (descends left right) rest

-- whether constants alone may stand in the first select of a name, and in those behind it, which choose bits of a word of an array
abbrev pub only_first : Bool → Option Meaning → Bool
only_first only (Some (meaning.Constant _ _ _)) = true
only_first only (Some (meaning.Signal _ _ _ _ _)) = only
only_first only (Some (meaning.Array _ _ _ _ _ _ _)) = only
only_first only None = only

abbrev pub only_later : Bool → Option Meaning → Bool
only_later only (Some (meaning.Constant _ _ _)) = true
only_later only (Some (meaning.Signal _ _ _ _ _)) = only
only_later only (Some (meaning.Array _ _ _ _ _ _ _)) = true
only_later only None = only

-- whether the first number of a part-select is a bound, which a constant alone may be; its second one is a bound or a count
abbrev pub is_bound : PartKind → Bool
is_bound kind.Range = true
is_bound kind.Up = false
is_bound kind.Down = false

-- a number whose size is none: the tokens of a text have no such number
abbrev pub literal_fault : Span → List ℕ → Option WidthErr
literal_fault span text = when (is_bad_width (written_width text)) (fault.Range span) None

abbrev pub concat_fault : Span → List Sizing → Option WidthErr
concat_fault span parts = when (is_bad_width (joined_width parts)) (fault.Range span) None

-- a count below 1, or a width above 128
abbrev pub repeat_fault : Span → Sizing → List Sizing → Option WidthErr
repeat_fault span count parts =
    when (not count.constant) (fault.NotConstant span)
    (when (not (int_lt (pos 0) (known count)) || is_bad_width (times_of (known count) * joined_width parts)) (fault.Range span) None)

abbrev pub called_fault : Span → SystemFunction → Sizing → Option WidthErr
called_fault span function.Signed argument = None
called_fault span function.Unsigned argument = None
called_fault span function.Clog2 argument = when (not argument.constant) (fault.NotConstant span) None

-- a division; its right operand in the context has this value
abbrev pub division_fault : Span → Sizing → Sizing → ℕ → Option WidthErr
division_fault span left right divisor =
    when (not (left.constant && right.constant)) (fault.NotConstant span) (when (divisor == 0) (fault.ZeroDivisor span) None)

abbrev pub power_fault : Span → Sizing → Sizing → Option WidthErr
power_fault span left right = when (not (left.constant && right.constant) || is_below_0 (known right)) (fault.NotConstant span) None

-- what is said of an expression in the context that it has by itself
abbrev pub by_own : {A : Type 0} → Sizing → (ℕ → Bool → A) → A
by_own e of = of e.width e.signed

-- what is wrong with two operands, and then with the whole
abbrev pub first_of : Option WidthErr → Option WidthErr → Option WidthErr → Option WidthErr
first_of left right whole = option_or left (option_or right whole)

abbrev mutual
  -- the fault of an expression in a context of a width and a sign; `only` where constants alone are wanted, as in a count and in the
  -- bounds of a select: there a signal's name is wrong by itself
  pub refusal : Look → Bool → Tree → ℕ → Bool → Option WidthErr
  refusal look only (written.number site text) size signed = literal_fault site.span text
  refusal look only (written.wild site text) size signed = literal_fault site.span text
  refusal look only (written.name site text selects) size signed =
      option_or (selects_refusal look (only_first only (look text)) (only_later only (look text)) selects) (name_fault site.span only (look text) (chosen_of look selects))
  refusal look only (written.parens _ inner) size signed = refusal look only inner size signed
  refusal look only (written.concat site parts) size signed = option_or (parts_refusal look only parts) (concat_fault site.span (sizings look parts))
  refusal look only (written.repeat site count parts) size signed =
      first_of (by_own (sizing look count) (refusal look true count)) (parts_refusal look only parts) (repeat_fault site.span (sizing look count) (sizings look parts))
  refusal look only (written.system site name argument) size signed =
      option_or (by_own (sizing look argument) (refusal look only argument)) (called_fault site.span name (sizing look argument))
  refusal look only (written.unary _ op operand) size signed =
      if keeps_width op then refusal look only operand size signed else by_own (sizing look operand) (refusal look only operand)
  refusal look only (written.binary site op left right) size signed =
      elim (class_of op) [
        | by_context _ ↦ first_of (refusal look only left size signed) (refusal look only right size signed) None
        | shift _ ↦ first_of (refusal look only left size signed) (by_own (sizing look right) (refusal look only right)) None
        | comparison _ ↦
            let w = max (sizing look left).width (sizing look right).width in
            let s = (sizing look left).signed && (sizing look right).signed in
            first_of (refusal look only left w s) (refusal look only right w s) None
        | logical _ ↦ first_of (by_own (sizing look left) (refusal look only left)) (by_own (sizing look right) (refusal look only right)) None
        | quotient ↦
            first_of (refusal look only left size signed) (refusal look only right size signed)
            (division_fault site.span (sizing look left) (sizing look right) ((sizing look right).value zeros size signed))
        | remainder ↦
            first_of (refusal look only left size signed) (refusal look only right size signed)
            (division_fault site.span (sizing look left) (sizing look right) ((sizing look right).value zeros size signed))
        | power ↦
            first_of (refusal look only left size signed) (by_own (sizing look right) (refusal look only right))
            (power_fault site.span (sizing look left) (sizing look right))
      ]
  refusal look only (written.conditional _ condition on_true on_false) size signed =
      first_of (by_own (sizing look condition) (refusal look only condition)) (refusal look only on_true size signed) (refusal look only on_false size signed)

  pub parts_refusal : Look → Bool → Trees → Option WidthErr
  parts_refusal look only no_tree = None
  parts_refusal look only (tree one rest) = option_or (by_own (sizing look one) (refusal look only one)) (parts_refusal look only rest)

  -- the indexes and bounds of the selects, from the left: `first` and `later` where constants alone may stand in the first one and in
  -- the others
  pub selects_refusal : Look → Bool → Bool → Selections → Option WidthErr
  selects_refusal look first later no_select = None
  selects_refusal look first later (select (written.bit _ index) rest) =
      option_or (by_own (sizing look index) (refusal look first index)) (selects_refusal look later later rest)
  selects_refusal look first later (select (written.part _ kind one other) rest) =
      first_of (by_own (sizing look one) (refusal look (first || is_bound kind) one)) (by_own (sizing look other) (refusal look true other))
      (selects_refusal look later later rest)
