-- Every expression that isn't refused: its sized expression means what it means in its context, and fits it.
use Rattle.std.proofs.Common.{◌≡◌, ℕ, ◌*◌, Bool, true, false, ◌&&◌, List, [], ◌∷◌, Option, Some, None, refl, lit≤}
use Rattle.std.specs.Prelude.{if◌then◌else◌, max}
use Rattle.loc_base.specs.declared.span.Span.{Span}
use Rattle.v_syntax.specs.declared.site.Site.{Site}
use Rattle.v_syntax.specs.declared.operator.Unary.{Unary}
use Rattle.v_syntax.specs.declared.operator.Binary.{Binary}
use Rattle.design_core.specs.declared.expression.BinaryOp.TheVariants as binary_op
use Rattle.v_syntax.specs.declared.operator.SystemFunction.{SystemFunction}
use Rattle.v_syntax.specs.declared.operator.SystemFunction.TheVariants as function
use Rattle.v_syntax.specs.Tree.{Tree, Trees, no_tree, tree, Selections, no_select, select}
use Rattle.v_syntax.specs.Tree as written
use Rattle.design_core.specs.Constant.{zeros}
use Rattle.design_core.specs.Operator as operator
use Rattle.v_sizes.specs.declared.error.WidthErr.{WidthErr}
use Rattle.v_sizes.specs.declared.meaning.Meaning.{Meaning}
use Rattle.v_sizes.specs.declared.meaning.Meaning.TheVariants as meaning
use Rattle.v_sizes.specs.Look.{Look}
use Rattle.v_sizes.specs.Literal.{written_width}
use Rattle.v_sizes.specs.Operations.{unary_of, Class, by_context, shift, comparison, logical, quotient, remainder, power, class_of, keeps_width}
use Rattle.v_sizes.specs.Sizing.{Sizing, sizing, sizings, own, known, times_of, joined_width, Chosen, one_bit, some_bits, chosen_of, name_sizing, class_sizing, unary_sizing, called, by_itself}
use Rattle.v_sizes.specs.Refusals.{refusal, first_of, division_fault, power_fault}
use Rattle.v_sizes.specs.Context.{IsScope, IsMeaning}
use Rattle.v_sizes.proofs.Accepted.{max-within}
use Rattle.v_sizes.proofs.Meant.{Within}
use Rattle.v_sizes.proofs.Names.{limits}
use Rattle.v_sizes.proofs.Meanings.{within-range}
use Rattle.v_sizes.proofs.Names.{chosen-within}

-- the refusal of a binary operator, by its class
abbrev pub class_refusal : Look → Bool → Span → Class → Tree → Tree → ℕ → Bool → Option WidthErr
class_refusal look only span (by_context _) left right size signed = first_of (refusal look only left size signed) (refusal look only right size signed) None
class_refusal look only span (shift _) left right size signed =
    first_of (refusal look only left size signed) (refusal look only right (sizing look right).width (sizing look right).signed) None
class_refusal look only span (comparison _) left right size signed =
    let w = max (sizing look left).width (sizing look right).width in
    let s = (sizing look left).signed && (sizing look right).signed in
    first_of (refusal look only left w s) (refusal look only right w s) None
class_refusal look only span (logical _) left right size signed =
    first_of (refusal look only left (sizing look left).width (sizing look left).signed) (refusal look only right (sizing look right).width (sizing look right).signed) None
class_refusal look only span quotient left right size signed =
    first_of (refusal look only left size signed) (refusal look only right size signed)
    (division_fault span (sizing look left) (sizing look right) ((sizing look right).value zeros size signed))
class_refusal look only span remainder left right size signed =
    first_of (refusal look only left size signed) (refusal look only right size signed)
    (division_fault span (sizing look left) (sizing look right) ((sizing look right).value zeros size signed))
class_refusal look only span power left right size signed =
    first_of (refusal look only left size signed) (refusal look only right (sizing look right).width (sizing look right).signed)
    (power_fault span (sizing look left) (sizing look right))

-- the refusal of a binary operator is that of its class
pub binary-refusal : (look : Look) (only : Bool) (site : Site) (op : Binary) (left right : Tree) (size : ℕ) (signed : Bool)
    → refusal look only (written.binary site op left right) size signed ≡ class_refusal look only site.span (class_of op) left right size signed
binary-refusal look only site op left right size signed = by (class_of op)
  where
    by : (c : Class) → (elim c [
      | by_context _ ↦ first_of (refusal look only left size signed) (refusal look only right size signed) None
      | shift _ ↦ first_of (refusal look only left size signed) (refusal look only right (sizing look right).width (sizing look right).signed) None
      | comparison _ ↦ class_refusal look only site.span (comparison binary_op.Less) left right size signed
      | logical _ ↦ class_refusal look only site.span (logical binary_op.LogicalOr) left right size signed
      | quotient ↦ class_refusal look only site.span quotient left right size signed
      | remainder ↦ class_refusal look only site.span remainder left right size signed
      | power ↦ class_refusal look only site.span power left right size signed
    ]) ≡ class_refusal look only site.span c left right size signed
    by (by_context _) = refl
    by (shift _) = refl
    by (comparison _) = refl
    by (logical _) = refl
    by quotient = refl
    by remainder = refl
    by power = refl

-- a name's width
name-within : (m : Option Meaning) (cs : List Chosen) → ((n : Meaning) → m ≡ Some n → IsMeaning n)
    → Within (name_sizing m cs).width
name-within None cs is = record { least = lit≤ tt; most = lit≤ tt }
name-within (Some (meaning.Constant value left right)) [] is = let i = is (meaning.Constant value left right) refl in within-range _ left right i
name-within (Some (meaning.Constant value left right)) (c ∷ cs) is = chosen-within c
name-within (Some (meaning.Signal signal width signed left right)) [] is = let i = is (meaning.Signal signal width signed left right) refl in within-range width left right i
name-within (Some (meaning.Signal signal width signed left right)) (c ∷ cs) is = chosen-within c
name-within (Some (meaning.Array first count low width signed left right)) [] is = let i = is (meaning.Array first count low width signed left right) refl in within-range width left right i.0
name-within (Some (meaning.Array first count low width signed left right)) (some_bits k x y ∷ cs) is = let i = is (meaning.Array first count low width signed left right) refl in within-range width left right i.0
name-within (Some (meaning.Array first count low width signed left right)) (one_bit x ∷ []) is = let i = is (meaning.Array first count low width signed left right) refl in within-range width left right i.0
name-within (Some (meaning.Array first count low width signed left right)) (one_bit x ∷ c ∷ cs) is = chosen-within c

-- the width of an operator of two operands, by theirs
class-within : (c : Class) (left right : Sizing) → Within left.width → Within right.width → Within (class_sizing c left right).width
class-within (by_context op) left right one other = max-within left.width right.width one other
class-within (shift op) left right one other = one
class-within (comparison op) left right one other = record { least = lit≤ tt; most = lit≤ tt }
class-within (logical op) left right one other = record { least = lit≤ tt; most = lit≤ tt }
class-within quotient left right one other = max-within left.width right.width one other
class-within remainder left right one other = max-within left.width right.width one other
class-within power left right one other = one

abbrev width_of_sizing : Sizing → ℕ
width_of_sizing s = s.width

either-within : (holds : Bool) (one other : Sizing) → Within one.width → Within other.width → Within (width_of_sizing (if holds then one else other))
either-within true one other first second = first
either-within false one other first second = second

unary-within : (op : Unary) (e : Sizing) → Within e.width → Within (unary_sizing op e).width
unary-within op e one =
    either-within (keeps_width op)
    (record { width = e.width; signed = e.signed; constant = e.constant; value = λ V size signed. operator.unary (unary_of op) size (e.value V size signed) })
    (by_itself 1 false e.constant (λ V. operator.unary (unary_of op) e.width (own e V))) one (record { least = lit≤ tt; most = lit≤ tt })

system-within : (name : SystemFunction) (argument : Sizing) → Within argument.width → Within (called name argument).width
system-within function.Signed argument one = one
system-within function.Unsigned argument one = one
system-within function.Clog2 argument one = record { least = lit≤ tt; most = lit≤ tt }

-- an expression has a width of 1 to 128 bits
pub width-within : (look : Look) → IsScope look → (e : Tree) → Within (sizing look e).width
width-within look scope (written.number site text) = limits (written_width text)
width-within look scope (written.wild site text) = limits (written_width text)
width-within look scope (written.name site text selects) = name-within (look text) (chosen_of look selects) (λ n found. scope text n found)
width-within look scope (written.parens site inner) = width-within look scope inner
width-within look scope (written.concat site parts) = limits (joined_width (sizings look parts))
width-within look scope (written.repeat site count parts) = limits (times_of (known (sizing look count)) * joined_width (sizings look parts))
width-within look scope (written.system site name argument) = system-within name (sizing look argument) (width-within look scope argument)
width-within look scope (written.unary site op operand) = unary-within op (sizing look operand) (width-within look scope operand)
width-within look scope (written.binary site op left right) =
    class-within (class_of op) (sizing look left) (sizing look right) (width-within look scope left) (width-within look scope right)
width-within look scope (written.conditional site condition on_true on_false) =
    max-within (sizing look on_true).width (sizing look on_false).width (width-within look scope on_true) (width-within look scope on_false)
