-- That what the pass up gives of an expression is what the definitions say: its width and sign by itself, and in each context its
-- fault and its sized expression.
use Rattle.std.proofs.Common.{◌≡◌, ℕ, Bool, true, false, ◌&&◌, Option, Some, None, refl, sym, subst}
use Rattle.std.specs.Prelude.{max, ◌||◌}
use Rattle.std.specs.Option.{option_or}
use Rattle.v_syntax.specs.declared.site.Site.{Site}
use Rattle.v_syntax.specs.declared.operator.Binary.{Binary}
use Rattle.v_syntax.specs.declared.operator.SystemFunction.{SystemFunction}
use Rattle.v_syntax.specs.declared.operator.SystemFunction.TheVariants as function
use Rattle.v_syntax.specs.Tree.{Tree, Trees, no_tree, tree, Selections, no_select, select}
use Rattle.v_syntax.specs.Tree as written
use Rattle.design_core.specs.declared.expression.Node.TheVariants as node
use Rattle.design_core.specs.Constant.{zeros}
use Rattle.v_sizes.specs.declared.error.WidthErr.{WidthErr}
use Rattle.v_sizes.specs.Look.{Look}
use Rattle.v_sizes.specs.Operations.{Class, by_context, shift, comparison, logical, quotient, remainder, power, class_of}
use Rattle.v_sizes.specs.Refusals.{first_of, by_own, division_fault, power_fault, refusal, parts_refusal, selects_refusal, only_first, only_later, is_bound}
use Rattle.v_sizes.specs.Sizing.{Sizing, sizing, sizings, chosen_of, class_sizing}
use Rattle.v_sizes.specs.Sized.{sized, constant, carried, folded, typed, typed_parts, selects_of}
use Rattle.v_sizes.specs.Context.{IsScope}
use Rattle.v_sizes.proofs.Sound.{width-within}
use Rattle.v_widths.specs.declared.measured.Measured.{Measured}
use Rattle.v_widths.specs.Closing.{alone}
use Rattle.v_widths.specs.Opening.{opened, opened_parts, opened_selects, system_measured}
use Rattle.v_widths.proofs.Agrees.{IsMeasured, measured-as, alone-closed, taken-as}
use Rattle.v_widths.proofs.FormLaws.{number-law, unary-law, called-law, conditional-law}
use Rattle.v_widths.proofs.BinaryLaws.{class_faults, class_shapes, binary-law}
use Rattle.v_widths.proofs.ListLaws.{AllFinished, none-finished, more-finished, concat-law, repeat-law, logarithm-law}
use Rattle.v_widths.proofs.PartLaws.{joined-same, repeated-same}
use Rattle.v_widths.proofs.NameAgrees.{AllPicked, none_picked, bit_picked, part_picked, name-law}

abbrev pub IsOpened : Look → Bool → Tree → Measured → Type 0
IsOpened look only e m = IsMeasured (sizing look e) (refusal look only e) (typed look e) m

-- the refusal and the sized expression of a binary operator, by its class
pub class-refusal : (look : Look) (only : Bool) (site : Site) (op : Binary) (left right : Tree) (size : ℕ) (signed : Bool)
    → class_faults site.span (class_of op) (sizing look left) (sizing look right) (refusal look only left) (refusal look only right) size signed
    ≡ refusal look only (written.binary site op left right) size signed
class-refusal look only site op left right size signed = by (class_of op)
  where
    L : Sizing
    L = sizing look left

    R : Sizing
    R = sizing look right

    by : (c : Class) → class_faults site.span c L R (refusal look only left) (refusal look only right) size signed ≡ (elim c [
      | by_context _ ↦ first_of (refusal look only left size signed) (refusal look only right size signed) None
      | shift _ ↦ first_of (refusal look only left size signed) (by_own R (refusal look only right)) None
      | comparison _ ↦ first_of (refusal look only left (max L.width R.width) (L.signed && R.signed)) (refusal look only right (max L.width R.width) (L.signed && R.signed)) None
      | logical _ ↦ first_of (by_own L (refusal look only left)) (by_own R (refusal look only right)) None
      | quotient ↦ first_of (refusal look only left size signed) (refusal look only right size signed) (division_fault site.span L R (R.value zeros size signed))
      | remainder ↦ first_of (refusal look only left size signed) (refusal look only right size signed) (division_fault site.span L R (R.value zeros size signed))
      | power ↦ first_of (refusal look only left size signed) (by_own R (refusal look only right)) (power_fault site.span L R)
    ])
    by (by_context _) = refl
    by (shift _) = refl
    by (comparison _) = refl
    by (logical _) = refl
    by quotient = refl
    by remainder = refl
    by power = refl

class-typed : (look : Look) (site : Site) (op : Binary) (left right : Tree) (size : ℕ) (signed : Bool)
    → folded (class_sizing (class_of op) (sizing look left) (sizing look right)) size signed
    (class_shapes (class_of op) (sizing look left) (sizing look right) (typed look left) (typed look right) size signed)
    ≡ typed look (written.binary site op left right) size signed
class-typed look site op left right size signed = by (class_of op)
  where
    L : Sizing
    L = sizing look left

    R : Sizing
    R = sizing look right

    by : (c : Class) → folded (class_sizing (class_of op) L R) size signed (class_shapes c L R (typed look left) (typed look right) size signed)
        ≡ folded (class_sizing (class_of op) L R) size signed (elim c [
          | by_context made ↦ sized size signed (node.Binary made (typed look left size signed) (typed look right size signed))
          | shift made ↦ sized size signed (node.Binary made (typed look left size signed) (typed look right R.width R.signed))
          | comparison made ↦
              carried size signed 1 (node.Binary made (typed look left (max L.width R.width) (L.signed && R.signed)) (typed look right (max L.width R.width) (L.signed && R.signed)))
          | logical made ↦ carried size signed 1 (node.Binary made (typed look left L.width L.signed) (typed look right R.width R.signed))
          | quotient ↦ constant size signed 0
          | remainder ↦ constant size signed 0
          | power ↦ constant size signed 0
        ])
    by (by_context _) = refl
    by (shift _) = refl
    by (comparison _) = refl
    by (logical _) = refl
    by quotient = refl
    by remainder = refl
    by power = refl

system-law : (look : Look) (only : Bool) (site : Site) (name : SystemFunction) (argument : Tree) (m : Measured) → IsOpened look only argument m
    → IsOpened look only (written.system site name argument) (system_measured site.span name (alone m))
system-law look only site function.Signed argument m is =
    measured-as (called-law true (sizing look argument) (refusal look only argument) (typed look argument) m is) (λ size signed. nothing (by_own (sizing look argument) (refusal look only argument)))
    (λ size signed. refl)
  where
    nothing : (f : Option WidthErr) → f ≡ option_or f None
    nothing None = refl
    nothing (Some x) = refl
system-law look only site function.Unsigned argument m is =
    measured-as (called-law false (sizing look argument) (refusal look only argument) (typed look argument) m is) (λ size signed. nothing (by_own (sizing look argument) (refusal look only argument)))
    (λ size signed. refl)
  where
    nothing : (f : Option WidthErr) → f ≡ option_or f None
    nothing None = refl
    nothing (Some x) = refl
system-law look only site function.Clog2 argument m is = logarithm-law site.span (sizing look argument) (refusal look only argument) (typed look argument) m is

mutual
  pub opened-law : (look : Look) (only : Bool) → IsScope look → (e : Tree) → IsOpened look only e (opened look only e)
  opened-law look only scope (written.number site text) = number-law site.span text
  opened-law look only scope (written.wild site text) = number-law site.span text
  opened-law look only scope (written.name site text selects) =
      name-law site.span only (look text) (opened_selects look (only_first only (look text)) (only_later only (look text)) selects) (chosen_of look selects)
      (selects_refusal look (only_first only (look text)) (only_later only (look text)) selects) (selects_of look selects)
      (selects-law look (only_first only (look text)) (only_later only (look text)) scope selects) (width-within look scope (written.name site text selects))
  opened-law look only scope (written.parens site inner) = opened-law look only scope inner
  opened-law look only scope (written.concat site parts) =
      subst (IsOpened look only (written.concat site parts)) (sym (joined-same site.span (opened_parts look only parts)))
      (concat-law site.span (sizings look parts) (parts_refusal look only parts) (typed_parts look parts) (opened_parts look only parts) (parts-law look only scope parts))
  opened-law look only scope (written.repeat site count parts) =
      let c = sizing look count in
      let is = opened-law look true scope count in
      subst (IsOpened look only (written.repeat site count parts)) (sym (repeated-same site.span (alone (opened look true count)) (opened_parts look only parts)))
      (repeat-law site.span c (refusal look true count c.width c.signed) (typed look count c.width c.signed) (alone (opened look true count))
      (sizings look parts) (parts_refusal look only parts) (typed_parts look parts) (opened_parts look only parts) (taken-as is) (alone-closed is) (parts-law look only scope parts))
  opened-law look only scope (written.system site name argument) =
      system-law look only site name argument (opened look only argument) (opened-law look only scope argument)
  opened-law look only scope (written.unary site op operand) =
      unary-law op (sizing look operand) (refusal look only operand) (typed look operand) (opened look only operand) (opened-law look only scope operand)
  opened-law look only scope (written.binary site op left right) =
      measured-as
      (binary-law site.span op (sizing look left) (sizing look right) (refusal look only left) (refusal look only right) (typed look left) (typed look right)
      (opened look only left) (opened look only right) (opened-law look only scope left) (opened-law look only scope right))
      (λ size signed. class-refusal look only site op left right size signed) (λ size signed. class-typed look site op left right size signed)
  opened-law look only scope (written.conditional site condition on_true on_false) =
      conditional-law (sizing look condition) (sizing look on_true) (sizing look on_false) (refusal look only condition) (refusal look only on_true) (refusal look only on_false)
      (typed look condition) (typed look on_true) (typed look on_false) (opened look only condition) (opened look only on_true) (opened look only on_false)
      (opened-law look only scope condition) (opened-law look only scope on_true) (opened-law look only scope on_false)

  parts-law : (look : Look) (only : Bool) → IsScope look → (parts : Trees)
      → AllFinished (sizings look parts) (parts_refusal look only parts) (typed_parts look parts) (opened_parts look only parts)
  parts-law look only scope no_tree = none-finished
  parts-law look only scope (tree one rest) =
      let e = sizing look one in
      let is = opened-law look only scope one in
      more-finished e (refusal look only one e.width e.signed) (typed look one e.width e.signed) (alone (opened look only one)) (taken-as is) (alone-closed is)
      (parts-law look only scope rest)

  selects-law : (look : Look) (first later : Bool) → IsScope look → (selects : Selections)
      → AllPicked (opened_selects look first later selects) (chosen_of look selects) (selects_refusal look first later selects) (selects_of look selects)
  selects-law look first later scope no_select = none_picked
  selects-law look first later scope (select (written.bit site index) rest) =
      let e = sizing look index in
      let is = opened-law look first scope index in
      bit_picked e (refusal look first index e.width e.signed) (typed look index e.width e.signed) (alone (opened look first index)) (taken-as is) (alone-closed is)
      (selects-law look later later scope rest)
  selects-law look first later scope (select (written.part site kind one other) rest) =
      let e = sizing look one in
      let g = sizing look other in
      let bound = first || is_bound kind in
      let is = opened-law look bound scope one in
      let other_is = opened-law look true scope other in
      part_picked kind e g (refusal look bound one e.width e.signed) (refusal look true other g.width g.signed) (typed look one e.width e.signed) (typed look other g.width g.signed)
      (alone (opened look bound one)) (alone (opened look true other)) (taken-as is) (alone-closed is) (taken-as other_is) (alone-closed other_is)
      (selects-law look later later scope rest)
