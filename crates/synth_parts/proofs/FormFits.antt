-- What fits in each form of an expression as code makes it.
use Rattle.std.proofs.Common.{◌≡◌, ℕ, ◌+◌, ◌*◌, ◌<◌, ◌≤◌, Bool, List, [], ◌∷◌, length, refl, ap, sym, ◌∙◌, arith}
use Rattle.std.specs.Prelude.{◌&&◌, ◌==◌, ℤ, IsTrue, nat_le}
use Rattle.std.specs.List.{list_all}
use Rattle.std.proofs.lemmas.Bool.{and_parts, ltb-true, leb-true, eqb-true}
use Rattle.design_core.specs.declared.signal.Signal.{Signal}
use Rattle.design_core.specs.declared.expression.UnaryOp.{UnaryOp}
use Rattle.design_core.specs.declared.expression.BinaryOp.{BinaryOp}
use Rattle.design_core.specs.declared.expression.Typed.{Typed}
use Rattle.design_core.specs.declared.expression.Node.{Row_of-Typed, end_of-Typed, more_of-Typed, items-the_row-Typed, items_hidden-the_row-Typed-1}
use Rattle.design_core.specs.declared.expression.Node.TheVariants as node
use Rattle.design_core.specs.declared.expression.Node.TheBlock.{hidden-the_row-Typed-1}
use Rattle.design_core.specs.Valuation.{width_at}
use Rattle.design_core.specs.WellFormed.{is_width, is_signal, slice_fits, words_fit, unary_fits, binary_fits, signs_fit, same_widths, joined_width, node_fits, parts_fit, typed_fits}
use Rattle.design_core.proofs.ExpressionSteps.{fits_pick, fits_word, fits_unary, fits_binary, fits_choose, fits_repeat, fits_resize}
use Rattle.synth_parts.specs.Lists.{parts_sum}
use Rattle.synth_parts.proofs.Base.{width-bounds}

pub whole-there : (signals : List Signal) (width : ℕ) (signed : Bool) (s : ℕ) → IsTrue (node_fits signals width signed (node.Whole s)) → s < length signals
whole-there signals width signed s h =
    ltb-true s (length signals) (and_parts (is_width width) (is_signal signals s) (and_parts (is_width width && is_signal signals s) (width_at signals s == width) h).0).1

pub slice-there : (signals : List Signal) (width : ℕ) (signed : Bool) (s from size : ℕ) → IsTrue (node_fits signals width signed (node.Slice s from size)) → s < length signals
slice-there signals width signed s from size h =
    let f = and_parts (slice_fits signals s from size) (size == width) h in
    ltb-true s (length signals) (and_parts (is_signal signals s) (is_width size) (and_parts (is_signal signals s && is_width size) (nat_le (from + size) (width_at signals s)) f.0).0).0

pub pick-parts : (signals : List Signal) (width : ℕ) (signed : Bool) (s : ℕ) (index : Typed) (offsets : List ℤ) → IsTrue (node_fits signals width signed (node.Pick s index offsets))
    → (s < length signals) × IsTrue (typed_fits signals index)
pick-parts signals width signed s index offsets h =
    let f = and_parts (is_width width && is_signal signals s && (length offsets == width)) (typed_fits signals index) (sym (fits_pick signals signed width s index offsets) ∙ h) in
    let g = and_parts (is_width width && is_signal signals s) (length offsets == width) f.0 in
    (ltb-true s (length signals) (and_parts (is_width width) (is_signal signals s) g.0).1, f.1)

pub word-parts : (signals : List Signal) (width : ℕ) (signed : Bool) (first count : ℕ) (low : ℤ) (index : Typed) (from size : ℕ) → IsTrue (node_fits signals width signed (node.Word first count low index from size))
    → (first + count ≤ length signals) × IsTrue (typed_fits signals index)
word-parts signals width signed first count low index from size h =
    let f = and_parts (words_fit signals first count from size && (size == width)) (typed_fits signals index) (sym (fits_word signals signed width first count low index from size) ∙ h) in
    let g = (and_parts (words_fit signals first count from size) (size == width) f.0).0 in
    let a : Bool = nat_le 1 count in
    let b : Bool = nat_le (first + count) (length signals) in
    let k = and_parts (a && b) (slice_fits signals first from size) (and_parts (a && b && slice_fits signals first from size) _ g).0 in
    (leb-true (first + count) (length signals) (and_parts a b k.0).1, f.1)

pub unary-arg : (signals : List Signal) (width : ℕ) (signed : Bool) (op : UnaryOp) (arg : Typed) → IsTrue (node_fits signals width signed (node.Unary op arg)) → IsTrue (typed_fits signals arg)
unary-arg signals width signed op arg h = (and_parts (is_width width && unary_fits op width arg.width) (typed_fits signals arg) (sym (fits_unary signals signed width op arg) ∙ h)).1

pub binary-args : (signals : List Signal) (width : ℕ) (signed : Bool) (op : BinaryOp) (left right : Typed) → IsTrue (node_fits signals width signed (node.Binary op left right))
    → IsTrue (typed_fits signals left) × IsTrue (typed_fits signals right)
binary-args signals width signed op left right h =
    let x : Bool = is_width width && binary_fits op width left.width right.width && signs_fit op signed left.signed right.signed in
    let f = and_parts (x && typed_fits signals left) (typed_fits signals right) (sym (fits_binary signals signed width op left right) ∙ h) in
    ((and_parts x (typed_fits signals left) f.0).1, f.1)

pub choose-args : (signals : List Signal) (width : ℕ) (signed : Bool) (test one other : Typed) → IsTrue (node_fits signals width signed (node.Choose test one other))
    → IsTrue (typed_fits signals test) × IsTrue (typed_fits signals one) × IsTrue (typed_fits signals other)
choose-args signals width signed test one other h =
    let x : Bool = same_widths width one.width other.width in
    let f = and_parts (x && typed_fits signals test && typed_fits signals one) (typed_fits signals other) (sym (fits_choose signals signed width test one other) ∙ h) in
    let g = and_parts (x && typed_fits signals test) (typed_fits signals one) f.0 in
    ((and_parts x (typed_fits signals test) g.0).1, g.1, f.1)

pub repeat-part : (signals : List Signal) (width : ℕ) (signed : Bool) (times : ℕ) (part : Typed) → IsTrue (node_fits signals width signed (node.Repeat times part)) → IsTrue (typed_fits signals part)
repeat-part signals width signed times part h = (and_parts (is_width width && (times * part.width == width)) (typed_fits signals part) (sym (fits_repeat signals signed width times part) ∙ h)).1

pub resize-arg : (signals : List Signal) (width : ℕ) (signed : Bool) (arg : Typed) → IsTrue (node_fits signals width signed (node.Resize arg)) → IsTrue (typed_fits signals arg)
resize-arg signals width signed arg h = (and_parts (is_width width) (typed_fits signals arg) (sym (fits_resize signals signed width arg) ∙ h)).1

fits-list : {shape : _} (signals : List Signal) (row : Row_of-Typed shape) → parts_fit signals row ≡ list_all (typed_fits signals) (items-the_row-Typed shape row)
fits-list signals end_of-Typed = refl
fits-list signals (more_of-Typed width signed node rest) = ap (λ b. node_fits signals width signed node && b) (fits-list signals rest)

width-list : {shape : _} (row : Row_of-Typed shape) → joined_width row ≡ parts_sum (items-the_row-Typed shape row)
width-list end_of-Typed = refl
width-list (more_of-Typed width signed node rest) = ap (λ n. width + n) (width-list rest)

not_empty : (parts : List Typed) (width : ℕ) → parts_sum parts ≡ width → 1 ≤ width → 0 < length parts
not_empty [] width e h = absurd (omega (arith, e, h))
not_empty (part ∷ parts) width e h = omega arith

pub record JoinParts (signals : List Signal) (parts : List Typed) : Type 0 where
  pub fits : IsTrue (list_all (typed_fits signals) parts)
  pub some : 0 < length parts
  pub most : parts_sum parts ≤ 128

pub join-parts : (signals : List Signal) (width : ℕ) (signed : Bool) (parts : List Typed) → IsTrue (node_fits signals width signed (node.Join parts)) → JoinParts signals parts
join-parts signals width signed parts h =
    let row = hidden-the_row-Typed-1 parts in
    let items = items_hidden-the_row-Typed-1 parts in
    let f = and_parts (is_width width && (joined_width row == width)) (parts_fit signals row) h in
    let g = and_parts (is_width width) (joined_width row == width) f.0 in
    let sum : parts_sum parts ≡ width = sym (ap parts_sum items) ∙ sym (width-list row) ∙ eqb-true (joined_width row) width g.1 in
    let all : parts_fit signals row ≡ list_all (typed_fits signals) parts = fits-list signals row ∙ ap (list_all (typed_fits signals)) items in
    let bounds = width-bounds width g.0 in
    record { fits = sym all ∙ f.1; some = not_empty parts width sum bounds.0; most = omega (arith, sum, bounds.1) }
