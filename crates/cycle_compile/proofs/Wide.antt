-- What is known of each expression that fits.
use Rattle.std.proofs.Common.{◌≡◌, ℕ, ◌+◌, ◌*◌, ◌<◌, ◌^◌, List, length, take, drop, sym, refl, ◌∙◌, subst, ap}
use Rattle.std.specs.Prelude.{Bool, true, false, ◌&&◌, ◌==◌, nat_le, IsTrue}
use Rattle.std.specs.List.{list_all}
use Rattle.std.proofs.lemmas.Bool.{and_parts, eqb-true}
use Rattle.loc_base.specs.declared.bits.Bits.{Bits}
use Rattle.loc_base.specs.Bits.{width_of}
use Rattle.design_core.specs.declared.signal.Signal.{Signal}
use Rattle.design_core.specs.declared.design.Design.{Design}
use Rattle.design_core.specs.declared.expression.Typed.{Typed}
use Rattle.design_core.specs.declared.expression.Node.{Node, end_of-Typed, more_of-Typed}
use Rattle.design_core.specs.declared.expression.Node.TheVariants.{Const, Whole, Slice, Pick', Word', Unary', Binary', Choose', Join', Repeat', Resize'}
use Rattle.design_core.specs.Valuation.{Valuation, width_at}
use Rattle.design_core.specs.WellFormed.{is_width, is_signal, slice_fits, words_fit, unary_fits, binary_fits, same_widths, signs_fit, joined_width, node_fits, parts_fit, typed_fits}
use Rattle.design_core.proofs.ValueRange.{value-in_range}
use Rattle.cycle_code.specs.Program.{Program, signals_of, count_of, Grown}
use Rattle.cycle_code.specs.Cells.{below}
use Rattle.cycle_compile.specs.Compiling.{is_leaf, value_in}

-- an expression that fits has 1 to 128 bits
pub node-wide : (signals : List Signal) (width : ℕ) (signed : Bool) (n : Node) → node_fits signals width signed n ≡ true
    → is_width width ≡ true
node-wide signals width sign (Const word) fits = (and_parts (is_width width) (width_of word == width) fits).0
node-wide signals width sign (Whole s) fits =
    (and_parts (is_width width) (is_signal signals s)
    (and_parts (is_width width && is_signal signals s) (width_at signals s == width) fits).0).0
node-wide signals width sign (Slice s from size) fits =
    let f = and_parts (slice_fits signals s from size) (size == width) fits in
    subst (λ w. is_width w ≡ true) (eqb-true size width f.1)
    (and_parts (is_signal signals s) (is_width size)
    (and_parts (is_signal signals s && is_width size) (nat_le (from + size) (width_at signals s)) f.0).0).1
node-wide signals width sign (Pick' s _ (more_of-Typed index_width signed index end_of-Typed) offsets) fits =
    let f = and_parts (is_width width && is_signal signals s && (length offsets == width))
    (node_fits signals index_width signed index) fits in
    let g = and_parts (is_width width && is_signal signals s) (length offsets == width) f.0 in
    (and_parts (is_width width) (is_signal signals s) g.0).0
node-wide signals width sign (Word' first count low _ (more_of-Typed index_width signed index end_of-Typed) from size) fits =
    let f = and_parts (words_fit signals first count from size && (size == width)) (node_fits signals index_width signed index) fits in
    let g = and_parts (words_fit signals first count from size) (size == width) f.0 in
    let a : Bool = nat_le 1 count && nat_le (first + count) (length signals) in
    let h = (and_parts a (slice_fits signals first from size)
    (and_parts (a && slice_fits signals first from size)
    (list_all (λ (s : Signal). s.width == width_at signals first) (take count (drop first signals))) g.0).0).1 in
    subst (λ w. is_width w ≡ true) (eqb-true size width g.1)
    (and_parts (is_signal signals first) (is_width size)
    (and_parts (is_signal signals first && is_width size) (nat_le (from + size) (width_at signals first)) h).0).1
node-wide signals width sign (Unary' op _ (more_of-Typed arg_width signed arg end_of-Typed)) fits =
    (and_parts (is_width width) (unary_fits op width arg_width)
    (and_parts (is_width width && unary_fits op width arg_width) (node_fits signals arg_width signed arg) fits).0).0
node-wide signals width sign (Binary' op _ (more_of-Typed left_width left_signed left end_of-Typed) _
    (more_of-Typed right_width right_signed right end_of-Typed)) fits =
    let a : Bool = is_width width && binary_fits op width left_width right_width in
    let b : Bool = signs_fit op sign left_signed right_signed in
    let c : Bool = node_fits signals left_width left_signed left in
    (and_parts (is_width width) (binary_fits op width left_width right_width)
    (and_parts a b (and_parts (a && b) c (and_parts (a && b && c) (node_fits signals right_width right_signed right) fits).0).0).0).0
node-wide signals width sign (Choose' _ (more_of-Typed cond_width cond_signed test end_of-Typed) _
    (more_of-Typed true_width true_signed on_true end_of-Typed) _ (more_of-Typed false_width false_signed on_false end_of-Typed)) fits =
    let a : Bool = same_widths width true_width false_width in
    let b : Bool = node_fits signals cond_width cond_signed test in
    let c : Bool = node_fits signals true_width true_signed on_true in
    let f = and_parts (a && b && c) (node_fits signals false_width false_signed on_false) fits in
    let g = and_parts (a && b) c f.0 in
    let same = (and_parts (width == true_width) (width == false_width) (and_parts a b g.0).0).0 in
    subst (λ w. is_width w ≡ true) (sym (eqb-true width true_width same)) (node-wide signals true_width true_signed on_true g.1)
node-wide signals width sign (Join' _ parts) fits =
    (and_parts (is_width width) (joined_width parts == width)
    (and_parts (is_width width && (joined_width parts == width)) (parts_fit signals parts) fits).0).0
node-wide signals width sign (Repeat' times _ (more_of-Typed part_width signed part end_of-Typed)) fits =
    (and_parts (is_width width) (times * part_width == width)
    (and_parts (is_width width && (times * part_width == width)) (node_fits signals part_width signed part) fits).0).0
node-wide signals width sign (Resize' _ (more_of-Typed arg_width signed arg end_of-Typed)) fits =
    (and_parts (is_width width) (node_fits signals arg_width signed arg) fits).0

-- neither a constant nor a whole signal
pub inner-node : (n : Node) → ((word : Bits) → n ≡ Const word → ⊥) → ((s : ℕ) → n ≡ Whole s → ⊥) → is_leaf n ≡ false
inner-node (Const word) one other = absurd (one word refl)
inner-node (Whole s) one other = absurd (other s refl)
inner-node (Slice s from size) one other = refl
inner-node (Pick' s _ index offsets) one other = refl
inner-node (Word' first count low _ index from size) one other = refl
inner-node (Unary' op _ arg) one other = refl
inner-node (Binary' op _ left _ right) one other = refl
inner-node (Choose' _ test _ on_true _ on_false) one other = refl
inner-node (Join' _ parts) one other = refl
inner-node (Repeat' times _ part) one other = refl
inner-node (Resize' _ arg) one other = refl

-- it fits in each program that has all that this one has
pub fits-grown_program : (p q : Program) (e : Typed) → Grown p q → IsTrue (typed_fits (signals_of p) e)
    → IsTrue (typed_fits (signals_of q) e)
fits-grown_program p q e grown fits = ap (λ (d : Design). typed_fits d.signals.items e) grown.design ∙ fits

-- and its value has no more bits than it says
pub value_in-small : (p : Program) (V : Valuation) (e : Typed) → IsTrue (typed_fits (signals_of p) e) → value_in p V e < 2 ^ e.width
value_in-small p V e fits = value-in_range (signals_of p) (below (count_of p) V) e fits
