-- The node of a word of an array stands for the word at the address, or for 0.
use Rattle.std.proofs.Common.{◌≡◌, ℕ, zero, suc, ◌+◌, ◌<◌, ◌≤◌, true, length, get_or, List, [], Option, Some, None, refl, sym, ◌∙◌, ap, ap₂, subst, arith}
use Rattle.std.specs.Prelude.{◌&&◌, nat_le, if◌then◌else◌, ℤ, pos, ◌+ℤ◌, ◌-ℤ◌}
use Rattle.std.specs.Ordering.{int_eq}
use Rattle.std.specs.Option.{option_map_or, option_and_then}
use Rattle.std.proofs.lemmas.Nat.{pow_pos}
use Rattle.std.proofs.lemmas.Bool.{and_parts}
use Rattle.design_core.specs.declared.signal.Signal.{Signal}
use Rattle.design_core.specs.Valuation.{Valuation, bit, number, width_at, place_within, word_at}
use Rattle.design_core.specs.Operator.{is_true, one_if, integer_of}
use Rattle.design_core.specs.Value.{word_value}
use Rattle.design_core.specs.Pick.{is_at}
use Rattle.design_core.specs.WellFormed.{is_width, is_signal, slice_fits, words_fit}
use Rattle.word_net.specs.declared.node.Operation.TheVariants as operation
use Rattle.word_net.specs.declared.node.WordNode.{WordNode}
use Rattle.word_net.specs.Values.{Source, values}
use Rattle.synth_parts.specs.declared.array_parts.ArrayPart.{ArrayPart}
use Rattle.word_net.specs.Build.{Made, pushed, Means, Gives}
use Rattle.word_net.proofs.Meaning.{keep, grown-then, grown-none, pushed-gives}
use Rattle.synth_parts.specs.Expression.{unsigned, signal_read, word_made, words_made, array_made}
use Rattle.synth_parts.specs.Meaning.{Shows}
use Rattle.synth_parts.proofs.Base.{number-bits, true-one_if, gives-then, gives-is, keep-shows}
use Rattle.synth_parts.proofs.Index.{is-place, place-some, words-at, word_below, none_below, all_below, next_below}

-- ---- words of arrays

-- the words are there, and have the bits that are read
pub record ArrayFits (signals : List Signal) (first from width count : ℕ) : Type 0 where
  pub wide : is_width width ≡ true
  pub there : (k : ℕ) → k < count → first + k < length signals
  pub bits : (k : ℕ) → k < count → from + width ≤ width_at signals (first + k)

pub array-fits : (signals : List Signal) (first count from width : ℕ) → words_fit signals first count from width ≡ true → ArrayFits signals first from width count
array-fits signals first count from width fits =
    let d = and_parts (is_signal signals first && is_width width) (nat_le (from + width) (width_at signals first)) (slices fits) in
    record {
      wide = (and_parts (is_signal signals first) (is_width width) d.0).1;
      there = λ k low. (words-at signals first count from width k fits low).0;
      bits = λ k low. (words-at signals first count from width k fits low).1;
    }
  where
    slices : words_fit signals first count from width ≡ true → slice_fits signals first from width ≡ true
    slices h = (and_parts (nat_le 1 count && nat_le (first + count) (length signals)) (slice_fits signals first from width) (and_parts (nat_le 1 count && nat_le (first + count) (length signals) && slice_fits signals first from width) _ h).0).1

words-law : {e : Source} {signals : List Signal} {nodes_of : List ℕ} {V : Valuation} (array : ArrayPart) (count : ℕ) (address : ℤ) (more : ℕ)
    {nodes : List WordNode} (so_far place iv : ℕ) → ArrayFits signals array.first array.from array.width count → Shows e signals nodes nodes_of V
    → Means e nodes array.index.node array.index.width iv → integer_of array.index.signed array.index.width iv ≡ address
    → Means e nodes so_far array.width (word_below (λ j. number array.width (λ b. V (array.first + j) (array.from + b))) (place_within count (address -ℤ array.low)) place)
    → place + more ≡ count
    → Gives e nodes (words_made signals nodes_of array nodes so_far place more) array.width
    (word_below (λ j. number array.width (λ b. V (array.first + j) (array.from + b))) (place_within count (address -ℤ array.low)) count)
unfolding words_made word_made
words-law {e} {signals} {nodes_of} {V} array count address zero {nodes} so_far place iv fits shows index at so all =
    let f : ℕ → ℕ = λ j. number array.width (λ b. V (array.first + j) (array.from + b)) in
    let end : place ≡ count = omega (arith, all) in
    record { grown = grown-none nodes; means = subst (λ k. Means e nodes so_far array.width (word_below f (place_within count (address -ℤ array.low)) k)) end so }
words-law {e} {signals} {nodes_of} {V} array count address (suc more) {nodes} so_far place iv fits shows index at so all =
    let f : ℕ → ℕ = λ j. number array.width (λ b. V (array.first + j) (array.from + b)) in
    let p : Option ℕ = place_within count (address -ℤ array.low) in
    let s : ℕ = array.first + place in
    let low : place < count = omega (arith, all) in
    let is = pushed-gives e nodes 1 (operation.Is array.index (array.low +ℤ pos place)) (one_if (is_at place p)) refl (index.there, refl)
    (ap (λ v. one_if (int_eq (integer_of array.index.signed array.index.width v) (array.low +ℤ pos place))) index.is
    ∙ ap (λ a. one_if (int_eq a (array.low +ℤ pos place))) at ∙ ap one_if (is-place count place address array.low low)) in
    let m1 : Made = pushed nodes 1 (operation.Is array.index (array.low +ℤ pos place)) in
    let word = keep is.grown (shows.are s (fits.there place low)) in
    let bits = pushed-gives e m1.nodes array.width (operation.Slice (signal_read signals nodes_of s) array.from) (f place) fits.wide (word.there, fits.bits place low)
    (ap (λ v. number array.width (λ b. bit v (array.from + b))) word.is ∙ number-bits (width_at signals s) array.width array.from (V s) (fits.bits place low)) in
    let m2 : Made = pushed m1.nodes array.width (operation.Slice (signal_read signals nodes_of s) array.from) in
    let test = keep bits.grown is.means in
    let old = keep bits.grown (keep is.grown so) in
    let chosen = pushed-gives e m2.nodes array.width (operation.Choose (unsigned m1.node 1) (unsigned m2.node array.width) (unsigned so_far array.width)) (word_below f p (place + 1)) fits.wide
    (record { there = test.there; wide = refl }, record { there = bits.means.there; wide = refl }, record { there = old.there; wide = refl })
    (ap (λ t. if is_true t then get_or (values e [] m2.nodes) m2.node 0 else get_or (values e [] m2.nodes) so_far 0) test.is
    ∙ ap (λ t. if t then get_or (values e [] m2.nodes) m2.node 0 else get_or (values e [] m2.nodes) so_far 0) (true-one_if (is_at place p))
    ∙ ap₂ (λ x y. if is_at place p then x else y) bits.means.is old.is
    ∙ next_below f p place) in
    let grown = grown-then is.grown (grown-then bits.grown chosen.grown) in
    gives-then grown
    (words-law array count address more (pushed m2.nodes array.width (operation.Choose (unsigned m1.node 1) (unsigned m2.node array.width) (unsigned so_far array.width))).node (place + 1) iv
    fits (keep-shows grown shows) (keep grown index) at chosen.means (omega (arith, all)))

-- a word of an array, or 0
pub array-law : {e : Source} {signals : List Signal} {nodes_of : List ℕ} {V : Valuation} (array : ArrayPart) (count : ℕ) {nodes : List WordNode} (iv : ℕ)
    → ArrayFits signals array.first array.from array.width count → Shows e signals nodes nodes_of V → Means e nodes array.index.node array.index.width iv
    → Gives e nodes (array_made signals nodes_of array nodes count) array.width
    (word_value V array.from array.width (word_at array.first count array.low (integer_of array.index.signed array.index.width iv)))
unfolding array_made
array-law {e} {signals} {nodes_of} {V} array count {nodes} iv fits shows index =
    let address : ℤ = integer_of array.index.signed array.index.width iv in
    let f : ℕ → ℕ = λ j. number array.width (λ b. V (array.first + j) (array.from + b)) in
    let p : Option ℕ = place_within count (address -ℤ array.low) in
    let none = pushed-gives e nodes array.width (operation.Const 0) (word_below f p 0) fits.wide (pow_pos array.width) (sym (none_below f p)) in
    gives-then none.grown
    (gives-is (all_below f p count (λ j here. (place-some count (address -ℤ array.low) j here).1) ∙ value p)
    (words-law array count address count (pushed nodes array.width (operation.Const 0)).node 0 iv fits (keep-shows none.grown shows) (keep none.grown index) refl none.means (omega arith)))
  where
    value : (o : Option ℕ) → option_map_or (λ j. number array.width (λ b. V (array.first + j) (array.from + b))) o 0
        ≡ word_value V array.from array.width (option_and_then (λ k. Some (array.first + k)) o)
    value None = refl
    value (Some j) = refl
