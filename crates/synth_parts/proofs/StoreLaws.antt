-- What is stored into a map is what is stored into the valuation that it shows.
use Rattle.std.proofs.Common.{◌≡◌, ℕ, zero, suc, ◌+◌, ◌-◌, ◌<◌, ◌≤◌, ◌≢◌, Bool, true, false, List, [], ◌∷◌, ◌++◌, length, get_or, set, Option, Some, None, refl, sym, ◌∙◌, ap, ap₂, subst, arith, append_assoc, append-nil, ◌⊎◌, inl, inr}
use Rattle.std.specs.Prelude.{◌&&◌, nat_le, if◌then◌else◌, ℤ, pos, ◌+ℤ◌, ◌-ℤ◌}
use Rattle.std.specs.Ordering.{int_eq}
use Rattle.std.specs.List.{list_all}
use Rattle.std.proofs.lemmas.List.{get_or-set_same, get_or-set_other, length-set}
use Rattle.std.proofs.lemmas.Bool.{and_parts, ltb-true, lt-ltb, leb-true, le-leb, cases_order}
use Rattle.design_core.specs.declared.signal.Signal.{Signal}
use Rattle.design_core.specs.declared.statement.Part.{Part}
use Rattle.design_core.specs.declared.statement.Part.TheVariants as part
use Rattle.design_core.specs.Valuation.{Valuation, bit, number, width_at, place_within}
use Rattle.design_core.specs.Operator.{is_true, one_if, integer_of}
use Rattle.design_core.specs.Value.{value, index_value}
use Rattle.design_core.specs.Pick.{is_at}
use Rattle.design_core.specs.Store.{part_width, parts_width, with_bits, with_word, with_picked, store_part, store}
use Rattle.design_core.specs.WellFormed.{is_width, is_signal, signal_fits, words_fit, typed_fits, part_fits}
use Rattle.design_core.proofs.NumberLaws.{number-same}
use Rattle.word_net.specs.declared.node.Operand.{Operand}
use Rattle.word_net.specs.declared.node.Operation.TheVariants as operation
use Rattle.word_net.specs.declared.node.WordNode.{WordNode}
use Rattle.word_net.specs.Selects.{put_bits, put_picked}
use Rattle.word_net.specs.Values.{Source, values}
use Rattle.synth_parts.specs.declared.array_parts.ArrayPart.{ArrayPart}
use Rattle.synth_parts.specs.declared.store.Stored.{Stored}
use Rattle.word_net.specs.Build.{Made, pushed, Means, Grown}
use Rattle.word_net.proofs.Meaning.{keep, grown-then, grown-none, pushed-gives}
use Rattle.synth_parts.specs.Expression.{operand, unsigned, signal_read, select_of}
use Rattle.synth_parts.specs.Store.{Nodes, index_made, indexes_made, word_stored, words_stored, signal_set, part_stored, parts_stored}
use Rattle.synth_parts.specs.Meaning.{Shows, ShowsIn, word_of}
use Rattle.synth_parts.proofs.Base.{signal-at, bit-number, true-one_if, keep-shows}
use Rattle.synth_parts.proofs.Index.{is-place, place-some, range_at}
use Rattle.synth_parts.proofs.Arrays.{ArrayFits, array-fits}
use Rattle.synth_parts.proofs.Bits.{bits-here, bits-other, put-same, picked-here, picked-other, put_picked-same, word_before, no_word_before, all_words_before, next_word}
use Rattle.synth_parts.proofs.Expression.{expression-law}

-- ---- one signal of a map

-- a map with one signal's node replaced shows a valuation with that signal's bits replaced
pub set-shows : {e : Source} {signals : List Signal} {nodes after : List WordNode} {nodes_of : List ℕ} {M : Valuation} (N : Valuation) (s : ℕ) {node : ℕ}
    → Shows e signals nodes nodes_of M → Grown nodes after → s < length signals → Means e after node (width_at signals s) (word_of signals N s)
    → ((t b : ℕ) → t ≢ s → N t b ≡ M t b) → Shows e signals after (set nodes_of s node) N
set-shows {e} {signals} {nodes} {after} {nodes_of} {M} N s {node} shows grown there means others = record {
  each = length-set nodes_of s node ∙ shows.each;
  are = λ t within. at t within (cases_order t s);
}
  where
    at : (t : ℕ) → t < length signals → (t ≡ s) ⊎ ((t < s) ⊎ (s < t)) → Means e after (get_or (set nodes_of s node) t 0) (width_at signals t) (word_of signals N t)
    at t within (inl same) =
        let here : get_or (set nodes_of s node) s 0 ≡ node = get_or-set_same nodes_of s node 0 (omega (arith, there, shows.each)) in
        subst (λ u. Means e after (get_or (set nodes_of s node) u 0) (width_at signals u) (word_of signals N u)) (sym same)
        (subst (λ n. Means e after n (width_at signals s) (word_of signals N s)) (sym here) means)
    at t within (inr order) = other t within (order_apart t order)
      where
        order_apart : (t : ℕ) → ((t < s) ⊎ (s < t)) → t ≢ s
        order_apart t (inl low) same = absurd (omega (arith, low, same))
        order_apart t (inr high) same = absurd (omega (arith, high, same))

        other : (t : ℕ) → t < length signals → t ≢ s → Means e after (get_or (set nodes_of s node) t 0) (width_at signals t) (word_of signals N t)
        other t within apart =
            subst (λ n. Means e after n (width_at signals t) (word_of signals N t)) (sym (get_or-set_other nodes_of s t node 0 apart))
            (subst (λ v. Means e after (get_or nodes_of t 0) (width_at signals t) v) (number-same (width_at signals t) (M t) (N t) (λ b low. sym (others t b apart))) (keep grown (shows.are t within)))

-- ---- words of arrays

words_stored-law : {e : Source} {signals : List Signal} (M : Valuation) (array : ArrayPart) (stored : Stored) (count : ℕ) (address : ℤ) (more : ℕ)
    {nodes : List WordNode} {nodes_of : List ℕ} (place iv v : ℕ) → list_all signal_fits signals ≡ true → ArrayFits signals array.first array.from array.width count
    → Means e nodes array.index.node array.index.width iv → integer_of array.index.signed array.index.width iv ≡ address
    → Means e nodes stored.word.node stored.word.width v → stored.offset + array.width ≤ stored.word.width
    → Shows e signals nodes nodes_of (with_word M (word_before array.first (place_within count (address -ℤ array.low)) place) array.from array.width (λ b. bit v (stored.offset + b)))
    → place + more ≡ count
    → ShowsIn e signals nodes (words_stored signals array stored nodes nodes_of place more)
    (with_word M (word_before array.first (place_within count (address -ℤ array.low)) count) array.from array.width (λ b. bit v (stored.offset + b)))
unfolding words_stored word_stored signal_set
words_stored-law {e} {signals} M array stored count address zero {nodes} {nodes_of} place iv v own fits index at word room shows all =
    let end : place ≡ count = omega (arith, all) in
    record {
      grown = grown-none nodes;
      shows = subst (λ k. Shows e signals nodes nodes_of (with_word M (word_before array.first (place_within count (address -ℤ array.low)) k) array.from array.width (λ b. bit v (stored.offset + b)))) end shows;
    }
words_stored-law {e} {signals} M array stored count address (suc more) {nodes} {nodes_of} place iv v own fits index at word room shows all =
    let p : Option ℕ = place_within count (address -ℤ array.low) in
    let bits : ℕ → Bool = λ b. bit v (stored.offset + b) in
    let W : ℕ → Valuation = λ k. with_word M (word_before array.first p k) array.from array.width bits in
    let s : ℕ = array.first + place in
    let width : ℕ = width_at signals s in
    let low : place < count = omega (arith, all) in
    let there : s < length signals = fits.there place low in
    let wide : is_width width ≡ true = (signal-at signals s own (lt-ltb s (length signals) there)).0 in
    let is = pushed-gives e nodes 1 (operation.Is array.index (array.low +ℤ pos place)) (one_if (is_at place p)) refl (index.there, refl)
    (ap (λ n. one_if (int_eq (integer_of array.index.signed array.index.width n) (array.low +ℤ pos place))) index.is
    ∙ ap (λ a. one_if (int_eq a (array.low +ℤ pos place))) at ∙ ap one_if (is-place count place address array.low low)) in
    let m1 : Made = pushed nodes 1 (operation.Is array.index (array.low +ℤ pos place)) in
    let old = keep is.grown (shows.are s there) in
    let given = keep is.grown word in
    let put_op = operation.Put (signal_read signals nodes_of s) array.from array.width stored.word stored.offset in
    let pv : ℕ = number width (put_bits (bit (word_of signals (W place) s)) array.from array.width bits) in
    let put = pushed-gives e m1.nodes width put_op pv wide (record { there = old.there; wide = refl }, given.there, fits.bits place low, room)
    (ap₂ (λ o n. number width (put_bits (bit o) array.from array.width (λ b. bit n (stored.offset + b)))) old.is given.is) in
    let m2 : Made = pushed m1.nodes width put_op in
    let test = keep put.grown is.means in
    let old2 = keep put.grown old in
    let choose_op = operation.Choose (unsigned m1.node 1) (unsigned m2.node width) (signal_read signals nodes_of s) in
    let chosen = pushed-gives e m2.nodes width choose_op (if is_at place p then pv else word_of signals (W place) s) wide
    (record { there = test.there; wide = refl }, record { there = put.means.there; wide = refl }, record { there = old2.there; wide = refl })
    (ap (λ t. if is_true t then get_or (values e [] m2.nodes) m2.node 0 else get_or (values e [] m2.nodes) (get_or nodes_of s 0) 0) test.is
    ∙ ap (λ t. if t then get_or (values e [] m2.nodes) m2.node 0 else get_or (values e [] m2.nodes) (get_or nodes_of s 0) 0) (true-one_if (is_at place p))
    ∙ ap₂ (λ x y. if is_at place p then x else y) put.means.is old2.is) in
    let m3 : Made = pushed m2.nodes width choose_op in
    let grown = grown-then is.grown (grown-then put.grown chosen.grown) in
    let next = changed (next_word array.first p place) in
    let now = set-shows (W (place + 1)) s shows grown there (subst (λ n. Means e m3.nodes m3.node width n) next.0 chosen.means) next.1 in
    let rest = words_stored-law M array stored count address more (place + 1) iv v own fits (keep grown index) at (keep grown word) room now (omega (arith, all)) in
    record { grown = grown-then grown rest.grown; shows = rest.shows }
  where
    bits : ℕ → Bool
    bits b = bit v (stored.offset + b)

    p : Option ℕ
    p = place_within count (address -ℤ array.low)

    W : ℕ → Valuation
    W k = with_word M (word_before array.first p k) array.from array.width bits

    s : ℕ
    s = array.first + place

    pv : ℕ
    pv = number (width_at signals s) (put_bits (bit (word_of signals (W place) s)) array.from array.width bits)

    changed : ((is_at place p ≡ true) × (word_before array.first p place ≡ None) × (word_before array.first p (place + 1) ≡ Some s))
        ⊎ ((is_at place p ≡ false) × (word_before array.first p (place + 1) ≡ word_before array.first p place))
        → ((if is_at place p then pv else word_of signals (W place) s) ≡ word_of signals (W (place + 1)) s)
        × ((t b : ℕ) → t ≢ s → W (place + 1) t b ≡ W place t b)
    changed (inl (yes_at, none, some)) = (
      rw yes_at
          (number-same (width_at signals s) (put_bits (bit (word_of signals (W place) s)) array.from array.width bits) (W (place + 1) s)
          (λ b low. put-same (bit (word_of signals (W place) s)) (M s) array.from array.width bits b
          (bit-number (width_at signals s) (W place s) b low ∙ ap (λ o. with_word M o array.from array.width bits s b) none)
          ∙ sym (bits-here M s array.from array.width bits b) ∙ ap (λ o. with_word M o array.from array.width bits s b) (sym some))),
      λ t b apart. ap (λ o. with_word M o array.from array.width bits t b) some ∙ bits-other M s array.from array.width bits t b apart ∙ ap (λ o. with_word M o array.from array.width bits t b) (sym none),
    )
    changed (inr (no_at, same)) = (
      rw no_at (ap (λ o. number (width_at signals s) (with_word M o array.from array.width bits s)) (sym same)),
      λ t b apart. ap (λ o. with_word M o array.from array.width bits t b) same,
    )

-- ---- the parts of a left side

-- the node of a part's index stands for the index, where it has a variable one
abbrev pub IndexMeans : Source → List Signal → List WordNode → Valuation → Part → ℕ → Type 0
IndexMeans e signals nodes E (part.Whole _) n = Unit {0}
IndexMeans e signals nodes E (part.Slice _ _ _) n = Unit {0}
IndexMeans e signals nodes E (part.Pick _ index _) n = Means e nodes n index.width (value signals E index)
IndexMeans e signals nodes E (part.Word _ _ _ index _ _) n = Means e nodes n index.width (value signals E index)

keep-index : (e : Source) (signals : List Signal) {before after : List WordNode} (E : Valuation) (p : Part) (n : ℕ) → Grown before after
    → IndexMeans e signals before E p n → IndexMeans e signals after E p n
keep-index e signals E (part.Whole _) n grown m = tt
keep-index e signals E (part.Slice _ _ _) n grown m = tt
keep-index e signals E (part.Pick _ _ _) n grown m = keep grown m
keep-index e signals E (part.Word _ _ _ _ _ _) n grown m = keep grown m

-- each part has the node of its index
pub data AreIndexes (e : Source) (signals : List Signal) (nodes : List WordNode) (E : Valuation) : List Part → List ℕ → Type 0 where
  none : AreIndexes e signals nodes E [] []
  more : {p : Part} {n : ℕ} {ps : List Part} {ns : List ℕ} → IndexMeans e signals nodes E p n → AreIndexes e signals nodes E ps ns → AreIndexes e signals nodes E (p ∷ ps) (n ∷ ns)

keep-indexes : {e : Source} {signals : List Signal} {before after : List WordNode} {E : Valuation} {ps : List Part} {ns : List ℕ} → Grown before after
    → AreIndexes e signals before E ps ns → AreIndexes e signals after E ps ns
keep-indexes grown none = none
keep-indexes {e} {signals} {before} {after} {E} grown (more {p = p} {n = n} m ms) = more (keep-index e signals E p n grown m) (keep-indexes grown ms)

-- the nodes grow, and each part has its index behind those that were there
pub record IndexesIn (e : Source) (signals : List Signal) (nodes : List WordNode) (E : Valuation) (before : List ℕ) (parts : List Part) (m : Nodes) : Type 0 where
  pub grown : Grown nodes m.nodes
  pub added : List ℕ
  pub is : m.each ≡ before ++ added
  pub are : AreIndexes e signals m.nodes E parts added

record IndexIn (e : Source) (signals : List Signal) (nodes : List WordNode) (E : Valuation) (p : Part) (m : Made) : Type 0 where
  grown : Grown nodes m.nodes
  means : IndexMeans e signals m.nodes E p m.node

index-law : {e : Source} {signals : List Signal} {nodes : List WordNode} {nodes_of : List ℕ} {E : Valuation} (p : Part) → list_all signal_fits signals ≡ true
    → part_fits signals p ≡ true → Shows e signals nodes nodes_of E → IndexIn e signals nodes E p (index_made signals nodes_of nodes p)
unfolding index_made
index-law {e} {signals} {nodes} (part.Whole _) own fits shows = record { grown = grown-none nodes; means = tt }
index-law {e} {signals} {nodes} (part.Slice _ _ _) own fits shows = record { grown = grown-none nodes; means = tt }
index-law {e} {signals} {nodes} (part.Pick s index offsets) own fits shows =
    let g = expression-law index.width index.signed index.node own (and_parts (is_signal signals s && is_width (length offsets)) (typed_fits signals index) fits).1 shows in
    record { grown = g.grown; means = g.means }
index-law {e} {signals} {nodes} (part.Word first count low index from width) own fits shows =
    let g = expression-law index.width index.signed index.node own (and_parts (words_fit signals first count from width) (typed_fits signals index) fits).1 shows in
    record { grown = g.grown; means = g.means }

pub indexes-law : {e : Source} {signals : List Signal} {nodes_of : List ℕ} {E : Valuation} (parts : List Part) {nodes : List WordNode} (before : List ℕ) → list_all signal_fits signals ≡ true
    → list_all (part_fits signals) parts ≡ true → Shows e signals nodes nodes_of E → IndexesIn e signals nodes E before parts (indexes_made signals nodes_of nodes before parts)
unfolding indexes_made
indexes-law {e} {signals} [] {nodes} before own fits shows = record { grown = grown-none nodes; added = []; is = sym (append-nil before); are = none }
indexes-law {e} {signals} {nodes_of} {E} (p ∷ parts) {nodes} before own fits shows =
    let f = and_parts (part_fits signals p) (list_all (part_fits signals) parts) fits in
    let i = index-law p own f.0 shows in
    let m : Made = index_made signals nodes_of nodes p in
    let rest = indexes-law parts (before ++ m.node ∷ []) own f.1 (keep-shows i.grown shows) in
    record {
      grown = grown-then i.grown rest.grown;
      added = m.node ∷ rest.added;
      is = rest.is ∙ append_assoc before (m.node ∷ []) rest.added;
      are = more (keep-index e signals E p m.node rest.grown i.means) rest.are;
    }

-- what a part stores
pub part-law : {e : Source} {signals : List Signal} {nodes : List WordNode} {nodes_of : List ℕ} (E : Valuation) {M : Valuation} (p : Part) (index v : ℕ) (stored : Stored) → list_all signal_fits signals ≡ true
    → part_fits signals p ≡ true → IndexMeans e signals nodes E p index → Means e nodes stored.word.node stored.word.width v
    → stored.offset + part_width signals p ≤ stored.word.width → Shows e signals nodes nodes_of M
    → ShowsIn e signals nodes (part_stored signals nodes nodes_of p index stored) (store_part signals E M p (λ b. bit v (stored.offset + b)))
unfolding part_stored signal_set
part-law {e} {signals} {nodes} {nodes_of} E {M} (part.Whole s) index v stored own fits i word room shows =
    let bits : ℕ → Bool = λ b. bit v (stored.offset + b) in
    let w : ℕ = width_at signals s in
    let there : s < length signals = ltb-true s (length signals) fits in
    let N : Valuation = with_bits M s 0 w bits in
    let m = pushed-gives e nodes w (operation.Slice stored.word stored.offset) (word_of signals N s) (signal-at signals s own fits).0 (word.there, room)
    (ap (λ n. number w (λ b. bit n (stored.offset + b))) word.is
    ∙ number-same w bits (N s) (λ b low. sym (bits-here M s 0 w bits b ∙ inside (M s) bits w b low))) in
    record { grown = m.grown; shows = set-shows N s shows m.grown there m.means (λ t b apart. bits-other M s 0 w bits t b apart) }
  where
    inside : (old bits : ℕ → Bool) (w b : ℕ) → b < w → put_bits old 0 w bits b ≡ bits b
    inside old bits w b low = let end : b < 0 + w = omega (arith, low) in let here : b - 0 ≡ b = omega arith in rw (le-leb 0 b (omega arith), lt-ltb b (0 + w) end) (ap bits here)
part-law {e} {signals} {nodes} {nodes_of} E {M} (part.Slice s from size) index v stored own fits i word room shows =
    let bits : ℕ → Bool = λ b. bit v (stored.offset + b) in
    let w : ℕ = width_at signals s in
    let f = and_parts (is_signal signals s && is_width size) (nat_le (from + size) w) fits in
    let here = (and_parts (is_signal signals s) (is_width size) f.0).0 in
    let there : s < length signals = ltb-true s (length signals) here in
    let N : Valuation = with_bits M s from size bits in
    let old = shows.are s there in
    let m = pushed-gives e nodes w (operation.Put (signal_read signals nodes_of s) from size stored.word stored.offset) (word_of signals N s) (signal-at signals s own here).0
    (record { there = old.there; wide = refl }, word.there, leb-true (from + size) w f.1, room)
    (ap₂ (λ o n. number w (put_bits (bit o) from size (λ b. bit n (stored.offset + b)))) old.is word.is
    ∙ number-same w (put_bits (bit (word_of signals M s)) from size bits) (N s)
    (λ b low. put-same (bit (word_of signals M s)) (M s) from size bits b (bit-number w (M s) b low) ∙ sym (bits-here M s from size bits b))) in
    record { grown = m.grown; shows = set-shows N s shows m.grown there m.means (λ t b apart. bits-other M s from size bits t b apart) }
part-law {e} {signals} {nodes} {nodes_of} E {M} (part.Pick s at offsets) index v stored own fits i word room shows =
    let bits : ℕ → Bool = λ b. bit v (stored.offset + b) in
    let w : ℕ = width_at signals s in
    let f = and_parts (is_signal signals s && is_width (length offsets)) (typed_fits signals at) fits in
    let here = (and_parts (is_signal signals s) (is_width (length offsets)) f.0).0 in
    let there : s < length signals = ltb-true s (length signals) here in
    let N : Valuation = with_picked signals M s (index_value signals E at) 0 offsets bits in
    let old = shows.are s there in
    let own_range = signal-at signals s own here in
    let m = pushed-gives e nodes w (operation.PutPick (signal_read signals nodes_of s) (select_of signals s (operand index at.width at.signed) offsets) stored.word stored.offset) (word_of signals N s) own_range.0
    (record { there = old.there; wide = refl }, word.there, record { index = i.there; range = own_range.1 }, room)
    (ap (λ n. number w (put_picked (range_at signals s) (bit (get_or (values e [] nodes) (get_or nodes_of s 0) 0)) (integer_of at.signed at.width n) 0 offsets (λ b. bit (get_or (values e [] nodes) stored.word.node 0) (stored.offset + b)))) i.is
    ∙ ap₂ (λ o n. number w (put_picked (range_at signals s) (bit o) (index_value signals E at) 0 offsets (λ b. bit n (stored.offset + b)))) old.is word.is
    ∙ number-same w (put_picked (range_at signals s) (bit (word_of signals M s)) (index_value signals E at) 0 offsets bits) (N s)
    (λ b low. put_picked-same (range_at signals s) (bit (word_of signals M s)) (M s) (index_value signals E at) 0 offsets bits b (bit-number w (M s) b low)
    ∙ sym (picked-here signals M s (index_value signals E at) 0 offsets bits b here))) in
    record { grown = m.grown; shows = set-shows N s shows m.grown there m.means (λ t b apart. picked-other signals M s (index_value signals E at) 0 offsets bits t b apart) }
part-law {e} {signals} {nodes} {nodes_of} E {M} (part.Word first count low at from width) index v stored own fits i word room shows =
    let bits : ℕ → Bool = λ b. bit v (stored.offset + b) in
    let f = and_parts (words_fit signals first count from width) (typed_fits signals at) fits in
    let address : ℤ = index_value signals E at in
    let p : Option ℕ = place_within count (address -ℤ low) in
    let array : ArrayPart = record { first = first; low = low; index = operand index at.width at.signed; from = from; width = width } in
    let all = words_stored-law M array stored count address count 0 (value signals E at) v own (array-fits signals first count from width f.0) i refl word room
    (subst (λ o. Shows e signals nodes nodes_of (with_word M o from width bits)) (sym (no_word_before first p)) shows) (omega arith) in
    record {
      grown = all.grown;
      shows = subst (λ o. Shows e signals (words_stored signals array stored nodes nodes_of 0 count).nodes (words_stored signals array stored nodes nodes_of 0 count).each (with_word M o from width bits))
          (all_words_before first p count (λ j here. (place-some count (address -ℤ low) j here).1)) all.shows;
    }

-- what a left side stores, its parts from the left
pub store-law : {e : Source} {signals : List Signal} {E : Valuation} (parts : List Part) (indexes : List ℕ) {nodes : List WordNode} {nodes_of : List ℕ} {M : Valuation} (v : ℕ) (word : Operand) → list_all signal_fits signals ≡ true
    → list_all (part_fits signals) parts ≡ true → AreIndexes e signals nodes E parts indexes → Means e nodes word.node word.width v
    → parts_width signals parts ≤ word.width → Shows e signals nodes nodes_of M
    → ShowsIn e signals nodes (parts_stored signals nodes nodes_of parts indexes word) (store signals E M parts (bit v))
unfolding parts_stored
store-law {e} {signals} [] indexes {nodes} v word own fits is m room shows = record { grown = grown-none nodes; shows = shows }
store-law (p ∷ parts) [] v word own fits is m room shows = elim is [ ]
store-law {e} {signals} {E} (p ∷ parts) (index ∷ indexes) {nodes} {nodes_of} {M} v word own fits (more i is) m room shows =
    let f = and_parts (part_fits signals p) (list_all (part_fits signals) parts) fits in
    let stored : Stored = record { word = word; offset = parts_width signals parts } in
    let one = part-law E p index v stored own f.0 i m (omega (arith, room)) shows in
    let rest = store-law parts indexes v word own f.1 (keep-indexes one.grown is) (keep one.grown m) (omega (arith, room)) one.shows in
    record { grown = grown-then one.grown rest.grown; shows = rest.shows }
