-- Constants and the values that bits decide, over the parts of expressions; tables of numbers that are marked.
use Rattle.std.proofs.Common.{ℕ, zero, suc, ◌≡◌, ◌<◌, ◌≤◌, ◌+◌, ◌*◌, ◌^◌, ◌⊎◌, inl, inr, List, [], ◌∷◌, length, get_or, ap, sym, subst, refl, ◌∙◌, arith}
use Rattle.std.specs.Prelude.{Bool, true, false, ◌&&◌, ◌||◌, ◌==◌, nat_lt, nat_le, IsTrue, slice_index_or, replicate, take, drop}
use Rattle.std.specs.List.{list_any, list_all}
use Rattle.std.proofs.lemmas.Bool.{and_parts, eqb-true, ltb-true, lt-ltb, le-ltb, cases_order, false≢true}
use Rattle.std.proofs.lemmas.Bool.Decides.{nat_tests}
use Rattle.std.proofs.lemmas.Nat.{pow_pos}
use Rattle.std.proofs.Math.ListN.{set}
use Rattle.std.proofs.lemmas.List.Folds.{list_any-append}
use Rattle.loc_base.proofs.ShelfBools.{or-false, and-false}
use Rattle.loc_base.proofs.ShelfLists.{take-at}
use denote.Hole.Carrier.{hidden}
use Rattle.design_core.specs.declared.signal.Signal.{Signal}
use Rattle.design_core.specs.declared.expression.Typed.{Typed}
use Rattle.design_core.specs.declared.expression.Node.{Node, end_of-Typed, more_of-Typed}
use Rattle.design_core.specs.declared.expression.Node.TheVariants as node
use Rattle.design_core.specs.declared.expression.Node.TheBlock.{shape-the_row-Typed-0, hidden-the_row-Typed-0}
use Rattle.design_core.specs.Operator.{resized}
use Rattle.design_core.specs.FullCase.{all_below, deciding_bits, decided}
use Rattle.loc_base.specs.Bits.{width_of}
use Rattle.design_core.specs.Valuation.{width_at}
use Rattle.design_core.specs.WellFormed.{is_width, is_signal, slice_fits, words_fit, unary_fits, binary_fits, signs_fit, same_widths, joined_width, parts_fit, node_fits, typed_fits}
use Rattle.design_core.proofs.ExpressionSteps.{fits_resize, value_resize, constant_resize}
use Rattle.design_bits.specs.Full.{Marks}

-- ---- what fits
pub width-least : (width : ℕ) → IsTrue (is_width width) → 1 ≤ width
width-least width h = grind (arith, nat_tests)

pub width-most : (width : ℕ) → IsTrue (is_width width) → width ≤ 128
width-most width h = grind (arith, nat_tests)

pub resize-width : (signals : List Signal) (signed : Bool) (width : ℕ) (arg : Typed) → IsTrue (node_fits signals width signed (node.Resize arg)) → IsTrue (is_width width)
resize-width signals signed width arg h = (and_parts (is_width width) (typed_fits signals arg) (sym (fits_resize signals signed width arg) ∙ h)).0

pub resize-arg : (signals : List Signal) (signed : Bool) (width : ℕ) (arg : Typed) → IsTrue (node_fits signals width signed (node.Resize arg)) → IsTrue (typed_fits signals arg)
resize-arg signals signed width arg h = (and_parts (is_width width) (typed_fits signals arg) (sym (fits_resize signals signed width arg) ∙ h)).1

-- ---- what bits decide
pub deciding_resize : (width : ℕ) (arg : Typed) → deciding_bits width (node.Resize arg) ≡ arg.width
unfolding shape-the_row-Typed-0 hidden-the_row-Typed-0 hidden
deciding_resize width arg = refl

pub decided_resize : (width : ℕ) (arg : Typed) (n : ℕ) → decided width (node.Resize arg) n ≡ resized width arg.signed arg.width n
unfolding shape-the_row-Typed-0 hidden-the_row-Typed-0 hidden
decided_resize width arg n = refl

pub ruleset resize_steps = (resize-width, resize-arg, width-least, width-most, deciding_resize, decided_resize, value_resize, constant_resize)

-- what fits is of 1 to 128 bits
slice-wide : (signals : List Signal) (s from size : ℕ) → slice_fits signals s from size ≡ true → is_width size ≡ true
slice-wide signals s from size fits =
    (and_parts (is_signal signals s) (is_width size) (and_parts (is_signal signals s && is_width size) (nat_le (from + size) (width_at signals s)) fits).0).1

words-wide : (signals : List Signal) (first count from size : ℕ) → words_fit signals first count from size ≡ true → is_width size ≡ true
words-wide signals first count from size fits =
    let a : Bool = nat_le 1 count && nat_le (first + count) (length signals) in
    let all : Bool = list_all (λ s. s.width == width_at signals first) (take count (drop first signals)) in
    slice-wide signals first from size (and_parts a (slice_fits signals first from size) (and_parts (a && slice_fits signals first from size) all fits).0).1

pub node-wide : (signals : List Signal) (width : ℕ) (signed : Bool) (n : Node) → node_fits signals width signed n ≡ true → is_width width ≡ true
node-wide signals width sign (node.Const word) fits = (and_parts (is_width width) (width_of word == width) fits).0
node-wide signals width sign (node.Whole s) fits = (and_parts (is_width width) (is_signal signals s) (and_parts (is_width width && is_signal signals s) (width_at signals s == width) fits).0).0
node-wide signals width sign (node.Slice s from size) fits =
    let f = and_parts (slice_fits signals s from size) (size == width) fits in
    subst (λ w. is_width w ≡ true) (eqb-true size width f.1) (slice-wide signals s from size f.0)
node-wide signals width sign (node.Pick' s _ (more_of-Typed index_width signed index end_of-Typed) offsets) fits =
    let f = and_parts (is_width width && is_signal signals s && (length offsets == width)) (node_fits signals index_width signed index) fits in
    (and_parts (is_width width) (is_signal signals s) (and_parts (is_width width && is_signal signals s) (length offsets == width) f.0).0).0
node-wide signals width sign (node.Word' first count low _ (more_of-Typed index_width signed index end_of-Typed) from size) fits =
    let f = and_parts (words_fit signals first count from size && (size == width)) (node_fits signals index_width signed index) fits in
    let g = and_parts (words_fit signals first count from size) (size == width) f.0 in
    subst (λ w. is_width w ≡ true) (eqb-true size width g.1) (words-wide signals first count from size g.0)
node-wide signals width sign (node.Unary' op _ (more_of-Typed arg_width signed arg end_of-Typed)) fits =
    (and_parts (is_width width) (unary_fits op width arg_width) (and_parts (is_width width && unary_fits op width arg_width) (node_fits signals arg_width signed arg) fits).0).0
node-wide signals width sign (node.Binary' op _ (more_of-Typed left_width left_signed left end_of-Typed) _ (more_of-Typed right_width right_signed right end_of-Typed)) fits =
    let a : Bool = is_width width && binary_fits op width left_width right_width in
    let b : Bool = signs_fit op sign left_signed right_signed in
    let l : Bool = node_fits signals left_width left_signed left in
    (and_parts (is_width width) (binary_fits op width left_width right_width)
    (and_parts a b (and_parts (a && b) l (and_parts (a && b && l) (node_fits signals right_width right_signed right) fits).0).0).0).0
node-wide signals width sign (node.Choose' _ (more_of-Typed cond_width cond_signed test end_of-Typed) _ (more_of-Typed true_width true_signed on_true end_of-Typed) _ (more_of-Typed false_width false_signed on_false end_of-Typed)) fits =
    let a : Bool = same_widths width true_width false_width in
    let b : Bool = node_fits signals cond_width cond_signed test in
    let t : Bool = node_fits signals true_width true_signed on_true in
    let f = and_parts (a && b && t) (node_fits signals false_width false_signed on_false) fits in
    let g = and_parts (a && b) t f.0 in
    let same = (and_parts (width == true_width) (width == false_width) (and_parts a b g.0).0).0 in
    subst (λ w. is_width w ≡ true) (sym (eqb-true width true_width same)) (node-wide signals true_width true_signed on_true g.1)
node-wide signals width sign (node.Join' _ parts) fits =
    (and_parts (is_width width) (joined_width parts == width) (and_parts (is_width width && (joined_width parts == width)) (parts_fit signals parts) fits).0).0
node-wide signals width sign (node.Repeat' times _ (more_of-Typed part_width signed part end_of-Typed)) fits =
    (and_parts (is_width width) (times * part_width == width) (and_parts (is_width width && (times * part_width == width)) (node_fits signals part_width signed part) fits).0).0
node-wide signals width sign (node.Resize' _ (more_of-Typed arg_width signed arg end_of-Typed)) fits = (and_parts (is_width width) (node_fits signals arg_width signed arg) fits).0

-- the bits that decide a value are 1 to 128
pub deciding-wide : (signals : List Signal) (width : ℕ) (signed : Bool) (n : Node) → node_fits signals width signed n ≡ true → is_width (deciding_bits width n) ≡ true
deciding-wide signals width sign (node.Resize' _ (more_of-Typed arg_width signed arg end_of-Typed)) fits =
    node-wide signals arg_width signed arg (and_parts (is_width width) (node_fits signals arg_width signed arg) fits).1
deciding-wide signals width sign n fits = node-wide signals width sign n fits

pub deciding-least : (signals : List Signal) (e : Typed) → IsTrue (typed_fits signals e) → 1 ≤ deciding_bits e.width e.node
deciding-least signals e fits = width-least (deciding_bits e.width e.node) (deciding-wide signals e.width e.signed e.node fits)

pub deciding-most : (signals : List Signal) (e : Typed) → IsTrue (typed_fits signals e) → deciding_bits e.width e.node ≤ 128
deciding-most signals e fits = width-most (deciding_bits e.width e.node) (deciding-wide signals e.width e.signed e.node fits)

pub ruleset deciding_bounds = (deciding-least, deciding-most)

-- ---- tables
marks-seen : (a b t u : Bool) → a ≡ (b || t) → (a || u) ≡ (b || (t || u))
marks-seen a true t u is = ap (λ x. x || u) is
marks-seen a false t u is = ap (λ x. x || u) is

-- a table that has more marked
pub marks-both : (old mid new : List Bool) (t u : ℕ → Bool) → Marks old mid t → Marks mid new u → Marks old new (λ n. t n || u n)
marks-both old mid new t u one other =
    record {
      long = other.long ∙ one.long;
      marks = λ n within.
          other.marks n (omega (arith, within, one.long)) ∙ marks-seen (slice_index_or mid n false) (slice_index_or old n false) (t n) (u n) (one.marks n within);
    }

-- one element more of a list
pub marks-more : {X : Type 0} (test : X → ℕ → Bool) (old mid new : List Bool) (xs : List X) (i : ℕ) (x : X) → i < length xs → x ≡ get_or xs i x
    → Marks old mid (λ n. list_any (λ y. test y n) (take i xs)) → Marks mid new (test x) → Marks old new (λ n. list_any (λ y. test y n) (take (i + 1) xs))
marks-more test old mid new xs i x below is before step =
    let both = marks-both old mid new (λ n. list_any (λ y. test y n) (take i xs)) (test x) before step in
    record {
      long = both.long;
      marks = λ n within.
          both.marks n within
          ∙ ap (λ k. slice_index_or old n false || k)
          (sym (ap (list_any (λ y. test y n)) (take-at xs i x below is) ∙ list_any-append (λ y. test y n) (take i xs) (x ∷ [])
          ∙ ap (λ v. list_any (λ y. test y n) (take i xs) || v) (or-false (test x n))));
    }

pub marks-none : (old : List Bool) → Marks old old (λ n. false)
marks-none old = record { long = refl; marks = λ n within. sym (or-false (slice_index_or old n false)) }

-- ---- one number more
at_same : (xs : List Bool) (i : ℕ) (x : Bool) → i < length xs → slice_index_or (set xs i x) i false ≡ x
at_same [] i x below = absurd (omega (arith, below))
at_same (y ∷ ys) zero x below = refl
at_same (y ∷ ys) (suc i) x below = at_same ys i x (omega (arith, below))

at_other : (xs : List Bool) (i k : ℕ) (x : Bool) → (k ≡ i → ⊥) → slice_index_or (set xs i x) k false ≡ slice_index_or xs k false
at_other [] i k x apart = refl
at_other (y ∷ ys) zero zero x apart = absurd (apart refl)
at_other (y ∷ ys) zero (suc k) x apart = refl
at_other (y ∷ ys) (suc i) zero x apart = refl
at_other (y ∷ ys) (suc i) (suc k) x apart = at_other ys i k x (λ same. apart (ap suc same))

set-length : (xs : List Bool) (i : ℕ) (x : Bool) → length (set xs i x) ≡ length xs
set-length [] i x = refl
set-length (y ∷ ys) zero x = refl
set-length (y ∷ ys) (suc i) x = ap suc (set-length ys i x)

pub marks-step : (old mid : List Bool) (i : ℕ) (x : Bool) (t : ℕ → Bool) → Marks old mid (λ n. nat_lt n i && t n) → i < length mid → x ≡ (slice_index_or mid i false || t i)
    → Marks old (set mid i x) (λ n. nat_lt n (i + 1) && t n)
marks-step old mid i x t so below is =
    record { long = set-length mid i x ∙ so.long; marks = λ n within. at n within (cases_order n i) }
  where
    low : (a : Bool) (n : ℕ) → nat_lt n i ≡ true → nat_lt n (i + 1) ≡ true
    low a n h = lt-ltb n (i + 1) (omega (arith, ltb-true n i h))

    at : (n : ℕ) → n < length old → (n ≡ i) ⊎ ((n < i) ⊎ (i < n)) → slice_index_or (set mid i x) n false ≡ (slice_index_or old n false || (nat_lt n (i + 1) && t n))
    at n within (inl same) =
        let here : slice_index_or (set mid i x) n false ≡ (slice_index_or mid n false || t n) =
        ap (λ k. slice_index_or (set mid i x) k false) same ∙ at_same mid i x below ∙ is ∙ ap (λ k. slice_index_or mid k false || t k) (sym same) in
        here
        ∙ ap (λ v. v || t n) (so.marks n within ∙ ap (λ v. slice_index_or old n false || (v && t n)) (le-ltb n i (omega (arith, same))) ∙ or-false (slice_index_or old n false))
        ∙ ap (λ v. slice_index_or old n false || (v && t n)) (sym (lt-ltb n (i + 1) (omega (arith, same))))
    at n within (inr (inl lt)) =
        at_other mid i n x (λ same. absurd (omega (arith, same, lt))) ∙ so.marks n within
        ∙ ap (λ v. slice_index_or old n false || (v && t n)) (lt-ltb n i lt ∙ sym (lt-ltb n (i + 1) (omega (arith, lt))))
    at n within (inr (inr gt)) =
        at_other mid i n x (λ same. absurd (omega (arith, same, gt))) ∙ so.marks n within
        ∙ ap (λ v. slice_index_or old n false || (v && t n)) (le-ltb n i (omega (arith, gt)) ∙ sym (le-ltb n (i + 1) (omega (arith, gt))))

-- all numbers below a bound were gone through
pub marks-done : (old new : List Bool) (i : ℕ) (t : ℕ → Bool) → Marks old new (λ n. nat_lt n i && t n) → length old ≤ i → Marks old new t
marks-done old new i t so past =
    record { long = so.long; marks = λ n within. so.marks n within ∙ ap (λ v. slice_index_or old n false || (v && t n)) (lt-ltb n i (omega (arith, within, past))) }

-- ---- all numbers
pub all_below-true : (n : ℕ) (t : ℕ → Bool) → ((k : ℕ) → k < n → t k ≡ true) → all_below n t ≡ true
unfolding all_below
all_below-true zero t all = refl
all_below-true (suc n) t all = ap (λ v. v && all_below n t) (all n (omega arith)) ∙ all_below-true n t (λ k below. all k (omega (arith, below)))

pub all_below-false : (n : ℕ) (t : ℕ → Bool) (k : ℕ) → k < n → t k ≡ false → all_below n t ≡ false
unfolding all_below
all_below-false zero t k below none = absurd (omega (arith, below))
all_below-false (suc n) t k below none = at (cases_order k n) (λ lower. all_below-false n t k lower none)
  where
    at : (k ≡ n) ⊎ ((k < n) ⊎ (n < k)) → (k < n → all_below n t ≡ false) → (t n && all_below n t) ≡ false
    at (inl same) rest = ap (λ v. v && all_below n t) (ap t (sym same) ∙ none)
    at (inr (inl lt)) rest = ap (λ v. t n && v) (rest lt) ∙ and-false (t n)
    at (inr (inr gt)) rest = absurd (omega (arith, below, gt))

unmarked : (n k : ℕ) → slice_index_or (replicate n false) k false ≡ false
unmarked zero k = refl
unmarked (suc n) zero = refl
unmarked (suc n) (suc k) = unmarked n k

replicate-long : (n : ℕ) → length (replicate n false) ≡ n
replicate-long zero = refl
replicate-long (suc n) = ap suc (replicate-long n)

-- the numbers that are marked are those that some item takes
pub full-at : (n : ℕ) (seen : List Bool) (t : ℕ → Bool) → Marks (replicate n false) seen t → (k : ℕ) → k < n → slice_index_or seen k false ≡ t k
full-at n seen t so k below = so.marks k (omega (arith, below, replicate-long n)) ∙ ap (λ v. v || t k) (unmarked n k)

pub full-true : (n : ℕ) (seen : List Bool) (t : ℕ → Bool) → Marks (replicate n false) seen t → ((k : ℕ) → k < length seen → slice_index_or seen k false ≡ true) → all_below n t ≡ true
full-true n seen t so all =
    all_below-true n t (λ k below. sym (full-at n seen t so k below) ∙ all k (omega (arith, below, so.long, replicate-long n)))

pub full-false : (n : ℕ) (seen : List Bool) (t : ℕ → Bool) (k : ℕ) → Marks (replicate n false) seen t → k < length seen → slice_index_or seen k false ≡ false → all_below n t ≡ false
full-false n seen t k so within none =
    let below : k < n = omega (arith, within, so.long, replicate-long n) in all_below-false n t k below (sym (full-at n seen t so k below) ∙ none)

-- a case that takes an item whatever the value has an item
pub full-some : {X : Type 0} (bits : ℕ) (xs : List X) (t : X → ℕ → Bool) → all_below (2 ^ bits) (λ n. list_any (λ x. t x n) xs) ≡ true → 0 < length xs
full-some bits [] t full = absurd (false≢true (sym (all_below-false (2 ^ bits) (λ n. false) 0 (pow_pos bits) refl) ∙ full))
full-some bits (x ∷ xs) t full = omega arith
