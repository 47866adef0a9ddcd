-- What a left side stores and a statement does is the same where the bits that it reads are the same.
use Rattle.std.proofs.Common.{ℕ, ◌+◌, ◌-◌, ◌≡◌, ◌<◌, ◌≤◌, Bool, true, false, not, ◌&&◌, ◌||◌, List, [], ◌∷◌, refl, ap, sym, ◌∙◌, arith, ◌⊎◌, inl, inr, Option, Some, None}
use Rattle.std.specs.Prelude.{ℤ, ◌+ℤ◌, ◌==◌, nat_lt, nat_le, if◌then◌else◌, bit_or}
use Rattle.std.specs.Option.{option_map_or}
use Rattle.std.specs.List.{list_any, list_all}
use Rattle.std.proofs.lemmas.Bool.{both_ways, or_cases, and_parts, and_from, ltb-true, lt-ltb, le-leb, leb-true, eqb-true, eq-eqb, cond-true}
use Rattle.loc_base.specs.Bits.{value_of}
use Rattle.design_core.specs.declared.signal.Signal.{Signal}
use Rattle.design_core.specs.declared.place.Place.{Place}
use Rattle.design_core.specs.declared.statement.Part.{Part}
use Rattle.design_core.specs.declared.statement.Part.TheVariants.{Whole, Slice, Pick, Word}
use Rattle.design_core.specs.declared.statement.Label.{Label}
use Rattle.design_core.specs.declared.statement.Stmt.{Stmt, Row_of-Stmt, end_of-Stmt, more_of-Stmt, Row_of-CaseItem, end_of-CaseItem, more_of-CaseItem}
use Rattle.design_core.specs.declared.statement.Stmt.TheVariants.{Nothing, Block', If', Case', Set}
use Rattle.design_core.specs.Valuation.{Valuation, bit, width_at, position_at, word_at}
use Rattle.design_core.specs.Operator.{is_true, integer_of}
use Rattle.design_core.specs.Value.{value, index_value}
use Rattle.design_core.specs.Store.{parts_width, with_bits, with_bit, with_picked, with_word, store_part, store}
use Rattle.design_core.specs.After.{Choice, assigned, Updates, matches, after_set, after, after_all, after_case}
use Rattle.design_core.specs.Constant.{constant_of}
use Rattle.design_core.specs.Pick.{is_at, has_bit, must_pick}
use Rattle.design_core.specs.Drives.{is_among}
use Rattle.design_core.specs.Reads.{AgreeOn, reads, part_reads, part_assigns, is_nothing, assigns, some_assigns, all_assign, statement_reads, statements_read, items_read}
use Rattle.design_core.specs.FullCase.{is_full, constant_matches, some_matches}
use Rattle.design_core.specs.WellFormed.{typed_fits, label_fits, statement_fits, statements_fit, items_fit}
use Rattle.design_core.proofs.FullCaseLaws.{is_full-matches, constant_matches-any}
use Rattle.design_core.proofs.ValueAgrees.{agree_left, agree_right, constant_of-value, value-agrees, index_value-agrees}

-- one bit where the other is the same, or a test decides for the new value
if_same : (t x y z : Bool) → y ≡ z → (if t then x else y) ≡ (if t then x else z)
if_same t x y z same = ap (λ w. if t then x else w) same

with_bits-same : (M N : Valuation) (signal from width : ℕ) (bits : ℕ → Bool) (s p : ℕ) → M s p ≡ N s p
    → with_bits M signal from width bits s p ≡ with_bits N signal from width bits s p
with_bits-same M N signal from width bits s p same = if_same (s == signal && nat_le from p && nat_lt p (from + width)) (bits (p - from)) (M s p) (N s p) same

-- bits that are replaced whatever they were
with_bits-new : (M N : Valuation) (signal from width : ℕ) (bits : ℕ → Bool) (s p : ℕ) → s ≡ signal → from ≤ p → p < from + width
    → with_bits M signal from width bits s p ≡ with_bits N signal from width bits s p
with_bits-new M N signal from width bits s p own low high =
    let test : (s == signal && nat_le from p && nat_lt p (from + width)) ≡ true =
    and_from (s == signal && nat_le from p) (nat_lt p (from + width)) (and_from (s == signal) (nat_le from p) (eq-eqb s signal own) (le-leb from p low)) (lt-ltb p (from + width) high) in
    cond-true (s == signal && nat_le from p && nat_lt p (from + width)) (bits (p - from)) (M s p) test
    ∙ sym (cond-true (s == signal && nat_le from p && nat_lt p (from + width)) (bits (p - from)) (N s p) test)

with_bit-same : (M N : Valuation) (signal : ℕ) (position : Option ℕ) (x : Bool) (s p : ℕ) → M s p ≡ N s p
    → with_bit M signal position x s p ≡ with_bit N signal position x s p
with_bit-same M N signal None x s p same = same
with_bit-same M N signal (Some position) x s p same = with_bits-same M N signal position 1 (λ _. x) s p same

with_picked-same : (signals : List Signal) (M N : Valuation) (signal : ℕ) (index : ℤ) (b : ℕ) (offsets : List ℤ) (bits : ℕ → Bool) (s p : ℕ) → M s p ≡ N s p
    → with_picked signals M signal index b offsets bits s p ≡ with_picked signals N signal index b offsets bits s p
with_picked-same signals M N signal index b [] bits s p same = same
with_picked-same signals M N signal index b (offset ∷ offsets) bits s p same =
    let at : Option ℕ = position_at signals signal (index +ℤ offset) in
    with_picked-same signals (with_bit M signal at (bits b)) (with_bit N signal at (bits b)) signal index (b + 1) offsets bits s p
    (with_bit-same M N signal at (bits b) s p same)

-- a bit that one of the indexes has is replaced whatever it was
with_bit-new : (M N : Valuation) (signal : ℕ) (position : Option ℕ) (x : Bool) (s p : ℕ) → s ≡ signal → is_at p position ≡ true
    → with_bit M signal position x s p ≡ with_bit N signal position x s p
with_bit-new M N signal None x s p own is = cc
with_bit-new M N signal (Some position) x s p own is =
    let here : position ≡ p = eqb-true position p is in
    with_bits-new M N signal position 1 (λ _. x) s p own (omega arith) (omega arith)

with_picked-new : (signals : List Signal) (M N : Valuation) (signal : ℕ) (index : ℤ) (b : ℕ) (offsets : List ℤ) (bits : ℕ → Bool) (s p : ℕ) → s ≡ signal
    → has_bit signals signal index offsets p ≡ true
    → with_picked signals M signal index b offsets bits s p ≡ with_picked signals N signal index b offsets bits s p
with_picked-new signals M N signal index b [] bits s p own among = cc
with_picked-new signals M N signal index b (offset ∷ offsets) bits s p own among =
    let at : Option ℕ = position_at signals signal (index +ℤ offset) in
    elim (or_cases (is_at p at) (list_any (λ k. is_at p (position_at signals signal (index +ℤ k))) offsets) among) [
      | inl here ↦ with_picked-same signals (with_bit M signal at (bits b)) (with_bit N signal at (bits b)) signal index (b + 1) offsets bits s p
          (with_bit-new M N signal at (bits b) s p own here)
      | inr later ↦ with_picked-new signals (with_bit M signal at (bits b)) (with_bit N signal at (bits b)) signal index (b + 1) offsets bits s p own later
    ]

with_word-same : (M N : Valuation) (word : Option ℕ) (from width : ℕ) (bits : ℕ → Bool) (s p : ℕ) → M s p ≡ N s p
    → with_word M word from width bits s p ≡ with_word N word from width bits s p
with_word-same M N None from width bits s p same = same
with_word-same M N (Some signal) from width bits s p same = with_bits-same M N signal from width bits s p same

-- a bit that is the same before, or that a first or a later part assigns, is the same behind the first or assigned later
either_known : {A B : Type 0} (x y : Bool) → (A ⊎ (x ≡ true) → B) → A ⊎ ((x || y) ≡ true) → B ⊎ (y ≡ true)
either_known x y next (inl a) = inl (next (inl a))
either_known x y next (inr e) = elim (or_cases x y e) [ inl here ↦ inl (next (inr here)) | inr later ↦ inr later ]

-- a bit that is the same before a part is stored, or that the part surely assigns
store_part-agrees : (signals : List Signal) (E F M N : Valuation) (part : Part) (bits : ℕ → Bool) (s p : ℕ)
    → AgreeOn (λ s b. part_reads signals s b part) E F → (M s p ≡ N s p) ⊎ (part_assigns signals s p part ≡ true)
    → store_part signals E M part bits s p ≡ store_part signals F N part bits s p
store_part-agrees signals E F M N (Whole signal) bits s p h (inl same) = with_bits-same M N signal 0 (width_at signals signal) bits s p same
store_part-agrees signals E F M N (Whole signal) bits s p h (inr surely) =
    let own = and_parts (s == signal) (nat_lt p (width_at signals signal)) surely in
    with_bits-new M N signal 0 (width_at signals signal) bits s p (eqb-true s signal own.0) (omega arith) (omega (arith, ltb-true p (width_at signals signal) own.1))
store_part-agrees signals E F M N (Slice signal from width) bits s p h (inl same) = with_bits-same M N signal from width bits s p same
store_part-agrees signals E F M N (Slice signal from width) bits s p h (inr surely) =
    let own = and_parts (s == signal) (is_among from width p) surely in
    let among = and_parts (nat_le from p) (nat_lt p (from + width)) own.1 in
    with_bits-new M N signal from width bits s p (eqb-true s signal own.0) (leb-true from p among.0) (ltb-true p (from + width) among.1)
store_part-agrees signals E F M N (Pick signal index offsets) bits s p h (inl same) =
    ap (λ i. with_picked signals M signal i 0 offsets bits s p) (index_value-agrees signals E F index h)
    ∙ with_picked-same signals M N signal (index_value signals F index) 0 offsets bits s p same
store_part-agrees signals E F M N (Pick signal index offsets) bits s p h (inr surely) =
    let own = and_parts (s == signal) (must_pick signals signal index.width index.signed index.node offsets p) surely in
    at (constant_of index.width index.node) refl (eqb-true s signal own.0) own.1
  where
    at : (c : Option ℕ) → constant_of index.width index.node ≡ c → s ≡ signal
        → option_map_or (λ value. has_bit signals signal (integer_of index.signed index.width value) offsets p) c false ≡ true
        → store_part signals E M (Pick signal index offsets) bits s p ≡ store_part signals F N (Pick signal index offsets) bits s p
    at None is own picks = cc
    at (Some value) is own picks =
        let from : index_value signals E index ≡ integer_of index.signed index.width value =
        ap (integer_of index.signed index.width) (constant_of-value signals E index.width index.node value is) in
        let to : index_value signals F index ≡ integer_of index.signed index.width value =
        ap (integer_of index.signed index.width) (constant_of-value signals F index.width index.node value is) in
        ap (λ i. with_picked signals M signal i 0 offsets bits s p) from
        ∙ with_picked-new signals M N signal (integer_of index.signed index.width value) 0 offsets bits s p own picks
        ∙ sym (ap (λ i. with_picked signals N signal i 0 offsets bits s p) to)
store_part-agrees signals E F M N (Word first count low index from width) bits s p h (inl same) =
    ap (λ i. with_word M (word_at first count low i) from width bits s p) (index_value-agrees signals E F index h)
    ∙ with_word-same M N (word_at first count low (index_value signals F index)) from width bits s p same
store_part-agrees signals E F M N (Word first count low index from width) bits s p h (inr surely) = cc

-- what a left side stores is the same in a bit that it surely assigns or that is the same before, where the bits that
-- its indexes read are the same
pub store-agrees : (signals : List Signal) (E F M N : Valuation) (parts : List Part) (bits : ℕ → Bool) (s p : ℕ)
    → AgreeOn (λ s b. list_any (part_reads signals s b) parts) E F → (M s p ≡ N s p) ⊎ (list_any (part_assigns signals s p) parts ≡ true)
    → store signals E M parts bits s p ≡ store signals F N parts bits s p
store-agrees signals E F M N [] bits s p h (inl same) = same
store-agrees signals E F M N [] bits s p h (inr surely) = cc
store-agrees signals E F M N (part ∷ parts) bits s p h known =
    let own : ℕ → ℕ → Bool = λ s b. part_reads signals s b part in
    let other : ℕ → ℕ → Bool = λ s b. list_any (part_reads signals s b) parts in
    let here : ℕ → Bool = λ b. bits (parts_width signals parts + b) in
    let next : (M s p ≡ N s p) ⊎ (part_assigns signals s p part ≡ true) → store_part signals E M part here s p ≡ store_part signals F N part here s p =
    λ now. store_part-agrees signals E F M N part here s p (agree_left own other E F h) now in
    store-agrees signals E F (store_part signals E M part here) (store_part signals F N part here) parts bits s p (agree_right own other E F h)
    (either_known (part_assigns signals s p part) (list_any (part_assigns signals s p) parts) next known)

-- a label is equal to the subject or not alike
list_any-same : {X : Type 0} (p q : X → Bool) (xs : List X) (f : X → ℕ → ℕ → Bool) (V W : Valuation)
    → AgreeOn (λ s b. list_any (λ x. f x s b) xs) V W → ((x : X) → AgreeOn (f x) V W → p x ≡ q x) → list_any p xs ≡ list_any q xs
list_any-same p q [] f V W h same = refl
list_any-same p q (x ∷ xs) f V W h same =
    let here : p x ≡ q x = same x (agree_left (f x) (λ s b. list_any (λ y. f y s b) xs) V W h) in
    let later : list_any p xs ≡ list_any q xs = list_any-same p q xs f V W (agree_right (f x) (λ s b. list_any (λ y. f y s b) xs) V W h) same in
    cc

matches-agrees : (signals : List Signal) (V W : Valuation) (subject : ℕ) (labels : List Label)
    → AgreeOn (λ s b. list_any (λ label. reads signals s b label.value) labels) V W
    → list_any (matches signals V subject) labels ≡ list_any (matches signals W subject) labels
matches-agrees signals V W subject labels h =
    list_any-same (matches signals V subject) (matches signals W subject) labels (λ label s b. reads signals s b label.value) V W h
    (λ label own. ap (λ v. bit_or subject (value_of label.wild) == bit_or v (value_of label.wild)) (value-agrees signals V W label.value own))

-- the arms of a condition agree in a bit, each where it is taken
arms_agree : (t u : Bool) → t ≡ u → (m m' n n' : Updates) (s b : ℕ) → m.now s b ≡ n.now s b → (t ≡ false → m'.now s b ≡ n'.now s b)
    → (if t then m else m').now s b ≡ (if u then n else n').now s b
arms_agree true true e m m' n n' s b one other = one
arms_agree true false e m m' n n' s b one other = cc
arms_agree false true e m m' n n' s b one other = cc
arms_agree false false e m m' n n' s b one other = other refl

arms_agree_later : (t u : Bool) → t ≡ u → (m m' n n' : Updates) (s b : ℕ) → m.later s b ≡ n.later s b → m'.later s b ≡ n'.later s b
    → (if t then m else m').later s b ≡ (if u then n else n').later s b
arms_agree_later true true e m m' n n' s b one other = one
arms_agree_later true false e m m' n n' s b one other = cc
arms_agree_later false true e m m' n n' s b one other = cc
arms_agree_later false false e m m' n n' s b one other = other

-- what both of two tests pass, each does
both_left : {A : Type 0} (x y : Bool) → A ⊎ ((x && y) ≡ true) → A ⊎ (x ≡ true)
both_left x y (inl a) = inl a
both_left x y (inr e) = inr (and_parts x y e).0

both_right : {A : Type 0} (x y : Bool) → A ⊎ ((x && y) ≡ true) → A ⊎ (y ≡ true)
both_right x y (inl a) = inl a
both_right x y (inr e) = inr (and_parts x y e).1

-- a bit that is read behind a statement is surely assigned by it or the same before
behind : (first later x y : Bool) → later ≡ true → ((not first && later) ≡ true → x ≡ y) → (x ≡ y) ⊎ (first ≡ true)
behind true later x y is same = inr refl
behind false later x y is same = inl (same is)

-- what is not known behind an item that is not taken is known of the later ones
later_item : {A : Type 0} (x y : Bool) → (x ≡ true → ⊥) → A ⊎ ((x || y) ≡ true) → A ⊎ (y ≡ true)
later_item x y passed (inl a) = inl a
later_item x y passed (inr e) = elim (or_cases x y e) [ inl here ↦ absurd (passed here) | inr later ↦ inr later ]

-- a bit is the same behind the statement for other values, or an item is taken
other_or_item : {A B C : Type 0} (x y : Bool) → (x ≡ true → C) → (A ⊎ (y ≡ true) → B) → A ⊎ ((x || y) ≡ true) → B ⊎ C
other_or_item x y takes next (inl a) = inl (next (inl a))
other_or_item x y takes next (inr e) = elim (or_cases x y e) [ inl full ↦ inr (takes full) | inr own ↦ inl (next (inr own)) ]

after_set-agrees : (signals : List Signal) (parts : List Part) (bits : ℕ → Bool) (later : Bool) (m n : Updates) (s b : ℕ)
    → AgreeOn (λ s b. list_any (part_reads signals s b) parts) m.now n.now
    → (m.now s b ≡ n.now s b) ⊎ ((not later && list_any (part_assigns signals s b) parts) ≡ true)
    → (after_set signals parts bits later m).now s b ≡ (after_set signals parts bits later n).now s b
after_set-agrees signals parts bits true m n s b h (inl same) = same
after_set-agrees signals parts bits true m n s b h (inr surely) = cc
after_set-agrees signals parts bits false m n s b h known = store-agrees signals m.now n.now m.now n.now parts bits s b h known

mutual
  -- what a statement leaves to be read is the same in a bit that it surely assigns by `=` or that is the same before,
  -- where the bits that it reads are the same
  pub after-agrees : (signals : List Signal) (places : List Place) (choice : Choice) (statement : Stmt) (m n : Updates) (s b : ℕ)
      → statement_fits signals places statement ≡ true
      → AgreeOn (λ s b. statement_reads signals s b statement) m.now n.now
      → (m.now s b ≡ n.now s b) ⊎ (assigns signals s b statement ≡ true)
      → (after signals choice statement m).now s b ≡ (after signals choice statement n).now s b
  after-agrees signals places choice Nothing m n s b fits h (inl same) = same
  after-agrees signals places choice Nothing m n s b fits h (inr surely) = cc
  after-agrees signals places choice (Block' _ statements) m n s b fits h known = after_all-agrees signals places choice statements m n s b fits h known
  after-agrees signals places choice (If' e _ (more_of-Stmt on_true end_of-Stmt) _ (more_of-Stmt on_false end_of-Stmt)) m n s b fits h known =
      let test : ℕ → ℕ → Bool = λ s b. reads signals s b e in
      let one : ℕ → ℕ → Bool = λ s b. statement_reads signals s b on_true in
      let other : ℕ → ℕ → Bool = λ s b. statement_reads signals s b on_false in
      let arms : AgreeOn (λ s b. one s b || other s b) m.now n.now = agree_right test (λ s b. one s b || other s b) m.now n.now h in
      let fit = and_parts (typed_fits signals e && statement_fits signals places on_true) (statement_fits signals places on_false) fits in
      arms_agree (is_true (value signals m.now e)) (is_true (value signals n.now e))
      (ap is_true (value-agrees signals m.now n.now e (agree_left test (λ s b. one s b || other s b) m.now n.now h)))
      (after signals choice on_true m) (after signals choice on_false m) (after signals choice on_true n) (after signals choice on_false n) s b
      (after-agrees signals places choice on_true m n s b (and_parts (typed_fits signals e) (statement_fits signals places on_true) fit.0).1
      (agree_left one other m.now n.now arms) (both_left (assigns signals s b on_true) (assigns signals s b on_false) known))
      (λ _. after-agrees signals places choice on_false m n s b fit.1
      (agree_right one other m.now n.now arms) (both_right (assigns signals s b on_true) (assigns signals s b on_false) known))
  after-agrees signals places choice (Case' subject x items x' (more_of-Stmt other end_of-Stmt) x'') m n s b fits h known =
      let test : ℕ → ℕ → Bool = λ s b. reads signals s b subject in
      let one : ℕ → ℕ → Bool = λ s b. items_read signals s b items in
      let rest : ℕ → ℕ → Bool = λ s b. statement_reads signals s b other in
      let arms : AgreeOn (λ s b. one s b || rest s b) m.now n.now = agree_right test (λ s b. one s b || rest s b) m.now n.now h in
      let fit = and_parts (typed_fits signals subject && items_fit signals places subject.width items) (statement_fits signals places other) fits in
      let more = and_parts (typed_fits signals subject) (items_fit signals places subject.width items) fit.0 in
      let full : Bool = is_nothing other && is_full signals subject items in
      let takes : full ≡ true → some_matches signals (value signals n.now subject) items ≡ true =
      λ is. is_full-matches signals n.now subject items more.0 (and_parts (is_nothing other) (is_full signals subject items) is).1 in
      ap (λ v. (after_case signals choice v items m (after signals choice other m)).now s b)
      (value-agrees signals m.now n.now subject (agree_left test (λ s b. one s b || rest s b) m.now n.now h))
      ∙ after_case-agrees signals places choice (value signals n.now subject) subject.width items m n (after signals choice other m) (after signals choice other n) s b
      more.1 (agree_left one rest m.now n.now arms)
      (other_or_item full (assigns signals s b other) takes
      (λ own. after-agrees signals places choice other m n s b fit.1 (agree_right one rest m.now n.now arms) own)
      (both_right (all_assign signals s b items) (full || assigns signals s b other) known))
      (both_left (all_assign signals s b items) (full || assigns signals s b other) known)
  after-agrees signals places choice (Set place target e later) m n s b fits h known =
      let test : ℕ → ℕ → Bool = λ s b. reads signals s b e in
      let indexes : ℕ → ℕ → Bool = λ s b. list_any (part_reads signals s b) target.parts in
      ap (λ v. (after_set signals target.parts (bit (assigned choice place v)) later m).now s b)
      (value-agrees signals m.now n.now e (agree_left test indexes m.now n.now h))
      ∙ after_set-agrees signals target.parts (bit (assigned choice place (value signals n.now e))) later m n s b (agree_right test indexes m.now n.now h) known

  pub after_all-agrees : {shape : _} (signals : List Signal) (places : List Place) (choice : Choice) (statements : Row_of-Stmt shape) (m n : Updates) (s b : ℕ)
      → statements_fit signals places statements ≡ true
      → AgreeOn (λ s b. statements_read signals s b statements) m.now n.now
      → (m.now s b ≡ n.now s b) ⊎ (some_assigns signals s b statements ≡ true)
      → (after_all signals choice statements m).now s b ≡ (after_all signals choice statements n).now s b
  after_all-agrees signals places choice end_of-Stmt m n s b fits h (inl same) = same
  after_all-agrees signals places choice end_of-Stmt m n s b fits h (inr surely) = cc
  after_all-agrees signals places choice (more_of-Stmt statement rest) m n s b fits h known =
      let own : ℕ → ℕ → Bool = λ s b. statement_reads signals s b statement in
      let more : ℕ → ℕ → Bool = λ s b. not (assigns signals s b statement) && statements_read signals s b rest in
      let fit = and_parts (statement_fits signals places statement) (statements_fit signals places rest) fits in
      let first : (s b : ℕ) → (m.now s b ≡ n.now s b) ⊎ (assigns signals s b statement ≡ true)
      → (after signals choice statement m).now s b ≡ (after signals choice statement n).now s b =
      λ s b. after-agrees signals places choice statement m n s b fit.0 (agree_left own more m.now n.now h) in
      after_all-agrees signals places choice rest (after signals choice statement m) (after signals choice statement n) s b fit.1
      (record { same = λ s b read. first s b (behind (assigns signals s b statement) (statements_read signals s b rest) (m.now s b) (n.now s b) read ((agree_right own more m.now n.now h).same s b)) })
      (either_known (assigns signals s b statement) (some_assigns signals s b rest) (first s b) known)

  pub after_case-agrees : {shape : _} (signals : List Signal) (places : List Place) (choice : Choice) (subject width : ℕ) (items : Row_of-CaseItem shape)
      (m n other other' : Updates) (s b : ℕ)
      → items_fit signals places width items ≡ true
      → AgreeOn (λ s b. items_read signals s b items) m.now n.now
      → (other.now s b ≡ other'.now s b) ⊎ (some_matches signals subject items ≡ true)
      → (m.now s b ≡ n.now s b) ⊎ (all_assign signals s b items ≡ true)
      → (after_case signals choice subject items m other).now s b ≡ (after_case signals choice subject items n other').now s b
  after_case-agrees signals places choice subject width end_of-CaseItem m n other other' s b fits h (inl same) known = same
  after_case-agrees signals places choice subject width end_of-CaseItem m n other other' s b fits h (inr takes) known = cc
  after_case-agrees signals places choice subject width (more_of-CaseItem labels body rest) m n other other' s b fits h same known =
      let test : ℕ → ℕ → Bool = λ s b. list_any (λ label. reads signals s b label.value) labels in
      let one : ℕ → ℕ → Bool = λ s b. statement_reads signals s b body in
      let more : ℕ → ℕ → Bool = λ s b. items_read signals s b rest in
      let arms : AgreeOn (λ s b. one s b || more s b) m.now n.now = agree_right test (λ s b. one s b || more s b) m.now n.now h in
      let fit = and_parts (list_all (label_fits signals width) labels && statement_fits signals places body) (items_fit signals places width rest) fits in
      arms_agree (list_any (matches signals m.now subject) labels) (list_any (matches signals n.now subject) labels)
      (matches-agrees signals m.now n.now subject labels (agree_left test (λ s b. one s b || more s b) m.now n.now h))
      (after signals choice body m) (after_case signals choice subject rest m other) (after signals choice body n) (after_case signals choice subject rest n other') s b
      (after-agrees signals places choice body m n s b (and_parts (list_all (label_fits signals width) labels) (statement_fits signals places body) fit.0).1
      (agree_left one more m.now n.now arms) (both_left (assigns signals s b body) (all_assign signals s b rest) known))
      (λ passed. after_case-agrees signals places choice subject width rest m n other other' s b fit.1 (agree_right one more m.now n.now arms)
      (later_item (list_any (constant_matches signals subject) labels) (some_matches signals subject rest)
      (λ here. both_ways (list_any (matches signals m.now subject) labels) passed (constant_matches-any signals m.now subject labels here)) same)
      (both_right (assigns signals s b body) (all_assign signals s b rest) known))

after_set-agrees_later : (signals : List Signal) (parts : List Part) (bits : ℕ → Bool) (later : Bool) (m n : Updates) (s b : ℕ)
    → AgreeOn (λ s b. list_any (part_reads signals s b) parts) m.now n.now → m.later s b ≡ n.later s b
    → (after_set signals parts bits later m).later s b ≡ (after_set signals parts bits later n).later s b
after_set-agrees_later signals parts bits true m n s b h same = store-agrees signals m.now n.now m.later n.later parts bits s b h (inl same)
after_set-agrees_later signals parts bits false m n s b h same = same

mutual
  -- and so are its later updates in a bit in which they are the same before
  pub after-agrees_later : (signals : List Signal) (places : List Place) (choice : Choice) (statement : Stmt) (m n : Updates) (s b : ℕ)
      → statement_fits signals places statement ≡ true
      → AgreeOn (λ s b. statement_reads signals s b statement) m.now n.now → m.later s b ≡ n.later s b
      → (after signals choice statement m).later s b ≡ (after signals choice statement n).later s b
  after-agrees_later signals places choice Nothing m n s b fits h same = same
  after-agrees_later signals places choice (Block' _ statements) m n s b fits h same = after_all-agrees_later signals places choice statements m n s b fits h same
  after-agrees_later signals places choice (If' e _ (more_of-Stmt on_true end_of-Stmt) _ (more_of-Stmt on_false end_of-Stmt)) m n s b fits h same =
      let test : ℕ → ℕ → Bool = λ s b. reads signals s b e in
      let one : ℕ → ℕ → Bool = λ s b. statement_reads signals s b on_true in
      let other : ℕ → ℕ → Bool = λ s b. statement_reads signals s b on_false in
      let arms : AgreeOn (λ s b. one s b || other s b) m.now n.now = agree_right test (λ s b. one s b || other s b) m.now n.now h in
      let fit = and_parts (typed_fits signals e && statement_fits signals places on_true) (statement_fits signals places on_false) fits in
      arms_agree_later (is_true (value signals m.now e)) (is_true (value signals n.now e))
      (ap is_true (value-agrees signals m.now n.now e (agree_left test (λ s b. one s b || other s b) m.now n.now h)))
      (after signals choice on_true m) (after signals choice on_false m) (after signals choice on_true n) (after signals choice on_false n) s b
      (after-agrees_later signals places choice on_true m n s b (and_parts (typed_fits signals e) (statement_fits signals places on_true) fit.0).1 (agree_left one other m.now n.now arms) same)
      (after-agrees_later signals places choice on_false m n s b fit.1 (agree_right one other m.now n.now arms) same)
  after-agrees_later signals places choice (Case' subject x items x' (more_of-Stmt other end_of-Stmt) x'') m n s b fits h same =
      let test : ℕ → ℕ → Bool = λ s b. reads signals s b subject in
      let one : ℕ → ℕ → Bool = λ s b. items_read signals s b items in
      let rest : ℕ → ℕ → Bool = λ s b. statement_reads signals s b other in
      let arms : AgreeOn (λ s b. one s b || rest s b) m.now n.now = agree_right test (λ s b. one s b || rest s b) m.now n.now h in
      let fit = and_parts (typed_fits signals subject && items_fit signals places subject.width items) (statement_fits signals places other) fits in
      ap (λ v. (after_case signals choice v items m (after signals choice other m)).later s b)
      (value-agrees signals m.now n.now subject (agree_left test (λ s b. one s b || rest s b) m.now n.now h))
      ∙ after_case-agrees_later signals places choice (value signals n.now subject) subject.width items m n (after signals choice other m) (after signals choice other n) s b
      (and_parts (typed_fits signals subject) (items_fit signals places subject.width items) fit.0).1
      (agree_left one rest m.now n.now arms)
      (after-agrees_later signals places choice other m n s b fit.1 (agree_right one rest m.now n.now arms) same) same
  after-agrees_later signals places choice (Set place target e later) m n s b fits h same =
      let test : ℕ → ℕ → Bool = λ s b. reads signals s b e in
      let indexes : ℕ → ℕ → Bool = λ s b. list_any (part_reads signals s b) target.parts in
      ap (λ v. (after_set signals target.parts (bit (assigned choice place v)) later m).later s b)
      (value-agrees signals m.now n.now e (agree_left test indexes m.now n.now h))
      ∙ after_set-agrees_later signals target.parts (bit (assigned choice place (value signals n.now e))) later m n s b (agree_right test indexes m.now n.now h) same

  pub after_all-agrees_later : {shape : _} (signals : List Signal) (places : List Place) (choice : Choice) (statements : Row_of-Stmt shape) (m n : Updates) (s b : ℕ)
      → statements_fit signals places statements ≡ true
      → AgreeOn (λ s b. statements_read signals s b statements) m.now n.now → m.later s b ≡ n.later s b
      → (after_all signals choice statements m).later s b ≡ (after_all signals choice statements n).later s b
  after_all-agrees_later signals places choice end_of-Stmt m n s b fits h same = same
  after_all-agrees_later signals places choice (more_of-Stmt statement rest) m n s b fits h same =
      let own : ℕ → ℕ → Bool = λ s b. statement_reads signals s b statement in
      let more : ℕ → ℕ → Bool = λ s b. not (assigns signals s b statement) && statements_read signals s b rest in
      let fit = and_parts (statement_fits signals places statement) (statements_fit signals places rest) fits in
      let before : AgreeOn own m.now n.now = agree_left own more m.now n.now h in
      after_all-agrees_later signals places choice rest (after signals choice statement m) (after signals choice statement n) s b fit.1
      (record { same = λ s b read. after-agrees signals places choice statement m n s b fit.0 before (behind (assigns signals s b statement) (statements_read signals s b rest) (m.now s b) (n.now s b) read ((agree_right own more m.now n.now h).same s b)) })
      (after-agrees_later signals places choice statement m n s b fit.0 before same)

  pub after_case-agrees_later : {shape : _} (signals : List Signal) (places : List Place) (choice : Choice) (subject width : ℕ) (items : Row_of-CaseItem shape)
      (m n other other' : Updates) (s b : ℕ)
      → items_fit signals places width items ≡ true
      → AgreeOn (λ s b. items_read signals s b items) m.now n.now → other.later s b ≡ other'.later s b → m.later s b ≡ n.later s b
      → (after_case signals choice subject items m other).later s b ≡ (after_case signals choice subject items n other').later s b
  after_case-agrees_later signals places choice subject width end_of-CaseItem m n other other' s b fits h at_other same = at_other
  after_case-agrees_later signals places choice subject width (more_of-CaseItem labels body rest) m n other other' s b fits h at_other same =
      let test : ℕ → ℕ → Bool = λ s b. list_any (λ label. reads signals s b label.value) labels in
      let one : ℕ → ℕ → Bool = λ s b. statement_reads signals s b body in
      let more : ℕ → ℕ → Bool = λ s b. items_read signals s b rest in
      let arms : AgreeOn (λ s b. one s b || more s b) m.now n.now = agree_right test (λ s b. one s b || more s b) m.now n.now h in
      let fit = and_parts (list_all (label_fits signals width) labels && statement_fits signals places body) (items_fit signals places width rest) fits in
      arms_agree_later (list_any (matches signals m.now subject) labels) (list_any (matches signals n.now subject) labels)
      (matches-agrees signals m.now n.now subject labels (agree_left test (λ s b. one s b || more s b) m.now n.now h))
      (after signals choice body m) (after_case signals choice subject rest m other) (after signals choice body n) (after_case signals choice subject rest n other') s b
      (after-agrees_later signals places choice body m n s b (and_parts (list_all (label_fits signals width) labels) (statement_fits signals places body) fit.0).1 (agree_left one more m.now n.now arms) same)
      (after_case-agrees_later signals places choice subject width rest m n other other' s b fit.1 (agree_right one more m.now n.now arms) at_other same)
