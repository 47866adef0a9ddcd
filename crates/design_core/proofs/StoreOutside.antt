-- A left side stores nothing into a bit that it does not drive, and a statement leaves the bits that it does not assign.
use Rattle.std.proofs.Common.{ℕ, ◌+◌, ◌-◌, ◌≡◌, ◌<◌, ◌≤◌, Bool, true, false, ◌&&◌, ◌||◌, List, [], ◌∷◌, refl, ap, sym, ◌∙◌, subst, arith, Option, Some, None}
use Rattle.std.specs.Prelude.{ℤ, ◌+ℤ◌, ◌==◌, nat_lt, nat_le, if◌then◌else◌}
use Rattle.std.specs.Option.{option_map_or}
use Rattle.std.specs.List.{list_any, list_all}
use Rattle.std.proofs.lemmas.Bool.{or_parts, and_parts, and_from, both_ways, ltb-true, lt-ltb, leb-true, eqb-true, eq-eqb}
use Rattle.design_core.specs.declared.signal.Signal.{Signal}
use Rattle.design_core.specs.declared.place.Place.{Place}
use Rattle.design_core.specs.declared.expression.Typed.{Typed}
use Rattle.design_core.specs.declared.statement.Part.{Part}
use Rattle.design_core.specs.declared.statement.Part.TheVariants.{Whole, Slice, Pick, Word}
use Rattle.design_core.specs.declared.statement.Stmt.{Stmt, Row_of-Stmt, end_of-Stmt, more_of-Stmt, Row_of-CaseItem, end_of-CaseItem, more_of-CaseItem}
use Rattle.design_core.specs.declared.statement.Stmt.TheVariants.{Nothing, Block', If', Case', Set}
use Rattle.design_core.specs.Valuation.{Valuation, bit, width_at, position_at, word_at}
use Rattle.design_core.specs.Operator.{is_true, integer_of}
use Rattle.design_core.specs.Value.{value, index_value}
use Rattle.design_core.specs.Constant.{constant_of}
use Rattle.design_core.specs.Pick.{is_at, has_bit}
use Rattle.design_core.specs.Store.{parts_width, with_bits, with_bit, with_picked, with_word, store_part, store}
use Rattle.design_core.specs.After.{Choice, assigned, Updates, matches, after_set, after, after_all, after_case}
use Rattle.design_core.specs.Drives.{is_among, part_drives, some_set_of, some_set_in, statement_drives}
use Rattle.design_core.specs.WellFormed.{is_width, words_fit, typed_fits, part_fits, place_fits, assignment_fits, label_fits, statement_fits, statements_fit, items_fit}
use Rattle.design_core.proofs.ValueAgrees.{position_at-below, word_at-among, constant_of-value}
use Rattle.design_core.proofs.ReadsWithin.{word-below}

-- ---- bits that are not replaced
-- where a test fails, the old value stays
kept-where : (t : Bool) (x y : Bool) → (t ≡ true → ⊥) → (if t then x else y) ≡ y
kept-where true x y not = absurd (not refl)
kept-where false x y not = refl

with_bits-outside : (M : Valuation) (signal from width : ℕ) (bits : ℕ → Bool) (s p : ℕ) → (s == signal && is_among from width p) ≡ false
    → with_bits M signal from width bits s p ≡ M s p
with_bits-outside M signal from width bits s p out =
    kept-where (s == signal && nat_le from p && nat_lt p (from + width)) (bits (p - from)) (M s p)
    (λ inside. both_ways (s == signal && is_among from width p) out (regroup (s == signal) (nat_le from p) (nat_lt p (from + width)) inside))
  where
    regroup : (x y z : Bool) → (x && y && z) ≡ true → (x && (y && z)) ≡ true
    regroup true y z e = e
    regroup false y z e = e

with_bit-outside : (M : Valuation) (signal : ℕ) (position : Option ℕ) (x : Bool) (s p : ℕ) → (s == signal && is_at p position) ≡ false
    → with_bit M signal position x s p ≡ M s p
with_bit-outside M signal None x s p out = refl
with_bit-outside M signal (Some position) x s p out =
    kept-where (s == signal && nat_le position p && nat_lt p (position + 1)) x (M s p)
    (λ inside.
    let parts = and_parts (s == signal && nat_le position p) (nat_lt p (position + 1)) inside in
    let own = and_parts (s == signal) (nat_le position p) parts.0 in
    let low : position ≤ p = leb-true position p own.1 in
    let high : p < position + 1 = ltb-true p (position + 1) parts.1 in
    both_ways (s == signal && (position == p)) out (and_from (s == signal) (position == p) own.0 (eq-eqb position p (omega (arith, low, high)))))

-- no index has the bit, or it is of another signal
with_picked-outside : (signals : List Signal) (M : Valuation) (signal : ℕ) (index : ℤ) (b : ℕ) (offsets : List ℤ) (bits : ℕ → Bool) (s p : ℕ)
    → (s == signal && has_bit signals signal index offsets p) ≡ false
    → with_picked signals M signal index b offsets bits s p ≡ M s p
with_picked-outside signals M signal index b [] bits s p out = refl
with_picked-outside signals M signal index b (offset ∷ offsets) bits s p out =
    let at : Option ℕ = position_at signals signal (index +ℤ offset) in
    let parts = neither (s == signal) (is_at p at) (has_bit signals signal index offsets p) out in
    with_picked-outside signals (with_bit M signal at (bits b)) signal index (b + 1) offsets bits s p parts.1
    ∙ with_bit-outside M signal at (bits b) s p parts.0
  where
    neither : (x y z : Bool) → (x && (y || z)) ≡ false → ((x && y) ≡ false) × ((x && z) ≡ false)
    neither true y z e = or_parts y z e
    neither false y z e = (refl, refl)

-- the bits that an index has are those that it may have
picked-among : (signals : List Signal) (signal : ℕ) (index : ℤ) (offsets : List ℤ) (p : ℕ) → nat_lt p (width_at signals signal) ≡ false → has_bit signals signal index offsets p ≡ false
picked-among signals signal index [] p out = refl
picked-among signals signal index (offset ∷ offsets) p out =
    none (is_at p (position_at signals signal (index +ℤ offset))) (has_bit signals signal index offsets p)
    (at (position_at signals signal (index +ℤ offset)) refl) (picked-among signals signal index offsets p out)
  where
    none : (x y : Bool) → x ≡ false → y ≡ false → (x || y) ≡ false
    none true y e f = cc
    none false y e f = f

    at : (o : Option ℕ) → position_at signals signal (index +ℤ offset) ≡ o → is_at p o ≡ false
    at None e = refl
    at (Some q) e = differs (q == p) refl
      where
        differs : (t : Bool) → (q == p) ≡ t → (q == p) ≡ false
        differs false is = is
        differs true is =
            let same : q ≡ p = eqb-true q p is in
            let below : p < width_at signals signal = subst (λ n. n < width_at signals signal) same (position_at-below signals signal (index +ℤ offset) q e) in
            absurd (both_ways (nat_lt p (width_at signals signal)) out (lt-ltb p (width_at signals signal) below))

-- ---- a left side
pub store_part-outside : (signals : List Signal) (E M : Valuation) (part : Part) (bits : ℕ → Bool) (s p : ℕ) → part_fits signals part ≡ true
    → part_drives signals s p part ≡ false → store_part signals E M part bits s p ≡ M s p
store_part-outside signals E M (Whole signal) bits s p fits out =
    with_bits-outside M signal 0 (width_at signals signal) bits s p (from_0 (s == signal) (width_at signals signal) out)
  where
    from_0 : (x : Bool) (width : ℕ) → (x && nat_lt p width) ≡ false → (x && is_among 0 width p) ≡ false
    from_0 false width e = refl
    from_0 true width e = at (is_among 0 width p) refl
      where
        at : (t : Bool) → is_among 0 width p ≡ t → is_among 0 width p ≡ false
        at false is = is
        at true is =
            let below : p < 0 + width = ltb-true p (0 + width) (and_parts (nat_le 0 p) (nat_lt p (0 + width)) is).1 in
            absurd (both_ways (nat_lt p width) e (lt-ltb p width (omega (arith, below))))
store_part-outside signals E M (Slice signal from width) bits s p fits out = with_bits-outside M signal from width bits s p out
store_part-outside signals E M (Pick signal index offsets) bits s p fits out =
    with_picked-outside signals M signal (index_value signals E index) 0 offsets bits s p
    (unpicked (s == signal) (λ own. picked (constant_of index.width index.node) refl (own-part (s == signal) own out)))
  where
    unpicked : (x : Bool) → (x ≡ true → has_bit signals signal (index_value signals E index) offsets p ≡ false)
        → (x && has_bit signals signal (index_value signals E index) offsets p) ≡ false
    unpicked true none = none refl
    unpicked false none = refl

    own-part : (x : Bool) {y : Bool} → x ≡ true → (x && y) ≡ false → y ≡ false
    own-part true own e = e
    own-part false own e = cc

    picked : (c : Option ℕ) → constant_of index.width index.node ≡ c
        → option_map_or (λ value. has_bit signals signal (integer_of index.signed index.width value) offsets p) (constant_of index.width index.node) (nat_lt p (width_at signals signal)) ≡ false
        → has_bit signals signal (index_value signals E index) offsets p ≡ false
    picked None is none =
        picked-among signals signal (index_value signals E index) offsets p
        (sym (ap (λ c. option_map_or (λ value. has_bit signals signal (integer_of index.signed index.width value) offsets p) c (nat_lt p (width_at signals signal))) is) ∙ none)
    picked (Some value) is none =
        ap (λ n. has_bit signals signal (integer_of index.signed index.width n) offsets p) (constant_of-value signals E index.width index.node value is)
        ∙ sym (ap (λ c. option_map_or (λ value. has_bit signals signal (integer_of index.signed index.width value) offsets p) c (nat_lt p (width_at signals signal))) is) ∙ none
store_part-outside signals E M (Word first count low index from width) bits s p fits out =
    at (word_at first count low (index_value signals E index)) refl
  where
    at : (w : Option ℕ) → word_at first count low (index_value signals E index) ≡ w → with_word M w from width bits s p ≡ M s p
    at None e = refl
    at (Some w) e = with_bits-outside M w from width bits s p (inside (s == w && is_among from width p) refl)
      where
        inside : (t : Bool) → (s == w && is_among from width p) ≡ t → (s == w && is_among from width p) ≡ false
        inside false is = is
        inside true is =
            let parts = and_parts (s == w) (is_among from width p) is in
            let same : s ≡ w = eqb-true s w parts.0 in
            let among : is_among first count s ≡ true = ap (is_among first count) same ∙ word_at-among first count low (index_value signals E index) w e in
            let below : p < width_at signals s =
            word-below signals first count from width s p (and_parts (words_fit signals first count from width) (typed_fits signals index) fits).0
            (and_from (is_among first count s) (is_among from width p) among parts.1) in
            absurd (both_ways (is_among first count s && nat_lt p (width_at signals s)) out
            (and_from (is_among first count s) (nat_lt p (width_at signals s)) among (lt-ltb p (width_at signals s) below)))

pub store-outside : (signals : List Signal) (E M : Valuation) (parts : List Part) (bits : ℕ → Bool) (s p : ℕ) → list_all (part_fits signals) parts ≡ true
    → list_any (part_drives signals s p) parts ≡ false → store signals E M parts bits s p ≡ M s p
store-outside signals E M [] bits s p fits out = refl
store-outside signals E M (part ∷ parts) bits s p fits out =
    let here : ℕ → Bool = λ b. bits (parts_width signals parts + b) in
    let fit = and_parts (part_fits signals part) (list_all (part_fits signals) parts) fits in
    let none = or_parts (part_drives signals s p part) (list_any (part_drives signals s p) parts) out in
    store-outside signals E (store_part signals E M part here) parts bits s p fit.1 none.1
    ∙ store_part-outside signals E M part here s p fit.0 none.0

-- ---- a statement
-- a bit is as before, in what is read and in the later updates
pub record Leaves (m n : Updates) (s b : ℕ) : Type 0 where
  pub now : m.now s b ≡ n.now s b
  pub later : m.later s b ≡ n.later s b

leaves-then : (m n o : Updates) (s b : ℕ) → Leaves m n s b → Leaves n o s b → Leaves m o s b
leaves-then m n o s b first second = record { now = first.now ∙ second.now; later = first.later ∙ second.later }

leaves-either : (t : Bool) (x y m : Updates) (s b : ℕ) → Leaves x m s b → Leaves y m s b → Leaves (if t then x else y) m s b
leaves-either true x y m s b one other = one
leaves-either false x y m s b one other = other

leaves-set : (signals : List Signal) (parts : List Part) (bits : ℕ → Bool) (later : Bool) (m : Updates) (s b : ℕ) → list_all (part_fits signals) parts ≡ true
    → list_any (part_drives signals s b) parts ≡ false → Leaves (after_set signals parts bits later m) m s b
leaves-set signals parts bits true m s b fits out = record { now = refl; later = store-outside signals m.now m.later parts bits s b fits out }
leaves-set signals parts bits false m s b fits out = record { now = store-outside signals m.now m.now parts bits s b fits out; later = refl }

-- the parts of an assignment that fits are the design's
parts-fit : (signals : List Signal) (places : List Place) (place : ℕ) (parts : List Part) (e : Typed)
    → (assignment_fits signals parts e && place_fits places (parts_width signals parts) place) ≡ true → list_all (part_fits signals) parts ≡ true
parts-fit signals places place parts e fits =
    let own = and_parts (assignment_fits signals parts e) (place_fits places (parts_width signals parts) place) fits in
    let values = and_parts (list_all (part_fits signals) parts && is_width (parts_width signals parts) && typed_fits signals e) (nat_le (parts_width signals parts) e.width) own.0 in
    let widths = and_parts (list_all (part_fits signals) parts && is_width (parts_width signals parts)) (typed_fits signals e) values.0 in
    (and_parts (list_all (part_fits signals) parts) (is_width (parts_width signals parts)) widths.0).0

-- whether an assignment drives a bit
abbrev pub set_drives : List Signal → ℕ → ℕ → List Part → Bool → Bool
set_drives signals s b parts later = list_any (part_drives signals s b) parts

mutual
  -- a statement leaves a bit that it does not assign
  pub after-leaves : (signals : List Signal) (places : List Place) (choice : Choice) (statement : Stmt) (m : Updates) (s b : ℕ)
      → statement_fits signals places statement ≡ true → statement_drives signals s b statement ≡ false → Leaves (after signals choice statement m) m s b
  after-leaves signals places choice Nothing m s b fits out = record { now = refl; later = refl }
  after-leaves signals places choice (Block' _ statements) m s b fits out = after_all-leaves signals places choice statements m s b fits out
  after-leaves signals places choice (If' e _ (more_of-Stmt on_true end_of-Stmt) _ (more_of-Stmt on_false end_of-Stmt)) m s b fits out =
      let fit = and_parts (typed_fits signals e && statement_fits signals places on_true) (statement_fits signals places on_false) fits in
      let none = or_parts (statement_drives signals s b on_true) (statement_drives signals s b on_false) out in
      leaves-either (is_true (value signals m.now e)) (after signals choice on_true m) (after signals choice on_false m) m s b
      (after-leaves signals places choice on_true m s b (and_parts (typed_fits signals e) (statement_fits signals places on_true) fit.0).1 none.0)
      (after-leaves signals places choice on_false m s b fit.1 none.1)
  after-leaves signals places choice (Case' subject _ items _ (more_of-Stmt other end_of-Stmt) _) m s b fits out =
      let fit = and_parts (typed_fits signals subject && items_fit signals places subject.width items) (statement_fits signals places other) fits in
      let none = or_parts (some_set_in (set_drives signals s b) items) (statement_drives signals s b other) out in
      after_case-leaves signals places choice (value signals m.now subject) subject.width items m (after signals choice other m) s b
      (and_parts (typed_fits signals subject) (items_fit signals places subject.width items) fit.0).1 none.0
      (after-leaves signals places choice other m s b fit.1 none.1)
  after-leaves signals places choice (Set place target e later) m s b fits out =
      leaves-set signals target.parts (bit (assigned choice place (value signals m.now e))) later m s b (parts-fit signals places place target.parts e fits) out

  pub after_all-leaves : {shape : _} (signals : List Signal) (places : List Place) (choice : Choice) (statements : Row_of-Stmt shape) (m : Updates) (s b : ℕ)
      → statements_fit signals places statements ≡ true → some_set_of (set_drives signals s b) statements ≡ false
      → Leaves (after_all signals choice statements m) m s b
  after_all-leaves signals places choice end_of-Stmt m s b fits out = record { now = refl; later = refl }
  after_all-leaves signals places choice (more_of-Stmt statement rest) m s b fits out =
      let fit = and_parts (statement_fits signals places statement) (statements_fit signals places rest) fits in
      let none = or_parts (statement_drives signals s b statement) (some_set_of (set_drives signals s b) rest) out in
      leaves-then (after_all signals choice rest (after signals choice statement m)) (after signals choice statement m) m s b
      (after_all-leaves signals places choice rest (after signals choice statement m) s b fit.1 none.1)
      (after-leaves signals places choice statement m s b fit.0 none.0)

  pub after_case-leaves : {shape : _} (signals : List Signal) (places : List Place) (choice : Choice) (subject width : ℕ) (items : Row_of-CaseItem shape)
      (m other : Updates) (s b : ℕ)
      → items_fit signals places width items ≡ true → some_set_in (set_drives signals s b) items ≡ false → Leaves other m s b
      → Leaves (after_case signals choice subject items m other) m s b
  after_case-leaves signals places choice subject width end_of-CaseItem m other s b fits out left = left
  after_case-leaves signals places choice subject width (more_of-CaseItem labels body rest) m other s b fits out left =
      let fit = and_parts (list_all (label_fits signals width) labels && statement_fits signals places body) (items_fit signals places width rest) fits in
      let none = or_parts (statement_drives signals s b body) (some_set_in (set_drives signals s b) rest) out in
      leaves-either (list_any (matches signals m.now subject) labels) (after signals choice body m) (after_case signals choice subject rest m other) m s b
      (after-leaves signals places choice body m s b (and_parts (list_all (label_fits signals width) labels) (statement_fits signals places body) fit.0).1 none.0)
      (after_case-leaves signals places choice subject width rest m other s b fit.1 none.1 left)
