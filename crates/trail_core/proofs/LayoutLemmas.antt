-- What an appended entry keeps of the fields.
use Rattle.std.proofs.Common.{◌≡◌, ℕ, suc, ◌+◌, ◌-◌, ◌<◌, ◌≤◌, Bool, true, false, cond, eqb, List, [], ◌∷◌, ◌++◌, map, length, get_or, set, Option, Some, None, refl, sym, ap, ◌∙◌, arith, ◌⊎◌, inl, inr}
use Rattle.std.specs.Prelude.{is_some}
use Rattle.std.specs.List.{count_by}
use Rattle.std.specs.Option.{option_or}
use Rattle.std.proofs.lemmas.Bool.{cases_lt, cases_eq, eq-eqb, ne_eqb}
use Rattle.std.proofs.lemmas.List.{get_or_append_left, get_or_push, length_push, length-set, take-append-le, take_at, get_or-set_same, get_or-set_other}
use Rattle.std.proofs.lemmas.List.Sums.{sum_by-cons}
use Rattle.std.proofs.lemmas.List.Folds.{find-append}
use Rattle.trail_core.specs.declared.entry.Entry.{Entry}
use Rattle.trail_core.specs.TrailState.{entry_of, is_decision, decisions}
use Rattle.trail_core.specs.Layout.{value_in, IsIndex, AreStarts}
use Rattle.trail_core.proofs.Lists.{count_by_lt, count_by-set}

-- variables without an entry have no value
pub values_none : (vs : List (Option Bool)) (table : List (Option Entry)) → length vs ≡ length table → ((i : ℕ) → i < length vs → get_or vs i None ≡ None) → ((i : ℕ) → i < length table → get_or table i None ≡ None) → vs ≡ map value_in table
values_none [] [] l p q = refl
values_none [] (x ∷ xs) l p q = absurd (omega (arith, l))
values_none (v ∷ vs) [] l p q = absurd (omega (arith, l))
values_none (v ∷ vs) (x ∷ xs) l p q =
    let e : v ≡ value_in x = p 0 (omega arith) ∙ sym (ap value_in (q 0 (omega arith))) in
    ap (λ y. y ∷ vs) e ∙ ap (λ ys. value_in x ∷ ys) (values_none vs xs (omega (arith, l)) (λ i k. p (suc i) (omega (arith, k))) (λ i k. q (suc i) (omega (arith, k))))

abbrev weight : Option Entry → ℕ
weight o = cond (is_some o) 1 0

-- and there are no entries
pub count_none : (table : List (Option Entry)) → ((i : ℕ) → i < length table → get_or table i None ≡ None) → count_by is_some table ≡ 0
count_none [] q = refl
count_none (x ∷ xs) q =
    let off : weight x ≡ 0 = ap weight (q 0 (omega arith)) in
    omega (arith, off, sum_by-cons (λ o. cond (is_some o) 1 0) x xs, count_none xs (λ i k. q (suc i) (omega (arith, k))))

or_none : {X : Type 0} (o : Option X) → option_or o None ≡ o
or_none None = refl
or_none (Some x) = refl

-- the entry of the appended entry's variable
pub entry_of_push_same : (es : List Entry) (e : Entry) (v : ℕ) → e.lit.var ≡ v → entry_of es v ≡ None → entry_of (es ++ e ∷ []) v ≡ Some e
entry_of_push_same es e v q n =
    let t : eqb e.lit.var v ≡ true = eq-eqb e.lit.var v q in
    find-append (λ (x : Entry). eqb x.lit.var v) es (e ∷ []) ∙ rw (n, t) refl

-- the entry of another variable
pub entry_of_push_other : (es : List Entry) (e : Entry) (v : ℕ) → (e.lit.var ≡ v → ⊥) → entry_of (es ++ e ∷ []) v ≡ entry_of es v
entry_of_push_other es e v q =
    let t : eqb e.lit.var v ≡ false = ne_eqb e.lit.var v q in
    find-append (λ (x : Entry). eqb x.lit.var v) es (e ∷ []) ∙ rw t (or_none (entry_of es v))

-- a variable that may be assigned
pub record IsFree (table : List (Option Entry)) (es : List Entry) (v : ℕ) : Type 0 where
  pub above : 1 ≤ v
  pub within : v ≤ length table
  pub none : entry_of es v ≡ None

pub free_slot : (table : List (Option Entry)) (es : List Entry) (v : ℕ) → IsIndex table es → IsFree table es v → get_or table (v - 1) None ≡ None
free_slot table es v h f =
    let q : v - 1 + 1 ≡ v = omega (arith, f.above) in
    h (v - 1) (omega (arith, f.above, f.within)) ∙ (ap (entry_of es) q ∙ f.none)

-- there is room for the entry of a free variable
pub room_for : (table : List (Option Entry)) (es : List Entry) (v : ℕ) → IsIndex table es → count_by is_some table ≡ length es → IsFree table es v → length es < length table
room_for table es v h c f =
    let none : is_some (get_or table (v - 1) None) ≡ false = rw (free_slot table es v h f) refl in
    omega (arith, c, count_by_lt is_some table (v - 1) None (omega (arith, f.above, f.within)) none)

pub IsIndex-push : (table : List (Option Entry)) (es : List Entry) (e : Entry) → IsIndex table es → IsFree table es e.lit.var → IsIndex (set table (e.lit.var - 1) (Some e)) (es ++ e ∷ [])
IsIndex-push table es e h f i l =
    let m : i < length table = omega (arith, l, length-set table (e.lit.var - 1) (Some e)) in
    elim (cases_eq i (e.lit.var - 1)) [
      | inl q ↦ let v : e.lit.var ≡ i + 1 = omega (arith, f.above) in
          let low : e.lit.var - 1 < length table = omega (arith, f.above, f.within) in
          rw q (get_or-set_same table (e.lit.var - 1) (Some e) None low) ∙ sym (entry_of_push_same es e (i + 1) v (ap (entry_of es) (sym v) ∙ f.none))
      | inr n ↦ get_or-set_other table (e.lit.var - 1) i (Some e) None n ∙ (h i m ∙ sym (entry_of_push_other es e (i + 1) (λ q. n (omega arith))))
    ]

pub counted_push : (table : List (Option Entry)) (es : List Entry) (e : Entry) → IsIndex table es → count_by is_some table ≡ length es → IsFree table es e.lit.var → count_by is_some (set table (e.lit.var - 1) (Some e)) ≡ length (es ++ e ∷ [])
counted_push table es e h c f =
    let none : is_some (get_or table (e.lit.var - 1) None) ≡ false = rw (free_slot table es e.lit.var h f) refl in
    omega (arith, c, length_push es e, count_by-set is_some table (e.lit.var - 1) (Some e) None (omega (arith, f.above, f.within)) none refl)

-- the starts stay, where a literal is appended
pub AreStarts-push : (starts : List ℕ) (es : List Entry) (e : Entry) → AreStarts starts es → AreStarts starts (es ++ e ∷ [])
AreStarts-push starts es e h = record {
  within = λ k l. omega (arith, h.within k l, length_push es e);
  decision = λ k d l. rw (get_or_append_left es (e ∷ []) d (get_or starts k 0) (h.within k l)) (h.decision k d l);
  count = λ k l. rw (take-append-le (get_or starts k 0) es (e ∷ []) (omega (arith, h.within k l))) (h.count k l);
}

start_at : (starts : List ℕ) (es : List Entry) (e : Entry) (k : ℕ) → k < length (starts ++ length es ∷ []) → ((k < length starts) × (get_or (starts ++ length es ∷ []) k 0 ≡ get_or starts k 0)) ⊎ ((k ≡ length starts) × (get_or (starts ++ length es ∷ []) k 0 ≡ length es))
start_at starts es e k l =
    elim (cases_lt k (length starts)) [
      | inl m ↦ inl (m, get_or_append_left starts (length es ∷ []) 0 k m)
      | inr m ↦ let q : length starts ≡ k = omega (arith, length_push starts (length es)) in inr (sym q, get_or_push starts (length es) 0 k q)
    ]

-- the starts with that of a decision more
pub AreStarts-decide : (starts : List ℕ) (es : List Entry) (e : Entry) → AreStarts starts es → is_decision e ≡ true → decisions es ≡ length starts → AreStarts (starts ++ length es ∷ []) (es ++ e ∷ [])
AreStarts-decide starts es e h t c = record {
  within = λ k l. elim (start_at starts es e k l) [ inl p ↦ omega (arith, p.1, h.within k p.0, length_push es e) | inr p ↦ omega (arith, p.1, length_push es e) ];
  decision = λ k d l. elim (start_at starts es e k l) [
    | inl p ↦ rw (p.1, get_or_append_left es (e ∷ []) d (get_or starts k 0) (h.within k p.0)) (h.decision k d p.0)
    | inr p ↦ rw (p.1, get_or_push es e d (length es) refl) t
  ];
  count = λ k l. elim (start_at starts es e k l) [
    | inl p ↦ rw (p.1, take-append-le (get_or starts k 0) es (e ∷ []) (omega (arith, h.within k p.0))) (h.count k p.0)
    | inr p ↦ rw (p.1, take_at es (e ∷ []) (length es) refl) (c ∙ sym p.0)
  ];
}
