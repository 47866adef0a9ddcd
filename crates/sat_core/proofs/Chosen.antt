-- The decisions of a trail as the trail changes.
use Rattle.std.proofs.Common.{◌≡◌, ℕ, ◌+◌, ◌-◌, ◌<◌, ◌≤◌, zero, suc, true, not, leb, List, [], ◌∷◌, ◌++◌, length, get_or, take, drop, Option, Some, None, sym, ap, ◌∙◌, subst, arith, inl, inr, ⊎_elim}
use Rattle.std.specs.Prelude.{is_some, is_none}
use Rattle.std.specs.List.{filter}
use Rattle.std.proofs.lemmas.Bool.{false≢true, cases_Bool, cases_lt, leb-true, lt-leb}
use Rattle.std.proofs.lemmas.List.{get_or_append_left, get_or_push, get_or-take, get_or-drop, length_push, length-take-le, length-drop, take-append-drop, take_all, append-nil, get_or_default}
use Rattle.std.proofs.lemmas.List.Elements.{filter_passes, filter-append}
use Rattle.std.proofs.lemmas.List.Sums.{count_by_more_yes, count_by_more_no, count_by-le-length}
use Rattle.loc_base.proofs.ShelfOptions.{is_some-split}
use Rattle.clause_base.specs.declared.literal.Lit.{Lit}
use Rattle.trail_core.specs.declared.entry.Entry.{Entry}
use Rattle.trail_core.specs.TrailState.{TrailState, IsTrail, Propagates, with_decision, back_at, values_of, up_to, is_decision, decisions}
use Rattle.trail_core.proofs.Lists.{filter_none}
use Rattle.trail_core.proofs.Levels.{level_le_all, up_to_front, up_to-length, up_to_all, up_to-up_to}
use Rattle.trail_core.specs.Values.{IsTrueIn}
use Rattle.trail_core.proofs.Truth.{values-up_to_some}
use Rattle.trail_core.proofs.Changes.{up_to_push}
use Rattle.sat_core.proofs.Resolving.{no_entry, true_at}
use Rattle.sat_core.specs.Choices.{choice_at, end_of, AreChosen, MayChoose, PassedTo, IsPassed}

-- a decision is of a level from 1 to the present one
pub decision_level_bounds : (t : TrailState) (i : ℕ) (d : Entry) → IsTrail t → i < length t.entries → is_decision (get_or t.entries i d) ≡ true → (1 ≤ (get_or t.entries i d).decision_level) × ((get_or t.entries i d).decision_level ≤ t.level)
decision_level_bounds t i d h l y =
    (omega (arith, h.leveled i d l, count_by_more_yes is_decision t.entries i d l y), omega (arith, h.level, level_le_all t.entries h.leveled i d l))

-- after a decision
pub AreChosen-decide : (t : TrailState) (assume : List Lit) (preferred chosen : List ℕ) (place : ℕ) (l : Lit) → IsTrail t → AreChosen t assume preferred chosen → MayChoose t assume preferred place l → AreChosen (with_decision t l) assume preferred (chosen ++ place ∷ [])
AreChosen-decide t assume preferred chosen place l h a m = record {
  count = length_push chosen place ∙ ap (λ n. n + 1) a.count;
  within = λ k w. elim (cases_lt k (length chosen)) [
    | inl u ↦ omega (arith, a.within k u, get_or_append_left chosen (place ∷ []) 0 k u)
    | inr u ↦ let e : length chosen ≡ k = omega (arith, u, w, length_push chosen place) in omega (arith, m.within, get_or_push chosen place 0 k e)
  ];
  choice = λ i d e k y z. elim (cases_lt i (length t.entries)) [
    | inl w ↦ old i d e w y z
    | inr w ↦ new i d e (omega (arith, w, k, length_push t.entries x)) z
  ];
  before = λ k j w b. elim (cases_lt k (length chosen)) [
    | inl u ↦ subst (λ es. IsPassed (values_of es) assume preferred j) (sym (up_to_push k t.entries x (omega (arith, u, a.count))))
        (a.before k j u (subst (λ n. j < n) (get_or_append_left chosen (place ∷ []) 0 k u) b))
    | inr u ↦ last k j (omega (arith, u, w, length_push chosen place)) b
  ];
}
  where
    x : Entry
    x = record { lit = l; decision_level = t.level + 1; reason = None }

    old : (i : ℕ) (d e : Entry) → i < length t.entries → is_decision (get_or (t.entries ++ x ∷ []) i d) ≡ true → get_or (chosen ++ place ∷ []) ((get_or (t.entries ++ x ∷ []) i d).decision_level - 1) 0 < end_of assume preferred → (get_or (t.entries ++ x ∷ []) i e).lit ≡ choice_at assume preferred (get_or (chosen ++ place ∷ []) ((get_or (t.entries ++ x ∷ []) i d).decision_level - 1) 0)
    old i d e w y z =
        let p = get_or_append_left t.entries (x ∷ []) d i w in
        let q = get_or_append_left t.entries (x ∷ []) e i w in
        let y' : is_decision (get_or t.entries i d) ≡ true = subst (λ (z : Entry). is_decision z ≡ true) p y in
        let bounds = decision_level_bounds t i d h w y' in
        let r : get_or (chosen ++ place ∷ []) ((get_or (t.entries ++ x ∷ []) i d).decision_level - 1) 0 ≡ get_or chosen ((get_or t.entries i d).decision_level - 1) 0 =
        ap (λ (z : Entry). get_or (chosen ++ place ∷ []) (z.decision_level - 1) 0) p ∙ get_or_append_left chosen (place ∷ []) 0 ((get_or t.entries i d).decision_level - 1) (omega (arith, bounds.0, bounds.1, a.count)) in
        ap (λ (z : Entry). z.lit) q ∙ (a.choice i d e w y' (subst (λ n. n < end_of assume preferred) r z) ∙ ap (choice_at assume preferred) (sym r))

    new : (i : ℕ) (d e : Entry) → length t.entries ≡ i → get_or (chosen ++ place ∷ []) ((get_or (t.entries ++ x ∷ []) i d).decision_level - 1) 0 < end_of assume preferred → (get_or (t.entries ++ x ∷ []) i e).lit ≡ choice_at assume preferred (get_or (chosen ++ place ∷ []) ((get_or (t.entries ++ x ∷ []) i d).decision_level - 1) 0)
    new i d e w z =
        let p = get_or_push t.entries x d i w in
        let q = get_or_push t.entries x e i w in
        let n : length chosen ≡ x.decision_level - 1 = omega (arith, a.count) in
        let r : get_or (chosen ++ place ∷ []) ((get_or (t.entries ++ x ∷ []) i d).decision_level - 1) 0 ≡ place =
        ap (λ (z : Entry). get_or (chosen ++ place ∷ []) (z.decision_level - 1) 0) p ∙ get_or_push chosen place 0 (x.decision_level - 1) n in
        ap (λ (z : Entry). z.lit) q ∙ (m.literal (subst (λ n. n < end_of assume preferred) r z) ∙ ap (choice_at assume preferred) (sym r))

    last : (k j : ℕ) → length chosen ≡ k → j < get_or (chosen ++ place ∷ []) k 0 → IsPassed (values_of (up_to k (t.entries ++ x ∷ []))) assume preferred j
    last k j u b =
        let all : up_to k (t.entries ++ x ∷ []) ≡ t.entries = up_to_push k t.entries x (omega (arith, u, a.count)) ∙ up_to_all t.entries k h.leveled (omega (arith, u, a.count, h.level)) in
        subst (λ es. IsPassed (values_of es) assume preferred j) (sym all) (m.passed j (subst (λ n. j < n) (get_or_push chosen place 0 k u) b))

-- after going back
pub AreChosen-back : (t : TrailState) (assume : List Lit) (preferred chosen : List ℕ) (k : ℕ) → IsTrail t → k ≤ t.level → AreChosen t assume preferred chosen → AreChosen (back_at t k) assume preferred (take k chosen)
AreChosen-back t assume preferred chosen k h low a = record {
  count = size;
  within = λ j w. let u : j < k = omega (arith, w, size) in omega (arith, a.within j (omega (arith, u, low, a.count)), get_or-take k chosen j 0 u);
  choice = λ i d e w y z.
      let q : i < length t.entries = omega (arith, w, up_to-length t.entries k) in
      let y' : is_decision (get_or t.entries i d) ≡ true = subst (λ (z : Entry). is_decision z ≡ true) (same i d w) y in
      let bounds = decision_level_bounds t i d h q y' in
      let under : (get_or t.entries i d).decision_level ≤ k = leb-true (get_or t.entries i d).decision_level k (subst (λ (z : Entry). leb z.decision_level k ≡ true) (same i d w) (filter_passes (λ (z : Entry). leb z.decision_level k) t.entries i d w)) in
      let r : get_or (take k chosen) ((get_or (up_to k t.entries) i d).decision_level - 1) 0 ≡ get_or chosen ((get_or t.entries i d).decision_level - 1) 0 =
      ap (λ (z : Entry). get_or (take k chosen) (z.decision_level - 1) 0) (same i d w) ∙ get_or-take k chosen ((get_or t.entries i d).decision_level - 1) 0 (omega (arith, bounds.0, under)) in
      ap (λ (z : Entry). z.lit) (same i e w) ∙ (a.choice i d e q y' (subst (λ n. n < end_of assume preferred) r z) ∙ ap (choice_at assume preferred) (sym r));
  before = λ j i w b.
      let u : j < k = omega (arith, w, size) in
      subst (λ es. IsPassed (values_of es) assume preferred i) (sym (up_to-up_to t.entries j k (omega (arith, u))))
      (a.before j i (omega (arith, u, low, a.count)) (subst (λ n. i < n) (get_or-take k chosen j 0 u) b));
}
  where
    size : length (take k chosen) ≡ k
    size = length-take-le k chosen (omega (arith, low, a.count))

    same : (i : ℕ) (d : Entry) → i < length (up_to k t.entries) → get_or (up_to k t.entries) i d ≡ get_or t.entries i d
    same i d w = ap (λ es. get_or es i d) (up_to_front t.entries k h.leveled) ∙ get_or-take (length (up_to k t.entries)) t.entries i d w

-- literals forced at the present level leave the entries of lower levels
up_to_forced : (old new : TrailState) (k : ℕ) → Propagates old new → k < old.level → up_to k new.entries ≡ up_to k old.entries
up_to_forced old new k p l =
    let n = length old.entries in
    let none : filter (λ (e : Entry). leb e.decision_level k) (drop n new.entries) ≡ [] =
    filter_none (λ (e : Entry). leb e.decision_level k) (drop n new.entries) (λ i d w.
    let q : n + i < length new.entries = omega (arith, length-drop n new.entries, w) in
    ap (λ (e : Entry). leb e.decision_level k) (get_or-drop n new.entries i d) ∙ lt-leb (get_or new.entries (n + i) d).decision_level k (omega (arith, p.leveled (n + i) d (omega arith) q, l))) in
    ap (up_to k) (sym (take-append-drop n new.entries))
    ∙ (filter-append (λ (e : Entry). leb e.decision_level k) (take n new.entries) (drop n new.entries)
    ∙ (ap (λ es. filter (λ (e : Entry). leb e.decision_level k) (take n new.entries) ++ es) none
    ∙ (append-nil (filter (λ (e : Entry). leb e.decision_level k) (take n new.entries)) ∙ ap (up_to k) p.prefix)))

some_no_decision : (o : Option ℕ) → is_some o ≡ true → is_none o ≡ true → ⊥
some_no_decision None s n = false≢true s
some_no_decision (Some x) s n = false≢true n

-- after propagation
pub AreChosen-propagates : (old new : TrailState) (assume : List Lit) (preferred chosen : List ℕ) → Propagates old new → AreChosen old assume preferred chosen → AreChosen new assume preferred chosen
AreChosen-propagates old new assume preferred chosen p a = record {
  count = a.count ∙ sym p.level;
  within = a.within;
  choice = λ i d e w y z. elim (cases_lt i (length old.entries)) [
    | inl u ↦ ap (λ (z : Entry). z.lit) (sym (same i e u)) ∙ (a.choice i d e u (subst (λ (z : Entry). is_decision z ≡ true) (sym (same i d u)) y) (subst (λ (w : Entry). get_or chosen (w.decision_level - 1) 0 < end_of assume preferred) (sym (same i d u)) z) ∙ ap (λ (z : Entry). choice_at assume preferred (get_or chosen (z.decision_level - 1) 0)) (same i d u))
    | inr u ↦ absurd (some_no_decision (get_or new.entries i d).reason (p.reasoned i d u w) y)
  ];
  before = λ k j w b. subst (λ es. IsPassed (values_of es) assume preferred j) (sym (up_to_forced old new k p (omega (arith, w, a.count)))) (a.before k j w b);
}
  where
    same : (i : ℕ) (d : Entry) → i < length old.entries → get_or old.entries i d ≡ get_or new.entries i d
    same i d u = ap (λ es. get_or es i d) (sym p.prefix) ∙ get_or-take (length old.entries) new.entries i d u

-- the last decision among the first n entries
record IsLastDecision (es : List Entry) (n : ℕ) : Type 0 where
  place : ℕ
  under : place < n
  decision : (d : Entry) → is_decision (get_or es place d) ≡ true
  count : decisions (take (place + 1) es) ≡ decisions (take n es)

last_decision : (es : List Entry) (n : ℕ) → n ≤ length es → 1 ≤ decisions (take n es) → IsLastDecision es n
last_decision es zero l h = absurd (omega (arith, h, count_by-le-length is_decision (take 0 es)))
last_decision es (suc n) l h =
    let k : n < length es = omega arith in
    let e : n + 1 ≡ suc n = omega arith in
    ⊎_elim
    (λ y. record { place = n; under = omega arith; decision = λ d. ap is_decision (get_or_default es n d no_entry k) ∙ y; count = ap (λ j. decisions (take j es)) e })
    (λ y. let same : decisions (take (n + 1) es) ≡ decisions (take n es) = count_by_more_no is_decision es n no_entry k y in
    let whole : decisions (take (suc n) es) ≡ decisions (take n es) = ap (λ j. decisions (take j es)) (sym e) ∙ same in
    let r = last_decision es n (omega arith) (omega (arith, h, whole)) in
    record { place = r.place; under = omega (arith, r.under); decision = r.decision; count = r.count ∙ sym whole })
    (cases_Bool (is_decision (get_or es n no_entry)))

-- what was passed by the entries up to a level is passed
passed_up : (t : TrailState) (assume : List Lit) (preferred : List ℕ) (k place : ℕ) → IsTrail t → IsPassed (values_of (up_to k t.entries)) assume preferred place → IsPassed (values_of t.entries) assume preferred place
passed_up t assume preferred k place h p = record {
  valued = is_some-split (values_of (up_to k t.entries) (choice_at assume preferred place).var) p.valued (is_some (values_of t.entries (choice_at assume preferred place).var) ≡ true) (λ b s. ap is_some (values-up_to_some t.entries k (choice_at assume preferred place).var b h.leveled s));
  assumed = λ l. values-up_to_some t.entries k (choice_at assume preferred place).var (not (choice_at assume preferred place).negated) h.leveled (p.assumed l);
}

-- the places up to the last decision's are passed
pub PassedTo-chosen : (t : TrailState) (assume : List Lit) (preferred chosen : List ℕ) (from : ℕ) → IsTrail t → AreChosen t assume preferred chosen → (length chosen ≡ 0 → from ≡ 0) → (1 ≤ length chosen → (from ≤ get_or chosen (length chosen - 1) 0 + 1) × (from ≤ end_of assume preferred)) → PassedTo t assume preferred from
PassedTo-chosen t assume preferred chosen from h a none some place l =
    elim (cases_lt 0 (length chosen)) [
      | inl b ↦ at_some (omega (arith, b)) (some (omega (arith, b)))
      | inr b ↦ let e = none (omega (arith, b)) in absurd (omega (arith, e, l))
    ]
  where
    at_some : 1 ≤ length chosen → (from ≤ get_or chosen (length chosen - 1) 0 + 1) × (from ≤ end_of assume preferred) → IsPassed (values_of t.entries) assume preferred place
    at_some b e = elim (cases_lt place (get_or chosen (length chosen - 1) 0)) [
      | inl u ↦ passed_up t assume preferred (length chosen - 1) place h (a.before (length chosen - 1) place (omega (arith, b)) u)
      | inr u ↦
          let all : decisions (take (length t.entries) t.entries) ≡ t.level = ap decisions (take_all (length t.entries) t.entries (omega arith)) ∙ sym h.level in
          let r = last_decision t.entries (length t.entries) (omega arith) (omega (arith, b, a.count, all)) in
          let lev : (get_or t.entries r.place no_entry).decision_level ≡ t.level = h.leveled r.place no_entry r.under ∙ (r.count ∙ all) in
          let n : length chosen - 1 ≡ (get_or t.entries r.place no_entry).decision_level - 1 = omega (arith, lev, a.count) in
          let here : place ≡ get_or chosen (length chosen - 1) 0 = omega (arith, u, e.0, l) in
          let q : place ≡ get_or chosen ((get_or t.entries r.place no_entry).decision_level - 1) 0 = here ∙ ap (λ j. get_or chosen j 0) n in
          let lit : (get_or t.entries r.place no_entry).lit ≡ choice_at assume preferred place = a.choice r.place no_entry no_entry r.under (r.decision no_entry) (subst (λ n. n < end_of assume preferred) q (omega (arith, e.1, l))) ∙ ap (choice_at assume preferred) (sym q) in
          let holds : IsTrueIn (values_of t.entries) (choice_at assume preferred place) = subst (IsTrueIn (values_of t.entries)) lit (true_at t r.place no_entry h r.under) in
          record { valued = ap is_some holds; assumed = λ m. holds }
    ]
