-- Going back to a level.
use Rattle.std.proofs.Common.{◌≡◌, ℕ, ◌+◌, ◌-◌, ◌<◌, ◌≤◌, true, not, leb, List, [], ◌∷◌, ◌++◌, length, get_or, set, take, drop, Option, Some, None, refl, sym, ap, ◌∙◌, subst, arith, inl, inr}
use Rattle.std.specs.Prelude.{is_some}
use Rattle.std.specs.List.{filter, count_by}
use Rattle.std.proofs.lemmas.Bool.{cases_lt, cases_eq, le-leb, lt-leb}
use Rattle.std.proofs.lemmas.List.{take-take, take-append-drop, get_or-take, get_or-drop, length-take-le, length-drop, append-nil, take_more, same_from_push, length_push, length-set, get_or-set_same, get_or-set_other}
use Rattle.std.proofs.lemmas.List.Elements.{filter-append}
use Rattle.std.proofs.lemmas.List.Sums.{count_by_more_yes}
use Rattle.loc_base.proofs.ShelfOptions.{option_map-none}
use Rattle.trail_core.specs.declared.entry.Entry.{Entry}
use Rattle.trail_core.specs.Values.{IsVariable}
use Rattle.trail_core.specs.TrailState.{TrailState, IsTrail, IsJustified, AllRest, back_at, entry_of, values_of, up_to, decisions, is_decision}
use Rattle.trail_core.specs.Layout.{IsIndex, AreStarts, AreNew}
use Rattle.trail_core.proofs.Lists.{filter_all, filter_none, count_by-take-le, count_by-set_fails}
use Rattle.trail_core.proofs.Levels.{IsLeveled, up_to_all, up_to-up_to}
use Rattle.trail_core.proofs.LayoutLemmas.{entry_of_push_same, entry_of_push_other}

-- where a level's decision stands: k decisions stand before it
pub record IsStart (es : List Entry) (k m : ℕ) : Type 0 where
  pub within : m < length es
  pub decision : (d : Entry) → is_decision (get_or es m d) ≡ true
  pub count : decisions (take m es) ≡ k

start_of : (starts : List ℕ) (es : List Entry) (k : ℕ) → AreStarts starts es → k < length starts → IsStart es k (get_or starts k 0)
start_of starts es k h l = record { within = h.within k l; decision = λ d. h.decision k d l; count = h.count k l }

-- the entries up to the level are those before the next level's decision
pub up_to_start : (es : List Entry) (k m : ℕ) → IsLeveled es → IsStart es k m → up_to k es ≡ take m es
up_to_start es k m h s =
    let low : filter (λ e. leb e.decision_level k) (take m es) ≡ take m es =
    filter_all (λ e. leb e.decision_level k) (take m es) (λ i d l.
    let q : length (take m es) ≡ m = length-take-le m es (omega (arith, s.within)) in
    let b : get_or (take m es) i d ≡ get_or es i d = get_or-take m es i d (omega (arith, q)) in
    rw b (le-leb _ _ (omega (arith, h i d (omega (arith, q, s.within)), s.count, count_by-take-le is_decision es (i + 1) m (omega (arith, q)))))) in
    let high : filter (λ e. leb e.decision_level k) (drop m es) ≡ [] =
    filter_none (λ e. leb e.decision_level k) (drop m es) (λ i d l.
    let q : m + i < length es = omega (arith, length-drop m es) in
    let b : get_or (drop m es) i d ≡ get_or es (m + i) d = get_or-drop m es i d in
    let next : decisions (take (m + 1) es) ≡ decisions (take m es) + 1 = count_by_more_yes is_decision es m d s.within (s.decision d) in
    rw b (lt-leb _ _ (omega (arith, h (m + i) d q, next, s.count, count_by-take-le is_decision es (m + 1) (m + i + 1) (omega arith))))) in
    ap (filter (λ e. leb e.decision_level k)) (sym (take-append-drop m es))
    ∙ (filter-append (λ e. leb e.decision_level k) (take m es) (drop m es) ∙ rw (low, high) (append-nil (take m es)))

-- a front of a trail, at its level
front_of : (t : TrailState) (k m : ℕ) → IsTrail t → k ≤ t.level → m ≤ length t.entries → up_to k t.entries ≡ take m t.entries → decisions (take m t.entries) ≡ k → IsTrail record { vars = t.vars; clauses = t.clauses; entries = take m t.entries; level = k }
front_of t k m h l w e c =
    let size : length (take m t.entries) ≡ m = length-take-le m t.entries w in
    record {
      within = h.within;
      distinct = h.distinct;
      justified = λ place d p.
          let q : place < m = omega (arith, size) in
          subst (λ xs. IsJustified t.vars t.clauses xs (get_or (take m t.entries) place d)) (sym (take-take place m t.entries (omega arith)))
          (subst (λ x. IsJustified t.vars t.clauses (take place t.entries) x) (sym (get_or-take m t.entries place d q)) (h.justified place d (omega arith)));
      leveled = λ place d p.
          let q : place < m = omega (arith, size) in
          rw (get_or-take m t.entries place d q, take-take (place + 1) m t.entries (omega arith)) (h.leveled place d (omega arith));
      level = sym c;
      small = h.small;
      few = omega (arith, h.few, size);
      rests = λ j p. subst (λ es. AllRest t.clauses (values_of es)) (sym (ap (up_to j) (sym e) ∙ up_to-up_to t.entries j k (omega arith))) (h.rests j (omega arith));
    }

-- going back to a level below the present one
pub IsTrail-back_at : (t : TrailState) (k m : ℕ) → IsTrail t → k ≤ t.level → IsStart t.entries k m → IsTrail (back_at t k)
IsTrail-back_at t k m h l s =
    let e = up_to_start t.entries k m h.leveled s in
    subst (λ es. IsTrail record { vars = t.vars; clauses = t.clauses; entries = es; level = k }) (sym e) (front_of t k m h l (omega (arith, s.within)) e s.count)

-- going back to the present level
pub back_at_same : (t : TrailState) (k : ℕ) → IsTrail t → k ≡ t.level → back_at t k ≡ t
back_at_same t k h q = rw (q, up_to_all t.entries t.level h.leveled (omega (arith, h.level))) refl

-- the starts of the levels that are left
pub AreStarts-take : (starts : List ℕ) (es : List Entry) (k : ℕ) → AreStarts starts es → k < length starts → AreStarts (take k starts) (take (get_or starts k 0) es)
AreStarts-take starts es k h l = record {
  within = λ j p. let q : j < k = omega (arith, size) in rw (get_or-take k starts j 0 q) (omega (arith, below j q, long));
  decision = λ j d p. let q : j < k = omega (arith, size) in rw (get_or-take k starts j 0 q, get_or-take (get_or starts k 0) es (get_or starts j 0) d (below j q)) (h.decision j d (omega arith));
  count = λ j p. let q : j < k = omega (arith, size) in rw (get_or-take k starts j 0 q, take-take (get_or starts j 0) (get_or starts k 0) es (omega (arith, below j q))) (h.count j (omega arith));
}
  where
    size : length (take k starts) ≡ k
    size = length-take-le k starts (omega arith)

    long : length (take (get_or starts k 0) es) ≡ get_or starts k 0
    long = length-take-le (get_or starts k 0) es (omega (arith, h.within k l))

    below : (j : ℕ) → j < k → get_or starts j 0 < get_or starts k 0
    below j q =
        elim (cases_lt (get_or starts j 0) (get_or starts k 0)) [
          | inl b ↦ b
          | inr b ↦ absurd (omega (arith, h.count j (omega arith), h.count k l, count_by-take-le is_decision es (get_or starts k 0) (get_or starts j 0) b))
        ]

pub new_entries : (t : TrailState) → IsTrail t → AreNew t.vars t.entries
new_entries t h place d l =
    ((h.justified place d l).variable, option_map-none (λ (e : Entry). not e.lit.negated) (entry_of (take place t.entries) (get_or t.entries place d).lit.var) (h.justified place d l).unassigned)

-- the table without the last entry
pub IsIndex-pop : (table : List (Option Entry)) (es : List Entry) (e : Entry) → IsIndex table (es ++ e ∷ []) → IsVariable (length table) e.lit.var → entry_of es e.lit.var ≡ None → IsIndex (set table (e.lit.var - 1) None) es
IsIndex-pop table es e h v n i l =
    let m : i < length table = omega (arith, l, length-set table (e.lit.var - 1) None) in
    elim (cases_eq i (e.lit.var - 1)) [
      | inl q ↦ let w : e.lit.var ≡ i + 1 = omega (arith, v.above) in
          let low : e.lit.var - 1 < length table = omega (arith, v.above, v.within) in
          rw q (get_or-set_same table (e.lit.var - 1) None None low) ∙ sym (ap (entry_of es) (sym w) ∙ n)
      | inr o ↦ get_or-set_other table (e.lit.var - 1) i None None o ∙ (h i m ∙ entry_of_push_other es e (i + 1) (λ q. o (omega arith)))
    ]

-- the slot of the last entry is taken
pub counted_pop : (table : List (Option Entry)) (es : List Entry) (e : Entry) → IsIndex table (es ++ e ∷ []) → IsVariable (length table) e.lit.var → entry_of es e.lit.var ≡ None → count_by is_some table ≡ length (es ++ e ∷ []) → count_by is_some (set table (e.lit.var - 1) None) ≡ length es
counted_pop table es e h v n c =
    let q : e.lit.var - 1 + 1 ≡ e.lit.var = omega (arith, v.above) in
    let slot : get_or table (e.lit.var - 1) None ≡ Some e = h (e.lit.var - 1) (omega (arith, v.above, v.within)) ∙ entry_of_push_same es e (e.lit.var - 1 + 1) (sym q) (ap (entry_of es) q ∙ n) in
    let some : is_some (get_or table (e.lit.var - 1) None) ≡ true = rw slot refl in
    omega (arith, c, length_push es e, count_by-set_fails is_some table (e.lit.var - 1) None None (omega (arith, v.above, v.within)) some refl)

-- the variable of the last of the first entries
pub last_variable : (all es left : List Entry) (vars m : ℕ) (e : Entry) → AreNew vars all → 1 ≤ m → m ≤ length all
    → es ≡ take m all → es ≡ left ++ e ∷ [] → IsVariable vars e.lit.var
last_variable all es left vars m e new some within front pushed =
    let n : ℕ = m - 1 in
    let number : m ≡ n + 1 = omega arith in
    let more = ap (λ k. take k all) number ∙ take_more all n e (omega arith) in
    let both = same_from_push left (take n all) e (get_or all n e) (sym pushed ∙ (front ∙ more)) in
    subst (λ (x : Entry). IsVariable vars x.lit.var) (sym both.1) (new n e (omega arith)).0

-- one entry taken off the first n + 1 of the entries, and out of the table
pub record Pops (all : List Entry) (table : List (Option Entry)) (n : ℕ) (left : List Entry) (e : Entry) : Type 0 where
  pub left_is : left ≡ take n all
  pub variable : IsVariable (length table) e.lit.var
  pub index : IsIndex (set table (e.lit.var - 1) None) left
  pub counted : count_by is_some (set table (e.lit.var - 1) None) ≡ length left

pub pops : (all es left : List Entry) (table : List (Option Entry)) (n : ℕ) (e : Entry) → AreNew (length table) all → n < length all → es ≡ take (n + 1) all → es ≡ left ++ e ∷ [] → IsIndex table es → count_by is_some table ≡ length es → Pops all table n left e
pops all es left table n e h l q p i c =
    let both = same_from_push left (take n all) e (get_or all n e) (sym p ∙ (q ∙ take_more all n e l)) in
    let variable : IsVariable (length table) e.lit.var = subst (λ (x : Entry). IsVariable (length table) x.lit.var) (sym both.1) (h n e l).0 in
    let new : entry_of left e.lit.var ≡ None = ap (λ xs. entry_of xs e.lit.var) both.0 ∙ (ap (λ (x : Entry). entry_of (take n all) x.lit.var) both.1 ∙ (h n e l).1) in
    let i' : IsIndex table (left ++ e ∷ []) = subst (IsIndex table) p i in
    record {
      left_is = both.0;
      variable = variable;
      index = IsIndex-pop table left e i' variable new;
      counted = counted_pop table left e i' variable new (c ∙ ap length p);
    }
