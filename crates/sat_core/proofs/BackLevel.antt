-- The level to which the trail goes back, where a learned clause is unit.
use Rattle.std.proofs.Common.{◌≡◌, ◌≢◌, ℕ, ◌+◌, ◌-◌, ◌<◌, ◌≤◌, max, cond, ltb, Bool, true, false, eqb, leb, List, [], ◌∷◌, ◌++◌, length, get_or, take, Option, Some, None, refl, sym, ap, ◌∙◌, subst, arith, ◌⊎◌, inl, inr, ⊎_elim}
use Rattle.std.specs.Prelude.{unwrap_or}
use Rattle.std.specs.Ordering.{nat_cmp, ord_max, is_lt}
use Rattle.std.specs.declared.cmp.Ordering.TheVariants.{Equal, Greater}
use Rattle.std.specs.Option.{option_map}
use Rattle.std.proofs.lemmas.Option.{same_Some}
use Rattle.std.proofs.lemmas.Bool.{false≢true, both_ways, cases_lt, or_cases, or_left, or_right, le-leb, eq-eqb, lt-ltb, le-ltb}
use Rattle.std.proofs.lemmas.List.{take_at, take_all, take_more, length_push}
use Rattle.clause_base.specs.declared.literal.Lit.{Lit}
use Rattle.clause_base.specs.Literal.{same_lit, has}
use Rattle.clause_base.proofs.Sets.{same_lit-true, same_lit_itself, has-push}
use Rattle.trail_core.specs.declared.entry.Entry.{Entry}
use Rattle.trail_core.specs.Values.{IsUnit}
use Rattle.trail_core.specs.TrailState.{TrailState, IsTrail, MayAdd, at_start, asserting, back_at, entry_of, values_of, level_in, up_to}
use Rattle.trail_core.proofs.Truth.{mapped}
use Rattle.trail_core.proofs.Changes.{unassigned_below}
use Rattle.sat_core.specs.Derivation.{has_level, is_present, Learns}
use Rattle.sat_core.proofs.Learning.{find-filter, value_below}
use Rattle.sat_core.proofs.FreshLemmas.{lower_level}

-- the level is the greatest of those of the literals, or 0
pub record IsGreatest (t : TrailState) (part : List Lit) (level : ℕ) : Type 0 where
  pub each : (l : Lit) (j : ℕ) → has part l ≡ true → level_in t.entries l.var ≡ Some j → j ≤ level
  pub reached : (level ≡ 0) ⊎ ((l : Lit) × (has part l ≡ true) × (level_in t.entries l.var ≡ Some level))

pub IsGreatest-none : (t : TrailState) → IsGreatest t [] 0
IsGreatest-none t = record { each = λ l j h. absurd (false≢true h); reached = inl refl }

at_level : (t : TrailState) (part : List Lit) (x : Lit) (level : ℕ) (o : Option ℕ) → level_in t.entries x.var ≡ o → IsGreatest t part level → IsGreatest t (part ++ x ∷ []) (max level (unwrap_or o 0))
at_level t part x level None q g = record {
  each = λ l j h s. ⊎_elim
      (λ y. omega (arith, g.each l j y s))
      (λ y. let bad : None ≡ Some j = sym q ∙ (ap (λ (m : Lit). level_in t.entries m.var) (same_lit-true x l y) ∙ s) in cc)
      (or_cases (has part l) (same_lit x l) (sym (has-push part x l) ∙ h));
  reached = ⊎_elim (λ z. inl (omega (arith, z)))
      (λ r. let e : max level 0 ≡ level = omega arith in inr (r.0, has-push part x r.0 ∙ or_left (has part r.0) (same_lit x r.0) r.1, r.2 ∙ ap Some (sym e))) g.reached;
}
at_level t part x level (Some k) q g = record {
  each = λ l j h s. ⊎_elim
      (λ y. omega (arith, g.each l j y s))
      (λ y. let same : k ≡ j = same_Some k j (sym q ∙ (ap (λ (m : Lit). level_in t.entries m.var) (same_lit-true x l y) ∙ s)) in omega (arith, same))
      (or_cases (has part l) (same_lit x l) (sym (has-push part x l) ∙ h));
  reached = elim (cases_lt level k) [
    | inl b ↦ let e : max level k ≡ k = omega (arith, b) in inr (x, has-push part x x ∙ or_right (has part x) (same_lit x x) (same_lit_itself x), q ∙ ap Some (sym e))
    | inr b ↦ let e : max level k ≡ level = omega (arith, b) in
        ⊎_elim (λ z. inl (e ∙ z)) (λ r. inr (r.0, has-push part x r.0 ∙ or_left (has part r.0) (same_lit x r.0) r.1, r.2 ∙ ap Some (sym e))) g.reached
  ];
}

-- a literal more, as the loop sees it
pub IsGreatest-more : (t : TrailState) (literals : List Lit) (i : ℕ) (d : Lit) (level after : ℕ) (r : Option ℕ) → i < length literals → IsGreatest t (take i literals) level → r ≡ level_in t.entries (get_or literals i d).var → after ≡ max level (unwrap_or r 0) → IsGreatest t (take (i + 1) literals) after
IsGreatest-more t literals i d level after r l g q e =
    subst (λ part. IsGreatest t part after) (sym (take_more literals i d l)) (subst (IsGreatest t (take i literals ++ get_or literals i d ∷ [])) (sym e)
    (at_level t (take i literals) (get_or literals i d) level r (sym q) g))

level_below : (t : TrailState) (v j k : ℕ) → level_in t.entries v ≡ Some j → j ≤ k → level_in (up_to k t.entries) v ≡ Some j
level_below t v j k h l =
    let m = mapped (λ (x : Entry). x.decision_level) (entry_of t.entries v) j h in
    ap (option_map (λ (x : Entry). x.decision_level)) (find-filter (λ (x : Entry). eqb x.lit.var v) (λ (x : Entry). leb x.decision_level k) t.entries m.value m.is (le-leb m.value.decision_level k (omega (arith, l, m.gives)))) ∙ ap Some m.gives

-- the literals but the last
pub lower_is : (t : TrailState) (marks : List Bool) (literals : List Lit) (chain : List ℕ) (r : Learns t marks literals chain) → take (length literals - 1) literals ≡ r.lower
lower_is t marks literals chain r =
    let n : length r.lower ≡ length literals - 1 = omega (arith, ap length r.split, length_push r.lower r.tells) in
    ap (take (length literals - 1)) r.split ∙ take_at r.lower (r.tells ∷ []) (length literals - 1) n

-- the level is below the present one
pub greatest_below : (t : TrailState) (marks : List Bool) (literals : List Lit) (chain : List ℕ) (level : ℕ) (r : Learns t marks literals chain) → IsTrail t → 1 ≤ t.level → IsGreatest t r.lower level → level < t.level
greatest_below t marks literals chain level r h p g =
    ⊎_elim (λ z. omega (arith, z, p))
    (λ m. let o = r.others m.0 m.1 in let s = lower_level t m.0 h o.0 o.1 in
    let same : s.0 ≡ level = same_Some s.0 level (sym s.1 ∙ m.2) in omega (arith, same, s.2)) g.reached

-- gone back to the level, the clause may be added
pub greatest_may : (t : TrailState) (marks : List Bool) (literals : List Lit) (chain : List ℕ) (level : ℕ) (r : Learns t marks literals chain) → IsTrail t → 1 ≤ t.level → IsGreatest t r.lower level → MayAdd (back_at t level) literals
greatest_may t marks literals chain level r h p g = ⊎_elim (λ z. at_start z) (λ m. asserting r.tells m.0 unit (in_whole m.0 m.1) (other m.0 m.1) (level_below t m.0.var level level m.2 (omega arith))) g.reached
  where
    below : level < t.level
    below = greatest_below t marks literals chain level r h p g

    here : is_present t r.tells.var ≡ true
    here = ap (λ o. has_level o t.level) r.level ∙ eq-eqb t.level t.level refl

    in_whole : (l : Lit) → has r.lower l ≡ true → has literals l ≡ true
    in_whole l q = ap (λ ls. has ls l) r.split ∙ (has-push r.lower r.tells l ∙ or_left (has r.lower l) (same_lit r.tells l) q)

    other : (l : Lit) → has r.lower l ≡ true → l.var ≢ r.tells.var
    other l q e = both_ways (is_present t l.var) (r.others l q).1 (ap (is_present t) e ∙ here)

    unit : IsUnit (values_of (up_to level t.entries)) literals r.tells
    unit = record {
      member = ap (λ ls. has ls r.tells) r.split ∙ (has-push r.lower r.tells r.tells ∙ or_right (has r.lower r.tells) (same_lit r.tells r.tells) (same_lit_itself r.tells));
      unassigned = unassigned_below t r.tells.var level t.level h r.level below;
      others = λ l q n. ⊎_elim
          (λ y. let o = r.others l y in let s = lower_level t l h o.0 o.1 in value_below t l.var s.0 level s.1 (g.each l s.0 y s.1) ∙ o.0)
          (λ y. absurd (n (ap (λ (x : Lit). x.var) (sym (same_lit-true r.tells l y)))))
          (or_cases (has r.lower l) (same_lit r.tells l) (sym (has-push r.lower r.tells l) ∙ (ap (λ ls. has ls l) (sym r.split) ∙ q)));
    }

-- the level of all literals but the last, as the loop leaves it
pub whole_lower : (t : TrailState) (marks : List Bool) (literals slice : List Lit) (chain : List ℕ) (n i level : ℕ) (r : Learns t marks literals chain) → slice ≡ literals → n ≡ length literals → length (take (n - 1) slice) ≤ i → IsGreatest t (take i (take (n - 1) slice)) level → IsGreatest t r.lower level
whole_lower t marks literals slice chain n i level r p q l g =
    let e : take (n - 1) slice ≡ r.lower = ap (take (n - 1)) p ∙ (ap (λ k. take (k - 1) literals) q ∙ lower_is t marks literals chain r) in
    subst (λ part. IsGreatest t part level) (take_all i (take (n - 1) slice) l ∙ e) g

not_less : (e : Bool) (a b : ℕ) → cond (is_lt (cond e Equal Greater)) a b ≡ b
not_less true a b = refl
not_less false a b = refl

pub ord_max_is : (a b : ℕ) → ord_max nat_cmp a b ≡ max a b
ord_max_is a b = elim (cases_lt b a) [
  | inl l ↦ let t : ltb b a ≡ true = lt-ltb b a l in rw t (omega (arith, l))
  | inr l ↦ let t : ltb b a ≡ false = le-ltb b a l in let m : max a b ≡ b = omega (arith, l) in rw t (not_less (eqb b a) a b ∙ sym m)
]
