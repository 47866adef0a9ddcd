-- A trail with no unassigned variable gives the lexicographically greatest values of the preferred variables.
use Rattle.std.proofs.Common.{◌≡◌, ℕ, ◌+◌, ◌-◌, ◌<◌, ◌≤◌, Bool, true, false, not, cond, eqb, leb, List, length, get_or, take, Some, sym, ap, ◌∙◌, subst, arith, inl, inr}
use Rattle.std.specs.Prelude.{is_some}
use Rattle.std.specs.Option.{option_map}
use Rattle.std.proofs.lemmas.Option.{same_Some}
use Rattle.std.proofs.lemmas.Bool.{false≢true, cases_lt, leb-true}
use Rattle.std.proofs.lemmas.List.{get_or_default}
use Rattle.std.proofs.lemmas.List.Elements.{filter_passes}
use Rattle.std.proofs.lemmas.List.Sums.{count_by_more_yes}
use Rattle.loc_base.proofs.ShelfOptions.{is_some-split}
use Rattle.clause_base.specs.declared.literal.Lit.{Lit}
use Rattle.clause_base.specs.Literal.{positive}
use Rattle.clause_base.specs.Satisfaction.{value_of, is_satisfied}
use Rattle.clause_base.specs.Acceptance.{numbered}
use Rattle.trail_core.specs.declared.entry.Entry.{Entry}
use Rattle.trail_core.specs.TrailState.{TrailState, IsTrail, IsNumber, entry_of, values_of, level_in, up_to, is_decision, decisions}
use Rattle.trail_core.proofs.Lists.{find_found, find-take_some}
use Rattle.trail_core.proofs.Levels.{level_le, level_le_all, up_to_front}
use Rattle.trail_core.proofs.Truth.{mapped}
use Rattle.sat_core.specs.Choices.{choice_at, no_literal, AreChosen}
use Rattle.sat_core.specs.Explaining.{IsDecidedBefore, assumed, preferred_before}
use Rattle.sat_core.proofs.OrderLemmas.{choice_assume, choice_prefer}
use Rattle.sat_core.proofs.Tracking.{entry_at}
use Rattle.sat_core.proofs.Resolving.{no_entry, true_at}
use Rattle.sat_core.proofs.Entailment.{agrees_to}

-- a value up to a level has a level up to it
level_up_to : (t : TrailState) (k v : ℕ) (b : Bool) → IsTrail t → values_of (up_to k t.entries) v ≡ Some b → (j : ℕ) × (level_in t.entries v ≡ Some j) × (j ≤ k)
level_up_to t k v b h s =
    let m = mapped (λ (x : Entry). not x.lit.negated) (entry_of (up_to k t.entries) v) b s in
    let r = find_found (λ (x : Entry). eqb x.lit.var v) (up_to k t.entries) m.value m.is in
    let low : leb m.value.decision_level k ≡ true = subst (λ (x : Entry). leb x.decision_level k ≡ true) (r.is no_entry) (filter_passes (λ (x : Entry). leb x.decision_level k) t.entries r.place no_entry r.within) in
    let whole : entry_of t.entries v ≡ Some m.value = find-take_some (λ (x : Entry). eqb x.lit.var v) t.entries (length (up_to k t.entries)) m.value (subst (λ xs. entry_of xs v ≡ Some m.value) (up_to_front t.entries k h.leveled) m.is) in
    (m.value.decision_level, ap (option_map (λ (x : Entry). x.decision_level)) whole, leb-true m.value.decision_level k low)

-- what an assignment must meet to be compared
pub record IsRival (t : TrailState) (assume : List Lit) (preferred : List ℕ) (other : ℕ → Bool) (i : ℕ) : Type 0 where
  pub clauses : (n : ℕ) → IsNumber t.clauses n → is_satisfied other (numbered t.clauses n) ≡ true
  pub assumed : (k : ℕ) (c : Lit) → k < length assume → value_of other (get_or assume k c) ≡ true
  pub same : (j : ℕ) → j < i → values_of t.entries (get_or preferred j 0) ≡ Some (other (get_or preferred j 0))

-- the decisions up to the entry of a false preferred variable are assumptions, and preferred variables before it
pub decided_before : (t : TrailState) (assume : List Lit) (preferred chosen : List ℕ) (i place : ℕ) → IsTrail t → AreChosen t assume preferred chosen → i < length preferred → place < length t.entries → values_of t.entries (get_or preferred i 0) ≡ Some false → ((d : Entry) → level_in t.entries (get_or preferred i 0) ≡ Some (get_or t.entries place d).decision_level) → (q : ℕ) (d : Entry) → q < place + 1 → is_decision (get_or t.entries q d) ≡ true → IsDecidedBefore assume preferred i (get_or t.entries q d).lit
decided_before t assume preferred chosen i place h a l k f s q d low y =
    elim (cases_lt (length assume + i) x) [ inl b ↦ absurd (too_late b) | inr b ↦ early b ]
  where
    x : ℕ
    x = get_or chosen ((get_or t.entries q d).decision_level - 1) 0

    within : q < length t.entries
    within = omega (arith, low, k)

    level : (get_or t.entries q d).decision_level ≡ decisions (take q t.entries) + 1
    level = h.leveled q d within ∙ count_by_more_yes is_decision t.entries q d within y

    number : (get_or t.entries q d).decision_level - 1 < length chosen
    number = omega (arith, level, a.count, h.level, level_le_all t.entries h.leveled q d within)

    too_late : length assume + i < x → ⊥
    too_late b =
        let p : length assume + i - length assume ≡ i = omega arith in
        let var : choice_at assume preferred (length assume + i) ≡ positive (get_or preferred i 0) = choice_prefer assume preferred (length assume + i) (omega arith) ∙ ap (λ n. positive (get_or preferred n 0)) p in
        is_some-split (values_of (up_to ((get_or t.entries q d).decision_level - 1) t.entries) (get_or preferred i 0))
        (subst (λ (c : Lit). is_some (values_of (up_to ((get_or t.entries q d).decision_level - 1) t.entries) c.var) ≡ true) var (a.before ((get_or t.entries q d).decision_level - 1) (length assume + i) number b).valued) ⊥
        (λ v w. let z = level_up_to t ((get_or t.entries q d).decision_level - 1) (get_or preferred i 0) v h w in
        let same : z.0 ≡ (get_or t.entries place d).decision_level = same_Some z.0 (get_or t.entries place d).decision_level (sym z.1 ∙ s d) in
        absurd (omega (arith, z.2, same, level, level_le t.entries h.leveled q place d (omega (arith, low)) k)))

    literal : x ≤ length assume + i → (get_or t.entries q d).lit ≡ choice_at assume preferred x
    literal b = a.choice q d d within y (omega (arith, b, l))

    early : x ≤ length assume + i → IsDecidedBefore assume preferred i (get_or t.entries q d).lit
    early b =
        elim (cases_lt x (length assume)) [
          | inl c ↦ assumed x c (λ e. literal b ∙ (choice_assume assume preferred x c ∙ get_or_default assume x no_literal e c))
          | inr c ↦ at_preferred (x - length assume) (omega (arith, b, c)) (literal b ∙ choice_prefer assume preferred x c)
        ]
      where
        at_preferred : (j : ℕ) → j ≤ i → (get_or t.entries q d).lit ≡ positive (get_or preferred j 0) → IsDecidedBefore assume preferred i (get_or t.entries q d).lit
        at_preferred j b m = elim (cases_lt j i) [
          | inl c ↦ preferred_before j c m
          | inr c ↦ let w : j ≡ i = omega (arith, b, c) in
              let v : values_of t.entries (get_or preferred j 0) ≡ Some true = subst (λ (c : Lit). values_of t.entries c.var ≡ Some (not c.negated)) m (true_at t q d h within) in
              let bad : Some true ≡ Some false = sym v ∙ (ap (λ n. values_of t.entries (get_or preferred n 0)) w ∙ f) in absurd (false≢true (sym (same_Some true false bad)))
        ]

-- the decisions up to the entry of a false preferred variable hold in a rival
decisions_hold : (t : TrailState) (assume : List Lit) (preferred chosen : List ℕ) (other : ℕ → Bool) (i place : ℕ) → IsTrail t → AreChosen t assume preferred chosen → IsRival t assume preferred other i → i < length preferred → place < length t.entries → values_of t.entries (get_or preferred i 0) ≡ Some false → ((d : Entry) → level_in t.entries (get_or preferred i 0) ≡ Some (get_or t.entries place d).decision_level) → (q : ℕ) (d : Entry) → q < place + 1 → is_decision (get_or t.entries q d) ≡ true → value_of other (get_or t.entries q d).lit ≡ true
decisions_hold t assume preferred chosen other i place h a r l k f s q d low y =
    at (decided_before t assume preferred chosen i place h a l k f s q d low y)
  where
    at : IsDecidedBefore assume preferred i (get_or t.entries q d).lit → value_of other (get_or t.entries q d).lit ≡ true
    at (assumed x c e) = subst (λ (m : Lit). value_of other m ≡ true) (sym (e no_literal)) (r.assumed x no_literal c)
    at (preferred_before j c m) =
        let v : values_of t.entries (get_or preferred j 0) ≡ Some true = subst (λ (c : Lit). values_of t.entries c.var ≡ Some (not c.negated)) m (true_at t q d h (omega (arith, low, k))) in
        subst (λ (w : Lit). value_of other w ≡ true) (sym m) (same_Some (other (get_or preferred j 0)) true (sym (r.same j c) ∙ v))

-- a preferred variable that is false on the trail is false in each rival
pub false_in_rivals : (t : TrailState) (assume : List Lit) (preferred chosen : List ℕ) (other : ℕ → Bool) (i : ℕ) → IsTrail t → AreChosen t assume preferred chosen → IsRival t assume preferred other i → i < length preferred → values_of t.entries (get_or preferred i 0) ≡ Some false → other (get_or preferred i 0) ≡ true → ⊥
false_in_rivals t assume preferred chosen other i h a r l f y =
    let m = mapped (λ (x : Entry). not x.lit.negated) (entry_of t.entries (get_or preferred i 0)) false f in
    let e = entry_at t (get_or preferred i 0) m.value m.is in
    let s : (d : Entry) → level_in t.entries (get_or preferred i 0) ≡ Some (get_or t.entries e.place d).decision_level = λ d. ap (option_map (λ (x : Entry). x.decision_level)) m.is ∙ ap (λ (x : Entry). Some x.decision_level) (sym (e.is d)) in
    let all = agrees_to t other (e.place + 1) h r.clauses (omega (arith, e.within)) (λ q d low z. decisions_hold t assume preferred chosen other i e.place h a r l e.within f s q d low z) in
    let holds : value_of other m.value.lit ≡ true = subst (λ (x : Entry). value_of other x.lit ≡ true) (e.is no_entry) (all e.place no_entry (omega arith) e.within) in
    negative_holds m.value.lit.negated (other (get_or preferred i 0)) m.gives (ap (λ v. cond m.value.lit.negated (not (other v)) (other v)) (sym e.variable) ∙ holds) y
  where
    negative_holds : (n b : Bool) → not n ≡ false → cond n (not b) b ≡ true → b ≡ true → ⊥
    negative_holds true true p q z = false≢true q
    negative_holds true false p q z = false≢true z
    negative_holds false b p q z = false≢true (sym p)
