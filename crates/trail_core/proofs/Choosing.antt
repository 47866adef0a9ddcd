-- Which two literals a clause without a pair may watch.
use Rattle.std.proofs.Common.{◌≡◌, ◌≢◌, ℕ, ◌-◌, ◌<◌, ◌≤◌, ◌^◌, Bool, true, false, not, ◌||◌, cond, List, [], ◌∷◌, ◌++◌, Option, Some, None, refl, sym, ap, ◌∙◌, subst, arith, inl, inr, ⊎_elim}
use Rattle.std.specs.Bool.{beq}
use Rattle.std.specs.Option.{option_map}
use Rattle.std.proofs.lemmas.Bool.{cases_lt, cases_eq, false≢true, or_cases}
use Rattle.std.proofs.lemmas.Option.{same_Some}
use Rattle.std.proofs.lemmas.List.Sums.{count_by-le-length}
use Rattle.clause_base.specs.declared.literal.Lit.{Lit}
use Rattle.clause_base.specs.Literal.{has, same_lit}
use Rattle.clause_base.specs.Acceptance.{numbered}
use Rattle.clause_base.proofs.Sets.{has-push, same_lit-true, same_lit_itself}
use Rattle.trail_core.specs.declared.entry.Entry.{Entry}
use Rattle.trail_core.specs.Values.{IsTrueIn, IsFalseIn, IsUnassignedIn, Rests, satisfied, open_at_two}
use Rattle.trail_core.specs.TrailState.{TrailState, IsTrail, IsNumber, entry_of, values_of, level_in, up_to, is_decision}
use Rattle.trail_core.specs.Watching.{IsSettled, IsOpen}
use Rattle.trail_core.specs.Visits.{MayWatch, IsFreeBelow, IsHighest, HighestGives, rank_at, rank_of}
use Rattle.trail_core.proofs.Looks.{variable_of, distinct_same}
use Rattle.trail_core.proofs.Truth.{mapped}
use Rattle.trail_core.proofs.Keeping.{back_keeps}
use Rattle.trail_core.proofs.Visiting.{true_false, level_below}

-- more than any level
abbrev high : ℕ
high = 2 ^ 64 - 1

-- a literal of low rank is false
rank_at-false : (o : Option Entry) (b : Bool) → rank_at o b < high → option_map (λ (e : Entry). not e.lit.negated) o ≡ Some b
rank_at-false None b h = absurd (omega (arith, h))
rank_at-false (Some e) b h = ap Some (by e.lit.negated b h)
  where
    by : (x y : Bool) → cond (beq x y) high e.decision_level < high → not x ≡ y
    by true true k = absurd (omega (arith, k))
    by true false k = refl
    by false true k = refl
    by false false k = absurd (omega (arith, k))

-- the rank of a false literal is its level
rank_at-level : (o : Option Entry) (b : Bool) (i : ℕ) → option_map (λ (e : Entry). not e.lit.negated) o ≡ Some b → option_map (λ (e : Entry). e.decision_level) o ≡ Some i → rank_at o b ≡ i
rank_at-level None b i p q = cc
rank_at-level (Some e) b i p q = by e.lit.negated b (same_Some (not e.lit.negated) b p) (same_Some e.decision_level i q)
  where
    by : (x y : Bool) → not x ≡ y → e.decision_level ≡ i → cond (beq x y) high e.decision_level ≡ i
    by true true k l = absurd (false≢true k)
    by true false k l = l
    by false true k l = l
    by false false k l = absurd (false≢true (sym k))

-- a variable with a value has a level
level_there : (o : Option Entry) (b : Bool) → option_map (λ (e : Entry). not e.lit.negated) o ≡ Some b → (i : ℕ) × (option_map (λ (e : Entry). e.decision_level) o ≡ Some i)
level_there None b p = cc
level_there (Some e) b p = (e.decision_level, refl)

-- a false literal: its level, which is its rank
record IsFallen (es : List Entry) (l : Lit) : Type 0 where
  level : ℕ
  level_is : level_in es l.var ≡ Some level
  rank : rank_of es l ≡ level

fallen : (es : List Entry) (l : Lit) → IsFalseIn (values_of es) l → IsFallen es l
fallen es l f =
    let there = level_there (entry_of es l.var) l.negated f in
    record { level = there.0; level_is = there.1; rank = rank_at-level (entry_of es l.var) l.negated there.0 f there.1 }

low_false : (es : List Entry) (l : Lit) → rank_of es l < high → IsFalseIn (values_of es) l
low_false es l h = rank_at-false (entry_of es l.var) l.negated h

-- levels are low
level_low : (t : TrailState) (v i : ℕ) → IsTrail t → level_in t.entries v ≡ Some i → i < high
level_low t v i h q = omega (arith, level_below t v i h q, h.level, count_by-le-length is_decision t.entries, h.few, h.small)

-- where a literal of greatest rank is false, all are
all_false : (t : TrailState) (c : List Lit) (apart : ℕ) (l : Lit) → IsTrail t → IsHighest t.entries c apart l → IsFalseIn (values_of t.entries) l → (m : Lit) → has c m ≡ true → m.var ≢ apart → IsFalseIn (values_of t.entries) m
all_false t c apart l h g f m k d =
    let low = fallen t.entries l f in
    low_false t.entries m (omega (arith, g.greatest m k d, low.rank, level_low t l.var low.level h low.level_is))

pub not_free : (es : List Entry) (l : Lit) → IsFalseIn (values_of es) l → IsUnassignedIn (values_of es) l → ⊥
not_free es l f u = by (values_of es l.var) f u
  where
    by : (o : Option Bool) → o ≡ Some l.negated → o ≡ None → ⊥
    by o p q = cc

-- a clause that rests has a literal that isn't false
pub rests_not_false : (es : List Entry) (c : List Lit) → Rests (values_of es) c → ((m : Lit) → has c m ≡ true → IsFalseIn (values_of es) m) → ⊥
rests_not_false es c (satisfied l k v) f = true_false es l v (f l k)
rests_not_false es c (open_at_two l m a b d u v) f = not_free es l (f l a) u

-- where all literals of other variables are false, the one of this variable is true
only_true : (es : List Entry) (c : List Lit) (x : Lit) → Rests (values_of es) c → ((m : Lit) → has c m ≡ true → m.var ≡ x.var → m ≡ x) → ((m : Lit) → has c m ≡ true → m.var ≢ x.var → IsFalseIn (values_of es) m) → IsTrueIn (values_of es) x
only_true es c x (satisfied l k v) same f = elim (cases_eq l.var x.var) [
  | inl e ↦ subst (IsTrueIn (values_of es)) (same l k e) v
  | inr d ↦ absurd (true_false es l v (f l k d))
]
only_true es c x (open_at_two l m a b d u v) same f = elim (cases_eq l.var x.var) [
  | inl e ↦ absurd (not_free es m (f m b (λ z. d (e ∙ sym z))) v)
  | inr o ↦ absurd (not_free es l (f l a o) u)
]

-- a false literal that was unassigned up to a level fell later
fell_later : (es : List Entry) (k : ℕ) (l : Lit) (i : ℕ) → IsUnassignedIn (values_of (up_to k es)) l → IsFalseIn (values_of es) l → level_in es l.var ≡ Some i → k < i
fell_later es k l i u f q = elim (cases_lt k i) [
  | inl b ↦ b
  | inr b ↦
      let e = mapped (λ (x : Entry). x.decision_level) (entry_of es l.var) i q in
      let same : entry_of (up_to k es) l.var ≡ entry_of es l.var = back_keeps es k l.var e.value e.is (omega (arith, b, e.gives)) in
      absurd (by (values_of es l.var) l.negated f (sym (ap (option_map (λ (x : Entry). not x.lit.negated)) same) ∙ u))
]
  where
    by : (o : Option Bool) (b : Bool) → o ≡ Some b → o ≡ None → ⊥
    by o b p z = cc

-- of the second literal: it is of the present level, or above all levels below
second_late : (t : TrailState) (c : List Lit) (x y : Lit) (k i : ℕ) → IsTrail t → IsOpen (values_of (up_to k t.entries)) c → IsHighest t.entries c x.var y → IsFalseIn (values_of t.entries) y → level_in t.entries y.var ≡ Some i → k < i
second_late t c x y k i h o g f q = elim (cases_eq o.one.var x.var) [
  | inl e ↦ late o.two o.has_two (λ z. o.apart (e ∙ sym z)) o.two_free
  | inr d ↦ late o.one o.has_one d o.one_free
]
  where
    late : (m : Lit) → has c m ≡ true → m.var ≢ x.var → IsUnassignedIn (values_of (up_to k t.entries)) m → k < i
    late m a d u =
        let fm : IsFalseIn (values_of t.entries) m = all_false t c x.var y h g f m a d in
        let low = fallen t.entries m fm in
        let mine : rank_of t.entries y ≡ i = rank_at-level (entry_of t.entries y.var) y.negated i f q in
        omega (arith, fell_later t.entries k m low.level u fm low.level_is, low.rank, g.greatest m a d, mine)

-- the two literals of greatest rank may be watched
pub may_watch : (t : TrailState) (n : ℕ) (x y : Lit) → IsTrail t → IsNumber t.clauses n → Rests (values_of t.entries) (numbered t.clauses n) → IsFreeBelow t n → IsHighest t.entries (numbered t.clauses n) 0 x → HighestGives t.entries (numbered t.clauses n) x.var (Some y) → MayWatch t n record { first = x; second = y }
may_watch t n x y h k r free a b = record {
  first = a.member;
  second = b.member;
  apart = λ e. b.apart_is (sym e);
  covers_first = λ f. absurd (rests_not_false t.entries c r (λ m s. all_false t c 0 x h a f m s (λ z. omega (arith, z, (variable_of t.vars c m (h.within n k) s).above))));
  covers_second = λ f. record {
    is_true = only_true t.entries c x r (λ m s e. distinct_same c m x (h.distinct n k) s a.member e) (all_false t c x.var y h b f);
    level = λ i j p q. elim (cases_lt 0 t.level) [
      | inl l ↦ omega (arith, level_below t x.var i h p, second_late t c x y (t.level - 1) j h (free (t.level - 1) (omega (arith, l))) b f q)
      | inr l ↦ omega (arith, level_below t x.var i h p, l)
    ];
  };
}
  where
    c : List Lit
    c = numbered t.clauses n

-- a clause that rests has a literal
pub settled_alone : (t : TrailState) (n : ℕ) → IsTrail t → IsNumber t.clauses n → Rests (values_of t.entries) (numbered t.clauses n) → HighestGives t.entries (numbered t.clauses n) 0 None → IsSettled t.entries (numbered t.clauses n)
settled_alone t n h k r none = absurd (by r)
  where
    above : (l : Lit) → has (numbered t.clauses n) l ≡ true → 1 ≤ l.var
    above l s = (variable_of t.vars (numbered t.clauses n) l (h.within n k) s).above

    by : Rests (values_of t.entries) (numbered t.clauses n) → ⊥
    by (satisfied l s v) = absurd (omega (arith, none l s, above l s))
    by (open_at_two l m s b d u v) = absurd (omega (arith, none l s, above l s))

-- a clause with literals of one variable alone, none of them false up to any level below, is true at level 0
pub settled_single : (t : TrailState) (n : ℕ) (x : Lit) → IsTrail t → IsNumber t.clauses n → Rests (values_of t.entries) (numbered t.clauses n) → IsFreeBelow t n → HighestGives t.entries (numbered t.clauses n) x.var None → IsSettled t.entries (numbered t.clauses n)
settled_single t n x h k r free none = elim (cases_lt 0 t.level) [
  | inl l ↦ let o = free (t.level - 1) (omega (arith, l)) in absurd (o.apart (none o.one o.has_one ∙ sym (none o.two o.has_two)))
  | inr l ↦ by l r
]
  where
    by : t.level ≤ 0 → Rests (values_of t.entries) (numbered t.clauses n) → IsSettled t.entries (numbered t.clauses n)
    by l (satisfied m s v) =
        let there = level_there (entry_of t.entries m.var) (not m.negated) v in
        let zero_level : there.0 ≡ 0 = omega (arith, level_below t m.var there.0 h there.1, l) in
        record { literal = m; member = s; is_true = v; level = there.1 ∙ ap Some zero_level }
    by l (open_at_two m o s b d u v) = absurd (d (none m s ∙ sym (none o b)))

-- a literal more, which is not of the variable that is left out, and not above the one that was found
pub better_kept : (es : List Entry) (part : List Lit) (apart : ℕ) (m l : Lit) → rank_of es l ≤ rank_of es m → HighestGives es part apart (Some m) → HighestGives es (part ++ l ∷ []) apart (Some m)
better_kept es part apart m l low h = record {
  member = has-push part l m ∙ or_first (has part m) (same_lit l m) h.member;
  apart_is = h.apart_is;
  greatest = λ x k d. ⊎_elim (λ there. h.greatest x there d) (λ same. subst (λ z. rank_of es z ≤ rank_of es m) (same_lit-true l x same) low) (or_cases (has part x) (same_lit l x) (sym (has-push part l x) ∙ k));
}
  where
    or_first : (a b : Bool) → a ≡ true → (a || b) ≡ true
    or_first true b e = refl
    or_first false b e = absurd (false≢true e)

pub better_taken : (es : List Entry) (part : List Lit) (apart : ℕ) (m l : Lit) → rank_of es m ≤ rank_of es l → l.var ≢ apart → HighestGives es part apart (Some m) → HighestGives es (part ++ l ∷ []) apart (Some l)
better_taken es part apart m l low d h = record {
  member = has-push part l l ∙ or_last (has part l) (same_lit l l) (same_lit_itself l);
  apart_is = d;
  greatest = λ x k e. ⊎_elim (λ there. omega (arith, h.greatest x there e, low)) (λ same. subst (λ z. rank_of es z ≤ rank_of es l) (same_lit-true l x same) (omega arith)) (or_cases (has part x) (same_lit l x) (sym (has-push part l x) ∙ k));
}
  where
    or_last : (a b : Bool) → b ≡ true → (a || b) ≡ true
    or_last true b e = refl
    or_last false b e = e

pub better_first : (es : List Entry) (part : List Lit) (apart : ℕ) (l : Lit) → l.var ≢ apart → HighestGives es part apart None → HighestGives es (part ++ l ∷ []) apart (Some l)
better_first es part apart l d h = record {
  member = has-push part l l ∙ or_last (has part l) (same_lit l l) (same_lit_itself l);
  apart_is = d;
  greatest = λ x k e. ⊎_elim (λ there. absurd (e (h x there))) (λ same. subst (λ z. rank_of es z ≤ rank_of es l) (same_lit-true l x same) (omega arith)) (or_cases (has part x) (same_lit l x) (sym (has-push part l x) ∙ k));
}
  where
    or_last : (a b : Bool) → b ≡ true → (a || b) ≡ true
    or_last true b e = refl
    or_last false b e = e

-- a literal more of the variable that is left out
pub better_apart : (es : List Entry) (part : List Lit) (apart : ℕ) (l : Lit) (o : Option Lit) → l.var ≡ apart → HighestGives es part apart o → HighestGives es (part ++ l ∷ []) apart o
better_apart es part apart l None e h = λ x k. ⊎_elim (λ there. h x there) (λ same. subst (λ (z : Lit). z.var ≡ apart) (same_lit-true l x same) e) (or_cases (has part x) (same_lit l x) (sym (has-push part l x) ∙ k))
better_apart es part apart l (Some m) e h = record {
  member = has-push part l m ∙ or_first (has part m) (same_lit l m) h.member;
  apart_is = h.apart_is;
  greatest = λ x k d. ⊎_elim (λ there. h.greatest x there d) (λ same. absurd (d (subst (λ (z : Lit). z.var ≡ apart) (same_lit-true l x same) e))) (or_cases (has part x) (same_lit l x) (sym (has-push part l x) ∙ k));
}
  where
    or_first : (a b : Bool) → a ≡ true → (a || b) ≡ true
    or_first true b z = refl
    or_first false b z = absurd (false≢true z)
