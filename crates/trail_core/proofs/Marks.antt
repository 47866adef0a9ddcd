-- Which pairs say that their clauses stand in the lists of their literals.
use Rattle.std.proofs.Common.{◌≡◌, ℕ, ◌+◌, ◌<◌, ◌≤◌, true, ◌==◌, List, [], ◌∷◌, ◌++◌, length, get_or, set, sym, ap, ◌∙◌, subst, arith, inl, inr}
use Rattle.std.proofs.lemmas.Bool.{cases_lt, and_parts, eqb-true}
use Rattle.std.proofs.lemmas.List.{get_or-set_same, get_or-set_other, get_or_append_left, get_or_push, length-set, length_push}
use Rattle.clause_base.specs.declared.literal.Lit.{Lit}
use Rattle.clause_base.specs.Acceptance.{numbered}
use Rattle.trail_core.specs.declared.watches.Pair.{Pair}
use Rattle.trail_core.specs.TrailState.{TrailState, IsNumber, Propagates}
use Rattle.trail_core.specs.Watching.{is_fixed, is_mark, AreMarked, KeepsMarks}
use Rattle.trail_core.proofs.Changes.{numbered-push_old}

-- propagation adds no clause
pub marked_propagates : (t new : TrailState) (f : ℕ) (ps : List Pair) → Propagates t new → AreMarked t.clauses f ps → AreMarked new.clauses f ps
marked_propagates t new f ps p h = subst (λ cs. AreMarked cs f ps) (sym p.clauses) h

-- pairs that were changed say so only where they did before
pub marked_kept : (cs : List (List Lit)) (f : ℕ) (old new : List Pair) → length new ≡ length old → KeepsMarks old new → AreMarked cs f old → AreMarked cs f new
marked_kept cs f old new e k h i d l m = h i d (omega (arith, l, e)) (k i d l m)

pub marked_swept : (t new : TrailState) (f : ℕ) (old pairs : List Pair) → Propagates t new → length pairs ≡ length old → KeepsMarks old pairs → AreMarked t.clauses f old → AreMarked new.clauses f pairs
marked_swept t new f old pairs p e k h = marked_propagates t new f pairs p (marked_kept t.clauses f old pairs e k h)

-- the same pairs, and pairs that were changed twice
pub marks_same : (old new : List Pair) → new ≡ old → KeepsMarks old new
marks_same old new e i d l m = ap (λ ps. is_mark (get_or ps i d)) (sym e) ∙ m

pub marks_after : (a b c : List Pair) → c ≡ b → KeepsMarks a b → KeepsMarks a c
marks_after a b c e h = subst (KeepsMarks a) (sym e) h

pub marks_then : (a b c : List Pair) → length c ≡ length b → KeepsMarks a b → KeepsMarks b c → KeepsMarks a c
marks_then a b c e h k i d l m = h i d (omega (arith, l, e)) (k i d l m)

-- a pair whose first literal is of a variable
pub mark_none : (p : Pair) → 1 ≤ p.first.var → is_mark p ≡ true → ⊥
mark_none p above m = absurd (omega (arith, above, eqb-true p.first.var 0 (and_parts (p.first.var == 0) p.first.negated m).0))

pub marks_set : (old new : List Pair) (n : ℕ) (p : Pair) → 1 ≤ p.first.var → new ≡ set old n p → KeepsMarks old new
marks_set old new n p above e i d l m = elim (cases_lt i n) [
  | inl b ↦ other (λ q. absurd (omega (arith, b, q)))
  | inr b ↦ elim (cases_lt n i) [
    | inl c ↦ other (λ q. absurd (omega (arith, c, q)))
    | inr c ↦
        let q : i ≡ n = omega (arith, b, c) in
        absurd (mark_none p above (ap is_mark (sym (ap (λ j. get_or (set old n p) j d) q ∙ get_or-set_same old n p d (omega (arith, q, l, ap length e, length-set old n p)))) ∙ now))
  ]
]
  where
    now : is_mark (get_or (set old n p) i d) ≡ true
    now = ap (λ ps. is_mark (get_or ps i d)) (sym e) ∙ m

    other : (i ≡ n → ⊥) → is_mark (get_or old i d) ≡ true
    other q = ap is_mark (sym (get_or-set_other old n i p d q)) ∙ now

-- one pair more that doesn't say so
pub marked_push : (cs : List (List Lit)) (f : ℕ) (old new : List Pair) (p : Pair) → new ≡ old ++ p ∷ [] → (is_mark p ≡ true → is_fixed f (length old + 1) (numbered cs (length old + 1)) ≡ true) → AreMarked cs f old → AreMarked cs f new
marked_push cs f old new p e own h i d l m = elim (cases_lt i (length old)) [
  | inl b ↦ h i d b (ap is_mark (sym (get_or_append_left old (p ∷ []) d i b)) ∙ now)
  | inr b ↦
      let q : length old ≡ i = omega (arith, b, l, ap length e, length_push old p) in
      subst (λ j. is_fixed f (j + 1) (numbered cs (j + 1)) ≡ true) q (own (ap is_mark (sym (get_or_push old p d i q)) ∙ now))
]
  where
    now : is_mark (get_or (old ++ p ∷ []) i d) ≡ true
    now = ap (λ ps. is_mark (get_or ps i d)) (sym e) ∙ m

-- a clause more
pub marked_added : (cs : List (List Lit)) (c : List Lit) (f h : ℕ) (old new : List Pair) → length old ≤ length cs → new ≡ old → ((n : ℕ) (x : List Lit) → n ≤ length cs → is_fixed f n x ≡ true → is_fixed h n x ≡ true) → AreMarked cs f old → AreMarked (cs ++ c ∷ []) h new
marked_added cs c f h old new few e class k i d l m =
    let within : i < length old = omega (arith, l, ap length e) in
    let number : IsNumber cs (i + 1) = record { above = omega arith; within = omega (arith, within, few) } in
    ap (is_fixed h (i + 1)) (numbered-push_old cs c (i + 1) number)
    ∙ class (i + 1) (numbered cs (i + 1)) number.within (k i d within (ap (λ ps. is_mark (get_or ps i d)) (sym e) ∙ m))
