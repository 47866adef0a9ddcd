-- Marking variables one by one.
use Rattle.std.proofs.Common.{◌≡◌, ℕ, zero, suc, ◌+◌, ◌-◌, ◌<◌, ◌≤◌, Bool, true, false, not, cond, ◌&&◌, ◌||◌, eqb, List, [], ◌∷◌, ◌++◌, length, get_or, set, take, refl, sym, ap, ◌∙◌, subst, arith, ◌⊎◌, inl, inr, ⊎_elim}
use Rattle.std.specs.List.{count_by}
use Rattle.std.proofs.lemmas.Bool.{cases_Bool, cases_eq, eqb-true, eq-eqb, ne_eqb}
use Rattle.std.proofs.lemmas.List.{get_or-set_same, get_or-set_other, length-set, take_more, take_all}
use Rattle.std.proofs.lemmas.List.Sums.{sum_by-cons}
use Rattle.loc_base.proofs.ShelfBools.{and-or, count-false, count-true, or-assoc, or-false, or-true}
use Rattle.clause_base.specs.declared.literal.Lit.{Lit}
use Rattle.clause_base.specs.Literal.{has_variable}
use Rattle.clause_base.proofs.Sets.{has_variable-push}
use Rattle.trail_core.specs.Values.{IsVariable}
use Rattle.sat_core.specs.Derivation.{marked, MarksOthers}

-- the marked variable
pub marked-set_same : (marks : List Bool) (v : ℕ) (b : Bool) → IsVariable (length marks) v → marked (set marks (v - 1) b) v ≡ b
marked-set_same marks v b h = let low : v - 1 < length marks = omega (arith, h.above, h.within) in get_or-set_same marks (v - 1) b false low

-- another variable
pub marked-set_other : (marks : List Bool) (v w : ℕ) (b : Bool) → 1 ≤ v → 1 ≤ w → (w ≡ v → ⊥) → marked (set marks (v - 1) b) w ≡ marked marks w
marked-set_other marks v w b p q n = get_or-set_other marks (v - 1) (w - 1) b false (λ e. n (omega arith))

-- no literal gone over
pub MarksOthers-none : (marks : List Bool) (skip : ℕ) → MarksOthers marks marks [] skip
MarksOthers-none marks skip = record { size = refl; each = λ v l m. sym (or-false (marked marks v)) }

-- a literal more, of the skipped variable or of one marked already
pub MarksOthers-kept : (old new : List Bool) (part : List Lit) (x : Lit) (skip : ℕ) → MarksOthers old new part skip → ((eqb x.var skip ≡ true) ⊎ (marked new x.var ≡ true)) → MarksOthers old new (part ++ x ∷ []) skip
MarksOthers-kept old new part x skip h c = record {
  size = h.size;
  each = λ v l m. h.each v l m ∙ sym (ap (λ b. marked old v || (b && not (eqb v skip))) (has_variable-push part x v) ∙ (ap (λ b. marked old v || b) (and-or (has_variable part v) (eqb x.var v) (not (eqb v skip))) ∙ (sym (or-assoc (marked old v) (has_variable part v && not (eqb v skip)) (eqb x.var v && not (eqb v skip))) ∙ nothing v l m)));
}
  where
    nothing : (v : ℕ) → 1 ≤ v → v ≤ length old → ((marked old v || (has_variable part v && not (eqb v skip))) || (eqb x.var v && not (eqb v skip))) ≡ (marked old v || (has_variable part v && not (eqb v skip)))
    nothing v l m = ⊎_elim
        (λ yes. let e = eqb-true x.var v yes in ⊎_elim
        (λ s. let z : eqb v skip ≡ true = subst (λ w. eqb w skip ≡ true) e s in
        rw (yes, z) (or-false ((marked old v) || (has_variable part v && false))))
        (λ t. let on : (marked old v || (has_variable part v && not (eqb v skip))) ≡ true = sym (h.each v l m) ∙ subst (λ w. marked new w ≡ true) e t in
        ap (λ b. b || (eqb x.var v && not (eqb v skip))) on ∙ sym on) c)
        (λ no. rw no (or-false (marked old v || (has_variable part v && not (eqb v skip)))))
        (cases_Bool (eqb x.var v))

-- a literal more, whose variable is marked
pub MarksOthers-more : (old new : List Bool) (part : List Lit) (x : Lit) (skip : ℕ) → MarksOthers old new part skip → eqb x.var skip ≡ false → IsVariable (length old) x.var → MarksOthers old (set new (x.var - 1) true) (part ++ x ∷ []) skip
MarksOthers-more old new part x skip h s k = record {
  size = length-set new (x.var - 1) true ∙ h.size;
  each = λ v l m. ⊎_elim
      (λ e. subst (λ w. marked (set new (x.var - 1) true) w ≡ (marked old w || (has_variable (part ++ x ∷ []) w && not (eqb w skip)))) (sym e)
      (marked-set_same new x.var true record { above = k.above; within = omega (arith, k.within, h.size) }
      ∙ sym (ap (λ b. marked old x.var || (b && not (eqb x.var skip))) (has_variable-push part x x.var ∙ (ap (λ b. has_variable part x.var || b) (eq-eqb x.var x.var refl) ∙ or-true (has_variable part x.var)))
      ∙ (ap (λ b. marked old x.var || not b) s ∙ or-true (marked old x.var)))))
      (λ n. marked-set_other new x.var v true k.above l n ∙ (h.each v l m
      ∙ sym (ap (λ b. marked old v || (b && not (eqb v skip))) (has_variable-push part x v ∙ (ap (λ b. has_variable part v || b) (ne_eqb x.var v (λ e. n (sym e))) ∙ or-false (has_variable part v))))))
      (cases_eq v x.var);
}

-- the same, as the loop sees it
pub MarksOthers-kept_at : (old new after : List Bool) (literals : List Lit) (i : ℕ) (d : Lit) (skip : ℕ) → i < length literals → MarksOthers old new (take i literals) skip → (((get_or literals i d).var ≡ skip) ⊎ (marked new (get_or literals i d).var ≡ true)) → after ≡ new → MarksOthers old after (take (i + 1) literals) skip
MarksOthers-kept_at old new after literals i d skip l h c e =
    subst (λ part. MarksOthers old after part skip) (sym (take_more literals i d l)) (subst (λ m. MarksOthers old m (take i literals ++ get_or literals i d ∷ []) skip) (sym e)
    (MarksOthers-kept old new (take i literals) (get_or literals i d) skip h (⊎_elim (λ p. inl (eq-eqb (get_or literals i d).var skip p)) (λ p. inr p) c)))

pub MarksOthers-more_at : (old new after : List Bool) (literals : List Lit) (i : ℕ) (d : Lit) (skip : ℕ) → i < length literals → MarksOthers old new (take i literals) skip → ((get_or literals i d).var ≡ skip → ⊥) → IsVariable (length old) (get_or literals i d).var → after ≡ set new ((get_or literals i d).var - 1) true → MarksOthers old after (take (i + 1) literals) skip
MarksOthers-more_at old new after literals i d skip l h n v e =
    subst (λ part. MarksOthers old after part skip) (sym (take_more literals i d l)) (subst (λ m. MarksOthers old m (take i literals ++ get_or literals i d ∷ []) skip) (sym e)
    (MarksOthers-more old new (take i literals) (get_or literals i d) skip h (ne_eqb (get_or literals i d).var skip n) v))

pub MarksOthers-all : (old new : List Bool) (literals : List Lit) (i skip : ℕ) → length literals ≤ i → MarksOthers old new (take i literals) skip → MarksOthers old new literals skip
MarksOthers-all old new literals i skip l h = subst (λ part. MarksOthers old new part skip) (take_all i literals l) h

abbrev weight : Bool → ℕ
weight b = cond b 1 0

weight_same : (a b : Bool) → a ≡ b → weight a ≡ weight b
weight_same a b h = ap weight h

-- two tests that agree count the same
pub count_agree : {X : Type 0} (p q : X → Bool) (xs : List X) → ((k : ℕ) (d : X) → k < length xs → q (get_or xs k d) ≡ p (get_or xs k d)) → count_by q xs ≡ count_by p xs
count_agree p q [] h = refl
count_agree p q (x ∷ xs) h =
    let first = weight_same (q x) (p x) (h 0 x (omega arith)) in
    omega (arith, first, sum_by-cons (λ y. cond (p y) 1 0) x xs, sum_by-cons (λ y. cond (q y) 1 0) x xs, count_agree p q xs (λ k d l. h (suc k) d (omega arith)))

-- one element more passes
pub count_one_more : {X : Type 0} (p q : X → Bool) (xs : List X) (i : ℕ) (c : X) → i < length xs → p (get_or xs i c) ≡ false → q (get_or xs i c) ≡ true → ((k : ℕ) (d : X) → k < length xs → (k ≡ i → ⊥) → q (get_or xs k d) ≡ p (get_or xs k d)) → count_by q xs ≡ count_by p xs + 1
count_one_more p q [] i c l f t h = absurd (omega arith)
count_one_more p q (x ∷ xs) zero c l f t h =
    omega (arith, count-false (p x) f, count-true (q x) t, sum_by-cons (λ y. cond (p y) 1 0) x xs, sum_by-cons (λ y. cond (q y) 1 0) x xs, count_agree p q xs (λ k d m. h (suc k) d (omega arith) (λ e. absurd (omega arith))))
count_one_more p q (x ∷ xs) (suc i) c l f t h =
    let first = weight_same (q x) (p x) (h 0 x (omega arith) (λ e. absurd (omega arith))) in
    omega (arith, first, sum_by-cons (λ y. cond (p y) 1 0) x xs, sum_by-cons (λ y. cond (q y) 1 0) x xs, count_one_more p q xs i c (omega arith) f t (λ k d m n. h (suc k) d (omega arith) (λ e. n (omega arith))))
