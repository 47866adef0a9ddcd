-- Taking marks away.
use Rattle.std.proofs.Common.{◌≡◌, ℕ, ◌+◌, ◌-◌, ◌<◌, ◌≤◌, Bool, false, not, ◌&&◌, ◌||◌, List, [], ◌∷◌, ◌++◌, length, get_or, set, take, refl, sym, ap, ◌∙◌, subst, arith, inl, inr, ⊎_elim}
use Rattle.std.proofs.lemmas.Bool.{cases_Bool, cases_eq, cases_lt, eq-eqb, ne_eqb}
use Rattle.std.proofs.lemmas.List.{length-set, take_more, take_all, get_or_past}
use Rattle.loc_base.proofs.ShelfBools.{and-false, and-true, or-false, or-true}
use Rattle.clause_base.specs.declared.literal.Lit.{Lit}
use Rattle.clause_base.specs.Literal.{has_variable}
use Rattle.clause_base.proofs.Sets.{has_variable-push}
use Rattle.trail_core.specs.Values.{IsVariable}
use Rattle.sat_core.specs.Derivation.{marked, IsClean, AreOf, Unmarks}
use Rattle.sat_core.proofs.Marks.{marked-set_same, marked-set_other}

pub Unmarks-none : (marks : List Bool) → Unmarks marks marks []
Unmarks-none marks = record { size = refl; each = λ v l m. sym (and-true (marked marks v)) }

pub Unmarks-more : (old new after : List Bool) (literals : List Lit) (i : ℕ) (d : Lit) → i < length literals → Unmarks old new (take i literals) → IsVariable (length old) (get_or literals i d).var → after ≡ set new ((get_or literals i d).var - 1) false → Unmarks old after (take (i + 1) literals)
Unmarks-more old new after literals i d l h k e =
    subst (λ part. Unmarks old after part) (sym (take_more literals i d l)) (subst (λ m. Unmarks old m (take i literals ++ x ∷ [])) (sym e) record {
      size = length-set new (x.var - 1) false ∙ h.size;
      each = λ v low high. ⊎_elim
          (λ q. ap (marked (set new (x.var - 1) false)) q ∙ (marked-set_same new x.var false record { above = k.above; within = omega (arith, k.within, h.size) }
          ∙ sym (ap (λ b. marked old v && not b) (has_variable-push (take i literals) x v ∙ (ap (λ b. has_variable (take i literals) v || b) (eq-eqb x.var v (sym q)) ∙ or-true (has_variable (take i literals) v))) ∙ and-false (marked old v))))
          (λ n. marked-set_other new x.var v false k.above low n ∙ (h.each v low high
          ∙ sym (ap (λ b. marked old v && not b) (has_variable-push (take i literals) x v ∙ (ap (λ b. has_variable (take i literals) v || b) (ne_eqb x.var v (λ q. n (sym q))) ∙ or-false (has_variable (take i literals) v))))))
          (cases_eq v x.var);
    })
  where
    x : Lit
    x = get_or literals i d

pub Unmarks-all : (old new : List Bool) (literals : List Lit) (i : ℕ) → length literals ≤ i → Unmarks old new (take i literals) → Unmarks old new literals
Unmarks-all old new literals i l h = subst (λ part. Unmarks old new part) (take_all i literals l) h

-- no mark of a variable is no mark
pub clean_from : (marks : List Bool) → ((v : ℕ) → 1 ≤ v → v ≤ length marks → marked marks v ≡ false) → IsClean marks
clean_from marks h v = elim (cases_lt (v - 1) (length marks)) [
  | inl b ↦ let e : v - 1 + 1 - 1 ≡ v - 1 = omega arith in subst (λ i. get_or marks i false ≡ false) e (h (v - 1 + 1) (omega arith) (omega (arith, b)))
  | inr b ↦ get_or_past marks (v - 1) false b
]

pub clean_each : (marks : List Bool) → ((k : ℕ) → k < length marks → get_or marks k false ≡ false) → IsClean marks
clean_each marks h v = elim (cases_lt (v - 1) (length marks)) [ inl b ↦ h (v - 1) b | inr b ↦ get_or_past marks (v - 1) false b ]

-- all marks are gone
pub unmarked_all : (old new : List Bool) (literals : List Lit) → AreOf old literals → Unmarks old new literals → IsClean new
unmarked_all old new literals a u = clean_from new (λ v low high.
    let within : v ≤ length old = omega (arith, high, u.size) in
    u.each v low within ∙ ⊎_elim
    (λ y. ap (λ b. marked old v && not b) (a v low within y) ∙ and-false (marked old v))
    (λ n. ap (λ b. b && not (has_variable literals v)) n)
    (cases_Bool (marked old v)))
