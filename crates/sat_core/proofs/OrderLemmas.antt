-- Going over the order of decisions.
use Rattle.std.proofs.Common.{◌≡◌, ℕ, ◌+◌, ◌-◌, ◌<◌, ◌≤◌, Bool, true, false, not, ltb, List, length, get_or, Some, refl, sym, ap, ◌∙◌, subst, arith, inl, inr, All}
use Rattle.std.specs.Prelude.{is_some}
use Rattle.std.specs.Bool.{beq}
use Rattle.std.proofs.lemmas.Bool.{cases_lt, false≢true, lt-ltb, le-ltb}
use Rattle.clause_base.specs.declared.literal.Lit.{Lit}
use Rattle.clause_base.specs.Literal.{IsWithin, has, positive}
use Rattle.trail_core.specs.Values.{Values, IsVariable}
use Rattle.trail_core.specs.TrailState.{TrailState, values_of}
use Rattle.trail_core.proofs.Looks.{has_at}
use Rattle.sat_core.specs.Choices.{choice_at, end_of, no_literal, IsPassed, PassedTo, IsFree, MayChoose}

pub choice_assume : (assume : List Lit) (preferred : List ℕ) (place : ℕ) → place < length assume → choice_at assume preferred place ≡ get_or assume place no_literal
choice_assume assume preferred place l = let t : ltb place (length assume) ≡ true = lt-ltb place (length assume) l in rw t refl

pub choice_prefer : (assume : List Lit) (preferred : List ℕ) (place : ℕ) → length assume ≤ place → choice_at assume preferred place ≡ positive (get_or preferred (place - length assume) 0)
choice_prefer assume preferred place l = let t : ltb place (length assume) ≡ false = le-ltb place (length assume) l in rw t refl

-- each literal of the order is of a variable
pub choice_variable : (vars : ℕ) (assume : List Lit) (preferred : List ℕ) (place : ℕ) → IsWithin vars assume → All (λ v. (1 ≤ v) × (v ≤ vars)) preferred → place < end_of assume preferred → IsVariable vars (choice_at assume preferred place).var
choice_variable vars assume preferred place a p l =
    elim (cases_lt place (length assume)) [
      | inl b ↦ let w = a place no_literal b in subst (λ (x : Lit). IsVariable vars x.var) (sym (choice_assume assume preferred place b)) record { above = w.0; within = w.1 }
      | inr b ↦ let w = p (place - length assume) 0 (omega (arith, b, l)) in subst (λ (x : Lit). IsVariable vars x.var) (sym (choice_prefer assume preferred place b)) record { above = w.0; within = w.1 }
    ]

other_sign : (a b : Bool) → (a ≡ b → ⊥) → a ≡ not b
other_sign true true n = absurd (n refl)
other_sign true false n = refl
other_sign false true n = refl
other_sign false false n = absurd (n refl)

-- one place more
pub PassedTo-more : (t : TrailState) (assume : List Lit) (preferred : List ℕ) (place : ℕ) → PassedTo t assume preferred place → IsPassed (values_of t.entries) assume preferred place → PassedTo t assume preferred (place + 1)
PassedTo-more t assume preferred place h p i l = elim (cases_lt i place) [ inl b ↦ h i b | inr b ↦ let e : place ≡ i = omega arith in subst (IsPassed (values_of t.entries) assume preferred) e p ]

pub passed_value : (values : Values) (assume : List Lit) (preferred : List ℕ) (place : ℕ) (b : Bool) → values (choice_at assume preferred place).var ≡ Some b → (place < length assume → (b ≡ (choice_at assume preferred place).negated → ⊥)) → IsPassed values assume preferred place
passed_value values assume preferred place b s n = record {
  valued = ap is_some s;
  assumed = λ l. s ∙ ap Some (other_sign b (choice_at assume preferred place).negated (n l));
}

-- a variable without a value may be decided behind the order
pub MayChoose-free : (t : TrailState) (assume : List Lit) (preferred : List ℕ) (l : Lit) → IsFree t l.var → PassedTo t assume preferred (end_of assume preferred) → MayChoose t assume preferred (end_of assume preferred) l
MayChoose-free t assume preferred l f p = record {
  within = omega arith;
  literal = λ low. absurd (omega (arith, low));
  variable = f.variable;
  unassigned = f.unassigned;
  passed = p;
}

-- a false assumption
pub contrary_member : (assume : List Lit) (preferred : List ℕ) (place : ℕ) → place < length assume → has assume (choice_at assume preferred place) ≡ true
contrary_member assume preferred place l = ap (has assume) (choice_assume assume preferred place l) ∙ has_at assume place no_literal l

pub beq_same : (a b : Bool) → beq a b ≡ true → a ≡ b
beq_same true true h = refl
beq_same true false h = absurd (false≢true h)
beq_same false true h = absurd (false≢true h)
beq_same false false h = refl
