-- What one search after the other adds and answers.
use Rattle.std.proofs.Common.{◌≡◌, ℕ, ◌+◌, ◌-◌, ◌^◌, ◌<◌, ◌≤◌, ◌⊎◌, inl, inr, Bool, List, length, Option, Some, None, Result, Ok, Err}
use Rattle.std.proofs.Common.{refl, sym, ◌∙◌, ap, subst, arith}
use Rattle.std.specs.Prelude.{OnErr}
use Rattle.std.proofs.lemmas.Bool.{cases_lt}
use Rattle.std.proofs.lemmas.List.{get_or-take}
use Rattle.loc_base.specs.declared.memory.NoMemory.{NoMemory}
use Rattle.clause_base.specs.declared.log.Step.{Step}
use Rattle.clause_base.specs.declared.log.StepKind.TheVariants.{Derived}
use Rattle.clause_base.specs.Steps.{step_at, no_step}
use Rattle.clause_base.specs.Counted.{EndsASize}
use Rattle.sat_core.specs.SolverState.{SolverState}
use Rattle.sat_core.specs.Outcome.{Grows}
use Rattle.sat_core.proofs.Growing.{Grows-none, Grows-trans, Grows-length}
use Rattle.set_enum.specs.declared.enumerator.Next.{Next}
use Rattle.set_enum.specs.declared.enumerator.Next.TheVariants as next
use Rattle.set_enum.specs.Bounds.{bounds_of}
use Rattle.set_enum.specs.EnumState.{EnumState, IsEnum}
use Rattle.set_enum.specs.Outcome.{Adds, Gives, IsOpen, StaysClosed}
use Rattle.set_enum.specs.Standing.{Advances, state_of}

-- nothing is added where only the waiting set goes
pub adds_none : (n k size : ℕ) (found later : Bool) (s : SolverState) (budget : ℕ)
    → Adds (state_of n k size found s) (state_of n k size later s) budget budget
adds_none n k size found later s budget = record {
  vars = refl;
  form = refl;
  n = refl;
  k = refl;
  derived = 0;
  grows = Grows-none s.form s.log budget;
  few = omega arith;
  ends = λ place low high kind. absurd (omega (arith, low, high));
}

-- what is added and added again
pub Adds-trans : (a b c : EnumState) (u v w : ℕ) → Adds a b u v → Adds b c v w → Adds a c u w
Adds-trans a b c u v w r s = record {
  vars = s.vars ∙ r.vars;
  form = s.form ∙ r.form;
  n = s.n ∙ r.n;
  k = s.k ∙ r.k;
  derived = r.derived + s.derived;
  grows = Grows-trans a.form a.log b.log c.log u v w r.derived s.derived r.grows
      (subst (λ form. Grows form b.log c.log v w s.derived) r.form s.grows);
  few = omega (arith, r.few, s.few);
  ends = λ place low high kind. elim (cases_lt place (length b.log)) [
    | inl l ↦ early place low l kind
    | inr g ↦ subst (λ k. EndsASize (bounds_of a.n k) (step_at c.log place).clause) r.k
        (subst (λ n. EndsASize (bounds_of n b.k) (step_at c.log place).clause) r.n (s.ends place g high kind))
  ];
}
  where
    early : (place : ℕ) → length a.log ≤ place → place < length b.log → (step_at c.log place).kind ≡ Derived
        → EndsASize (bounds_of a.n a.k) (step_at c.log place).clause
    early place low l kind =
        let here : step_at b.log place ≡ step_at c.log place = ap (λ xs. step_at xs place) (sym s.grows.prefix) ∙ get_or-take
        (length b.log) c.log place no_step l in
        subst (λ (x : Step). EndsASize (bounds_of a.n a.k) x.clause) here (r.ends place low l (ap (λ (x : Step). x.kind) here ∙ kind))

-- how long the log has become
pub Adds-length : (a b : EnumState) (u v : ℕ) → Adds a b u v → length b.log + v + a.size ≤ length a.log + u + b.size
Adds-length a b u v r = omega (arith, r.few, Grows-length a.form a.log b.log u v r.derived r.grows)

-- an answer of one search is one of all of them
pub answers : (a b c : EnumState) (u v left : ℕ) (answer : Next) → Adds a b u v → Advances b c left (Some answer) → b.size ≤ b.k
    → Gives a c left answer
answers a b c u v left (next.Set members) r h l = h.1
answers a b c u v left next.Closed r h l = absurd (omega (arith, h.0, h.1.0, l))
answers a b c u v left next.Spent r h l = (h.1.0, omega (arith, h.1.1, r.k), h.1.2)

-- some size was open before, where one is afterwards
pub open_before : (a b : EnumState) (u v : ℕ) → Adds a b u v → b.size ≤ b.k → a.size ≡ a.k + 1 → ⊥
open_before a b u v r l full = absurd (omega (arith, r.few, r.k, l, full))

pub IsOpen-trans : (a b c : EnumState) (u v : ℕ) → Adds a b u v → IsOpen b c → IsOpen a c
IsOpen-trans a b c u v r h = (omega (arith, h.0, r.k), h.1)

-- nothing happened, or a size was open and units are left
abbrev pub HasMoved : EnumState → EnumState → ℕ → Type 0
HasMoved a b left = (b ≡ a) ⊎ ((a.size ≤ a.k) × (0 < left))

pub moves : (a b c : EnumState) (u v left : ℕ) → Adds a b u v → b.size ≤ b.k → Advances b c left None → HasMoved a c left
moves a b c u v left r l h = inr (omega (arith, r.few, r.k, l), h.2)

none_else : (o : Option (List ℕ)) → ((set : List ℕ) → o ≡ Some set → ⊥) → o ≡ None
none_else None h = refl
none_else (Some set) h = absurd (h set refl)

-- where all sizes are closed, the answer is that they are
pub closed_gives : (a b : EnumState) (u v : ℕ) → Adds a b u v → IsEnum b → b.k < b.size → HasMoved a b v → Gives a b v next.Closed
closed_gives a b u v r h l m = (
  omega (arith, r.k, h.sizes, l),
  none_else b.last (λ set e. absurd (omega (arith, (h.waits set e).1, l))),
  elim m [
    | inl same ↦ inl (omega (arith, ap (λ s. s.size) same, r.k, h.sizes, l))
    | inr moved ↦ inr moved.1
  ],
)

pub closed_stays : (a b : EnumState) (v : ℕ) → HasMoved a b v → StaysClosed a b (Ok next.Closed)
closed_stays a b v m full = (refl, elim m [ inl same ↦ same | inr moved ↦ absurd (omega (arith, full, moved.0)) ])

pub open_stays : (a b c : EnumState) (u v : ℕ) (result : Result Next NoMemory) → Adds a b u v → b.size ≤ b.k → StaysClosed a c result
open_stays a b c u v result r l full = absurd (open_before a b u v r l full)

-- the room that a search wants
pub search_fits : (a b : EnumState) (u v : ℕ) → Adds a b u v → b.size ≤ b.k → b.k ≤ 8 → length a.form + length a.log + u + 16 < 2 ^ 32
    → length b.form + length b.log + v + 1 < 2 ^ 32
search_fits a b u v r l few fits = omega (arith, Adds-length a b u v r, ap length r.form, l, few, fits)

-- nothing is added where nothing happens
pub Adds-none : (s : EnumState) (budget : ℕ) → Adds s s budget budget
Adds-none s budget = record {
  vars = refl;
  form = refl;
  n = refl;
  k = refl;
  derived = 0;
  grows = Grows-none s.form s.log budget;
  few = omega arith;
  ends = λ place low high kind. absurd (omega (arith, low, high));
}

-- what is said of the parts of an enumerator is said of its view
pub open_seen : (a b : EnumState) → a ≡ b → a.size ≤ a.k → b.size ≤ b.k
open_seen a b e h = subst (λ s. s.size ≤ s.k) e h

pub shut_seen : (a b : EnumState) → a ≡ b → a.k < a.size → b.k < b.size
shut_seen a b e h = subst (λ s. s.k < s.size) e h

pub few_seen : (a b : EnumState) → a ≡ b → a.k ≤ 8 → b.k ≤ 8
few_seen a b e h = subst (λ s. s.k ≤ 8) e h

-- what holds anyway holds after an error
pub on_err : {T E : Type 0} (r : Result T E) (P : Type 0) → P → OnErr r P
on_err (Ok x) P h = tt
on_err (Err x) P h = h

-- one search more
pub smaller : (b c : EnumState) (v left : ℕ) → Adds b c v left → b.size ≤ b.k → Advances b c left None
    → c.k + 1 - c.size < b.k + 1 - b.size
smaller b c v left r l h = omega (arith, r.k, l, h.0)
