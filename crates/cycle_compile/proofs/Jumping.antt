-- Jumps, and programs that grow.
use Rattle.std.proofs.Common.{◌≡◌, ℕ, ◌≤◌, List, length, arith, sym, subst, inl, inr}
use Rattle.std.specs.Prelude.{true}
use Rattle.std.proofs.lemmas.Bool.{cases_lt}
use Rattle.cycle_code.specs.declared.instruction.Instruction.TheVariants.{Jump}
use Rattle.cycle_code.specs.Program.{Program, Grown, Grows, with_instruction}
use Rattle.cycle_code.specs.Fitting.{IsSound}
use Rattle.cycle_code.proofs.RunSteps.{jumped-at}
use Rattle.cycle_code.proofs.GrowthLaws.{Grows-length, Grown-refl}
use Rattle.cycle_compile.specs.Compiling.{Leads}
use Rattle.cycle_compile.specs.Carrying.{Jumps}
use Rattle.cycle_compile.proofs.Leading.{Leads-none, Leads-pushed}

-- ---- programs that grow
pub Grows-most : {X : Type 0} (xs ys : List X) → Grows xs ys → length xs ≤ length ys
Grows-most xs ys grows = elim (cases_lt (length ys) (length xs)) [
  | inl more ↦ absurd (omega (arith, Grows-length xs ys grows (length ys) more))
  | inr most ↦ most
]

pub more-instructions : (p q : Program) → Grown p q → length p.instructions ≤ length q.instructions
more-instructions p q grown = Grows-most p.instructions q.instructions grown.instructions

-- ---- jumps
-- none is needed
pub Jumps-none : (old : Program) (target : ℕ) → target ≡ length old.instructions → Jumps old old target
Jumps-none old target is = record {
  grown = Grown-refl old;
  goes = λ p choice V grown has. subst (λ n. Leads p choice (length old.instructions) V n V) (sym is)
      (Leads-none (length old.instructions) has);
}

-- one is pushed
pub Jumps-push : (old new : Program) (target : ℕ) → target ≤ length old.instructions
    → new ≡ with_instruction (Jump target) old → IsSound new → Grown old new
    → Jumps old new target
Jumps-push old new target h is sound grown = record {
  grown = grown;
  goes = λ p choice V more has.
      subst (λ n. Leads p choice (length new.instructions) V n V) (jumped-at (length old.instructions) target true h)
      (Leads-pushed (Jump target) old new p choice V is sound more has);
}
