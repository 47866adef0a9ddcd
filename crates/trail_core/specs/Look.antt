-- What one look at a clause finds.
use Rattle.std.specs.Prelude.{ℕ}
use Rattle.clause_base.specs.declared.literal.Lit.{Lit}
use Rattle.clause_base.specs.Acceptance.{numbered}
use Rattle.trail_core.specs.declared.plain.look.Look.{Look}
use Rattle.trail_core.specs.declared.plain.look.Look.TheVariants as look
use Rattle.trail_core.specs.Values.{IsVariable, IsFalsified, Rests}
use Rattle.trail_core.specs.TrailState.{TrailState, IsNumber, IsReason, values_of}

-- the literal is unit in the clause with the number, and of a variable of the trail
pub record Forces (t : TrailState) (n : ℕ) (l : Lit) : Type 0 where
  pub variable : IsVariable t.vars l.var
  pub reason : IsReason t.clauses (values_of t.entries) n l

-- what is found at the clause with the number
abbrev pub LookGives : TrailState → ℕ → Look → Type 0
LookGives t n look.Rests = Rests (values_of t.entries) (numbered t.clauses n)
LookGives t n look.Falsified = IsFalsified (values_of t.entries) (numbered t.clauses n)
LookGives t n (look.Unit l) = Forces t n l

-- the clause with the number is falsified
pub record Falsifies (t : TrailState) (n : ℕ) : Type 0 where
  pub number : IsNumber t.clauses n
  pub falsified : IsFalsified (values_of t.entries) (numbered t.clauses n)
