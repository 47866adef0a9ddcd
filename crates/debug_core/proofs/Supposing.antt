-- The literals of a set and its values stand in the form.
use Rattle.std.proofs.Common.{◌≡◌, ℕ, ◌+◌, ◌-◌, ◌<◌, ◌≤◌, List, [], ◌∷◌, ◌++◌, length, get_or, subst, arith}
use Rattle.std.specs.Prelude.{All}
use Rattle.std.proofs.lemmas.List.Elements.{All-nil, All-push}
use Rattle.clause_base.specs.declared.literal.Lit.{Lit}
use Rattle.clause_base.specs.Literal.{IsWithin}
use Rattle.gate_base.specs.declared.literal.Literal.{Literal}
use Rattle.gate_base.specs.declared.literal.Literal.TheVariants as of
use Rattle.gate_base.specs.Literals.{IsBelow}
use Rattle.unroller.specs.Reads.{IsUnrolled, unrolled_lit}
use Rattle.unroller.specs.Unrolls.{Unrolling, variables_of}
use Rattle.unroller.specs.declared.unrolled_lit.UnrolledLit.{UnrolledLit}
use Rattle.unroller.proofs.ReadSteps.{free-below}
use Rattle.form_values.proofs.WordSteps.{column-in}
use Rattle.debug_core.specs.Supposed.{IsBitWithin, IsLitWithin}

-- a literal of a definition is one of the form
pub bit-within : (u : Unrolling) → IsUnrolled u → (x : Literal) → IsBelow (length u.definitions) x → IsBitWithin (variables_of u) (unrolled_lit u.base x)
bit-within u kept (of.Known value) below = tt
bit-within u kept (of.Of node negated) below = (omega (arith, kept.some), omega (arith, kept.some, below))

pub none-within : (vars : ℕ) → IsWithin vars []
none-within vars = All-nil (IsLitWithin vars)

pub more-within : (vars : ℕ) (literals : List Lit) (l : Lit) → IsWithin vars literals → IsLitWithin vars l → IsWithin vars (literals ++ l ∷ [])
more-within vars literals l all one = All-push (IsLitWithin vars) literals l all one

pub ruleset literals = (column-in, free-below)

pub ruleset columns = (none-within, more-within)
