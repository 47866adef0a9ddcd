-- An output of a gate is a left side, or it is refused.
use Rattle.std.proofs.Common.{◌≡◌, List, [], ◌∷◌, ◌++◌, Option, Some, None, refl}
use Rattle.std.specs.Prelude.{reverse, Result, Ok, Err}
use Rattle.std.proofs.lemmas.List.{reverse-append, reverse-reverse}
use Rattle.v_syntax.specs.Tree.{Tree}
use Rattle.v_syntax.specs.PartTree.{PlainLeft}
use Rattle.v_hierarchy.specs.Constants.{site_of}
use Rattle.v_binding.specs.declared.error.BindErr.{BindErr}
use Rattle.v_binding.specs.declared.error.BindErr.TheVariants as fault
use Rattle.v_binding.specs.Steps.{◌>>=◌}
use Rattle.v_binding.specs.Names.{Names}
use Rattle.v_binding.specs.declared.left.Left.{Left}
use Rattle.v_binding.specs.Lefts.{target, as_left}
use Rattle.v_binding.specs.Gates.{Output, output_at}
use Rattle.bind_scopes.specs.Written.{output}

abbrev with_output : Tree → List Output → Left → Result (List Output) BindErr
with_output e done x = Ok (done ++ record { site = site_of e; left = x } ∷ [])

pub output-step : (names : Names) (e : Tree) (done : List Output) → output_at names e done ≡ output names e >>= with_output e done
output-step names e done = step (as_left e)
  where
    step : (l : Option PlainLeft)
        → (elim l [
          | None ↦ Err (fault.PortName (site_of e).span)
          | Some l ↦ target names l >>= with_output e done
        ]) ≡ (elim l [
          | None ↦ Err (fault.PortName (site_of e).span)
          | Some l ↦ target names l
        ]) >>= with_output e done
    step None = refl
    step (Some l) = refl

pub reversed-pushed : (xs : List Output) (x : Output) → reverse (xs ++ x ∷ []) ≡ x ∷ reverse xs
reversed-pushed xs x = reverse-append xs (x ∷ [])

pub reversed-again : (xs : List Output) → reverse (reverse xs) ≡ xs
reversed-again xs = reverse-reverse xs

pub ruleset reversed_laws = (reversed-pushed, reversed-again)
