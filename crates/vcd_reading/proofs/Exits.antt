-- The exit of a `?` that passes a refusal on.
use Rattle.std.proofs.Common.{◌≡◌, Result, Ok, Err, sym, subst}
use Rattle.std.specs.Result.{IsErrAnd, IfErr}
use Rattle.vcd_reading.specs.declared.error.VcdErr.{VcdErr}

-- what holds of a refusal holds where it is passed on
pub passed_on : {T : Type 0} (P : VcdErr → Type 0) (r : Result T VcdErr) (e : VcdErr) → IsErrAnd r (λ y. y ≡ e) → P e → IfErr r P
passed_on P (Ok x) e same fact = tt
passed_on P (Err y) e same fact = subst P (sym same) fact
