-- What is known where a call succeeds.
use Rattle.std.proofs.Common.{Result, Ok, Err}
use Rattle.std.specs.Prelude.{OnOk}

pub on_ok-two : {T E P Q R : Type 0} (r : Result T E) → (P → Q → R) → OnOk r P → OnOk r Q → OnOk r R
on_ok-two (Ok x) f one other = f one other
on_ok-two (Err e) f one other = tt

pub on_ok-three : {T E P Q R S : Type 0} (r : Result T E) → (P → Q → R → S) → OnOk r P → OnOk r Q → OnOk r R → OnOk r S
on_ok-three (Ok x) f one second third = f one second third
on_ok-three (Err e) f one second third = tt
