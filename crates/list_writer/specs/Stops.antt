-- Private, for the functions inside this crate: what writes come to.
use Rattle.std.specs.Prelude.{ℕ, Option, Result, Ok, Err}
use Rattle.write_order.specs.declared.write.WriteErr.{WriteErr}
use Rattle.write_order.specs.declared.write.WriteErr.TheVariants as write
use Rattle.list_writer.specs.declared.stop.Stop.{Stop}
use Rattle.list_writer.specs.declared.stop.Stop.TheVariants.{Failed, Memory}

-- behind so many sets that are printed
abbrev pub stopped : {X : Type 0} → Result X WriteErr → Option ℕ → Result X Stop
stopped (Ok x) sets = Ok x
stopped (Err write.Failed) sets = Err Failed
stopped (Err write.NoMemory) sets = Err (Memory sets)
