-- A scope as contracts see it: what each name stands for.
use Rattle.std.specs.Prelude.{ℕ, List, Option}
use Rattle.v_sizes.specs.declared.meaning.Meaning.{Meaning}

abbrev pub Look : Type 0
Look = List ℕ → Option Meaning
