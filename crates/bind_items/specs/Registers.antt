-- What a name that is assigned at the start stands for, as it is looked up; only private contracts cite it.
use Rattle.std.specs.Prelude.{ℕ, Option, Some}
use Rattle.v_sizes.specs.declared.meaning.Meaning.{Meaning}
use Rattle.v_sizes.specs.declared.meaning.Meaning.TheVariants as meaning

abbrev pub width_in : Option Meaning → ℕ
width_in (Some (meaning.Signal _ width _ _ _)) = width
width_in _ = 1

abbrev pub number_in : Option Meaning → ℕ
number_in (Some (meaning.Signal signal _ _ _ _)) = signal
number_in _ = 0
