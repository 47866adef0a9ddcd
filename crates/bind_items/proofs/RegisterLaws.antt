-- What a name that is assigned at the start stands for is what it is looked up as.
use Rattle.std.proofs.Common.{◌≡◌, ◌≤◌, ℕ, Bool, List, Option, Some, None, refl, sym, ◌∙◌}
use Rattle.std.specs.Prelude.{ℤ}
use Rattle.std.specs.Option.{option_and_then}
use Rattle.v_sizes.specs.declared.meaning.Meaning.{Meaning}
use Rattle.v_sizes.specs.declared.meaning.Meaning.TheVariants as meaning
use Rattle.v_sizes.specs.Look.{Look}
use Rattle.v_sizes.specs.Context.{IsScope}
use Rattle.v_binding.specs.declared.known.Use.{Use}
use Rattle.v_binding.specs.declared.known.Use.TheVariants.{Stands as stands, AtTurn as at_turn, Outside as outside}
use Rattle.v_binding.specs.Uses.{meaning_of}
use Rattle.v_binding.specs.Names.{Names, find, look_in}
use Rattle.v_binding.specs.Assignments.{width_of, number_of}
use Rattle.bind_items.specs.Registers.{number_in, width_in}

use-width : (u : Option Use) → width_in (option_and_then meaning_of u) ≡ width_of u
use-width None = refl
use-width (Some (stands (meaning.Constant value left right))) = refl
use-width (Some (stands (meaning.Signal signal width signed left right))) = refl
use-width (Some (stands (meaning.Array first count low width signed left right))) = refl
use-width (Some (at_turn value)) = refl
use-width (Some outside) = refl

use-number : (u : Option Use) → number_in (option_and_then meaning_of u) ≡ number_of u
use-number None = refl
use-number (Some (stands (meaning.Constant value left right))) = refl
use-number (Some (stands (meaning.Signal signal width signed left right))) = refl
use-number (Some (stands (meaning.Array first count low width signed left right))) = refl
use-number (Some (at_turn value)) = refl
use-number (Some outside) = refl

pub looked-width : (names : Names) (name : List ℕ) → width_in (look_in names name) ≡ width_of (find names name)
looked-width names name = use-width (find names name)

pub looked-number : (names : Names) (name : List ℕ) → number_in (look_in names name) ≡ number_of (find names name)
looked-number names name = use-number (find names name)

-- a signal has 1 to 128 bits
pub signal-width : (look : Look) (name : List ℕ) (found : Option Meaning) → IsScope look → found ≡ look name
    → (signal width : ℕ) (signed : Bool) (left right : ℤ) → found ≡ Some (meaning.Signal signal width signed left right) → (1 ≤ width) × (width ≤ 128)
signal-width look name found scope finds signal width signed left right is =
    let range = scope name (meaning.Signal signal width signed left right) (sym finds ∙ is) in (range.least, range.most)
