-- Facts of each element of a list, and of what is there.
use Rattle.std.specs.Prelude.{⊤, List, [], ◌∷◌, Option, Some, None}

abbrev pub Every : {A : Type 0} → (A → Type 0) → List A → Type 0
Every P [] = ⊤
Every P (x ∷ xs) = P x × Every P xs

abbrev pub IfGiven : {A : Type 0} → Option A → Type 0 → Type 0
IfGiven None P = ⊤
IfGiven (Some _) P = P
