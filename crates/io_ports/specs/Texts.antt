-- Texts under names: pairs of a name and a text, of which the first of a name counts.
use Rattle.std.specs.Prelude.{ℕ, List, [], ◌∷◌, Option, Some, None, if◌then◌else◌}
use Rattle.std.specs.Str.{bytes_eq}

-- the text under a name, `None` where there is none
abbrev pub text_of : List (List ℕ × List ℕ) → List ℕ → Option (List ℕ)
text_of [] name = None
text_of (pair ∷ pairs) name = if bytes_eq name pair.0 then Some pair.1 else text_of pairs name
