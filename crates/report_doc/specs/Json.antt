-- JSON values that a report is made of. What the JSON of a text is, and what text a value has, `serde_json` says.
use Rattle.std.specs.Prelude.{◌≡◌, ℕ, List, map, Some, IsUtf8}
use Rattle.serde_json.specs.Data.{Data, number, unsigned, array}
use Rattle.serde_json.specs.Read.{read}
use Rattle.serde_json.specs.View.{items_of}

-- the text is JSON with this value
abbrev pub IsJsonOf : Data → List ℕ → Type 0
IsJsonOf value text = IsUtf8 text × (read text ≡ Some value)

-- the text is JSON
abbrev pub IsJson : List ℕ → Type 0
IsJson text = (value : Data) × IsJsonOf value text

-- a whole number
abbrev pub number_data : ℕ → Data
number_data n = number (unsigned n)

-- a list, its elements being written by f
abbrev pub list_data : {T : Type 0} → (T → Data) → List T → Data
list_data f xs = array (items_of (map f xs))
