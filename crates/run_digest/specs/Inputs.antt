-- The text that stands for the inputs of a run, a line for each: its form, the top, the clock, the kinds of suspects, the size of
-- the sets, and the SHA-256 (FIPS 180-4) of the design's text and of each trace's, which are given as their digests; then, where the
-- dumps are read otherwise than by themselves, how.
use Rattle.std.specs.Prelude.{ℕ, Bool, true, false, List, [], ◌∷◌, ◌++◌, Option, Some, None, codes, decimal}
use Rattle.std.specs.List.{flat_map, join_by}
use Rattle.std.specs.Borrow.{Bor}
use Rattle.std.specs.Option.{option_copied}
use Rattle.hex.specs.Hex.{encode_lower}
use Rattle.loc_base.specs.declared.digest.Digest.{Digest}
use Rattle.run_digest.specs.declared.inputs.Inputs.{Inputs}

-- a word, a space, what is said of it, and a newline
abbrev pub line : List ℕ → List ℕ → List ℕ
line word said = word ++ 32 ∷ (said ++ 10 ∷ [])

-- names with a comma between each two
abbrev pub joined : List (List ℕ) → List ℕ
joined names = join_by (λ name. name) (codes ",") names

-- a name, and nothing where there is none
abbrev pub name_or_nothing : Option (Bor (List ℕ)) → List ℕ
name_or_nothing (Some name) = name.now
name_or_nothing None = []

-- the SHA-256 of a trace's text, given as its digest, in lower-case hex digits
abbrev pub trace_line : Digest → List ℕ
trace_line text = line (codes "trace") (encode_lower text.bytes)

-- the path of the scope that is read of each trace's text, and nothing where none is named
abbrev pub scope_lines : Option (List ℕ) → List ℕ
scope_lines (Some path) = line (codes "scope") path
scope_lines None = []

-- that unknown bits of inputs are read as 0, and nothing where they aren't
abbrev pub zero_lines : Bool → List ℕ
zero_lines true = line (codes "x-inputs") (codes "0")
zero_lines false = []

-- all lines; that of the design has the SHA-256 of its text, given as its digest
abbrev pub inputs_text : Inputs → List ℕ
inputs_text of =
    codes "localise 1\n"
    ++ (line (codes "top") of.top.now
    ++ (line (codes "clock") (name_or_nothing of.clock)
    ++ (line (codes "kinds") (joined of.kinds.now)
    ++ (line (codes "size") (decimal of.size)
    ++ (line (codes "design") (encode_lower of.design.bytes)
    ++ (flat_map trace_line of.traces.now
    ++ (scope_lines (option_copied of.scope) ++ zero_lines of.zero_inputs)))))))
