-- The lines of a wave's header are read.
use Rattle.std.proofs.Common.{◌≡◌, if◌then◌else◌, ◌||◌, ℕ, ◌+◌, Bool, true, false, not, Option, Some, None, List, [], ◌∷◌, ◌++◌, length, refl, ◌∙◌, ap}
use Rattle.std.specs.Prelude.{codes, decimal, if◌then◌else◌}
use Rattle.std.specs.List.{list_all}
use Rattle.std.specs.Option.{option_or}
use Rattle.std.proofs.lemmas.Bool.{cond-true, cond-false, and_parts, and_from}
use Rattle.loc_base.proofs.ShelfBools.{not-true}
use Rattle.vcd_words.specs.Words.{Placed}
use Rattle.vcd_words.specs.Lines.{line_words}
use Rattle.vcd_reading.specs.declared.commands.Command.{Command}
use Rattle.vcd_reading.specs.declared.commands.Command.TheVariants.{Scope, Upscope, Var, EndDefinitions, Other}
use Rattle.vcd_reading.specs.declared.kinds.Kind.TheVariants.{Section}
use Rattle.vcd_reading.specs.Commands.{is_dump, named_command, is_end}
use Rattle.vcd_reading.specs.Pieces.{kind_of, behind_end}
use Rattle.vcd_reading.specs.Header.{Header, Variable, is_size, wrong_in, wrong_in_var, name_of, scope_name, with_scope, without_scope, declared}
use Rattle.vcd_reading.specs.Scopes.{Sought}
use Rattle.vcd_reading.specs.Changes.{Past}
use Rattle.vcd_reading.specs.Reading.{step_of, step_inside, step_behind, does}
use Rattle.vcd_reading.specs.Reading.Step.{goes}
use Rattle.vcd_waves.specs.Runs.{IsDeed}

abbrev Line : Type 0
Line = List (List ℕ)

-- the past with another header
abbrev pub headed : Past → Header → Past
headed past header = record past { header = header }

-- which words begin which sections
pub timescale_kind : kind_of true (codes "$timescale") ≡ Some (Section Other)
unfolding named_command is_dump
timescale_kind = refl

pub scope_kind : kind_of true (codes "$scope") ≡ Some (Section Scope)
unfolding named_command is_dump
scope_kind = refl

pub upscope_kind : kind_of true (codes "$upscope") ≡ Some (Section Upscope)
unfolding named_command is_dump
upscope_kind = refl

pub var_kind : kind_of true (codes "$var") ≡ Some (Section Var)
unfolding named_command is_dump
var_kind = refl

pub end_kind : kind_of true (codes "$enddefinitions") ≡ Some (Section EndDefinitions)
unfolding named_command is_dump
end_kind = refl

end_is_end : is_end (codes "$end") ≡ true
unfolding is_end
end_is_end = refl

pub module_no_end : is_end (codes "module") ≡ false
unfolding is_end
module_no_end = refl

pub wire_no_end : is_end (codes "wire") ≡ false
unfolding is_end
wire_no_end = refl

pub nanosecond_no_end : is_end (codes "1ns") ≡ false
unfolding is_end
nanosecond_no_end = refl

-- one word before the end of a section, and the end itself
pub behind_other : (word : Placed) (words : List Placed) → is_end word.word ≡ false
    → behind_end (word ∷ words) ≡ behind_end words
unfolding behind_end
behind_other word words other = cond-false _ _ _ other

pub behind_last : (at : ℕ) (words : List Placed)
    → behind_end ((record { at = at; word = codes "$end" }) ∷ words) ≡ Some words
unfolding behind_end
behind_last at words = cond-true _ _ _ end_is_end

-- a section whose words before its end are others
pub section_ends : (at : ℕ) (inner : Line) (behind : List Placed) → list_all (λ word. not (is_end word)) inner ≡ true
    → behind_end (line_words at (inner ++ codes "$end" ∷ []) ++ behind) ≡ Some behind
section_ends at [] behind others = behind_last at behind
section_ends at (word ∷ inner) behind others =
    let tests = and_parts (not (is_end word)) (list_all (λ w. not (is_end w)) inner) others in
    behind_other (record { at = at; word = word })
    (line_words (at + length word + 1) (inner ++ codes "$end" ∷ []) ++ behind) (not-true (is_end word) tests.0)
    ∙ section_ends (at + length word + 1) inner behind tests.1

-- a section of a command but `$var`
pub section_deed : (sought : Sought) (end : ℕ) (past : Past) (command : Command) (keyword : List ℕ) (inner : Line)
    (header : Header)
    → past.header.ended ≡ false → kind_of true keyword ≡ Some (Section command)
    → list_all (λ word. not (is_end word)) inner ≡ true
    → ((at : ℕ) (behind : List Placed)
    → (wrong_in command (line_words at (inner ++ codes "$end" ∷ []) ++ behind) ≡ None)
    × (declared past.header command (line_words at (inner ++ codes "$end" ∷ []) ++ behind) ≡ header))
    → IsDeed sought end past keyword (inner ++ codes "$end" ∷ []) (headed past header)
section_deed sought end past command keyword inner header begun kind others deeds at behind =
    let from : ℕ = at + length keyword + 1 in
    let words : List Placed = line_words (at + length keyword + 1) (inner ++ codes "$end" ∷ []) ++ behind in
    let first : Placed = record { at = at; word = keyword } in
    ap (λ header. step_of sought end past (kind_of (not header) keyword) first words) begun
    ∙ ap (λ k. step_of sought end past k first words) kind
    ∙ ap (λ wrong. step_inside wrong
    (step_behind end (behind_end words) (does sought past (Section command) first words))) (deeds from behind).0
    ∙ ap (λ rest. step_behind end rest (does sought past (Section command) first words))
    (section_ends from inner behind others)
    ∙ ap (λ h. goes (headed past h) behind) (deeds from behind).1

-- the lines that declare no variable
pub timescale_deed : (sought : Sought) (end : ℕ) (past : Past) → past.header.ended ≡ false
    → IsDeed sought end past (codes "$timescale") (codes "1ns" ∷ codes "$end" ∷ []) (headed past past.header)
timescale_deed sought end past begun =
    section_deed sought end past Other (codes "$timescale") (codes "1ns" ∷ []) past.header begun timescale_kind
    (and_from _ _ (ap not nanosecond_no_end) refl)
    (λ at behind. (refl, refl))

-- the name of the scope that a line opens
scope_named : (at : ℕ) (name : List ℕ) (behind : List Placed) → is_end name ≡ false
    → scope_name (line_words at (codes "module" ∷ name ∷ codes "$end" ∷ []) ++ behind) ≡ name
unfolding scope_name
scope_named at name behind other =
    ap (λ b. if b || is_end name then [] else name) module_no_end ∙ cond-false (is_end name) [] name other

pub scope_deed : (sought : Sought) (end : ℕ) (past : Past) (name : List ℕ) → past.header.ended ≡ false
    → is_end name ≡ false
    → IsDeed sought end past (codes "$scope") (codes "module" ∷ name ∷ codes "$end" ∷ [])
    (headed past (with_scope past.header name))
scope_deed sought end past name begun other =
    section_deed sought end past Scope (codes "$scope") (codes "module" ∷ name ∷ [])
    (with_scope past.header name) begun scope_kind
    (and_from _ _ (ap not module_no_end) (and_from _ _ (ap not other) refl))
    (λ at behind. (refl, ap (with_scope past.header) (scope_named at name behind other)))

pub upscope_deed : (sought : Sought) (end : ℕ) (past : Past) → past.header.ended ≡ false
    → IsDeed sought end past (codes "$upscope") (codes "$end" ∷ []) (headed past (without_scope past.header))
upscope_deed sought end past begun =
    section_deed sought end past Upscope (codes "$upscope") [] (without_scope past.header) begun upscope_kind refl
    (λ at behind. (refl, refl))

pub end_deed : (sought : Sought) (end : ℕ) (past : Past) → past.header.ended ≡ false
    → IsDeed sought end past (codes "$enddefinitions") (codes "$end" ∷ [])
    (headed past (record past.header { ended = true }))
end_deed sought end past begun =
    section_deed sought end past EndDefinitions (codes "$enddefinitions") []
    (record past.header { ended = true }) begun end_kind refl (λ at behind. (refl, refl))

-- the variable that a line declares
abbrev pub declared_by : Option ℕ → ℕ → List ℕ → List ℕ → Variable
declared_by scope width code name = record
    { scope = scope; type_word = codes "wire"; size = decimal width; code = code; name = name_of name }

abbrev pub with_one : Header → Variable → Header
with_one h v = record h { variables = h.variables ++ v ∷ [] }

-- the words of a `$var` are not wrong
none_wrong : (b : Bool) (at : ℕ) (rest : Option ℕ) → b ≡ false → option_or (if b then Some at else None) rest ≡ rest
none_wrong true at rest e = cc
none_wrong false at rest e = refl

var_right : (at : ℕ) (size code name : List ℕ) (behind : List Placed) → is_size size ≡ true → is_end code ≡ false
    → is_end name ≡ false
    → wrong_in_var (line_words at (codes "wire" ∷ size ∷ code ∷ name ∷ codes "$end" ∷ []) ++ behind) ≡ None
unfolding wrong_in_var
var_right at size code name behind sized coded named =
    let second : ℕ = at + length (codes "wire") + 1 in
    let third : ℕ = at + length (codes "wire") + 1 + length size + 1 in
    let fourth : ℕ = at + length (codes "wire") + 1 + length size + 1 + length code + 1 in
    none_wrong (is_end (codes "wire")) at
    (option_or (if not (is_size size) then Some second else None)
    (option_or (if is_end code then Some third else None) (if is_end name then Some fourth else None))) wire_no_end
    ∙ none_wrong (not (is_size size)) second
    (option_or (if is_end code then Some third else None) (if is_end name then Some fourth else None)) (ap not sized)
    ∙ none_wrong (is_end code) third (if is_end name then Some fourth else None) coded
    ∙ cond-false (is_end name) (Some fourth) None named

pub var_deed : (sought : Sought) (end : ℕ) (past : Past) (width : ℕ) (code name : List ℕ) → past.header.ended ≡ false
    → is_size (decimal width) ≡ true → is_end code ≡ false → is_end name ≡ false → is_end (decimal width) ≡ false
    → IsDeed sought end past (codes "$var") (codes "wire" ∷ decimal width ∷ code ∷ name ∷ codes "$end" ∷ [])
    (headed past (with_one past.header (declared_by past.header.current width code name)))
var_deed sought end past width code name begun sized coded named number =
    section_deed sought end past Var (codes "$var") (codes "wire" ∷ decimal width ∷ code ∷ name ∷ [])
    (with_one past.header (declared_by past.header.current width code name)) begun var_kind
    (and_from _ _ (ap not wire_no_end)
    (and_from _ _ (ap not number) (and_from _ _ (ap not coded) (and_from _ _ (ap not named) refl))))
    (λ at behind. (var_right at (decimal width) code name behind sized coded named, refl))
