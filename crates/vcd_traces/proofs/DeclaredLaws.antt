-- The roles of the codes that a header declares, variable by variable.
use Rattle.std.proofs.Common.{◌≡◌, ℕ, ◌+◌, ◌<◌, ◌≤◌, Bool, ◌||◌, if◌then◌else◌, List, [], ◌∷◌, ◌++◌, length, map, take, get_or, sym, ◌∙◌, ap, inl, inr, Option, Some, None}
use Rattle.std.specs.List.{list_any}
use Rattle.std.proofs.lemmas.Bool.{cases_Bool, cond-true, cond-false}
use Rattle.std.proofs.lemmas.List.{map_more, take_all}
use Rattle.std.proofs.lemmas.List.Folds.{list_any-append}
use Rattle.loc_base.proofs.ShelfBools.{or-false, or-true}
use Rattle.vcd_reading.specs.declared.header.Variable as code_variable
use Rattle.vcd_reading.specs.Commands.{same_bytes}
use Rattle.vcd_reading.specs.Header.{Variable}
use Rattle.vcd_reading.specs.HeaderView.{variable_of}
use Rattle.vcd_traces.specs.declared.codes.Codes.{Codes}
use Rattle.vcd_traces.specs.declared.codes.Role.{Role}
use Rattle.vcd_traces.specs.declared.codes.Role.TheVariants.{Other}
use Rattle.vcd_traces.specs.Table.{role_of, with_role}

abbrev has_one : List ℕ → Variable → Bool
has_one code v = same_bytes v.code code

abbrev declared_role : List Variable → List ℕ → Option Role
declared_role seen code = if list_any (λ (v : Variable). same_bytes v.code code) seen then Some Other else None

one_more : (seen : List Variable) (v : Variable) (code : List ℕ) (before : Option Role) → before ≡ declared_role seen code
    → (if same_bytes v.code code then Some Other else before) ≡ declared_role (seen ++ v ∷ []) code
one_more seen v code before is =
    let more : list_any (has_one code) (seen ++ v ∷ []) ≡ (list_any (has_one code) seen || same_bytes v.code code) =
    list_any-append (has_one code) seen (v ∷ []) ∙ ap (λ b. list_any (has_one code) seen || b) (or-false (same_bytes v.code code)) in
    elim (cases_Bool (same_bytes v.code code)) [
      | inl same ↦
          cond-true _ _ _ same
          ∙ sym (cond-true _ _ _ (more ∙ ap (λ b. list_any (has_one code) seen || b) same ∙ or-true (list_any (has_one code) seen)))
      | inr away ↦
          cond-false _ _ _ away ∙ is
          ∙ ap (λ b. if b then Some Other else None)
          (sym (more ∙ ap (λ b. list_any (has_one code) seen || b) away ∙ or-false (list_any (has_one code) seen)))
    ]

pub codes_more : (variables : List code_variable.Variable) (i : ℕ) (d : code_variable.Variable) (old new : Codes) → i < length variables
    → ((code : List ℕ) → role_of old code ≡ declared_role (map variable_of (take i variables)) code)
    → ((code : List ℕ) → role_of new code ≡ with_role (get_or variables i d).code.now Other (role_of old) code)
    → (code : List ℕ) → role_of new code ≡ declared_role (map variable_of (take (i + 1) variables)) code
codes_more variables i d old new within before set code =
    set code ∙ one_more (map variable_of (take i variables)) (variable_of (get_or variables i d)) code (role_of old code) (before code)
    ∙ ap (λ l. declared_role l code) (sym (map_more variable_of variables i d within))

pub codes_whole : (variables : List code_variable.Variable) (i : ℕ) (codes : Codes) → length variables ≤ i
    → ((code : List ℕ) → role_of codes code ≡ declared_role (map variable_of (take i variables)) code)
    → (code : List ℕ) → role_of codes code ≡ declared_role (map variable_of variables) code
codes_whole variables i codes over before code =
    before code ∙ ap (λ l. declared_role (map variable_of l) code) (take_all i variables over)
