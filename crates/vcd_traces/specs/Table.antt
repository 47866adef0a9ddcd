-- The table of a dump's codes: what each declared code is to the ports.
use Rattle.std.specs.Prelude.{ℕ, ◌≡◌, true, false, min, nat_eq, nat_lt, if◌then◌else◌, List, [], ◌∷◌, ◌++◌, length, get_or, map, Option, Some, None, is_some, slice_get}
use Rattle.std.specs.List.{list_any}
use Rattle.std.specs.Borrow.{Bor}
use Rattle.std.specs.HashMap as hash
use Rattle.std.specs.Cmp.Lexicographic.{pointwise}
use Rattle.std.specs.Option.{option_and_then}
use Rattle.vcd_words.specs.Codes.{place_in}
use Rattle.vcd_traces.specs.declared.codes.Codes.{Codes}
use Rattle.vcd_traces.specs.declared.codes.Role.{Role}
use Rattle.vcd_traces.specs.declared.codes.Role.TheVariants.{Other, Port as OfPort}
use Rattle.vcd_traces.specs.declared.table.Table.{Table}
use Rattle.vcd_reading.specs.Header.{Header}
use Rattle.vcd_reading.specs.Scopes.{Port, Sought, has_code, is_declared, is_shorter}

-- the place of a code in a list of so many, where it has one there
abbrev pub near_place : ℕ → List ℕ → Option ℕ
near_place count code = option_and_then (λ place. if nat_lt place count then Some place else None) (place_in code)

-- the role of a code, where it is declared: by its place in the list, else by the map
abbrev pub role_at : Codes → List ℕ → Option ℕ → Option Role
role_at codes code None = hash.get_by (λ key. pointwise nat_eq code key.now) codes.far
role_at codes code (Some place) = get_or codes.near.items place None

unfoldable pub role_of : Codes → List ℕ → Option Role
role_of codes code = role_at codes code (near_place (length codes.near.items) code)

-- the roles of codes, with that of one code put in its place
abbrev pub with_role : List ℕ → Role → (List ℕ → Option Role) → List ℕ → Option Role
with_role code role roles other = if pointwise nat_eq code other then Some role else roles other

-- the cell of a role, if it has one
abbrev pub cell_of : Role → Option ℕ
cell_of Other = None
cell_of (OfPort cell limit) = Some cell

-- the code of each cell
abbrev pub cell_codes : Table → List (List ℕ)
cell_codes table = map (λ (code : Bor (List ℕ)). code.now) table.cells.items

-- a code that none of some ports has, or one whose values may have so many digits for each of them that has it, and for one no more
abbrev pub IsRole : Header → Sought → List Port → List (List ℕ) → List ℕ → Role → Type 0
IsRole h sought seen cells code Other = list_any (has_code h sought code) seen ≡ false
IsRole h sought seen cells code (OfPort cell limit) =
    (list_any (has_code h sought code) seen ≡ true)
    × ((digits : ℕ) → list_any (is_shorter h sought code digits) seen ≡ nat_lt limit digits)
    × (slice_get cells cell ≡ Some code)

-- a table has the declared codes and their roles, and a cell for each code of some of the ports
pub record IsTableOf (h : Header) (sought : Sought) (seen : List Port) (table : Table) : Type 0 where
  pub declared : (code : List ℕ) → is_some (role_of table.codes code) ≡ is_declared h code
  pub role : (code : List ℕ) (role : Role) → role_of table.codes code ≡ Some role → IsRole h sought seen (cell_codes table) code role
  pub cell : (code : List ℕ) (k : ℕ) → slice_get (cell_codes table) k ≡ Some code → option_and_then cell_of (role_of table.codes code) ≡ Some k

-- or of all of them
abbrev pub IsTable : Header → Sought → Table → Type 0
IsTable h sought table = IsTableOf h sought sought.ports table

-- the role of a code of one more port, whose values may have so many digits: it keeps its cell, or gets the next one
abbrev pub given_role : Option Role → ℕ → ℕ → Role
given_role None next most = OfPort next most
given_role (Some Other) next most = OfPort next most
given_role (Some (OfPort cell limit)) next most = OfPort cell (min limit most)

abbrev pub with_cell : Option Role → List (List ℕ) → List ℕ → List (List ℕ)
with_cell None cells code = cells ++ code ∷ []
with_cell (Some Other) cells code = cells ++ code ∷ []
with_cell (Some (OfPort cell limit)) cells code = cells
