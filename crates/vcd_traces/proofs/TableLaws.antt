-- One more port in the table of codes.
use Rattle.std.proofs.Common.{◌≡◌, ℕ, zero, suc, Bool, true, false, ◌&&◌, ◌||◌, if◌then◌else◌, min, List, [], ◌∷◌, ◌++◌, length, refl, sym, ◌∙◌, ap, subst, inl, inr, arith, Option, Some, None, is_some, nat_lt}
use Rattle.std.specs.Prelude.{slice_get}
use Rattle.std.specs.List.{list_any}
use Rattle.std.specs.Option.{option_and_then, option_map_or}
use Rattle.std.proofs.lemmas.Bool.{cases_Bool, cond-true, cond-false, false≢true}
use Rattle.std.proofs.lemmas.Bool.Decides.{nat_tests}
use Rattle.std.proofs.lemmas.List.Folds.{list_any-append}
use Rattle.loc_base.proofs.ShelfBools.{or-false, or-true}
use Rattle.vcd_reading.specs.Commands.{same_bytes}
use Rattle.vcd_reading.specs.Header.{Header}
use Rattle.vcd_reading.specs.declared.part.Part.TheVariants.{Whole}
use Rattle.vcd_reading.specs.Scopes.{Port, Place, Sought, scope_of, port_place, part_of, has_code, is_declared, is_shorter, most_digits}
use Rattle.vcd_reading.proofs.ByteLaws.{same_means, same_self}
use Rattle.vcd_traces.specs.declared.codes.Role.{Role}
use Rattle.vcd_traces.specs.declared.codes.Role.TheVariants.{Other, Port as OfPort}
use Rattle.vcd_traces.specs.declared.table.Table.{Table}
use Rattle.vcd_traces.specs.Table.{IsTable, role_of, with_role, cell_of, cell_codes, given_role, with_cell, IsRole, IsTableOf}
use Rattle.vcd_traces.proofs.ChangeLaws.{any_less}

-- what passes a test, with one more
any_more : (test : Port → Bool) (seen : List Port) (port : Port) → list_any test (seen ++ port ∷ []) ≡ (list_any test seen || test port)
any_more test seen port = list_any-append test seen (port ∷ []) ∙ ap (λ b. list_any test seen || b) (or-false (test port))

any_here : (test : Port → Bool) (seen : List Port) (port : Port) → test port ≡ true → list_any test (seen ++ port ∷ []) ≡ true
any_here test seen port here = any_more test seen port ∙ ap (λ b. list_any test seen || b) here ∙ or-true (list_any test seen)

any_away : (test : Port → Bool) (seen : List Port) (port : Port) → test port ≡ false → list_any test (seen ++ port ∷ []) ≡ list_any test seen
any_away test seen port away = any_more test seen port ∙ ap (λ b. list_any test seen || b) away ∙ or-false (list_any test seen)

less_both : (a b n : ℕ) → (nat_lt a n || nat_lt b n) ≡ nat_lt (min a b) n
less_both a b n = grind (arith, nat_tests)

-- cells behind which one more stands
cell_stays : {X : Type 0} (xs : List X) (k : ℕ) (x y : X) → slice_get xs k ≡ Some x → slice_get (xs ++ y ∷ []) k ≡ Some x
cell_stays [] k x y at = cc
cell_stays (z ∷ xs) zero x y at = at
cell_stays (z ∷ xs) (suc k) x y at = cell_stays xs k x y at

cell_next : {X : Type 0} (xs : List X) (y : X) → slice_get (xs ++ y ∷ []) (length xs) ≡ Some y
cell_next [] y = refl
cell_next (x ∷ xs) y = cell_next xs y

-- what stands at a place of them stood there, or is the one more
cell_was : {X : Type 0} (P : Type 0) (xs : List X) (k : ℕ) (x y : X) → slice_get (xs ++ y ∷ []) k ≡ Some x
    → (slice_get xs k ≡ Some x → P) → (k ≡ length xs → y ≡ x → P) → P
cell_was P [] zero x y at old last = last refl cc
cell_was P [] (suc k) x y at old last = cc
cell_was P (z ∷ xs) zero x y at old last = old at
cell_was P (z ∷ xs) (suc k) x y at old last = cell_was P xs k x y at old (λ here same. last (ap suc here) same)

-- the role of the code of the one more port
role_here : (h : Header) (sought : Sought) (seen : List Port) (port : Port) (code : List ℕ) (cells : List (List ℕ)) (old : Option Role)
    → has_code h sought code port ≡ true → is_some old ≡ true → ((role : Role) → old ≡ Some role → IsRole h sought seen cells code role)
    → IsRole h sought (seen ++ port ∷ []) (with_cell old cells code) code (given_role old (length cells) (most_digits port.width (part_of h sought port)))
role_here h sought seen port code cells None here some is = absurd (false≢true some)
role_here h sought seen port code cells (Some Other) here some is =
    let none : list_any (has_code h sought code) seen ≡ false = is Other refl in (
      any_here (has_code h sought code) seen port here,
      λ digits.
          any_more (is_shorter h sought code digits) seen port
          ∙ ap (λ b. b || is_shorter h sought code digits port) (any_less (has_code h sought code) (λ (p : Port). nat_lt (most_digits p.width (part_of h sought p)) digits) seen none)
          ∙ ap (λ b. b && nat_lt (most_digits port.width (part_of h sought port)) digits) here,
      cell_next cells code,
    )
role_here h sought seen port code cells (Some (OfPort cell limit)) here some is =
    let facts = is (OfPort cell limit) refl in (
      any_here (has_code h sought code) seen port here,
      λ digits.
          any_more (is_shorter h sought code digits) seen port ∙ ap (λ b. b || is_shorter h sought code digits port) (facts.1 digits)
          ∙ ap (λ b. nat_lt limit digits || (b && nat_lt (most_digits port.width (part_of h sought port)) digits)) here ∙ less_both limit (most_digits port.width (part_of h sought port)) digits,
      facts.2,
    )

-- and of another code
role_away : (h : Header) (sought : Sought) (seen : List Port) (port : Port) (code : List ℕ) (cells more : List (List ℕ)) (role : Role)
    → has_code h sought code port ≡ false → ((k : ℕ) → slice_get cells k ≡ Some code → slice_get more k ≡ Some code)
    → IsRole h sought seen cells code role → IsRole h sought (seen ++ port ∷ []) more code role
role_away h sought seen port code cells more Other away stays is = any_away (has_code h sought code) seen port away ∙ is
role_away h sought seen port code cells more (OfPort cell limit) away stays is = (
  any_away (has_code h sought code) seen port away ∙ is.0,
  λ digits. any_away (is_shorter h sought code digits) seen port (ap (λ b. b && nat_lt (most_digits port.width (part_of h sought port)) digits) away) ∙ is.1 digits,
  stays cell is.2,
)

with_stays : (o : Option Role) (cells : List (List ℕ)) (code other : List ℕ) (k : ℕ) → slice_get cells k ≡ Some other
    → slice_get (with_cell o cells code) k ≡ Some other
with_stays None cells code other k at = cell_stays cells k other code at
with_stays (Some Other) cells code other k at = cell_stays cells k other code at
with_stays (Some (OfPort cell limit)) cells code other k at = at

-- each cell is that of its code: where the one more port's code gets the next cell
next_cell : (o new : Option Role) (cells : List (List ℕ)) (code other : List ℕ) (k most : ℕ) (roles : List ℕ → Option Role)
    → option_and_then cell_of (roles code) ≡ None → new ≡ with_role code (OfPort (length cells) most) roles other
    → ((q : List ℕ) (j : ℕ) → slice_get cells j ≡ Some q → option_and_then cell_of (roles q) ≡ Some j)
    → slice_get (cells ++ code ∷ []) k ≡ Some other → option_and_then cell_of new ≡ Some k
next_cell o new cells code other k most roles none is each at =
    cell_was (option_and_then cell_of new ≡ Some k) cells k other code at
    (λ old.
    elim (cases_Bool (same_bytes code other)) [
      | inl same ↦
          let P : List ℕ → Type 0 = λ q. option_and_then cell_of (roles q) ≡ Some k in
          let found : option_and_then cell_of (roles code) ≡ Some k = subst P (sym (same_means code other same)) (each other k old) in
          absurd (none_some k (sym none ∙ found))
      | inr away ↦ ap (option_and_then cell_of) (is ∙ cond-false _ _ _ away) ∙ each other k old
    ])
    (λ here same.
    let P : List ℕ → Type 0 = λ q. same_bytes code q ≡ true in
    ap (option_and_then cell_of) (is ∙ cond-true _ _ _ (subst P same (same_self code))) ∙ ap Some (sym here))
  where
    none_some : (k : ℕ) → None ≡ Some k → ⊥
    none_some k e = cc

-- where it keeps the one that it has
same_cell : (new : Option Role) (cells : List (List ℕ)) (code other : List ℕ) (k cell limit most : ℕ) (roles : List ℕ → Option Role)
    → roles code ≡ Some (OfPort cell limit) → new ≡ with_role code (OfPort cell (min limit most)) roles other
    → ((q : List ℕ) (j : ℕ) → slice_get cells j ≡ Some q → option_and_then cell_of (roles q) ≡ Some j)
    → slice_get cells k ≡ Some other → option_and_then cell_of new ≡ Some k
same_cell new cells code other k cell limit most roles has is each at =
    elim (cases_Bool (same_bytes code other)) [
      | inl same ↦
          let P : List ℕ → Type 0 = λ q. option_and_then cell_of (roles q) ≡ Some k in
          let found : option_and_then cell_of (roles code) ≡ Some k = subst P (sym (same_means code other same)) (each other k at) in
          ap (option_and_then cell_of) (is ∙ cond-true _ _ _ same) ∙ sym (ap (option_and_then cell_of) has) ∙ found
      | inr away ↦ ap (option_and_then cell_of) (is ∙ cond-false _ _ _ away) ∙ each other k at
    ]

each_cell : (o new : Option Role) (cells : List (List ℕ)) (code other : List ℕ) (k most : ℕ) (roles : List ℕ → Option Role) → roles code ≡ o
    → new ≡ with_role code (given_role o (length cells) most) roles other
    → ((q : List ℕ) (j : ℕ) → slice_get cells j ≡ Some q → option_and_then cell_of (roles q) ≡ Some j)
    → slice_get (with_cell o cells code) k ≡ Some other → option_and_then cell_of new ≡ Some k
each_cell None new cells code other k most roles has is each at =
    next_cell None new cells code other k most roles (ap (option_and_then cell_of) has) is each at
each_cell (Some Other) new cells code other k most roles has is each at =
    next_cell None new cells code other k most roles (ap (option_and_then cell_of) has) is each at
each_cell (Some (OfPort cell limit)) new cells code other k most roles has is each at =
    same_cell new cells code other k cell limit most roles has is each at

-- the table with one more port
pub table_more : (h : Header) (sought : Sought) (seen : List Port) (port : Port) (p : Place) (old new : Table) → IsTableOf h sought seen old
    → port_place h (scope_of h sought) port ≡ Some p → is_declared h p.variable.code ≡ true
    → ((other : List ℕ) → role_of new.codes other
    ≡ with_role p.variable.code (given_role (role_of old.codes p.variable.code) (length (cell_codes old)) (most_digits port.width p.part)) (role_of old.codes) other)
    → cell_codes new ≡ with_cell (role_of old.codes p.variable.code) (cell_codes old) p.variable.code → IsTableOf h sought (seen ++ port ∷ []) new
table_more h sought seen port p old new t place declared roles cells =
    let most = most_digits port.width p.part in
    let o = role_of old.codes p.variable.code in
    let given = given_role o (length (cell_codes old)) most in
    record {
      declared = λ code.
          elim (cases_Bool (same_bytes p.variable.code code)) [
            | inl same ↦
                let P : List ℕ → Type 0 = λ q. true ≡ is_declared h q in
                ap is_some (roles code ∙ cond-true _ _ _ same) ∙ subst P (same_means p.variable.code code same) (sym declared)
            | inr away ↦ ap is_some (roles code ∙ cond-false _ _ _ away) ∙ t.declared code
          ];
      role = λ code role is.
          elim (cases_Bool (same_bytes p.variable.code code)) [
            | inl same ↦
                let has : has_code h sought p.variable.code port ≡ true = has_of p.variable.code ∙ same_self p.variable.code in
                let some : is_some o ≡ true = t.declared p.variable.code ∙ declared in
                let N : ℕ → Type 0 = λ n. IsRole h sought (seen ++ port ∷ []) (with_cell o (cell_codes old) p.variable.code) p.variable.code (given_role o (length (cell_codes old)) n) in
                let fact = subst N is_most (role_here h sought seen port p.variable.code (cell_codes old) o has some (t.role p.variable.code)) in
                let its : Some given ≡ Some role = sym (roles code ∙ cond-true _ _ _ same) ∙ is in
                let one : given ≡ role = cc in
                let P : List (List ℕ) → Type 0 = λ l. IsRole h sought (seen ++ port ∷ []) l p.variable.code given in
                let Q : List ℕ → Type 0 = λ q. IsRole h sought (seen ++ port ∷ []) (cell_codes new) q given in
                let R : Role → Type 0 = λ r. IsRole h sought (seen ++ port ∷ []) (cell_codes new) code r in
                subst R one (subst Q (same_means p.variable.code code same) (subst P (sym cells) fact))
            | inr away ↦
                let was : role_of old.codes code ≡ Some role = sym (roles code ∙ cond-false _ _ _ away) ∙ is in
                let P : List (List ℕ) → Type 0 = λ l. IsRole h sought (seen ++ port ∷ []) l code role in
                subst P (sym cells)
                (role_away h sought seen port code (cell_codes old) (with_cell o (cell_codes old) p.variable.code) role (has_of code ∙ away)
                (λ k at. with_stays o (cell_codes old) p.variable.code code k at) (t.role code role was))
          ];
      cell = λ code k at.
          let P : List (List ℕ) → Type 0 = λ l. slice_get l k ≡ Some code in
          each_cell o (role_of new.codes code) (cell_codes old) p.variable.code code k most (role_of old.codes) refl (roles code) t.cell (subst P cells at);
    }
  where
    has_of : (code : List ℕ) → has_code h sought code port ≡ same_bytes p.variable.code code
    has_of code = ap (λ o. option_map_or (λ (q : Place). same_bytes q.variable.code code) o false) place

    is_most : most_digits port.width (part_of h sought port) ≡ most_digits port.width p.part
    is_most = ap (λ o. most_digits port.width (option_map_or (λ (q : Place). q.part) o Whole)) place

-- before the first port each declared code is one of no port
pub table_first : (h : Header) (sought : Sought) (table : Table) → cell_codes table ≡ []
    → ((code : List ℕ) → role_of table.codes code ≡ (if is_declared h code then Some Other else None)) → IsTableOf h sought [] table
table_first h sought table none roles = record {
  declared = λ code. first_declared (is_declared h code) (role_of table.codes code) (roles code);
  role = λ code role is. first_role h sought (cell_codes table) code role (is_declared h code) (sym (roles code) ∙ is);
  cell = λ code k at. let P : List (List ℕ) → Type 0 = λ l. slice_get l k ≡ Some code in absurd (no_cell code k (subst P none at));
}
  where
    first_declared : (b : Bool) (o : Option Role) → o ≡ (if b then Some Other else None) → is_some o ≡ b
    first_declared true o is = ap is_some is
    first_declared false o is = ap is_some is

    first_role : (h : Header) (sought : Sought) (cells : List (List ℕ)) (code : List ℕ) (role : Role) (b : Bool)
        → (if b then Some Other else None) ≡ Some role → IsRole h sought [] cells code role
    first_role h sought cells code role true is =
        let one : Other ≡ role = cc in
        let P : Role → Type 0 = λ r. IsRole h sought [] cells code r in
        subst P one refl
    first_role h sought cells code role false is = cc

    no_cell : (code : List ℕ) (k : ℕ) → slice_get [] k ≡ Some code → ⊥
    no_cell code k at = cc

-- the code of a port has a cell
pub not_other : (h : Header) (sought : Sought) (table : Table) (code : List ℕ) → IsTable h sought table → role_of table.codes code ≡ Some Other
    → list_any (has_code h sought code) sought.ports ≡ true → ⊥
not_other h sought table code t is of_port = false≢true (sym (t.role code Other is) ∙ of_port)

pub not_none : (h : Header) (sought : Sought) (table : Table) (code : List ℕ) → IsTable h sought table → role_of table.codes code ≡ None
    → is_declared h code ≡ true → ⊥
not_none h sought table code t is declared = false≢true (ap is_some (sym is) ∙ t.declared code ∙ declared)
