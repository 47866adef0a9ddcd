-- The places of ports are found in their scope.
use Rattle.std.proofs.Common.{◌≡◌, ℕ, zero, suc, ◌+◌, ◌<◌, ◌≤◌, Bool, true, false, ◌||◌, if◌then◌else◌, List, [], ◌∷◌, ◌++◌, length, map, take, get_or, sym, ◌∙◌, ap, subst, inl, inr, arith, Option, Some, None, is_some}
use Rattle.std.specs.Prelude.{slice_get, All, nat_lt}
use Rattle.std.specs.List.{list_any, list_all}
use Rattle.std.specs.Option.{option_map, option_and_then, option_map_or, option_or, option_copied, IfSome}
use Rattle.std.specs.Borrow.{Bor}
use Rattle.std.proofs.lemmas.Bool.{cases_Bool, cond-true, and_parts, false≢true}
use Rattle.std.proofs.lemmas.Bool.Decides.{nat_tests}
use Rattle.std.proofs.lemmas.List.{map_more, map_push, take_all, get_or_default}
use Rattle.std.proofs.lemmas.List.Sums.{fold-append}
use Rattle.std.proofs.lemmas.List.Elements.{All-append}
use Rattle.std.proofs.lemmas.Option.{slice_get-map, slice_get_past}
use Rattle.loc_base.proofs.ShelfBools.{or-true}
use Rattle.loc_base.proofs.ShelfLists.{slice_get-at}
use Rattle.vcd_reading.specs.declared.ports as code
use Rattle.vcd_reading.specs.declared.place as lent
use Rattle.vcd_reading.specs.Commands.{same_bytes}
use Rattle.vcd_reading.specs.Header.{Header}
use Rattle.vcd_reading.specs.PlaceView.{place_of}
use Rattle.vcd_reading.specs.PortView.{port_of, ports_in}
use Rattle.vcd_reading.specs.Scopes.{Port, Place, Sought, place_in, port_place, declares, if_declares, least_below, scope_at, scope_by, scope_of, has_code, most_digits}
use Rattle.vcd_reading.proofs.ByteLaws.{same_self}
use Rattle.vcd_traces.specs.declared.table.Table.{Table}
use Rattle.vcd_traces.specs.declared.sites.Site.{Site}
use Rattle.vcd_traces.specs.Samples.{with_lesser, least_port}
use Rattle.vcd_traces.specs.Table.{role_of, with_role, cell_codes, given_role, with_cell, IsTableOf}
use Rattle.vcd_traces.specs.Sites.{site_port, IsFirst, IsSite, AreSites}
use Rattle.vcd_traces.proofs.DeclaredPlaces.{place_declared}
use Rattle.vcd_traces.proofs.TableLaws.{table_more}

-- the first scope that declares every port does
least_passes : (test : ℕ → Bool) (n k : ℕ) → least_below test n ≡ Some k → test k ≡ true
least_passes test zero k is = cc
least_passes test (suc n) k is = below (least_below test n) (least_passes test n k) is
  where
    below : (o : Option ℕ) → (o ≡ Some k → test k ≡ true) → option_or o (if test n then Some n else None) ≡ Some k → test k ≡ true
    below (Some j) each same = each same
    below None each same =
        elim (cases_Bool (test n)) [
          | inl here ↦
              let it : Some n ≡ Some k = sym (cond-true _ _ _ here) ∙ same in
              let one : n ≡ k = cc in
              let P : ℕ → Type 0 = λ j. test j ≡ true in
              subst P one here
          | inr away ↦ let none : (if test n then Some n else None) ≡ None = ap (λ b. if b then Some n else None) away in cc
        ]

all_map_at : {X Y : Type 0} (f : X → Y) (test : Y → Bool) (xs : List X) (i : ℕ) (d : X) → i < length xs → list_all test (map f xs) ≡ true
    → test (f (get_or xs i d)) ≡ true
all_map_at f test [] i d within all = absurd (omega (arith, within))
all_map_at f test (x ∷ xs) zero d within all = (and_parts (test (f x)) (list_all test (map f xs)) all).0
all_map_at f test (x ∷ xs) (suc i) d within all =
    all_map_at f test xs i d (omega (arith, within)) (and_parts (test (f x)) (list_all test (map f xs)) all).1

any_map_at : {X Y : Type 0} (f : X → Y) (test : Y → Bool) (xs : List X) (i : ℕ) (d : X) → i < length xs → test (f (get_or xs i d)) ≡ true
    → list_any test (map f xs) ≡ true
any_map_at f test [] i d within passes = absurd (omega (arith, within))
any_map_at f test (x ∷ xs) zero d within passes = ap (λ b. b || list_any test (map f xs)) passes
any_map_at f test (x ∷ xs) (suc i) d within passes =
    ap (λ b. test (f x) || b) (any_map_at f test xs i d (omega (arith, within)) passes) ∙ or-true (test (f x))

-- and so does the scope of the ports
declares_all : (h : Header) (ports : List Port) (path : Option (List ℕ)) (k : ℕ) → scope_by h ports path ≡ Some k → declares h ports k ≡ true
declares_all h ports None k is = least_passes (declares h ports) (length h.scopes) k is
declares_all h ports (Some path) k is = by (scope_at h path) is
  where
    by : (o : Option ℕ) → option_and_then (if_declares h ports) o ≡ Some k → declares h ports k ≡ true
    by None same = cc
    by (Some n) same =
        elim (cases_Bool (declares h ports n)) [
          | inl here ↦
              let it : Some n ≡ Some k = sym (cond-true _ _ _ here) ∙ same in
              let one : n ≡ k = cc in
              let P : ℕ → Type 0 = λ j. declares h ports j ≡ true in
              subst P one here
          | inr away ↦ let none : if_declares h ports n ≡ None = ap (λ b. if b then Some n else None) away in cc
        ]

-- the ports that are handed over, and the path of a scope
abbrev pub sought_in : Option (List ℕ) → List code.Port.Port → Sought
sought_in path ports = record { scope = path; ports = ports_in ports }

-- so each port has a place there
has_place : (h : Header) (path : Option (List ℕ)) (ports : List code.Port.Port) (scope : lent.Scope.Scope) (i : ℕ) (d : code.Port.Port) → IsFirst h (sought_in path ports) scope
    → i < length ports → is_some (place_in h scope.number (port_of (get_or ports i d))) ≡ true
has_place h path ports scope i d is within =
    all_map_at port_of (λ (port : Port). is_some (place_in h scope.number port)) ports i d within
    (declares_all h (ports_in ports) path scope.number is.first)

-- there is no port without one
pub sites_lack : (h : Header) (path : Option (List ℕ)) (ports : List code.Port.Port) (scope : lent.Scope.Scope) (i : ℕ) (d : code.Port.Port) (found : Option lent.Place.Place)
    → IsFirst h (sought_in path ports) scope → i < length ports → found ≡ None
    → option_map place_of found ≡ place_in h scope.number (port_of (get_or ports i d)) → ⊥
sites_lack h path ports scope i d found is within none place =
    false≢true (ap is_some (sym (ap (option_map place_of) none) ∙ place) ∙ has_place h path ports scope i d is within)

-- a port with the place that is found
site_found : (h : Header) (path : Option (List ℕ)) (ports : List code.Port.Port) (scope : lent.Scope.Scope) (i : ℕ) (site : Site) → IsFirst h (sought_in path ports) scope → i < length ports
    → get_or ports i site.port ≡ site.port → place_in h scope.number (site_port site) ≡ Some (place_of site.place)
    → IsSite h (sought_in path ports) site
site_found h path ports scope i site is within at found =
    let place : port_place h (scope_of h (sought_in path ports)) (site_port site) ≡ Some (place_of site.place) =
    ap (λ s. port_place h s (site_port site)) is.first ∙ found in
    let test : Port → Bool = has_code h (sought_in path ports) site.place.variable.code.now in
    let has : test (site_port site) ≡ true =
    ap (λ o. option_map_or (λ (p : Place). same_bytes p.variable.code site.place.variable.code.now) o false) place ∙ same_self site.place.variable.code.now in
    let P : code.Port.Port → Type 0 = λ p. test (port_of p) ≡ true in
    record {
      place = place;
      of_port = any_map_at port_of test ports i site.port within (subst P (sym at) has);
      declared = place_declared h (scope_of h (sought_in path ports)) (site_port site) (place_of site.place) place;
    }

pub site_more : (h : Header) (sought : Sought) (seen : List Port) (sites : List Site) (site : Site) → AreSites h sought seen sites → IsSite h sought site
    → AreSites h sought (seen ++ site_port site ∷ []) (sites ++ site ∷ [])
site_more h sought seen sites site are one = record {
  same = map_push site_port sites site ∙ ap (λ l. l ++ site_port site ∷ []) are.same;
  each = All-append (IsSite h sought) sites (site ∷ []) are.each (λ k d within. only k d within);
}
  where
    only : (k : ℕ) (d : Site) → k < 1 → IsSite h sought (get_or (site ∷ []) k d)
    only zero d within = one
    only (suc k) d within = absurd (omega (arith, within))

-- one more port, with its place
pub sites_more : (h : Header) (path : Option (List ℕ)) (ports : List code.Port.Port) (scope : lent.Scope.Scope) (i : ℕ) (d : code.Port.Port) (sites : List Site) (p : lent.Place.Place)
    (found : Option lent.Place.Place) → IsFirst h (sought_in path ports) scope → i < length ports → found ≡ Some p
    → option_map place_of found ≡ place_in h scope.number (port_of (get_or ports i d)) → AreSites h (sought_in path ports) (ports_in (take i ports)) sites
    → AreSites h (sought_in path ports) (ports_in (take (i + 1) ports)) (sites ++ (record { port = get_or ports i d; place = p }) ∷ [])
sites_more h path ports scope i d sites p found is within some place are =
    let site : Site = record { port = get_or ports i d; place = p } in
    let P : List Port → Type 0 = λ l. AreSites h (sought_in path ports) l (sites ++ site ∷ []) in
    subst P (sym (map_more port_of ports i d within))
    (site_more h (sought_in path ports) (ports_in (take i ports)) sites site are
    (site_found h path ports scope i site is within (get_or_default ports i _ d within) (sym place ∙ ap (option_map place_of) some)))

-- the least port, with one more
pub least_more : (test : Port → Bool) (sites : List Site) (i : ℕ) (d : Site) → i < length sites
    → least_port test (map site_port (take (i + 1) sites)) ≡ with_lesser test (least_port test (map site_port (take i sites))) (site_port (get_or sites i d))
least_more test sites i d within =
    ap (least_port test) (map_more site_port sites i d within) ∙ fold-append (with_lesser test) None (map site_port (take i sites)) (site_port (get_or sites i d) ∷ [])

-- the table with the next port
pub table_site : (h : Header) (sought : Sought) (sites : List Site) (i : ℕ) (d : Site) (most : ℕ) (old new : Table) → i < length sites → All (IsSite h sought) sites
    → IsTableOf h sought (map site_port (take i sites)) old
    → most ≡ most_digits (get_or sites i d).port.width (get_or sites i d).place.part
    → ((other : List ℕ) → role_of new.codes other
    ≡ with_role (get_or sites i d).place.variable.code.now (given_role (role_of old.codes (get_or sites i d).place.variable.code.now) (length (cell_codes old)) most) (role_of old.codes) other)
    → cell_codes new ≡ with_cell (role_of old.codes (get_or sites i d).place.variable.code.now) (cell_codes old) (get_or sites i d).place.variable.code.now
    → IsTableOf h sought (map site_port (take (i + 1) sites)) new
table_site h sought sites i d most old new within all before is roles cells =
    let site = get_or sites i d in
    let code = site.place.variable.code.now in
    let P : List Port → Type 0 = λ l. IsTableOf h sought l new in
    let R : ℕ → Type 0 =
    λ n. (other : List ℕ) → role_of new.codes other ≡ with_role code (given_role (role_of old.codes code) (length (cell_codes old)) n) (role_of old.codes) other in
    subst P (sym (map_more site_port sites i d within))
    (table_more h sought (map site_port (take i sites)) (site_port site) (place_of site.place) old new before (all i d within).place (all i d within).declared
    (subst R is roles) cells)

pub table_whole : (h : Header) (sought : Sought) (sites : List Site) (i : ℕ) (table : Table) → length sites ≤ i
    → IsTableOf h sought (map site_port (take i sites)) table → IsTableOf h sought (map site_port sites) table
table_whole h sought sites i table over is =
    let P : List Site → Type 0 = λ l. IsTableOf h sought (map site_port l) table in
    subst P (take_all i sites over) is
