-- Where the variables of a wave's ports stand in its header.
use Rattle.std.proofs.Common.{◌≡◌, ℕ, zero, suc, arith, ◌+◌, ◌≤◌, ◌<◌, ◌^◌, ◌==◌, Bool, true, false, not, ◌&&◌, ◌||◌, Option, Some, None, List, [], ◌∷◌, length, map, refl, sym, ◌∙◌, ap, subst, inl, inr, is_some}
use Rattle.std.specs.Prelude.{codes, decimal, Contains, slice_get, nat_lt, if◌then◌else◌}
use Rattle.std.specs.List.{list_all, list_any, find, IsDistinct, AllByRecursion}
use Rattle.std.specs.Option.{option_and_then, option_map, option_or, option_map_or}
use Rattle.std.proofs.lemmas.Bool.{and_from, and_parts, cond-true, cond-false, cases_eq, or_left, or_right}
use Rattle.std.proofs.lemmas.Bool.Decides.{nat_tests}
use Rattle.std.proofs.lemmas.List.Folds.{find-append, list_any-append}
use Rattle.std.proofs.lemmas.Map.Keys.{IsDistinct-head, IsDistinct-tail}
use Rattle.std.proofs.lemmas.Option.{slice_get_within}
use Rattle.loc_base.proofs.ShelfLists.{Contains-first, Contains-later}
use Rattle.loc_base.proofs.ShelfOptions.{Some-same}
use Rattle.loc_base.proofs.ShelfBools.{and-false}
use Rattle.design_core.specs.declared.design.Design.{Design}
use Rattle.vcd_words.specs.Codes.{code_of}
use Rattle.vcd_words.specs.Times.{time_of}
use Rattle.vcd_words.proofs.TimeLaws.{written}
use Rattle.vcd_reading.specs.Commands.{same_bytes}
use Rattle.vcd_reading.specs.Header.{Header, Opened, is_real_type}
use Rattle.vcd_reading.specs.Header as read
use Rattle.vcd_reading.specs.declared.part.Part.{Part}
use Rattle.vcd_reading.specs.declared.part.Part.TheVariants.{Whole}
use Rattle.vcd_reading.specs.Scopes.{Port, anywhere, is_named, variable_in, bit_place, place_in, whole, declares, least_below, scope_of, port_place, part_of, has_code, is_declared, is_shorter, is_too_long, is_unfit, misfits, most_digits}
use Rattle.vcd_reading.specs.Scopes as scopes
use Rattle.vcd_reading.proofs.ByteLaws.{same_self}
use Rattle.vcd_waves.specs.declared.variable.Variable.{Variable}
use Rattle.vcd_waves.specs.Variables.{name_of}
use Rattle.vcd_waves.specs.ReadBack.{is_plain}
use Rattle.vcd_waves.proofs.WordForms.{plain_name, codes_differ}
use Rattle.vcd_waves.proofs.HeaderDeeds.{declared_by}
use Rattle.vcd_waves.proofs.ValueDeeds.{Takes}
use Rattle.vcd_waves.proofs.WholeHeader.{declared_in, Declares}

-- ---- lists
-- a test that each member passes
pub all_members : {X : Type 0} (test : X → Bool) (xs : List X) → ((x : X) → Contains xs x → test x ≡ true)
    → list_all test xs ≡ true
all_members test [] each = refl
all_members test (x ∷ xs) each =
    and_from (test x) (list_all test xs) (each x (Contains-first x xs))
    (all_members test xs (λ y member. each y (Contains-later x xs y member)))

-- a test that no member passes
pub no_members : {X : Type 0} (test : X → Bool) (xs : List X) → ((x : X) → Contains xs x → test x ≡ false)
    → list_any test xs ≡ false
no_members test [] each = refl
no_members test (x ∷ xs) each =
    ap (λ b. b || list_any test xs) (each x (Contains-first x xs))
    ∙ no_members test xs (λ y member. each y (Contains-later x xs y member))

-- the least number below another is 0, where that passes
least_zero : (test : ℕ → Bool) (n : ℕ) → test 0 ≡ true → least_below test (suc n) ≡ Some 0
least_zero test zero first = cond-true (test 0) (Some 0) None first
least_zero test (suc n) first = ap (λ o. option_or o (if test (suc n) then Some (suc n) else None))
    (least_zero test n first)

-- ---- a variable found by its name
apart_at : (d : Design) (clock : Option (List ℕ)) (name : List ℕ) (vs : List Variable) (k : ℕ) (v : Variable)
    → AllByRecursion (λ other. same_bytes name other ≡ false) (map (name_of d clock) vs) → slice_get vs k ≡ Some v
    → same_bytes name (name_of d clock v) ≡ false
apart_at d clock name [] k v apart at = cc
apart_at d clock name (x ∷ vs) zero v apart at = ap (λ y. same_bytes name (name_of d clock y)) (sym (Some-same at))
    ∙ apart.0
apart_at d clock name (x ∷ vs) (suc k) v apart at = apart_at d clock name vs k v apart.1 at

found_named : (d : Design) (clock : Option (List ℕ)) (n : ℕ) (vs : List Variable) (k : ℕ) (v : Variable)
    → IsDistinct same_bytes (map (name_of d clock) vs) → list_all is_plain (map (name_of d clock) vs) ≡ true
    → slice_get vs k ≡ Some v
    → find (is_named 0 (name_of d clock v)) (declared_in d clock (Some 0) n vs)
    ≡ Some (declared_by (Some 0) v.width (code_of (n + k)) (name_of d clock v))
found_named d clock n [] k v distinct plain at = cc
found_named d clock n (x ∷ vs) zero v distinct plain at =
    let P : Variable → Type 0 =
    λ y. find (is_named 0 (name_of d clock y)) (declared_in d clock (Some 0) n (x ∷ vs))
    ≡ Some (declared_by (Some 0) y.width (code_of (n + 0)) (name_of d clock y)) in
    let parts = and_parts (is_plain (name_of d clock x)) (list_all is_plain (map (name_of d clock) vs)) plain in
    let test : same_bytes (read.name_of (name_of d clock x)) (name_of d clock x) ≡ true =
    ap (λ l. same_bytes l (name_of d clock x)) (plain_name (name_of d clock x) parts.0)
    ∙ same_self (name_of d clock x) in
    let none : n ≡ n + 0 = omega arith in
    subst P (Some-same at)
    (cond-true _ _ _ test ∙ ap (λ m. Some (declared_by (Some 0) x.width (code_of m) (name_of d clock x))) none)
found_named d clock n (x ∷ vs) (suc k) v distinct plain at =
    let parts = and_parts (is_plain (name_of d clock x)) (list_all is_plain (map (name_of d clock) vs)) plain in
    let test : same_bytes (read.name_of (name_of d clock x)) (name_of d clock v) ≡ false =
    ap (λ l. same_bytes l (name_of d clock v)) (plain_name (name_of d clock x) parts.0)
    ∙ apart_at d clock (name_of d clock x) vs k v
    (IsDistinct-head same_bytes (name_of d clock x) (map (name_of d clock) vs) distinct) at in
    let more : n + 1 + k ≡ n + suc k = omega arith in
    cond-false _ _ _ test
    ∙ found_named d clock (n + 1) vs k v
    (IsDistinct-tail same_bytes (name_of d clock x) (map (name_of d clock) vs) distinct) parts.1 at
    ∙ ap (λ m. Some (declared_by (Some 0) v.width (code_of m) (name_of d clock v))) more

-- each variable's code is declared
abbrev has : List ℕ → read.Variable → Bool
has code v = same_bytes v.code code

code_declared : (d : Design) (clock : Option (List ℕ)) (scope : Option ℕ) (n : ℕ) (vs : List Variable) (k : ℕ)
    (v : Variable)
    → slice_get vs k ≡ Some v → list_any (has (code_of (n + k))) (declared_in d clock scope n vs) ≡ true
code_declared d clock scope n [] k v at = cc
code_declared d clock scope n (x ∷ vs) zero v at =
    let none : n ≡ n + 0 = omega arith in
    or_left _ _ (ap (λ m. same_bytes (code_of n) (code_of m)) (sym none) ∙ same_self (code_of n))
code_declared d clock scope n (x ∷ vs) (suc k) v at =
    let more : n + 1 + k ≡ n + suc k = omega arith in
    or_right _ _ (ap (λ m. list_any (has (code_of m)) (declared_in d clock scope (n + 1) vs)) (sym more)
    ∙ code_declared d clock scope (n + 1) vs k v at)

-- ---- the sites of ports
-- the variable of a port: its number among all, and that it has the port's name and width
pub record Site (d : Design) (clock : Option (List ℕ)) (vs : List Variable) (port : Port) : Type 0 where
  pub number : ℕ
  pub variable : Variable
  pub at : slice_get vs number ≡ Some variable
  pub name : name_of d clock variable ≡ port.name
  pub width : variable.width ≡ port.width
  pub small : port.width ≤ 128

-- what is known of a header
pub record Known (d : Design) (clock : Option (List ℕ)) (vs freed : List Variable) (ports : List Port)
    (h : Header) : Type 0 where
  pub declares : Declares h d clock vs freed
  pub distinct : IsDistinct same_bytes (map (name_of d clock) vs)
  pub plain : list_all is_plain (map (name_of d clock) vs) ≡ true
  pub site : (port : Port) → Contains ports port → Site d clock vs port
  pub few : length vs + length freed ≤ 56335895

pub found_port : (d : Design) (clock : Option (List ℕ)) (vs freed : List Variable) (ports : List Port) (h : Header)
    (known : Known d clock vs freed ports h) (port : Port) (site : Site d clock vs port)
    → variable_in h 0 port.name ≡ Some (declared_by (Some 0) port.width (code_of site.number) port.name)
found_port d clock vs freed ports h known port site =
    let first : List read.Variable = declared_in d clock (Some 0) 0 vs in
    let second : List read.Variable = declared_in d clock (Some 1) (length vs) freed in
    let none : 0 + site.number ≡ site.number = omega arith in
    ap (λ l. find (is_named 0 port.name) l) known.declares.variables
    ∙ find-append (is_named 0 port.name) first second
    ∙ ap (λ name. option_or (find (is_named 0 name) first) (find (is_named 0 port.name) second)) (sym site.name)
    ∙ ap (λ o. option_or o (find (is_named 0 port.name) second))
    (found_named d clock 0 vs site.number site.variable known.distinct known.plain site.at)
    ∙ ap (λ m. Some (declared_by (Some 0) site.variable.width (code_of m) (name_of d clock site.variable))) none
    ∙ ap (λ w. Some (declared_by (Some 0) w (code_of site.number) (name_of d clock site.variable))) site.width
    ∙ ap (λ name. Some (declared_by (Some 0) port.width (code_of site.number) name)) site.name

-- it stands there as a whole
found_place : (d : Design) (clock : Option (List ℕ)) (vs freed : List Variable) (ports : List Port) (h : Header)
    (known : Known d clock vs freed ports h) (port : Port) (site : Site d clock vs port)
    → place_in h 0 port ≡ Some (whole (declared_by (Some 0) port.width (code_of site.number) port.name))
found_place d clock vs freed ports h known port site =
    ap (λ o. option_or (option_map whole o) (option_and_then (bit_place h 0) port.bit))
    (found_port d clock vs freed ports h known port site)

pub first_scope : (d : Design) (clock : Option (List ℕ)) (vs freed : List Variable) (ports : List Port) (h : Header)
    → Known d clock vs freed ports h → scope_of h (anywhere ports) ≡ Some 0
first_scope d clock vs freed ports h known =
    let all : declares h ports 0 ≡ true =
    all_members (λ (port : Port). is_some (place_in h 0 port)) ports
    (λ port member. ap (λ o. is_some o)
    (found_place d clock vs freed ports h known port (known.site port member))) in
    ap (λ (l : List Opened). least_below (declares h ports) (length l)) known.declares.scopes
    ∙ least_zero (declares h ports) (length known.declares.more) all

pub port_found : (d : Design) (clock : Option (List ℕ)) (vs freed : List Variable) (ports : List Port) (h : Header)
    (known : Known d clock vs freed ports h) (port : Port) (site : Site d clock vs port)
    → port_place h (scope_of h (anywhere ports)) port ≡ Some (whole (declared_by (Some 0) port.width (code_of site.number) port.name))
port_found d clock vs freed ports h known port site =
    ap (λ scope. port_place h scope port) (first_scope d clock vs freed ports h known)
    ∙ found_place d clock vs freed ports h known port site

pub port_code : (d : Design) (clock : Option (List ℕ)) (vs freed : List Variable) (ports : List Port) (h : Header)
    (known : Known d clock vs freed ports h) (port : Port) (site : Site d clock vs port)
    → scopes.code_of h (anywhere ports) port ≡ code_of site.number
port_code d clock vs freed ports h known port site =
    ap (λ (o : Option scopes.Place). option_map_or (λ (p : scopes.Place). p.variable.code) o [])
    (port_found d clock vs freed ports h known port site)

pub port_part : (d : Design) (clock : Option (List ℕ)) (vs freed : List Variable) (ports : List Port) (h : Header)
    (known : Known d clock vs freed ports h) (port : Port) (site : Site d clock vs port) → part_of h (anywhere ports) port ≡ Whole
port_part d clock vs freed ports h known port site =
    ap (λ (o : Option scopes.Place). option_map_or (λ (p : scopes.Place). p.part) o Whole)
    (port_found d clock vs freed ports h known port site)

port_has : (d : Design) (clock : Option (List ℕ)) (vs freed : List Variable) (ports : List Port) (h : Header)
    (known : Known d clock vs freed ports h) (port : Port) (site : Site d clock vs port) (code : List ℕ)
    → has_code h (anywhere ports) code port ≡ same_bytes (code_of site.number) code
port_has d clock vs freed ports h known port site code =
    ap (λ (o : Option scopes.Place). option_map_or (λ (p : scopes.Place). same_bytes p.variable.code code) o false)
    (port_found d clock vs freed ports h known port site)

-- a port's variable fits it
not_real : is_real_type (codes "wire") ≡ false
unfolding is_real_type
not_real = refl

same_width : (width : ℕ) → width ≤ 128 → not (time_of (decimal width) == width) ≡ false
same_width width small =
    ap (λ n. not (n == width)) (written width (omega (arith, small))).value ∙ itself width
  where
    itself : (n : ℕ) → not (n == n) ≡ false
    itself n = grind (arith, nat_tests)

pub port_fits : (d : Design) (clock : Option (List ℕ)) (vs freed : List Variable) (ports : List Port) (h : Header)
    (known : Known d clock vs freed ports h) (port : Port) (site : Site d clock vs port) → is_unfit h (anywhere ports) port ≡ false
port_fits d clock vs freed ports h known port site =
    ap (λ (o : Option scopes.Place). option_map_or (λ (p : scopes.Place). misfits port.width p.variable p.part) o false)
    (port_found d clock vs freed ports h known port site)
    ∙ ap (λ b. b || not (time_of (decimal port.width) == port.width)) not_real ∙ same_width port.width site.small

-- ---- what a code takes
short : (d : Design) (clock : Option (List ℕ)) (vs freed : List Variable) (ports : List Port) (h : Header)
    (known : Known d clock vs freed ports h) (n digits : ℕ) → n < 2 ^ 64
    → ((port : Port) (site : Site d clock vs port) → site.number ≡ n → digits ≤ port.width)
    → is_too_long h (anywhere ports) (code_of n) digits ≡ false
short d clock vs freed ports h known n digits small wide =
    no_members (is_shorter h (anywhere ports) (code_of n) digits) ports
    (λ port member. one port (known.site port member))
  where
    not_less : (a b : ℕ) → a ≤ b → nat_lt b a ≡ false
    not_less a b within = grind (arith, nat_tests)

    one : (port : Port) → Site d clock vs port → is_shorter h (anywhere ports) (code_of n) digits port ≡ false
    one port site =
        elim (cases_eq site.number n) [
          | inl same ↦ ap (λ (part : Part). has_code h (anywhere ports) (code_of n) port && nat_lt (most_digits port.width part) digits)
              (port_part d clock vs freed ports h known port site)
              ∙ ap (λ b. has_code h (anywhere ports) (code_of n) port && b) (not_less digits port.width (wide port site same)) ∙ and-false _
          | inr apart ↦
              let few = known.few in
              let within : site.number < length vs = slice_get_within vs site.number site.variable site.at in
              ap (λ b. b && nat_lt (most_digits port.width (part_of h (anywhere ports) port)) digits)
              (port_has d clock vs freed ports h known port site (code_of n)
              ∙ codes_differ site.number n (omega (arith, few, within)) small apart)
        ]

pub takes_port : (d : Design) (clock : Option (List ℕ)) (vs freed : List Variable) (ports : List Port) (h : Header)
    (known : Known d clock vs freed ports h) (n digits : ℕ) (v : Variable) → slice_get vs n ≡ Some v → digits ≤ v.width
    → Takes (anywhere ports) h (code_of n) digits
takes_port d clock vs freed ports h known n digits v at within =
    let first : List read.Variable = declared_in d clock (Some 0) 0 vs in
    let second : List read.Variable = declared_in d clock (Some 1) (length vs) freed in
    let below : n < length vs = slice_get_within vs n v at in
    let few = known.few in
    let none : 0 + n ≡ n = omega arith in
    record {
      declared = ap (list_any (has (code_of n))) known.declares.variables
          ∙ list_any-append (has (code_of n)) first second
          ∙ or_left _ _ (ap (λ m. list_any (has (code_of m)) first) (sym none)
          ∙ code_declared d clock (Some 0) 0 vs n v at);
      fits = short d clock vs freed ports h known n digits (omega (arith, below, few))
          (λ port site same. wide port site same);
    }
  where
    wide : (port : Port) (site : Site d clock vs port) → site.number ≡ n → digits ≤ port.width
    wide port site same =
        let is : v ≡ site.variable = Some-same (sym at ∙ ap (slice_get vs) (sym same) ∙ site.at) in
        let equal : v.width ≡ port.width = ap (λ (x : Variable). x.width) is ∙ site.width in
        omega (arith, within, equal)

pub takes_freed : (d : Design) (clock : Option (List ℕ)) (vs freed : List Variable) (ports : List Port) (h : Header)
    (known : Known d clock vs freed ports h) (n digits : ℕ) (v : Variable) → slice_get freed n ≡ Some v
    → Takes (anywhere ports) h (code_of (length vs + n)) digits
takes_freed d clock vs freed ports h known n digits v at =
    let first : List read.Variable = declared_in d clock (Some 0) 0 vs in
    let second : List read.Variable = declared_in d clock (Some 1) (length vs) freed in
    let below : n < length freed = slice_get_within freed n v at in
    let few = known.few in
    record {
      declared = ap (list_any (has (code_of (length vs + n)))) known.declares.variables
          ∙ list_any-append (has (code_of (length vs + n))) first second
          ∙ or_right _ _ (code_declared d clock (Some 1) (length vs) freed n v at);
      fits = short d clock vs freed ports h known (length vs + n) digits (omega (arith, below, few))
          (λ port site same. absurd (omega (arith, slice_get_within vs site.number site.variable site.at, same)));
    }
