-- Variables and bits of them are found in their scope.
use Rattle.std.proofs.Common.{◌≡◌, ℕ, ◌<◌, ◌≤◌, true, false, List, length, map, get_or, refl, sym, ◌∙◌, ap, arith, Option, Some, None, is_some}
use Rattle.std.specs.Prelude.{slice_get, nat_lt}
use Rattle.std.specs.Option.{option_map, option_and_then, option_or, option_copied, IfSome}
use Rattle.std.specs.Borrow.{Bor}
use Rattle.std.proofs.lemmas.Bool.Decides.{nat_tests}
use Rattle.std.proofs.lemmas.Option.{slice_get-map, slice_get_past}
use Rattle.loc_base.proofs.ShelfLists.{slice_get-at}
use Rattle.vcd_reading.specs.declared.header.Variable as code_variable
use Rattle.vcd_reading.specs.declared.place as code
use Rattle.vcd_reading.specs.Bits.{BitName}
use Rattle.vcd_reading.specs.Header.{Header, Variable}
use Rattle.vcd_reading.specs.HeaderView.{variable_of}
use Rattle.vcd_reading.specs.NameView.{number_at}
use Rattle.vcd_reading.specs.PlaceView.{place_of, IsScope}
use Rattle.vcd_reading.specs.Scopes.{Port, Place, bit_of, bit_place, is_named, place_in, variable_in, whole, place_of as first_place}
use Rattle.vcd_reading.proofs.IndexLaws.{place_finds}

-- an element that is lent, or none
pub lent_at : {X : Type 0} (xs : List X) (n : ℕ) (r : Option (Bor X)) → is_some r ≡ nat_lt n (length xs) → IfSome r (λ x. x.now ≡ get_or xs n x.now)
    → option_copied r ≡ slice_get xs n
lent_at xs n None some is = sym (slice_get_past xs n (past n (length xs) some))
  where
    past : (n m : ℕ) → false ≡ nat_lt n m → m ≤ n
    past n m test = grind (arith, nat_tests)
lent_at xs n (Some x) some is = sym (slice_get-at xs n x.now (within n (length xs) some) is)
  where
    within : (n m : ℕ) → true ≡ nat_lt n m → n < m
    within n m test = grind (arith, nat_tests)

-- the variable of a name is that of its number
variable_found : (h : Header) (scope : code.Scope.Scope) (name : List ℕ) → IsScope h scope
    → option_and_then (slice_get (map variable_of scope.variables.now)) (number_at scope.names.now scope.number name) ≡ variable_in h scope.number name
variable_found h scope name is =
    ap (option_and_then (slice_get (map variable_of scope.variables.now))) (is.index scope.number name)
    ∙ ap (λ l. option_and_then (slice_get l) (first_place (is_named scope.number name) h.variables)) (sym is.variables)
    ∙ place_finds (is_named scope.number name) h.variables

pub variable_at : (h : Header) (scope : code.Scope.Scope) (name : List ℕ) (n : ℕ) (found : Option code_variable.Variable) → IsScope h scope
    → number_at scope.names.now scope.number name ≡ Some n → found ≡ slice_get scope.variables.now n
    → option_map variable_of found ≡ variable_in h scope.number name
variable_at h scope name n found is number at =
    ap (option_map variable_of) at ∙ sym (slice_get-map variable_of scope.variables.now n)
    ∙ ap (option_and_then (slice_get (map variable_of scope.variables.now))) (sym number) ∙ variable_found h scope name is

pub variable_none : (h : Header) (scope : code.Scope.Scope) (name : List ℕ) → IsScope h scope
    → number_at scope.names.now scope.number name ≡ None → None ≡ variable_in h scope.number name
variable_none h scope name is number =
    ap (option_and_then (slice_get (map variable_of scope.variables.now))) (sym number) ∙ variable_found h scope name is

-- there is a place where one is found
pub place_some : {X Y : Type 0} (f : X → Y) (o : Option X) → is_some (option_map f o) ≡ is_some o
place_some f None = refl
place_some f (Some x) = refl

-- the bit of a name, by the variable that is found
pub bit_found : (h : Header) (scope : ℕ) (bit : BitName) (found : Option Variable) → found ≡ variable_in h scope bit.name
    → option_and_then (bit_of bit.number) found ≡ bit_place h scope bit
bit_found h scope bit found is = ap (option_and_then (bit_of bit.number)) is

-- the place of a port, by the variable of its name that is found, or by its bit
pub place_named : (h : Header) (scope : ℕ) (port : Port) (v : Variable) → Some v ≡ variable_in h scope port.name → Some (whole v) ≡ place_in h scope port
place_named h scope port v is = ap (λ o. option_or (option_map whole o) (option_and_then (bit_place h scope) port.bit)) is

pub place_by_bit : (h : Header) (scope : ℕ) (port : Port) (place : Option Place) → None ≡ variable_in h scope port.name
    → place ≡ option_and_then (bit_place h scope) port.bit → place ≡ place_in h scope port
place_by_bit h scope port place none is = is ∙ ap (λ o. option_or (option_map whole o) (option_and_then (bit_place h scope) port.bit)) none
