-- The variables of a wave are those of the ports, in another order.
use Rattle.std.proofs.Common.{◌≡◌, ℕ, zero, suc, arith, ◌+◌, ◌≤◌, true, Option, Some, None, List, [], ◌∷◌, ◌++◌, length, map, refl, sym, ◌∙◌, ap, subst, inl, inr, append_assoc}
use Rattle.std.specs.Prelude.{decimal, Contains, slice_get, nat_le}
use Rattle.std.specs.List.{list_all, IsDistinct}
use Rattle.std.specs.List.Sorted.{IsPermutation}
use Rattle.std.proofs.lemmas.Bool.{and_parts, cond-true, cond-false, cases_Bool}
use Rattle.std.proofs.lemmas.Bool.Decides.{nat_tests}
use Rattle.std.proofs.lemmas.Cmp.{nat_list_eq_equiv}
use Rattle.std.proofs.lemmas.List.{length-map, map-append}
use Rattle.std.proofs.lemmas.List.Elements.{Contains-append_left, Contains-append_right, Contains-append_cases}
use Rattle.std.proofs.lemmas.List.Sorted.{IsPermutation-refl, IsPermutation-sym, IsPermutation-trans, IsPermutation-cons, IsPermutation-append_left, IsPermutation-append_right, IsPermutation-append_comm, IsPermutation-to_front, IsPermutation-map, Contains-permutation, length_permutation}
use Rattle.std.proofs.lemmas.Map.Keys.{IsDistinct-IsPermutation}
use Rattle.loc_base.proofs.ShelfLists.{Contains-at, Contains-place, Contains-empty, Contains-cons, list_all-member}
use Rattle.loc_base.proofs.ShelfOptions.{option_map-some}
use Rattle.std.proofs.lemmas.Option.{slice_get-map}
use Rattle.design_core.specs.declared.design.Design.{Design}
use Rattle.design_core.specs.Valuation.{width_at}
use Rattle.vcd_reading.specs.Commands.{same_bytes}
use Rattle.vcd_reading.specs.Scopes.{Port, port_at, clock_port, input_ports, output_ports, clock_ports, ports_of}
use Rattle.vcd_traces.specs.Ports.{is_port, HasPorts}
use Rattle.vcd_waves.specs.declared.variable.Variable.{Variable}
use Rattle.vcd_waves.specs.declared.variable.Kind.{Kind}
use Rattle.vcd_waves.specs.declared.variable.Kind.TheVariants.{Clock, Input, Output, Freed}
use Rattle.vcd_waves.specs.Variables.{listed, clock_signal, clock_variables, placed_among, merged, port_variables, name_of, width_in}
use Rattle.vcd_waves.specs.ReadBack.{is_plain, port_names}
use Rattle.vcd_waves.proofs.WordForms.{plain_word, marked_word, decimal_black}
use Rattle.vcd_waves.proofs.WholeHeader.{Named, no_name, one_name}
use Rattle.vcd_waves.proofs.Sites.{all_members, Site}

-- ---- merged lists are one list in another order
to_front : {X : Type 0} (xs : List X) (x : X) (ys : List X) → IsPermutation (xs ++ x ∷ ys) (x ∷ xs ++ ys)
to_front xs x ys =
    let P : List _ → Type 0 = λ l. IsPermutation l (x ∷ xs ++ ys) in
    subst P (append_assoc xs (x ∷ []) ys)
    (IsPermutation-append_left ys (xs ++ x ∷ []) (x ∷ xs) (IsPermutation-to_front xs x))

placed_permutes : (v : Variable) (behind : List Variable → List Variable) (rest : List Variable)
    → ((zs : List Variable) → IsPermutation (rest ++ zs) (behind zs)) → (others : List Variable)
    → IsPermutation (v ∷ rest ++ others) (placed_among v behind others)
placed_permutes v behind rest each [] = IsPermutation-cons v (rest ++ []) (behind []) (each [])
placed_permutes v behind rest each (other ∷ others) =
    let P : List Variable → Type 0 = IsPermutation (v ∷ rest ++ other ∷ others) in
    let more : List Variable = placed_among v behind others in
    elim (cases_Bool (nat_le v.number other.number)) [
      | inl first ↦ subst P (sym (cond-true _ _ _ first))
          (IsPermutation-cons v (rest ++ other ∷ others) (behind (other ∷ others)) (each (other ∷ others)))
      | inr later ↦
          subst P (sym (cond-false _ _ _ later))
          (IsPermutation-trans (v ∷ rest ++ other ∷ others) (other ∷ v ∷ rest ++ others) (other ∷ more)
          (to_front (v ∷ rest) other others)
          (IsPermutation-cons other (v ∷ rest ++ others) more (placed_permutes v behind rest each others)))
    ]

pub merged_permutes : (vs others : List Variable) → IsPermutation (vs ++ others) (merged vs others)
merged_permutes [] others = IsPermutation-refl others
merged_permutes (v ∷ vs) others = placed_permutes v (merged vs) vs (merged_permutes vs) others

-- the variables of the ports, kind by kind
abbrev inputs_of : Design → List Variable
inputs_of d = listed d Input 0 d.inputs.items

abbrev outputs_of : Design → List Variable
outputs_of d = listed d Output 0 d.outputs.items

abbrev pub unmerged : Design → Option (List ℕ) → List Variable
unmerged d clock = clock_variables d clock ++ (inputs_of d ++ outputs_of d)

pub ports_permute : (d : Design) (clock : Option (List ℕ)) → IsPermutation (unmerged d clock) (port_variables d clock)
ports_permute d clock =
    IsPermutation-trans (unmerged d clock) (clock_variables d clock ++ merged (inputs_of d) (outputs_of d))
    (port_variables d clock)
    (IsPermutation-append_right (clock_variables d clock) (inputs_of d ++ outputs_of d)
    (merged (inputs_of d) (outputs_of d)) (merged_permutes (inputs_of d) (outputs_of d)))
    (merged_permutes (clock_variables d clock) (merged (inputs_of d) (outputs_of d)))

-- ---- their names are those of the ports
abbrev name : Port → List ℕ
name port = port.name

input_names : (d : Design) (clock : Option (List ℕ)) (place : ℕ) (numbers : List ℕ)
    → map (name_of d clock) (listed d Input place numbers) ≡ map name (map (port_at d) numbers)
input_names d clock place [] = refl
input_names d clock place (s ∷ numbers) = ap (λ l. name (port_at d s) ∷ l) (input_names d clock (place + 1) numbers)

output_names : (d : Design) (clock : Option (List ℕ)) (place : ℕ) (numbers : List ℕ)
    → map (name_of d clock) (listed d Output place numbers) ≡ map name (map (port_at d) numbers)
output_names d clock place [] = refl
output_names d clock place (s ∷ numbers) = ap (λ l. name (port_at d s) ∷ l) (output_names d clock (place + 1) numbers)

clock_names : (d : Design) (clock : Option (List ℕ))
    → map (name_of d clock) (clock_variables d clock) ≡ map name (clock_ports d clock)
clock_names d None = refl
clock_names d (Some clock) = refl

unmerged_names : (d : Design) (clock : Option (List ℕ))
    → map (name_of d clock) (unmerged d clock) ≡ map name (clock_ports d clock) ++ map name
    (input_ports d ++ output_ports d)
unmerged_names d clock =
    map-append (name_of d clock) (clock_variables d clock) (inputs_of d ++ outputs_of d)
    ∙ ap (λ l. l ++ map (name_of d clock) (inputs_of d ++ outputs_of d)) (clock_names d clock)
    ∙ ap (λ l. map name (clock_ports d clock) ++ l)
    (map-append (name_of d clock) (inputs_of d) (outputs_of d)
    ∙ ap (λ l. l ++ map (name_of d clock) (outputs_of d)) (input_names d clock 0 d.inputs.items)
    ∙ ap (λ l. map name (input_ports d) ++ l) (output_names d clock 0 d.outputs.items)
    ∙ sym (map-append name (input_ports d) (output_ports d)))

ports_names : (d : Design) (clock : Option (List ℕ))
    → port_names d clock ≡ map name (input_ports d ++ output_ports d) ++ map name (clock_ports d clock)
ports_names d clock = map-append name (input_ports d ++ output_ports d) (clock_ports d clock)

pub names_permute : (d : Design) (clock : Option (List ℕ))
    → IsPermutation (port_names d clock) (map (name_of d clock) (port_variables d clock))
names_permute d clock =
    let C : List (List ℕ) = map name (clock_ports d clock) in
    let R : List (List ℕ) = map name (input_ports d ++ output_ports d) in
    let P : List (List ℕ) → Type 0 = λ l. IsPermutation l (map (name_of d clock) (unmerged d clock)) in
    let Q : List (List ℕ) → Type 0 = IsPermutation (R ++ C) in
    IsPermutation-trans (port_names d clock) (map (name_of d clock) (unmerged d clock))
    (map (name_of d clock) (port_variables d clock))
    (subst P (sym (ports_names d clock)) (subst Q (sym (unmerged_names d clock)) (IsPermutation-append_comm R C)))
    (IsPermutation-map (name_of d clock) (unmerged d clock) (port_variables d clock) (ports_permute d clock))

pub names_distinct : (d : Design) (clock : Option (List ℕ)) → IsDistinct same_bytes (port_names d clock)
    → IsDistinct same_bytes (map (name_of d clock) (port_variables d clock))
names_distinct d clock distinct =
    IsDistinct-IsPermutation same_bytes nat_list_eq_equiv.symm (port_names d clock)
    (map (name_of d clock) (port_variables d clock))
    (names_permute d clock) distinct

pub names_plain : (d : Design) (clock : Option (List ℕ)) → list_all is_plain (port_names d clock) ≡ true
    → list_all is_plain (map (name_of d clock) (port_variables d clock)) ≡ true
names_plain d clock plain =
    let back = IsPermutation-sym (port_names d clock) (map (name_of d clock) (port_variables d clock))
    (names_permute d clock) in
    all_members is_plain (map (name_of d clock) (port_variables d clock))
    (λ x member. list_all-member is_plain (port_names d clock) x plain
    (Contains-permutation (map (name_of d clock) (port_variables d clock)) (port_names d clock) x back member))

pub as_many : (d : Design) (clock : Option (List ℕ)) → length (port_variables d clock) ≡ length (ports_of d clock)
as_many d clock =
    sym (length-map (port_variables d clock) (name_of d clock))
    ∙ length_permutation (port_names d clock) (map (name_of d clock) (port_variables d clock)) (names_permute d clock)
    ∙ length-map (ports_of d clock) name

-- ---- names are words
pub plain_named : (d : Design) (clock : Option (List ℕ)) (vs : List Variable)
    → list_all is_plain (map (name_of d clock) vs) ≡ true
    → Named d clock vs
plain_named d clock [] plain = no_name
plain_named d clock (v ∷ vs) plain =
    let parts = and_parts (is_plain (name_of d clock v)) (list_all is_plain (map (name_of d clock) vs)) plain in
    one_name (plain_word (name_of d clock v) parts.0) (plain_named d clock vs parts.1)

pub freed_named : (d : Design) (clock : Option (List ℕ)) (place : ℕ) (numbers : List ℕ)
    → Named d clock (listed d Freed place numbers)
freed_named d clock place [] = no_name
freed_named d clock place (s ∷ numbers) =
    one_name (marked_word 112 (decimal s) refl (omega arith) (decimal_black s))
    (freed_named d clock (place + 1) numbers)

pub listed_many : (d : Design) (kind : Kind) (place : ℕ) (numbers : List ℕ)
    → length (listed d kind place numbers) ≡ length numbers
listed_many d kind place [] = refl
listed_many d kind place (s ∷ numbers) = ap (λ n. suc n) (listed_many d kind (place + 1) numbers)

-- ---- the sites of the ports
pub listed_at : (d : Design) (kind : Kind) (place : ℕ) (numbers : List ℕ) (i s : ℕ) → slice_get numbers i ≡ Some s
    → slice_get (listed d kind place numbers) i ≡ Some
    (record { kind = kind; place = place + i; number = s; width = width_in d kind s })
listed_at d kind place [] i s at = cc
listed_at d kind place (x ∷ numbers) zero s at =
    let none : place ≡ place + 0 = omega arith in
    let same : x ≡ s = cc in
    ap (λ y. Some (record { kind = kind; place = place; number = y; width = width_in d kind y })) same
    ∙ ap (λ p. Some (record { kind = kind; place = p; number = s; width = width_in d kind s })) none
listed_at d kind place (x ∷ numbers) (suc i) s at =
    let more : place + 1 + i ≡ place + suc i = omega arith in
    listed_at d kind (place + 1) numbers i s at
    ∙ ap (λ p. Some (record { kind = kind; place = p; number = s; width = width_in d kind s })) more

placed_at : (d : Design) (clock : Option (List ℕ)) (v : Variable) → Contains (unmerged d clock) v
    → (k : ℕ) × (slice_get (port_variables d clock) k ≡ Some v)
placed_at d clock v member =
    Contains-place (port_variables d clock) v
    (Contains-permutation (unmerged d clock) (port_variables d clock) v (ports_permute d clock) member)

-- the variable of an input or an output, by its place in the list
abbrev pub input_variable : Design → ℕ → ℕ → Variable
input_variable d i s = record { kind = Input; place = i; number = s; width = width_at d.signals.items s }

abbrev pub output_variable : Design → ℕ → ℕ → Variable
output_variable d i s = record { kind = Output; place = i; number = s; width = width_at d.signals.items s }

abbrev pub clock_variable : Design → List ℕ → Variable
clock_variable d clock = record { kind = Clock; place = 0; number = clock_signal d.signals.items clock; width = 1 }

-- a number of a variable
pub record Place (d : Design) (clock : Option (List ℕ)) (v : Variable) : Type 0 where
  pub number : ℕ
  pub at : slice_get (port_variables d clock) number ≡ Some v

pub input_place : (d : Design) (clock : Option (List ℕ)) (i s : ℕ) → slice_get d.inputs.items i ≡ Some s
    → Place d clock (input_variable d i s)
input_place d clock i s at =
    let none : 0 + i ≡ i = omega arith in
    let listed_here : slice_get (inputs_of d) i ≡ Some (input_variable d i s) =
    listed_at d Input 0 d.inputs.items i s at ∙ ap (λ p. Some (input_variable d p s)) none in
    let found = placed_at d clock (input_variable d i s)
    (Contains-append_right (clock_variables d clock) (inputs_of d ++ outputs_of d) (input_variable d i s)
    (Contains-append_left (inputs_of d) (outputs_of d) (input_variable d i s)
    (Contains-at (inputs_of d) i (input_variable d i s) listed_here))) in
    record { number = found.0; at = found.1 }

pub output_place : (d : Design) (clock : Option (List ℕ)) (i s : ℕ) → slice_get d.outputs.items i ≡ Some s
    → Place d clock (output_variable d i s)
output_place d clock i s at =
    let none : 0 + i ≡ i = omega arith in
    let listed_here : slice_get (outputs_of d) i ≡ Some (output_variable d i s) =
    listed_at d Output 0 d.outputs.items i s at ∙ ap (λ p. Some (output_variable d p s)) none in
    let found = placed_at d clock (output_variable d i s)
    (Contains-append_right (clock_variables d clock) (inputs_of d ++ outputs_of d) (output_variable d i s)
    (Contains-append_right (inputs_of d) (outputs_of d) (output_variable d i s)
    (Contains-at (outputs_of d) i (output_variable d i s) listed_here))) in
    record { number = found.0; at = found.1 }

pub clock_place : (d : Design) (clock : List ℕ) → Place d (Some clock) (clock_variable d clock)
clock_place d clock =
    let found = placed_at d (Some clock) (clock_variable d clock)
    (Contains-append_left (clock_variables d (Some clock)) (inputs_of d ++ outputs_of d) (clock_variable d clock)
    (Contains-at (clock_variables d (Some clock)) 0 (clock_variable d clock) refl)) in
    record { number = found.0; at = found.1 }

-- widths are those of ports
at_most : (n m : ℕ) → nat_le n m ≡ true → n ≤ m
at_most n m test = grind (arith, nat_tests)

pub narrow : (d : Design) (numbers : List ℕ) (s : ℕ) → list_all (is_port d) numbers ≡ true → Contains numbers s
    → width_at d.signals.items s ≤ 128
narrow d numbers s all member =
    let port = list_all-member (is_port d) numbers s all member in
    at_most (width_at d.signals.items s) 128
    (and_parts (nat_le 1 (width_at d.signals.items s)) (nat_le (width_at d.signals.items s) 128) port).1

abbrev pub input_site : (d : Design) (clock : Option (List ℕ)) (has : HasPorts d) (i s : ℕ)
    → slice_get d.inputs.items i ≡ Some s
    → Site d clock (port_variables d clock) (port_at d s)
input_site d clock has i s at =
    let place = input_place d clock i s at in
    record {
      number = place.number;
      variable = input_variable d i s;
      at = place.at;
      name = refl;
      width = refl;
      small = narrow d d.inputs.items s has.inputs (Contains-at d.inputs.items i s at);
    }

abbrev pub output_site : (d : Design) (clock : Option (List ℕ)) (has : HasPorts d) (i s : ℕ)
    → slice_get d.outputs.items i ≡ Some s
    → Site d clock (port_variables d clock) (port_at d s)
output_site d clock has i s at =
    let place = output_place d clock i s at in
    record {
      number = place.number;
      variable = output_variable d i s;
      at = place.at;
      name = refl;
      width = refl;
      small = narrow d d.outputs.items s has.outputs (Contains-at d.outputs.items i s at);
    }

abbrev pub clock_site : (d : Design) (clock : List ℕ)
    → Site d (Some clock) (port_variables d (Some clock)) (clock_port d clock)
clock_site d clock =
    let place = clock_place d clock in
    record {
      number = place.number;
      variable = clock_variable d clock;
      at = place.at;
      name = refl;
      width = refl;
      small = omega arith;
    }

-- each port has one
of_numbers : (d : Design) (clock : Option (List ℕ)) (numbers : List ℕ) (port : Port)
    → Contains (map (port_at d) numbers) port
    → ((i s : ℕ) → slice_get numbers i ≡ Some s → Site d clock (port_variables d clock) (port_at d s))
    → Site d clock (port_variables d clock) port
of_numbers d clock numbers port member each =
    let place = Contains-place (map (port_at d) numbers) port member in
    let found = option_map-some (port_at d) (slice_get numbers place.0) port
    (sym (slice_get-map (port_at d) numbers place.0) ∙ place.1) in
    subst (Site d clock (port_variables d clock)) found.2 (each place.0 found.0 found.1)

of_clock : (d : Design) (clock : Option (List ℕ)) (port : Port) → Contains (clock_ports d clock) port
    → Site d clock (port_variables d clock) port
of_clock d None port member = absurd (Contains-empty port member)
of_clock d (Some clock) port member =
    elim (Contains-cons (clock_port d clock) [] port member) [
      | inl same ↦ subst (Site d (Some clock) (port_variables d (Some clock))) same (clock_site d clock)
      | inr more ↦ absurd (Contains-empty port more)
    ]

pub any_site : (d : Design) (clock : Option (List ℕ)) (has : HasPorts d) (port : Port)
    → Contains (ports_of d clock) port
    → Site d clock (port_variables d clock) port
any_site d clock has port member =
    elim (Contains-append_cases (input_ports d ++ output_ports d) (clock_ports d clock) port member) [
      | inl other ↦ elim (Contains-append_cases (input_ports d) (output_ports d) port other) [
        | inl input ↦ of_numbers d clock d.inputs.items port input (λ i s at. input_site d clock has i s at)
        | inr output ↦ of_numbers d clock d.outputs.items port output (λ i s at. output_site d clock has i s at)
      ]
      | inr clocked ↦ of_clock d clock port clocked
    ]
