-- The ports of a well formed design: how many they are, how wide, and which is which.
use Rattle.std.proofs.Common.{◌≡◌, ℕ, zero, suc, ◌+◌, ◌≤◌, ◌<◌, Bool, true, false, ◌&&◌, IsTrue, List, [], ◌∷◌, ◌++◌, length, map, take, drop, refl, sym, ◌∙◌, ap, subst, arith, Option, Some, None, length-append, append_assoc}
use Rattle.std.proofs.lemmas.List.{length-map}
use Rattle.std.specs.Prelude.{slice_get, nat_lt, nat_le}
use Rattle.std.specs.List.{list_all}
use Rattle.std.specs.Option.{option_map, option_map_or}
use Rattle.std.proofs.Math.Seq.{take-append_seam, drop-append_seam}
use Rattle.std.proofs.lemmas.Bool.{and_parts, and_from, false≢true}
use Rattle.std.proofs.lemmas.Bool.Decides.{nat_tests}
use Rattle.std.proofs.lemmas.List.Folds.{list_all-append}
use Rattle.loc_base.proofs.ShelfLists.{slice_get-some}
use Rattle.design_core.specs.declared.design.Design.{Design}
use Rattle.design_core.specs.declared.signal.Signal.{Signal}
use Rattle.design_core.specs.Valuation.{width_at}
use Rattle.design_core.specs.WellFormed.{signal_fits, input_fits, is_signal, is_input}
use Rattle.vcd_reading.specs.Header.{Header}
use Rattle.vcd_reading.specs.Scopes.{Port, Sought, port_at, clock_port, input_ports, output_ports, clock_ports, ports_of, code_of}
use Rattle.vcd_traces.specs.Samples.{Manner, Watches, sought_of, watch_of, watches_of}
use Rattle.vcd_traces.specs.Ports.{fits, is_port, HasPorts, FormedHasPorts}
use Rattle.vcd_traces.specs.Sites.{watches_from}

parts_of : (d : Design) (clock : Option (List ℕ)) → ports_of d clock ≡ input_ports d ++ (output_ports d ++ clock_ports d clock)
parts_of d clock = append_assoc (input_ports d) (output_ports d) (clock_ports d clock)

-- ---- how many
pub ports_count : (d : Design) (clock : Option (List ℕ)) → length d.inputs.items + length d.outputs.items ≤ length (ports_of d clock)
ports_count d clock =
    let whole = length-append (input_ports d) (output_ports d ++ clock_ports d clock) in
    let rest = length-append (output_ports d) (clock_ports d clock) in
    let inputs : length (input_ports d) ≡ length d.inputs.items = length-map d.inputs.items (port_at d) in
    let outputs : length (output_ports d) ≡ length d.outputs.items = length-map d.outputs.items (port_at d) in
    let all : length (ports_of d clock) ≡ length (input_ports d ++ (output_ports d ++ clock_ports d clock)) = ap length (parts_of d clock) in
    omega (arith, whole, rest, inputs, outputs, all)

-- ---- how wide
signal_at : (signals : List Signal) (s : ℕ) (x : Signal) → list_all signal_fits signals ≡ true → slice_get signals s ≡ Some x → signal_fits x ≡ true
signal_at [] s x all at = cc
signal_at (y ∷ signals) zero x all at =
    let same : y ≡ x = cc in
    let P : Signal → Type 0 = λ z. signal_fits z ≡ true in
    subst P same (and_parts (signal_fits y) (list_all signal_fits signals) all).0
signal_at (y ∷ signals) (suc s) x all at = signal_at signals s x (and_parts (signal_fits y) (list_all signal_fits signals) all).1 at

first_of_three : (a b c : Bool) → (a && b && c) ≡ true → a ≡ true
first_of_three true b c all = refl
first_of_three false b c all = all

port_fits : (d : Design) (s : ℕ) (x : Signal) → list_all signal_fits d.signals.items ≡ true → slice_get d.signals.items s ≡ Some x → fits (port_at d s) ≡ true
port_fits d s x all at =
    let width : width_at d.signals.items s ≡ x.width = ap (λ o. option_map_or (λ (y : Signal). y.width) o 0) at in
    let P : ℕ → Type 0 = λ n. (nat_le 1 n && nat_le n 128) ≡ true in
    subst P (sym width) (first_of_three (nat_le 1 x.width && nat_le x.width 128) _ _ (signal_at d.signals.items s x all at))

input_fits_port : (d : Design) (s : ℕ) → list_all signal_fits d.signals.items ≡ true → input_fits d.signals.items s ≡ true → fits (port_at d s) ≡ true
input_fits_port d s all is = by_signal (slice_get d.signals.items s) refl is
  where
    by_signal : (o : Option Signal) → slice_get d.signals.items s ≡ o → option_map_or (λ (x : Signal). is_input x.kind) o false ≡ true → fits (port_at d s) ≡ true
    by_signal None at test = absurd (false≢true test)
    by_signal (Some x) at test = port_fits d s x all at

output_fits_port : (d : Design) (s : ℕ) → list_all signal_fits d.signals.items ≡ true → is_signal d.signals.items s ≡ true → fits (port_at d s) ≡ true
output_fits_port d s all is =
    let found = slice_get-some d.signals.items s (within s (length d.signals.items) is) in
    port_fits d s found.0 all found.1
  where
    within : (n m : ℕ) → nat_lt n m ≡ true → n < m
    within n m test = grind (arith, nat_tests)

each_fits : {X : Type 0} (one : X → Bool) (f : X → Port) → ((x : X) → one x ≡ true → fits (f x) ≡ true) → (xs : List X) → list_all one xs ≡ true
    → list_all fits (map f xs) ≡ true
each_fits one f each [] all = refl
each_fits one f each (x ∷ xs) all =
    let parts = and_parts (one x) (list_all one xs) all in
    and_from (fits (f x)) (list_all fits (map f xs)) (each x parts.0) (each_fits one f each xs parts.1)

each_port : (one other : ℕ → Bool) → ((s : ℕ) → one s ≡ true → other s ≡ true) → (numbers : List ℕ) → list_all one numbers ≡ true → list_all other numbers ≡ true
each_port one other each [] all = refl
each_port one other each (s ∷ numbers) all =
    let parts = and_parts (one s) (list_all one numbers) all in
    and_from (other s) (list_all other numbers) (each s parts.0) (each_port one other each numbers parts.1)

pub formed_has_ports : FormedHasPorts
formed_has_ports d few formed = record {
  few = few;
  inputs = each_port (input_fits d.signals.items) (is_port d) (λ s is. input_fits_port d s formed.signals is) d.inputs.items formed.inputs;
  outputs = each_port (is_signal d.signals.items) (is_port d) (λ s is. output_fits_port d s formed.signals is) d.outputs.items formed.outputs;
}

clock_fits : (d : Design) (clock : Option (List ℕ)) → list_all fits (clock_ports d clock) ≡ true
clock_fits d None = refl
clock_fits d (Some name) = refl

pub ports_fit : (d : Design) (clock : Option (List ℕ)) → HasPorts d → IsTrue (list_all fits (ports_of d clock))
ports_fit d clock has =
    ap (list_all fits) (parts_of d clock) ∙ list_all-append fits (input_ports d) (output_ports d ++ clock_ports d clock)
    ∙ and_from _ _ (each_fits (is_port d) (port_at d) (λ s is. is) d.inputs.items has.inputs)
    (list_all-append fits (output_ports d) (clock_ports d clock)
    ∙ and_from _ _ (each_fits (is_port d) (port_at d) (λ s is. is) d.outputs.items has.outputs)
    (clock_fits d clock))

-- ---- which is which
front_of : {X : Type 0} (n : ℕ) (xs ys : List X) → length xs ≡ n → take n (xs ++ ys) ≡ xs
front_of n xs ys is = ap (λ k. take k (xs ++ ys)) (sym is) ∙ take-append_seam xs ys

back_of : {X : Type 0} (n : ℕ) (xs ys : List X) → length xs ≡ n → drop n (xs ++ ys) ≡ ys
back_of n xs ys is = ap (λ k. drop k (xs ++ ys)) (sym is) ∙ drop-append_seam xs ys

abbrev made : Option (List ℕ) → List Port → List Port → Header → Sought → Bool → Watches
made clock inputs outputs h sought zeros =
    record { clock = clock; inputs = map (watch_of h sought) inputs; outputs = map (watch_of h sought) outputs; zero_inputs = zeros }

clock_of : (d : Design) (clock : Option (List ℕ)) (h : Header) (sought : Sought)
    → option_map (code_of h sought) (slice_get (clock_ports d clock) 0) ≡ option_map (λ name. code_of h sought (clock_port d name)) clock
clock_of d None h sought = refl
clock_of d (Some name) h sought = refl

pub watched_from : (d : Design) (by : Manner) (h : Header)
    → watches_from h (sought_of d by) by.zero_inputs (length d.inputs.items) (length d.outputs.items) (ports_of d by.clock) ≡ watches_of d by h
watched_from d by h =
    let sought = sought_of d by in
    let zeros = by.zero_inputs in
    let clock = by.clock in
    let ports = ports_of d clock in
    let n = length d.inputs.items in
    let m = length d.outputs.items in
    let inputs : take n ports ≡ input_ports d =
    ap (take n) (parts_of d clock) ∙ front_of n (input_ports d) (output_ports d ++ clock_ports d clock) (length-map d.inputs.items (port_at d)) in
    let rest : drop n ports ≡ output_ports d ++ clock_ports d clock =
    ap (drop n) (parts_of d clock) ∙ back_of n (input_ports d) (output_ports d ++ clock_ports d clock) (length-map d.inputs.items (port_at d)) in
    let outputs : take m (drop n ports) ≡ output_ports d =
    ap (take m) rest ∙ front_of m (output_ports d) (clock_ports d clock) (length-map d.outputs.items (port_at d)) in
    let last : drop m (drop n ports) ≡ clock_ports d clock =
    ap (drop m) rest ∙ back_of m (output_ports d) (clock_ports d clock) (length-map d.outputs.items (port_at d)) in
    ap (λ l. made (option_map (code_of h sought) (slice_get l 0)) (take n ports) (take m (drop n ports)) h sought zeros) last
    ∙ ap (λ l. made (option_map (code_of h sought) (slice_get (clock_ports d clock) 0)) l (take m (drop n ports)) h sought zeros) inputs
    ∙ ap (λ l. made (option_map (code_of h sought) (slice_get (clock_ports d clock) 0)) (input_ports d) l h sought zeros) outputs
    ∙ ap (λ c. made c (input_ports d) (output_ports d) h sought zeros) (clock_of d clock h sought)

pub ruleset port_laws = (formed_has_ports)
