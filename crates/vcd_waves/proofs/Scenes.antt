-- A wave as its parts: what it shows of each variable in each cycle, and that each of these changes can be read.
use Rattle.std.proofs.Common.{◌≡◌, ℕ, zero, suc, arith, ◌+◌, ◌≤◌, ◌<◌, ◌==◌, true, ◌&&◌, Option, Some, None, is_some, List, [], ◌∷◌, ◌++◌, length, refl, sym, ◌∙◌, ap, subst, inl, inr, bit_and}
use Rattle.std.specs.Prelude.{slice_get, Contains}
use Rattle.std.specs.Option.{option_map}
use Rattle.std.proofs.lemmas.Bool.{and_parts, false≢true}
use Rattle.std.proofs.lemmas.List.Elements.{Contains-append_cases}
use Rattle.std.proofs.lemmas.List.Sorted.{IsPermutation-sym, Contains-permutation}
use Rattle.std.proofs.lemmas.Option.{slice_get_within}
use Rattle.loc_base.proofs.ShelfBools.{equal-true}
use Rattle.loc_base.proofs.ShelfLists.{Contains-at, Contains-place, Contains-empty, Contains-cons, slice_get-some}
use Rattle.loc_base.proofs.ShelfOptions.{Some-same}
use Rattle.loc_base.specs.declared.bits.Bits.{Bits}
use Rattle.loc_base.specs.Bits.{width_of, value_of, width_of-low}
use Rattle.design_core.specs.declared.signal.Signal.{Signal}
use Rattle.design_core.specs.declared.design.Design.{Design}
use Rattle.design_core.specs.declared.trace.Checked.{Checked}
use Rattle.design_core.specs.Valuation.{width_at}
use Rattle.design_core.specs.TraceFits.{samples_fit, expected_fit}
use Rattle.vcd_words.specs.Codes.{code_of}
use Rattle.vcd_reading.specs.Header.{Header}
use Rattle.vcd_reading.specs.Scopes.{Port, Sought, anywhere, ports_of}
use Rattle.vcd_reading.specs.Changes.{Past}
use Rattle.vcd_traces.specs.Ports.{HasPorts}
use Rattle.vcd_waves.specs.declared.variable.Variable.{Variable}
use Rattle.vcd_waves.specs.declared.variable.Kind.{Kind}
use Rattle.vcd_waves.specs.declared.variable.Kind.TheVariants.{Input, Output, Freed}
use Rattle.vcd_waves.specs.Variables.{listed, clock_variables, port_variables, width_in}
use Rattle.vcd_waves.specs.Lines.{Row, Shown, known, expected, shown_in, clock_shown}
use Rattle.vcd_waves.proofs.ValueDeeds.{Takes}
use Rattle.vcd_waves.proofs.WholeHeader.{whole_header}
use Rattle.vcd_waves.proofs.Sites.{Known, takes_port, takes_freed}
use Rattle.vcd_waves.proofs.PortOrder.{unmerged, ports_permute, listed_at, listed_many, input_variable, output_variable, clock_variable}
use Rattle.vcd_waves.proofs.ChangeEvents.{MayShow}
use Rattle.vcd_waves.proofs.CycleRuns.{CanRun, past_at}

-- what is told of a wave
pub record Scene : Type 0 where
  pub top : List ℕ
  pub design : Design
  pub clock : Option (List ℕ)
  pub places : List ℕ
  pub rows : ℕ → Row
  pub cycles : ℕ

abbrev pub variables : Scene → List Variable
variables s = port_variables s.design s.clock

abbrev pub freed : Scene → List Variable
freed s = listed s.design Freed 0 s.places

abbrev pub all_variables : Scene → List Variable
all_variables s = variables s ++ freed s

abbrev pub ports : Scene → List Port
ports s = ports_of s.design s.clock

abbrev pub sought : Scene → Sought
sought s = anywhere (ports s)

abbrev pub header : Scene → Header
header s = whole_header s.top s.design s.clock (variables s) (freed s)

abbrev pub past : Scene → Past
past s = past_at (header s) (is_some s.clock) (all_variables s) s.rows s.cycles

-- the rows are those of a trace of the design
pub record IsScene (s : Scene) : Type 0 where
  pub has : HasPorts s.design
  pub known : Known s.design s.clock (variables s) (freed s) (ports s) (header s)
  pub samples : (t : ℕ) → t < s.cycles
      → samples_fit s.design.signals.items s.design.inputs.items (s.rows t).samples ≡ true
  pub expected : (t : ℕ) → t < s.cycles
      → expected_fit s.design.signals.items s.design.outputs.items (s.rows t).expected ≡ true
  pub some : 1 ≤ s.cycles
  pub most : s.cycles ≤ 100000

-- ---- the entries of a row
pub sample_width : (signals : List Signal) (numbers : List ℕ) (samples : List Bits) (i s : ℕ) (bits : Bits)
    → samples_fit signals numbers samples ≡ true → slice_get numbers i ≡ Some s → slice_get samples i ≡ Some bits
    → width_of bits ≡ width_at signals s
sample_width signals [] samples i s bits fits at shown = cc
sample_width signals (x ∷ numbers) [] i s bits fits at shown = cc
sample_width signals (x ∷ numbers) (b ∷ samples) zero s bits fits at shown =
    let parts = and_parts (width_of b == width_at signals x) (samples_fit signals numbers samples) fits in
    ap width_of (sym (Some-same shown)) ∙ equal-true (width_of b) (width_at signals x) parts.0
    ∙ ap (width_at signals) (Some-same at)
sample_width signals (x ∷ numbers) (b ∷ samples) (suc i) s bits fits at shown =
    let parts = and_parts (width_of b == width_at signals x) (samples_fit signals numbers samples) fits in
    sample_width signals numbers samples i s bits parts.1 at shown

pub record Fits (signals : List Signal) (s : ℕ) (c : Checked) : Type 0 where
  pub value : width_of c.value ≡ width_at signals s
  pub mask : width_of c.mask ≡ width_at signals s
  pub within : bit_and (value_of c.value) (value_of c.mask) ≡ value_of c.value

pub expected_width : (signals : List Signal) (numbers : List ℕ) (expected : List Checked) (i s : ℕ) (c : Checked)
    → expected_fit signals numbers expected ≡ true → slice_get numbers i ≡ Some s → slice_get expected i ≡ Some c
    → Fits signals s c
expected_width signals [] expected i s c fits at shown = cc
expected_width signals (x ∷ numbers) [] i s c fits at shown = cc
expected_width signals (x ∷ numbers) (y ∷ expected) zero s c fits at shown =
    let one = and_parts (width_of y.value == width_at signals x && width_of y.mask == width_at signals x && bit_and
    (value_of y.value) (value_of y.mask) == value_of y.value)
    (expected_fit signals numbers expected) fits in
    let two = and_parts (width_of y.value == width_at signals x && width_of y.mask == width_at signals x)
    (bit_and (value_of y.value) (value_of y.mask) == value_of y.value) one.0 in
    let three = and_parts (width_of y.value == width_at signals x) (width_of y.mask == width_at signals x) two.0 in
    let same : y ≡ c = Some-same shown in
    let P : Checked → Type 0 = Fits signals s in
    let Q : ℕ → Type 0 = λ n. Fits signals n y in
    let fit : Fits signals x y = record {
      value = equal-true (width_of y.value) (width_at signals x) three.0;
      mask = equal-true (width_of y.mask) (width_at signals x) three.1;
      within = equal-true (bit_and (value_of y.value) (value_of y.mask)) (value_of y.value) two.1;
    } in
    subst P same (subst Q (Some-same at) fit)
expected_width signals (x ∷ numbers) (y ∷ expected) (suc i) s c fits at shown =
    let one = and_parts (width_of y.value == width_at signals x && width_of y.mask == width_at signals x && bit_and
    (value_of y.value) (value_of y.mask) == value_of y.value)
    (expected_fit signals numbers expected) fits in
    expected_width signals numbers expected i s c one.1 at shown

-- there are as many entries as numbers
pub samples_many : (signals : List Signal) (numbers : List ℕ) (samples : List Bits)
    → samples_fit signals numbers samples ≡ true
    → length samples ≡ length numbers
samples_many signals [] [] fits = refl
samples_many signals [] (b ∷ samples) fits = absurd (false≢true fits)
samples_many signals (x ∷ numbers) [] fits = absurd (false≢true fits)
samples_many signals (x ∷ numbers) (b ∷ samples) fits =
    let parts = and_parts (width_of b == width_at signals x) (samples_fit signals numbers samples) fits in
    ap (λ n. suc n) (samples_many signals numbers samples parts.1)

pub expected_many : (signals : List Signal) (numbers : List ℕ) (expected : List Checked)
    → expected_fit signals numbers expected ≡ true
    → length expected ≡ length numbers
expected_many signals [] [] fits = refl
expected_many signals [] (y ∷ expected) fits = absurd (false≢true fits)
expected_many signals (x ∷ numbers) [] fits = absurd (false≢true fits)
expected_many signals (x ∷ numbers) (y ∷ expected) fits =
    let one = and_parts (width_of y.value == width_at signals x && width_of y.mask == width_at signals x && bit_and
    (value_of y.value) (value_of y.mask) == value_of y.value)
    (expected_fit signals numbers expected) fits in
    ap (λ n. suc n) (expected_many signals numbers expected one.1)

-- ---- the variables of the ports, by what they are
pub data Shape (d : Design) (clock : Option (List ℕ)) (v : Variable) : Type 0 where
  clock_shape : (name : List ℕ) → v ≡ clock_variable d name → Shape d clock v
  input_shape : (i s : ℕ) → slice_get d.inputs.items i ≡ Some s → v ≡ input_variable d i s → Shape d clock v
  output_shape : (i s : ℕ) → slice_get d.outputs.items i ≡ Some s → v ≡ output_variable d i s → Shape d clock v

-- an element of a list of variables of one kind
pub record Element (d : Design) (kind : Kind) (numbers : List ℕ) (v : Variable) : Type 0 where
  pub place : ℕ
  pub number : ℕ
  pub at : slice_get numbers place ≡ Some number
  pub is : v ≡ record { kind = kind; place = place; number = number; width = width_in d kind number }

pub element_at : (d : Design) (kind : Kind) (numbers : List ℕ) (i : ℕ) (v : Variable)
    → slice_get (listed d kind 0 numbers) i ≡ Some v
    → Element d kind numbers v
element_at d kind numbers i v at =
    let within : i < length numbers = let one = slice_get_within
    (listed d kind 0 numbers) i v at in let two = listed_many d kind 0 numbers in omega (arith, one, two) in
    let found = slice_get-some numbers i within in
    let none : 0 + i ≡ i = omega arith in
    record {
      place = i;
      number = found.0;
      at = found.1;
      is = Some-same (sym at ∙ listed_at d kind 0 numbers i found.0 found.1)
          ∙ ap (λ p. record { kind = kind; place = p; number = found.0; width = width_in d kind found.0 }) none;
    }

element_of : (d : Design) (kind : Kind) (numbers : List ℕ) (v : Variable) → Contains (listed d kind 0 numbers) v
    → Element d kind numbers v
element_of d kind numbers v member =
    let place = Contains-place (listed d kind 0 numbers) v member in element_at d kind numbers place.0 v place.1

clock_of : (d : Design) (clock : Option (List ℕ)) (v : Variable) → Contains (clock_variables d clock) v
    → Shape d clock v
clock_of d None v member = absurd (Contains-empty v member)
clock_of d (Some name) v member =
    elim (Contains-cons (clock_variable d name) [] v member) [
      | inl same ↦ clock_shape name (sym same)
      | inr more ↦ absurd (Contains-empty v more)
    ]

pub shape_at : (d : Design) (clock : Option (List ℕ)) (k : ℕ) (v : Variable)
    → slice_get (port_variables d clock) k ≡ Some v → Shape d clock v
shape_at d clock k v at =
    let back = IsPermutation-sym (unmerged d clock) (port_variables d clock) (ports_permute d clock) in
    let member = Contains-permutation (port_variables d clock) (unmerged d clock) v back
    (Contains-at (port_variables d clock) k v at) in
    elim (Contains-append_cases (clock_variables d clock)
    (listed d Input 0 d.inputs.items ++ listed d Output 0 d.outputs.items) v member) [
      | inl first ↦ clock_of d clock v first
      | inr others ↦ elim (Contains-append_cases (listed d Input 0 d.inputs.items)
          (listed d Output 0 d.outputs.items) v others) [
            | inl input ↦ let e = element_of d Input d.inputs.items v input in input_shape e.place e.number e.at e.is
            | inr output ↦ let e = element_of d Output d.outputs.items v output in output_shape e.place e.number e.at e.is
          ]
    ]

-- ---- each change can be read
abbrev known_of : Option Bits → Option Shown
known_of o = option_map known o

abbrev expected_of : Option Checked → Option Shown
expected_of o = option_map expected o

may_known : (ps : Sought) (h : Header) (k : ℕ) (o : Option Bits)
    → ((bits : Bits) → o ≡ Some bits → Takes ps h (code_of k) (width_of bits)) → MayShow ps h k (known_of o)
may_known ps h k None takes = tt
may_known ps h k (Some bits) takes = record { some = width_of-low bits; takes = takes bits refl }

may_expected : (ps : Sought) (h : Header) (k : ℕ) (o : Option Checked)
    → ((c : Checked) → o ≡ Some c → Takes ps h (code_of k) (width_of c.value)) → MayShow ps h k (expected_of o)
may_expected ps h k None takes = tt
may_expected ps h k (Some c) takes = record { some = width_of-low c.value; takes = takes c refl }

takes : (s : Scene) (is : IsScene s) (k digits : ℕ) (v : Variable) → slice_get (variables s) k ≡ Some v
    → digits ≤ v.width
    → Takes (sought s) (header s) (code_of k) digits
takes s is k digits v at within =
    takes_port s.design s.clock (variables s) (freed s) (ports s) (header s) is.known k digits v at within

at_most : (a b : ℕ) → a ≡ b → a ≤ b
at_most a b same = omega (arith, same)

row_may : (s : Scene) (is : IsScene s) (t k : ℕ) (v : Variable) → t < s.cycles → slice_get (variables s) k ≡ Some v
    → Shape s.design s.clock v → MayShow (sought s) (header s) k (shown_in (s.rows t) v.kind v.place)
row_may s is t k v within at (clock_shape name same) =
    subst (λ (x : Variable). MayShow (sought s) (header s) k (shown_in (s.rows t) x.kind x.place)) (sym same) tt
row_may s is t k v within at (input_shape i n number same) =
    subst (λ (x : Variable). MayShow (sought s) (header s) k (shown_in (s.rows t) x.kind x.place)) (sym same)
    (may_known (sought s) (header s) k (slice_get (s.rows t).samples i)
    (λ bits shown. takes s is k (width_of bits) v at
    (at_most (width_of bits) v.width
    (sample_width s.design.signals.items s.design.inputs.items (s.rows t).samples i n bits
    (is.samples t within) number shown
    ∙ ap (λ (x : Variable). x.width) (sym same)))))
row_may s is t k v within at (output_shape i n number same) =
    subst (λ (x : Variable). MayShow (sought s) (header s) k (shown_in (s.rows t) x.kind x.place)) (sym same)
    (may_expected (sought s) (header s) k (slice_get (s.rows t).expected i)
    (λ c shown. takes s is k (width_of c.value) v at
    (at_most (width_of c.value) v.width
    ((expected_width s.design.signals.items s.design.outputs.items (s.rows t).expected i n c
    (is.expected t within) number shown).value
    ∙ ap (λ (x : Variable). x.width) (sym same)))))

bit_may : (s : Scene) (is : IsScene s) (bit k : ℕ) (v : Variable) → slice_get (variables s) k ≡ Some v
    → Shape s.design s.clock v → MayShow (sought s) (header s) k (clock_shown bit v.kind v.place)
bit_may s is bit k v at (clock_shape name same) =
    subst (λ (x : Variable). MayShow (sought s) (header s) k (clock_shown bit x.kind x.place)) (sym same)
    (record {
      some = omega arith;
      takes = takes s is k 1 v at
          (at_most 1 v.width (sym (ap (λ (x : Variable). x.width) same)));
    })
bit_may s is bit k v at (input_shape i n number same) =
    subst (λ (x : Variable). MayShow (sought s) (header s) k (clock_shown bit x.kind x.place)) (sym same) tt
bit_may s is bit k v at (output_shape i n number same) =
    subst (λ (x : Variable). MayShow (sought s) (header s) k (clock_shown bit x.kind x.place)) (sym same) tt

-- the freed places
freed_row_may : (s : Scene) (is : IsScene s) (t m : ℕ) (v : Variable) → slice_get (freed s) m ≡ Some v
    → MayShow (sought s) (header s) (length (variables s) + m) (shown_in (s.rows t) v.kind v.place)
freed_row_may s is t m v at =
    let e = element_at s.design Freed s.places m v at in
    subst (λ (x : Variable). MayShow (sought s) (header s) (length (variables s) + m)
    (shown_in (s.rows t) x.kind x.place)) (sym e.is)
    (may_known (sought s) (header s) (length (variables s) + m) (slice_get (s.rows t).chosen e.place)
    (λ bits shown. takes_freed s.design s.clock (variables s) (freed s) (ports s) (header s) is.known m
    (width_of bits) v at))

freed_bit_may : (s : Scene) (is : IsScene s) (bit m : ℕ) (v : Variable) → slice_get (freed s) m ≡ Some v
    → MayShow (sought s) (header s) (length (variables s) + m) (clock_shown bit v.kind v.place)
freed_bit_may s is bit m v at =
    let e = element_at s.design Freed s.places m v at in
    subst (λ (x : Variable). MayShow (sought s) (header s) (length (variables s) + m)
    (clock_shown bit x.kind x.place)) (sym e.is) tt

-- an element of two lists joined is one of either
joined_at : (vs fs : List Variable) (k : ℕ) (v : Variable) (P : ℕ → Type 0) → slice_get (vs ++ fs) k ≡ Some v
    → (slice_get vs k ≡ Some v → P k) → ((m : ℕ) → slice_get fs m ≡ Some v → P (length vs + m)) → P k
joined_at [] fs k v P at first second =
    let none : 0 + k ≡ k = omega arith in subst P none (second k at)
joined_at (x ∷ vs) fs zero v P at first second = first at
joined_at (x ∷ vs) fs (suc k) v P at first second =
    joined_at vs fs k v (λ n. P (suc n)) at first (λ m here. more m (second m here))
  where
    more : (m : ℕ) → P (length (x ∷ vs) + m) → P (suc (length vs + m))
    more m holds = let same : length (x ∷ vs) + m ≡ suc (length vs + m) = omega arith in subst P same holds

pub can_run : (s : Scene) → IsScene s → CanRun (sought s) (header s) (all_variables s) s.rows s.cycles
can_run s is = record {
  ended = is.known.declares.ended;
  few = is.most;
  rows_may = λ t within k v at. joined_at (variables s) (freed s) k v
      (λ n. MayShow (sought s) (header s) n (shown_in (s.rows t) v.kind v.place)) at
      (λ here. row_may s is t k v within here (shape_at s.design s.clock k v here))
      (λ m here. freed_row_may s is t m v here);
  clock_may = λ bit k v at. joined_at (variables s) (freed s) k v
      (λ n. MayShow (sought s) (header s) n (clock_shown bit v.kind v.place)) at
      (λ here. bit_may s is bit k v here (shape_at s.design s.clock k v here))
      (λ m here. freed_bit_may s is bit m v here);
}
