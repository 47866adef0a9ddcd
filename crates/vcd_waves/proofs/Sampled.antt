-- What is sampled of a wave: in each cycle the values of its row.
use Rattle.std.proofs.Common.{◌≡◌, ℕ, zero, suc, arith, ◌-◌, ◌≤◌, ◌<◌, ◌^◌, ◌%◌, true, false, Option, Some, None, is_some, List, [], ◌∷◌, ◌++◌, length, sym, ◌∙◌, ap, subst, bit_and}
use Rattle.std.specs.Prelude.{slice_get}
use Rattle.std.specs.Option.{option_map}
use Rattle.std.specs.List.{filter}
use Rattle.std.proofs.lemmas.List.{length-append}
use Rattle.std.proofs.lemmas.Nat.{and_mask, and_comm, pow_pos}
use Rattle.std.proofs.Math.Nat.{mod-eq_of_lt, pow-le-pow_right}
use Rattle.loc_base.specs.declared.bits.Bits.{Bits}
use Rattle.loc_base.specs.Bits.{width_of, value_of, width_of-low, width_of-high, value_of-range}
use Rattle.design_core.specs.declared.design.Design.{Design}
use Rattle.design_core.specs.declared.trace.Checked.{Checked}
use Rattle.design_core.specs.Valuation.{width_at}
use Rattle.vcd_words.specs.declared.level.Level.{Level}
use Rattle.vcd_words.specs.Codes.{code_of}
use Rattle.vcd_words.specs.Levels.{cut_level, level_of, digits_of}
use Rattle.vcd_words.proofs.LevelLaws.{mean}
use Rattle.vcd_reading.specs.declared.part.Part.{Part}
use Rattle.vcd_reading.specs.Scopes.{Port, port_at, clock_port}
use Rattle.vcd_reading.specs.Scopes as scopes
use Rattle.vcd_reading.specs.Events.{Event, rises}
use Rattle.vcd_reading.specs.Changes.{stamps_of}
use Rattle.vcd_traces.specs.Samples.{Watch, Watches, by_clock, level_at, part_level, sample, watch_of, watches_of, cycles_of}
use Rattle.vcd_waves.specs.declared.variable.Variable.{Variable}
use Rattle.vcd_waves.specs.Lines.{Row, Shown, known, expected, shown_in}
use Rattle.vcd_waves.proofs.Sites.{port_code, port_part}
use Rattle.vcd_waves.proofs.PortOrder.{input_site, output_site, clock_site, input_variable, output_variable, clock_variable, clock_place}
use Rattle.vcd_waves.proofs.ChangeEvents.{shown_level}
use Rattle.vcd_waves.proofs.CycleRuns.{events_before, all_stamps}
use Rattle.vcd_waves.proofs.MomentLevels.{IsClock, moment_at, sampled, all_sampled, only_edges, stamp_level, edge_level}
use Rattle.vcd_waves.proofs.Scenes.{Scene, variables, freed, all_variables, ports, sought, header, past, IsScene, Fits, sample_width, expected_width}

-- a scene by its parts
abbrev pub scene : List ℕ → Design → Option (List ℕ) → List ℕ → (ℕ → Row) → ℕ → Scene
scene top d clock places rows cycles = record { top = top; design = d; clock = clock; places = places; rows = rows; cycles = cycles }

-- what is watched
abbrev pub watches : Scene → Watches
watches s = watches_of s.design (by_clock s.clock) (header s)

abbrev pub watch : Scene → ℕ → Watch
watch s n = watch_of (header s) (sought s) (port_at s.design n)

abbrev pub events : Scene → List Event
events s = events_before (is_some s.clock) (all_variables s) s.rows s.cycles

-- ---- numbers of variables
count : (s : Scene) → IsScene s → length (all_variables s) ≤ 2 ^ 64
count s is =
    let few = is.known.few in
    let many = length-append (variables s) (freed s) in
    omega (arith, few, many)

-- an element of the first of two lists
first_at : (vs fs : List Variable) (k : ℕ) (v : Variable) → slice_get vs k ≡ Some v → slice_get (vs ++ fs) k ≡ Some v
first_at [] fs k v at = cc
first_at (x ∷ vs) fs zero v at = at
first_at (x ∷ vs) fs (suc k) v at = first_at vs fs k v at

-- ---- when it is sampled
clock_code : (top : List ℕ) (d : Design) (name places : List ℕ) (rows : ℕ → Row) (cycles : ℕ)
    → IsScene (scene top d (Some name) places rows cycles)
    → scopes.code_of (header (scene top d (Some name) places rows cycles))
    (sought (scene top d (Some name) places rows cycles)) (clock_port d name)
    ≡ code_of (clock_place d name).number
clock_code top d name places rows cycles is =
    let s : Scene = scene top d (Some name) places rows cycles in
    port_code d (Some name) (variables s) (freed s) (ports s) (header s) is.known (clock_port d name)
    (clock_site d name)

pub cycles_are : (top : List ℕ) (d : Design) (clock : Option (List ℕ)) (places : List ℕ) (rows : ℕ → Row) (cycles : ℕ)
    → IsScene (scene top d clock places rows cycles)
    → cycles_of d (by_clock clock) (past (scene top d clock places rows cycles)) ≡ sampled (is_some clock) cycles
cycles_are top d None places rows cycles is =
    let s : Scene = scene top d None places rows cycles in
    all_stamps (header s) false (all_variables s) rows cycles ∙ all_sampled cycles
cycles_are top d (Some name) places rows cycles is =
    let s : Scene = scene top d (Some name) places rows cycles in
    let place = clock_place d name in
    let v : Variable = clock_variable d name in
    let clock : IsClock (all_variables s) place.number =
    record { place = 0; number = v.number; at = first_at (variables s) (freed s) place.number v place.at } in
    ap (λ code. filter (rises code (events s)) (stamps_of (past s))) (clock_code top d name places rows cycles is)
    ∙ ap (filter (rises (code_of place.number) (events s))) (all_stamps (header s) true (all_variables s) rows cycles)
    ∙ only_edges (all_variables s) rows cycles cycles place.number (omega arith) (count s is) clock

-- what is found there
found : (top : List ℕ) (d : Design) (clock : Option (List ℕ)) (places : List ℕ) (rows : ℕ → Row) (cycles : ℕ)
    → IsScene (scene top d clock places rows cycles)
    → (t k : ℕ) (v : Variable) (shown : Shown) → t < cycles
    → slice_get (variables (scene top d clock places rows cycles)) k ≡ Some v
    → shown_in (rows t) v.kind v.place ≡ Some shown
    → level_at (watches (scene top d clock places rows cycles)).clock (code_of k)
    (events (scene top d clock places rows cycles)) (moment_at (is_some clock) t)
    ≡ shown_level shown
found top d None places rows cycles is t k v shown within at shows =
    let s : Scene = scene top d None places rows cycles in
    stamp_level (all_variables s) rows t cycles k v shown within (count s is)
    (first_at (variables s) (freed s) k v at) shows
found top d (Some name) places rows cycles is t k v shown within at shows =
    let s : Scene = scene top d (Some name) places rows cycles in
    edge_level (all_variables s) rows t cycles k v shown within (count s is)
    (first_at (variables s) (freed s) k v at) shows

pub found_level : (s : Scene) → IsScene s → (t k : ℕ) (v : Variable) (shown : Shown) → t < s.cycles
    → slice_get (variables s) k ≡ Some v
    → shown_in (s.rows t) v.kind v.place ≡ Some shown
    → level_at (watches s).clock (code_of k) (events s) (moment_at (is_some s.clock) t) ≡ shown_level shown
found_level s is = found s.top s.design s.clock s.places s.rows s.cycles is

-- ---- the level that a value shows
all_ones : (w : ℕ) → w ≤ 128 → (2 ^ 128 - 1) % 2 ^ w ≡ 2 ^ w - 1
all_ones w within =
    let most : 2 ^ w ≤ 2 ^ 128 = pow-le-pow_right {n = 2} (omega arith) {i = w} {j = 128} within in
    let some : 0 < 2 ^ w = pow_pos w in
    sym (and_mask (2 ^ 128 - 1) w) ∙ and_comm (2 ^ 128 - 1) (2 ^ w - 1) ∙ and_mask (2 ^ w - 1) 128
    ∙ mod-eq_of_lt (omega (arith, most, some))

pub known_level : (bits : Bits)
    → cut_level (width_of bits) (shown_level (known bits)) ≡ record { ones = value_of bits; unknowns = 0 }
known_level bits =
    let w : ℕ = width_of bits in
    let n : ℕ = value_of bits in
    let high : width_of bits ≤ 128 = width_of-high bits in
    let below : value_of bits < 2 ^ width_of bits = value_of-range bits in
    let most : 2 ^ width_of bits ≤ 2 ^ 128 = pow-le-pow_right {n = 2}
    (omega arith) {i = width_of bits} {j = 128} high in
    let small : value_of bits < 2 ^ 128 = omega (arith, below, most) in
    let whole : bit_and (value_of bits) (2 ^ 128 - 1) ≡ value_of bits = and_mask (value_of bits) 128
    ∙ mod-eq_of_lt small in
    let ones : bit_and (value_of bits) (2 ^ 128 - 1) % 2 ^ width_of bits ≡ value_of bits =
    ap (λ m. m % 2 ^ width_of bits) whole ∙ mod-eq_of_lt below in
    let unknowns : 2 ^ width_of bits - 1 - (2 ^ 128 - 1) % 2 ^ width_of bits ≡ 0 =
    ap (λ m. 2 ^ width_of bits - 1 - m) (all_ones (width_of bits) high) ∙ itself (2 ^ width_of bits) in
    mean (width_of bits) (value_of bits) (2 ^ 128 - 1) (width_of-low bits) high
    ∙ ap (λ m. record { ones = m; unknowns = 2 ^ width_of bits - 1 - (2 ^ 128 - 1) % 2 ^ width_of bits }) ones
    ∙ ap (λ m. record { ones = value_of bits; unknowns = m }) unknowns
  where
    itself : (m : ℕ) → m - 1 - (m - 1) ≡ 0
    itself m = omega arith

pub expected_level : (c : Checked) (width : ℕ) → width_of c.value ≡ width → width_of c.mask ≡ width
    → bit_and (value_of c.value) (value_of c.mask) ≡ value_of c.value
    → cut_level width (shown_level (expected c)) ≡ record
    { ones = value_of c.value; unknowns = 2 ^ width - 1 - value_of c.mask }
expected_level c width value mask within =
    let low : 1 ≤ width = subst (λ w. 1 ≤ w) value (width_of-low c.value) in
    let high : width ≤ 128 = subst (λ w. w ≤ 128) value (width_of-high c.value) in
    let below : value_of c.value < 2 ^ width = subst (λ w. value_of c.value < 2 ^ w) value (value_of-range c.value) in
    let masked : value_of c.mask < 2 ^ width = subst (λ w. value_of c.mask < 2 ^ w) mask (value_of-range c.mask) in
    ap (λ w. cut_level width (level_of (digits_of w (value_of c.value) (value_of c.mask)))) value
    ∙ mean width (value_of c.value) (value_of c.mask) low high
    ∙ ap (λ m. record { ones = m; unknowns = 2 ^ width - 1 - value_of c.mask % 2 ^ width })
    (ap (λ m. m % 2 ^ width) within ∙ mod-eq_of_lt below)
    ∙ ap (λ m. record { ones = value_of c.value; unknowns = 2 ^ width - 1 - m }) (mod-eq_of_lt masked)

-- ---- what is sampled of a port in a cycle
abbrev pub sample_at : Scene → ℕ → ℕ → Level
sample_at s t n = sample (watches s).clock (events s) (moment_at (is_some s.clock) t) (watch s n)

pub input_sample : (s : Scene) (is : IsScene s) (t i n : ℕ) (bits : Bits) → t < s.cycles
    → slice_get s.design.inputs.items i ≡ Some n
    → slice_get (s.rows t).samples i ≡ Some bits → sample_at s t n ≡ record { ones = value_of bits; unknowns = 0 }
input_sample s is t i n bits within number shown =
    let site = input_site s.design s.clock is.has i n number in
    let width : width_of bits ≡ width_at s.design.signals.items n =
    sample_width s.design.signals.items s.design.inputs.items (s.rows t).samples i n bits
    (is.samples t within) number shown in
    ap (λ (part : Part). cut_level (width_at s.design.signals.items n) (part_level part
    (level_at (watches s).clock (scopes.code_of (header s) (sought s) (port_at s.design n)) (events s) (moment_at (is_some s.clock) t))))
    (port_part s.design s.clock (variables s) (freed s) (ports s) (header s) is.known (port_at s.design n) site)
    ∙ ap (λ code. cut_level (width_at s.design.signals.items n)
    (level_at (watches s).clock code (events s) (moment_at (is_some s.clock) t)))
    (port_code s.design s.clock (variables s) (freed s) (ports s) (header s) is.known (port_at s.design n) site)
    ∙ ap (cut_level (width_at s.design.signals.items n))
    (found_level s is t site.number (input_variable s.design i n) (known bits) within site.at
    (ap (option_map known) shown))
    ∙ ap (λ w. cut_level w (shown_level (known bits))) (sym width) ∙ known_level bits

pub output_sample : (s : Scene) (is : IsScene s) (t i n : ℕ) (c : Checked) → t < s.cycles
    → slice_get s.design.outputs.items i ≡ Some n
    → slice_get (s.rows t).expected i ≡ Some c
    → sample_at s t n ≡ record
    { ones = value_of c.value; unknowns = 2 ^ width_at s.design.signals.items n - 1 - value_of c.mask }
output_sample s is t i n c within number shown =
    let site = output_site s.design s.clock is.has i n number in
    let fits : Fits s.design.signals.items n c =
    expected_width s.design.signals.items s.design.outputs.items (s.rows t).expected i n c
    (is.expected t within) number shown in
    ap (λ (part : Part). cut_level (width_at s.design.signals.items n) (part_level part
    (level_at (watches s).clock (scopes.code_of (header s) (sought s) (port_at s.design n)) (events s) (moment_at (is_some s.clock) t))))
    (port_part s.design s.clock (variables s) (freed s) (ports s) (header s) is.known (port_at s.design n) site)
    ∙ ap (λ code. cut_level (width_at s.design.signals.items n)
    (level_at (watches s).clock code (events s) (moment_at (is_some s.clock) t)))
    (port_code s.design s.clock (variables s) (freed s) (ports s) (header s) is.known (port_at s.design n) site)
    ∙ ap (cut_level (width_at s.design.signals.items n))
    (found_level s is t site.number (output_variable s.design i n) (expected c) within site.at
    (ap (option_map expected) shown))
    ∙ expected_level c (width_at s.design.signals.items n) fits.value fits.mask fits.within
