-- What binding gives for the instances of a text is well formed.
use Rattle.std.proofs.Common.{◌≡◌, ◌≢◌, ℕ, ◌+◌, ◌<◌, ◌^◌, Bool, true, false, List, [], ◌∷◌, ◌++◌, length, Option, Some, None, refl, sym, ◌∙◌, ap, subst, arith, map}
use Rattle.std.specs.Prelude.{if◌then◌else◌, nat_lt, Result, Ok, sum_by, AllPairs}
use Rattle.std.specs.List.{list_all}
use Rattle.std.proofs.lemmas.Bool.{ltb-true, lt-ltb}
use Rattle.design_core.specs.declared.signal.Signal.{Signal}
use Rattle.design_core.specs.declared.place.Place.{Place}
use Rattle.design_core.specs.declared.design.Design.{Design}
use Rattle.design_core.specs.Given.{CanRun}
use Rattle.design_core.specs.WellFormed.{signal_fits, is_width, is_signal, input_fits, driver_fits, clocked_fits as design_clocked_fits, times_in_driver, times_in_clocked, IsWellFormed}
use Rattle.v_syntax.specs.Tree.{Tree}
use Rattle.v_hierarchy.specs.Headers.{Port}
use Rattle.v_hierarchy.specs.Items.{Block, scope}
use Rattle.v_hierarchy.specs.Instances.{Instance}
use Rattle.v_binding.specs.declared.error.BindErr.{BindErr}
use Rattle.v_binding.specs.Steps.{◌>>=◌, each}
use Rattle.v_binding.specs.Names.{Names, find, within}
use Rattle.v_binding.specs.Signals.{Numbered, Scope, signals_of}
use Rattle.v_binding.specs.Starts.{Start, Initial, all_started}
use Rattle.v_binding.specs.Bound.{Root, Bound}
use Rattle.v_binding.specs.Blocks.{Frame}
use Rattle.v_binding.specs.Assignments.{start_at}
use Rattle.v_binding.specs.Connections.{Socket}
use Rattle.v_binding.specs.Items.{Met, names_of, scopes_of, bound_copies}
use Rattle.v_binding.specs.Binding.{all_sockets, is_in, children_of, top_ports, clock_of, top_roots, inputs_of, outputs_of, port_start, ground_of, instance_items, bound_from, nothing_bound, Binding, is_misnamed, frame_of, binding}
use Rattle.v_binding.specs.Standing.{InstancesStand}
use Rattle.bind_laws.specs.Every.{Every}
use Rattle.bind_laws.specs.Fit.{NamesFit}
use Rattle.bind_laws.specs.Whole.{Whole, below, RootFits, StartFits, BoundFits, IsDesignOf}
use Rattle.bind_laws.specs.Scopes.{NamesSignal, BlockFits, SocketFits}
use Rattle.bind_laws.specs.OfText.{IsFirst, OfText}
use Rattle.bind_laws.proofs.Lists.{Ok-same, between, each-keeps, begins-itself, Every-append}
use Rattle.bind_laws.proofs.Names.{within-fit}
use Rattle.bind_laws.proofs.Goes.{Goes, goes-nowhere, goes-on}
use Rattle.bind_laws.proofs.Drivers.{start-goes}
use Rattle.bind_laws.proofs.Items.{copies-go}
use Rattle.bind_laws.proofs.Numbers.{Final}
use Rattle.bind_laws.proofs.PortNumbers.{CountUp, IsInput}
use Rattle.bind_laws.proofs.InstanceScopes.{OneFits, AllFit, WholeFits, whole-fits}
use Rattle.bind_laws.proofs.Started.{started-same, started-length, all_started-fit}
use Rattle.bind_laws.proofs.TopPorts.{ascend-apart, inputs-ascend, outputs-ascend, inputs-fit, outputs-fit, roots-fit}

-- ---- an instance
port-goes : (w : Whole) (names : Names) (p : Port) (b c : Bound) → NamesFit w.signals names
    → NamesSignal (find names p.name.name) → port_start names p b ≡ Ok c → Goes w b c
port-goes w names p b c fit named is = by p.start is
  where
    by : (o : Option Tree) → ◌≡◌ {A = Result Bound BindErr} (elim o [
      | None ↦ Ok b
      | Some value ↦ start_at names p.name.name value b
    ]) (Ok c) → Goes w b c
    by None is = subst (Goes w b) (Ok-same is) (goes-nowhere w b)
    by (Some value) is = start-goes w names p.name.name value b c fit named is

instance-goes : (w : Whole) (f : Frame) (i : Instance) (own : Scope) (children : List (List Socket)) (b c : Bound)
    → f.clock ≡ w.clock → OneFits w.signals i own
    → Every (Every (SocketFits w.signals)) children → instance_items f i own children b ≡ Ok c → Goes w b c
instance-goes w f i own children b c clock fits fit is =
    between (each (port_start names) i.ports b) (λ more. behind i.body more) c (Goes w b c) is λ more first rest.
    goes-on w b more c
    (each-keeps (Goes w) (λ (p : Port). NamesSignal (find names p.name.name)) (port_start names) (goes-nowhere w) (goes-on w)
    (λ p m n named step. port-goes w names p m n (names-fit i.body fits.block) named step) i.ports b more fits.starts first)
    (items i.body fits.block more rest)
  where
    names : Names
    names = within (names_of own) []

    behind : Block → Bound → Result Bound BindErr
    behind body more = elim body [
      | scope _ _ copies ↦ bound_copies (ground_of f i) names (scopes_of own) copies (record { children = children; bound = more }) >>= λ met. Ok met.bound
    ]

    names-fit : (body : Block) → BlockFits w.signals [] own body → NamesFit w.signals names
    names-fit (scope path entries copies) block = within-fit w.signals (names_of own) [] block.0 tt

    items : (body : Block) → BlockFits w.signals [] own body → (more : Bound) → behind body more ≡ Ok c → Goes w more c
    items (scope path entries copies) block more is =
        between (bound_copies (ground_of f i) names (scopes_of own) copies (record { children = children; bound = more })) (λ (met : Met). Ok met.bound) c (Goes w more c) is λ met first last.
        subst (Goes w more) (Ok-same last)
        (copies-go w (ground_of f i) names (scopes_of own) copies (record { children = children; bound = more }) met clock
        (within-fit w.signals (names_of own) [] block.0 tt) block.1 fit first).goes

-- ---- all instances
abbrev AllPorts : Whole → List (List Socket) → Type 0
AllPorts w ports = Every (Every (SocketFits w.signals)) ports

ports-fit : (w : Whole) (is : List Instance) (scopes : List Scope) → AllFit w.signals is scopes
    → AllPorts w (all_sockets is scopes)
ports-fit w [] scopes fits = tt
ports-fit w (i ∷ is) [] fits = tt
ports-fit w (i ∷ is) (s ∷ ss) fits = (fits.0.ports, ports-fit w is ss fits.1)

children-fit : (w : Whole) (number : ℕ) (is : List Instance) (ports : List (List Socket)) → AllPorts w ports
    → AllPorts w (children_of number is ports)
children-fit w number [] ports fits = tt
children-fit w number (i ∷ is) [] fits = tt
children-fit w number (i ∷ is) (p ∷ ps) fits = by (is_in number i) (children-fit w number is ps fits.1)
  where
    by : (here : Bool) → AllPorts w (children_of number is ps)
        → AllPorts w (if here then p ∷ children_of number is ps else children_of number is ps)
    by true later = (fits.0, later)
    by false later = later

from-goes : (w : Whole) (f : Frame) (all : List Instance) (ports : List (List Socket)) (number : ℕ)
    (is : List Instance) (scopes : List Scope) (b c : Bound) → f.clock ≡ w.clock
    → AllPorts w ports → AllFit w.signals is scopes → bound_from f all ports number is scopes b ≡ Ok c → Goes w b c
from-goes w f all ports number [] scopes b c clock fit fits bound = subst (Goes w b) (Ok-same bound) (goes-nowhere w b)
from-goes w f all ports number (i ∷ is) [] b c clock fit fits bound = subst (Goes w b) (Ok-same bound) (goes-nowhere w b)
from-goes w f all ports number (i ∷ is) (own ∷ rest) b c clock fit fits bound =
    between (instance_items f i own (children_of number all ports) b) (bound_from f all ports (number + 1) is rest) c (Goes w b c) bound λ more first later.
    goes-on w b more c (instance-goes w f i own (children_of number all ports) b more clock fits.0 (children-fit w number all ports fit) first)
    (from-goes w f all ports (number + 1) is rest more c clock fit fits.1 later)

-- ---- the top
-- the ports of the first instance
pub record TopFits (signals : List Signal) (top : List Socket) : Type 0 where
  pub fit : Every (SocketFits signals) top
  pub number : ℕ
  pub count : CountUp top number
  pub inputs : Every (IsInput signals) top

no-top : (signals : List Signal) → TopFits signals []
no-top signals = record { fit = tt; number = 0; count = tt; inputs = tt }

top-fits : (signals : List Signal) (is : List Instance) (scopes : List Scope) → IsFirst is → AllFit signals is scopes
    → TopFits signals (top_ports (all_sockets is scopes))
top-fits signals [] scopes first fits = no-top signals
top-fits signals (i ∷ is) [] first fits = no-top signals
top-fits signals (i ∷ is) (s ∷ ss) first fits = record { fit = fits.0.ports; number = fits.0.number; count = fits.0.count; inputs = fits.0.inputs first }

-- ---- the whole
none-below : (p : ℕ) → 0 ≡ below p 0
none-below p = by (nat_lt p 0) refl
  where
    by : (less : Bool) → nat_lt p 0 ≡ less → ◌≡◌ {A = ℕ} 0 (if less then 1 else 0)
    by true is = absurd (omega (arith, ltb-true p 0 is))
    by false is = refl

begins-well : (w : Whole) (roots : List Root) → Every (λ (r : Root). RootFits w r.input) roots
    → BoundFits w (nothing_bound roots)
begins-well w roots fit = record { drivers = refl; clocked = refl; once = λ p. none-below p; roots = fit; declared = tt; initial = tt; places = refl }

initial-starts : (w : Whole) (is : List Initial) → Every (λ (i : Initial). StartFits w i.start) is
    → Every (StartFits w) (map (λ i. i.start) is)
initial-starts w [] all = tt
initial-starts w (i ∷ is) all = (all.0, initial-starts w is all.1)

-- what is bound is well formed, as lists
pub record ListsFit (b : Binding) (w : Whole) : Type 0 where
  pub same_signals : w.signals ≡ b.signals
  pub same_places : w.places ≡ b.bound.places
  pub same_inputs : w.inputs ≡ b.inputs
  pub signals : list_all signal_fits b.signals ≡ true
  pub bound : BoundFits w b.bound
  pub top : List Socket
  pub ports : TopFits b.signals top
  pub inputs : b.inputs ≡ inputs_of w.clock top
  pub outputs : b.outputs ≡ outputs_of top

-- what binding gives, from what is bound at the end
abbrev made : List Instance → Option (List ℕ) → Bound → Binding
made is name x =
    let whole = signals_of is in
    let top = top_ports (all_sockets is whole.scopes) in
    let clock = clock_of name top in
    record {
      signals = all_started (x.declared ++ map (λ i. i.start) x.initial) whole.signals;
      numbered = whole.signals;
      inputs = inputs_of clock top;
      outputs = outputs_of top;
      misnamed = is_misnamed name clock;
      bound = x;
    }

-- the lists of a design, from what is bound at the end
lists-from : (is : List Instance) (name : Option (List ℕ)) (x : Bound) → InstancesStand is → OfText is
    → length (signals_of is).signals < 2 ^ 32
    → bound_from (frame_of (signals_of is) (clock_of name (top_ports (all_sockets is (signals_of is).scopes)))) is (all_sockets is (signals_of is).scopes) 0 is (signals_of is).scopes
    (nothing_bound (top_roots (top_ports (all_sockets is (signals_of is).scopes)))) ≡ Ok x
    → (w : Whole) × ListsFit (made is name x) w
lists-from is name x stand of few bound = (
  w,
  record {
    same_signals = refl;
    same_places = refl;
    same_inputs = refl;
    signals = all_started-fit starts numbers fits.fits (Every-append (StartFits w) x.declared (map (λ i. i.start) x.initial) whole.declared (initial-starts w x.initial whole.initial));
    bound = whole;
    top = top;
    ports = ports;
    inputs = refl;
    outputs = refl;
  },
)
  where
    numbers : List Numbered
    numbers = (signals_of is).signals

    top : List Socket
    top = top_ports (all_sockets is (signals_of is).scopes)

    starts : List Start
    starts = x.declared ++ map (λ i. i.start) x.initial

    w : Whole
    w = record { signals = all_started starts numbers; places = x.places; clock = clock_of name top; inputs = inputs_of (clock_of name top) top }

    final : Final
    final = record { numbered = numbers; signals = all_started starts numbers; same = started-same starts numbers; few = few }

    fits : WholeFits final is
    fits = whole-fits final is stand of.each

    scopes_fit : AllFit w.signals is (signals_of is).scopes
    scopes_fit = fits.fit refl

    ports : TopFits w.signals top
    ports = top-fits w.signals is (signals_of is).scopes of.first scopes_fit

    whole : BoundFits w x
    whole = (from-goes w (frame_of (signals_of is) (clock_of name top)) is (all_sockets is (signals_of is).scopes) 0 is (signals_of is).scopes (nothing_bound (top_roots top)) x refl
        (ports-fit w is (signals_of is).scopes scopes_fit) scopes_fit bound (begins-itself x.places)).keeps
        (begins-well w (top_roots top) (roots-fit w top refl ports.fit))

numbers-few : (is : List Instance) (name : Option (List ℕ)) (x : Bound) (b : Binding) → length b.signals < 2 ^ 32
    → made is name x ≡ b → length (signals_of is).signals < 2 ^ 32
numbers-few is name x b few same =
    let long = started-length (x.declared ++ map (λ i. i.start) x.initial) (signals_of is).signals in
    let counted : length (made is name x).signals ≡ length b.signals = ap (λ (k : Binding). length k.signals) same in
    omega (arith, few, long, counted)

pub lists-fit : (is : List Instance) (name : Option (List ℕ)) (b : Binding) → InstancesStand is → OfText is
    → length b.signals < 2 ^ 32 → binding is name ≡ Ok b → (w : Whole) × ListsFit b w
lists-fit is name b stand of few bound =
    let whole = signals_of is in
    let ports = all_sockets is whole.scopes in
    let top = top_ports ports in
    between (bound_from (frame_of whole (clock_of name top)) is ports 0 is whole.scopes (nothing_bound (top_roots top))) (λ x. Ok (made is name x)) b ((w : Whole) × ListsFit b w) bound λ x first last.
    subst (λ k. (w : Whole) × ListsFit k w) (Ok-same last)
    (lists-from is name x stand of (numbers-few is name x b few (Ok-same last)) first)

-- ---- a design of the lists
whole-is : (w : Whole) (signals : List Signal) (places : List Place) (inputs : List ℕ) → w.signals ≡ signals
    → w.places ≡ places → w.inputs ≡ inputs
    → w ≡ record { signals = signals; places = places; clock = w.clock; inputs = inputs }
whole-is w signals places inputs one two three =
    ap (λ s. whole s w.places w.clock w.inputs) one ∙ ap (λ p. whole signals p w.clock w.inputs) two ∙ ap (λ i. whole signals places w.clock i) three
  where
    whole : List Signal → List Place → Option ℕ → List ℕ → Whole
    whole s p c i = record { signals = s; places = p; clock = c; inputs = i }

one-below : (p n : ℕ) → p < n → below p n ≡ 1
one-below p n less = ap (λ b. if b then 1 else 0) (lt-ltb p n less)

-- what fits the lists, fits a design of them
pub record DesignFits (d : Design) (clock : Option ℕ) (x : Bound) : Type 0 where
  pub bound : BoundFits (record { signals = d.signals.items; places = d.places.items; clock = clock; inputs = d.inputs.items }) x
  pub signals : list_all signal_fits d.signals.items ≡ true
  pub drivers : list_all (driver_fits d.signals.items d.places.items) d.drivers.items ≡ true
  pub clocked : list_all (design_clocked_fits d) d.clocked.items ≡ true

design-fits : (b : Binding) (d : Design) (w : Whole) → IsDesignOf b d → ListsFit b w → DesignFits d w.clock b.bound
design-fits b d w is fit =
    let whole = subst (λ k. BoundFits k b.bound)
    (whole-is w d.signals.items d.places.items d.inputs.items (fit.same_signals ∙ sym is.signals) (fit.same_places ∙ sym is.places) (fit.same_inputs ∙ sym is.inputs)) fit.bound in
    record {
      bound = whole;
      signals = ap (list_all signal_fits) is.signals ∙ fit.signals;
      drivers = ap (list_all (driver_fits d.signals.items d.places.items)) is.drivers ∙ whole.drivers;
      clocked = ap (list_all (design_clocked_fits d)) is.clocked ∙ whole.clocked;
    }

pub design-runs : (b : Binding) (d : Design) (w : Whole) → IsDesignOf b d → ListsFit b w → CanRun d
design-runs b d w is fit = let f = design-fits b d w is fit in record { signals = f.signals; drivers = f.drivers; clocked = f.clocked }

pub design-well_formed : (b : Binding) (d : Design) (w : Whole) → IsDesignOf b d → ListsFit b w → IsWellFormed d
design-well_formed b d w is fit =
    let f = design-fits b d w is fit in
    let inputs : d.inputs.items ≡ inputs_of w.clock fit.top = is.inputs ∙ fit.inputs in
    let outputs : d.outputs.items ≡ outputs_of fit.top = is.outputs ∙ fit.outputs in
    record {
      signals = f.signals;
      inputs = ap (list_all (input_fits d.signals.items)) inputs ∙ ap (λ s. list_all (input_fits s) (inputs_of w.clock fit.top)) is.signals
          ∙ inputs-fit b.signals w.clock fit.top fit.ports.inputs;
      inputs_distinct = subst (λ xs. AllPairs (λ one other. one ≢ other) xs) (sym inputs)
          (ascend-apart fit.ports.number (inputs_of w.clock fit.top) (inputs-ascend w.clock fit.top fit.ports.number fit.ports.count));
      outputs = ap (list_all (is_signal d.signals.items)) outputs ∙ ap (λ s. list_all (is_signal s) (outputs_of fit.top)) is.signals ∙ outputs-fit b.signals fit.top fit.ports.fit;
      outputs_distinct = subst (λ xs. AllPairs (λ one other. one ≢ other) xs) (sym outputs)
          (ascend-apart fit.ports.number (outputs_of fit.top) (outputs-ascend fit.top fit.ports.number fit.ports.count));
      places = ap (list_all (λ (place : Place). is_width place.width)) is.places ∙ f.bound.places;
      drivers = f.drivers;
      clocked = f.clocked;
      each_place_once = λ p less.
          let long : length d.places.items ≡ length b.bound.places = ap length is.places in
          ap (λ ds. sum_by (times_in_driver p) ds + sum_by (times_in_clocked p) d.clocked.items) is.drivers
          ∙ ap (λ cs. sum_by (times_in_driver p) b.bound.drivers + sum_by (times_in_clocked p) cs) is.clocked
          ∙ f.bound.once p ∙ one-below p (length b.bound.places) (omega (arith, long, less));
    }
