-- A design from its instances (IEEE 1364-2005, clause 12): all signals first, then the items of each instance in the order of the
-- instances.
use Rattle.std.specs.Prelude.{ℕ, ◌+◌, ◌==◌, Bool, true, false, not, ◌&&◌, if◌then◌else◌, List, [], ◌∷◌, ◌++◌, map, Option, Some, None, Result, Ok}
use Rattle.std.specs.Option.{option_map_or}
use Rattle.design_core.specs.declared.signal.Signal.{Signal}
use Rattle.v_hierarchy.specs.Names.{same_name}
use Rattle.v_hierarchy.specs.Headers.{Port}
use Rattle.v_hierarchy.specs.Items.{scope}
use Rattle.v_hierarchy.specs.Instances.{Instance}
use Rattle.v_binding.specs.declared.error.BindErr.{BindErr}
use Rattle.v_binding.specs.Steps.{◌>>=◌, each}
use Rattle.v_binding.specs.Names.{Names, within}
use Rattle.v_binding.specs.Signals.{Numbered, Scope, Whole, signals_of}
use Rattle.v_binding.specs.Starts.{all_started}
use Rattle.v_binding.specs.Bound.{Root, Bound}
use Rattle.v_binding.specs.Blocks.{Frame}
use Rattle.v_binding.specs.Assignments.{start_at}
use Rattle.v_binding.specs.Connections.{Socket, sockets}
use Rattle.v_binding.specs.Items.{Ground, names_of, scopes_of, bound_copies}

-- ---- ports
-- the ports of each instance
abbrev pub all_sockets : List Instance → List Scope → List (List Socket)
all_sockets (i ∷ is) (s ∷ ss) = sockets i s ∷ all_sockets is ss
all_sockets _ _ = []

-- those of the instances that stand right in the one of a number
abbrev pub is_in : ℕ → Instance → Bool
is_in number i = option_map_or (λ parent. parent == number) i.parent false

abbrev pub children_of : ℕ → List Instance → List (List Socket) → List (List Socket)
children_of number (i ∷ is) (ports ∷ rest) = if is_in number i then ports ∷ children_of number is rest else children_of number is rest
children_of number _ _ = []

-- ---- the top's ports
abbrev pub top_ports : List (List Socket) → List Socket
top_ports [] = []
top_ports (ports ∷ _) = ports

-- the number of its input of one bit with a name
abbrev pub clock_among : List ℕ → List Socket → Option ℕ
clock_among name [] = None
clock_among name (p ∷ ps) = if p.input && p.width == 1 && same_name p.name name then Some p.signal else clock_among name ps

abbrev pub clock_of : Option (List ℕ) → List Socket → Option ℕ
clock_of clock ports = option_map_or (λ name. clock_among name ports) clock None

-- each input of one bit is connected to itself
abbrev pub top_roots : List Socket → List Root
top_roots [] = []
top_roots (p ∷ ps) = if p.input && p.width == 1 then record { signal = p.signal; input = p.signal } ∷ top_roots ps else top_roots ps

-- the inputs without the clock, and the outputs
abbrev pub is_the_clock : Option ℕ → ℕ → Bool
is_the_clock clock signal = option_map_or (λ n. n == signal) clock false

abbrev pub inputs_of : Option ℕ → List Socket → List ℕ
inputs_of clock [] = []
inputs_of clock (p ∷ ps) = if p.input && not (is_the_clock clock p.signal) then p.signal ∷ inputs_of clock ps else inputs_of clock ps

abbrev pub outputs_of : List Socket → List ℕ
outputs_of [] = []
outputs_of (p ∷ ps) = if p.input then outputs_of ps else p.signal ∷ outputs_of ps

-- ---- an instance: the start values of its header's ports, then its items
abbrev pub port_start : Names → Port → Bound → Result Bound BindErr
port_start names p b = elim p.start [
  | None ↦ Ok b
  | Some value ↦ start_at names p.name.name value b
]

abbrev pub ground_of : Frame → Instance → Ground
ground_of f i = record { frame = f; «module» = i.«module».name.name; path = i.path }

abbrev pub instance_items : Frame → Instance → Scope → List (List Socket) → Bound → Result Bound BindErr
instance_items f i own children b =
    let names = within (names_of own) [] in
    each (port_start names) i.ports b >>= λ more. elim i.body [
      | scope _ _ copies ↦ bound_copies (ground_of f i) names (scopes_of own) copies (record { children = children; bound = more }) >>= λ met. Ok met.bound
    ]

-- the instances from a number on, of all of them with their ports
abbrev pub bound_from : Frame → List Instance → List (List Socket) → ℕ → List Instance → List Scope → Bound → Result Bound BindErr
bound_from f all ports number (i ∷ is) (own ∷ rest) b =
    instance_items f i own (children_of number all ports) b >>= bound_from f all ports (number + 1) is rest
bound_from f all ports number _ _ b = Ok b

-- ---- the whole
abbrev pub nothing_bound : List Root → Bound
nothing_bound roots = record { places = []; drivers = []; clocked = []; words = 0; declared = []; initial = []; roots = roots; misclocked = None; clock_read = None }

-- the lists of a design, and what the rules want to know beside them
pub record Binding : Type 0 where
  pub signals : List Signal
  pub numbered : List Numbered
  pub inputs : List ℕ
  pub outputs : List ℕ
  -- whether a clock is named that is no input of one bit
  pub misnamed : Bool
  pub bound : Bound

abbrev pub is_misnamed : Option (List ℕ) → Option ℕ → Bool
is_misnamed None clock = false
is_misnamed (Some _) None = true
is_misnamed (Some _) (Some _) = false

abbrev pub frame_of : Whole → Option ℕ → Frame
frame_of whole clock = record { signals = map (λ n. n.signal) whole.signals; clock = clock }

abbrev pub binding : List Instance → Option (List ℕ) → Result Binding BindErr
binding instances name =
    let whole = signals_of instances in
    let ports = all_sockets instances whole.scopes in
    let top = top_ports ports in
    let clock = clock_of name top in
    bound_from (frame_of whole clock) instances ports 0 instances whole.scopes (nothing_bound (top_roots top)) >>= λ b.
    Ok (record {
      signals = all_started (b.declared ++ map (λ i. i.start) b.initial) whole.signals;
      numbered = whole.signals;
      inputs = inputs_of clock top;
      outputs = outputs_of top;
      misnamed = is_misnamed name clock;
      bound = b;
    })
