-- The signals of a design and their numbers (IEEE 1364-2005, 4.2, 4.9, 12.3 and 12.5): of each instance its ports in their order,
-- then its nets, registers, words of arrays and integers in the order of the text. The number of a signal is the length of the
-- list of those before it.
use Rattle.std.specs.Prelude.{ℕ, zero, suc, Bool, true, false, not, ◌&&◌, ◌||◌, if◌then◌else◌, nat_lt, ℤ, pos, ◌+ℤ◌, List, [], ◌∷◌, ◌++◌, map, length, Option, Some, None, Ok, Err, is_some}
use Rattle.std.specs.Option.{option_map_or}
use Rattle.std.specs.Fmt.{signed_decimal}
use Rattle.loc_base.specs.declared.span.Span.{Span}
use Rattle.v_syntax.specs.declared.declaration.Identifier.{Identifier}
use Rattle.v_syntax.specs.declared.item.Direction.{Direction}
use Rattle.v_syntax.specs.declared.item.Direction.TheVariants as direction
use Rattle.v_syntax.specs.declared.item.NetKind.{NetKind}
use Rattle.v_syntax.specs.declared.item.NetKind.TheVariants as net_kind
use Rattle.v_syntax.specs.PartTree.{PlainRange}
use Rattle.v_syntax.specs.ItemTree.{PlainDeclarator, net_item, integer_item}
use Rattle.design_core.specs.declared.signal.Signal.{Signal}
use Rattle.design_core.specs.declared.signal.SignalKind.{SignalKind}
use Rattle.design_core.specs.declared.signal.SignalKind.TheVariants as kind
use Rattle.v_sizes.specs.declared.meaning.Meaning.TheVariants as meaning
use Rattle.v_sizes.specs.Word.{word}
use Rattle.v_hierarchy.specs.declared.bounds.Bounds.{Bounds}
use Rattle.v_hierarchy.specs.declared.signal.Signal.{Signal as Declared}
use Rattle.v_hierarchy.specs.Constants.{bounds, width}
use Rattle.v_hierarchy.specs.Names.{Entry, Standing, signal, array, integer, genvar, constant, bounds_of, same_name, meaning_of}
use Rattle.v_hierarchy.specs.Names as declared
use Rattle.v_hierarchy.specs.Parameters.{is_among}
use Rattle.v_hierarchy.specs.Headers.{Port}
use Rattle.v_hierarchy.specs.Paths.{below}
use Rattle.v_hierarchy.specs.Unrolled.{Steps, nothing, still, run, branch, choose, repeated, StepList, no_step, step, Arms, no_arm, arm, default_arm, Turns, no_turn, turn}
use Rattle.v_hierarchy.specs.Items.{Copied, written, always, child, inner, Block, scope, Copies, no_copy, copy}
use Rattle.v_hierarchy.specs.Items as items
use Rattle.v_hierarchy.specs.Instances.{Instance}
use Rattle.v_binding.specs.Steps.{through}
use Rattle.v_binding.specs.declared.known.Use.TheVariants.{Stands as stands, Outside as outside}
use Rattle.v_binding.specs.Names.{Known, Names, known, within, turned}
use Rattle.v_binding.specs.Addresses.{Addresses, addresses_at}

-- ---- signals
-- a signal with the first word of its array, and itself where it is none; and the name in the text that declares it
pub record Numbered : Type 0 where
  pub signal : Signal
  pub home : ℕ
  pub span : Span

-- a name in the top's own scope is its own path
abbrev pub path_in : Option (List ℕ) → List ℕ → List ℕ
path_in None name = name
path_in (Some path) name = below path name

abbrev pub signal_of : List ℕ → SignalKind → Bool → Bounds → Signal
signal_of path kind signed b =
    record { path = path; width = width b; signed = signed; left = b.left; right = b.right; kind = kind; start = word (width b) 0 }

-- a port or another declaration is a variable where `reg` says so; an input of the top is none
abbrev pub is_input : Option Direction → Bool
is_input (Some direction.Input) = true
is_input _ = false

abbrev pub kind_in : Option NetKind → SignalKind
kind_in (Some net_kind.Reg) = kind.Reg
kind_in (Some net_kind.Wire) = kind.Net
kind_in None = kind.Net

abbrev pub kind_of : Bool → Declared → SignalKind
kind_of top s = if top && is_input s.direction then kind.Input else kind_in s.kind

-- NAME[address]
abbrev pub word_path : List ℕ → ℤ → List ℕ
word_path path address = path ++ 91 ∷ signed_decimal address ++ 93 ∷ []

-- the words of an array from an address on
unfoldable pub words : (ℤ → Numbered) → ℕ → ℤ → List Numbered
words one zero address = []
words one (suc count) address = one address ∷ words one count (address +ℤ pos 1)

-- ---- the integers that loops use: the variable of a loop is what its name is declared as before the loop, in the loop's own scope
-- or else in those around it. `seen` tells of each place of the text whether the integer is what its name means there
abbrev mutual
  pub loops_on : List ℕ → (ℕ → Bool) → Steps → Bool
  loops_on name seen nothing = false
  loops_on name seen (still _) = false
  loops_on name seen (run steps) = loops_on_all name seen steps
  loops_on name seen (branch _ on_true other) = loops_on name seen on_true || loops_on name seen other
  loops_on name seen (choose _ _ arms) = loops_on_arms name seen arms
  loops_on name seen (repeated variable turns) = (same_name variable.name name && seen variable.site.token) || loops_on_turns name seen turns

  pub loops_on_all : List ℕ → (ℕ → Bool) → StepList → Bool
  loops_on_all name seen no_step = false
  loops_on_all name seen (step x xs) = loops_on name seen x || loops_on_all name seen xs

  pub loops_on_arms : List ℕ → (ℕ → Bool) → Arms → Bool
  loops_on_arms name seen no_arm = false
  loops_on_arms name seen (arm _ x xs) = loops_on name seen x || loops_on_arms name seen xs
  loops_on_arms name seen (default_arm x xs) = loops_on name seen x || loops_on_arms name seen xs

  pub loops_on_turns : List ℕ → (ℕ → Bool) → Turns → Bool
  loops_on_turns name seen no_turn = false
  loops_on_turns name seen (turn _ x xs) = loops_on name seen x || loops_on_turns name seen xs

-- the token with which a name is first declared in a scope
abbrev pub declared_at : List ℕ → List Entry → Option ℕ
declared_at name [] = None
declared_at name (e ∷ es) = if same_name e.name.name name then Some e.name.site.token else declared_at name es

-- whether a declaration of a name stands before a token
abbrev pub hides : List ℕ → List Entry → ℕ → Bool
hides name entries token = option_map_or (λ at. nat_lt at token) (declared_at name entries) false

-- in a scope inside the integer is seen up to where its name is declared again
abbrev mutual
  pub is_looped : List ℕ → (ℕ → Bool) → Copies → Bool
  is_looped name seen no_copy = false
  is_looped name seen (copy x xs) = is_looped_in name seen x || is_looped name seen xs

  pub is_looped_in : List ℕ → (ℕ → Bool) → Copied → Bool
  is_looped_in name seen (written _) = false
  is_looped_in name seen (always _ _ body) = loops_on name seen body
  is_looped_in name seen (child _ _) = false
  is_looped_in name seen (inner (scope _ entries copies)) = is_looped name (λ token. seen token && not (hides name entries token)) copies
  is_looped_in name seen (items.turn variable _ (scope _ entries copies)) =
      not (same_name variable.name name) && is_looped name (λ token. seen token && not (hides name entries token)) copies

-- whether a loop uses an integer of a scope with such items: it is seen behind its declaration
abbrev pub is_loop_variable : Identifier → Copies → Bool
is_loop_variable name copies = is_looped name.name (nat_lt name.site.token) copies

-- ---- the names of a scope
-- a scope's names, and the scopes that stand in it, in the order of the text
mutual
  pub data Scope : Type 0 where
    scoped : Names → Scopes → Scope

  pub data Scopes : Type 0 where
    no_scope : Scopes
    more_scopes : Scope → Scopes → Scopes

abbrev pub and_scope : Scopes → Scope → Scopes
and_scope no_scope s = more_scopes s no_scope
and_scope (more_scopes x xs) s = more_scopes x (and_scope xs s)

-- what is met of a scope so far: the signals of the whole design, its names, the scopes inside
pub record Scoping : Type 0 where
  pub signals : List Numbered
  pub names : Names
  pub inside : Scopes

-- a scope: the path of its signals, the names of its ports, what it declares and what its items make, and what the names stand
-- for that are seen from it while numbers are given
pub record Ground : Type 0 where
  pub prefix : Option (List ℕ)
  pub ports : List (List ℕ)
  pub entries : List Entry
  pub copies : Copies
  pub names : Names

-- what a declaration stands for before signals have numbers, as constants see it
abbrev pub unnumbered : Entry → Known
unnumbered e = known e.name.name (stands (meaning_of e.standing))

-- one signal more
abbrev pub with_signal : Bool → Ground → Identifier → Declared → Scoping → Scoping
with_signal top g name s met = record {
  signals = met.signals ++ record { signal = signal_of (path_in g.prefix name.name) (kind_of top s) s.signed (bounds_of s); home = length met.signals; span = name.site.span } ∷ [];
  names = met.names ++ known name.name (stands (meaning.Signal (length met.signals) (width (bounds_of s)) s.signed (bounds_of s).left (bounds_of s).right)) ∷ [];
  inside = met.inside;
}

-- one array more. Where its addresses are refused it has one word here, and the text no design
abbrev pub one_address : Addresses
one_address = record { low = pos 0; count = 1 }

abbrev pub addresses_or_one : Names → PlainDeclarator → PlainRange → Addresses
addresses_or_one names d r = elim (addresses_at names d.site.span r) [
  | Ok a ↦ a
  | Err _ ↦ one_address
]

abbrev pub with_array : Ground → Identifier → Declared → Addresses → Scoping → Scoping
with_array g name s a met = record {
  signals = met.signals ++ words (λ address. record { signal = signal_of (word_path (path_in g.prefix name.name) address) kind.Reg s.signed (bounds_of s); home = length met.signals; span = name.site.span }) a.count a.low;
  names = met.names ++ known name.name (stands (meaning.Array (length met.signals) a.count a.low (width (bounds_of s)) s.signed (bounds_of s).left (bounds_of s).right)) ∷ [];
  inside = met.inside;
}

-- ---- ports, first of all
abbrev pub with_port : Bool → Ground → Port → Scoping → Scoping
with_port top g p met = with_signal top g p.name p.signal met

-- ---- declarations, where they stand: a port has its number already
abbrev pub declared_as : Ground → PlainDeclarator → Option Standing → Scoping → Scoping
declared_as g d (Some (signal s)) met = with_signal false g d.name s met
declared_as g d (Some (array s r)) met = with_array g d.name s (addresses_or_one g.names d r) met
declared_as g d _ met = met

abbrev pub with_declarator : Ground → PlainDeclarator → Scoping → Scoping
with_declarator g d met = if is_among d.name.name g.ports then met else declared_as g d (declared.find d.name.name g.entries) met

-- an integer that no loop uses is a register of 32 bits
abbrev pub an_integer : Declared
an_integer = record { direction = None; kind = Some net_kind.Reg; signed = true; bounds = Some (bounds (pos 31) (pos 0)) }

abbrev pub with_integer : Ground → Identifier → Scoping → Scoping
with_integer g name met =
    if is_loop_variable name g.copies
    then record { signals = met.signals; names = met.names ++ known name.name outside ∷ []; inside = met.inside }
    else with_signal false g name an_integer met

-- what has no number: parameters and genvars
abbrev pub fixed : List ℕ → Standing → Names
fixed name (constant value b) = known name (stands (meaning_of (constant value b))) ∷ []
fixed name genvar = known name outside ∷ []
fixed name _ = []

abbrev pub fixed_all : List Entry → Names
fixed_all [] = []
fixed_all (e ∷ es) = fixed e.name.name e.standing ++ fixed_all es

-- the ground of a scope inside another
abbrev pub ground_of : List ℕ → List Entry → Copies → Names → Ground
ground_of path entries copies names =
    record { prefix = Some path; ports = []; entries = entries; copies = copies; names = within (map unnumbered entries) names }

abbrev pub begun : List Entry → List Numbered → Scoping
begun entries signals = record { signals = signals; names = fixed_all entries; inside = no_scope }

-- a scope that ends becomes one of those inside the one around it
abbrev pub ended : Scoping → Scoping → Scoping
ended own met = record { signals = own.signals; names = met.names; inside = and_scope met.inside (scoped own.names own.inside) }

abbrev mutual
  pub numbered : Ground → Copies → Scoping → Scoping
  numbered g no_copy met = met
  numbered g (copy x xs) met = numbered g xs (numbered_copy g x met)

  pub numbered_copy : Ground → Copied → Scoping → Scoping
  numbered_copy g (written (net_item _ _ _ _ _ names)) met = through (with_declarator g) names met
  numbered_copy g (written (integer_item _ names)) met = through (with_integer g) names met
  numbered_copy g (written _) met = met
  numbered_copy g (always _ _ _) met = met
  numbered_copy g (child _ _) met = met
  numbered_copy g (inner (scope path entries copies)) met =
      ended (numbered (ground_of path entries copies g.names) copies (begun entries met.signals)) met
  numbered_copy g (items.turn variable value (scope path entries copies)) met =
      ended (numbered (ground_of path entries copies (turned variable value g.names)) copies (begun entries met.signals)) met

-- ---- instances
abbrev pub is_top : Instance → Bool
is_top i = not (is_some i.parent)

abbrev pub instance_ground : Instance → Ground
instance_ground i = elim i.body [
  | scope path entries copies ↦ record {
    prefix = if is_top i then None else Some path;
    ports = map (λ p. p.name.name) i.ports;
    entries = entries;
    copies = copies;
    names = within (map unnumbered entries) [];
  }
]

-- an instance's ports, then what its items declare
abbrev pub numbered_instance : Instance → List Numbered → Scoping
numbered_instance i signals =
    let g = instance_ground i in
    numbered g g.copies (through (with_port (is_top i) g) i.ports (begun g.entries signals))

-- the scope of each instance, and all signals
pub record Whole : Type 0 where
  pub scopes : List Scope
  pub signals : List Numbered

abbrev pub with_instance : Instance → Whole → Whole
with_instance i met =
    let own = numbered_instance i met.signals in
    record { scopes = met.scopes ++ scoped own.names own.inside ∷ []; signals = own.signals }

abbrev pub signals_of : List Instance → Whole
signals_of instances = through with_instance instances (record { scopes = []; signals = [] })
