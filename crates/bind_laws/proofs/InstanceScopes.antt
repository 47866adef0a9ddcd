-- The scope of each instance fits the signals of the whole design, and so do its ports.
use Rattle.std.proofs.Common.{◌≡◌, ℕ, Bool, true, List, [], ◌∷◌, ◌++◌, length, Some, None, refl, sym, ◌∙◌, ap, subst, append_assoc, map}
use Rattle.std.specs.Prelude.{⊤, is_some, not}
use Rattle.design_core.specs.declared.signal.Signal.{Signal}
use Rattle.v_hierarchy.specs.Names.{Entry, signal}
use Rattle.v_hierarchy.specs.Names as declared
use Rattle.v_hierarchy.specs.Parameters.{is_among}
use Rattle.v_hierarchy.specs.Headers.{Port}
use Rattle.v_hierarchy.specs.Items.{Block, scope, Copies}
use Rattle.v_hierarchy.specs.Instances.{Instance}
use Rattle.v_binding.specs.Steps.{through}
use Rattle.v_binding.specs.Names.{Names, find, within}
use Rattle.v_binding.specs.Signals.{Numbered, Scope, scoped, Scoping, Ground, with_port, fixed_all, begun, numbered, is_top, instance_ground, numbered_instance, Whole, with_instance, signals_of}
use Rattle.v_binding.specs.Connections.{sockets}
use Rattle.v_binding.specs.Items.{names_of}
use Rattle.v_binding.specs.Standing.{EntriesStand, PortsStand, BlockStands, InstancesStand}
use Rattle.bind_laws.specs.Every.{Every}
use Rattle.bind_laws.specs.Fit.{Begins}
use Rattle.bind_laws.specs.Scopes.{NamesSignal, CopiesFit, BlockFits, SocketFits}
use Rattle.bind_laws.specs.OfText.{PortsApart, InstanceOf}
use Rattle.bind_laws.proofs.Lists.{begins-itself, begins-through}
use Rattle.bind_laws.proofs.Numbers.{Final}
use Rattle.bind_laws.proofs.ScopeNames.{Agrees, FoundSo, found-so, fixed_all-agrees, fixed_all-fit, is_listed, named-signal}
use Rattle.bind_laws.proofs.Declared.{NumberedFits, PortsListed, listed-on}
use Rattle.bind_laws.proofs.Numbering.{joined, CopiesNumber, copies-number}
use Rattle.bind_laws.proofs.PortNumbers.{port_knowns, PortsThere, PortsNumber, ports-number, PortsFound, ports-found, ports-unlisted, ports-listed, each-among, CountUp, IsInput, sockets-are, inputs-are}

-- an instance and its scope fit
pub record OneFits (signals : List Signal) (i : Instance) (own : Scope) : Type 0 where
  pub block : BlockFits signals [] own i.body
  pub ports : Every (SocketFits signals) (sockets i own)
  pub starts : Every (λ p. NamesSignal (find (within (names_of own) []) p.name.name)) i.ports
  -- the ports have the next numbers
  pub number : ℕ
  pub count : CountUp (sockets i own) number
  pub inputs : i.parent ≡ None → Every (IsInput signals) (sockets i own)

-- what is numbered of an instance
pub record OneNumbers (w : Final) (i : Instance) (before : List Numbered) (own : Scoping) : Type 0 where
  pub signals : Begins before own.signals
  pub fits : Every NumberedFits before → Every NumberedFits own.signals
  pub fit : Begins own.signals w.numbered → OneFits w.signals i (scoped own.names own.inside)

-- each port is the name of a signal
ports-named : (entries : List Entry) (own : Names) (ports all : List Port) → Every (Agrees entries) own
    → Every (λ (p : Port). declared.find p.name.name entries ≡ Some (signal p.signal)) ports
    → Every (λ (p : Port). is_among p.name.name (map (λ q. q.name.name) all) ≡ true) ports
    → PortsListed (map (λ q. q.name.name) all) own
    → Every (λ (p : Port). NamesSignal (find (within own []) p.name.name)) ports
ports-named entries own [] all agree are among listed = tt
ports-named entries own (p ∷ ps) all agree are among listed = (
  named-signal entries p.signal p.name.name own [] are.0 agree (listed p.name.name among.0),
  ports-named entries own ps all agree are.1 among.1 listed,
)

-- an instance with its body
abbrev instance_with : Instance → Block → Instance
instance_with i body = record { path = i.path; «module» = i.«module»; parent = i.parent; connections = i.connections; ports = i.ports; body = body }

-- an instance from its ports and what is numbered behind them
from-ports : (w : Final) (i : Instance) (top : Bool) (path : List ℕ) (entries : List Entry) (copies : Copies)
    (g : Ground) (before : List Numbered) (mid own : Scoping)
    → g.entries ≡ entries → (i.parent ≡ None → top ≡ true)
    → PortsStand i.ports → EntriesStand entries → Every (FoundSo entries) entries
    → PortsApart i.ports → Every (λ (p : Port). declared.find p.name.name entries ≡ Some (signal p.signal)) i.ports
    → PortsNumber w top g i.ports (begun entries before) mid → CopiesNumber w g copies mid own
    → OneNumbers w (instance_with i (scope path entries copies)) before own
from-ports w i top path entries copies g before mid own same is_first stand names found apart are ports items = record {
  signals = begins-through before mid.signals own.signals ports.numbers.signals items.numbers.signals;
  fits = λ all. items.numbers.fits (ports.numbers.fits all);
  fit = λ begins.
      let middle = begins-through mid.signals own.signals w.numbered items.numbers.signals begins in
      let there = ports.there middle in
      let agree : Every (Agrees g.entries) own.names = items.numbers.agree (ports.numbers.agree (subst (λ es. Every (Agrees es) (fixed_all entries)) (sym same) (fixed_all-agrees entries entries found))) in
      let whole : own.names ≡ (fixed_all entries ++ port_knowns i.ports (length before)) ++ items.numbers.names.rest =
      items.numbers.names.is ∙ ap (λ front. front ++ items.numbers.names.rest) ports.names in
      let by_name : PortsFound own.names i.ports (length before) =
      subst (λ xs. PortsFound xs i.ports (length before)) (sym whole)
      (ports-found (fixed_all entries) i.ports (length before) items.numbers.names.rest (ports-unlisted entries i.ports found are) apart) in
      let scopes : own.inside ≡ items.more = items.inside ∙ ap (λ front. joined front items.more) ports.inside in
      let sockets_are = sockets-are w top own.names i.ports (length before) stand there by_name in
      record {
        block = (
          items.numbers.fit begins (ports.numbers.fit middle (fixed_all-fit w.signals entries names)),
          subst (λ s. CopiesFit w.signals (within own.names []) s copies) (sym scopes) (items.fit begins own.names [] (begins-itself own.names) agree),
        );
        ports = sockets_are.fit;
        starts = ports-named entries own.names i.ports i.ports (subst (λ es. Every (Agrees es) own.names) same agree) are (each-among i.ports)
            (λ name among. listed-on mid.names own.names name items.numbers.names
            (subst (λ ks. is_listed ks name ≡ true) (sym ports.names) (ports-listed (fixed_all entries) i.ports (length before) name among)));
        number = length before;
        count = sockets_are.count;
        inputs = λ none. inputs-are w own.names i.ports (length before) (subst (λ t. PortsThere w t i.ports (length before)) (is_first none) there) by_name;
      };
}

one-numbers : (w : Final) (i : Instance) (body : Block) (before : List Numbered) → PortsStand i.ports
    → BlockStands body → InstanceOf (instance_with i body)
    → OneNumbers w (instance_with i body) before (numbered_instance (instance_with i body) before)
one-numbers w i (scope path entries copies) before stand stands_body of =
    let one = instance_with i (scope path entries copies) in
    let g = instance_ground one in
    let start = begun entries before in
    let mid = through (with_port (is_top one) g) i.ports start in
    let ports = ports-number w (is_top one) g i.ports start stand in
    let items = copies-number w g copies mid stands_body.0
    (λ name among. subst (λ ks. is_listed ks name ≡ true) (sym ports.names) (ports-listed (fixed_all entries) i.ports (length before) name among))
    stands_body.1 of.0.1 in
    from-ports w i (is_top one) path entries copies g before mid (numbered g copies mid) refl (λ none. ap (λ p. not (is_some p)) none)
    stand stands_body.0 (found-so entries of.0.0) of.1 of.2 ports items

-- ---- all instances
abbrev pub AllFit : List Signal → List Instance → List Scope → Type 0
AllFit signals [] scopes = ⊤
AllFit signals (i ∷ is) [] = ⊤
AllFit signals (i ∷ is) (s ∷ ss) = OneFits signals i s × AllFit signals is ss

pub record AllNumber (w : Final) (is : List Instance) (before after : Whole) : Type 0 where
  pub signals : Begins before.signals after.signals
  pub fits : Every NumberedFits before.signals → Every NumberedFits after.signals
  pub more : List Scope
  pub scopes : after.scopes ≡ before.scopes ++ more
  pub fit : Begins after.signals w.numbered → AllFit w.signals is more

none-more : {X : Type 0} (xs : List X) → xs ≡ xs ++ []
none-more [] = refl
none-more (x ∷ xs) = ap (λ ys. x ∷ ys) (none-more xs)

all-number : (w : Final) (is : List Instance) (met : Whole) → InstancesStand is → Every InstanceOf is
    → AllNumber w is met (through with_instance is met)
all-number w [] met all of = record { signals = begins-itself met.signals; fits = λ fits. fits; more = []; scopes = none-more met.scopes; fit = λ begins. tt }
all-number w (i ∷ is) met all of =
    let own = numbered_instance i met.signals in
    let one : OneNumbers w i met.signals own = one-numbers w i i.body met.signals all.0 all.1 of.0 in
    let next = with_instance i met in
    let rest = all-number w is next all.2 of.1 in
    record {
      signals = begins-through met.signals own.signals (through with_instance is next).signals one.signals rest.signals;
      fits = λ fits. rest.fits (one.fits fits);
      more = scoped own.names own.inside ∷ rest.more;
      scopes = rest.scopes ∙ append_assoc met.scopes (scoped own.names own.inside ∷ []) rest.more;
      fit = λ begins.
          (one.fit (begins-through own.signals (through with_instance is next).signals w.numbered rest.signals begins), rest.fit begins);
    }

-- all that signals_of gives fits
pub record WholeFits (w : Final) (is : List Instance) : Type 0 where
  pub fits : Every NumberedFits (signals_of is).signals
  pub fit : (signals_of is).signals ≡ w.numbered → AllFit w.signals is (signals_of is).scopes

pub whole-fits : (w : Final) (is : List Instance) → InstancesStand is → Every InstanceOf is → WholeFits w is
whole-fits w is all of =
    let start : Whole = record { scopes = []; signals = [] } in
    let numbers = all-number w is start all of in
    record {
      fits = numbers.fits tt;
      fit = λ same. subst (AllFit w.signals is) (sym numbers.scopes)
          (numbers.fit (subst (λ ns. Begins (signals_of is).signals ns) same (begins-itself (signals_of is).signals)));
    }
