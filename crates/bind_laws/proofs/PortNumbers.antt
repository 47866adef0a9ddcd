-- The ports of an instance have the next numbers, in their order, and each is found by its name.
use Rattle.std.proofs.Common.{◌≡◌, ℕ, suc, Bool, true, false, List, [], ◌∷◌, ◌++◌, length, length-append, Some, refl, sym, ◌∙◌, ap, subst, arith, append_assoc, map}
use Rattle.std.specs.Prelude.{⊤, ◌||◌, if◌then◌else◌, slice_get}
use Rattle.std.specs.Option.{option_map_or}
use Rattle.std.proofs.lemmas.Bool.{false≢true}
use Rattle.loc_base.proofs.ShelfOptions.{Some-same}
use Rattle.loc_base.specs.declared.span.Span.{Span}
use Rattle.design_core.specs.declared.signal.Signal.{Signal}
use Rattle.design_core.specs.declared.signal.SignalKind.TheVariants as kind
use Rattle.design_core.specs.WellFormed.{input_fits, is_input as is_input_kind}
use Rattle.v_sizes.specs.declared.meaning.Meaning.TheVariants as meaning
use Rattle.v_sizes.specs.Context.{IsThere}
use Rattle.v_hierarchy.specs.declared.signal.Signal.{Signal as Declared}
use Rattle.v_hierarchy.specs.Constants.{width}
use Rattle.v_hierarchy.specs.Names.{Entry, Standing, signal, array, integer, genvar, constant, same_name, bounds_of}
use Rattle.v_hierarchy.specs.Names as declared
use Rattle.v_hierarchy.specs.Parameters.{is_among}
use Rattle.v_hierarchy.specs.Headers.{Port}
use Rattle.v_hierarchy.proofs.DeclaredLaws.{same-itself}
use Rattle.v_binding.specs.declared.known.Use.{Use}
use Rattle.v_binding.specs.declared.known.Use.TheVariants.{Stands as stands}
use Rattle.v_binding.specs.Steps.{through}
use Rattle.v_binding.specs.Names.{Known, Names, known, find}
use Rattle.v_binding.specs.Signals.{Numbered, signal_of, is_input, kind_in, kind_of, path_in, Scoping, Ground, with_port, fixed, fixed_all}
use Rattle.v_binding.specs.Assignments.{number_of}
use Rattle.v_binding.specs.Connections.{Socket, socket}
use Rattle.v_binding.specs.Standing.{PortsStand}
use Rattle.bind_laws.specs.Every.{Every}
use Rattle.bind_laws.specs.Fit.{Begins}
use Rattle.bind_laws.specs.Scopes.{SocketFits}
use Rattle.bind_laws.specs.OfText.{PortsApart}
use Rattle.bind_laws.proofs.Lists.{begins-through, begins-at}
use Rattle.bind_laws.proofs.Numbers.{Final, number-there}
use Rattle.bind_laws.proofs.ScopeNames.{same-equal, FoundSo, is_listed}
use Rattle.bind_laws.proofs.Declared.{Numbers, numbers-nothing, numbers-on, signal-numbers}

-- ---- what a port stands for
abbrev pub port_use : Port → ℕ → Use
port_use p n = stands (meaning.Signal n (width (bounds_of p.signal)) p.signal.signed (bounds_of p.signal).left (bounds_of p.signal).right)

abbrev pub port_knowns : List Port → ℕ → Names
port_knowns [] n = []
port_knowns (p ∷ ps) n = known p.name.name (port_use p n) ∷ port_knowns ps (suc n)

-- a port is the signal of a number
pub record PortThere (w : Final) (top : Bool) (p : Port) (n : ℕ) : Type 0 where
  pub path : List ℕ
  pub home : ℕ
  pub span : Span
  pub at : slice_get w.numbered n
      ≡ Some (record { signal = signal_of path (kind_of top p.signal) p.signal.signed (bounds_of p.signal); home = home; span = span })

abbrev pub PortsThere : Final → Bool → List Port → ℕ → Type 0
PortsThere w top [] n = ⊤
PortsThere w top (p ∷ ps) n = PortThere w top p n × PortsThere w top ps (suc n)

-- the ports are numbered first
pub record PortsNumber (w : Final) (top : Bool) (g : Ground) (ports : List Port) (before after : Scoping) : Type 0 where
  pub numbers : Numbers w g.entries before after
  pub names : after.names ≡ before.names ++ port_knowns ports (length before.signals)
  pub inside : after.inside ≡ before.inside
  pub there : Begins after.signals w.numbered → PortsThere w top ports (length before.signals)

append-none : {X : Type 0} (xs : List X) → xs ≡ xs ++ []
append-none [] = refl
append-none (x ∷ xs) = ap (λ ys. x ∷ ys) (append-none xs)

pub ports-number : (w : Final) (top : Bool) (g : Ground) (ports : List Port) (met : Scoping) → PortsStand ports
    → PortsNumber w top g ports met (through (with_port top g) ports met)
ports-number w top g [] met stand = record { numbers = numbers-nothing w g.entries met; names = append-none met.names; inside = refl; there = λ begins. tt }
ports-number w top g (p ∷ ps) met stand =
    let next = with_port top g p met in
    let n : Numbered = record { signal = signal_of (path_in g.prefix p.name.name) (kind_of top p.signal) p.signal.signed (bounds_of p.signal); home = length met.signals; span = p.name.site.span } in
    let more = ports-number w top g ps next stand.1 in
    let long : length (met.signals ++ n ∷ []) ≡ suc (length met.signals) = omega (arith, length-append met.signals (n ∷ [])) in
    record {
      numbers = numbers-on w g.entries met next (through (with_port top g) ps next) (signal-numbers w top g p.name p.signal met stand.0) more.numbers;
      names = more.names ∙ ap (λ m. (met.names ++ known p.name.name (port_use p (length met.signals)) ∷ []) ++ port_knowns ps m) long
          ∙ append_assoc met.names (known p.name.name (port_use p (length met.signals)) ∷ []) (port_knowns ps (suc (length met.signals)));
      inside = more.inside;
      there = λ begins. (
        record {
          path = path_in g.prefix p.name.name;
          home = length met.signals;
          span = p.name.site.span;
          at = begins-at met.signals n w.numbered (begins-through next.signals (through (with_port top g) ps next).signals w.numbered more.numbers.signals begins);
        },
        subst (PortsThere w top ps) long (more.there begins),
      );
    }

-- ---- found by name
-- each port is found as the signal of its number
abbrev pub PortsFound : Names → List Port → ℕ → Type 0
PortsFound names [] n = ⊤
PortsFound names (p ∷ ps) n = (find names p.name.name ≡ Some (port_use p n)) × PortsFound names ps (suc n)

find-behind : (front more : Names) (name : List ℕ) → is_listed front name ≡ false
    → find (front ++ more) name ≡ find more name
find-behind [] more name none = refl
find-behind (k ∷ ks) more name none = by (same_name k.name name) none (λ later. find-behind ks more name later)
  where
    by : (same : Bool) → (same || is_listed ks name) ≡ false
        → (is_listed ks name ≡ false → find (ks ++ more) name ≡ find more name)
        → (if same then Some k.use_of else find (ks ++ more) name) ≡ find more name
    by true none later = cc
    by false none later = later none

unlisted-push : (front : Names) (k : Known) (name : List ℕ) → is_listed front name ≡ false
    → same_name k.name name ≡ false → is_listed (front ++ k ∷ []) name ≡ false
unlisted-push [] k name none other = ap (λ b. b || false) other
unlisted-push (x ∷ xs) k name none other = by (same_name x.name name) none (λ later. unlisted-push xs k name later other)
  where
    by : (same : Bool) → (same || is_listed xs name) ≡ false
        → (is_listed xs name ≡ false → is_listed (xs ++ k ∷ []) name ≡ false)
        → (same || is_listed (xs ++ k ∷ []) name) ≡ false
    by true none later = cc
    by false none later = later none

abbrev Unlisted : Names → List Port → Type 0
Unlisted front ports = Every (λ (q : Port). is_listed front q.name.name ≡ false) ports

unlisted-all : (front : Names) (k : Known) (ports : List Port) → Unlisted front ports
    → Every (λ (q : Port). same_name k.name q.name.name ≡ false) ports → Unlisted (front ++ k ∷ []) ports
unlisted-all front k [] none other = tt
unlisted-all front k (q ∷ qs) none other = (unlisted-push front k q.name.name none.0 other.0, unlisted-all front k qs none.1 other.1)

pub ports-found : (front : Names) (ports : List Port) (n : ℕ) (rest : Names) → Unlisted front ports → PortsApart ports
    → PortsFound ((front ++ port_knowns ports n) ++ rest) ports n
ports-found front [] n rest none apart = tt
ports-found front (p ∷ ps) n rest none apart =
    let k : Known = known p.name.name (port_use p n) in
    let later = port_knowns ps (suc n) in
    let moved : ((front ++ k ∷ []) ++ later) ++ rest ≡ (front ++ k ∷ later) ++ rest = ap (λ xs. xs ++ rest) (append_assoc front (k ∷ []) later) in (
      ap (λ xs. find xs p.name.name) (append_assoc front (k ∷ later) rest) ∙ find-behind front (k ∷ later ++ rest) p.name.name none.0
          ∙ ap (λ b. if b then Some k.use_of else find (later ++ rest) p.name.name) (same-itself p.name.name),
      subst (λ xs. PortsFound xs ps (suc n)) moved (ports-found (front ++ k ∷ []) ps (suc n) rest (unlisted-all front k ps none.1 apart.0) apart.1),
    )

-- ---- a port is no parameter
unlisted-append : (xs ys : Names) (name : List ℕ) → is_listed xs name ≡ false → is_listed ys name ≡ false
    → is_listed (xs ++ ys) name ≡ false
unlisted-append [] ys name one other = other
unlisted-append (x ∷ xs) ys name one other = by (same_name x.name name) one (λ later. unlisted-append xs ys name later other)
  where
    by : (same : Bool) → (same || is_listed xs name) ≡ false
        → (is_listed xs name ≡ false → is_listed (xs ++ ys) name ≡ false)
        → (same || is_listed (xs ++ ys) name) ≡ false
    by true none later = cc
    by false none later = later none

fixed-unlisted : (entries : List Entry) (e : Entry) (name : List ℕ) (s : Declared) → FoundSo entries e
    → declared.find name entries ≡ Some (signal s)
    → is_listed (fixed e.name.name e.standing) name ≡ false
fixed-unlisted entries e name s found is = by e.standing found
  where
    other : (x : Standing) → declared.find e.name.name entries ≡ Some x → (same : Bool)
        → same_name e.name.name name ≡ same → (x ≡ signal s → ⊥) → (same || false) ≡ false
    other x at true same apart = absurd (apart (Some-same (sym at ∙ ap (λ n. declared.find n entries) (same-equal e.name.name name same) ∙ is)))
    other x at false same apart = refl

    by : (x : Standing) → declared.find e.name.name entries ≡ Some x → is_listed (fixed e.name.name x) name ≡ false
    by (constant value b) at = other (constant value b) at (same_name e.name.name name) refl (λ e. cc)
    by genvar at = other genvar at (same_name e.name.name name) refl (λ e. cc)
    by (signal x) at = refl
    by (array x r) at = refl
    by integer at = refl

fixed_all-unlisted : (entries es : List Entry) (name : List ℕ) (s : Declared) → Every (FoundSo entries) es
    → declared.find name entries ≡ Some (signal s)
    → is_listed (fixed_all es) name ≡ false
fixed_all-unlisted entries [] name s found is = refl
fixed_all-unlisted entries (e ∷ es) name s found is =
    unlisted-append (fixed e.name.name e.standing) (fixed_all es) name (fixed-unlisted entries e name s found.0 is) (fixed_all-unlisted entries es name s found.1 is)

pub ports-unlisted : (entries : List Entry) (ports : List Port) → Every (FoundSo entries) entries
    → Every (λ (p : Port). declared.find p.name.name entries ≡ Some (signal p.signal)) ports
    → Every (λ (q : Port). is_listed (fixed_all entries) q.name.name ≡ false) ports
ports-unlisted entries [] found are = tt
ports-unlisted entries (p ∷ ps) found are = (fixed_all-unlisted entries entries p.name.name p.signal found are.0, ports-unlisted entries ps found are.1)

-- ---- the ports are among the names
listed-later : (xs ys : Names) (name : List ℕ) → is_listed ys name ≡ true → is_listed (xs ++ ys) name ≡ true
listed-later [] ys name listed = listed
listed-later (x ∷ xs) ys name listed = by (same_name x.name name) (listed-later xs ys name listed)
  where
    by : (same : Bool) → is_listed (xs ++ ys) name ≡ true → (same || is_listed (xs ++ ys) name) ≡ true
    by true later = refl
    by false later = later

knowns-listed : (ports : List Port) (n : ℕ) (name : List ℕ) → is_among name (map (λ p. p.name.name) ports) ≡ true
    → is_listed (port_knowns ports n) name ≡ true
knowns-listed [] n name among = absurd (false≢true among)
knowns-listed (p ∷ ps) n name among = by (same_name name p.name.name) refl among (λ later. knowns-listed ps (suc n) name later)
  where
    by : (same : Bool) → same_name name p.name.name ≡ same → (same || is_among name (map (λ q. q.name.name) ps)) ≡ true
        → (is_among name (map (λ q. q.name.name) ps) ≡ true → is_listed (port_knowns ps (suc n)) name ≡ true)
        → (same_name p.name.name name || is_listed (port_knowns ps (suc n)) name) ≡ true
    by true same among later =
        subst (λ m. (same_name p.name.name m || is_listed (port_knowns ps (suc n)) m) ≡ true) (sym (same-equal name p.name.name same))
        (ap (λ b. b || is_listed (port_knowns ps (suc n)) p.name.name) (same-itself p.name.name))
    by false same among later = or (same_name p.name.name name) (later among)
      where
        or : (b : Bool) → is_listed (port_knowns ps (suc n)) name ≡ true
            → (b || is_listed (port_knowns ps (suc n)) name) ≡ true
        or true listed = refl
        or false listed = listed

pub ports-listed : (front : Names) (ports : List Port) (n : ℕ) (name : List ℕ)
    → is_among name (map (λ p. p.name.name) ports) ≡ true
    → is_listed (front ++ port_knowns ports n) name ≡ true
ports-listed front ports n name among = listed-later front (port_knowns ports n) name (knowns-listed ports n name among)

pub each-among : (ports : List Port)
    → Every (λ (p : Port). is_among p.name.name (map (λ q. q.name.name) ports) ≡ true) ports
each-among ports = by ports ports (λ name among. among)
  where
    by : (ps all : List Port)
        → ((name : List ℕ) → is_among name (map (λ q. q.name.name) ps) ≡ true → is_among name (map (λ q. q.name.name) all) ≡ true)
        → Every (λ (p : Port). is_among p.name.name (map (λ q. q.name.name) all) ≡ true) ps
    by [] all among = tt
    by (p ∷ ps) all among = (
      among p.name.name (ap (λ b. b || is_among p.name.name (map (λ q. q.name.name) ps)) (same-itself p.name.name)),
      by ps all (λ name later. among name (or (same_name name p.name.name) (is_among name (map (λ q. q.name.name) ps)) later)),
    )
      where
        or : (b c : Bool) → c ≡ true → (b || c) ≡ true
        or true c is = refl
        or false c is = is

-- ---- sockets
-- they have the next numbers
abbrev pub CountUp : List Socket → ℕ → Type 0
CountUp [] n = ⊤
CountUp (p ∷ ps) n = (p.signal ≡ n) × CountUp ps (suc n)

-- an input is a signal of that kind
abbrev pub IsInput : List Signal → Socket → Type 0
IsInput signals p = p.input ≡ true → input_fits signals p.signal ≡ true

pub record SocketsAre (w : Final) (ports : List Socket) (n : ℕ) : Type 0 where
  pub fit : Every (SocketFits w.signals) ports
  pub count : CountUp ports n

pub sockets-are : (w : Final) (top : Bool) (names : Names) (ports : List Port) (n : ℕ) → PortsStand ports
    → PortsThere w top ports n → PortsFound names ports n
    → SocketsAre w (map (socket names) ports) n
sockets-are w top names [] n stand there found = record { fit = tt; count = tt }
sockets-are w top names (p ∷ ps) n stand there found =
    let more = sockets-are w top names ps (suc n) stand.1 there.1 found.1 in
    let number : (socket names p).signal ≡ n = ap number_of found.0 in
    let one = number-there w n (record { signal = signal_of there.0.path (kind_of top p.signal) p.signal.signed (bounds_of p.signal); home = there.0.home; span = there.0.span }) there.0.at in
    record {
      fit = (
        record {
          left = (bounds_of p.signal).left;
          right = (bounds_of p.signal).right;
          there = subst (IsThere w.signals (width (bounds_of p.signal)) (bounds_of p.signal).left (bounds_of p.signal).right) (sym number) one;
          least = stand.0.least;
          most = stand.0.most;
        },
        more.fit,
      );
      count = (number, more.count);
    }

input-kind : (s : Declared) → is_input s.direction ≡ true → is_input_kind (kind_of true s) ≡ true
input-kind s input = by (is_input s.direction) input
  where
    by : (b : Bool) → b ≡ true → is_input_kind (if b then kind.Input else kind_in s.kind) ≡ true
    by true is = refl
    by false is = cc

pub inputs-are : (w : Final) (names : Names) (ports : List Port) (n : ℕ) → PortsThere w true ports n
    → PortsFound names ports n → Every (IsInput w.signals) (map (socket names) ports)
inputs-are w names [] n there found = tt
inputs-are w names (p ∷ ps) n there found = (first, inputs-are w names ps (suc n) there.1 found.1)
  where
    first : IsInput w.signals (socket names p)
    first input =
        let of : Numbered = record { signal = signal_of there.0.path (kind_of true p.signal) p.signal.signed (bounds_of p.signal); home = there.0.home; span = there.0.span } in
        let same = w.same n of there.0.at in
        let number : (socket names p).signal ≡ n = ap number_of found.0 in
        subst (λ m. input_fits w.signals m ≡ true) (sym number)
        (ap (λ o. option_map_or (λ (s : Signal). is_input_kind s.kind) o false) same.is ∙ ap is_input_kind same.kind ∙ input-kind p.signal input)
