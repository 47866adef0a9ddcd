-- Ports have names of their own, and each is declared as a signal with a direction.
use Rattle.std.proofs.Common.{◌≡◌, ℕ, Bool, true, false, List, [], ◌∷◌, ◌++◌, Option, Some, None, refl, sym, subst}
use Rattle.std.specs.Prelude.{⊤, ◌||◌, if◌then◌else◌, is_some, map, Ok, Err}
use Rattle.std.specs.List.{list_any}
use Rattle.std.proofs.lemmas.Bool.{true≢false}
use Rattle.v_syntax.specs.declared.site.Site.{Site}
use Rattle.v_syntax.specs.declared.declaration.Identifier.{Identifier}
use Rattle.v_syntax.specs.declared.item.Direction.{Direction}
use Rattle.v_syntax.specs.declared.item.NetKind.{NetKind}
use Rattle.v_syntax.specs.PartTree.{PlainRange}
use Rattle.v_syntax.specs.Tree.{Tree}
use Rattle.v_syntax.specs.ModuleTree.{PlainPort, declared_port, same_port, declared_ports}
use Rattle.v_hierarchy.specs.declared.error.ElabErr.TheVariants as fault
use Rattle.v_hierarchy.specs.declared.signal.Signal.{Signal}
use Rattle.v_hierarchy.specs.Steps.{each}
use Rattle.v_hierarchy.specs.Constants.{bounds_if}
use Rattle.v_hierarchy.specs.Names.{Entry, signal, same_name, declared, look_in}
use Rattle.v_hierarchy.specs.Headers.{Porting, port_at, port_name, nothing_before, named_port}
use Rattle.bind_laws.specs.Every.{Every}
use Rattle.bind_laws.specs.Written.{has_words}
use Rattle.bind_laws.proofs.Steps.{Ok-same, between, ended, Err-Ok}
use Rattle.bind_laws.proofs.Grown.{IsPort, Declares, declared-does, port-declared, port-once, same-declares, then-declares, same-name, other-name}
use Rattle.bind_laws.proofs.Declaring.{every-weaker}

-- a name in the list of ports
abbrev pub Named : Type 0
Named = Identifier × Option Tree

abbrev pub name_in : Named → List ℕ
name_in p = p.0.name

-- no two have one name
abbrev pub Distinct : List Named → Type 0
Distinct [] = ⊤
Distinct (p ∷ ps) = Every (λ q. same_name (name_in p) (name_in q) ≡ false) ps × Distinct ps

-- ---- ports that the header declares
pub record PortsMade (ps : List Named) (es after : List Entry) : Type 0 where
  pub does : Declares es after
  pub found : Every (λ p. IsPort after (name_in p)) ps
  pub new : Every (λ p. IsPort es (name_in p) → ⊥) ps
  pub distinct : Distinct ps

-- one port, and those behind it
one-port : (name : Identifier) (value : Option Tree) (s : Signal) (ps : List Named) (es more after : List Entry) → is_some s.direction ≡ true
    → declared (record { name = name; standing = signal s }) es ≡ Ok more → PortsMade ps more after → PortsMade ((name, value) ∷ ps) es after
one-port name value s ps es more after directed is rest =
    let does = declared-does (record { name = name; standing = signal s }) es more is in
    let port = port-declared name s es more directed is in
    record {
      does = then-declares does rest.does;
      found = (rest.does.grows.ports name.name port, rest.found);
      new = (λ old. port-once name s es more directed old is, every-weaker (λ p. IsPort more (name_in p) → ⊥) (λ p. IsPort es (name_in p) → ⊥) (λ p apart old. apart (does.grows.ports (name_in p) old)) ps rest.new);
      distinct = (every-weaker (λ p. IsPort more (name_in p) → ⊥) (λ q. same_name name.name (name_in q) ≡ false) (λ q apart. other q apart (same_name name.name (name_in q)) refl) ps rest.new, rest.distinct);
    }
  where
    other : (q : Named) → (IsPort more (name_in q) → ⊥) → (same : Bool) → same_name name.name (name_in q) ≡ same → same ≡ false
    other q apart false e = refl
    other q apart true e = absurd (apart (subst (IsPort more) (same-name name.name (name_in q) e) (port-declared name s es more directed is)))

-- what is made of the ports behind one, from what is met there on
abbrev Behind : List PlainPort → Porting → Type 0
Behind ps after = (next : Porting) → is_some next.before.direction ≡ true → each port_at ps next ≡ Ok after → PortsMade (map named_port ps) next.names after.names

-- one with words of its own, and those behind it
declared-made : (s : Site) (direction : Direction) (kind : Option NetKind) (signed : Bool) (range : Option PlainRange) (name : Identifier) (value : Option Tree)
    (ps : List PlainPort) (met after : Porting) → Behind ps after → each port_at (declared_port s direction kind signed range name value ∷ ps) met ≡ Ok after
    → PortsMade ((name, value) ∷ map named_port ps) met.names after.names
declared-made s direction kind signed range name value ps met after behind is =
    let goal = PortsMade ((name, value) ∷ map named_port ps) met.names after.names in
    between (port_at (declared_port s direction kind signed range name value) met) (each port_at ps) after goal is λ next first rest.
    between (bounds_if (look_in (met.names ∷ [])) range) _ next goal first λ b _ first.
    let own : Signal = record { direction = Some direction; kind = kind; signed = signed; bounds = b } in
    between (declared (record { name = name; standing = signal own }) met.names) (λ more. Ok (record { before = own; names = more })) next goal first λ more second last.
    one-port name value own (map named_port ps) met.names more after.names refl second
    (behind (record { before = own; names = more }) refl (subst (λ p. each port_at ps p ≡ Ok after) (sym (Ok-same last)) rest))

ports-made : (ps : List PlainPort) (met after : Porting) → is_some met.before.direction ≡ true → each port_at ps met ≡ Ok after
    → PortsMade (map named_port ps) met.names after.names
ports-made [] met after directed is =
    ended (λ (p : Porting). PortsMade [] met.names p.names) met after is (record { does = same-declares met.names; found = tt; new = tt; distinct = tt })
ports-made (declared_port s direction kind signed range name value ∷ ps) met after directed is =
    declared-made s direction kind signed range name value ps met after (λ next d e. ports-made ps next after d e) is
ports-made (same_port s name value ∷ ps) met after directed is =
    let goal = PortsMade ((name, value) ∷ map named_port ps) met.names after.names in
    between (port_at (same_port s name value) met) (each port_at ps) after goal is λ next first rest.
    between (declared (record { name = name; standing = signal met.before }) met.names) (λ more. Ok (record { before = met.before; names = more })) next goal first λ more second last.
    one-port name value met.before (map named_port ps) met.names more after.names directed second
    (ports-made ps (record { before = met.before; names = more }) after directed (subst (λ p. each port_at ps p ≡ Ok after) (sym (Ok-same last)) rest))

-- ---- ports that the header names
abbrev pub among : List (List ℕ) → List ℕ → Bool
among names name = list_any (same_name name) names

pub record NamesMade (directed seen : List (List ℕ)) (xs : List Identifier) : Type 0 where
  pub found : Every (λ (x : Identifier). among directed x.name ≡ true) xs
  pub new : Every (λ (x : Identifier). among seen x.name ≡ false) xs
  pub distinct : Distinct (map (λ x. (x, None)) xs)

among-push : (seen : List (List ℕ)) (own x : List ℕ) → among (seen ++ own ∷ []) x ≡ false → (among seen x ≡ false) × (same_name x own ≡ false)
among-push [] own x is = (refl, by (same_name x own) is)
  where
    by : (same : Bool) → (same || false) ≡ false → same ≡ false
    by false e = refl
    by true e = e
among-push (s ∷ seen) own x is = by (same_name x s) (among-push seen own x) is
  where
    by : (same : Bool) → (among (seen ++ own ∷ []) x ≡ false → (among seen x ≡ false) × (same_name x own ≡ false))
        → (same || among (seen ++ own ∷ []) x) ≡ false → ((same || among seen x) ≡ false) × (same_name x own ≡ false)
    by true rest e = absurd (true≢false e)
    by false rest e = rest e

pub names-made : (directed : List (List ℕ)) (xs : List Identifier) (seen out : List (List ℕ)) → each (port_name directed) xs seen ≡ Ok out → NamesMade directed seen xs
names-made directed [] seen out is = record { found = tt; new = tt; distinct = tt }
names-made directed (x ∷ xs) seen out is =
    between (port_name directed x seen) (each (port_name directed) xs) out (NamesMade directed seen (x ∷ xs)) is λ more first rest.
    named x xs seen more (names-made directed xs more out rest) (among seen x.name) refl (among directed x.name) refl first
  where
    pushed : (x : Identifier) (seen : List (List ℕ)) (y : Identifier) → among (seen ++ x.name ∷ []) y.name ≡ false → same_name x.name y.name ≡ false
    pushed x seen y e = other-name y.name x.name (among-push seen x.name y.name e).1

    named : (x : Identifier) (xs : List Identifier) (seen more : List (List ℕ)) → NamesMade directed more xs → (old : Bool) → among seen x.name ≡ old → (given : Bool) → among directed x.name ≡ given
        → (if old then Err (fault.DoubleName x.site.span) else if given then Ok (seen ++ x.name ∷ []) else Err (fault.PortName x.site.span)) ≡ Ok more
        → NamesMade directed seen (x ∷ xs)
    named x xs seen more rest true was given gives is = Err-Ok is
    named x xs seen more rest false was false gives is = Err-Ok is
    named x xs seen more rest false was true gives is =
        let new : Every (λ (y : Identifier). among (seen ++ x.name ∷ []) y.name ≡ false) xs = subst (λ s. Every (λ (y : Identifier). among s y.name ≡ false) xs) (sym (Ok-same is)) rest.new in
        record {
          found = (gives, rest.found);
          new = (was, every-weaker (λ (y : Identifier). among (seen ++ x.name ∷ []) y.name ≡ false) (λ y. among seen y.name ≡ false) (λ y e. (among-push seen x.name y.name e).0) xs new);
          distinct = (apart xs (every-weaker (λ (y : Identifier). among (seen ++ x.name ∷ []) y.name ≡ false) (λ y. same_name x.name y.name ≡ false) (pushed x seen) xs new), rest.distinct);
        }
      where
        apart : (ys : List Identifier) → Every (λ (y : Identifier). same_name x.name y.name ≡ false) ys
            → Every (λ (q : Named). same_name x.name (name_in q) ≡ false) (map (λ y. (y, None)) ys)
        apart [] all = tt
        apart (y ∷ ys) all = (all.0, apart ys all.1)

-- a name among those that are ports
pub among-port : (es : List Entry) (directed : List (List ℕ)) → Every (IsPort es) directed → (q : List ℕ) → among directed q ≡ true → IsPort es q
among-port es [] all q is = absurd (true≢false (sym is))
among-port es (d ∷ ds) all q is = by (same_name q d) refl (among-port es ds all.1 q) is
  where
    by : (same : Bool) → same_name q d ≡ same → (among ds q ≡ true → IsPort es q) → (same || among ds q) ≡ true → IsPort es q
    by true e rest _ = subst (IsPort es) (sym (same-name q d e)) all.0
    by false e rest more = rest more

-- ---- the list of ports
pub record PortsHere (es : List Entry) (ps : List Named) : Type 0 where
  pub found : Every (λ p. IsPort es (name_in p)) ps
  pub distinct : Distinct ps

-- those of a header, whose first has words of its own
pub first-made : (ps : List PlainPort) (names : List Entry) (after : Porting) → has_words (declared_ports ps) ≡ true
    → each port_at ps (record { before = nothing_before; names = names }) ≡ Ok after → PortsMade (map named_port ps) names after.names
first-made [] names after words is = ended (λ (p : Porting). PortsMade [] names p.names) _ after is (record { does = same-declares names; found = tt; new = tt; distinct = tt })
first-made (same_port _ name value ∷ ps) names after words is = absurd (true≢false (sym words))
first-made (declared_port s direction kind signed range name value ∷ ps) names after words is =
    declared-made s direction kind signed range name value ps (record { before = nothing_before; names = names }) after (λ next d e. ports-made ps next after d e) is
