-- The instances of a text are as it means them.
use Rattle.std.proofs.Common.{◌≡◌, ℕ, zero, suc, true, false, List, [], ◌∷◌, ◌++◌, length, Option, Some, None, refl, sym, ◌∙◌, ap, subst}
use Rattle.std.specs.Prelude.{map, Result, Ok, Err}
use Rattle.std.specs.List.{list_any}
use Rattle.v_syntax.specs.declared.declaration.Identifier.{Identifier}
use Rattle.v_syntax.specs.ItemTree.{items_of}
use Rattle.v_syntax.specs.ModuleTree.{PlainPorts, no_ports, name_ports, declared_ports, PlainHeaderParameter, PlainModule}
use Rattle.v_hierarchy.specs.declared.error.ElabErr.{ElabErr}
use Rattle.v_hierarchy.specs.declared.error.ElabErr.TheVariants as fault
use Rattle.v_hierarchy.specs.declared.left.Left.{Left}
use Rattle.v_hierarchy.specs.Steps.{◌>>=◌, each}
use Rattle.v_hierarchy.specs.Names.{Entry, signal, same_name, find}
use Rattle.v_hierarchy.specs.Parameters.{Given, given, Heading, heading_kind, header_parameter, header_parameters, parameter}
use Rattle.v_hierarchy.specs.Headers.{Port, Porting, port_at, port_name, nothing_before, port_names_fit, directed_in_all, header_ports, ports_named, signal_of}
use Rattle.v_hierarchy.specs.Items.{Child, Met, begins, module_named}
use Rattle.v_hierarchy.specs.Instances.{Instance, place_of, contents, instance, children, Found, with_instance, walked, unit_name, top_of, most_left, top_child, instances}
use Rattle.bind_laws.specs.Every.{Every}
use Rattle.bind_laws.specs.OfText.{AreApart, PortsApart, InstanceOf, IsFirst, OfText}
use Rattle.bind_laws.specs.Written.{WrittenModule, has_words}
use Rattle.bind_laws.proofs.Steps.{Ok-same, Err-Ok, between, ended, each-keeps}
use Rattle.bind_laws.proofs.Whole.{ports_over}
use Rattle.bind_laws.proofs.Grown.{IsPort, Grows, Declares}
use Rattle.bind_laws.proofs.Declaring.{every-weaker, every-append, parameter-does}
use Rattle.bind_laws.proofs.OfItems.{AreWritten, ChildOf, Good, items-run, module-written}
use Rattle.bind_laws.proofs.OfHeaders.{Named, name_in, Distinct, first-made, names-made, among-port, PortsHere}

-- ---- headers
header-does : (values : List Given) (p : PlainHeaderParameter) (h after : Heading) → header_parameter values p h ≡ Ok after → Declares h.names after.names
header-does values p h after is =
    between (heading_kind p h) _ after (Declares h.names after.names) is λ kind _ is.
    between (parameter [] kind (given values p.name.name) p.name p.value h.names) _ after (Declares h.names after.names) is λ names second is.
    ended (λ (x : Heading). Declares h.names x.names) (record { kind = kind; names = names }) after is
    (parameter-does [] kind (given values p.name.name) p.name p.value h.names names second)

parameters-apart : (values : List Given) (ps : List PlainHeaderParameter) (names : List Entry) → header_parameters values ps ≡ Ok names → AreApart names
parameters-apart values ps names is =
    between (each (header_parameter values) ps _) (λ met. Ok met.names) names (AreApart names) is λ met first is.
    ended AreApart met.names names is
    (each-keeps (λ (h : Heading). AreApart h.names) (header_parameter values) (λ p a b apart e. (header-does values p a b e).apart apart) ps _ met tt first)

-- the names behind a header: each once; and the ports, once the items have declared theirs
record Headed (m : PlainModule) (names : List Entry) : Type 0 where
  apart : AreApart names
  ports : (after : List Entry) → Grows names after → Every (IsPort after) (directed_in_all (items_of m.items)) → PortsHere after (ports_named m.ports)

names-headed : (m : PlainModule) (list : List Identifier) (names : List Entry) → AreApart names → (out : List (List ℕ)) → each (port_name (directed_in_all (items_of m.items))) list [] ≡ Ok out
    → (after : List Entry) → Every (IsPort after) (directed_in_all (items_of m.items)) → PortsHere after (map (λ (name : Identifier). (name, None)) list)
names-headed m list names apart out is after directed =
    let made = names-made (directed_in_all (items_of m.items)) list [] out is in
    record { found = ports list made.found; distinct = made.distinct }
  where
    ports : (xs : List Identifier) → Every (λ (x : Identifier). list_any (same_name x.name) (directed_in_all (items_of m.items)) ≡ true) xs
        → Every (λ p. IsPort after (name_in p)) (map (λ (name : Identifier). (name, None)) xs)
    ports [] all = tt
    ports (x ∷ xs) all = (among-port after (directed_in_all (items_of m.items)) directed x.name all.0, ports xs all.1)

headed : (m : PlainModule) (ports : PlainPorts) → m.ports ≡ ports → has_words ports ≡ true → (names after : List Entry) → AreApart names → ports_over m ports names ≡ Ok after → Headed m after
headed m no_ports here words names after apart is =
    ended (Headed m) names after is (record { apart = apart; ports = λ more grows directed. subst (λ p. PortsHere more (ports_named p)) (sym here) (record { found = tt; distinct = tt }) })
headed m (name_ports list) here words names after apart is =
    between (port_names_fit (directed_in_all (items_of m.items)) list) (λ _. Ok names) after (Headed m after) is λ u first is.
    between (each (port_name (directed_in_all (items_of m.items))) list []) (λ _. Ok tt) u (Headed m after) first λ out second _.
    ended (Headed m) names after is
    (record { apart = apart; ports = λ more grows directed. subst (λ p. PortsHere more (ports_named p)) (sym here) (names-headed m list names apart out second more directed) })
headed m (declared_ports list) here words names after apart is =
    let none : Porting = record { before = nothing_before; names = names } in
    between (each port_at list none) (λ met. Ok met.names) after (Headed m after) is λ met first is.
    let made = first-made list names met words first in
    ended (Headed m) met.names after is
    (record {
      apart = made.does.apart apart;
      ports = λ more grows directed. subst (λ p. PortsHere more (ports_named p)) (sym here)
          (record { found = every-weaker (λ p. IsPort met.names (name_in p)) (λ p. IsPort more (name_in p)) (λ p one. grows.ports (name_in p) one) (ports_named (declared_ports list)) made.found; distinct = made.distinct });
    })

-- ---- an instance
record Contained (m : PlainModule) (met : Met) : Type 0 where
  good : Good met
  ports : PortsHere met.names (ports_named m.ports)

contents-good : (units : List PlainModule) → AreWritten units → (levels : ℕ) (c : Child) (left : Left) (met : Met) → WrittenModule c.«module» → contents units levels c left ≡ Ok met → Contained c.«module» met
contents-good units all_units levels c left met as_written is =
    between (header_parameters c.values c.«module».parameters >>= header_ports c.«module») _ met (Contained c.«module» met) is λ names both is.
    between (header_parameters c.values c.«module».parameters) (header_ports c.«module») names (Contained c.«module» met) both λ own first second.
    let header = headed c.«module» c.«module».ports refl as_written.ports own names (parameters-apart c.values c.«module».parameters own first) second in
    let run = items-run (place_of units levels c) (items_of c.«module».items) (begins names left) met all_units as_written.items (record { apart = header.apart; copies = tt; kids = tt }) is in
    record { good = run.goes.good; ports = header.ports met.names run.goes.grows run.ports }

abbrev port_with : List Entry → Named → Port
port_with es p = record { name = p.0; signal = signal_of (find p.0.name es); start = p.1 }

ports-apart : (es : List Entry) (ps : List Named) → Distinct ps → PortsApart (map (port_with es) ps)
ports-apart es [] all = tt
ports-apart es (p ∷ ps) all = (others ps all.0, ports-apart es ps all.1)
  where
    others : (qs : List Named) → Every (λ q. same_name (name_in p) (name_in q) ≡ false) qs → Every (λ (q : Port). same_name p.0.name q.name.name ≡ false) (map (port_with es) qs)
    others [] all = tt
    others (q ∷ qs) all = (all.0, others qs all.1)

ports-found : (es : List Entry) (ps : List Named) → Every (λ p. IsPort es (name_in p)) ps → Every (λ (p : Port). find p.name.name es ≡ Some (signal p.signal)) (map (port_with es) ps)
ports-found es [] all = tt
ports-found es (p ∷ ps) all = (all.0.is ∙ ap (λ o. Some (signal (signal_of o))) (sym all.0.is), ports-found es ps all.1)

instance-of : (c : Child) (parent : Option ℕ) (met : Met) → Contained c.«module» met → InstanceOf (instance c parent met)
instance-of c parent met all =
    ((all.good.apart, all.good.copies), ports-apart met.names (ports_named c.«module».ports) all.ports.distinct, ports-found met.names (ports_named c.«module».ports) all.ports.found)

-- ---- the walk
-- steps over elements of which something holds
each-keep-all : {A S : Type 0} (Pre : A → Type 0) (P : S → Type 0) (step : A → S → Result S ElabErr) → ((x : A) (m n : S) → Pre x → P m → step x m ≡ Ok n → P n)
    → (xs : List A) (m n : S) → Every Pre xs → P m → each step xs m ≡ Ok n → P n
each-keep-all Pre P step keeps [] m n pre holds is = ended P m n is holds
each-keep-all Pre P step keeps (x ∷ xs) m n pre holds is =
    between (step x m) (each step xs) n (P n) is λ p first rest. each-keep-all Pre P step keeps xs p n pre.1 (keeps x m p pre.0 holds first) rest

walked-of : (units : List PlainModule) → AreWritten units → (levels : ℕ) (parent : Option ℕ) (c : Child) (found after : Found) → ChildOf c
    → Every InstanceOf found.list → walked units levels parent c found ≡ Ok after → Every InstanceOf after.list
walked-of units all_units zero parent c found after kid all is =
    between (contents units 0 c found.left) _ after (Every InstanceOf after.list) is λ met first is.
    ended (λ (f : Found). Every InstanceOf f.list) (with_instance c parent met found) after is
    (every-append InstanceOf found.list (instance c parent met ∷ []) all (instance-of c parent met (contents-good units all_units 0 c found.left met kid first), tt))
walked-of units all_units (suc levels) parent c found after kid all is =
    between (contents units (suc levels) c found.left) _ after (Every InstanceOf after.list) is λ met first is.
    let own = contents-good units all_units (suc levels) c found.left met kid first in
    each-keep-all ChildOf (λ (f : Found). Every InstanceOf f.list) (walked units levels (Some (length found.list)))
    (λ d m n own all e. walked-of units all_units levels (Some (length found.list)) d m n own all e)
    (children met.copies) (with_instance c parent met found) after own.good.kids
    (every-append InstanceOf found.list (instance c parent met ∷ []) all (instance-of c parent met own, tt)) is

-- the first stays the first
record Begins (i : Instance) (list : List Instance) : Type 0 where
  rest : List Instance
  is : list ≡ i ∷ rest

begins-push : (i : Instance) (list : List Instance) (x : Instance) → Begins i list → Begins i (list ++ x ∷ [])
begins-push i list x first = record { rest = first.rest ++ x ∷ []; is = ap (λ l. l ++ x ∷ []) first.is }

walked-begins : (i : Instance) (units : List PlainModule) (levels : ℕ) (parent : Option ℕ) (c : Child) (found after : Found) → Begins i found.list
    → walked units levels parent c found ≡ Ok after → Begins i after.list
walked-begins i units zero parent c found after first is =
    between (contents units 0 c found.left) _ after (Begins i after.list) is λ met _ is.
    ended (λ (f : Found). Begins i f.list) (with_instance c parent met found) after is (begins-push i found.list (instance c parent met) first)
walked-begins i units (suc levels) parent c found after first is =
    between (contents units (suc levels) c found.left) _ after (Begins i after.list) is λ met _ is.
    each-keeps (λ (f : Found). Begins i f.list) (walked units levels (Some (length found.list)))
    (λ d m n own e. walked-begins i units levels (Some (length found.list)) d m n own e)
    (children met.copies) (with_instance c parent met found) after (begins-push i found.list (instance c parent met) first) is

first-of : (i : Instance) (list : List Instance) → i.parent ≡ None → Begins i list → IsFirst list
first-of i list none first = subst IsFirst (sym first.is) none

abbrev no-instance : Found
no-instance = record { list = []; left = most_left }

top-first : (units : List PlainModule) (levels : ℕ) (m : PlainModule) (after : Found) → walked units (suc levels) None (top_child m) no-instance ≡ Ok after → IsFirst after.list
top-first units levels m after is =
    between (contents units (suc levels) (top_child m) most_left) _ after (IsFirst after.list) is λ met _ is.
    let i = instance (top_child m) None met in
    first-of i after.list refl
    (each-keeps (λ (f : Found). Begins i f.list) (walked units levels (Some 0)) (λ d a b own e. walked-begins i units levels (Some 0) d a b own e)
    (children met.copies) (with_instance (top_child m) None met no-instance) after (record { rest = []; is = refl }) is)

pub instances-of : (units : List PlainModule) (name : List ℕ) (list : List Instance) → AreWritten units → instances units name ≡ Ok list → OfText list
instances-of units name list all_units is =
    between (top_of units name) _ list (OfText list) is λ m known is.
    between (each unit_name units []) _ list (OfText list) is λ _ _ is.
    between (walked units 64 None (top_child m) no-instance) (λ found. Ok found.list) list (OfText list) is λ found first is.
    ended OfText found.list list is
    (record { first = top-first units 63 m found first; each = walked-of units all_units 64 None (top_child m) no-instance found (top-written units name m all_units known) tt first })
  where
    top-written : (units : List PlainModule) (name : List ℕ) (m : PlainModule) → AreWritten units → top_of units name ≡ Ok m → WrittenModule m
    top-written units name m all = by (module_named name units) refl
      where
        by : (o : Option PlainModule) → module_named name units ≡ o → ◌≡◌ {A = Result PlainModule ElabErr} (elim o [ Some m ↦ Ok m | None ↦ Err fault.NoTop ]) (Ok m) → WrittenModule m
        by (Some u) found e = module-written name units m all (found ∙ ap Some (Ok-same e))
        by None found e = Err-Ok e
