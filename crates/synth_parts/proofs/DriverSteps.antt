-- Steps of the loop over the drivers of an order, and what fits in a driver as code makes it.
use Rattle.std.proofs.Common.{Result, Ok, Err, ◌≡◌, ℕ, ◌+◌, ◌<◌, ◌≤◌, Bool, true, zero, suc, List, [], ◌∷◌, length, get_or, drop, refl, sym, ◌∙◌, ap, arith, drop-cons, add-one}
use Rattle.std.specs.Prelude.{IsTrue, OnOk, Option, Some}
use Rattle.std.specs.Option.{option_map_or}
use Rattle.std.specs.List.{list_all}
use Rattle.std.proofs.lemmas.Bool.{and_parts}
use Rattle.std.proofs.lemmas.List.{drop_all}
use Rattle.std.proofs.lemmas.Option.{slice_get-get_or}
use Rattle.loc_base.specs.declared.memory.NoMemory.{NoMemory}
use Rattle.loc_base.specs.declared.span.Span.{Span}
use Rattle.design_core.specs.declared.signal.Signal.{Signal}
use Rattle.design_core.specs.declared.expression.Typed.{Typed}
use Rattle.design_core.specs.declared.statement.Stmt.{Stmt}
use Rattle.design_core.specs.declared.statement.Target.{Target}
use Rattle.design_core.specs.declared.driver.Driver.{Driver}
use Rattle.design_core.specs.declared.driver.Driver.TheVariants as driver
use Rattle.design_core.specs.Store.{parts_width}
use Rattle.design_core.specs.WellFormed.{assignment_fits, place_fits, driver_fits}
use Rattle.word_net.specs.declared.node.WordNode.{WordNode}
use Rattle.synth_parts.specs.Store.{Nodes, nodes_made}
use Rattle.synth_parts.specs.Driver.{driver_made, driver_at_made, drivers_made}
use Rattle.synth_parts.specs.Statement.{Maps, maps, statement_made}
use Rattle.synth_parts.specs.Arms.{StatementFits, DriverFits, DriversFit, continuous_made}

-- ---- one driver

pub made_cont : (signals : List Signal) (nodes : List WordNode) (nodes_of : List ℕ) (target : Target) (computed : Typed) (place : Option ℕ) (span : Span)
    → driver_made signals nodes nodes_of (driver.Cont target computed place span) ≡ continuous_made signals nodes nodes_of target.parts computed place
unfolding driver_made continuous_made
made_cont signals nodes nodes_of target computed place span = refl

pub made_comb : (signals : List Signal) (nodes after : List WordNode) (nodes_of current later : List ℕ) (body : Stmt) (span : Span) → maps after current later ≡ statement_made signals (maps nodes nodes_of nodes_of) body
    → nodes_made after current ≡ driver_made signals nodes nodes_of (driver.Comb body span)
unfolding driver_made
made_comb signals nodes after nodes_of current later body span is = ap (λ (m : Maps). nodes_made m.nodes m.now) is

-- the same where the statement may have found no memory
pub comb_made : (r : Result (Unit {0}) NoMemory) (signals : List Signal) (nodes after : List WordNode) (now past current later : List ℕ) (body : Stmt) (span : Span) (d : Driver) → d ≡ driver.Comb body span → past ≡ now
    → OnOk r (maps after current later ≡ statement_made signals (maps nodes now past) body) → OnOk r (nodes_made after current ≡ driver_made signals nodes now d)
comb_made (Ok v) signals nodes after now past current later body span d is same made =
    made_comb signals nodes after now current later body span (made ∙ ap (λ p. statement_made signals (maps nodes now p) body) same) ∙ ap (driver_made signals nodes now) (sym is)
comb_made (Err e) signals nodes after now past current later body span d is same made = made

pub cont-fits : (signals : List Signal) (target : Target) (computed : Typed) (place : Option ℕ) (span : Span) → DriverFits signals (driver.Cont target computed place span)
    → IsTrue (assignment_fits signals target.parts computed)
cont-fits signals target computed place span h =
    (and_parts (assignment_fits signals target.parts computed) (option_map_or (place_fits h.places (parts_width signals target.parts)) place true) h.fits).0

pub comb-fits : (signals : List Signal) (body : Stmt) (span : Span) → DriverFits signals (driver.Comb body span) → StatementFits signals body
comb-fits signals body span h = record { places = h.places; fits = h.fits }

pub ruleset driver_steps = (made_cont, made_comb, cont-fits, comb-fits)

-- ---- all of them

passes-at : {X : Type 0} (test : X → Bool) (xs : List X) (i : ℕ) (d : X) → IsTrue (list_all test xs) → i < length xs → test (get_or xs i d) ≡ true
passes-at test (x ∷ xs) zero d h within = (and_parts (test x) (list_all test xs) h).0
passes-at test (x ∷ xs) (suc i) d h within = passes-at test xs i d (and_parts (test x) (list_all test xs) h).1 (omega (arith, within))
passes-at test [] i d h within = absurd (omega (arith, within))

pub drivers-next : (signals : List Signal) (drivers : List Driver) (nodes after : List WordNode) (nodes_of each order : List ℕ) (k : ℕ) (one : Driver) → k < length order → get_or order k 0 < length drivers
    → one ≡ get_or drivers (get_or order k 0) one → nodes_made after each ≡ driver_made signals nodes nodes_of one
    → drivers_made signals drivers nodes nodes_of (drop k order) ≡ drivers_made signals drivers after each (drop (k + 1) order)
unfolding drivers_made driver_at_made
drivers-next signals drivers nodes after nodes_of each order k one within inside is m =
    let i : ℕ = get_or order k 0 in
    let rest : List ℕ = drop (k + 1) order in
    let go : Nodes → Nodes = λ n. drivers_made signals drivers n.nodes n.each rest in
    ap (drivers_made signals drivers nodes nodes_of) (drop-cons order k 0 within ∙ ap (λ j. i ∷ drop j order) (sym (add-one k)))
    ∙ ap (λ o. go (driver_at_made signals nodes nodes_of o)) (slice_get-get_or drivers i one inside ∙ ap Some (sym is))
    ∙ ap go (sym m)

pub drivers-end : (signals : List Signal) (drivers : List Driver) (nodes : List WordNode) (nodes_of order : List ℕ) (k : ℕ) → length order ≤ k
    → drivers_made signals drivers nodes nodes_of (drop k order) ≡ nodes_made nodes nodes_of
unfolding drivers_made
drivers-end signals drivers nodes nodes_of order k past = ap (drivers_made signals drivers nodes nodes_of) (drop_all k order past)

pub driver-there : (signals : List Signal) (drivers : List Driver) (i : ℕ) (one : Driver) → i < length drivers → one ≡ get_or drivers i one → DriversFit signals drivers → DriverFits signals one
driver-there signals drivers i one within is h =
    record { places = h.places; fits = ap (driver_fits signals h.places) is ∙ passes-at (driver_fits signals h.places) drivers i one h.fits within }

pub ruleset drivers_steps = (drivers-next, drivers-end, driver-there)
