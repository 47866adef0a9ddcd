-- A dump whose header is read is read to its end.
use Rattle.std.proofs.Common.{false, ◌≡◌, ℕ, ◌+◌, ◌≤◌, IsTrue, List, [], length, map, refl, sym, ◌∙◌, ap, subst, Option, Some, None, Ok, Err, Result}
use Rattle.std.specs.Prelude.{All}
use Rattle.std.specs.Result.{IsErrAnd}
use Rattle.std.specs.Borrow.{Bor}
use Rattle.std.proofs.lemmas.List.{length-map}
use Rattle.std.specs.List.{list_all}
use Rattle.std.specs.Option.{option_map}
use Rattle.std.proofs.lemmas.List.Folds.{list_all-map}
use Rattle.design_core.specs.declared.design.Design.{Design}
use Rattle.design_core.specs.declared.trace.Trace.{Trace}
use Rattle.vcd_reading.specs.declared.header as code
use Rattle.vcd_reading.specs.declared.names.Names.{Names}
use Rattle.vcd_reading.specs.declared.place.Scope.{Scope}
use Rattle.vcd_reading.specs.declared.ports as port_code
use Rattle.vcd_reading.specs.Header.{Header}
use Rattle.vcd_reading.specs.HeaderView.{variable_of}
use Rattle.vcd_reading.specs.PortView.{port_of, ports_in}
use Rattle.vcd_reading.specs.Scopes.{Port, Sought, ports_of, scope_of}
use Rattle.vcd_reading.specs.Outcomes.{IsAt, begun}
use Rattle.vcd_reading.specs.Found.{IsIndex}
use Rattle.vcd_reading.specs.Changes.{Past}
use Rattle.vcd_reading.specs.Reading.{ReadsText}
use Rattle.vcd_reading.specs.declared.error.VcdErr.{VcdErr}
use Rattle.vcd_traces.specs.declared.dump.Dump.{Dump}
use Rattle.vcd_traces.specs.declared.rows.Rows.{Rows}
use Rattle.vcd_traces.specs.declared.rows.Watched.{Watched}
use Rattle.vcd_traces.specs.declared.table.Table.{Table}
use Rattle.vcd_traces.specs.declared.reader.Reading.{Reading}
use Rattle.vcd_traces.specs.declared.reader.Plan.{Plan}
use Rattle.vcd_traces.specs.declared.sites.Site.{Site}
use Rattle.vcd_traces.specs.Samples.{Manner, Watches, sought_of, watches_of}
use Rattle.vcd_traces.specs.Table.{cell_codes, IsTable, IsTableOf}
use Rattle.vcd_traces.specs.Plan.{cell_code, watch_in, has_cell, Holds, IsPlan, IsWatched}
use Rattle.vcd_traces.specs.Going.{Going, Gone, Ends}
use Rattle.vcd_traces.specs.Dump.{dump_header, IsFront, AreFound, EndsWith, Comes}
use Rattle.vcd_traces.specs.Ports.{fits, HasPorts}
use Rattle.vcd_traces.specs.Sites.{site_port, site_fits, watches_from, IsFirst, IsSite, AreSites}
use Rattle.vcd_traces.specs.Answers.{Answers}
use Rattle.vcd_traces.proofs.PortLaws.{ports_count, ports_fit, watched_from}
use Rattle.vcd_reading.proofs.ReadSteps.{at_map}
use Rattle.vcd_traces.proofs.AnswerLaws.{refused_word, no_watches, table_none}

pub front_going : (sought : Sought) (w : Watches) (plan : Plan) (dump : Dump) (reading : Reading) → IsFront sought dump
    → Holds w (cell_codes plan.table) (begun (dump_header dump)) reading
    → Going sought w plan dump.text.now (begun (dump_header dump)) dump.front.stop reading
front_going sought w plan dump reading front holds = record {
  past = begun (dump_header dump);
  holding = (refl, holds);
  unended = front.unended;
  reads = front.reads;
}

pub gone_ends : (sought : Sought) (w : Watches) (text : List ℕ) (h : Header) (reading : Reading) → Gone sought w text (begun h) reading
    → EndsWith sought w text h reading.rows
gone_ends sought w text h reading gone = record { past = gone.past; same = gone.same; reads = gone.reads; kept = gone.rows }

-- as many cells as codes
pub counted : (table : Table) (cells : List (Bor (List ℕ))) → cells ≡ table.cells.items → length (cell_codes table) ≡ length cells
counted table cells same = length-map table.cells.items (λ (code : Bor (List ℕ)). code.now) ∙ ap length (sym same)

-- as many ports with their variables as ports, of the same widths
pub sites_count : (sites : List Site) (ports : List port_code.Port.Port) → map site_port sites ≡ ports_in ports → length sites ≡ length ports
sites_count sites ports same = sym (length-map sites site_port) ∙ ap length same ∙ length-map ports port_of

pub sites_fit : (sites : List Site) (ports : List Port) → map site_port sites ≡ ports → IsTrue (list_all fits ports) → IsTrue (list_all site_fits sites)
sites_fit sites ports same fit = sym (list_all-map fits site_port sites) ∙ ap (list_all fits) same ∙ fit

-- what is refused on the way
pub comes_err : (sought : Sought) (w : Watches) (text : List ℕ) (h : Header) (start : Past) (reading : Reading) (fault : VcdErr) (r : Result Rows VcdErr)
    → Ends sought w text start (Err fault) reading → IsErrAnd r (λ y. y ≡ fault) → Comes sought w text h r
comes_err sought w text h start reading fault (Ok rows) ends passed = absurd passed
comes_err sought w text h start reading fault (Err y) ends passed =
    let P : VcdErr → Type 0 = IsAt (λ at. ReadsText sought text (Err at)) in
    subst P (sym passed) ends

pub answers_err : (text : List ℕ) (d : Design) (by : Manner) (fault : VcdErr) (r : Result Trace VcdErr)
    → IsAt (λ at. ReadsText (sought_of d by) text (Err at)) fault → IsErrAnd r (λ y. y ≡ fault) → Answers text d by r
answers_err text d by fault (Ok trace) reads passed = absurd passed
answers_err text d by fault (Err y) reads passed =
    let P : VcdErr → Type 0 = IsAt (λ at. ReadsText (sought_of d by) text (Err at)) in
    refused_word text d by y (subst P (sym passed) reads)

-- the plan of a text of which no scope declares every port
pub plan_none : (h : Header) (sought : Sought) (table : Table) (watched : Watched) → scope_of h sought ≡ None → IsTableOf h sought [] table
    → watched.clock ≡ None → watched.inputs.items ≡ [] → watched.outputs.items ≡ [] → watched.zero_inputs ≡ false → IsPlan h sought no_watches (record { table = table; watched = watched })
plan_none h sought table watched none is clock inputs outputs zero = record {
  table = table_none h sought table none is;
  watched = record {
    clock = ap (option_map (cell_code (cell_codes table))) (sym clock);
    clock_cell = λ cell some. absurd (none_some cell (sym clock ∙ some));
    inputs = ap (map (watch_in (cell_codes table))) (sym inputs);
    outputs = ap (map (watch_in (cell_codes table))) (sym outputs);
    input_cells = ap (list_all (has_cell (cell_codes table))) inputs;
    output_cells = ap (list_all (has_cell (cell_codes table))) outputs;
    zero_inputs = sym zero;
  };
}
  where
    none_some : (cell : ℕ) → None ≡ Some cell → ⊥
    none_some cell e = cc

-- and of one whose ports have their variables
pub plan_found : (d : Design) (by : Manner) (dump : Dump) (sites : List Site) (variables : List code.Variable.Variable) (table : Table) (watched : Watched)
    → AreFound d by dump sites → variables ≡ dump.front.header.variables.items
    → ((h : Header) (sought : Sought) → h.variables ≡ map variable_of variables → All (IsSite h sought) sites → IsTableOf h sought (map site_port sites) table)
    → ((h : Header) (sought : Sought) → IsTable h sought table → All (IsSite h sought) sites
    → IsWatched (watches_from h sought by.zero_inputs (length d.inputs.items) (length d.outputs.items) (map site_port sites)) (cell_codes table) watched)
    → IsPlan (dump_header dump) (sought_of d by) (watches_of d by (dump_header dump)) (record { table = table; watched = watched })
plan_found d by dump sites variables table watched found are tabled each =
    let h = dump_header dump in
    let sought = sought_of d by in
    let P : List Port → Type 0 = λ l. IsTableOf h sought l table in
    let whole : IsTable h sought table = subst P found.same (tabled h sought (ap (map variable_of) (sym are)) found.each) in
    let Q : List Port → Type 0 = λ l. IsWatched (watches_from h sought by.zero_inputs (length d.inputs.items) (length d.outputs.items) l) (cell_codes table) watched in
    let R : Watches → Type 0 = λ w. IsWatched w (cell_codes table) watched in
    record { table = whole; watched = subst R (watched_from d by h) (subst Q found.same (each h sought whole found.each)) }

-- the scope that is found
pub is_scope : (dump : Dump) (sought : Sought) (scope : Scope) (found : Option ℕ) → scope.variables.now ≡ dump.front.header.variables.items
    → IsIndex (map variable_of scope.variables.now) scope.names.now → found ≡ scope_of (dump_header dump) sought
    → found ≡ Some scope.number → IsFirst (dump_header dump) sought scope
is_scope dump sought scope found are index each is =
    let P : List code.Variable.Variable → Type 0 = λ l. IsIndex (map variable_of l) scope.names.now in
    record { of_header = record { variables = ap (map variable_of) (sym are); index = subst P are index }; first = sym each ∙ is }

pub found_are : (d : Design) (by : Manner) (dump : Dump) (sought : Sought) (number : ℕ) (sites given : List Site)
    → sought ≡ sought_of d by → IsFront (sought_of d by) dump → scope_of (dump_header dump) sought ≡ Some number
    → AreSites (dump_header dump) sought sought.ports sites → given ≡ sites → AreFound d by dump given
found_are d by dump sought number sites given same front first are is =
    let h = dump_header dump in
    let P : Sought → Type 0 = λ s. (scope_of h s ≡ Some number) × AreSites h s s.ports sites in
    let facts = subst P same (first, are) in
    let Q : List Site → Type 0 = λ l. All (IsSite h (sought_of d by)) l in
    record {
      front = front;
      scope = number;
      first = facts.0;
      same = ap (map site_port) is ∙ facts.1.same;
      each = subst Q (sym is) facts.1.each;
    }

-- what is looked for, by its parts
abbrev sought : Option (List ℕ) → List Port → Sought
sought path ports = record { scope = path; ports = ports }

pub given_is : (d : Design) (by : Manner) (path : Option (List ℕ)) (ports : List Port) → path ≡ by.scope → ports ≡ ports_of d by.clock
    → sought path ports ≡ sought_of d by
given_is d by path ports same are = ap (λ p. sought p ports) same ∙ ap (sought by.scope) are

-- the ports with their variables are as wide as the ports
pub given_fit : (dump : Dump) (sought : Sought) (ports : List port_code.Port.Port) (sites given : List Site) → AreSites (dump_header dump) sought (ports_in ports) sites
    → given ≡ sites → IsTrue (list_all fits (ports_in ports)) → IsTrue (list_all site_fits given)
given_fit dump sought ports sites given are is fit = ap (list_all site_fits) is ∙ sites_fit sites (ports_in ports) are.same fit

-- the ports of a well formed design
pub top_same : (d : Design) (clock : Option (List ℕ)) (ports given : List port_code.Port.Port) → ports_in ports ≡ ports_of d clock → given ≡ ports
    → ports_in given ≡ ports_of d clock
top_same d clock ports given same is = ap ports_in is ∙ same

pub top_count : (d : Design) (clock : Option (List ℕ)) (ports given : List port_code.Port.Port) → ports_in ports ≡ ports_of d clock → given ≡ ports
    → length d.inputs.items + length d.outputs.items ≤ length given
top_count d clock ports given same is =
    let all : length (ports_of d clock) ≡ length given = ap length (sym (top_same d clock ports given same is)) ∙ length-map given port_of in
    let P : ℕ → Type 0 = λ n. length d.inputs.items + length d.outputs.items ≤ n in
    subst P all (ports_count d clock)

pub top_fit : (d : Design) (clock : Option (List ℕ)) (ports given : List port_code.Port.Port) → ports_in ports ≡ ports_of d clock → given ≡ ports
    → HasPorts d → IsTrue (list_all fits (ports_in given))
top_fit d clock ports given same is has = ap (list_all fits) (top_same d clock ports given same is) ∙ ports_fit d clock has

-- a refused header
pub answers_header : (text : List ℕ) (d : Design) (by : Manner) (fault : VcdErr) (r : Result Trace VcdErr)
    → IsAt (λ at. (sought : Sought) → ReadsText sought text (Err at)) fault → IsErrAnd r (λ y. y ≡ fault) → Answers text d by r
answers_header text d by fault r reads passed =
    answers_err text d by fault r
    (at_map (λ at. (sought : Sought) → ReadsText sought text (Err at)) (λ at. ReadsText (sought_of d by) text (Err at)) fault
    (λ at each. each (sought_of d by)) reads)
    passed
