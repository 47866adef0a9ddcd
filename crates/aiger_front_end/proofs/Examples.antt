-- Two files, worked out: one with a latch and an AND that means a design, and one whose ANDs depend on each other in a circle.
use Rattle.std.proofs.Common.{◌≡◌, ℕ, zero, suc, ◌<◌, ◌≤◌, inl, inr, ◌⊎◌, Bool, true, false, List, [], ◌∷◌}
use Rattle.std.proofs.Common.{drop, Some, None, refl, sym, ap, ◌∙◌, subst, arith, lit≤}
use Rattle.std.specs.Prelude.{◌||◌, ◌==◌, ◌++◌, length, codes, decimal, slice_get, IsTrue}
use Rattle.std.specs.Option.{option_map_or}
use Rattle.std.proofs.lemmas.Bool.{and_parts, eqb-true, false≢true}
use Rattle.std.proofs.lemmas.List.Elements.{All-cons, All-nil}
use Rattle.std.proofs.lemmas.Option.{none-some, same_Some}
use denote.Hole.Carrier.{hidden}
use Rattle.design_core.specs.declared.signal.Signal.{Signal}
use Rattle.design_core.specs.declared.signal.SignalKind.TheVariants as kind
use Rattle.design_core.specs.declared.expression.UnaryOp.TheVariants.{Not}
use Rattle.design_core.specs.declared.expression.BinaryOp.TheVariants as binary_op
use Rattle.design_core.specs.declared.expression.Typed.{Typed}
use Rattle.design_core.specs.declared.expression.Node.TheVariants.{Whole, Unary, Binary}
use Rattle.design_core.specs.declared.expression.Node.TheBlock.{shape-the_row-Typed-0, hidden-the_row-Typed-0}
use Rattle.design_core.specs.declared.statement.Stmt.TheVariants.{Set}
use Rattle.design_core.specs.declared.driver.Driver.{Driver}
use Rattle.design_core.specs.declared.driver.Driver.TheVariants.{Cont}
use Rattle.design_core.specs.declared.driver.Clocked.{Clocked}
use Rattle.design_core.specs.declared.place.Place.{Place}
use Rattle.design_core.specs.declared.place.PlaceKind.TheVariants as place_kind
use Rattle.design_core.specs.declared.design.Design.{Design}
use Rattle.design_core.specs.Drives.{driver_drives}
use Rattle.design_core.specs.Reads.{driver_reads, Depends}
use Rattle.design_core.specs.Order.{Leads, HasCircle}
use Rattle.aiger_text.specs.declared.row.Row.TheVariants as row
use Rattle.aiger_text.specs.declared.row.Section.TheVariants.{Inputs, Outputs}
use Rattle.aiger_text.specs.declared.fault.AigerErr.TheVariants as fault
use Rattle.aiger_text.specs.Lines.{lines}
use Rattle.aiger_text.specs.Rows.{row_at}
use Rattle.aiger_text.specs.Symbols.{first_symbol}
use Rattle.aiger_text.specs.Content.{Content, IsWritten}
use Rattle.aiger_rules.specs.Literals.{IsUsedWell}
use Rattle.aiger_rules.specs.Naming.{is_misplaced, is_double, IsNamedWell}
use Rattle.aiger_rules.specs.Ports.{port_names}
use Rattle.aiger_design.specs.Signals.{signal}
use Rattle.aiger_design.specs.Values.{bit_of}
use Rattle.aiger_design.specs.Drivers.{whole, place}
use Rattle.aiger_design.specs.Means.{IsFile}
use Rattle.aiger_front_end.specs.declared.error.GraphErr.{GraphErr}
use Rattle.aiger_front_end.specs.declared.error.GraphErr.TheVariants.{Text, Circle}
use Rattle.aiger_front_end.specs.Errors.{graph_line, graph_status}
use Rattle.aiger_front_end.specs.Meaning.{Means}
use Rattle.aiger_front_end.specs.Refusals.{span_of, IsRefusal}

-- the lists of a design
pub record HasLists (d : Design) (signals : List Signal) (drivers : List Driver) (clocked : List Clocked) (places : List Place)
    (inputs outputs : List ℕ) : Type 0 where
  pub signals_are : d.signals.items ≡ signals
  pub drivers_are : d.drivers.items ≡ drivers
  pub clocked_are : d.clocked.items ≡ clocked
  pub places_are : d.places.items ≡ places
  pub inputs_are : d.inputs.items ≡ inputs
  pub outputs_are : d.outputs.items ≡ outputs

-- the value of a signal of one bit
abbrev bit : ℕ → Typed
bit s = bit_of (Whole s)

-- ---- a latch that takes another value where its input is on: an AND of the input and of the latch's negation is its next value

abbrev latched : List ℕ
latched = codes "aag 3 1 1 1 1\n2\n4 6\n4\n6 2 5\ni0 en\no0 q\n"

abbrev latched_content : Content
latched_content = record {
  counts = record { most = 3; inputs = 1; latches = 1; outputs = 1; ands = 1 };
  rows = row.Input 2 ∷ row.Latch 4 6 ∷ row.Output 4 ∷ row.And 6 2 5 ∷ [];
  symbols =
      record { section = Inputs; position = 0; text = codes "en" } ∷ record { section = Outputs; position = 0; text = codes "q" } ∷ [];
}

latched_rows : (k : ℕ) → k < 4 → row_at (drop 1 (lines latched)) latched_content.counts k ≡ slice_get latched_content.rows k
latched_rows zero below = refl
latched_rows (suc zero) below = refl
latched_rows (suc (suc zero)) below = refl
latched_rows (suc (suc (suc zero))) below = refl
latched_rows (suc (suc (suc (suc k)))) below = absurd (omega (arith, below))

latched_symbols : (p : ℕ) → p < 2 → first_symbol (drop p (drop 4 (drop 1 (lines latched)))) ≡ slice_get latched_content.symbols p
latched_symbols zero below = refl
latched_symbols (suc zero) below = refl
latched_symbols (suc (suc p)) below = absurd (omega (arith, below))

latched_written : IsWritten latched latched_content
latched_written = record {
  header = refl;
  behind = record { rows = record { long = refl; each = latched_rows }; symbols = record { each = latched_symbols; end = refl } };
}

latched_used : IsUsedWell latched_content
latched_used zero = refl
latched_used (suc zero) = refl
latched_used (suc (suc zero)) = refl
latched_used (suc (suc (suc zero))) = refl
latched_used (suc (suc (suc (suc k)))) = refl

-- the names are those of the clock, the input and the output
latched_misplaced : (p : ℕ) → p < 2 → is_misplaced latched_content p ≡ false
latched_misplaced zero below = refl
latched_misplaced (suc zero) below = refl
latched_misplaced (suc (suc p)) below = absurd (omega (arith, below))

abbrev latched_names : List (List ℕ)
latched_names = port_names latched_content (Some (codes "clk"))

latched_double : (p : ℕ) → p < 3 → is_double latched_names p ≡ false
latched_double zero below = refl
latched_double (suc zero) below = refl
latched_double (suc (suc zero)) below = refl
latched_double (suc (suc (suc p))) below = absurd (omega (arith, below))

not-both : (b : Bool) → b ≡ false → b ≡ true → ⊥
not-both b is other = false≢true (sym is ∙ other)

latched_named : IsNamedWell latched_content (Some (codes "clk"))
latched_named line (inl (place, below, bad, is)) = not-both (is_misplaced latched_content place) (latched_misplaced place below) bad
latched_named line (inr (place, below, bad, is)) = not-both (is_double latched_names place) (latched_double place below) bad

abbrev latched_signals : List Signal
latched_signals =
    signal kind.Input (codes "clk") ∷ signal kind.Input (codes "en") ∷ signal kind.Reg (108 ∷ decimal 4)
    ∷ signal kind.Net (97 ∷ decimal 6) ∷ signal kind.Net (codes "q") ∷ []

abbrev and_driver : Driver
and_driver = Cont (whole 3) (bit_of (Binary binary_op.And (bit 1) (bit_of (Unary Not (bit 2))))) (Some 0) (record { from = 5; to = 5 })

abbrev output_driver : Driver
output_driver = Cont (whole 4) (bit 2) None (record { from = 4; to = 4 })

abbrev latched_drivers : List Driver
latched_drivers = and_driver ∷ output_driver ∷ []

abbrev HasLatched : Design → Type 0
HasLatched d =
    HasLists d latched_signals latched_drivers (record { reset = None; body = Set 1 (whole 2) (bit 3) true } ∷ [])
    (place place_kind.And (codes "m") (97 ∷ decimal 6) 5 3 ∷ place place_kind.Step (codes "m") (codes "m") 3 2 ∷ [])
    (1 ∷ []) (4 ∷ [])

latched_file : (d : Design) → HasLatched d → IsFile latched (codes "m") (Some (codes "clk")) d
latched_file d has = record {
  content = latched_content;
  has = record { has = record { has = record { short = lit≤ tt; written = latched_written }; used = latched_used }; named = latched_named };
  fits = refl;
  is = record {
    signals = has.signals_are;
    drivers = has.drivers_are;
    clocked = has.clocked_are;
    places = has.places_are;
    inputs = has.inputs_are;
    outputs = has.outputs_are;
  };
}

-- a driver drives a net, and none reads one
only : (b : Bool) → (b || false) ≡ true → b ≡ true
only true is = refl
only false is = is

drives : (j : ℕ) (source : Driver) (s b : ℕ) → slice_get latched_drivers j ≡ Some source
    → IsTrue (driver_drives latched_signals s b source) → (s ≡ 3) ⊎ (s ≡ 4)
drives zero source s b is on =
    let own = subst (λ x. IsTrue (driver_drives latched_signals s b x)) (sym (same_Some and_driver source is)) on in
    inl (eqb-true s 3 (and_parts (s == 3) _ (only _ own)).0)
drives (suc zero) source s b is on =
    let own = subst (λ x. IsTrue (driver_drives latched_signals s b x)) (sym (same_Some output_driver source is)) on in
    inr (eqb-true s 4 (and_parts (s == 4) _ (only _ own)).0)
drives (suc (suc j)) source s b is on = absurd (none-some source is)

-- neither driver reads a bit
abbrev IsUnread : ℕ → ℕ → Type 0
IsUnread s b = (driver_reads latched_signals s b and_driver ≡ false) × (driver_reads latched_signals s b output_driver ≡ false)

unread : (s b : ℕ) → (s ≡ 3) ⊎ (s ≡ 4) → IsUnread s b
unfolding shape-the_row-Typed-0 hidden-the_row-Typed-0 hidden
unread s b (inl at) = subst (λ t. IsUnread t b) (sym at) (refl, refl)
unread s b (inr at) = subst (λ t. IsUnread t b) (sym at) (refl, refl)

reads : (i : ℕ) (reader : Driver) (s b : ℕ) → slice_get latched_drivers i ≡ Some reader → (s ≡ 3) ⊎ (s ≡ 4)
    → IsTrue (driver_reads latched_signals s b reader) → ⊥
reads zero reader s b is at on =
    not-both (driver_reads latched_signals s b reader)
    (subst (λ x. driver_reads latched_signals s b x ≡ false) (same_Some and_driver reader is) (unread s b at).0) on
reads (suc zero) reader s b is at on =
    not-both (driver_reads latched_signals s b reader)
    (subst (λ x. driver_reads latched_signals s b x ≡ false) (same_Some output_driver reader is) (unread s b at).1) on
reads (suc (suc i)) reader s b is at on = absurd (none-some reader is)

depends : (d : Design) → HasLatched d → (i j : ℕ) → Depends d i j → ⊥
depends d has i j on =
    reads i on.reader on.signal on.position (subst (λ drivers. slice_get drivers i ≡ Some on.reader) has.drivers_are on.is_reader)
    (drives j on.source on.signal on.position (subst (λ drivers. slice_get drivers j ≡ Some on.source) has.drivers_are on.is_source)
    (subst (λ signals. IsTrue (driver_drives signals on.signal on.position on.source)) has.signals_are on.driven))
    (subst (λ signals. IsTrue (driver_reads signals on.signal on.position on.reader)) has.signals_are on.read)

no-circle : (d : Design) → ((i j : ℕ) → Depends d i j → ⊥) → HasCircle d → ⊥
no-circle d none circle = leads circle.path circle.leads
  where
    leads : (path : List ℕ) → Leads (Depends d) circle.number path circle.number → ⊥
    leads [] on = none circle.number circle.number on
    leads (j ∷ path) (on, rest) = none circle.number j on

pub a_file_with_a_latch_and_an_and_means_a_design : (d : Design) → HasLatched d → Means latched (codes "m") (Some (codes "clk")) d
a_file_with_a_latch_and_an_and_means_a_design d has = record { is_file = latched_file d has; no_circle = no-circle d (depends d has) }

-- ---- two ANDs of which each reads the other

abbrev looped : List ℕ
looped = codes "aag 2 0 0 0 2\n2 4 4\n4 2 2\n"

abbrev looped_content : Content
looped_content = record {
  counts = record { most = 2; inputs = 0; latches = 0; outputs = 0; ands = 2 };
  rows = row.And 2 4 4 ∷ row.And 4 2 2 ∷ [];
  symbols = [];
}

looped_rows : (k : ℕ) → k < 2 → row_at (drop 1 (lines looped)) looped_content.counts k ≡ slice_get looped_content.rows k
looped_rows zero below = refl
looped_rows (suc zero) below = refl
looped_rows (suc (suc k)) below = absurd (omega (arith, below))

looped_written : IsWritten looped looped_content
looped_written = record {
  header = refl;
  behind = record {
    rows = record { long = refl; each = looped_rows };
    symbols = record { each = λ p below. absurd (omega (arith, below)); end = refl };
  };
}

looped_used : IsUsedWell looped_content
looped_used zero = refl
looped_used (suc zero) = refl
looped_used (suc (suc k)) = refl

looped_named : IsNamedWell looped_content None
looped_named line (inl (place, below, bad, is)) = absurd (omega (arith, below))
looped_named line (inr (place, below, bad, is)) = absurd (omega (arith, below))

abbrev looped_signals : List Signal
looped_signals = signal kind.Net (97 ∷ decimal 2) ∷ signal kind.Net (97 ∷ decimal 4) ∷ []

-- the AND of a signal with itself, by the signal that it drives, that signal, its place and its line
abbrev twice : ℕ → ℕ → ℕ → ℕ → Driver
twice s read place line =
    Cont (whole s) (bit_of (Binary binary_op.And (bit read) (bit read))) (Some place) (record { from = line; to = line })

abbrev HasLooped : Design → Type 0
HasLooped d =
    HasLists d looped_signals (twice 0 1 0 2 ∷ twice 1 0 1 3 ∷ []) []
    (place place_kind.And (codes "m") (97 ∷ decimal 2) 2 0 ∷ place place_kind.And (codes "m") (97 ∷ decimal 4) 3 1 ∷ []) [] []

looped_file : (d : Design) → HasLooped d → IsFile looped (codes "m") None d
looped_file d has = record {
  content = looped_content;
  has = record { has = record { has = record { short = lit≤ tt; written = looped_written }; used = looped_used }; named = looped_named };
  fits = refl;
  is = record {
    signals = has.signals_are;
    drivers = has.drivers_are;
    clocked = has.clocked_are;
    places = has.places_are;
    inputs = has.inputs_are;
    outputs = has.outputs_are;
  };
}

first_needs_second : (d : Design) → HasLooped d → Depends d 0 1
unfolding shape-the_row-Typed-0 hidden-the_row-Typed-0 hidden
first_needs_second d has = record {
  reader = twice 0 1 0 2;
  source = twice 1 0 1 3;
  is_reader = ap (λ drivers. slice_get drivers 0) has.drivers_are;
  is_source = ap (λ drivers. slice_get drivers 1) has.drivers_are;
  signal = 1;
  position = 0;
  read = ap (λ signals. driver_reads signals 1 0 (twice 0 1 0 2)) has.signals_are;
  driven = ap (λ signals. driver_drives signals 1 0 (twice 1 0 1 3)) has.signals_are;
}

second_needs_first : (d : Design) → HasLooped d → Depends d 1 0
unfolding shape-the_row-Typed-0 hidden-the_row-Typed-0 hidden
second_needs_first d has = record {
  reader = twice 1 0 1 3;
  source = twice 0 1 0 2;
  is_reader = ap (λ drivers. slice_get drivers 1) has.drivers_are;
  is_source = ap (λ drivers. slice_get drivers 0) has.drivers_are;
  signal = 0;
  position = 0;
  read = ap (λ signals. driver_reads signals 0 0 (twice 1 0 1 3)) has.signals_are;
  driven = ap (λ signals. driver_drives signals 0 0 (twice 0 1 0 2)) has.signals_are;
}

pub a_circle_is_shown_on_the_line_of_its_least_driver : (d : Design) → HasLooped d
    → IsRefusal looped (codes "m") None (Circle (record { from = 2; to = 2 }))
a_circle_is_shown_on_the_line_of_its_least_driver d has = record {
  design = d;
  is_file = looped_file d has;
  no_order = record {
    drivers = 0 ∷ 1 ∷ [];
    circle = (
      subst (λ drivers. 0 < length drivers) (sym has.drivers_are) (omega arith),
      (first_needs_second d has, second_needs_first d has),
    );
    number = 0;
    stands = (0, omega arith, refl);
    least = All-cons (λ i. 0 ≤ i) 0 (1 ∷ []) (omega arith) (All-cons (λ i. 0 ≤ i) 1 [] (omega arith) (All-nil (λ i. 0 ≤ i)));
    shown = sym (ap (λ (drivers : List Driver). option_map_or span_of (slice_get drivers 0) (record { from = 0; to = 0 })) has.drivers_are);
  };
}

abbrev loop : GraphErr
loop = Circle (record { from = 2; to = 2 })

pub it_is_printed_with_that_line_twice : (graph_line loop ≡ codes "input S4 " ++ decimal 2 ++ codes " " ++ decimal 2 ++ codes "\n")
    × (graph_status loop ≡ 3)
it_is_printed_with_that_line_twice = (refl, refl)

pub a_rule_is_printed_with_its_line : (graph_line (Text (fault.Literal 2)) ≡ codes "input A3 " ++ decimal 2 ++ codes "\n")
    × (graph_line (Text fault.Header) ≡ codes "input A1 " ++ decimal 1 ++ codes "\n")
    × (graph_line (Text fault.Places) ≡ codes "limit Z1" ++ codes "\n")
a_rule_is_printed_with_its_line = (refl, refl, refl)
