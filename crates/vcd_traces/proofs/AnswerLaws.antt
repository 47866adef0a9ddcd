-- What is answered of a text, and that nothing else is.
use Rattle.std.proofs.Common.{◌≡◌, ◌≢◌, ℕ, List, [], ◌∷◌, refl, sym, ◌∙◌, ap, subst, Option, Some, None, Result, Ok, Err, false, ◌||◌}
use Rattle.std.specs.List.{list_any}
use Rattle.std.specs.Option.{option_map, option_map_or, option_or}
use Rattle.std.specs.Result.{IfOk, IfErr}
use Rattle.std.proofs.lemmas.Bool.{false≢true}
use Rattle.design_core.specs.declared.design.Design.{Design}
use Rattle.design_core.specs.declared.trace.Trace.{Trace}
use Rattle.vcd_reading.specs.declared.error.VcdErr.{VcdErr}
use Rattle.vcd_reading.specs.declared.error.VcdErr.TheVariants.{Syntax, MissingPort, PortWidth, NoCycle, UnknownInput, Cycles, NoMemory}
use Rattle.vcd_reading.specs.Header.{Header}
use Rattle.vcd_reading.specs.Commands.{same_bytes}
use Rattle.vcd_reading.specs.Scopes.{Port, Place, Sought, ports_of, scope_of, port_place, has_code, is_unfit}
use Rattle.vcd_reading.specs.Events.{Event}
use Rattle.vcd_reading.specs.Changes.{Past, stamps_of}
use Rattle.vcd_reading.specs.Reading.{ReadsText}
use Rattle.vcd_reading.specs.Outcomes.{IsAt}
use Rattle.vcd_reading.proofs.OneReading.{one_reading}
use Rattle.vcd_traces.specs.declared.codes.Role.{Role}
use Rattle.vcd_traces.specs.declared.codes.Role.TheVariants.{Other, Port as OfPort}
use Rattle.vcd_traces.specs.declared.table.Table.{Table}
use Rattle.vcd_traces.specs.declared.rows.Rows.{Rows}
use Rattle.vcd_traces.specs.Table.{cell_codes, IsRole, IsTable, IsTableOf}
use Rattle.vcd_traces.specs.Rows.{rows_of}
use Rattle.vcd_traces.specs.Kept.{AreKept}
use Rattle.vcd_traces.specs.Finish.{refused, Finishes}
use Rattle.vcd_traces.specs.Samples.{Manner, sought_of, Watches, AreSamples, least_port, scope_refusal, width_refusal, moments, cycles_of, watches_of, refusal_of, HasSamples, IsRefused, at_word, as_whole}
use Rattle.vcd_traces.specs.Dump.{EndsWith}
use Rattle.vcd_traces.specs.Answers.{Answers, IsSameTrace, IsOnly, IsOnlyFault}

-- where no scope declares every port no code is a port's
none_has : (h : Header) (sought : Sought) (code : List ℕ) (seen : List Port) → scope_of h sought ≡ None → list_any (has_code h sought code) seen ≡ false
none_has h sought code [] none = refl
none_has h sought code (port ∷ seen) none =
    let P : Option ℕ → Type 0 = λ s. (option_map_or (λ (p : Place). same_bytes p.variable.code code) (port_place h s port) false || list_any (has_code h sought code) seen) ≡ false in
    subst P (sym none) (none_has h sought code seen none)

pub table_none : (h : Header) (sought : Sought) (table : Table) → scope_of h sought ≡ None → IsTableOf h sought [] table → IsTable h sought table
table_none h sought table none t = record {
  declared = t.declared;
  role = λ code role is. by_role code role (t.role code role is);
  cell = t.cell;
}
  where
    by_role : (code : List ℕ) (role : Role) → IsRole h sought [] (cell_codes table) code role → IsRole h sought sought.ports (cell_codes table) code role
    by_role code Other is = none_has h sought code sought.ports none
    by_role code (OfPort cell limit) is = absurd (false≢true is.0)

-- nothing is sampled
abbrev pub no_watches : Watches
no_watches = record { clock = None; inputs = []; outputs = []; zero_inputs = false }

-- a fault of a word
pub refused_word : (text : List ℕ) (d : Design) (by : Manner) (fault : VcdErr) → IsAt (λ at. ReadsText (sought_of d by) text (Err at)) fault
    → fault ≢ NoMemory → IsRefused text d by fault
refused_word text d by (Syntax at) reads other = at_word reads
refused_word text d by MissingPort reads other = absurd reads
refused_word text d by (PortWidth port) reads other = absurd reads
refused_word text d by NoCycle reads other = absurd reads
refused_word text d by (UnknownInput cycle port) reads other = absurd reads
refused_word text d by Cycles reads other = absurd reads
refused_word text d by NoMemory reads other = absurd (other refl)

-- what is said of a text whose ports are all declared
abbrev behind_width : Design → Manner → Past → Option VcdErr
behind_width d by past = refused (watches_of d by past.header) past.events (cycles_of d by past)

abbrev behind_scope : Design → Manner → Past → Option VcdErr
behind_scope d by past = option_or (width_refusal past.header (sought_of d by)) (behind_width d by past)

-- a text of which no scope declares every port
pub refused_scope : (text : List ℕ) (d : Design) (by : Manner) (w : Watches) (h : Header) (rows : Rows) → EndsWith (sought_of d by) w text h rows
    → scope_of h (sought_of d by) ≡ None → IsRefused text d by MissingPort
refused_scope text d by w h rows ends none =
    let here : scope_of ends.past.header (sought_of d by) ≡ None = ap (λ g. scope_of g (sought_of d by)) ends.same ∙ none in
    as_whole ends.reads (ap (λ s. option_or (scope_refusal s) (behind_scope d by ends.past)) here)

-- a text of which a port's variable is real or of another width
least_there : (d : Design) (by : Manner) (h g : Header) → g ≡ h → (o : Option ℕ)
    → least_port (is_unfit h (sought_of d by)) (ports_of d by.clock) ≡ o → width_refusal g (sought_of d by) ≡ option_map (λ (port : ℕ). PortWidth port) o
least_there d by h g same o least =
    ap (λ k. width_refusal k (sought_of d by)) same ∙ ap (option_map (λ (port : ℕ). PortWidth port)) least

scope_there : (d : Design) (by : Manner) (h g : Header) (scope : ℕ) → g ≡ h → scope_of h (sought_of d by) ≡ Some scope
    → scope_refusal (scope_of g (sought_of d by)) ≡ None
scope_there d by h g scope same is = ap (λ k. scope_refusal (scope_of k (sought_of d by))) same ∙ ap scope_refusal is

pub refused_width : (text : List ℕ) (d : Design) (by : Manner) (w : Watches) (h : Header) (rows : Rows) (scope port : ℕ)
    → EndsWith (sought_of d by) w text h rows → scope_of h (sought_of d by) ≡ Some scope
    → least_port (is_unfit h (sought_of d by)) (ports_of d by.clock) ≡ Some port → IsRefused text d by (PortWidth port)
refused_width text d by w h rows scope port ends is least =
    as_whole ends.reads
    (ap (λ o. option_or o (behind_scope d by ends.past)) (scope_there d by h ends.past.header scope ends.same is)
    ∙ ap (λ o. option_or o (behind_width d by ends.past)) (least_there d by h ends.past.header ends.same (Some port) least))

-- a text of which each port's variable fits
pub rows_there : (text : List ℕ) (d : Design) (by : Manner) (h : Header) (rows : Rows)
    → (ends : EndsWith (sought_of d by) (watches_of d by h) text h rows)
    → AreKept (watches_of d by ends.past.header) ends.past.events (cycles_of d by ends.past) (rows_of rows)
rows_there text d by h rows ends =
    let P : Header → Type 0 = λ g. AreKept (watches_of d by g) ends.past.events
    (moments (watches_of d by g).clock ends.past.events (stamps_of ends.past)) (rows_of rows) in
    subst P (sym ends.same) ends.kept

finished : (text : List ℕ) (d : Design) (by : Manner) (past : Past) (result : Result Trace VcdErr) → ReadsText (sought_of d by) text (Ok past)
    → refusal_of d by past ≡ behind_width d by past
    → Finishes (watches_of d by past.header) past.events (cycles_of d by past) result → Answers text d by result
finished text d by past (Ok trace) reads same finishes = record { past = past; reads = reads; not_refused = same ∙ finishes.0; samples = finishes.1 }
finished text d by past (Err fault) reads same finishes = λ other. as_whole reads (same ∙ finishes)

pub answers_rows : (text : List ℕ) (d : Design) (by : Manner) (h : Header) (rows : Rows) (scope : ℕ) (result : Result Trace VcdErr)
    → EndsWith (sought_of d by) (watches_of d by h) text h rows → scope_of h (sought_of d by) ≡ Some scope
    → least_port (is_unfit h (sought_of d by)) (ports_of d by.clock) ≡ None
    → ((w : Watches) (events : List Event) (times : List ℕ) → AreKept w events times (rows_of rows) → Finishes w events times result)
    → Answers text d by result
answers_rows text d by h rows scope result ends is least finishes =
    finished text d by ends.past result ends.reads
    (ap (λ o. option_or o (behind_scope d by ends.past)) (scope_there d by h ends.past.header scope ends.same is)
    ∙ ap (λ o. option_or o (behind_width d by ends.past)) (least_there d by h ends.past.header ends.same None least))
    (finishes _ _ _ (rows_there text d by h rows ends))

-- ---- one answer
abbrev Same : Result Past ℕ → Result Past ℕ → Type 0
Same one other = one ≡ other

ok_same : {p q : Past} → Same (Ok p) (Ok q) → p ≡ q
ok_same e = cc

ok_not_err : {p : Past} {at : ℕ} → Same (Ok p) (Err at) → ⊥
ok_not_err e = cc

err_same : {at to : ℕ} → Same (Err at) (Err to) → at ≡ to
err_same e = cc

same_samples : (w : Watches) (events : List Event) (times : List ℕ) (one other : Trace) → AreSamples w events times one → AreSamples w events times other
    → IsSameTrace one other
same_samples w events times one other a b = record {
  cycles = a.cycles ∙ sym b.cycles;
  inputs = a.inputs ∙ sym b.inputs;
  input_widths = a.input_widths ∙ sym b.input_widths;
  masks = a.masks ∙ sym b.masks;
  mask_widths = a.mask_widths ∙ sym b.mask_widths;
  values = a.values ∙ sym b.values;
  value_widths = a.value_widths ∙ sym b.value_widths;
}

one_trace : (text : List ℕ) (d : Design) (by : Manner) (one other : Trace) → HasSamples text d by one → HasSamples text d by other
    → IsSameTrace one other
one_trace text d by one other a b =
    let same : b.past ≡ a.past = ok_same (one_reading b.reads a.reads) in
    let P : Past → Type 0 = λ p. AreSamples (watches_of d by p.header) p.events (cycles_of d by p) other in
    same_samples (watches_of d by a.past.header) a.past.events (cycles_of d by a.past) one other a.samples (subst P same b.samples)

not_both : (text : List ℕ) (d : Design) (by : Manner) (trace : Trace) (fault : VcdErr) → HasSamples text d by trace
    → IsRefused text d by fault → ⊥
not_both text d by trace _ has (at_word reads) = ok_not_err (one_reading has.reads reads)
not_both text d by trace fault has (as_whole reads refused) =
    let same = ok_same (one_reading has.reads reads) in
    some_none (sym (ap (refusal_of d by) same ∙ refused) ∙ has.not_refused)
  where
    some_none : Some fault ≡ None → ⊥
    some_none e = cc

one_fault : (text : List ℕ) (d : Design) (by : Manner) (one other : VcdErr) → IsRefused text d by one → IsRefused text d by other → one ≡ other
one_fault text d by _ _ (at_word reads) (at_word reads_too) = ap Syntax (err_same (one_reading reads reads_too))
one_fault text d by _ other (at_word reads) (as_whole reads_too refused) = absurd (ok_not_err (one_reading reads_too reads))
one_fault text d by one _ (as_whole reads refused) (at_word reads_too) = absurd (ok_not_err (one_reading reads reads_too))
one_fault text d by one other (as_whole reads refused) (as_whole reads_too refused_too) =
    let same = ok_same (one_reading reads reads_too) in
    some_same (sym refused ∙ ap (refusal_of d by) same ∙ refused_too)
  where
    some_same : Some one ≡ Some other → one ≡ other
    some_same e = cc

memory_else : (fault : VcdErr) → (fault ≢ NoMemory → ⊥) → fault ≡ NoMemory
memory_else (Syntax at) never = absurd (never (λ e. cc))
memory_else MissingPort never = absurd (never (λ e. cc))
memory_else (PortWidth port) never = absurd (never (λ e. cc))
memory_else NoCycle never = absurd (never (λ e. cc))
memory_else (UnknownInput cycle port) never = absurd (never (λ e. cc))
memory_else Cycles never = absurd (never (λ e. cc))
memory_else NoMemory never = refl

pub answers_only : (text : List ℕ) (d : Design) (by : Manner) (trace : Trace) (result : Result Trace VcdErr) → Answers text d by result
    → HasSamples text d by trace → IsOnly trace result
answers_only text d by trace (Ok found) answers has = one_trace text d by found trace answers has
answers_only text d by trace (Err fault) answers has = memory_else fault (λ other. not_both text d by trace fault has (answers other))

pub refuses_only : (text : List ℕ) (d : Design) (by : Manner) (fault : VcdErr) (result : Result Trace VcdErr) → Answers text d by result
    → IsRefused text d by fault → IsOnlyFault fault result
refuses_only text d by fault (Ok found) answers refused = not_both text d by found fault answers refused
refuses_only text d by fault (Err other) answers refused = λ apart. one_fault text d by other fault (answers apart) refused

pub ok_answers : (text : List ℕ) (d : Design) (by : Manner) (result : Result Trace VcdErr) → Answers text d by result
    → IfOk result (λ trace. HasSamples text d by trace)
ok_answers text d by (Ok trace) answers = answers
ok_answers text d by (Err fault) answers = tt

pub err_answers : (text : List ℕ) (d : Design) (by : Manner) (result : Result Trace VcdErr) → Answers text d by result
    → IfErr result (λ fault. fault ≢ NoMemory → IsRefused text d by fault)
err_answers text d by (Ok trace) answers = tt
err_answers text d by (Err fault) answers = answers
