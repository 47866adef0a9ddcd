-- A value change is taken in by what is kept of the variables.
use Rattle.std.proofs.Common.{◌≡◌, ◌≢◌, ℕ, ◌<◌, Bool, true, false, not, ◌&&◌, ◌||◌, List, [], ◌∷◌, ◌++◌, length, refl, sym, ◌∙◌, ap, subst, inl, inr, arith, Option, Some, None, is_some, nat_lt, Result, Ok, Err}
use Rattle.std.specs.Prelude.{slice_get, slice_set}
use Rattle.std.specs.List.{list_any}
use Rattle.std.specs.Option.{option_and_then}
use Rattle.std.proofs.lemmas.Bool.{cases_Bool, cond-true, cond-false, true≢false}
use Rattle.std.proofs.lemmas.Bool.Decides.{eqb_tells}
use Rattle.std.proofs.lemmas.Option.{slice_get_within}
use Rattle.loc_base.proofs.ShelfLists.{slice_get-some}
use Rattle.vcd_reading.proofs.ListSteps.{get_set_same, get_set_other}
use Rattle.std.proofs.lemmas.List.{length-set}
use Rattle.vcd_words.specs.declared.level.Level.{Level}
use Rattle.vcd_words.specs.Words.{Placed}
use Rattle.vcd_reading.specs.declared.error.VcdErr.{VcdErr}
use Rattle.vcd_traces.specs.declared.running.Running.{Running}
use Rattle.vcd_traces.specs.declared.changes.Levels.{Levels}
use Rattle.vcd_traces.specs.declared.table.Table.{Table}
use Rattle.vcd_traces.specs.declared.codes.Role.{Role}
use Rattle.vcd_traces.specs.declared.codes.Role.TheVariants.{Other, Port as OfPort}
use Rattle.vcd_reading.proofs.ByteLaws.{differ}
use Rattle.vcd_reading.specs.Header.{Header}
use Rattle.vcd_reading.specs.Scopes.{Port, Sought, has_code, is_declared, most_digits, part_of}
use Rattle.vcd_reading.specs.Changes.{Past, changed, passed_over, with_event}
use Rattle.vcd_reading.specs.Events.{Event}
use Rattle.vcd_traces.specs.Running.{Follows, changed_to}
use Rattle.vcd_traces.specs.Table.{IsTable, role_of, cell_of, cell_codes}
use Rattle.vcd_traces.specs.Levels.{Keeps, KeepsAll, Does, with_change, put_change}
use Rattle.vcd_traces.proofs.RunningLaws.{follows_change, follows_other, past_more}

-- a deed that is another
pub does_by : {R : Type 0} (one other : Result Past ℕ) (keeps : Past → R → Type 0) (r : Result (Unit {0}) VcdErr) (new : R) → one ≡ other
    → Does other keeps r new → Does one keeps r new
does_by one other keeps r new same fact = let P : Result Past ℕ → Type 0 = λ d. Does d keeps r new in subst P (sym same) fact

-- a code with a role is declared, and one without is not
declared_with : (h : Header) (sought : Sought) (table : Table) (code : List ℕ) (role : Role) → IsTable h sought table
    → role_of table.codes code ≡ Some role → not (is_declared h code) ≡ false
declared_with h sought table code role t has = ap not (sym (t.declared code) ∙ ap is_some has)

declared_without : (h : Header) (sought : Sought) (table : Table) (code : List ℕ) → IsTable h sought table
    → role_of table.codes code ≡ None → not (is_declared h code) ≡ true
declared_without h sought table code t has = ap not (sym (t.declared code) ∙ ap is_some has)

pub any_less : (one other : Port → Bool) (ports : List Port) → list_any one ports ≡ false → list_any (λ port. one port && other port) ports ≡ false
any_less one other [] none = refl
any_less one other (port ∷ ports) none =
    elim (cases_Bool (one port)) [
      | inl here ↦ let P : Bool → Type 0 = λ b. (b || list_any one ports) ≡ false in absurd (true≢false (subst P here none))
      | inr away ↦
          let P : Bool → Type 0 = λ b. (b || list_any one ports) ≡ false in
          ap (λ b. (b && other port) || list_any (λ p. one p && other p) ports) away ∙ any_less one other ports (subst P away none)
    ]

-- what a value that is no bits does
pub passes_undeclared : (sought : Sought) (past : Past) (table : Table) (at : ℕ) (code : Placed) → IsTable past.header sought table
    → role_of table.codes code.word ≡ None → passed_over sought past at code ≡ Err code.at
passes_undeclared sought past table at code t has = cond-true _ _ _ (declared_without past.header sought table code.word t has)

pub passes_other : (sought : Sought) (past : Past) (table : Table) (at : ℕ) (code : Placed) → IsTable past.header sought table
    → role_of table.codes code.word ≡ Some Other → passed_over sought past at code ≡ Ok past
passes_other sought past table at code t has =
    cond-false _ _ _ (declared_with past.header sought table code.word Other t has) ∙ cond-false _ _ _ (t.role code.word Other has)

pub passes_port : (sought : Sought) (past : Past) (table : Table) (at : ℕ) (code : Placed) (cell limit : ℕ) → IsTable past.header sought table
    → role_of table.codes code.word ≡ Some (OfPort cell limit) → passed_over sought past at code ≡ Err at
passes_port sought past table at code cell limit t has =
    cond-false _ _ _ (declared_with past.header sought table code.word (OfPort cell limit) t has)
    ∙ cond-true _ _ _ (t.role code.word (OfPort cell limit) has).0

-- what a value of bits does
pub changes_undeclared : (sought : Sought) (past : Past) (table : Table) (level : Level) (digits at : ℕ) (code : Placed) → IsTable past.header sought table
    → role_of table.codes code.word ≡ None → changed sought past level digits at code ≡ Err code.at
changes_undeclared sought past table level digits at code t has = cond-true _ _ _ (declared_without past.header sought table code.word t has)

pub changes_other : (sought : Sought) (past : Past) (table : Table) (level : Level) (digits at : ℕ) (code : Placed) → IsTable past.header sought table
    → role_of table.codes code.word ≡ Some Other → changed sought past level digits at code ≡ Ok (with_event past code.word level)
changes_other sought past table level digits at code t has =
    cond-false _ _ _ (declared_with past.header sought table code.word Other t has)
    ∙ cond-false _ _ _ (any_less (has_code past.header sought code.word) (λ port. nat_lt (most_digits port.width (part_of past.header sought port)) digits) sought.ports (t.role code.word Other has))

pub changes_long : (sought : Sought) (past : Past) (table : Table) (level : Level) (digits at : ℕ) (code : Placed) (cell limit : ℕ) → IsTable past.header sought table
    → role_of table.codes code.word ≡ Some (OfPort cell limit) → nat_lt limit digits ≡ true → changed sought past level digits at code ≡ Err at
changes_long sought past table level digits at code cell limit t has long =
    cond-false _ _ _ (declared_with past.header sought table code.word (OfPort cell limit) t has)
    ∙ cond-true _ _ _ ((t.role code.word (OfPort cell limit) has).1 digits ∙ long)

pub changes_fit : (sought : Sought) (past : Past) (table : Table) (level : Level) (digits at : ℕ) (code : Placed) (cell limit : ℕ) → IsTable past.header sought table
    → role_of table.codes code.word ≡ Some (OfPort cell limit) → nat_lt limit digits ≡ false
    → changed sought past level digits at code ≡ Ok (with_event past code.word level)
changes_fit sought past table level digits at code cell limit t has fits =
    cond-false _ _ _ (declared_with past.header sought table code.word (OfPort cell limit) t has)
    ∙ cond-false _ _ _ ((t.role code.word (OfPort cell limit) has).1 digits ∙ fits)

-- a code of no port is that of no cell
apart_other : (h : Header) (sought : Sought) (table : Table) (code : List ℕ) (k : ℕ) (other : List ℕ) → IsTable h sought table
    → role_of table.codes code ≡ Some Other → slice_get (cell_codes table) k ≡ Some other → code ≢ other
apart_other h sought table code k other t has at same =
    let cell = t.cell other k at in
    let P : List ℕ → Type 0 = λ q. option_and_then cell_of (role_of table.codes q) ≡ Some k in
    let found : option_and_then cell_of (role_of table.codes code) ≡ Some k = subst P (sym same) cell in
    let none : option_and_then cell_of (role_of table.codes code) ≡ None = ap (option_and_then cell_of) has in
    cc

-- a code of a port is that of one cell
apart_port : (h : Header) (sought : Sought) (table : Table) (code : List ℕ) (cell limit k : ℕ) (other : List ℕ) → IsTable h sought table
    → role_of table.codes code ≡ Some (OfPort cell limit) → slice_get (cell_codes table) k ≡ Some other → k ≢ cell → code ≢ other
apart_port h sought table code cell limit k other t has at away same =
    let here = t.cell other k at in
    let P : List ℕ → Type 0 = λ q. option_and_then cell_of (role_of table.codes q) ≡ Some k in
    let found : option_and_then cell_of (role_of table.codes code) ≡ Some k = subst P (sym same) here in
    let its : option_and_then cell_of (role_of table.codes code) ≡ Some cell = ap (option_and_then cell_of) has in
    let one : k ≡ cell = cc in
    away one

-- a change of no port's variable is kept by leaving all
pub keeps_other : (sought : Sought) (past : Past) (table : Table) (levels : Levels) (code : List ℕ) (level : Level) → IsTable past.header sought table
    → role_of table.codes code ≡ Some Other → Keeps (cell_codes table) past levels → Keeps (cell_codes table) (with_event past code level) levels
keeps_other sought past table levels code level t has keeps = record {
  time = keeps.time;
  count = keeps.count;
  events = past_more past.time past.events code level keeps.events;
  each = λ k other r at is.
      follows_other other past.time past.events r (record { time = past.time; code = code; level = level })
      (differ code other (apart_other past.header sought table code k other t has at)) (keeps.each k other r at is);
}

change_within : (running : List Running) (cell : ℕ) (time : Option ℕ) (level : Level) (r : Running) → slice_get running cell ≡ Some r
    → with_change running cell time level ≡ slice_set running cell (changed_to r time level)
change_within running cell time level r is = ap (put_change running cell time level) is

-- a change of a port's variable is kept by its cell
keeps_cells : (cells : List (List ℕ)) (last : Option ℕ) (events : List Event) (running : List Running) (cell : ℕ) (code : List ℕ) (level : Level) (r : Running)
    → slice_get cells cell ≡ Some code → slice_get running cell ≡ Some r
    → ((k : ℕ) (other : List ℕ) → slice_get cells k ≡ Some other → k ≢ cell → code ≢ other)
    → KeepsAll cells last events running
    → KeepsAll cells last (events ++ (record { time = last; code = code; level = level }) ∷ []) (slice_set running cell (changed_to r last level))
keeps_cells cells last events running cell code level r at is apart each k other s at_k is_k =
    let event : Event = record { time = last; code = code; level = level } in
    elim (eqb_tells k cell) [
      | inl same ↦
          let P : ℕ → Type 0 = λ j. slice_get cells j ≡ Some other in
          let Q : ℕ → Type 0 = λ j. slice_get (slice_set running cell (changed_to r last level)) j ≡ Some s in
          let code_is : slice_get cells cell ≡ Some other = subst P same.1 at_k in
          let set_is : slice_get (slice_set running cell (changed_to r last level)) cell ≡ Some s = subst Q same.1 is_k in
          let put : slice_get (slice_set running cell (changed_to r last level)) cell ≡ Some (changed_to r last level) =
          get_set_same running cell (changed_to r last level) (slice_get_within running cell r is) in
          let code_same : code ≡ other = cc in
          let s_same : changed_to r last level ≡ s = cc in
          let F : List ℕ → Type 0 = λ q. Follows q last (events ++ event ∷ []) s in
          let G : Running → Type 0 = λ t. Follows code last (events ++ event ∷ []) t in
          subst F code_same (subst G s_same (follows_change code last events r level (each cell code r at is)))
      | inr away ↦
          let old : slice_get running k ≡ Some s = sym (get_set_other running cell k (changed_to r last level) away.1) ∙ is_k in
          follows_other other last events s event (differ code other (apart k other at_k away.1)) (each k other s at_k old)
    ]

pub keeps_port : (sought : Sought) (past : Past) (table : Table) (levels new : Levels) (code : List ℕ) (cell limit : ℕ) (level : Level)
    → IsTable past.header sought table → role_of table.codes code ≡ Some (OfPort cell limit) → new.time ≡ levels.time
    → new.running.items ≡ with_change levels.running.items cell levels.time level
    → Keeps (cell_codes table) past levels → Keeps (cell_codes table) (with_event past code level) new
keeps_port sought past table levels new code cell limit level t has same_time running keeps =
    let at : slice_get (cell_codes table) cell ≡ Some code = (t.role code (OfPort cell limit) has).2 in
    let within : cell < length levels.running.items = omega (arith, keeps.count, slice_get_within (cell_codes table) cell code at) in
    let old = slice_get-some levels.running.items cell within in
    let timed : with_change levels.running.items cell levels.time level ≡ with_change levels.running.items cell past.time level =
    ap (λ time. with_change levels.running.items cell time level) keeps.time in
    let set : new.running.items ≡ slice_set levels.running.items cell (changed_to old.0 past.time level) =
    running ∙ timed ∙ change_within levels.running.items cell past.time level old.0 old.1 in
    let K : List Running → Type 0 = KeepsAll (cell_codes table) past.time (past.events ++ (record { time = past.time; code = code; level = level }) ∷ []) in
    record {
      time = same_time ∙ keeps.time;
      count = ap length set ∙ length-set levels.running.items cell (changed_to old.0 past.time level) ∙ keeps.count;
      events = past_more past.time past.events code level keeps.events;
      each = subst K (sym set)
          (keeps_cells (cell_codes table) past.time past.events levels.running.items cell code level old.0 at old.1
          (λ k other at_k away. apart_port past.header sought table code cell limit k other t has at_k away) keeps.each);
    }
