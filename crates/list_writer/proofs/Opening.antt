-- What is written before a search: the log is begun with its head and the steps of the session, and the lines of the session's sets are printed.
use Rattle.std.proofs.Common.{◌≡◌, inl, inr, ℕ, zero, suc, ◌+◌, ◌<◌, ◌≤◌, List, [], ◌∷◌, ◌++◌, length, get_or, map, take, drop}
use Rattle.std.proofs.Common.{Option, Some, None, Result, Ok, Err, refl, ap, sym, ◌∙◌, subst, arith}
use Rattle.std.specs.Prelude.{All, cond, count_by}
use Rattle.std.proofs.lemmas.List.{append-nil, get_or-map, length-map, take-append-drop, take_all, take_more}
use Rattle.std.proofs.lemmas.List.Sums.{sum_by-cons}
use Rattle.design_core.specs.declared.values.SetWithValues.{SetWithValues}
use Rattle.log_portions.specs.Portions.{head_text, steps_text}
use Rattle.report_doc.specs.Lines.{IsMemberOf}
use Rattle.suspect_map.specs.declared.group.Group.{Group}
use Rattle.write_order.specs.declared.write.WriteErr.{WriteErr}
use Rattle.write_order.specs.declared.write.WriteErr.TheVariants as write
use Rattle.write_order.specs.Writes.{AreDone, Leaves, Outputs, PrintCause, StopsIn, Write, begin_text, on_sink, print_piece, put_piece}
use Rattle.write_order.proofs.Carried.{done-then, stops-then, stops-within}
use Rattle.command_contract.specs.Contract.{counts_of}
use Rattle.io_ports.specs.Faults.{FaultCounts, Rose}
use Rattle.debug_core.specs.Debugging.{DebugState, IsDebugger}
use Rattle.debug_core.specs.Problems.{IsFormFor, Problem}
use Rattle.list_writer.specs.declared.stop.Stop.{Stop}
use Rattle.list_writer.specs.declared.stop.Stop.TheVariants.{Failed, Memory}
use Rattle.list_writer.specs.Asked.{Asked}
use Rattle.list_writer.specs.Found.{IsShown}
use Rattle.list_writer.specs.Jobs.{GoesWith}
use Rattle.list_writer.specs.Due.{first_writes, going_on, opening, prints, so_far}
use Rattle.list_writer.specs.Going.{AreMembers, AreShort, LinesLeave, OpenLeaves, RunLeaves, SinkCause, StopCauses, lines_writes, outputs}
use Rattle.list_writer.specs.Stops.{stopped}
use Rattle.list_writer.specs.Texts.{lines_of}
use Rattle.list_writer.proofs.Pairs.{none-of-one}
use Rattle.list_writer.proofs.SoFar.{nothing-found}

abbrev Texts : Type 0
Texts = List ℕ → Option (List ℕ)

-- ---- before the search
-- the lines of sets print one set each
lines-print : (asked : Asked) (sets : List SetWithValues) (ws : List Write)
    → count_by prints (lines_writes asked sets ++ ws) ≡ length sets + count_by prints ws
lines-print asked [] ws = omega arith
lines-print asked (set ∷ sets) ws = omega (
  arith,
  sum_by-cons (λ w. cond (prints w) 1 0) (print_piece (lines_of asked set)) (lines_writes asked sets ++ ws),
  lines-print asked sets ws,
)

lines-counted : (asked : Asked) (sets : List SetWithValues) (n : ℕ) → n ≤ length (lines_writes asked sets)
    → count_by prints (take n (lines_writes asked sets)) ≡ n
lines-counted asked sets zero few = refl
lines-counted asked [] (suc n) few = absurd (omega (arith, few))
lines-counted asked (set ∷ sets) (suc n) few = omega (
  arith,
  sum_by-cons (λ w. cond (prints w) 1 0) (print_piece (lines_of asked set)) (take n (lines_writes asked sets)),
  lines-counted asked sets n (omega (arith, few)),
)

-- the put of the head, with the steps of the session
abbrev pub head_put : Asked → Write
head_put asked = put_piece asked.log (head_text asked.inputs ++ steps_text asked.session.log)

head-print : (asked : Asked) (ws : List Write) → count_by prints (begin_text asked.log ∷ head_put asked ∷ ws) ≡ count_by prints ws
head-print asked ws = omega (
  arith,
  sum_by-cons (λ w. cond (prints w) 1 0) (begin_text asked.log) (head_put asked ∷ ws),
  sum_by-cons (λ w. cond (prints w) 1 0) (head_put asked) ws,
)

pub first-print : (asked : Asked) (ws : List Write)
    → count_by prints (first_writes asked ++ ws) ≡ length asked.session.sets + count_by prints ws
first-print asked ws =
    head-print asked (lines_writes asked asked.session.sets ++ ws) ∙ lines-print asked asked.session.sets ws

-- ---- the lines, one set after another
lines-more : (asked : Asked) (found : List SetWithValues) (count : ℕ) (d : SetWithValues) → count < length found
    → take (count + 1) (lines_writes asked found)
    ≡ take count (lines_writes asked found) ++ print_piece (lines_of asked (get_or found count d)) ∷ []
lines-more asked found count d low =
    let one : SetWithValues → Write = λ (set : SetWithValues). print_piece (lines_of asked set) in
    take_more (lines_writes asked found) count (one d) (omega (arith, low, length-map found one))
    ∙ ap (λ (w : Write). take count (lines_writes asked found) ++ w ∷ []) (get_or-map one found count d (one d) low)

-- the lines of a set behind those of so many
module _ (asked : Asked) (found : List SetWithValues) (count : ℕ) (set d : SetWithValues) (low : count < length found)
    (here : get_or found count d ≡ set) (written : Texts) (printed mid_printed now_printed : List ℕ)
    (before : AreDone (take count (lines_writes asked found)) (on_sink written printed mid_printed)) where
  abbrev lines_there : List Write
  lines_there = lines_writes asked found

  abbrev line : List Write
  line = print_piece (lines_of asked set) ∷ []

  more-lines : take count lines_there ++ line ≡ take (count + 1) lines_there
  more-lines =
      ap (λ (one : SetWithValues). take count lines_there ++ print_piece (lines_of asked one) ∷ []) (sym here)
      ∙ sym (lines-more asked found count d low)

  -- are printed
  pub line-done : AreDone line (on_sink written mid_printed now_printed)
      → AreDone (take (count + 1) lines_there) (on_sink written printed now_printed)
  line-done done =
      subst (λ (ws : List Write). AreDone ws (on_sink written printed now_printed)) more-lines
      (done-then (take count lines_there) line written written written printed mid_printed now_printed before done)

  -- or aren't
  pub line-stopped : (r : Result (Unit {0}) WriteErr) (why : Stop) → stopped r (Some count) ≡ Err why
      → Leaves line (on_sink written mid_printed now_printed) r
      → LinesLeave {X = Unit {0}} lines_there (on_sink written printed now_printed) (Err why)
  line-stopped (Ok x) why same left = absurd (cc)
  line-stopped (Err write.Failed) why same left = failed why same
    where
      stop : StopsIn lines_there (on_sink written printed now_printed)
      stop =
          subst (λ (ws : List Write). StopsIn ws (on_sink written printed now_printed)) (take-append-drop (count + 1) lines_there)
          (stops-within (take (count + 1) lines_there) (drop (count + 1) lines_there) (on_sink written printed now_printed)
          (subst (λ (ws : List Write). StopsIn ws (on_sink written printed now_printed)) more-lines
          (stops-then (take count lines_there) line written written written printed mid_printed now_printed before left)))

      failed : (why : Stop) → ◌≡◌ {A = Result (Unit {0}) Stop} (Err Failed) (Err why)
          → LinesLeave {X = Unit {0}} lines_there (on_sink written printed now_printed) (Err why)
      failed Failed same = stop
      failed (Memory sets) same = absurd (cc)
  line-stopped (Err write.NoMemory) why same left = short why same
    where
      done : AreDone (take count lines_there) (on_sink written printed now_printed)
      done =
          subst (λ (ws : List Write). AreDone ws (on_sink written printed now_printed)) (append-nil (take count lines_there))
          (done-then (take count lines_there) [] written written written printed mid_printed now_printed before
          (none-of-one (print_piece (lines_of asked set)) (on_sink written mid_printed now_printed) left))

      within : count ≤ length lines_there
      within = omega (arith, low, length-map found (λ (one : SetWithValues). print_piece (lines_of asked one)))

      short : (why : Stop) → ◌≡◌ {A = Result (Unit {0}) Stop} (Err (Memory (Some count))) (Err why)
          → LinesLeave {X = Unit {0}} lines_there (on_sink written printed now_printed) (Err why)
      short Failed same = absurd (cc)
      short (Memory sets) same = (count, within, cc, done)

-- all of them are printed
pub lines-done : (asked : Asked) (found : List SetWithValues) (count : ℕ) (o : Outputs) → length found ≤ count
    → AreDone (take count (lines_writes asked found)) o → AreDone (lines_writes asked found) o
lines-done asked found count o past done =
    subst (λ (ws : List Write). AreDone ws o) (take_all count (lines_writes asked found)
    (omega (arith, past, length-map found (λ (set : SetWithValues). print_piece (lines_of asked set))))) done

-- the sink's count of faults
pub sink-stopped : (old mid new : ℕ) (r : Result (Unit {0}) WriteErr) (sets : Option ℕ) (why : Stop) → mid ≡ old → stopped r sets ≡ Err why
    → PrintCause mid new r → SinkCause {X = Unit {0}} old new (Err why)
sink-stopped old mid new (Ok x) sets why before same cause = absurd (cc)
sink-stopped old mid new (Err write.Failed) sets Failed before same cause = subst (λ (n : ℕ). Rose n new) before cause
sink-stopped old mid new (Err write.Failed) sets (Memory n) before same cause = absurd (cc)
sink-stopped old mid new (Err write.NoMemory) sets Failed before same cause = absurd (cc)
sink-stopped old mid new (Err write.NoMemory) sets (Memory n) before same cause = cause ∙ before

pub sink-same : (old mid new : ℕ) (r : Result (Unit {0}) WriteErr) (sets : Option ℕ) (x : Unit {0}) → mid ≡ old → stopped r sets ≡ Ok x
    → PrintCause mid new r → new ≡ old
sink-same old mid new (Ok y) sets x before same cause = cause ∙ before
sink-same old mid new (Err write.Failed) sets x before same cause = absurd (cc)
sink-same old mid new (Err write.NoMemory) sets x before same cause = absurd (cc)

-- with the shelf's, where no write of it failed
pub sink-causes : (shelf now_shelf : FaultCounts) (sink now_sink : ℕ) (r : Result (Unit {0}) Stop) → now_shelf ≡ shelf
    → SinkCause sink now_sink r → StopCauses (counts_of shelf now_shelf sink now_sink) r
sink-causes shelf now_shelf sink now_sink (Ok x) same cause = (same, cause)
sink-causes shelf now_shelf sink now_sink (Err Failed) same cause = inr cause
sink-causes shelf now_shelf sink now_sink (Err (Memory sets)) same cause = (same, cause)

-- ---- all that is written before a search
-- where the texts are as before, nothing is done
pub nothing-done : (before behind : Texts) (printed : List ℕ) → behind ≡ before → AreDone [] (outputs before behind printed printed)
nothing-done before behind printed same = record { texts = λ name. ap (λ (w : Texts). w name) same; printed = sym (append-nil printed) }

-- what a write comes to
open-failed : (writes : List Write) (o : Outputs) (why : Stop) → ◌≡◌ {A = Result (Unit {0}) Stop} (Err Failed) (Err why)
    → StopsIn writes o → OpenLeaves {X = Unit {0}} writes o (Err why)
open-failed writes o Failed same stop = stop
open-failed writes o (Memory sets) same stop = absurd (cc)

open-short : (writes : List Write) (o : Outputs) (sets : Option ℕ) (why : Stop)
    → ◌≡◌ {A = Result (Unit {0}) Stop} (Err (Memory sets)) (Err why) → AreShort writes sets o → OpenLeaves {X = Unit {0}} writes o (Err why)
open-short writes o sets Failed same short = absurd (cc)
open-short writes o sets (Memory more) same short = subst (λ n. AreShort writes n o) (cc) short

module _ (asked : Asked) where
  abbrev lines : List Write
  lines = lines_writes asked asked.session.sets

  abbrev begin : List Write
  begin = begin_text asked.log ∷ []

  -- a name can't be begun, and nothing is written
  pub open-ask : (o : Outputs) (r : Result (Unit {0}) WriteErr) (why : Stop) → stopped r None ≡ Err why → AreDone [] o
      → OpenLeaves {X = Unit {0}} (first_writes asked) o (Err why)
  open-ask o (Ok x) why same done = absurd (cc)
  open-ask o (Err write.Failed) why same done =
      open-failed (first_writes asked) o why same
      (record { count = 0; failed = begin_text asked.log; at = refl; part = []; is_part = inl refl; done = done })
  open-ask o (Err write.NoMemory) why same done =
      open-short (first_writes asked) o None why same (record { count = 0; within = omega arith; sets_are = refl; done = done })

  -- the log isn't begun
  pub open-begin : (o : Outputs) (r : Result (Unit {0}) WriteErr) (why : Stop) → stopped r None ≡ Err why → Leaves begin o r
      → OpenLeaves {X = Unit {0}} (first_writes asked) o (Err why)
  open-begin o (Ok x) why same left = absurd (cc)
  open-begin o (Err write.Failed) why same left =
      open-failed (first_writes asked) o why same (stops-within begin (head_put asked ∷ lines) o left)
  open-begin o (Err write.NoMemory) why same left =
      open-short (first_writes asked) o None why same (at left.count left.within left.done)
    where
      at : (count : ℕ) → count < 1 → AreDone (take count begin) o → AreShort (first_writes asked) None o
      at zero few done = record { count = 0; within = omega arith; sets_are = refl; done = done }
      at (suc count) few done = absurd (omega (arith, few))

  -- its head isn't put
  module _ (was mid is : Texts) (printed mid_printed now_printed : List ℕ)
      (before : AreDone begin (outputs was mid printed mid_printed)) where
    pub open-head : (r : Result (Unit {0}) WriteErr) (why : Stop) → stopped r (Some 0) ≡ Err why
        → Leaves (head_put asked ∷ []) (outputs mid is mid_printed now_printed) r
        → OpenLeaves {X = Unit {0}} (first_writes asked) (outputs was is printed now_printed) (Err why)
    open-head (Ok x) why same left = absurd (cc)
    open-head (Err write.Failed) why same left =
        open-failed (first_writes asked) (outputs was is printed now_printed) why same
        (stops-within (begin_text asked.log ∷ head_put asked ∷ []) lines (outputs was is printed now_printed)
        (stops-then begin (head_put asked ∷ []) was mid is printed mid_printed now_printed before left))
    open-head (Err write.NoMemory) why same left =
        open-short (first_writes asked) (outputs was is printed now_printed) (Some 0) why same (at left.count left.within left.done)
      where
        at : (count : ℕ) → count < 1 → AreDone (take count (head_put asked ∷ [])) (outputs mid is mid_printed now_printed)
            → AreShort (first_writes asked) (Some 0) (outputs was is printed now_printed)
        at zero few done = record {
          count = 1;
          within = omega arith;
          sets_are = refl;
          done = done-then begin [] was mid is printed mid_printed now_printed before done;
        }
        at (suc count) few done = absurd (omega (arith, few))

    -- both are done
    pub head-done : AreDone (head_put asked ∷ []) (outputs mid is mid_printed now_printed)
        → AreDone (begin_text asked.log ∷ head_put asked ∷ []) (outputs was is printed now_printed)
    head-done done = done-then begin (head_put asked ∷ []) was mid is printed mid_printed now_printed before done

  -- and the lines of the session's sets are printed, or some of them
  module _ (was mid is : Texts) (printed mid_printed now_printed : List ℕ)
      (before : AreDone (begin_text asked.log ∷ head_put asked ∷ []) (outputs was mid printed mid_printed)) where
    abbrev head : List Write
    head = begin_text asked.log ∷ head_put asked ∷ []

    pub open-lines : (r : Result (Unit {0}) Stop) → LinesLeave lines (outputs mid is mid_printed now_printed) r
        → OpenLeaves (first_writes asked) (outputs was is printed now_printed) r
    open-lines (Ok x) done = done-then head lines was mid is printed mid_printed now_printed before done
    open-lines (Err Failed) stop = stops-then head lines was mid is printed mid_printed now_printed before stop
    open-lines (Err (Memory sets)) left =
        let (count, few, are, done) = left in
        record {
          count = suc (suc count);
          within = omega (arith, few);
          sets_are = are ∙ ap Some (sym (head-print asked (take count lines) ∙ lines-counted asked asked.session.sets count few));
          done = done-then head (take count lines) was mid is printed mid_printed now_printed before done;
        }

-- the members of the sets that a debugger has listed are numbers of its suspects
pub found-members : (s : DebugState) (found : List SetWithValues) → IsDebugger s
    → s.listed ≡ map (λ (set : SetWithValues). set.members) found → (p : Problem) → s.problem ≡ p → AreMembers p.groups found
found-members s found holds listed p same i d within =
    let low : i < length s.listed = omega (arith, within, ap length listed, length-map found (λ (set : SetWithValues). set.members)) in
    let here : get_or s.listed i d.members ≡ (get_or found i d).members =
    ap (λ (sets : List (List ℕ)). get_or sets i d.members) listed
    ∙ get_or-map (λ (set : SetWithValues). set.members) found i d d.members within in
    subst (All (IsMemberOf p.groups)) here
    (subst (λ (other : Problem). All (IsMemberOf other.groups) (get_or s.listed i d.members)) same
    (subst (λ (n : ℕ). All (λ m. (1 ≤ m) × (m ≤ n)) (get_or s.listed i d.members))
    (length-map s.problem.groups (λ (group : Group). group.places)) (holds.front.entries i d.members low).suspects.numbers))

module _ (asked : Asked) (s : DebugState) (holds : IsDebugger s) (goes : GoesWith asked.problem asked.session s)
    (shown : All (IsShown asked.problem) asked.session.sets) where
  is-form : IsFormFor asked.problem s.vars s.form
  is-form = subst (λ (p : Problem). IsFormFor p s.vars s.form) goes.problem holds.form

  -- the search isn't begun
  pub open-stopped : (o : Outputs) (why : Stop) → OpenLeaves {X = Unit {0}} (first_writes asked) o (Err why)
      → RunLeaves asked o (Err why)
  open-stopped o Failed stop = record {
    vars = s.vars;
    form = s.form;
    is_form = is-form;
    due = opening asked [];
    is_due = so_far [] (nothing-found asked s goes holds shown);
    stops = stops-within (first_writes asked) [] o stop;
  }
  open-stopped o (Memory sets) short =
      let cut : AreShort (opening asked []) sets o =
      subst (λ (ws : List Write). AreShort ws sets o) (sym (append-nil (first_writes asked))) short in
      record {
        vars = s.vars;
        form = s.form;
        is_form = is-form;
        body = opening asked [];
        is_body = going_on [] (nothing-found asked s goes holds shown);
        count = cut.count;
        within = cut.within;
        sets_are = cut.sets_are;
        done = cut.done;
      }
