-- The promises of the command, where its lines were printed, and where a refusal's line ends it.
use Rattle.std.proofs.Common.{ℕ, ◌≡◌, ◌≢◌, ◌≤◌, Bool, true, false, List, [], ◌++◌, take, ap, sym, refl, subst, ◌∙◌, arith, ◌⊎◌, inl, inr}
use Rattle.std.specs.Prelude.{◌&&◌, if◌then◌else◌, not}
use Rattle.std.proofs.lemmas.List.{append-nil}
use Rattle.command_contract.specs.Contract.{Causes, IsStatus, Keeps, NamesFault, OneRose, Run, Texts}
use Rattle.design_core.specs.declared.design.Design.{Design}
use Rattle.design_core.specs.declared.trace.Trace.{Trace}
use Rattle.io_ports.specs.Faults.{Rose}
use Rattle.command_contract.proofs.Statuses.{input-range, input-refusal}
use Rattle.front_end.specs.Means.{IsReady, Meaning, Refusing}
use Rattle.load_texts.specs.Means.{Means}
use Rattle.refusal.specs.Lines.{memory_line}
use Rattle.refusal.specs.Stops.{LineCut, LineStops}
use Rattle.refusal.proofs.Keeping.{EndsByLines}
use Rattle.requests.specs.Asked.{SimAsked, SourcesAsked}
use Rattle.sim_lines.specs.Lines.{AreLines, Line, are_right, text_of}
use Rattle.sim_lines.proofs.SomeLines.{some-lines as some-lines-of}
use Rattle.sim_cmd.specs.Ends.{EndsShown, ShownCounts}
use Rattle.sim_cmd.specs.Simulation.{IsAnswer, IsCut, IsDone, IsDue, IsStopped, MayStand, Refused, Simulated, simulation, told_status}

-- the status that tells is an answer's
either-answer : (exit_code right : Bool) → IsAnswer exit_code (if exit_code && not right then 9 else 0)
either-answer true true = inl refl
either-answer true false = inr (refl, refl)
either-answer false right = inl refl

answer-told : (exit_code : Bool) (lines : List Line) (status : ℕ) → status ≡ told_status exit_code lines → IsAnswer exit_code status
answer-told exit_code lines status e = subst (IsAnswer exit_code) (sym e) (either-answer exit_code (are_right lines))

module _ (M : Meaning) (R : Refusing) (asked : SimAsked) (run : Run) where
  abbrev sources : SourcesAsked
  sources = asked.sources

  -- ---- a refusal's line
  -- a line that was due is due here
  line-due : (line : List ℕ)
      → ((status : ℕ) × Refused M R sources run.texts status line × NamesFault run.counts.shelf run.counts.now_shelf status line)
      ⊎ (line ≡ memory_line)
      → IsDue M R sources run.texts run.counts line
  line-due line (inl refused) = inr (inl refused)
  line-due line (inr memory) = inr (inr (inr (inl memory)))

  line-stops : LineStops (Refused M R sources run.texts) run → IsStopped M R sources run
  line-stops is = record {
    due = is.line;
    is_due = line-due is.line is.is_due;
    printed = is.printed;
    sink_failed = is.sink_failed;
    nothing_written = is.nothing_written;
  }

  cut-at : run.now_written ≡ run.written → (run.now_printed ≡ run.printed) ⊎ (run.now_printed ≡ run.printed ++ memory_line)
      → IsCut M sources run
  cut-at nothing (inl same) = record {
    front = [];
    may_stand = inl refl;
    printed = same ∙ sym (append-nil run.printed);
    nothing_written = nothing;
  }
  cut-at nothing (inr put) =
      record { front = memory_line; may_stand = inr (inl refl); printed = put; nothing_written = nothing }

  line-cut : LineCut run → IsCut M sources run
  line-cut is = cut-at is.nothing_written is.printed

  -- an answer's status is none of 2 to 7
  no-answer : (s : ℕ) → IsAnswer asked.exit_code s → 2 ≤ s → s ≤ 7 → ⊥
  no-answer s (inl e) least most = omega (arith, e, least)
  no-answer s (inr (tells, e)) least most = omega (arith, e, most)

  pub ends-by_lines : EndsByLines (simulation M R asked) run
  ends-by_lines = record {
    no_answer = no-answer;
    may_refuse = λ s is. is;
    refuses = λ s is. is;
    stands = λ nothing. nothing;
    stops = λ failed is. line-stops is;
    cut = λ is. line-cut is;
  }

  -- ---- lines that were printed
  -- some lines are those of the traces, and they, or a front of them, were printed
  abbrev Shown : ℕ → Type 0
  Shown status =
      (lines : List Line) × Simulated M sources run.texts lines × EndsShown asked.exit_code lines run.printed run.now_printed status

  shown-done : (status : ℕ) → Shown status → run.now_written ≡ run.written → IsAnswer asked.exit_code status → IsDone M asked run status
  shown-done status (lines, is, inl (e, put)) nothing may =
      record { lines = lines; simulated = is; tells = e; printed = put; nothing_written = nothing }
  shown-done status (lines, is, inr (inl (e, fails))) nothing may = absurd (no-answer status may (omega (arith, e)) (omega (arith, e)))
  shown-done status (lines, is, inr (inr (e, ends))) nothing may = absurd (no-answer status may (omega (arith, e)) (omega (arith, e)))

  -- some of them, and `memory`
  some-lines : (lines : List Line) (count : ℕ) (front : List ℕ) → Simulated M sources run.texts lines
      → run.counts.now_shelf ≡ run.counts.shelf
      → (front ≡ text_of (take count lines)) ⊎ (front ≡ text_of (take count lines) ++ memory_line)
      → MayStand M sources run.texts run.counts front
  some-lines lines count front is loaded which =
      inr (inr (record { lines = lines; simulated = is; untroubled = loaded; count = count; is = which }))

  shown-stopped : (status : ℕ) → Shown status → run.now_written ≡ run.written → run.counts.now_shelf ≡ run.counts.shelf
      → Rose run.counts.sink run.counts.now_sink → status ≡ 6 → IsStopped M R sources run
  shown-stopped status (lines, is, inl (e, put)) nothing loaded rose six =
      absurd (no-answer status (answer-told asked.exit_code lines status e) (omega (arith, six)) (omega (arith, six)))
  shown-stopped status (lines, is, inr (inl (e, inl front))) nothing loaded rose six = record {
    due = text_of lines;
    is_due = inl (lines, is, loaded, refl);
    printed = front;
    sink_failed = rose;
    nothing_written = nothing;
  }
  shown-stopped status (lines, is, inr (inl (e, inr (count, front)))) nothing loaded rose six = record {
    due = text_of (take count lines) ++ memory_line;
    is_due = inr (inr (some-lines lines count _ is loaded (inr refl)));
    printed = front;
    sink_failed = rose;
    nothing_written = nothing;
  }
  shown-stopped status (lines, is, inr (inr (e, ends))) nothing loaded rose six = absurd (omega (arith, e, six))

  shown-cut : (status : ℕ) → Shown status → run.now_written ≡ run.written → run.counts.now_shelf ≡ run.counts.shelf
      → status ≡ 7 → IsCut M sources run
  shown-cut status (lines, is, inl (e, put)) nothing loaded seven =
      absurd (no-answer status (answer-told asked.exit_code lines status e) (omega (arith, seven)) (omega (arith, seven)))
  shown-cut status (lines, is, inr (inl (e, fails))) nothing loaded seven = absurd (omega (arith, e, seven))
  shown-cut status (lines, is, inr (inr (e, (count, inl put)))) nothing loaded seven = record {
    front = text_of (take count lines);
    may_stand = some-lines lines count _ is loaded (inl refl);
    printed = put;
    nothing_written = nothing;
  }
  shown-cut status (lines, is, inr (inr (e, (count, inr put)))) nothing loaded seven = record {
    front = text_of (take count lines) ++ memory_line;
    may_stand = some-lines lines count _ is loaded (inr refl);
    printed = put;
    nothing_written = nothing;
  }

  -- ---- the counts of faults
  abbrev Sunk : ℕ → Type 0
  Sunk status = ShownCounts asked.exit_code run.counts.sink run.counts.now_sink status

  shown-status : (status : ℕ) → Sunk status → IsStatus (simulation M R asked) status
  shown-status status (inl (e, same)) = inl e
  shown-status status (inr (inl (e, rose))) = inr (inr (inl e))
  shown-status status (inr (inr (e, same))) = inr (inr (inr e))

  shown-rose : (status : ℕ) → Sunk status → status ≡ 6 → Rose run.counts.sink run.counts.now_sink
  shown-rose status (inl (may, same)) six = absurd (no-answer status may (omega (arith, six)) (omega (arith, six)))
  shown-rose status (inr (inl (e, rose))) six = rose
  shown-rose status (inr (inr (e, same))) six = absurd (omega (arith, e, six))

  shown-same : (status : ℕ) → Sunk status → status ≢ 6 → run.counts.now_sink ≡ run.counts.sink
  shown-same status (inl (e, same)) other = same
  shown-same status (inr (inl (e, rose))) other = absurd (other e)
  shown-same status (inr (inr (e, same))) other = same

  shown-high : (status : ℕ) → Sunk status → 1 ≤ status → 6 ≤ status
  shown-high status (inl (inl e, same)) some = absurd (omega (arith, e, some))
  shown-high status (inl (inr (tells, e), same)) some = omega (arith, e)
  shown-high status (inr (inl (e, rose))) some = omega (arith, e)
  shown-high status (inr (inr (e, same))) some = omega (arith, e)

  shown-causes : (status : ℕ) → Sunk status → run.counts.now_shelf ≡ run.counts.shelf
      → Causes (simulation M R asked) run.counts status
  shown-causes status sunk loaded = record {
    answer = λ may. (loaded, shown-same status sunk (λ six. no-answer status may (omega (arith, six)) (omega (arith, six))));
    none = λ low. (loaded, shown-same status sunk (λ six. omega (arith, six, low)));
    read = λ five. absurd (omega (arith, five, shown-high status sunk (omega (arith, five))));
    write = λ six. inr (shown-rose status sunk six);
    memory = λ seven. shown-same status sunk (λ six. omega (arith, six, seven));
  }

  shown-complete : (status : ℕ) → Sunk status → ¬ OneRose run.counts → IsAnswer asked.exit_code status ⊎ (status ≡ 7)
  shown-complete status (inl (e, same)) none = inl e
  shown-complete status (inr (inl (e, rose))) none = absurd (none (inr rose))
  shown-complete status (inr (inr (e, same))) none = inr e

  -- ---- all of them
  pub shown-keeps : (status : ℕ) → (run.told ≡ true → Shown status) → run.now_written ≡ run.written
      → run.counts.now_shelf ≡ run.counts.shelf → Sunk status → Keeps (simulation M R asked) run status
  shown-keeps status shown nothing loaded sunk = record {
    is_status = shown-status status sunk;
    refusals = input-refusal;
    answered = λ told may. shown-done status (shown told) nothing may;
    refused = λ told is. absurd (omega (arith, input-range status is, shown-high status sunk (omega (arith, input-range status is))));
    stopped = λ told six. shown-stopped status (shown told) nothing loaded (shown-rose status sunk six) six;
    cut = λ told seven. shown-cut status (shown told) nothing loaded seven;
    others = λ told name may. ap (λ texts. texts name) nothing;
    causes = shown-causes status sunk loaded;
    complete = λ told ready none. shown-complete status sunk none;
  }

-- of a design and traces that were loaded
pub shown-of : (M : Meaning) (asked : SourcesAsked) (texts : Texts) (d : Design) (order : List ℕ) (traces : List Trace)
    (exit_code : Bool) (old new : List ℕ) (status : ℕ) → IsReady d order → Means M asked texts d traces
    → ((lines : List Line) → AreLines d 1 traces lines → EndsShown exit_code lines old new status)
    → (lines : List Line) × Simulated M asked texts lines × EndsShown exit_code lines old new status
shown-of M asked texts d order traces exit_code old new status ready means ends =
    let (lines, are) = some-lines-of d order
    (record { well_formed = ready.well_formed; once = ready.once; ordered = ready.ordered }) 1 traces in
    (lines, record { design = d; traces = traces; means = means; are = are }, ends lines are)
