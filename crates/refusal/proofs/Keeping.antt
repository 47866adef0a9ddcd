-- The promises of a command, where a run of it ends by the line of a refusal.
use Rattle.std.proofs.Common.{ℕ, ◌≡◌, ◌≢◌, ◌≤◌, true, ap, refl, sym, subst, ◌∙◌, arith, inl, inr}
use Rattle.io_ports.specs.Faults.{LoadRose, Rose}
use Rattle.command_contract.specs.Contract.{Case, Causes, EndsRefused, IsInputRefusal, IsStatus, Keeps, NothingWritten, OneRose, Run, WriteFailed}
use Rattle.command_contract.proofs.Statuses.{input-range, input-refusal}
use Rattle.refusal.specs.Lines.{memory_line}
use Rattle.refusal.specs.declared.last_line.LastLine.{LastLine}
use Rattle.refusal.specs.declared.last_line.LastLine.TheVariants.{Line, Memory}
use Rattle.refusal.specs.Ends.{HasCause, HasStatus, IsSpared, PrintCounts, Prints, RefusalCounts, line_of, status_of}
use Rattle.refusal.specs.Stops.{LineCut, LineStops}

-- a case that such a run may be of: no answer has a status of 2 to 7, its refusals are those of inputs, and it says of a run that is
-- refused, of one that a line stops, and of one that is cut there, no more than these
pub record EndsByLines (c : Case) (run : Run) : Type 0 where
  pub no_answer : (s : ℕ) → c.MayAnswer s → 2 ≤ s → s ≤ 7 → ⊥
  pub may_refuse : (s : ℕ) → IsInputRefusal s → c.MayRefuse s
  pub refuses : (s : ℕ) → c.MayRefuse s → IsInputRefusal s
  pub stands : NothingWritten run → c.Stands run
  pub stops : WriteFailed run.counts → LineStops (c.Refused run) run → c.Stopped run
  pub cut : LineCut run → c.Cut run

-- what is known of a run that prints a refusal's line, and ends with a status
pub record IsRefused (c : Case) (run : Run) (refusal : LastLine) (status : ℕ) : Type 0 where
  pub has_status : HasStatus refusal
  pub cause : run.told ≡ true → HasCause (c.Refused run) refusal
  pub nothing : run.now_written ≡ run.written
  pub prints : run.told ≡ true → Prints (line_of refusal) (status_of refusal) run.printed run.now_printed status
  pub shelf : RefusalCounts run.counts.shelf run.counts.now_shelf refusal
  pub sink : PrintCounts (status_of refusal) run.counts.sink run.counts.now_sink status
  pub spared : run.told ≡ true → c.Ready run → IsSpared refusal

-- the status of a refusal is 2 to 7, and not 6
status-range : (refusal : LastLine) → HasStatus refusal → (2 ≤ status_of refusal) × (status_of refusal ≤ 7)
status-range (Line s line) has = (omega (arith, input-range s has), omega (arith, input-range s has))
status-range Memory has = (omega arith, omega arith)

not-six : (refusal : LastLine) → HasStatus refusal → status_of refusal ≢ 6
not-six (Line s line) has e = omega (arith, e, input-range s has)
not-six Memory has e = omega (arith, e)

module _ (c : Case) (run : Run) where
  abbrev Refuses : LastLine → ℕ → Type 0
  Refuses = IsRefused c run

  -- the status that the run ends with
  ended-range : (refusal : LastLine) (status : ℕ) → HasStatus refusal
      → PrintCounts (status_of refusal) run.counts.sink run.counts.now_sink status → (2 ≤ status) × (status ≤ 7)
  ended-range refusal status has (inl (e, rose)) = (omega (arith, e), omega (arith, e))
  ended-range refusal status has (inr (inl e, same)) =
      (omega (arith, e, status-range refusal has), omega (arith, e, status-range refusal has))
  ended-range refusal status has (inr (inr e, same)) = (omega (arith, e), omega (arith, e))

  -- so that it is no answer
  no-answer : EndsByLines c run → (refusal : LastLine) (status : ℕ) → Refuses refusal status → c.MayAnswer status → ⊥
  no-answer ends refusal status is may =
      let range = ended-range refusal status is.has_status is.sink in
      ends.no_answer status may range.0 range.1

  line-status : EndsByLines c run → (refusal : LastLine) (status : ℕ) → HasStatus refusal
      → PrintCounts (status_of refusal) run.counts.sink run.counts.now_sink status → IsStatus c status
  line-status ends refusal status has (inl (e, rose)) = inr (inr (inl e))
  line-status ends (Line s line) status has (inr (inl e, same)) =
      inr (inl (ends.may_refuse status (subst IsInputRefusal (sym e) has)))
  line-status ends Memory status has (inr (inl e, same)) = inr (inr (inr e))
  line-status ends refusal status has (inr (inr e, same)) = inr (inr (inr e))

  -- ---- what it leaves
  line-refused : EndsByLines c run → (refusal : LastLine) (status : ℕ) → HasStatus refusal → HasCause (c.Refused run) refusal
      → run.now_written ≡ run.written → Prints (line_of refusal) (status_of refusal) run.printed run.now_printed status
      → RefusalCounts run.counts.shelf run.counts.now_shelf refusal → IsInputRefusal status → EndsRefused c run status
  line-refused ends (Line s line) status has cause nothing (inl (e, put)) shelf is = record {
    line = line.items;
    refused = subst (λ n. HasCause (c.Refused run) (Line n line)) (sym e) cause;
    named = λ five. shelf.0 (sym e ∙ five);
    printed = put;
    stands = ends.stands nothing;
  }
  line-refused ends Memory status has cause nothing (inl (e, put)) shelf is = absurd (omega (arith, e, input-range status is))
  line-refused ends refusal status has cause nothing (inr (inl (e, front))) shelf is = absurd (omega (arith, e, input-range status is))
  line-refused ends refusal status has cause nothing (inr (inr (e, same))) shelf is = absurd (omega (arith, e, input-range status is))

  line-stops : (refusal : LastLine) (status : ℕ) → HasStatus refusal → HasCause (c.Refused run) refusal
      → run.now_written ≡ run.written → Prints (line_of refusal) (status_of refusal) run.printed run.now_printed status
      → RefusalCounts run.counts.shelf run.counts.now_shelf refusal
      → Rose run.counts.sink run.counts.now_sink → status ≡ 6 → LineStops (c.Refused run) run
  line-stops refusal status has cause nothing (inl (e, put)) shelf rose six = absurd (not-six refusal has (sym e ∙ six))
  line-stops (Line s line) status has cause nothing (inr (inl (e, front))) shelf rose six = record {
    line = line.items;
    is_due = inl (s, cause, shelf.0);
    printed = front;
    sink_failed = rose;
    nothing_written = nothing;
  }
  line-stops Memory status has cause nothing (inr (inl (e, front))) shelf rose six = record {
    line = memory_line;
    is_due = inr refl;
    printed = front;
    sink_failed = rose;
    nothing_written = nothing;
  }
  line-stops refusal status has cause nothing (inr (inr (e, same))) shelf rose six = absurd (omega (arith, e, six))

  line-cut : (refusal : LastLine) (status : ℕ) → HasStatus refusal → run.now_written ≡ run.written
      → Prints (line_of refusal) (status_of refusal) run.printed run.now_printed status → status ≡ 7 → LineCut run
  line-cut (Line s line) status has nothing (inl (e, put)) seven = absurd (omega (arith, e, seven, input-range s has))
  line-cut Memory status has nothing (inl (e, put)) seven = record { printed = inr put; nothing_written = nothing }
  line-cut refusal status has nothing (inr (inl (e, front))) seven = absurd (omega (arith, e, seven))
  line-cut refusal status has nothing (inr (inr (e, same))) seven = record { printed = inl same; nothing_written = nothing }

  -- ---- the counts of faults
  sink-rose : (refusal : LastLine) (status : ℕ) → HasStatus refusal
      → PrintCounts (status_of refusal) run.counts.sink run.counts.now_sink status → status ≡ 6
      → Rose run.counts.sink run.counts.now_sink
  sink-rose refusal status has (inl (e, rose)) six = rose
  sink-rose refusal status has (inr (inl e, same)) six = absurd (not-six refusal has (sym e ∙ six))
  sink-rose refusal status has (inr (inr e, same)) six = absurd (omega (arith, e, six))

  sink-same : (refusal : LastLine) (status : ℕ)
      → PrintCounts (status_of refusal) run.counts.sink run.counts.now_sink status → status ≢ 6
      → run.counts.now_sink ≡ run.counts.sink
  sink-same refusal status (inl (e, rose)) other = absurd (other e)
  sink-same refusal status (inr (which, same)) other = same

  shelf-same : (refusal : LastLine) (status : ℕ) → RefusalCounts run.counts.shelf run.counts.now_shelf refusal
      → PrintCounts (status_of refusal) run.counts.sink run.counts.now_sink status → status ≤ 4
      → run.counts.now_shelf ≡ run.counts.shelf
  shelf-same refusal status shelf (inl (e, rose)) low = absurd (omega (arith, e, low))
  shelf-same (Line s line) status shelf (inr (inl e, same)) low = shelf.1 (λ five. omega (arith, e, five, low))
  shelf-same Memory status shelf (inr (inl e, same)) low = absurd (omega (arith, e, low))
  shelf-same refusal status shelf (inr (inr e, same)) low = absurd (omega (arith, e, low))

  shelf-rose : (refusal : LastLine) (status : ℕ) → RefusalCounts run.counts.shelf run.counts.now_shelf refusal
      → PrintCounts (status_of refusal) run.counts.sink run.counts.now_sink status → status ≡ 5
      → LoadRose run.counts.shelf run.counts.now_shelf
  shelf-rose refusal status shelf (inl (e, rose)) five = absurd (omega (arith, e, five))
  shelf-rose (Line s line) status shelf (inr (inl e, same)) five = (shelf.0 (sym e ∙ five)).0
  shelf-rose Memory status shelf (inr (inl e, same)) five = absurd (omega (arith, e, five))
  shelf-rose refusal status shelf (inr (inr e, same)) five = absurd (omega (arith, e, five))

  line-causes : EndsByLines c run → (refusal : LastLine) (status : ℕ) → Refuses refusal status → Causes c run.counts status
  line-causes ends refusal status is = record {
    answer = λ may. absurd (no-answer ends refusal status is may);
    none = λ small. (
      shelf-same refusal status is.shelf is.sink small,
      sink-same refusal status is.sink (λ six. omega (arith, six, small)),
    );
    read = λ five. (
      shelf-rose refusal status is.shelf is.sink five,
      sink-same refusal status is.sink (λ six. omega (arith, six, five)),
    );
    write = λ six. inr (sink-rose refusal status is.has_status is.sink six);
    memory = λ seven. sink-same refusal status is.sink (λ six. omega (arith, six, seven));
  }

  -- where no count rises it ends with 7
  line-complete : (refusal : LastLine) (status : ℕ) → IsSpared refusal
      → RefusalCounts run.counts.shelf run.counts.now_shelf refusal
      → PrintCounts (status_of refusal) run.counts.sink run.counts.now_sink status → ¬ OneRose run.counts → status ≡ 7
  line-complete refusal status spared shelf (inl (e, rose)) none = absurd (none (inr rose))
  line-complete (Line s line) status spared shelf (inr (inl e, same)) none = absurd (none (inl (shelf.0 spared).0.0))
  line-complete Memory status spared shelf (inr (inl e, same)) none = e
  line-complete refusal status spared shelf (inr (inr e, same)) none = e

  -- ---- all of them
  pub refused-keeps : EndsByLines c run → (refusal : LastLine) (status : ℕ) → Refuses refusal status → Keeps c run status
  refused-keeps ends refusal status is = record {
    is_status = line-status ends refusal status is.has_status is.sink;
    refusals = λ s may. input-refusal s (ends.refuses s may);
    answered = λ told may. absurd (no-answer ends refusal status is may);
    refused = λ told may.
        line-refused ends refusal status is.has_status (is.cause told) is.nothing (is.prints told) is.shelf (ends.refuses status may);
    stopped = λ told six.
        ends.stops (inr (sink-rose refusal status is.has_status is.sink six))
        (line-stops refusal status is.has_status (is.cause told) is.nothing (is.prints told) is.shelf
        (sink-rose refusal status is.has_status is.sink six) six);
    cut = λ told seven. ends.cut (line-cut refusal status is.has_status is.nothing (is.prints told) seven);
    others = λ told name may. ap (λ texts. texts name) is.nothing;
    causes = line-causes ends refusal status is;
    complete = λ told ready none. inr (line-complete refusal status (is.spared told ready) is.shelf is.sink none);
  }
