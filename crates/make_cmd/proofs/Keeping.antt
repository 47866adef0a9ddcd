-- The promises of the command, from how a run ends: before the list, in it, or behind it.
use Rattle.std.proofs.Common.{ℕ, zero, suc, ◌≡◌, ◌≢◌, ◌≤◌, true, false, List, [], ◌∷◌, ◌++◌, take, refl, sym, subst, ◌∙◌, arith}
use Rattle.std.proofs.Common.{◌⊎◌, inl, inr, None, Some}
use Rattle.std.proofs.Math.Path.{fun_ext}
use Rattle.io_ports.specs.Faults.{FaultCounts, Rose, WriteRose}
use Rattle.io_ports.specs.Shelf.{AppendsFront}
use Rattle.refusal.specs.Lines.{memory_line}
use Rattle.command_contract.specs.Contract.{Causes, IsInputRefusal, IsRefusal, IsStatus, Keeps, NoneRose, Run, Texts, WriteFailed, counts_of}
use Rattle.command_contract.proofs.Counting.{write-rose}
use Rattle.command_contract.proofs.Statuses.{input-refusal}
use Rattle.front_end.specs.Means.{Meaning, Refusing}
use Rattle.write_order.specs.Writes.{AreDone, StopsIn, on_shelf, print_piece}
use Rattle.write_order.proofs.Carried.{done-then, print-done, print-stops, stops-then}
use Rattle.made_input.specs.Made.{design_text, made_line, trace_text}
use Rattle.refusal.specs.Ends.{PrintCounts, Prints}
use Rattle.load_problem.specs.Means.{Suspecting}
use Rattle.requests.specs.Asked.{FindAsked, SessionNames}
use Rattle.find_cmd.specs.Finding.{outputs_of}
use Rattle.make_cmd.specs.Asked.{IsAsked, finding_of}
use Rattle.requests.specs.Asked.{MakeAsked}
use Rattle.make_cmd.specs.Making.{IsCut, IsListed, IsMade, IsMadeRefusal, IsStopped, made_texts, made_writes, made_written, making, quiet_list}
use Rattle.make_cmd.specs.Making.{for_last_line, for_list, for_texts, in_last_line, in_list, in_memory_line, in_texts}
use Rattle.make_cmd.proofs.Asking.{design-log, design-report, design-trace, trace-log, trace-report}
use Rattle.make_cmd.proofs.Spared.{AllSpare, done-stays, other-name, same-name, spare-take, stays, stops-stays}

-- ---- the made texts, once they are written
pub design-written : (asked : MakeAsked) (written : Texts) → IsAsked asked
    → made_written asked written asked.design ≡ Some (design_text asked.number)
design-written asked written may =
    rw (same-name asked.design, other-name asked.design asked.trace (design-trace asked may)) refl

pub trace-written : (asked : MakeAsked) (written : Texts) → IsAsked asked
    → made_written asked written asked.trace ≡ Some (trace_text asked.number)
trace-written asked written may =
    rw (same-name asked.trace) refl

-- the writes spare the texts of other names
writes-spare : (asked : MakeAsked) (name : List ℕ) → name ≢ asked.design → name ≢ asked.trace → AllSpare name (made_writes asked)
writes-spare asked name no_design no_trace = (no_design, (no_design, (no_trace, (no_trace, tt))))

-- the list writes its log and its report, no waves and no checkpoints
unwritten : (asked : MakeAsked) (name : List ℕ) → name ≢ asked.listing.log → name ≢ asked.listing.report
    → (name ≡ asked.listing.log) ⊎ ((name ≡ asked.listing.report) ⊎ (⊥ ⊎ (false ≡ true))) → ⊥
unwritten asked name other_log other_report (inl log) = other_log log
unwritten asked name other_log other_report (inr (inl report)) = other_report report
unwritten asked name other_log other_report (inr (inr (inl wave))) = wave
unwritten asked name other_log other_report (inr (inr (inr checkpoint))) = absurd (cc)

-- the list goes on from no session
no-session : (names : SessionNames) → None ≡ Some names → ⊥
no-session names is = cc

-- ---- statuses
low-answer : (n : ℕ) → n ≤ 1 → (n ≡ 0) ⊎ (n ≡ 1)
low-answer zero low = inl refl
low-answer (suc zero) low = inr refl
low-answer (suc (suc n)) low = absurd (omega (arith, low))

answer-low : (n : ℕ) → (n ≡ 0) ⊎ (n ≡ 1) → n ≤ 1
answer-low n (inl e) = omega (arith, e)
answer-low n (inr e) = omega (arith, e)

-- a refusal of the made texts is one of inputs
input-refused : (n : ℕ) → IsMadeRefusal n → IsInputRefusal n
input-refused n (inl three) = inl three
input-refused n (inr four) = inr (inl four)

made-range : (n : ℕ) → IsMadeRefusal n → (3 ≤ n) × (n ≤ 4)
made-range n (inl three) = (omega (arith, three), omega (arith, three))
made-range n (inr four) = (omega (arith, four), omega (arith, four))

refusal-made : (n : ℕ) → IsMadeRefusal n → IsRefusal n
refusal-made n is = input-refusal n (input-refused n is)

module _ (M : Meaning) (R : Refusing) (S : Suspecting) (asked : MakeAsked) (run : Run) where
  -- a status of the list but 5 is one of the command
  made-status : (status : ℕ) → status ≢ 5 → IsStatus (quiet_list M R S (finding_of asked)) status → IsStatus (making M R S asked) status
  made-status status other (inl answer) = inl answer
  made-status status other (inr (inl (inl three))) = inr (inl (inl three))
  made-status status other (inr (inl (inr (inl four)))) = inr (inl (inr four))
  made-status status other (inr (inl (inr (inr five)))) = absurd (other five)
  made-status status other (inr (inr ends)) = inr (inr ends)

  -- ---- 6 and 7: the causes
  causes-six : WriteFailed run.counts → Causes (making M R S asked) run.counts 6
  causes-six rose = record {
    answer = λ may. absurd (omega (arith, answer-low 6 may));
    none = λ low. absurd (omega (arith, low));
    read = λ e. absurd (omega (arith, e));
    write = λ e. rose;
    memory = λ e. absurd (omega (arith, e));
  }

  causes-seven : run.counts.now_sink ≡ run.counts.sink → Causes (making M R S asked) run.counts 7
  causes-seven same = record {
    answer = λ may. absurd (omega (arith, answer-low 7 may));
    none = λ low. absurd (omega (arith, low));
    read = λ e. absurd (omega (arith, e));
    write = λ e. absurd (omega (arith, e));
    memory = λ e. same;
  }

  abbrev Others : Type 0
  Others = run.told ≡ true → (name : List ℕ) → ¬ (making M R S asked).Writes name → run.now_written name ≡ run.written name

  six-keeps : WriteFailed run.counts → (run.told ≡ true → IsStopped M R S asked run) → Others → Keeps (making M R S asked) run 6
  six-keeps rose stopped others = record {
    is_status = inr (inr (inl refl));
    refusals = refusal-made;
    answered = λ told may. absurd (omega (arith, answer-low 6 may));
    refused = λ told is. absurd (omega (arith, made-range 6 is));
    stopped = λ told e. (rose, stopped told);
    cut = λ told e. absurd (omega (arith, e));
    others = others;
    causes = causes-six rose;
    complete = λ told ready none. absurd (none (write-rose run.counts rose));
  }

  seven-keeps : run.counts.now_sink ≡ run.counts.sink → (run.told ≡ true → IsCut M R S asked run) → Others
      → Keeps (making M R S asked) run 7
  seven-keeps same cut others = record {
    is_status = inr (inr (inr refl));
    refusals = refusal-made;
    answered = λ told may. absurd (omega (arith, answer-low 7 may));
    refused = λ told is. absurd (omega (arith, made-range 7 is));
    stopped = λ told e. absurd (omega (arith, e));
    cut = λ told e. cut told;
    others = others;
    causes = causes-seven same;
    complete = λ told ready none. inr refl;
  }

  -- ---- before the list
  -- one of the writes of the made texts failed
  pub failed-keeps : (run.told ≡ true → StopsIn (made_writes asked) (on_shelf run.written run.now_written run.printed))
      → run.now_printed ≡ run.printed → WriteRose run.counts.shelf run.counts.now_shelf → Keeps (making M R S asked) run 6
  failed-keeps stops same rose =
      let stopped : run.told ≡ true → StopsIn (made_writes asked) (outputs_of run) =
      λ told. subst
      (λ (text : List ℕ). StopsIn (made_writes asked)
      (record { written = run.written; now_written = run.now_written; printed = run.printed; now_printed = text }))
      (sym same) (stops told) in
      six-keeps (inl rose) (λ told. in_texts (stopped told))
      (λ told name unnamed.
      stops-stays name (made_writes asked) (outputs_of run)
      (writes-spare asked name (λ e. unnamed (inl e)) (λ e. unnamed (inr (inl e)))) (stopped told))

  -- some of them were carried out
  pub record AreBegunTo : Type 0 where
    pub count : ℕ
    pub done : AreDone (take count (made_writes asked)) (on_shelf run.written run.now_written run.printed)

  -- memory was wanted behind some of them, and the line that says so is put
  module _ (begun : run.told ≡ true → AreBegunTo) where
    spared : Others
    spared told name unnamed =
        done-stays name (take (begun told).count (made_writes asked)) (on_shelf run.written run.now_written run.printed)
        (spare-take name (begun told).count (made_writes asked)
        (writes-spare asked name (λ e. unnamed (inl e)) (λ e. unnamed (inr (inl e))))) (begun told).done

    line-failed : run.told ≡ true → AppendsFront memory_line run.printed run.now_printed → IsStopped M R S asked run
    line-failed told front =
        in_memory_line (begun told).count
        (stops-then (take (begun told).count (made_writes asked)) (print_piece memory_line ∷ []) run.written run.now_written
        run.now_written run.printed run.printed run.now_printed (begun told).done
        (print-stops memory_line run.now_written run.printed run.now_printed front))

    line-put : run.told ≡ true → run.now_printed ≡ run.printed ++ memory_line → IsCut M R S asked run
    line-put told put =
        for_texts (begun told).count (inl
        (done-then (take (begun told).count (made_writes asked)) (print_piece memory_line ∷ []) run.written run.now_written
        run.now_written run.printed run.printed run.now_printed (begun told).done
        (print-done memory_line run.now_written run.printed run.now_printed put)))

    no-line : run.told ≡ true → run.now_printed ≡ run.printed → IsCut M R S asked run
    no-line told same =
        for_texts (begun told).count (inr
        (subst
        (λ (text : List ℕ). AreDone (take (begun told).count (made_writes asked))
        (record { written = run.written; now_written = run.now_written; printed = run.printed; now_printed = text }))
        (sym same) (begun told).done))

    at-six : (status : ℕ) → status ≡ 6 → Prints memory_line 7 run.printed run.now_printed status
        → AppendsFront memory_line run.printed run.now_printed
    at-six status six (inl (e, put)) = absurd (omega (arith, six, e))
    at-six status six (inr (inl (e, front))) = front
    at-six status six (inr (inr (e, same))) = absurd (omega (arith, six, e))

    at-seven : (status : ℕ) → status ≡ 7 → run.told ≡ true → Prints memory_line 7 run.printed run.now_printed status
        → IsCut M R S asked run
    at-seven status seven told (inl (e, put)) = line-put told put
    at-seven status seven told (inr (inl (e, front))) = absurd (omega (arith, seven, e))
    at-seven status seven told (inr (inr (e, same))) = no-line told same

    ends-seven : (status : ℕ) → status ≡ 7 → run.counts.now_sink ≡ run.counts.sink
        → (run.told ≡ true → Prints memory_line 7 run.printed run.now_printed status) → Keeps (making M R S asked) run status
    ends-seven status seven same prints =
        subst (Keeps (making M R S asked) run) (sym seven)
        (seven-keeps same (λ told. at-seven status seven told (prints told)) spared)

    pub wanting-keeps : (status : ℕ) → (run.told ≡ true → Prints memory_line 7 run.printed run.now_printed status)
        → PrintCounts 7 run.counts.sink run.counts.now_sink status → Keeps (making M R S asked) run status
    wanting-keeps status prints (inl (six, rose)) =
        subst (Keeps (making M R S asked) run) (sym six)
        (six-keeps (inr rose) (λ told. line-failed told (at-six status six (prints told))) spared)
    wanting-keeps status prints (inr (inl seven, same)) = ends-seven status seven same prints
    wanting-keeps status prints (inr (inr seven, same)) = ends-seven status seven same prints

  -- ---- in the list
  -- the run of the list, which begins with some texts written, and ends with some text on the sink and some count of its faults
  abbrev pub ran : Texts → List ℕ → ℕ → Run
  ran mid printed sink = record {
    texts = made_texts asked;
    written = mid;
    now_written = run.now_written;
    printed = run.printed;
    now_printed = printed;
    counts = counts_of run.counts.shelf run.counts.now_shelf run.counts.sink sink;
    told = run.told;
  }

  -- by what was asked of it, and what it read
  pub ran-made : (list : FindAsked) (texts mid : Texts) (shelf : FaultCounts) (printed : List ℕ) (sink status : ℕ) → list ≡ finding_of asked
      → texts ≡ made_texts asked → shelf ≡ run.counts.shelf
      → Keeps (quiet_list M R S list) (record {
        texts = texts;
        written = mid;
        now_written = run.now_written;
        printed = run.printed;
        now_printed = printed;
        counts = counts_of shelf run.counts.now_shelf run.counts.sink sink;
        told = run.told;
      }) status
      → Keeps (quiet_list M R S (finding_of asked)) (ran mid printed sink) status
  ran-made list texts mid shelf printed sink status is_list is_texts is_shelf keeps =
      subst (λ n. Keeps (quiet_list M R S (finding_of asked)) (record {
        texts = made_texts asked;
        written = mid;
        now_written = run.now_written;
        printed = run.printed;
        now_printed = printed;
        counts = counts_of n run.counts.now_shelf run.counts.sink sink;
        told = run.told;
      }) status) is_shelf
      (subst (λ (t : Texts). Keeps (quiet_list M R S (finding_of asked)) (record {
        texts = t;
        written = mid;
        now_written = run.now_written;
        printed = run.printed;
        now_printed = printed;
        counts = counts_of shelf run.counts.now_shelf run.counts.sink sink;
        told = run.told;
      }) status) is_texts
      (subst (λ (f : FindAsked). Keeps (quiet_list M R S f) (record {
        texts = texts;
        written = mid;
        now_written = run.now_written;
        printed = run.printed;
        now_printed = printed;
        counts = counts_of shelf run.counts.now_shelf run.counts.sink sink;
        told = run.told;
      }) status) is_list keeps))

  module _ (may : IsAsked asked) (mid : Texts)
      (begun : run.told ≡ true → AreDone (made_writes asked) (on_shelf run.written mid run.printed)) where
    -- the texts that it begins with are the made ones
    made : run.told ≡ true → mid ≡ made_written asked run.written
    made told = fun_ext (begun told).texts

    from-made : (printed : List ℕ) (sink status : ℕ) → Keeps (quiet_list M R S (finding_of asked)) (ran mid printed sink) status
        → run.told ≡ true → Keeps (quiet_list M R S (finding_of asked)) (ran (made_written asked run.written) printed sink) status
    from-made printed sink status keeps told =
        subst (λ (w : Texts). Keeps (quiet_list M R S (finding_of asked)) (ran w printed sink) status) (made told) keeps

    list-others : (printed : List ℕ) (sink status : ℕ) → Keeps (quiet_list M R S (finding_of asked)) (ran mid printed sink) status → Others
    list-others printed sink status keeps told name unnamed =
        (from-made printed sink status keeps told).others told name
        (unwritten asked name (λ e. unnamed (inr (inr (inl e)))) (λ e. unnamed (inr (inr (inr e)))))
        ∙ stays name (made_writes asked) (run.written name) (writes-spare asked name (λ e. unnamed (inl e)) (λ e. unnamed (inr (inl e))))

    design-stands : (printed : List ℕ) (sink status : ℕ) → Keeps (quiet_list M R S (finding_of asked)) (ran mid printed sink) status
        → run.told ≡ true → run.now_written asked.design ≡ Some (design_text asked.number)
    design-stands printed sink status keeps told =
        (from-made printed sink status keeps told).others told asked.design
        (unwritten asked asked.design (design-log asked may) (design-report asked may))
        ∙ design-written asked run.written may

    trace-stands : (printed : List ℕ) (sink status : ℕ) → Keeps (quiet_list M R S (finding_of asked)) (ran mid printed sink) status
        → run.told ≡ true → run.now_written asked.trace ≡ Some (trace_text asked.number)
    trace-stands printed sink status keeps told =
        (from-made printed sink status keeps told).others told asked.trace
        (unwritten asked asked.trace (trace-log asked may) (trace-report asked may))
        ∙ trace-written asked run.written may

    -- it ends the run, with no answer
    pub list-keeps : (status : ℕ) → 2 ≤ status → status ≢ 5
        → Keeps (quiet_list M R S (finding_of asked)) (ran mid run.now_printed run.counts.now_sink) status
        → Keeps (making M R S asked) run status
    list-keeps status least other keeps =
        let from = from-made run.now_printed run.counts.now_sink status keeps in
        record {
          is_status = made-status status other keeps.is_status;
          refusals = refusal-made;
          answered = λ told is. absurd (omega (arith, least, answer-low status is));
          refused = λ told is.
              let ends = (from told).refused told (input-refused status is) in
              record { line = ends.line; refused = ends.refused.0; named = ends.named; printed = ends.printed; stands = ends.stands };
          stopped = λ told six. (((from told).stopped told six).0, in_list ((from told).stopped told six));
          cut = λ told seven. for_list ((from told).cut told seven);
          others = list-others run.now_printed run.counts.now_sink status keeps;
          causes = record {
            answer = keeps.causes.answer;
            none = keeps.causes.none;
            read = keeps.causes.read;
            write = keeps.causes.write;
            memory = keeps.causes.memory;
          };
          complete = λ told ready none.
              keeps.complete told (record { inputs = ready; session = λ names p is poses. absurd (no-session names is) }) none;
        }

    -- ---- behind the list
    module _ (before : List ℕ) (sink first : ℕ) (low : first ≤ 1)
        (keeps : Keeps (quiet_list M R S (finding_of asked)) (ran mid before sink) first) where
      listed : run.told ≡ true → IsListed M R S asked run before first
      listed told = record {
        may_answer = low-answer first low;
        answered = (from-made before sink first keeps told).answered told (low-answer first low);
        design = design-stands before sink first keeps told;
        trace = trace-stands before sink first keeps told;
      }

      -- no count had risen
      shelf-same : run.counts.now_shelf ≡ run.counts.shelf
      shelf-same = (keeps.causes.none (omega (arith, low))).0

      sink-same : sink ≡ run.counts.sink
      sink-same = (keeps.causes.none (omega (arith, low))).1

      others-stay : Others
      others-stay = list-others before sink first keeps

      made-printed : (status : ℕ) → status ≤ 1 → Prints (made_line asked.number) first before run.now_printed status
          → (status ≡ first) × (run.now_printed ≡ before ++ made_line asked.number)
      made-printed status small (inl (e, put)) = (e, put)
      made-printed status small (inr (inl (e, front))) = absurd (omega (arith, small, e))
      made-printed status small (inr (inr (e, same))) = absurd (omega (arith, small, e))

      is-made : (status : ℕ) → status ≤ 1 → run.told ≡ true → Prints (made_line asked.number) first before run.now_printed status
          → IsMade M R S asked run status
      is-made status small told prints = record {
        before = before;
        listed = subst (IsListed M R S asked run before) (sym (made-printed status small prints).0) (listed told);
        last = (made-printed status small prints).1;
      }

      last-front : (status : ℕ) → status ≡ 6 → Prints (made_line asked.number) first before run.now_printed status
          → AppendsFront (made_line asked.number) before run.now_printed
      last-front status six (inl (e, put)) = absurd (omega (arith, six, e, low))
      last-front status six (inr (inl (e, front))) = front
      last-front status six (inr (inr (e, same))) = absurd (omega (arith, six, e))

      last-none : (status : ℕ) → status ≡ 7 → Prints (made_line asked.number) first before run.now_printed status
          → run.now_printed ≡ before
      last-none status seven (inl (e, put)) = absurd (omega (arith, seven, e, low))
      last-none status seven (inr (inl (e, front))) = absurd (omega (arith, seven, e))
      last-none status seven (inr (inr (e, same))) = same

      -- the line is printed
      whole-keeps : (status : ℕ) → status ≡ first → run.counts.now_sink ≡ sink
          → (run.told ≡ true → Prints (made_line asked.number) first before run.now_printed status)
          → Keeps (making M R S asked) run status
      whole-keeps status is same prints =
          let small : status ≤ 1 = omega (arith, is, low) in
          let none : NoneRose run.counts = (shelf-same, same ∙ sink-same) in
          record {
            is_status = inl (low-answer status small);
            refusals = refusal-made;
            answered = λ told may_answer. is-made status small told (prints told);
            refused = λ told is_refused. absurd (omega (arith, small, made-range status is_refused));
            stopped = λ told six. absurd (omega (arith, small, six));
            cut = λ told seven. absurd (omega (arith, small, seven));
            others = others-stay;
            causes = record {
              answer = λ may_answer. none;
              none = λ at_most. none;
              read = λ five. absurd (omega (arith, small, five));
              write = λ six. absurd (omega (arith, small, six));
              memory = λ seven. absurd (omega (arith, small, seven));
            };
            complete = λ told ready none_rose. inl (low-answer status small);
          }

      pub last-keeps : (status : ℕ) → (run.told ≡ true → Prints (made_line asked.number) first before run.now_printed status)
          → PrintCounts first sink run.counts.now_sink status → Keeps (making M R S asked) run status
      last-keeps status prints (inl (six, rose)) =
          subst (Keeps (making M R S asked) run) (sym six)
          (six-keeps (inr (subst (λ n. Rose n run.counts.now_sink) sink-same rose))
          (λ told. in_last_line before first (listed told) (last-front status six (prints told))) others-stay)
      last-keeps status prints (inr (inl is, same)) = whole-keeps status is same prints
      last-keeps status prints (inr (inr seven, same)) =
          subst (Keeps (making M R S asked) run) (sym seven)
          (seven-keeps (same ∙ sink-same)
          (λ told. for_last_line first
          (subst (λ (text : List ℕ). IsListed M R S asked run text first) (sym (last-none status seven (prints told))) (listed told)))
          others-stay)
