-- The promises of a run that prints one text: what is wrong with the words, a page of help, or that memory was wanted before anything
-- was read.
use Rattle.std.proofs.Common.{ℕ, ◌≡◌, ◌≢◌, ◌≤◌, ◌++◌, ◌⊎◌, List, true, ap, refl, sym, subst, arith, inl, inr}
use Rattle.io_ports.specs.Faults.{Rose}
use Rattle.io_ports.specs.Shelf.{AppendsFront}
use Rattle.refusal.specs.Lines.{memory_line}
use Rattle.refusal.specs.Ends.{PrintCounts, Prints}
use Rattle.command_contract.specs.Contract.{Case, Causes, IsRefusal, Keeps, NoneRose, Run}
use Rattle.command_contract.proofs.Statuses.{seven-no_refusal, six-no_refusal}
use Rattle.word_values.specs.declared.usage.Usage.{Usage}
use Rattle.requests.specs.Asked.{HelpAsked}
use Rattle.command_words.specs.Pages.{page_text}
use Rattle.localise_cmd.specs.Printed.{TextCut, TextStopped}
use Rattle.localise_cmd.specs.Help.{helping}
use Rattle.localise_cmd.specs.Usage.{no_request, usage_line}

-- ---- one text, with its status
module _ (text : List ℕ) (whole : ℕ) (run : Run) (status : ℕ) (low : whole ≤ 2)
    (sink : PrintCounts whole run.counts.sink run.counts.now_sink status) (shelf : run.counts.now_shelf ≡ run.counts.shelf) where
  ends-as : (status ≡ whole) ⊎ ((status ≡ 6) ⊎ (status ≡ 7))
  ends-as = elim sink [
    | inl failed ↦ inr (inl failed.0)
    | inr ended ↦ elim ended.0 [ inl e ↦ inl e | inr e ↦ inr (inr e) ]
  ]

  none-rose : status ≢ 6 → NoneRose run.counts
  none-rose other = elim sink [ inl failed ↦ absurd (other failed.0) | inr ended ↦ (shelf, ended.1) ]

  sink-rose : status ≡ 6 → Rose run.counts.sink run.counts.now_sink
  sink-rose six = elim sink [
    | inl failed ↦ failed.1
    | inr ended ↦ absurd (elim ended.0 [ inl e ↦ omega (arith, low, e, six) | inr e ↦ omega (arith, e, six) ])
  ]

  -- of a case whose answers have low statuses
  text-causes : (c : Case) → ((s : ℕ) → c.MayAnswer s → s ≤ 2) → Causes c run.counts status
  text-causes c answers = record {
    answer = λ may. none-rose (let least = answers status may in λ six. omega (arith, least, six));
    none = λ least. none-rose (λ six. omega (arith, least, six));
    read = λ five. absurd (elim ends-as [
      | inl e ↦ omega (arith, low, e, five)
      | inr other ↦ elim other [ inl e ↦ omega (arith, e, five) | inr e ↦ omega (arith, e, five) ]
    ]);
    write = λ six. inr (sink-rose six);
    memory = λ seven. (none-rose (λ six. omega (arith, six, seven))).1;
  }

  module _ (print : run.told ≡ true → Prints text whole run.printed run.now_printed status)
      (written : run.now_written ≡ run.written) where
    text-printed : run.told ≡ true → status ≡ whole → run.now_printed ≡ run.printed ++ text
    text-printed told is = elim (print told) [
      | inl done ↦ done.1
      | inr other ↦ absurd (elim other [
        | inl failed ↦ (let six = failed.0 in omega (arith, low, is, six))
        | inr wanted ↦ (let seven = wanted.0 in omega (arith, low, is, seven))
      ])
    ]

    text-stopped : run.told ≡ true → status ≡ 6 → TextStopped text run
    text-stopped told six = record {
      sink_failed = sink-rose six;
      printed = inl (elim (print told) [
        | inl done ↦ absurd (omega (arith, low, done.0, six))
        | inr other ↦ elim other [ inl failed ↦ failed.1 | inr wanted ↦ absurd (omega (arith, wanted.0, six)) ]
      ]);
      nothing_written = written;
    }

    text-cut : run.told ≡ true → status ≡ 7 → TextCut run
    text-cut told seven = record {
      printed = inl (elim (print told) [
        | inl done ↦ absurd (omega (arith, low, done.0, seven))
        | inr other ↦ elim other [ inl failed ↦ absurd (omega (arith, failed.0, seven)) | inr wanted ↦ wanted.1 ]
      ]);
      nothing_written = written;
    }

-- ---- arguments that are refused
module _ (usage : Usage) (run : Run) (status : ℕ) (sink : PrintCounts 2 run.counts.sink run.counts.now_sink status)
    (shelf : run.counts.now_shelf ≡ run.counts.shelf) where
  pub usage-keeps : (run.told ≡ true → Prints (usage_line usage) 2 run.printed run.now_printed status)
      → run.now_written ≡ run.written → Keeps (no_request usage) run status
  usage-keeps print written =
      let low : 2 ≤ 2 = omega arith in
      let line = usage_line usage in
      record {
        is_status = inr (ends-as line 2 run status low sink shelf);
        refusals = λ n is. inl is;
        answered = λ told may. absurd may;
        refused = λ told is. record {
          line = line;
          refused = record { has_status = is; has_line = refl };
          named = λ five. absurd (omega (arith, is, five));
          printed = text-printed line 2 run status low sink shelf print written told is;
          stands = written;
        };
        stopped = text-stopped line 2 run status low sink shelf print written;
        cut = text-cut line 2 run status low sink shelf print written;
        others = λ told name no. ap (λ texts. texts name) written;
        causes = text-causes line 2 run status low sink shelf (no_request usage) (λ s may. absurd may);
        complete = λ told ready none. absurd ready;
      }

-- ---- a page of help
module _ (asked : HelpAsked) (run : Run) (status : ℕ) (sink : PrintCounts 0 run.counts.sink run.counts.now_sink status)
    (shelf : run.counts.now_shelf ≡ run.counts.shelf) where
  pub help-keeps : (run.told ≡ true → Prints (page_text asked.page) 0 run.printed run.now_printed status)
      → run.now_written ≡ run.written → Keeps (helping asked) run status
  help-keeps print written =
      let low : 0 ≤ 2 = omega arith in
      let page = page_text asked.page in
      let ends = ends-as page 0 run status low sink shelf in
      record {
        is_status = elim ends [ inl zero ↦ inl zero | inr other ↦ inr (inr other) ];
        refusals = λ n may. absurd may;
        answered = λ told zero. record {
          printed = text-printed page 0 run status low sink shelf print written told zero;
          nothing_written = written;
        };
        refused = λ told may. absurd may;
        stopped = text-stopped page 0 run status low sink shelf print written;
        cut = text-cut page 0 run status low sink shelf print written;
        others = λ told name no. ap (λ texts. texts name) written;
        causes = text-causes page 0 run status low sink shelf (helping asked) (λ s zero. omega (arith, zero));
        complete = λ told ready none. elim ends [
          | inl zero ↦ inl zero
          | inr other ↦ elim other [
            | inl six ↦ absurd (none (inr (sink-rose page 0 run status low sink shelf six)))
            | inr seven ↦ inr seven
          ]
        ];
      }

-- ---- want of memory before anything is read
-- a status that says neither that writing failed nor that memory was wanted
pub record IsNoStop (status : ℕ) : Type 0 where
  pub no_fault : status ≢ 6
  pub no_want : status ≢ 7

pub low-no_stop : (status : ℕ) → status ≤ 1 → IsNoStop status
low-no_stop status low = record { no_fault = λ e. omega (arith, low, e); no_want = λ e. omega (arith, low, e) }

pub high-no_stop : (status : ℕ) → 8 ≤ status → IsNoStop status
high-no_stop status high = record { no_fault = λ e. omega (arith, high, e); no_want = λ e. omega (arith, high, e) }

-- what a case says of such a run: no answer of it is 6 or 7, its refusals are 2 to 5, and it allows `memory`, a front of it, or nothing
pub record AllowsMemory (c : Case) (run : Run) : Type 0 where
  pub answer : (status : ℕ) → c.MayAnswer status → IsNoStop status
  pub refusals : (status : ℕ) → c.MayRefuse status → IsRefusal status
  pub stopped : run.told ≡ true → Rose run.counts.sink run.counts.now_sink
      → AppendsFront memory_line run.printed run.now_printed → c.Stopped run
  pub cut : run.told ≡ true → (run.now_printed ≡ run.printed) ⊎ (run.now_printed ≡ run.printed ++ memory_line)
      → c.Cut run

at-seven : (c : Case) (run : Run) → AllowsMemory c run → run.now_written ≡ run.written
    → run.counts.now_sink ≡ run.counts.sink
    → (run.told ≡ true → (run.now_printed ≡ run.printed) ⊎ (run.now_printed ≡ run.printed ++ memory_line))
    → Keeps c run 7
at-seven c run allows written sink text = record {
  is_status = inr (inr (inr refl));
  refusals = allows.refusals;
  answered = λ told may. absurd ((allows.answer 7 may).no_want refl);
  refused = λ told is. absurd (seven-no_refusal (allows.refusals 7 is));
  stopped = λ told e. absurd (omega (arith, e));
  cut = λ told e. allows.cut told (text told);
  others = λ told name no. ap (λ texts. texts name) written;
  causes = record {
    answer = λ may. absurd ((allows.answer 7 may).no_want refl);
    none = λ low. absurd (omega (arith, low));
    read = λ e. absurd (omega (arith, e));
    write = λ e. absurd (omega (arith, e));
    memory = λ e. sink;
  };
  complete = λ told ready none. inr refl;
}

at-six : (c : Case) (run : Run) → AllowsMemory c run → run.now_written ≡ run.written → Rose run.counts.sink run.counts.now_sink
    → (run.told ≡ true → AppendsFront memory_line run.printed run.now_printed) → Keeps c run 6
at-six c run allows written rose front = record {
  is_status = inr (inr (inl refl));
  refusals = allows.refusals;
  answered = λ told may. absurd ((allows.answer 6 may).no_fault refl);
  refused = λ told is. absurd (six-no_refusal (allows.refusals 6 is));
  stopped = λ told e. allows.stopped told rose (front told);
  cut = λ told e. absurd (omega (arith, e));
  others = λ told name no. ap (λ texts. texts name) written;
  causes = record {
    answer = λ may. absurd ((allows.answer 6 may).no_fault refl);
    none = λ low. absurd (omega (arith, low));
    read = λ e. absurd (omega (arith, e));
    write = λ e. inr rose;
    memory = λ e. absurd (omega (arith, e));
  };
  complete = λ told ready none. absurd (none (inr rose));
}

-- the line, where it was printed with 7, or nothing
at-7 : (run : Run) (status : ℕ) → status ≡ 7 → Prints memory_line 7 run.printed run.now_printed status
    → (run.now_printed ≡ run.printed) ⊎ (run.now_printed ≡ run.printed ++ memory_line)
at-7 run status seven (inl whole) = inr whole.1
at-7 run status seven (inr (inl failed)) = absurd (omega (arith, seven, failed.0))
at-7 run status seven (inr (inr wanted)) = inl wanted.1

at-6 : (run : Run) (status : ℕ) → status ≡ 6 → Prints memory_line 7 run.printed run.now_printed status
    → AppendsFront memory_line run.printed run.now_printed
at-6 run status six (inl whole) = absurd (omega (arith, six, whole.0))
at-6 run status six (inr (inl failed)) = failed.1
at-6 run status six (inr (inr wanted)) = absurd (omega (arith, six, wanted.0))

pub memory-keeps : (c : Case) (run : Run) (status : ℕ) → AllowsMemory c run
    → (run.told ≡ true → Prints memory_line 7 run.printed run.now_printed status)
    → PrintCounts 7 run.counts.sink run.counts.now_sink status → run.now_written ≡ run.written → Keeps c run status
memory-keeps c run status allows text (inl failed) written =
    subst (λ n. Keeps c run n) (sym failed.0)
    (at-six c run allows written failed.1 (λ told. at-6 run status failed.0 (text told)))
memory-keeps c run status allows text (inr (inl seven, same)) written =
    subst (λ n. Keeps c run n) (sym seven) (at-seven c run allows written same (λ told. at-7 run status seven (text told)))
memory-keeps c run status allows text (inr (inr seven, same)) written =
    subst (λ n. Keeps c run n) (sym seven) (at-seven c run allows written same (λ told. at-7 run status seven (text told)))
