-- What the words ask for, as a case.
use Rattle.std.proofs.Common.{ℕ, ◌≡◌, true, List, [], ◌∷◌, arith, ap, sym, subst, refl, ◌∙◌, inl, inr, Option, Some, None, Result, Ok, Err, drop}
use Rattle.std.specs.Prelude.{codes}
use Rattle.std.proofs.lemmas.List.{append-nil}
use Rattle.refusal.specs.Lines.{memory_line}
use Rattle.refusal.specs.Ends.{PrintCounts, Prints}
use Rattle.command_contract.specs.Contract.{Keeps, Run, Texts}
use Rattle.command_contract.proofs.Statuses.{input-refusal}
use Rattle.word_values.specs.declared.usage.Usage.{Usage}
use Rattle.requests.specs.Asked.{Asked, find, sim, check, make, help}
use Rattle.command_words.specs.Words.{asked as asked_by}
use Rattle.make_cmd.specs.Making.{for_texts, in_memory_line}
use Rattle.write_order.specs.Writes.{AreDone, print_piece}
use Rattle.write_order.proofs.Carried.{done-then, print-done, print-stops, stops-then}
use Rattle.localise_cmd.specs.Usage.{no_request}
use Rattle.localise_cmd.specs.Commands.{KeepsWords, Tools, case_of}
use Rattle.localise_cmd.specs.Given.{AreWords, KeepsGiven}
use Rattle.localise_cmd.proofs.Keeping.{AllowsMemory, high-no_stop, low-no_stop, memory-keeps}

-- ---- a command
module _ (tools : Tools) (asked : Result Asked Usage) (run : Run) (status : ℕ) where
  pub asked-keeps : (request : Asked) → asked ≡ Ok request → Keeps (case_of tools (Ok request)) run status
      → Keeps (case_of tools asked) run status
  asked-keeps request is keeps = subst (λ (a : Result Asked Usage). Keeps (case_of tools a) run status) (sym is) keeps

  pub no_request-keeps : (usage : Usage) → asked ≡ Err usage → Keeps (no_request usage) run status
      → Keeps (case_of tools asked) run status
  no_request-keeps usage is keeps =
      subst (λ (a : Result Asked Usage). Keeps (case_of tools a) run status) (sym is) keeps

-- ---- want of memory before anything is read
-- no text was written, and nothing was printed
none-done : (run : Run) (printed : List ℕ) → run.now_written ≡ run.written → printed ≡ run.printed
    → AreDone [] (record { written = run.written; now_written = run.now_written; printed = run.printed; now_printed = printed })
none-done run printed written same = record {
  texts = λ name. ap (λ (texts : Texts). texts name) written;
  printed = same ∙ sym (append-nil run.printed);
}

pub allows-memory : (tools : Tools) (asked : Result Asked Usage) (run : Run)
    → run.now_written ≡ run.written → AllowsMemory (case_of tools asked) run
allows-memory tools (Ok (find asked)) run written = record {
  answer = λ status may. low-no_stop status (elim may [ inl zero ↦ omega (arith, zero) | inr one ↦ omega (arith, one) ]);
  refusals = input-refusal;
  stopped = λ told rose front. (
    inr rose,
    inr (record {
      line = memory_line;
      is_due = inr refl;
      printed = front;
      sink_failed = rose;
      nothing_written = written;
    }),
  );
  cut = λ told text. inr (record { printed = text; nothing_written = written });
}
allows-memory tools (Ok (sim asked)) run written = record {
  answer = λ status may. elim may [
    | inl zero ↦ low-no_stop status (omega (arith, zero))
    | inr nine ↦ high-no_stop status (omega (arith, nine.1))
  ];
  refusals = input-refusal;
  stopped = λ told rose front. record {
    due = memory_line;
    is_due = inr (inr (inr (inl refl)));
    printed = front;
    sink_failed = rose;
    nothing_written = written;
  };
  cut = λ told text. elim text [
    | inl same ↦ record {
      front = [];
      may_stand = inl refl;
      printed = same ∙ sym (append-nil run.printed);
      nothing_written = written;
    }
    | inr put ↦ record { front = memory_line; may_stand = inr (inl refl); printed = put; nothing_written = written }
  ];
}
allows-memory tools (Ok (check asked)) run written = record {
  answer = λ status may. elim may [
    | inl zero ↦ low-no_stop status (omega (arith, zero))
    | inr more ↦ elim more [ inl one ↦ low-no_stop status (omega (arith, one)) | inr eight ↦ high-no_stop status (omega (arith, eight)) ]
  ];
  refusals = input-refusal;
  stopped = λ told rose front. (
    inr rose,
    record {
      line = memory_line;
      is_due = inr refl;
      printed = front;
      sink_failed = rose;
      nothing_written = written;
    },
  );
  cut = λ told text. record { printed = text; nothing_written = written };
}
allows-memory tools (Ok (make asked)) run written = record {
  answer = λ status may. low-no_stop status (elim may [ inl zero ↦ omega (arith, zero) | inr one ↦ omega (arith, one) ]);
  refusals = λ status is. input-refusal status (elim is [ inl three ↦ inl three | inr four ↦ inr (inl four) ]);
  stopped = λ told rose front. (
    inr rose,
    in_memory_line 0 (
        stops-then [] (print_piece memory_line ∷ []) run.written run.now_written run.now_written run.printed run.printed run.now_printed
        (none-done run run.printed written refl) (print-stops memory_line run.now_written run.printed run.now_printed front)),
  );
  cut = λ told text. for_texts 0 (elim text [
    | inl same ↦ inr (none-done run run.now_printed written same)
    | inr put ↦ inl (
        done-then [] (print_piece memory_line ∷ []) run.written run.now_written run.now_written run.printed run.printed run.now_printed
        (none-done run run.printed written refl) (print-done memory_line run.now_written run.printed run.now_printed put))
  ]);
}
allows-memory tools (Ok (help asked)) run written = record {
  answer = λ status zero. low-no_stop status (omega (arith, zero));
  refusals = λ status may. absurd may;
  stopped = λ told rose front. record { sink_failed = rose; printed = inr front; nothing_written = written };
  cut = λ told text. record { printed = text; nothing_written = written };
}
allows-memory tools (Err usage) run written = record {
  answer = λ status may. absurd may;
  refusals = λ status is. inl is;
  stopped = λ told rose front. record { sink_failed = rose; printed = inr front; nothing_written = written };
  cut = λ told text. record { printed = text; nothing_written = written };
}

-- ---- and before the words are known
-- some words, whatever is given
some-words : (given : Option (List (List ℕ))) → (words : List (List ℕ)) × AreWords given words
some-words (Some arguments) = (drop 1 arguments, refl)
some-words None = ([] ∷ codes "--" ∷ [], refl)

pub memory-given : (tools : Tools) (given : Option (List (List ℕ))) (run : Run) (status : ℕ)
    → (run.told ≡ true → Prints memory_line 7 run.printed run.now_printed status)
    → PrintCounts 7 run.counts.sink run.counts.now_sink status → run.now_written ≡ run.written → KeepsGiven tools given run status
unfolding KeepsWords
memory-given tools given run status text counts written =
    let (words, are) = some-words given in
    record {
      words = words;
      are_words = are;
      keeps = memory-keeps (case_of tools (asked_by tools.known words)) run status
          (allows-memory tools (asked_by tools.known words) run written) text counts written;
    }
