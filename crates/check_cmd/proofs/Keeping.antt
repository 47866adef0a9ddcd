-- The promises of the command, from how a run ends: by the line of a refusal, or by that of a judgement.
use Rattle.std.proofs.Common.{ℕ, ◌≡◌, ◌≢◌, ◌≤◌, true, List, ap, refl, sym, subst, ◌∙◌, arith, ◌⊎◌, inl, inr}
use Rattle.io_ports.specs.Faults.{Rose}
use Rattle.command_contract.specs.Contract.{Causes, IsInputRefusal, IsStatus, Keeps, NamesFault, OneRose, Run, Texts}
use Rattle.command_contract.proofs.Statuses.{input-range, input-refusal}
use Rattle.front_end.specs.Means.{Meaning, Refusing}
use Rattle.debug_core.specs.Problems.{IsProblem}
use Rattle.refusal.specs.Lines.{memory_line}
use Rattle.refusal.specs.Ends.{PrintCounts, Prints}
use Rattle.refusal.specs.Stops.{LineCut, LineStops}
use Rattle.load_problem.specs.Means.{Suspecting}
use Rattle.refusal.proofs.Keeping.{EndsByLines}
use Rattle.list_verdict.specs.declared.verdict.Verdict.{Verdict}
use Rattle.list_verdict.specs.declared.verdict.Verdict.TheVariants as verdict
use Rattle.check_cmd.specs.declared.verdicts.Judgement.{Judgement}
use Rattle.check_cmd.specs.declared.verdicts.Judgement.TheVariants.{OfList, OfTable}
use Rattle.check_cmd.specs.declared.run.Answer.{Answer}
use Rattle.requests.specs.Asked.{CheckAsked}
use Rattle.check_cmd.specs.Checking.{IsAnswer, IsAnswered, IsDue, Judged, checking}
use Rattle.check_cmd.specs.Lines.{judgement_status, verdict_status}
use Rattle.check_cmd.specs.Means.{AreOfInputs, Given, Means}
use Rattle.check_cmd.specs.Parts.{Answers}
use Rattle.check_cmd.specs.Refusals.{Refused}

-- ---- by the line of a refusal
no-answer : (s : ℕ) → IsAnswer s → 2 ≤ s → s ≤ 7 → ⊥
no-answer s (inl e) least most = omega (arith, e, least)
no-answer s (inr (inl e)) least most = omega (arith, e, least)
no-answer s (inr (inr e)) least most = omega (arith, e, most)

-- a refusal's line is due
refusal-due : (M : Meaning) (R : Refusing) (known : List (List ℕ)) (S : Suspecting) (asked : CheckAsked) (run : Run)
    → LineStops (Refused M R known S asked run.texts) run → LineStops (IsDue M R known S asked run.texts) run
refusal-due M R known S asked run stops = record {
  line = stops.line;
  is_due = at stops.is_due;
  printed = stops.printed;
  sink_failed = stops.sink_failed;
  nothing_written = stops.nothing_written;
}
  where
    at : ((status : ℕ) × Refused M R known S asked run.texts status stops.line
        × NamesFault run.counts.shelf run.counts.now_shelf status stops.line) ⊎ (stops.line ≡ memory_line)
        → ((status : ℕ) × IsDue M R known S asked run.texts status stops.line
        × NamesFault run.counts.shelf run.counts.now_shelf status stops.line) ⊎ (stops.line ≡ memory_line)
    at (inl (status, refused, told)) = inl (status, inr refused, told)
    at (inr e) = inr e

pub ends-by_lines : (M : Meaning) (R : Refusing) (known : List (List ℕ)) (S : Suspecting) (asked : CheckAsked) (run : Run)
    → EndsByLines (checking M R known S asked) run
ends-by_lines M R known S asked run = record {
  no_answer = no-answer;
  may_refuse = λ s is. is;
  refuses = λ s is. is;
  stands = λ nothing. nothing;
  stops = λ rose stops. (rose, refusal-due M R known S asked run stops);
  cut = λ cut. cut;
}

-- ---- by the line of a judgement
-- what is known of a run that prints it, and ends with a status
pub record IsJudged (M : Meaning) (known : List (List ℕ)) (S : Suspecting) (asked : CheckAsked) (run : Run)
    (whole : ℕ) (line : List ℕ) (status : ℕ) : Type 0 where
  pub answer : IsAnswer whole
  pub judged : run.told ≡ true → (j : Judgement) × Judged M known S asked run.texts j whole line
  pub nothing : run.now_written ≡ run.written
  pub prints : run.told ≡ true → Prints line whole run.printed run.now_printed status
  pub shelf : run.counts.now_shelf ≡ run.counts.shelf
  pub sink : PrintCounts whole run.counts.sink run.counts.now_sink status

-- what is answered of the evidence
verdict-answer : (v : Verdict) → IsAnswer (verdict_status v)
verdict-answer verdict.Whole = inl refl
verdict-answer verdict.Front = inr (inl refl)
verdict-answer (verdict.Order set) = inr (inr refl)
verdict-answer (verdict.Contains set other) = inr (inr refl)
verdict-answer (verdict.Replay set miss) = inr (inr refl)
verdict-answer (verdict.Step number) = inr (inr refl)
verdict-answer verdict.Open = inr (inr refl)

judgement-answer : (j : Judgement) → IsAnswer (judgement_status j)
judgement-answer (OfTable fault) = inr (inr refl)
judgement-answer (OfList v) = verdict-answer v

pub answer-status : (top : List ℕ) (g : Given) (answer : Answer) → Answers top g answer → IsAnswer answer.status
answer-status top g answer is = subst IsAnswer (sym is.status) (judgement-answer is.judgement)

pub judged : (M : Meaning) (known : List (List ℕ)) (S : Suspecting) (asked : CheckAsked) (texts : Texts) (g : Given) (answer : Answer)
    → Means M known S asked texts g → AreOfInputs g → IsProblem g.posed.problem → Answers asked.texts.top g answer
    → (j : Judgement) × Judged M known S asked texts j answer.status answer.line.items
judged M known S asked texts g answer means same can is = (
  is.judgement,
  record {
    given = g;
    means = means;
    same = same;
    can = can;
    is = is.is;
    has_status = is.status;
    has_line = is.line;
    list = is.list;
    front = is.front;
  },
)

-- no answer is a refusal, 6, or 7
no-refusal : (s : ℕ) → IsAnswer s → IsInputRefusal s → ⊥
no-refusal s (inl e) is = omega (arith, e, input-range s is)
no-refusal s (inr (inl e)) is = omega (arith, e, input-range s is)
no-refusal s (inr (inr e)) is = omega (arith, e, input-range s is)

not-six : (s : ℕ) → IsAnswer s → s ≢ 6
not-six s (inl e) six = omega (arith, e, six)
not-six s (inr (inl e)) six = omega (arith, e, six)
not-six s (inr (inr e)) six = omega (arith, e, six)

not-five : (s : ℕ) → IsAnswer s → s ≢ 5
not-five s (inl e) five = omega (arith, e, five)
not-five s (inr (inl e)) five = omega (arith, e, five)
not-five s (inr (inr e)) five = omega (arith, e, five)

not-seven : (s : ℕ) → IsAnswer s → s ≢ 7
not-seven s (inl e) seven = omega (arith, e, seven)
not-seven s (inr (inl e)) seven = omega (arith, e, seven)
not-seven s (inr (inr e)) seven = omega (arith, e, seven)

module _ (M : Meaning) (R : Refusing) (known : List (List ℕ)) (S : Suspecting) (asked : CheckAsked) (run : Run)
    (whole : ℕ) (line : List ℕ) where
  abbrev Is : ℕ → Type 0
  Is = IsJudged M known S asked run whole line

  -- the status is that of the judgement, 6 or 7
  which : (status : ℕ) → Is status → (status ≡ whole) ⊎ ((status ≡ 6) ⊎ (status ≡ 7))
  which status is = at is.sink
    where
      at : PrintCounts whole run.counts.sink run.counts.now_sink status → (status ≡ whole) ⊎ ((status ≡ 6) ⊎ (status ≡ 7))
      at (inl (six, rose)) = inr (inl six)
      at (inr (inl e, same)) = inl e
      at (inr (inr seven, same)) = inr (inr seven)

  answer-at : (status : ℕ) → status ≡ whole → IsAnswer whole → IsAnswer status
  answer-at status e may = subst IsAnswer (sym e) may

  judged-status : (status : ℕ) → Is status → IsStatus (checking M R known S asked) status
  judged-status status is = at (which status is)
    where
      at : (status ≡ whole) ⊎ ((status ≡ 6) ⊎ (status ≡ 7)) → IsStatus (checking M R known S asked) status
      at (inl e) = inl (answer-at status e is.answer)
      at (inr (inl six)) = inr (inr (inl six))
      at (inr (inr seven)) = inr (inr (inr seven))

  -- ---- what it leaves
  judged-answered : (status : ℕ) → Is status → run.told ≡ true → IsAnswer status → IsAnswered M known S asked run status
  judged-answered status is told may = at (is.prints told) (is.judged told)
    where
      at : Prints line whole run.printed run.now_printed status → ((j : Judgement) × Judged M known S asked run.texts j whole line)
          → IsAnswered M known S asked run status
      at (inl (e, put)) (j, judged) = record {
        judgement = j;
        line = line;
        judged = subst (λ n. Judged M known S asked run.texts j n line) (sym e) judged;
        printed = put;
        nothing_written = is.nothing;
      }
      at (inr (inl (six, front))) judged = absurd (not-six status may six)
      at (inr (inr (seven, same))) judged = absurd (not-seven status may seven)

  judged-stops : (status : ℕ) → Is status → run.told ≡ true → Rose run.counts.sink run.counts.now_sink → status ≡ 6
      → LineStops (IsDue M R known S asked run.texts) run
  judged-stops status is told rose six = at (is.prints told) (is.judged told)
    where
      at : Prints line whole run.printed run.now_printed status → ((j : Judgement) × Judged M known S asked run.texts j whole line)
          → LineStops (IsDue M R known S asked run.texts) run
      at (inl (e, put)) judged = absurd (not-six whole is.answer (sym e ∙ six))
      at (inr (inl (e, front))) judged = record {
        line = line;
        is_due = inl (whole, inl judged, λ five. absurd (not-five whole is.answer five));
        printed = front;
        sink_failed = rose;
        nothing_written = is.nothing;
      }
      at (inr (inr (seven, same))) judged = absurd (omega (arith, six, seven))

  judged-cut : (status : ℕ) → Is status → run.told ≡ true → status ≡ 7 → LineCut run
  judged-cut status is told seven = at (is.prints told)
    where
      at : Prints line whole run.printed run.now_printed status → LineCut run
      at (inl (e, put)) = absurd (not-seven whole is.answer (sym e ∙ seven))
      at (inr (inl (six, front))) = absurd (omega (arith, six, seven))
      at (inr (inr (e, same))) = record { printed = inl same; nothing_written = is.nothing }

  -- ---- the counts of faults
  sink-rose : (status : ℕ) → Is status → status ≡ 6 → Rose run.counts.sink run.counts.now_sink
  sink-rose status is six = at is.sink
    where
      at : PrintCounts whole run.counts.sink run.counts.now_sink status → Rose run.counts.sink run.counts.now_sink
      at (inl (e, rose)) = rose
      at (inr (inl e, same)) = absurd (not-six whole is.answer (sym e ∙ six))
      at (inr (inr seven, same)) = absurd (omega (arith, six, seven))

  sink-same : (status : ℕ) → Is status → status ≢ 6 → run.counts.now_sink ≡ run.counts.sink
  sink-same status is other = at is.sink
    where
      at : PrintCounts whole run.counts.sink run.counts.now_sink status → run.counts.now_sink ≡ run.counts.sink
      at (inl (six, rose)) = absurd (other six)
      at (inr (which, same)) = same

  no-read_fault : (status : ℕ) → Is status → status ≢ 5
  no-read_fault status is five = at (which status is)
    where
      at : (status ≡ whole) ⊎ ((status ≡ 6) ⊎ (status ≡ 7)) → ⊥
      at (inl e) = not-five status (answer-at status e is.answer) five
      at (inr (inl six)) = omega (arith, six, five)
      at (inr (inr seven)) = omega (arith, seven, five)

  judged-causes : (status : ℕ) → Is status → Causes (checking M R known S asked) run.counts status
  judged-causes status is = record {
    answer = λ may. (is.shelf, sink-same status is (not-six status may));
    none = λ small. (is.shelf, sink-same status is (λ six. omega (arith, six, small)));
    read = λ five. absurd (no-read_fault status is five);
    write = λ six. inr (sink-rose status is six);
    memory = λ seven. sink-same status is (λ six. omega (arith, six, seven));
  }

  judged-complete : (status : ℕ) → Is status → ¬ OneRose run.counts → IsAnswer status ⊎ (status ≡ 7)
  judged-complete status is none = at (which status is)
    where
      at : (status ≡ whole) ⊎ ((status ≡ 6) ⊎ (status ≡ 7)) → IsAnswer status ⊎ (status ≡ 7)
      at (inl e) = inl (answer-at status e is.answer)
      at (inr (inl six)) = absurd (none (inr (sink-rose status is six)))
      at (inr (inr seven)) = inr seven

  -- ---- all of them
  pub judged-keeps : (status : ℕ) → Is status → Keeps (checking M R known S asked) run status
  judged-keeps status is = record {
    is_status = judged-status status is;
    refusals = input-refusal;
    answered = λ told may. judged-answered status is told may;
    refused = λ told refusal. absurd (refuses-nothing refusal (which status is));
    stopped = λ told six. (
      inr (sink-rose status is six),
      judged-stops status is told (sink-rose status is six) six,
    );
    cut = λ told seven. judged-cut status is told seven;
    others = λ told name may. ap (λ texts. texts name) is.nothing;
    causes = judged-causes status is;
    complete = λ told ready none. judged-complete status is none;
  }
    where
      refuses-nothing : IsInputRefusal status → (status ≡ whole) ⊎ ((status ≡ 6) ⊎ (status ≡ 7)) → ⊥
      refuses-nothing refusal (inl e) = no-refusal status (answer-at status e is.answer) refusal
      refuses-nothing refusal (inr (inl six)) = omega (arith, six, input-range status refusal)
      refuses-nothing refusal (inr (inr seven)) = omega (arith, seven, input-range status refusal)
