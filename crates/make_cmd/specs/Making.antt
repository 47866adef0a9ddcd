-- The case of a made input: its design and its trace are written, sets of suspects are listed over these texts and over no others,
-- and behind the list's last line the numbers of the input are printed.
use Rattle.std.specs.Prelude.{ℕ, ◌≡◌, ◌≢◌, ◌⊎◌, ◌++◌, if◌then◌else◌, List, [], ◌∷◌, take, Some, None}
use Rattle.std.specs.Str.{bytes_eq}
use Rattle.io_ports.specs.Shelf.{AppendsFront}
use Rattle.refusal.specs.Lines.{memory_line}
use Rattle.command_contract.specs.Contract.{Case, Run, Texts, WriteFailed}
use Rattle.front_end.specs.Means.{Meaning, Refusing}
use Rattle.write_order.specs.Writes.{AreDone, StopsIn, Write, begin_text, print_piece, put_piece, text_behind}
use Rattle.made_input.specs.Made.{design_text, made_line, trace_text}
use Rattle.load_problem.specs.Means.{Suspecting}
use Rattle.load_problem.specs.Refusals.{IsReady, Refused}
use Rattle.requests.specs.Asked.{FindAsked, MakeAsked, wanted_for}
use Rattle.find_cmd.specs.Finding.{finding_by, outputs_of}
use Rattle.make_cmd.specs.Asked.{finding_of}

-- ---- the made texts
-- under their names
abbrev pub made_texts : MakeAsked → Texts
made_texts asked name =
    if bytes_eq name asked.design then Some (design_text asked.number)
    else (if bytes_eq name asked.trace then Some (trace_text asked.number) else None)

-- the writes of both
abbrev pub made_writes : MakeAsked → List Write
made_writes asked =
    begin_text asked.design ∷ put_piece asked.design (design_text asked.number)
    ∷ begin_text asked.trace ∷ put_piece asked.trace (trace_text asked.number) ∷ []

-- what stands written once both are
abbrev pub made_written : MakeAsked → Texts → Texts
made_written asked written name = text_behind name (made_writes asked) (written name)

-- some of these writes, where memory was wanted behind them, and the line that says so
abbrev pub short : ℕ → MakeAsked → List Write
short count asked = take count (made_writes asked) ++ print_piece memory_line ∷ []

-- ---- the list
-- a list that loads nothing: it is refused for the causes that the texts have, but not with 5
abbrev pub quiet_list : Meaning → Refusing → Suspecting → FindAsked → Case
quiet_list M R S asked =
    finding_by M S asked (λ texts status line. Refused M R S (wanted_for asked) texts status line × (status ≢ 5))

-- the run of the list: it reads the made texts, begins where they stand written, and ends with some text on the sink
abbrev pub list_run : MakeAsked → Run → List ℕ → Run
list_run asked run printed = record {
  texts = made_texts asked;
  written = made_written asked run.written;
  now_written = run.now_written;
  printed = run.printed;
  now_printed = printed;
  counts = run.counts;
  told = run.told;
}

-- the list ends with an answer and with this text on the sink, and the made texts stand beside what it wrote
pub record IsListed (M : Meaning) (R : Refusing) (S : Suspecting) (asked : MakeAsked) (run : Run) (printed : List ℕ) (status : ℕ)
    : Type 0 where
  pub may_answer : (quiet_list M R S (finding_of asked)).MayAnswer status
  pub answered : (quiet_list M R S (finding_of asked)).Answered (list_run asked run printed) status
  pub design : run.now_written asked.design ≡ Some (design_text asked.number)
  pub trace : run.now_written asked.trace ≡ Some (trace_text asked.number)

-- ---- how a run ends
-- 0, 1: the list ended with this status, and behind its last line the numbers of the input are printed
pub record IsMade (M : Meaning) (R : Refusing) (S : Suspecting) (asked : MakeAsked) (run : Run) (status : ℕ) : Type 0 where
  pub before : List ℕ
  pub listed : IsListed M R S asked run before status
  pub last : run.now_printed ≡ before ++ made_line asked.number

-- 6: a write of the made texts failed, or the line that says that memory was wanted for them; or one of the list; or the last line
pub data IsStopped (M : Meaning) (R : Refusing) (S : Suspecting) (asked : MakeAsked) (run : Run) : Type 0 where
  in_texts : StopsIn (made_writes asked) (outputs_of run) → IsStopped M R S asked run
  in_memory_line : (count : ℕ) → StopsIn (short count asked) (outputs_of run) → IsStopped M R S asked run
  in_list : (quiet_list M R S (finding_of asked)).Stopped (list_run asked run run.now_printed) → IsStopped M R S asked run
  in_last_line : (before : List ℕ) (status : ℕ) → IsListed M R S asked run before status
      → AppendsFront (made_line asked.number) before run.now_printed → IsStopped M R S asked run

-- 7: memory was wanted for the made texts, and the line that says so is printed, or for want of memory it isn't; or in the list; or
-- for the last line
pub data IsCut (M : Meaning) (R : Refusing) (S : Suspecting) (asked : MakeAsked) (run : Run) : Type 0 where
  for_texts : (count : ℕ) → AreDone (short count asked) (outputs_of run) ⊎ AreDone (take count (made_writes asked)) (outputs_of run)
      → IsCut M R S asked run
  for_list : (quiet_list M R S (finding_of asked)).Cut (list_run asked run run.now_printed) → IsCut M R S asked run
  for_last_line : (status : ℕ) → IsListed M R S asked run run.now_printed status → IsCut M R S asked run

-- ---- the case
-- the made texts are refused, 3, or a limit is passed, 4; a text that isn't handed over is no refusal, since nothing is loaded
abbrev pub IsMadeRefusal : ℕ → Type 0
IsMadeRefusal status = (status ≡ 3) ⊎ (status ≡ 4)

-- its answers, its refusals and what stands against it are those of the list over the made texts
abbrev pub making : Meaning → Refusing → Suspecting → MakeAsked → Case
making M R S asked = record {
  MayAnswer = λ status. (status ≡ 0) ⊎ (status ≡ 1);
  MayRefuse = IsMadeRefusal;
  Answered = IsMade M R S asked;
  Refused = λ run. Refused M R S (wanted_for (finding_of asked)) (made_texts asked);
  Stands = λ run. run.now_written ≡ made_written asked run.written;
  Stopped = λ run. WriteFailed run.counts × IsStopped M R S asked run;
  Cut = IsCut M R S asked;
  Writes = λ name. (name ≡ asked.design) ⊎ ((name ≡ asked.trace) ⊎ ((name ≡ asked.listing.log) ⊎ (name ≡ asked.listing.report)));
  Ready = λ run. IsReady M S (wanted_for (finding_of asked)) (made_texts asked);
}
