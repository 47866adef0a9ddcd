-- What a command promises of a run that ends with a status: one record, a field for each promise. What it is to print and to
-- write, and when it is refused, is the command's own case.
use Rattle.std.specs.Prelude.{ℕ, ◌≡◌, ◌≤◌, ◌⊎◌, ◌++◌, Bool, true, List, Option, codes}
use Rattle.io_ports.specs.Faults.{FaultCounts, LoadRose, Rose, WriteRose}
use Rattle.printed_text.specs.Numerals.{newline}

-- texts by their names
abbrev pub Texts : Type 0
Texts = List ℕ → Option (List ℕ)

-- the counts of faults of the shelf, with the name whose load failed last, and of the sink, before a run and after it
pub record Counts : Type 0 where
  pub shelf : FaultCounts
  pub now_shelf : FaultCounts
  pub sink : ℕ
  pub now_sink : ℕ

-- a run: the texts that it may read, the texts that stand written and the text on the sink before and after it, the counts of
-- faults, and whether shelf and sink tell their texts
pub record Run : Type 0 where
  pub texts : Texts
  pub written : Texts
  pub now_written : Texts
  pub printed : List ℕ
  pub now_printed : List ℕ
  pub counts : Counts
  pub told : Bool

-- the same, from what shelf and sink tell before a run and after it
abbrev pub counts_of : FaultCounts → FaultCounts → ℕ → ℕ → Counts
counts_of shelf now_shelf sink now_sink = record { shelf = shelf; now_shelf = now_shelf; sink = sink; now_sink = now_sink }

abbrev pub run_of : Bool → Texts → Texts → Texts → List ℕ → List ℕ → Counts → Run
run_of told texts written now_written printed now_printed counts = record {
  texts = texts;
  written = written;
  now_written = now_written;
  printed = printed;
  now_printed = now_printed;
  counts = counts;
  told = told;
}

abbrev pub NoneRose : Counts → Type 0
NoneRose counts = (counts.now_shelf ≡ counts.shelf) × (counts.now_sink ≡ counts.sink)

abbrev pub OneRose : Counts → Type 0
OneRose counts = Rose counts.shelf.all counts.now_shelf.all ⊎ Rose counts.sink counts.now_sink

-- a write failed: a `begin` or a `put` of the shelf, or a `put` of the sink
abbrev pub WriteFailed : Counts → Type 0
WriteFailed counts = WriteRose counts.shelf counts.now_shelf ⊎ Rose counts.sink counts.now_sink

-- one load failed, and no write
abbrev pub LoadFailed : Counts → Type 0
LoadFailed counts = LoadRose counts.shelf counts.now_shelf × (counts.now_sink ≡ counts.sink)

-- nothing was written
abbrev pub NothingWritten : Run → Type 0
NothingWritten run = run.now_written ≡ run.written

-- ---- a command
pub record Case : Type 1 where
  -- the statuses of its answers
  pub MayAnswer : ℕ → Type 0
  -- the statuses of its refusals
  pub MayRefuse : ℕ → Type 0
  -- what a run that answers leaves, by its status
  pub Answered : Run → ℕ → Type 0
  -- a run is refused, with a status and a line
  pub Refused : Run → ℕ → List ℕ → Type 0
  -- what stands written of a run that is refused
  pub Stands : Run → Type 0
  -- what a run leaves that a fault of writing ends, with the count of writes that rose
  pub Stopped : Run → Type 0
  -- what a run leaves that want of memory ends
  pub Cut : Run → Type 0
  -- the names of the texts that it may write
  pub Writes : List ℕ → Type 0
  -- nothing stands against a run
  pub Ready : Run → Type 0

-- ---- the promises
-- the inputs are refused, 3: a text is refused; 4: a limit is passed; 5: a text can't be read
abbrev pub IsInputRefusal : ℕ → Type 0
IsInputRefusal status = (status ≡ 3) ⊎ ((status ≡ 4) ⊎ (status ≡ 5))

-- the words are refused, 2: they ask for nothing; or the inputs are
abbrev pub IsRefusal : ℕ → Type 0
IsRefusal status = (status ≡ 2) ⊎ IsInputRefusal status

-- an answer, a refusal, a fault of writing, or want of memory
abbrev pub IsStatus : Case → ℕ → Type 0
IsStatus c status = c.MayAnswer status ⊎ (c.MayRefuse status ⊎ ((status ≡ 6) ⊎ (status ≡ 7)))

-- `read fault NAME`: the text under the name couldn't be loaded
abbrev pub read_fault_line : List ℕ → List ℕ
read_fault_line name = codes "read fault " ++ name ++ newline

-- a line that is due with 5 names the text whose load failed last
abbrev pub NamesFault : FaultCounts → FaultCounts → ℕ → List ℕ → Type 0
NamesFault old new status line = status ≡ 5 → LoadRose old new × (line ≡ read_fault_line new.failed_name)

-- nothing was printed but a refusal's line, whose cause holds, and what the case says stands written; at 5 it names the text whose load
-- failed last
pub record EndsRefused (c : Case) (run : Run) (status : ℕ) : Type 0 where
  pub line : List ℕ
  pub refused : c.Refused run status line
  pub named : NamesFault run.counts.shelf run.counts.now_shelf status line
  pub printed : run.now_printed ≡ run.printed ++ line
  pub stands : c.Stands run

-- the counts of faults: none rose at an answer and at 2 to 4, that of all faults by one but not that of writes at 5, one of writes at
-- 6, and the sink's did not at 7
pub record Causes (c : Case) (counts : Counts) (status : ℕ) : Type 0 where
  pub answer : c.MayAnswer status → NoneRose counts
  pub none : status ≤ 4 → NoneRose counts
  pub read : status ≡ 5 → LoadFailed counts
  pub write : status ≡ 6 → WriteFailed counts
  pub memory : status ≡ 7 → counts.now_sink ≡ counts.sink

pub record Keeps (c : Case) (run : Run) (status : ℕ) : Type 0 where
  pub is_status : IsStatus c status
  -- the command refuses with 2 to 5 alone
  pub refusals : (refused : ℕ) → c.MayRefuse refused → IsRefusal refused
  -- an answer: what is due was done
  pub answered : run.told ≡ true → c.MayAnswer status → c.Answered run status
  -- a refusal: for the cause that is printed
  pub refused : run.told ≡ true → c.MayRefuse status → EndsRefused c run status
  -- 6: writing failed
  pub stopped : run.told ≡ true → status ≡ 6 → c.Stopped run
  -- 7: memory was wanted
  pub cut : run.told ≡ true → status ≡ 7 → c.Cut run
  -- a text that it may not write is as it was
  pub others : run.told ≡ true → (name : List ℕ) → ¬ c.Writes name → run.now_written name ≡ run.written name
  -- the counts of faults
  pub causes : Causes c run.counts status
  -- where nothing stands against it and no count rises the run answers, or memory was wanted
  pub complete : run.told ≡ true → c.Ready run → ¬ OneRose run.counts → c.MayAnswer status ⊎ (status ≡ 7)
