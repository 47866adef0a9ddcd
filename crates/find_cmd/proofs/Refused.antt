-- A run of the command that ends by the line of a refusal, and causes that come of others.
use Rattle.std.proofs.Common.{ℕ, ◌≡◌, ◌≤◌, List, arith, ◌⊎◌, inl, inr}
use Rattle.io_ports.specs.Faults.{FaultCounts}
use Rattle.command_contract.specs.Contract.{Keeps, NamesFault, Run}
use Rattle.front_end.specs.Means.{Meaning}
use Rattle.load_problem.specs.Means.{Suspecting}
use Rattle.refusal.specs.Lines.{memory_line}
use Rattle.refusal.specs.Stops.{LineStops}
use Rattle.refusal.proofs.Keeping.{EndsByLines}
use Rattle.requests.specs.Asked.{FindAsked}
use Rattle.find_cmd.specs.Finding.{Causing, finding_by}

low-answer : (s : ℕ) → (s ≡ 0) ⊎ (s ≡ 1) → 2 ≤ s → ⊥
low-answer s (inl e) least = omega (arith, e, least)
low-answer s (inr e) least = omega (arith, e, least)

pub ends-by_lines : (M : Meaning) (S : Suspecting) (asked : FindAsked) (IsDue : Causing) (run : Run)
    → EndsByLines (finding_by M S asked IsDue) run
ends-by_lines M S asked IsDue run = record {
  no_answer = λ s may least most. low-answer s may least;
  may_refuse = λ s is. is;
  refuses = λ s is. is;
  stands = λ nothing. nothing;
  stops = λ rose stops. (rose, inr stops);
  cut = λ cut. inr cut;
}

-- ---- causes that come of others
due-line : (P Q : ℕ → List ℕ → Type 0) (old new : FaultCounts) (line : List ℕ) → ((s : ℕ) → P s line → Q s line)
    → ((s : ℕ) × P s line × NamesFault old new s line) ⊎ (line ≡ memory_line)
    → ((s : ℕ) × Q s line × NamesFault old new s line) ⊎ (line ≡ memory_line)
due-line P Q old new line gives (inl (s, due, named)) = inl (s, gives s due, named)
due-line P Q old new line gives (inr memory) = inr memory

due-stops : (P Q : ℕ → List ℕ → Type 0) (X : Type 0) (run : Run) → ((s : ℕ) (line : List ℕ) → P s line → Q s line)
    → X ⊎ LineStops P run → X ⊎ LineStops Q run
due-stops P Q X run gives (inl listed) = inl listed
due-stops P Q X run gives (inr stops) = inr (record {
  line = stops.line;
  is_due = due-line P Q run.counts.shelf run.counts.now_shelf stops.line (λ s. gives s stops.line) stops.is_due;
  printed = stops.printed;
  sink_failed = stops.sink_failed;
  nothing_written = stops.nothing_written;
})

-- a list that is refused for some causes is refused for those that come of them
pub due-keeps : (M : Meaning) (S : Suspecting) (asked : FindAsked) (P Q : Causing) (run : Run) (status : ℕ)
    → ((s : ℕ) (line : List ℕ) → P run.texts s line → Q run.texts s line)
    → Keeps (finding_by M S asked P) run status → Keeps (finding_by M S asked Q) run status
due-keeps M S asked P Q run status gives keeps = record {
  is_status = keeps.is_status;
  refusals = keeps.refusals;
  answered = keeps.answered;
  refused = λ told may.
      let ends = keeps.refused told may in
      record {
        line = ends.line;
        refused = gives status ends.line ends.refused;
        named = ends.named;
        printed = ends.printed;
        stands = ends.stands;
      };
  stopped = λ told six.
      let stops = keeps.stopped told six in
      (stops.0, due-stops (P run.texts) (Q run.texts) _ run gives stops.1);
  cut = keeps.cut;
  others = keeps.others;
  causes = record {
    answer = keeps.causes.answer;
    none = keeps.causes.none;
    read = keeps.causes.read;
    write = keeps.causes.write;
    memory = keeps.causes.memory;
  };
  complete = keeps.complete;
}
