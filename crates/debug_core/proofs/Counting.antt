-- The log that a debugger has with the last set's certificate behind it: its derived steps are few.
use Rattle.std.proofs.Common.{◌≡◌, ℕ, ◌+◌, ◌-◌, ◌<◌, ◌≤◌, false, List, [], ◌∷◌, ◌++◌, cond, length, map, take, drop, get_or, refl, ap, sym, ◌∙◌, subst, arith}
use Rattle.std.specs.Prelude.{All, Contains, count_by}
use Rattle.std.specs.List.Sorted.{IsStrictlyIncreasing}
use Rattle.std.proofs.Math.Seq.{get_or-append_right}
use Rattle.std.proofs.lemmas.List.{get_or_append_left, length-append, length-map, take_all, take_at}
use Rattle.std.proofs.lemmas.List.Elements.{All-head, All-nil, All-tail}
use Rattle.std.proofs.lemmas.List.Kept.{AllPairs-from_increasing}
use Rattle.std.proofs.lemmas.List.Sums.{sum_by-cons}
use Rattle.loc_base.proofs.ShelfLists.{AllZip-at, AllZip-length, All-member}
use Rattle.suspect_map.specs.declared.group.Group.{Group}
use Rattle.suspect_map.proofs.Ascending.{ascending-head, ascending-tail}
use Rattle.clause_base.specs.declared.log.Step.{Step}
use Rattle.clause_base.specs.declared.log.StepKind.{StepKind}
use Rattle.clause_base.specs.declared.log.StepKind.TheVariants.{Block, Learned, Derived}
use Rattle.clause_base.specs.Counted.{EndsASize, IsCounted, IsPassedOver, ShowsAbsent, is_derived_kind}
use Rattle.clause_base.specs.Steps.{no_step, step_at}
use Rattle.card_counter.specs.Shows.{last_of}
use Rattle.sat_core.specs.Outcome.{is_derived, is_derived_kind as is_derived_of}
use Rattle.set_enum.specs.Bounds.{bound_of, bounds_of}
use Rattle.design_core.specs.Listing.{IsEntry}
use Rattle.debug_core.specs.Problems.{suspect_count, suspects_of}
use Rattle.debug_core.specs.Debugging.{DebugState, HasCountedLog, IsDebugger, IsKept, ShowEach, with_appended}
use Rattle.debug_core.proofs.Certified.{last-or-none}

-- ---- ascending numbers
-- there are at most as many as there are between their bounds
pub few-between : (low high : ℕ) (xs : List ℕ) → IsStrictlyIncreasing xs → All (λ x. (low < x) × (x ≤ high)) xs → length xs ≤ high - low
few-between low high [] ascending between = omega arith
few-between low high (x ∷ xs) ascending between =
    let first : (low < x) × (x ≤ high) = All-head (λ (y : ℕ). (low < y) × (y ≤ high)) x xs between in
    let rest : length xs ≤ high - x = few-between x high xs (ascending-tail x xs ascending) (λ i d within.
    (ascending-head x xs ascending i d within, (All-tail (λ (y : ℕ). (low < y) × (y ≤ high)) x xs between i d within).1)) in
    omega (arith, first.0, first.1, rest)

-- ---- derived steps
same-derived : (kind : StepKind) → is_derived_kind kind ≡ is_derived_of kind
same-derived Block = refl
same-derived Learned = refl
same-derived Derived = refl

derived-counted : (log : List Step) → count_by (λ (step : Step). is_derived_kind step.kind) log ≡ count_by is_derived log
derived-counted [] = refl
derived-counted (s ∷ log) = omega (
  arith,
  sum_by-cons (λ (x : Step). cond (is_derived_kind x.kind) 1 0) s log,
  sum_by-cons (λ (x : Step). cond (is_derived x) 1 0) s log,
  ap {B = ℕ} (λ b. cond b 1 0) (same-derived s.kind),
  derived-counted log,
)

-- ---- the log
-- while it has no step of a certificate, none of its derived steps shows anything absent
pub counted-unfinished : (s : DebugState) → IsDebugger s → s.finished ≡ false → HasCountedLog s
counted-unfinished s holds unfinished = (
  length s.log,
  (λ (place : ℕ). 0),
  record {
    fresh = holds.fresh;
    from_before = holds.session_within;
    tail_within = omega arith;
    ends = λ place low within kind. holds.ends unfinished place low within kind;
    few_ends = omega (
      arith,
      ap (λ (log : List Step). count_by (λ (step : Step). is_derived_kind step.kind) (drop s.imported log)) (take_all (length s.log) s.log (omega arith)),
      derived-counted (drop s.imported s.log),
      holds.few_derived unfinished,
    );
    few_shown = omega arith;
    derived = λ place low within. absurd (omega (arith, low, within));
    shown = λ place low within. absurd (omega (arith, low, within));
    passed_over = λ place low within. absurd (omega (arith, low, within));
    apart = λ i j low below within same. absurd (omega (arith, low, below, within));
  },
)

module _ (old : DebugState) (holds : IsDebugger old) where
  abbrev n : ℕ
  n = suspect_count old.problem

  abbrev members : List ℕ
  members = last_of old.listed

  abbrev each : ShowEach n old.problem.k members old.certificate
  each = holds.certified.each

  abbrev Absent : ℕ → Step → Type 0
  Absent x step = ShowsAbsent members (bound_of n old.problem.k (length members)) x step.clause

  passed-long : length each.passed ≡ length old.certificate
  passed-long = AllZip-length Absent each.passed old.certificate each.shown

  -- the members of the last set are suspects
  entries-numbered : All (All (λ m. (1 ≤ m) × (m ≤ n))) old.listed
  entries-numbered i d within =
      let entry : IsEntry old.problem.design old.problem.traces (suspects_of old.problem) old.problem.k (get_or old.listed i d) = holds.front.entries i d within in
      subst (λ (count : ℕ). All (λ m. (1 ≤ m) × (m ≤ count)) (get_or old.listed i d)) (length-map old.problem.groups (λ (group : Group). group.places)) entry.suspects.numbers

  members-numbered : All (λ m. (1 ≤ m) × (m ≤ n)) members
  members-numbered = last-or-none (All (λ m. (1 ≤ m) × (m ≤ n))) old.listed (All-nil (λ (m : ℕ). (1 ≤ m) × (m ≤ n))) entries-numbered

  -- a suspect that the last set passes over is one
  passed-within : (x : ℕ) → IsPassedOver members x → (0 < x) × (x ≤ n)
  passed-within x passed =
      let (m, member, less) = passed.greater in
      let range : (1 ≤ m) × (m ≤ n) = All-member (λ (v : ℕ). (1 ≤ v) × (v ≤ n)) members m members-numbered member in
      (omega (arith, passed.suspect), omega (arith, less, range.1))

  pub few-certificate : length old.certificate ≤ n
  few-certificate = omega (
    arith,
    passed-long,
    few-between 0 n each.passed each.ascending (λ i d within. passed-within (get_or each.passed i d) (each.are i d within)),
  )

  -- with the whole certificate
  abbrev now : DebugState
  now = with_appended old (length old.certificate)

  module _ (after : IsDebugger now) (unfinished : old.finished ≡ false) where
    abbrev tail : ℕ
    tail = length old.log

    log-is : now.log ≡ old.log ++ old.certificate
    log-is = ap (λ steps. old.log ++ steps) (take_all (length old.certificate) old.certificate (omega arith))

    long : length now.log ≡ tail + length old.certificate
    long = ap length log-is ∙ length-append old.log old.certificate

    before : (place : ℕ) → place < tail → step_at now.log place ≡ step_at old.log place
    before place low = ap (λ log. step_at log place) log-is ∙ get_or_append_left old.log old.certificate no_step place low

    behind : (place : ℕ) → tail ≤ place → step_at now.log place ≡ step_at old.certificate (place - tail)
    behind place high = ap (λ log. step_at log place) log-is ∙ get_or-append_right old.log old.certificate place no_step high

    abbrev absent : ℕ → ℕ
    absent place = get_or each.passed (place - tail) 0

    at-passed : (place : ℕ) → tail ≤ place → place < length now.log → place - tail < length each.passed
    at-passed place low within = omega (arith, low, within, long, passed-long)

    counted-now : HasCountedLog now
    counted-now = (
      tail,
      absent,
      record {
        fresh = after.fresh;
        from_before = holds.session_within;
        tail_within = omega (arith, long);
        ends = λ place low within kind.
            subst (λ (s : Step). EndsASize (bounds_of n old.problem.k) s.clause) (sym (before place within))
            (holds.ends unfinished place low within (ap (λ (s : Step). s.kind) (sym (before place within)) ∙ kind));
        few_ends = omega (
          arith,
          ap (λ (log : List Step). count_by (λ (step : Step). is_derived_kind step.kind) (drop old.imported log)) (ap (take tail) log-is ∙ take_at old.log old.certificate tail refl),
          derived-counted (drop old.imported old.log),
          holds.few_derived unfinished,
        );
        few_shown = omega (arith, long, few-certificate);
        derived = λ place low within.
            ap (λ (s : Step). s.kind) (behind place low) ∙ (holds.certified.kept (place - tail) no_step (omega (arith, low, within, long))).derived.kind;
        shown = λ place low within.
            subst (λ (s : Step). ShowsAbsent members (bound_of n old.problem.k (length members)) (absent place) s.clause) (sym (behind place low))
            (AllZip-at Absent each.passed old.certificate (place - tail) 0 no_step each.shown (at-passed place low within));
        passed_over = λ place low within. each.are (place - tail) 0 (at-passed place low within);
        apart = λ i j low below within same.
            let less : absent i < absent j =
            AllPairs-from_increasing each.passed each.ascending (i - tail) (j - tail) 0 (omega (arith, low, below)) (at-passed j (omega (arith, low, below)) within) in
            omega (arith, same, less);
      },
    )

  -- what is appended shows suspects absent
  pub counted : (new : DebugState) → new ≡ with_appended old (length old.certificate) → IsDebugger new → old.finished ≡ false → HasCountedLog new
  counted new is after unfinished = subst HasCountedLog (sym is) (counted-now (subst IsDebugger is after) unfinished)
