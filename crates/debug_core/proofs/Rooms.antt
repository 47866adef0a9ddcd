-- How long the log of a debugger is, that there is room for the next call, and that its blocks are negations of ascending variables.
use Rattle.std.proofs.Common.{◌≡◌, ℕ, ◌+◌, ◌^◌, ◌<◌, ◌≤◌, true, false, cond, List, [], ◌∷◌, length, map, take, drop, refl, ap, sym, subst, arith}
use Rattle.std.specs.Prelude.{All, count_by}
use Rattle.std.specs.List.Sorted.{IsStrictlyIncreasing}
use Rattle.std.proofs.lemmas.List.{length-drop, length-map, take-append-drop}
use Rattle.std.proofs.lemmas.List.Elements.{All-cons, All-head, All-nil, All-tail}
use Rattle.std.proofs.lemmas.List.Sums.{sum_by-append, sum_by-cons}
use Rattle.clause_base.specs.declared.literal.Lit.{Lit}
use Rattle.clause_base.specs.declared.log.Step.{Step}
use Rattle.clause_base.specs.declared.log.StepKind.{StepKind}
use Rattle.clause_base.specs.declared.log.StepKind.TheVariants.{Block, Derived, Learned}
use Rattle.clause_base.specs.Acceptance.{is_block, is_block_kind}
use Rattle.sat_core.specs.Outcome.{is_derived, is_derived_kind, is_learned, is_learned_kind}
use Rattle.sat_core.proofs.Growing.{blocks_counted}
use Rattle.set_enum.specs.Sets.{block_of}
use Rattle.design_core.specs.Listing.{IsEntry}
use Rattle.debug_core.specs.Debugging.{DebugState, HasRoom, IsDebugger}
use Rattle.debug_core.specs.Problems.{Problem, suspects_of}
use Rattle.debug_core.proofs.Debuggers.{members-block}
use Rattle.debug_core.proofs.Refusals.{clauses-few}

-- each step is of one kind
one-kind : (kind : StepKind) → cond (is_block_kind kind) 1 0 + cond (is_learned_kind kind) 1 0 + cond (is_derived_kind kind) 1 0 ≡ 1
one-kind Block = refl
one-kind Learned = refl
one-kind Derived = refl

kinds : (log : List Step) → length log ≡ count_by is_block log + count_by is_learned log + count_by is_derived log
kinds [] = refl
kinds (s ∷ log) = omega (
  arith,
  one-kind s.kind,
  kinds log,
  sum_by-cons (λ x. cond (is_block x) 1 0) s log,
  sum_by-cons (λ x. cond (is_learned x) 1 0) s log,
  sum_by-cons (λ x. cond (is_derived x) 1 0) s log,
)

-- those behind a place are as many at most
blocks-behind : (from : ℕ) (log : List Step) → count_by is_block (drop from log) ≤ count_by is_block log
blocks-behind from log = omega (
  arith,
  ap (count_by is_block) (sym (take-append-drop from log)),
  sum_by-append (λ s. cond (is_block s) 1 0) (take from log) (drop from log),
)

-- the negations of ascending variables
abbrev pub IsPlain : List Lit → Type 0
IsPlain clause = All (λ l. l.negated ≡ true) clause × IsStrictlyIncreasing (map (λ l. l.var) clause)

negations : (set : List ℕ) → All (λ l. l.negated ≡ true) (block_of set)
negations [] = All-nil (λ l. l.negated ≡ true)
negations (m ∷ set) = All-cons (λ l. l.negated ≡ true) (record { var = m; negated = true }) (block_of set) refl (negations set)

plain : (p : Problem) (sets : List (List ℕ)) → All (IsEntry p.design p.traces (suspects_of p) p.k) sets → All IsPlain (map block_of sets)
plain p [] entries = All-nil IsPlain
plain p (set ∷ sets) entries =
    let entry : IsEntry p.design p.traces (suspects_of p) p.k set =
    All-head (IsEntry p.design p.traces (suspects_of p) p.k) set sets entries in
    All-cons IsPlain (block_of set) (map block_of sets)
    (negations set, subst IsStrictlyIncreasing (sym (members-block set)) entry.suspects.ascending)
    (plain p sets (All-tail (IsEntry p.design p.traces (suspects_of p) p.k) set sets entries))

module _ (s : DebugState) (is : IsDebugger s) where
  pub few-clauses : length s.form ≤ 64000000
  few-clauses = omega (arith, clauses-few s.form, is.form.few_literals)

  -- while it has no step of a certificate behind a session's, the log has the session's steps, its own learned ones, at most nine derived
  -- ones, and the block of each set
  pub few-steps : s.finished ≡ false → length s.log ≤ s.imported + count_by is_learned (drop s.imported s.log) + 9 + length s.listed
  few-steps unfinished = omega (
    arith,
    kinds (drop s.imported s.log),
    length-drop s.imported s.log,
    blocks-behind s.imported s.log,
    blocks_counted s.log,
    ap length is.blocks,
    length-map s.listed block_of,
    is.few_derived unfinished,
    is.problem.size,
  )

  -- the next call finds room, where the session's steps, learned steps, units and sets are few
  pub has-room : s.finished ≡ false → (budget : ℕ)
      → s.imported + count_by is_learned (drop s.imported s.log) + budget + length s.listed ≤ 4000000000 → HasRoom s budget
  has-room unfinished budget few = omega (arith, few, few-clauses, few-steps unfinished, is.few_suspects, is.form.few_variables)

  -- form and log together have a number for each clause
  pub few-numbers : s.finished ≡ false → s.imported + count_by is_learned (drop s.imported s.log) + length s.listed ≤ 4000000000
      → length s.form + length s.log < 2 ^ 32
  few-numbers unfinished few = omega (arith, few, few-clauses, few-steps unfinished)

  pub plain-blocks : All IsPlain (map block_of s.listed)
  plain-blocks = plain s.problem s.listed is.front.entries
