-- What stands where a search has ended: it is a listing that ended, its log can be checked, and its report can be written.
use Rattle.std.proofs.Common.{◌≡◌, ℕ, suc, ◌+◌, ◌-◌, ◌<◌, ◌≤◌, ◌^◌, List, [], ◌∷◌}
use Rattle.std.proofs.Common.{◌++◌, length, map, drop, refl, ap, sym, ◌∙◌, subst, arith}
use Rattle.std.specs.Prelude.{All, IsTrue, count_by, if◌then◌else◌}
use Rattle.std.proofs.lemmas.Bool.{ne_eqb}
use Rattle.std.proofs.Common.{get_or}
use Rattle.std.proofs.lemmas.List.{get_or-map, length-map}
use Rattle.std.proofs.lemmas.List.Elements.{All-cons, All-head, All-nil, All-tail}
use Rattle.clause_base.specs.declared.literal.Lit.{Lit}
use Rattle.clause_base.specs.declared.log.Step.{Step}
use Rattle.clause_base.specs.Acceptance.{IsAccepted}
use Rattle.clause_base.specs.Counted.{IsCounted}
use Rattle.clause_base.specs.Literal.{IsWithin, has_distinct_variables}
use Rattle.design_core.specs.declared.values.SetWithValues.{SetWithValues}
use Rattle.sat_core.specs.Outcome.{is_learned}
use Rattle.set_enum.specs.Bounds.{bound_of, bounds_of}
use Rattle.set_enum.specs.Sets.{block_of}
use Rattle.proof_check.specs.Text.{IsDigest, IsLogText}
use Rattle.log_portions.proofs.Writable.{written}
use Rattle.report_doc.specs.declared.types.Ending.{Ending}
use Rattle.report_doc.specs.declared.types.Ending.TheVariants.{Complete, Budget, Sets, Earlier}
use Rattle.report_sets.specs.Found.{HasRows}
use Rattle.report_doc.specs.Lines.{AreWithin}
use Rattle.report_doc.specs.Shape.{AreKinds}
use Rattle.debug_core.specs.Debugging.{DebugState}
use Rattle.card_counter.specs.Shows.{Shows, last_of}
use Rattle.debug_core.specs.Problems.{Problem, suspect_count, suspects_of}
use Rattle.suspect_map.specs.declared.group.Group.{Group}
use Rattle.suspect_map.specs.Groups.{AreWithin as GroupsWithin}
use Rattle.set_waves.specs.Waved.{AreRuns, CanBeWaved, HaveValues, Runs}
use Rattle.set_waves.proofs.Given.{places-within, some-runs}
use Rattle.list_writer.specs.Texts.{waved_for}
use Rattle.debug_core.proofs.Rooms.{few-clauses, plain-blocks}
use Rattle.list_writer.specs.Asked.{Asked, most_sets}
use Rattle.list_writer.specs.Found.{EndsAs, IsCountedFor, IsEnded, IsShown, Portion, found_of, log_of, own_steps, sets_of}
use Rattle.list_writer.specs.Going.{HasEnded, ShowsFront}
use Rattle.list_writer.specs.Lines.{ending_status}
use Rattle.design_core.specs.declared.trace.Trace.{Trace}
use Rattle.design_core.specs.Explained.{cycles_before}
use Rattle.unroller.specs.Unrolls.{cycles_of}
use Rattle.list_writer.specs.Reporting.{AreReportable, CanBeReported}
use Rattle.list_writer.specs.Checks.{AreSets, CanBeChecked, blocks_for}
use Rattle.list_writer.proofs.SoFar.{found-long}
use Rattle.list_writer.proofs.Steps.{blocks-in, chainless, of-steps, sets-blocks}

-- the cycles of all traces
cycles-all : (traces : List Trace) → cycles_before traces (length traces) ≡ cycles_of traces
cycles-all [] = refl
cycles-all (trace ∷ traces) =
    let one : suc (length traces) - 1 ≡ length traces = omega arith in
    ap (λ t. if t then 0 else trace.cycles + cycles_before traces (suc (length traces) - 1))
    (ne_eqb (suc (length traces)) 0 (λ same. omega (arith, same)))
    ∙ ap (λ n. trace.cycles + cycles_before traces n) one ∙ ap (λ n. trace.cycles + n) (cycles-all traces)

-- at its end a listing has at most as many sets as were asked for, beside those of the session
pub few-sets-of : (asked : Asked) (portions : List Portion) (log : List Step) (how : Ending) → EndsAs asked portions log how
    → length (found_of asked portions) ≤ most_sets asked
few-sets-of asked portions log Complete ends = omega (arith, ends.2, found-long asked portions)
few-sets-of asked portions log Budget ends = omega (arith, ends.1, found-long asked portions)
few-sets-of asked portions log Sets ends = omega (arith, ends, found-long asked portions)
few-sets-of asked portions log Earlier ends = absurd ends

module _ (asked : Asked) (s : DebugState) (found : List SetWithValues) (steps : ℕ) (ending : Ending) (portions : List Portion)
    (is : HasEnded asked s found steps ending portions) where
  abbrev whole : List Step
  whole = log_of asked portions ++ drop steps s.log

  accepted : IsAccepted s.form (map block_of (sets_of asked portions)) s.log
  accepted = subst (λ (sets : List (List ℕ)). IsAccepted s.form (map block_of sets) s.log) is.listed is.holds.accepted

  abbrev CountedAt : Problem → List (List ℕ) → ℕ → Type 0
  CountedAt p sets from =
      let n = suspect_count p in
      IsCounted s.form (bounds_of n p.k) (p.k + 1) n (last_of sets) (bound_of n p.k (length (last_of sets))) s.log from

  counted-log : IsCountedFor asked s.form (sets_of asked portions) s.log
  counted-log =
      subst (λ (p : Problem). CountedAt p (sets_of asked portions) (length asked.session.log)) is.problem
      (subst (λ (sets : List (List ℕ)). CountedAt s.problem sets (length asked.session.log)) is.listed
      (subst (CountedAt s.problem s.listed) is.imported is.counted))

  shows-log : ShowsFront s ending → ending_status ending ≡ 1
      → Shows (suspect_count asked.problem) asked.problem.k (last_of (sets_of asked portions)) s.log
  shows-log shown front =
      subst (λ (p : Problem). Shows (suspect_count p) p.k (last_of (sets_of asked portions)) s.log) is.problem
      (subst (λ (sets : List (List ℕ)). Shows (suspect_count s.problem) s.problem.k (last_of sets) s.log) is.listed (shown front))

  few-listed : length s.listed ≡ length found
  few-listed = ap length is.listed ∙ length-map (found_of asked portions) (λ (set : SetWithValues). set.members)
      ∙ sym (ap length is.found_are)

  few_found : length found ≤ most_sets asked
  few_found = omega (arith, few-sets-of asked portions s.log ending is.ends, ap length is.found_are)

  module _ (few : length asked.session.log + length asked.session.sets + asked.budget + asked.sets ≤ 4000000000) where
    few-here : length asked.session.log + count_by is_learned (own_steps asked s.log) + length s.listed ≤ 4000000000
    few-here = omega (arith, few, few_found, few-listed, is.within_budget)

    -- form and log together have a number for each clause
    few-numbers : length s.form + length s.log < 2 ^ 32
    few-numbers = omega (arith, is.few, few-here, few-clauses s is.holds, is.holds.few_suspects, is.holds.form.few_variables)

    -- its report aside, it is a listing that ended, where the digest is one
    pub is-ended : IsDigest asked.inputs → ShowsFront s ending → IsEnded asked s.form portions (drop steps s.log) ending
    is-ended digest shown = record {
      found = is.so_far;
      no_block = is.no_block;
      accepted = subst (IsAccepted s.form (map block_of (sets_of asked portions))) (sym is.joined) accepted;
      counted = subst (IsCountedFor asked s.form (sets_of asked portions)) (sym is.joined) counted-log;
      within_budget = omega (arith, ap (λ (log : List Step). count_by is_learned (own_steps asked log)) is.joined, is.within_budget);
      ends = subst (λ (log : List Step). EndsAs asked portions log ending) (sym is.joined) is.ends;
      shows = subst (λ (log : List Step). ending_status ending ≡ 1
          → Shows (suspect_count asked.problem) asked.problem.k (last_of (sets_of asked portions)) log) (sym is.joined) (shows-log shown);
      readable = subst (λ (log : List Step). IsLogText (record { inputs = asked.inputs; log = log })) (sym is.joined) (record {
        digest = digest;
        steps = written (record { vars = s.vars; form = s.form; blocks = map block_of s.listed; log = s.log }) (record {
          accepted = is.holds.accepted;
          blocks = plain-blocks s is.holds;
          chainless = chainless s.log is.holds.chainless;
          within = is.holds.log_within;
          few_variables = is.holds.form.few_variables;
          few_clauses = few-numbers;
        });
        distinct = of-steps (λ clause. IsTrue (has_distinct_variables clause)) s.log is.holds.distinct;
      });
    }

    -- what holds of each clause of the log holds of its blocks
    of-blocks : (P : List Lit → Type 0) → All P (map (λ (step : Step). step.clause) s.log) → All P (blocks_for found)
    of-blocks P all =
        subst (All P) (is.holds.blocks ∙ ap (map block_of) is.listed ∙ sets-blocks (found_of asked portions) ∙ ap blocks_for (sym is.found_are))
        (blocks-in P s.log all)

    pub can-be-checked : CanBeChecked s found
    can-be-checked = record {
      sets = unmapped found (of-blocks (λ clause. IsTrue (has_distinct_variables clause)) is.holds.distinct);
      accepted = subst (λ (bs : List (List Lit)). IsAccepted s.form bs s.log)
          (ap (map block_of) is.listed ∙ sets-blocks (found_of asked portions) ∙ ap blocks_for (sym is.found_are)) is.holds.accepted;
      form_within = is.holds.form_within;
      within = of-blocks (IsWithin s.vars) is.holds.log_within;
      few = omega (arith, is.few, few-here, is.holds.few_suspects, is.holds.form.few_variables);
    }
      where
        unmapped : (sets : List SetWithValues) → All (λ clause. IsTrue (has_distinct_variables clause)) (blocks_for sets) → AreSets sets
        unmapped sets all i d within =
            subst (λ clause. IsTrue (has_distinct_variables clause)) (get_or-map (λ
            (set : SetWithValues). block_of set.members) sets i d (block_of d.members) within)
            (all i (block_of d.members) (omega (arith, within, length-map sets (λ (set : SetWithValues). block_of set.members))))

  -- its report can be written
  pub can-be-reported : AreKinds asked.kinds → CanBeReported asked found
  can-be-reported kinds = record {
    kinds = kinds;
    size = subst (λ (p : Problem). p.k ≤ 8) is.problem is.holds.problem.size;
    sets = reportable found is.shown;
    within = subst (λ (p : Problem). AreWithin p.design.places.items p.groups) is.problem is.holds.problem.groups;
  }
    where
      few-cycles : cycles_before asked.problem.traces (length asked.problem.traces) < 2 ^ 32
      few-cycles = subst (λ (n : ℕ). n < 2 ^ 32) (sym (cycles-all asked.problem.traces))
          (subst (λ (p : Problem). cycles_of p.traces < 2 ^ 32) is.problem is.holds.problem.few_cycles)

      has-rows : {set : SetWithValues} → IsShown asked.problem set → HasRows asked.problem.traces set.values
      has-rows shown = record { rows = shown.rows.rows.whole; few = few-cycles }

      reportable : (sets : List SetWithValues) → All (IsShown asked.problem) sets → AreReportable asked.problem.traces sets
      reportable sets shown i d within = has-rows (shown i d within)

  -- its waves can be written
  pub can-be-waved : CanBeWaved (waved_for asked) asked.problem.order
  can-be-waved = subst (λ (p : Problem). CanBeWaved (record { top = asked.top; clock = asked.clock; design = p.design; traces = p.traces })
      p.order) is.problem (record {
        simulable = record {
          well_formed = is.holds.problem.well_formed;
          once = is.holds.problem.once;
          ordered = is.holds.problem.ordered;
        };
        traces = is.holds.problem.traces;
        few = subst (λ (n : ℕ). n < 2 ^ 32) (sym (cycles-all s.problem.traces)) is.holds.problem.few_cycles;
      })

  pub have-values : HaveValues (waved_for asked) found
  have-values i set within =
      let shown : IsShown asked.problem (get_or found i set) = is.shown i set within in
      record {
        places = places-within (length asked.problem.design.places.items) (suspects_of asked.problem) (get_or found i set).members
            (get_or found i set).values.places.items suspects-are shown.rows.places;
        rows = shown.rows.rows;
      }
    where
      suspects-are : All (All (λ p. p < length asked.problem.design.places.items)) (suspects_of asked.problem)
      suspects-are = mapped asked.problem.groups
          (subst (λ (p : Problem). GroupsWithin (length p.design.places.items) p.groups) is.problem is.holds.problem.groups)
        where
          mapped : (groups : List Group) → GroupsWithin (length asked.problem.design.places.items) groups
              → All (All (λ p. p < length asked.problem.design.places.items)) (map (λ (group : Group). group.places) groups)
          mapped [] all = All-nil (All (λ p. p < length asked.problem.design.places.items))
          mapped (group ∷ groups) all =
              All-cons (All (λ p. p < length asked.problem.design.places.items)) group.places
              (map (λ (other : Group). other.places) groups)
              (All-head (λ (other : Group). All (λ p. p < length asked.problem.design.places.items) other.places) group groups all)
              (mapped groups (All-tail (λ (other : Group). All (λ p. p < length asked.problem.design.places.items) other.places)
              group groups all))

  pub runs-of : (runs : Runs) × AreRuns (waved_for asked) (found_of asked portions) runs
  runs-of = some-runs (waved_for asked) asked.problem.order (found_of asked portions) can-be-waved
