-- What the writes of a list print: the lines of its sets, and the last line.
use Rattle.std.proofs.Common.{ℕ, ◌≡◌, ◌+◌, List, [], ◌∷◌, ◌++◌, length, map, Option, Some, None, refl, ap, ◌∙◌, append_assoc}
use Rattle.std.specs.List.{flat_map}
use Rattle.std.proofs.lemmas.List.{append-nil}
use Rattle.std.proofs.lemmas.List.Concat.{flat_map-append}
use Rattle.clause_base.specs.declared.log.Step.{Step}
use Rattle.design_core.specs.declared.trace.Trace.{Trace}
use Rattle.design_core.specs.declared.values.SetWithValues.{SetWithValues}
use Rattle.design_core.specs.declared.values.Values.{Values}
use Rattle.design_core.specs.Valuation.{Valuation}
use Rattle.report_doc.specs.declared.types.Ending.{Ending}
use Rattle.report_doc.specs.Lines.{set_lines}
use Rattle.write_order.specs.Writes.{Write, print_piece, printed_by}
use Rattle.set_waves.specs.Waved.{Runs, Waved}
use Rattle.set_waves.specs.Writes.{set_writes as wave_writes, waves_of, waves_writes}
use Rattle.list_writer.specs.Asked.{Asked}
use Rattle.list_writer.specs.Due.{first_writes, opening, set_writes, texts}
use Rattle.list_writer.specs.Found.{Portion, found_of}
use Rattle.list_writer.specs.Texts.{lines_of}
use Rattle.headline.specs.Headline.{members_of}

-- ---- waves print nothing
set-waves : (w : Waved) (prefix : List ℕ) (number : ℕ) (values : Values) (runs : ℕ → List Valuation) (j : ℕ) (traces : List Trace)
    → flat_map printed_by (wave_writes w prefix number values runs j traces) ≡ []
set-waves w prefix number values runs j [] = refl
set-waves w prefix number values runs j (trace ∷ traces) = set-waves w prefix number values runs (j + 1) traces

more-waves : (w : Waved) (prefix : List ℕ) (runs : Runs) (s : ℕ) (sets : List SetWithValues)
    → flat_map printed_by (waves_writes w prefix runs s sets) ≡ []
more-waves w prefix runs s [] = refl
more-waves w prefix runs s (set ∷ sets) =
    flat_map-append printed_by (wave_writes w prefix (s + 1) set.values (runs s) 0 w.traces) (waves_writes w prefix runs (s + 1) sets)
    ∙ ap (λ t. t ++ flat_map printed_by (waves_writes w prefix runs (s + 1) sets))
    (set-waves w prefix (s + 1) set.values (runs s) 0 w.traces)
    ∙ more-waves w prefix runs (s + 1) sets

waves-print : (w : Waved) (prefix : Option (List ℕ)) (runs : Runs) (sets : List SetWithValues)
    → flat_map printed_by (waves_of prefix w runs sets) ≡ []
waves-print w None runs sets = refl
waves-print w (Some prefix) runs sets = more-waves w prefix runs 0 sets

module _ (asked : Asked) where
  -- ---- each set prints its lines
  abbrev lines : List ℕ → List ℕ
  lines = set_lines asked.problem.groups asked.problem.design.places.items

  -- those of the session, before the search
  session-prints : (sets : List SetWithValues)
      → flat_map printed_by (map (λ (set : SetWithValues). print_piece (lines_of asked set)) sets) ≡ flat_map lines (members_of sets)
  session-prints [] = refl
  session-prints (set ∷ sets) = ap (λ t. lines set.members ++ t) (session-prints sets)

  sets-print : (portions : List Portion)
      → flat_map printed_by (flat_map (set_writes asked) portions)
      ≡ flat_map lines (members_of (map (λ (portion : Portion). portion.set) portions))
  sets-print [] = refl
  sets-print (portion ∷ portions) = ap (λ t. lines portion.set.members ++ t) (sets-print portions)

  -- and all that are found
  members-join : (one other : List SetWithValues)
      → flat_map lines (members_of one) ++ flat_map lines (members_of other) ≡ flat_map lines (members_of (one ++ other))
  members-join [] other = refl
  members-join (set ∷ one) other =
      append_assoc (lines set.members) (flat_map lines (members_of one)) (flat_map lines (members_of other))
      ∙ ap (λ t. lines set.members ++ t) (members-join one other)

  opening-prints : (portions : List Portion)
      → flat_map printed_by (opening asked portions) ≡ flat_map lines (members_of (found_of asked portions))
  opening-prints portions =
      flat_map-append printed_by (first_writes asked) (flat_map (set_writes asked) portions)
      ∙ ap (λ t. t ++ flat_map printed_by (flat_map (set_writes asked) portions)) (session-prints asked.session.sets)
      ∙ ap (λ t. flat_map lines (members_of asked.session.sets) ++ t) (sets-print portions)
      ∙ members-join asked.session.sets (map (λ (portion : Portion). portion.set) portions)

  -- ---- all of it
  pub all-print : (portions : List Portion) (rest : List Step) (ending : Ending) (runs : Runs) (last : List ℕ)
      → flat_map printed_by (opening asked portions ++ texts asked portions rest ending runs ++ print_piece last ∷ [])
      ≡ flat_map lines (members_of (found_of asked portions)) ++ last
  all-print portions rest ending runs last =
      flat_map-append printed_by (opening asked portions ++ texts asked portions rest ending runs) (print_piece last ∷ [])
      ∙ ap (λ t. t ++ (last ++ []))
      (flat_map-append printed_by (opening asked portions) (texts asked portions rest ending runs)
      ∙ ap (λ t. flat_map printed_by (opening asked portions) ++ t)
      (waves-print (record { top = asked.top; clock = asked.clock; design = asked.problem.design; traces = asked.problem.traces })
      asked.waves runs (found_of asked portions))
      ∙ append-nil (flat_map printed_by (opening asked portions)) ∙ opening-prints portions)
      ∙ ap (λ t. flat_map lines (members_of (found_of asked portions)) ++ t) (append-nil last)
