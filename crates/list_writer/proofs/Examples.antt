-- What is due in some cases, and what stands where it is cut short.
use Rattle.std.proofs.Common.{ℕ, ◌≡◌, List, [], ◌∷◌, ◌++◌, length, take, ap, refl, Some, None}
use Rattle.std.specs.Prelude.{codes}
use Rattle.std.specs.Fmt.{digits}
use Rattle.std.specs.List.{flat_map}
use Rattle.std.proofs.lemmas.List.{append-nil}
use Rattle.loc_base.specs.declared.digest.Digest.{Digest}
use Rattle.design_core.specs.declared.values.SetWithValues.{SetWithValues}
use Rattle.clause_base.specs.declared.log.Step.{Step}
use Rattle.log_portions.specs.Portions.{head_text, steps_text}
use Rattle.report_doc.specs.declared.types.Ending.TheVariants.{Complete, Budget, Sets}
use Rattle.write_order.specs.Writes.{begin_text, print_piece, printed_by, put_piece, text_behind}
use Rattle.debug_core.specs.Problems.{Problem}
use Rattle.list_writer.specs.Asked.{Asked, no_session}
use Rattle.list_writer.specs.Found.{Portion, found_of}
use Rattle.list_writer.specs.Lines.{ending_line}
use Rattle.list_writer.specs.Texts.{lines_of, report_of}
use Rattle.list_writer.specs.Due.{opening, short, texts}
use Rattle.set_waves.specs.Waved.{Runs}

-- ---- last lines
a_whole_list_of_two_sets : ending_line Complete 2 ≡ codes "complete 2\n"
unfolding digits
a_whole_list_of_two_sets = refl

a_list_of_as_many_sets_as_were_asked_for : ending_line Sets 1 ≡ codes "front 1 sets\n"
unfolding digits
a_list_of_as_many_sets_as_were_asked_for = refl

a_budget_that_is_spent_before_a_set_is_found : ending_line Budget 0 ≡ codes "front 0 budget\n"
unfolding digits
a_budget_that_is_spent_before_a_set_is_found = refl

-- ---- a listing under two names
module _ (p : Problem) (inputs : Digest) (one two : Portion) (rest : List Step) (runs : Runs) where
  abbrev asked : Asked
  asked = record {
    problem = p;
    session = no_session;
    budget = 200000;
    sets = 1000;
    log = codes "l";
    report = codes "r";
    waves = None;
    checkpoints = None;
    inputs = inputs;
    top = codes "m";
    clock = None;
    kinds = codes "stmt" ∷ [];
  }

  -- memory is wanted before the log is begun
  memory_before_the_log : short 0 (opening asked (one ∷ [])) ≡ print_piece (codes "memory\n") ∷ []
  memory_before_the_log = refl

  -- and behind its head
  memory_behind_the_head : short 2 (opening asked (one ∷ []))
      ≡ begin_text (codes "l") ∷ put_piece (codes "l") (head_text inputs) ∷ print_piece (codes "front 0 memory\n") ∷ []
  unfolding digits
  memory_behind_the_head =
      ap (λ head. begin_text (codes "l") ∷ put_piece (codes "l") head ∷ print_piece (codes "front 0 memory\n") ∷ []) (append-nil (head_text inputs))

  -- the log of two sets and the rest of it
  the_log_of_two_sets : text_behind (codes "l") (opening asked (one ∷ two ∷ []) ++ texts asked (one ∷ two ∷ []) rest Complete runs) None
      ≡ Some (((head_text inputs ++ steps_text one.steps) ++ steps_text two.steps) ++ steps_text rest)
  the_log_of_two_sets =
      ap (λ head. Some (((head ++ steps_text one.steps) ++ steps_text two.steps) ++ steps_text rest)) (append-nil (head_text inputs))

  -- the report stands alone under its name
  the_report_of_two_sets : text_behind (codes "r") (opening asked (one ∷ two ∷ []) ++ texts asked (one ∷ two ∷ []) rest Complete runs) None
      ≡ Some (report_of asked (one.set ∷ two.set ∷ []) Complete)
  the_report_of_two_sets = refl

  -- where the third put on the log fails, the lines of the first set are printed and nothing more, and the report isn't begun
  printed_at_a_fault_of_the_third_put : (part : List ℕ)
      → flat_map printed_by (take 4 (opening asked (one ∷ two ∷ [])) ++ put_piece (codes "l") part ∷ []) ≡ lines_of asked one.set
  printed_at_a_fault_of_the_third_put part = append-nil (lines_of asked one.set)

  no_report_at_a_fault_of_the_third_put : (part : List ℕ)
      → text_behind (codes "r") (take 4 (opening asked (one ∷ two ∷ [])) ++ put_piece (codes "l") part ∷ []) None ≡ None
  no_report_at_a_fault_of_the_third_put part = refl

  -- ---- the same, going on from a session of one set
  module _ (before : SetWithValues) (log : List Step) where
    abbrev asked_on : Asked
    asked_on = record {
      problem = p;
      session = record { sets = before ∷ []; log = log };
      budget = 200000;
      sets = 1;
      log = codes "l";
      report = codes "r";
      waves = None;
      checkpoints = None;
      inputs = inputs;
      top = codes "m";
      clock = None;
      kinds = codes "stmt" ∷ [];
    }

    -- memory is wanted behind the lines of the session's set
    memory_behind_the_session : short 3 (opening asked_on (one ∷ []))
        ≡ begin_text (codes "l") ∷ put_piece (codes "l") (head_text inputs ++ steps_text log) ∷ print_piece (lines_of asked_on before)
        ∷ print_piece (codes "front 1 memory\n") ∷ []
    unfolding digits
    memory_behind_the_session = refl

    -- the log has the session's steps in its first piece
    the_log_of_a_session_and_a_set : text_behind (codes "l") (opening asked_on (one ∷ []) ++ texts asked_on (one ∷ []) rest Sets runs) None
        ≡ Some (((head_text inputs ++ steps_text log) ++ steps_text one.steps) ++ steps_text rest)
    the_log_of_a_session_and_a_set = refl

    -- the report and the last line have the session's set too
    the_report_of_a_session_and_a_set : text_behind (codes "r") (opening asked_on (one ∷ []) ++ texts asked_on (one ∷ []) rest Sets runs) None
        ≡ Some (report_of asked_on (before ∷ one.set ∷ []) Sets)
    the_report_of_a_session_and_a_set = refl

    the_last_line_of_a_session_and_a_set : ending_line Sets (length (found_of asked_on (one ∷ []))) ≡ codes "front 2 sets\n"
    unfolding digits
    the_last_line_of_a_session_and_a_set = refl
