-- What stands under the names of checkpoints `run-1.log`, .. in some cases.
use Rattle.std.proofs.Common.{ℕ, ◌≡◌, List, [], ◌∷◌, ◌++◌, refl, Option, Some, None}
use Rattle.std.specs.Prelude.{codes}
use Rattle.write_order.specs.Writes.{begin_text, put_piece, text_behind}
use Rattle.list_writer.specs.declared.pair.Pair.TheVariants.{First}
use Rattle.list_writer.specs.Asked.{Asked}
use Rattle.list_writer.specs.CheckpointNames.{beside}
use Rattle.list_writer.specs.Checkpoints.{Checkpoint, all_writes, log_text, report_text}

-- other texts stand beside them
no_checkpoint_stands_beside : beside (Some (codes "run")) (λ name. Some []) (codes "run-2.json") ≡ None
no_checkpoint_stands_beside = refl

another_text_stands_beside : beside (Some (codes "run")) (λ name. Some []) (codes "run-3.log") ≡ Some []
another_text_stands_beside = refl

module _ (asked : Asked) (one two three : Checkpoint) where
  -- the third has the names of the first
  the_log_of_the_third : text_behind (codes "run-1.log") (all_writes asked (codes "run") First (one ∷ two ∷ three ∷ [])) None
      ≡ Some (log_text asked three)
  the_log_of_the_third = refl

  the_report_of_the_second : text_behind (codes "run-2.json") (all_writes asked (codes "run") First (one ∷ two ∷ three ∷ [])) None
      ≡ Some (report_text asked two)
  the_report_of_the_second = refl

  -- where the put of the third's log fails, the second stands whole, and the first's report
  module _ (part : List ℕ) where
    abbrev at_a_fault : List ℕ → Option (List ℕ)
    at_a_fault name =
        text_behind name (all_writes asked (codes "run") First (one ∷ two ∷ []) ++ begin_text (codes "run-1.log") ∷ put_piece (codes "run-1.log") part ∷ [])
        None

    the_second_log_at_a_fault : at_a_fault (codes "run-2.log") ≡ Some (log_text asked two)
    the_second_log_at_a_fault = refl

    the_second_report_at_a_fault : at_a_fault (codes "run-2.json") ≡ Some (report_text asked two)
    the_second_report_at_a_fault = refl

    the_third_log_at_a_fault : at_a_fault (codes "run-1.log") ≡ Some part
    the_third_log_at_a_fault = refl
