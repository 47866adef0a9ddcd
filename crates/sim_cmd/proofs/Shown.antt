-- What stands where the lines of traces were printed.
use Rattle.std.proofs.Common.{ℕ, ◌+◌, Bool, List, ◌++◌, length, take, ap, sym, ◌∙◌, inl, inr}
use Rattle.std.proofs.Math.Seq.{take-append-add}
use Rattle.std.proofs.lemmas.List.{append_assoc}
use Rattle.refusal.specs.Ends.{PrintCounts, Prints}
use Rattle.refusal.specs.Lines.{memory_line}
use Rattle.sim_lines.specs.Lines.{Line, text_of}
use Rattle.sim_lines.specs.Shows.{PrintsSome}
use Rattle.sim_cmd.specs.Ends.{EndsShown, ShownCounts}

-- some lines, and then `memory`
pub some-then-memory : (exit_code : Bool) (lines : List Line) (old now new : List ℕ) (status : ℕ) → PrintsSome lines old now
    → Prints memory_line 7 now new status → EndsShown exit_code lines old new status
some-then-memory exit_code lines old now new status some (inl (e, put)) =
    let front : List ℕ = text_of (take some.count lines) in
    inr (inr (e, (some.count, inr (put ∙ ap (λ t. t ++ memory_line) some.is ∙ append_assoc old front memory_line))))
some-then-memory exit_code lines old now new status some (inr (inl (e, puts))) =
    let front : List ℕ = text_of (take some.count lines) in
    inr (inl (
      e,
      inr (
        some.count,
        record {
          count = length front + puts.count;
          is = puts.is ∙ ap (λ t. t ++ take puts.count memory_line) some.is
              ∙ append_assoc old front (take puts.count memory_line)
              ∙ ap (λ t. old ++ t) (sym (take-append-add front memory_line puts.count));
        },
      ),
    ))
some-then-memory exit_code lines old now new status some (inr (inr (e, same))) = inr (inr (e, (some.count, inl (same ∙ some.is))))

pub memory-counts : (exit_code : Bool) (old new status : ℕ) → PrintCounts 7 old new status → ShownCounts exit_code old new status
memory-counts exit_code old new status (inl (e, rose)) = inr (inl (e, rose))
memory-counts exit_code old new status (inr (inl e, same)) = inr (inr (e, same))
memory-counts exit_code old new status (inr (inr e, same)) = inr (inr (e, same))

pub ruleset show_rules = (some-then-memory, memory-counts)
