use Rattle.std.proofs.Common.{◌≡◌, drop, map}
use Rattle.clap.specs.Words.{app_of}
use Rattle.word_values.specs.Arguments.{flag, with_each}
use Rattle.word_values.proofs.table.with_flags.Given as goal

abbrev pub invariant-loop-id : goal.invariant-loop-id
invariant-loop-id l = record {
  rest : with_each flag (app_of l.initial.command) (map (λ w. w.now) l.ids)
      ≡ with_each flag (app_of l.command) (map (λ w. w.now) (drop l.id-index l.ids));
}
