use Rattle.std.proofs.Common.{◌≡◌, ◌∙◌, false, ap, sym, arith, subst, ℕ, inl, inr}
use Rattle.std.proofs.lemmas.Bool.{cases_lt}
use Rattle.std.specs.Prelude.{slice_index, slice_index_or, length, []}
use Rattle.loc_base.specs.NameTable.{has_number}
use Rattle.aiger_rules.specs.Doubles.{is_own, AreShared}
use Rattle.aiger_rules.proofs.naming.shared_names.Goals as goal

pub loop-place-preserved : goal.loop-place-preserved
loop-place-preserved c place below not_own =
    elim (cases_lt place c.loop-place.place) [
      | inl earlier ↦ c.in_ok-note.ensures.more (slice_index_or c.args.names.now place []) (c.loop-place.invariant place earlier not_own)
      | inr last ↦
          let here : c.loop-place.place ≡ place = omega (arith, below, last) in
          let own : c.is_own.result ≡ false = c.is_own.ensures ∙ ap (λ (k : ℕ). is_own c.args.rows (slice_index c.args.lines.now k)) here ∙ not_own in
          sym (ap (has_number c.note.new.table) (c.row.ensures ∙ ap (λ (k : ℕ). slice_index_or c.args.names.now k []) here)) ∙ c.in_ok-note.ensures.noted own
    ]

pub returns : goal.returns
returns c =
    let here : c.loop-place.place ≡ length c.args.names.now = omega arith in
    let P : ℕ → Type 0 = λ n. AreShared c.args.rows c.args.names.now c.args.lines.now n c.loop-place.table in
    subst P here c.loop-place.invariant
