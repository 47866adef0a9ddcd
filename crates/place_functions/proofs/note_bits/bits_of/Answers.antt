use Rattle.std.proofs.Common.{◌∙◌, ◌≡◌, ◌&&◌, sym, ap, rules, []}
use Rattle.std.specs.Prelude.{nat_lt}
use Rattle.std.proofs.lemmas.List.Filters.{dedup_is}
use Rattle.std.proofs.lemmas.List.Kept.{IsStrictlySortedBy-dedup}
use Rattle.std.proofs.lemmas.List.Sorted.{list_any-IsPermutation}
use Rattle.design_core.specs.Valuation.{width_at}
use Rattle.place_functions.specs.Notes.{is_bit, lists, some_reads}
use Rattle.place_functions.proofs.BitSteps.{from-none}
use Rattle.place_functions.proofs.InOrder.{bit_total, bit_ties, rises-sorted, kept-listed, passing-is, same_bit, bit_cmp}
use Rattle.place_functions.proofs.note_bits.bits_of.Goals as goal

pub returns : goal.returns
returns c =
    let S = c.args.signals.now in
    let kept = dedup_is same_bit _ _ c.dedup.ensures.filtered in
    passing-is (some_reads c.args.notes.now) S c.dedup.new.self.items
    (rises-sorted _ (rw kept (IsStrictlySortedBy-dedup {R = bit_cmp} bit_total {E = same_bit} bit_ties _ c.sort_unstable.ensures.sorted)))
    (λ s b.
    ap (λ xs. lists xs s b) kept ∙ kept-listed s b c.sort_unstable.new.self.items
    ∙ sym (list_any-IsPermutation (is_bit s b) _ _ c.sort_unstable.ensures.permutation)
    ∙ from-none _ _ (λ s b. some_reads c.args.notes.now s b && nat_lt b (width_at S s)) (search rules) c.in_ok-add_notes.ensures s b)
