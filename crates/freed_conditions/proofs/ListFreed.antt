-- The cycles of a design beside those of the freed one, and the lists of what works in both.
use Rattle.std.proofs.Common.{ℕ, ◌≡◌, List}
use Rattle.loc_base.specs.declared.bits.Bits.{Bits}
use Rattle.design_core.specs.declared.design.Design.{Design}
use Rattle.design_core.specs.Valuation.{Valuation}
use Rattle.design_core.specs.After.{Choice}
use Rattle.design_core.specs.Cycle.{Cycle}
use Rattle.design_core.specs.Steps.{computed_now, computed_next}
use Rattle.design_core.specs.Works.{Groups, IsMinimalFor}
use Rattle.design_core.specs.Listing.{IsEntryFor, IsListFor, IsFrontFor}
use Rattle.design_core.proofs.CycleLaws.{cycle-unique}
use Rattle.design_core.proofs.CycleExists.{cycle-exists}
use Rattle.freed_conditions.specs.IsFreed.{IsFreed}
use Rattle.freed_conditions.specs.Old.{old_bits, FreesOld, IsRunnable}
use Rattle.freed_conditions.proofs.Beside.{beside}
use Rattle.freed_conditions.proofs.CycleFreed.{old-agrees, cycle-old}

pub cycle-new : (d e : Design) (order order' : List ℕ) → IsRunnable d order → IsRunnable e order' → IsFreed d e → (choice : Choice) → FreesOld d choice.frees
    → (samples : List Bits) (state V next : Valuation) → Cycle d samples (old_bits d state) choice V next
    → (W : Valuation) × (next' : Valuation) × Cycle e samples state choice W next' × (old_bits d W ≡ V) × (old_bits d next' ≡ next)
cycle-new d e order order' own freed f choice old samples state V next cycle =
    let W : Valuation = computed_now e order' samples state choice in
    let next' : Valuation = computed_next e state choice W in
    let there : Cycle e samples state choice W next' = cycle-exists e order' freed.well_formed freed.once freed.in_order samples state choice in
    let here : Cycle d samples (old_bits d state) choice (old_bits d W) (old_bits d next') =
    cycle-old d e choice (beside d e own.well_formed f choice old) samples (old_bits d state) state W next' (old-agrees d state) there in
    let same = cycle-unique d order own.well_formed own.in_order samples (old_bits d state) choice (old_bits d W) (old_bits d next') V next here cycle in
    (W, next', there, same.0, same.1)

-- ---- lists of what works one way or another
minimal-alike : (One Other : List ℕ → Type 0) → ((set : List ℕ) → One set → Other set) → ((set : List ℕ) → Other set → One set)
    → (groups : Groups) (set : List ℕ) → IsMinimalFor One groups set → IsMinimalFor Other groups set
minimal-alike One Other to from groups set h = record {
  works = to set h.works;
  least = λ inner is within proper works. h.least inner is within proper (from inner works);
}

entry-alike : (One Other : List ℕ → Type 0) → ((set : List ℕ) → One set → Other set) → ((set : List ℕ) → Other set → One set)
    → (groups : Groups) (k : ℕ) (set : List ℕ) → IsEntryFor One groups k set → IsEntryFor Other groups k set
entry-alike One Other to from groups k set h = record { suspects = h.suspects; size = h.size; minimal = minimal-alike One Other to from groups set h.minimal }

pub list-alike : (One Other : List ℕ → Type 0) → ((set : List ℕ) → One set → Other set) → ((set : List ℕ) → Other set → One set)
    → (groups : Groups) (k : ℕ) (sets : List (List ℕ)) → IsListFor One groups k sets → IsListFor Other groups k sets
list-alike One Other to from groups k sets h = record {
  entries = λ i d within. entry-alike One Other to from groups k _ (h.entries i d within);
  ordered = h.ordered;
  complete = λ set entry. h.complete set (entry-alike Other One from to groups k set entry);
}

pub front-alike : (One Other : List ℕ → Type 0) → ((set : List ℕ) → One set → Other set) → ((set : List ℕ) → Other set → One set)
    → (groups : Groups) (k : ℕ) (sets : List (List ℕ)) → IsFrontFor One groups k sets → IsFrontFor Other groups k sets
front-alike One Other to from groups k sets h = record {
  entries = λ i d within. entry-alike One Other to from groups k _ (h.entries i d within);
  ordered = h.ordered;
  none_missing = λ set listed entry member before. h.none_missing set listed (entry-alike Other One from to groups k set entry) member before;
}
