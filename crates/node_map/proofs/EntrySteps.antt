-- Steps of the loop over signals whose entries are taken.
use Rattle.std.proofs.Common.{◌≡◌, ℕ, ◌+◌, ◌<◌, ◌≤◌, List, [], ◌∷◌, ◌++◌, length, map, get_or, take, All, sym, ◌∙◌, ap, subst}
use Rattle.std.proofs.lemmas.List.{take_all}
use Rattle.loc_base.proofs.ShelfLists.{map-take_at}
use Rattle.node_map.specs.declared.entry.Entry.{Entry}
use Rattle.node_map.specs.Entries.{entry_at}

pub entries-next : (nodes signals : List ℕ) (i s : ℕ) (entries : List Entry) → i < length signals → s ≡ get_or signals i s → entries ≡ map (entry_at nodes) (take i signals)
    → entries ++ record { signal = s; node = get_or nodes s 0 } ∷ [] ≡ map (entry_at nodes) (take (i + 1) signals)
entries-next nodes signals i s entries within is so_far =
    ap (λ es. es ++ entry_at nodes s ∷ []) so_far ∙ sym (map-take_at (entry_at nodes) signals i s within is)

pub entries-end : (nodes signals : List ℕ) (i : ℕ) → length signals ≤ i → map (entry_at nodes) (take i signals) ≡ map (entry_at nodes) signals
entries-end nodes signals i past = ap (map (entry_at nodes)) (take_all i signals past)

pub signal-within : (n : ℕ) (signals : List ℕ) (i s : ℕ) → All (λ t. t < n) signals → i < length signals → s ≡ get_or signals i s → s < n
signal-within n signals i s all within is = subst (λ t. t < n) (sym is) (all i s within)

pub ruleset entries_steps = (entries-next, entries-end, signal-within)
