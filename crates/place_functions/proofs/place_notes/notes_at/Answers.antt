use Rattle.std.proofs.Common.{leb, ltb, drop, rules, subst, sym}
use Rattle.std.specs.List.Sorted.{IsNonDecreasingBy}
use Rattle.std.proofs.lemmas.List.Sorted.{IsNonDecreasingBy-drop, IsPartitionPoint-from_clause, IsPartitionedBy-leb, IsPartitionedBy-ltb}
use Rattle.place_functions.specs.Notes.{place_of}
use Rattle.place_functions.proofs.Ranges.{own-part}
use Rattle.place_functions.proofs.place_notes.notes_at.Goals as goal

pub returns : goal.returns
returns c =
    let xs = c.args.notes.now in
    let p = c.args.place in
    let from = c.partition_point.result in
    let end = c.partition_point-2.result in
    let rest = c.split_at.result.1.now in
    let low = IsPartitionPoint-from_clause (λ n. ltb (place_of n) p) xs from c.partition_point.ensures.partitioned
    (IsPartitionedBy-ltb place_of xs p c.requires) (λ a r q k. search rules) in
    let high = IsPartitionPoint-from_clause (λ n. leb (place_of n) p) rest end c.partition_point-2.ensures.partitioned
    (IsPartitionedBy-leb place_of rest p
    (subst (IsNonDecreasingBy place_of) (sym c.split_at.ensures.back) (IsNonDecreasingBy-drop place_of from xs c.requires)))
    (λ a r q k. search rules) in
    own-part xs rest c.split_at-2.result.0.now p from end c.split_at.ensures.back c.split_at-2.ensures.front
    c.partition_point.ensures.bound c.partition_point-2.ensures.bound low.0 low.1 high.0 high.1
