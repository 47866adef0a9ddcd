use Rattle.std.proofs.Common.{◌≡◌, ◌∙◌, length, true, sym, ap, subst}
use Rattle.std.proofs.lemmas.Bool.{both_ways}
use Rattle.std.proofs.lemmas.List.{length_push}
use Rattle.clause_base.specs.Acceptance.{numbered}
use Rattle.trail_core.specs.Watching.{is_fixed, is_mark}
use Rattle.trail_core.proofs.Marks.{marked_push, mark_none}
use Rattle.trail_core.proofs.Placing.{pair_short, pair_settled, pair_watched, may_list, first_above, pair_room}
use Rattle.trail_core.proofs.watch.pair_up.Goals as goal

pub keep_pair-requires : goal.keep_pair-requires
keep_pair-requires c = pair_room c.args.trail.now c.args.fixed c.args.watches.now c.args.number c.requires.well c.requires.first c.requires.number

pub returns-then-is_fixed-clause-well : goal.returns-then-is_fixed-clause-well
returns-then-is_fixed-clause-well c = pair_short c.args.trail.now c.args.fixed c.args.watches.now c.keep_pair.new.watches c.mark.result c.args.number c.requires.well c.requires.first c.requires.number.within c.mark.ensures.mark c.mark.ensures.blank c.keep_pair.ensures

pub returns-then-is_fixed-clause-more : goal.returns-then-is_fixed-clause-more
returns-then-is_fixed-clause-more c = ap length c.keep_pair.ensures.pairs ∙ length_push c.args.watches.now.pairs.items c.mark.result

pub returns-then-is_fixed-clause-marked : goal.returns-then-is_fixed-clause-marked
returns-then-is_fixed-clause-marked c = marked_push c.args.trail.now.clauses c.args.fixed c.args.watches.now.pairs.items c.keep_pair.new.watches.pairs.items c.mark.result c.keep_pair.ensures.pairs
    (λ _. subst (λ n. is_fixed c.args.fixed n (numbered c.args.trail.now.clauses n) ≡ true) c.requires.first (sym c.is_fixed.ensures ∙ c.if-is_fixed.true))

pub returns-then-is_settled-clause-well : goal.returns-then-is_settled-clause-well
returns-then-is_settled-clause-well c = pair_settled c.args.trail.now c.args.fixed c.args.watches.now c.keep_pair-then-is_settled.new.watches c.no_pair.result c.args.number c.requires.well c.requires.first c.requires.number.within (c.is_settled.ensures c.if-is_settled.true) (sym c.is_fixed.ensures ∙ c.if-is_fixed.false) c.no_pair.ensures.blank c.keep_pair-then-is_settled.ensures

pub returns-in-None-clause-well : goal.returns-in-None-clause-well
returns-in-None-clause-well c = pair_settled c.args.trail.now c.args.fixed c.args.watches.now c.keep_pair-in-None.new.watches c.no_pair-in-None.result c.args.number c.requires.well c.requires.first c.requires.number.within c.in-None.ensures.none (sym c.is_fixed.ensures ∙ c.if-is_fixed.false) c.no_pair-in-None.ensures.blank c.keep_pair-in-None.ensures

pub place_pair-requires-clause-may : goal.place_pair-requires-clause-may
place_pair-requires-clause-may c = may_list c.args.trail.now c.args.fixed c.args.watches.now c.in-Some.pair c.args.number c.requires.trail c.requires.well c.requires.first c.requires.number (sym c.is_fixed.ensures ∙ c.if-is_fixed.false) c.in-Some.ensures.found

pub returns-in-Some-clause-well : goal.returns-in-Some-clause-well
returns-in-Some-clause-well c = pair_watched c.args.trail.now c.args.fixed c.args.watches.now c.place_pair.new.watches c.in-Some.pair c.args.number c.requires.well c.requires.first c.requires.number.within (sym c.is_fixed.ensures ∙ c.if-is_fixed.false) c.in-Some.ensures.found c.place_pair.ensures

pub returns-in-Some-clause-marked : goal.returns-in-Some-clause-marked
returns-in-Some-clause-marked c = marked_push c.args.trail.now.clauses c.args.fixed c.args.watches.now.pairs.items c.place_pair.new.watches.pairs.items c.in-Some.pair c.place_pair.ensures.pairs
    (λ m. absurd (mark_none c.in-Some.pair (first_above c.args.trail.now c.in-Some.pair c.args.number c.requires.trail c.requires.number c.in-Some.ensures.found) m))

pub returns-then-is_settled-clause-marked : goal.returns-then-is_settled-clause-marked
returns-then-is_settled-clause-marked c = marked_push c.args.trail.now.clauses c.args.fixed c.args.watches.now.pairs.items c.keep_pair-then-is_settled.new.watches.pairs.items c.no_pair.result c.keep_pair-then-is_settled.ensures.pairs (λ m. absurd (both_ways (is_mark c.no_pair.result) c.no_pair.ensures.mark m))

pub returns-in-None-clause-marked : goal.returns-in-None-clause-marked
returns-in-None-clause-marked c = marked_push c.args.trail.now.clauses c.args.fixed c.args.watches.now.pairs.items c.keep_pair-in-None.new.watches.pairs.items c.no_pair-in-None.result c.keep_pair-in-None.ensures.pairs (λ m. absurd (both_ways (is_mark c.no_pair-in-None.result) c.no_pair-in-None.ensures.mark m))
