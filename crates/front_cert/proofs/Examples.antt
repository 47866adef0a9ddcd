-- What a front's log has to show, in numbers: of three suspects and sets of at most one member the counters s(3, 1) and s(3, 2) are the
-- variables 7 and 8.
use Rattle.std.proofs.Common.{◌≡◌, true, false, [], ◌∷◌, Some, None, refl}
use Rattle.clause_base.specs.Literal.{negative, positive}
use Rattle.front_cert.specs.Reaches.{is_alone, shows_absent}
use Rattle.card_counter.specs.Shows.{bound_of, last_of}

the_bound_below_one_member : bound_of 3 1 0 ≡ Some (positive 7)
the_bound_below_one_member = refl

the_bound_of_one_member : bound_of 3 1 1 ≡ Some (positive 8)
the_bound_of_one_member = refl

no_set_has_more_members_than_there_are_suspects : bound_of 3 4 3 ≡ None
no_set_has_more_members_than_there_are_suspects = refl

the_members_of_the_last_set : last_of ((2 ∷ []) ∷ (11 ∷ []) ∷ []) ≡ 11 ∷ []
the_members_of_the_last_set = refl

a_list_without_sets_has_no_members : last_of [] ≡ []
a_list_without_sets_has_no_members = refl

the_bound_alone_shows_the_size : is_alone (bound_of 3 1 0) (positive 7 ∷ []) ≡ true
the_bound_alone_shows_the_size = refl

another_literal_does_not : is_alone (bound_of 3 1 0) (positive 7 ∷ negative 1 ∷ []) ≡ false
another_literal_does_not = refl

-- before the set of 3
a_negation_and_the_bound_show_a_suspect_absent : shows_absent (3 ∷ []) (bound_of 3 1 1) 1 (negative 1 ∷ positive 8 ∷ []) ≡ true
a_negation_and_the_bound_show_a_suspect_absent = refl

but_no_other_suspect : shows_absent (3 ∷ []) (bound_of 3 1 1) 2 (negative 1 ∷ positive 8 ∷ []) ≡ false
but_no_other_suspect = refl

the_bound_alone_shows_each_absent : shows_absent (3 ∷ []) (bound_of 3 1 1) 2 (positive 8 ∷ []) ≡ true
the_bound_alone_shows_each_absent = refl

-- before the set of 2 and 5
a_member_below_may_stand_in_the_clause : shows_absent (2 ∷ 5 ∷ []) None 3 (negative 2 ∷ negative 3 ∷ []) ≡ true
a_member_below_may_stand_in_the_clause = refl

a_member_above_may_not : shows_absent (2 ∷ 5 ∷ []) None 3 (negative 3 ∷ negative 5 ∷ []) ≡ false
a_member_above_may_not = refl

nor_may_another_suspect : shows_absent (2 ∷ 5 ∷ []) None 3 (negative 3 ∷ negative 4 ∷ []) ≡ false
nor_may_another_suspect = refl

-- the block of a set of one member that is listed shows it absent from each later one
a_block_shows_its_member_absent : shows_absent (11 ∷ []) (bound_of 12 1 1) 2 (negative 2 ∷ []) ≡ true
a_block_shows_its_member_absent = refl
