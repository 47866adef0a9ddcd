use Rattle.std.proofs.Common.{rules}
use Rattle.v_lexer.proofs.DirectiveRows.{named_spaced, named_spaced_out, named_ends}
use Rattle.v_lexer.proofs.directives.named_length.Goals as goal

pub returns-in-Some-spaced_name_length : goal.returns-in-Some-spaced_name_length
returns-in-Some-spaced_name_length c = record { found = λ kind. named_spaced kind c.in-Some.byte c.in-Some-spaced_name_length.size c.args.rest.now c.in-Some.tail.now c.in-Some.ensures (cc) (c.in-Some-spaced_name_length.ensures.found kind); within = search rules }

pub returns-else-is_white : goal.returns-else-is_white
returns-else-is_white c = record { found = λ kind. named_ends kind c.in-Some.byte c.args.rest.now c.in-Some.tail.now c.in-Some.ensures (cc); within = search rules }

pub returns-in-None-spaced_name_length : goal.returns-in-None-spaced_name_length
returns-in-None-spaced_name_length c = record { found = λ kind. named_spaced_out kind c.in-Some.byte c.args.rest.now c.in-Some.tail.now c.in-Some.ensures (cc) (c.in-None-spaced_name_length.ensures.none kind); within = search rules }
