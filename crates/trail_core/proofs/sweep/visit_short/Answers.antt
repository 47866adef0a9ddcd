use Rattle.trail_core.proofs.Sweeping.{variable_one, variable_two, rests_true, rests_open, last_variable, last_reason, last_falsified}
use Rattle.trail_core.proofs.sweep.visit_short.Goals as goal

pub is_satisfied-requires-clause-one : goal.is_satisfied-requires-clause-one
is_satisfied-requires-clause-one c = variable_one c.args.trail.now c.args.gone c.args.short c.requires.trail c.requires.entry

pub is_satisfied-requires-clause-two : goal.is_satisfied-requires-clause-two
is_satisfied-requires-clause-two c = variable_two c.args.trail.now c.args.gone c.args.short c.requires.trail c.requires.entry

pub returns-then-is_satisfied-clause-rests : goal.returns-then-is_satisfied-clause-rests
returns-then-is_satisfied-clause-rests c = λ _. rests_true c.args.trail.now c.args.gone c.args.short c.requires.entry (c.is_satisfied.ensures.yes c.if-is_satisfied.true)

pub last_of-requires-clause-one : goal.last_of-requires-clause-one
last_of-requires-clause-one c = variable_one c.args.trail.now c.args.gone c.args.short c.requires.trail c.requires.entry

pub last_of-requires-clause-two : goal.last_of-requires-clause-two
last_of-requires-clause-two c = variable_two c.args.trail.now c.args.gone c.args.short c.requires.trail c.requires.entry

pub force_last-requires-clause-variable : goal.force_last-requires-clause-variable
force_last-requires-clause-variable c = last_variable c.args.trail.now c.args.gone c.in-Some.last c.args.short c.requires.trail c.requires.entry c.in-Some.ensures.last

pub force_last-requires-clause-reason : goal.force_last-requires-clause-reason
force_last-requires-clause-reason c = last_reason c.args.trail.now c.args.gone c.in-Some.last c.args.short c.requires.entry c.requires.gone c.in-Some.ensures.last

pub force_last-requires-clause-falsified : goal.force_last-requires-clause-falsified
force_last-requires-clause-falsified c = last_falsified c.args.trail.now c.args.gone c.in-Some.last c.args.short c.requires.entry c.requires.gone c.in-Some.ensures.last (c.is_satisfied.ensures.one c.if-is_satisfied.false) (c.is_satisfied.ensures.two c.if-is_satisfied.false)

pub returns-in-None-clause-rests : goal.returns-in-None-clause-rests
returns-in-None-clause-rests c = λ _. rests_open c.args.trail.now c.args.gone c.args.short c.requires.entry c.requires.gone (c.is_satisfied.ensures.one c.if-is_satisfied.false) (c.is_satisfied.ensures.two c.if-is_satisfied.false) c.in-None.ensures.one c.in-None.ensures.two
