use Rattle.std.proofs.Common.{◌≡◌, false, arith, rules}
use Rattle.changes.specs.Reached.{begun}
use Rattle.changes.specs.Lists.{stands_in}
use Rattle.changes.specs.Moments.{choice_in, values_in}
use Rattle.changes.proofs.MomentLaws.{stands-nowhere}
use Rattle.changes.proofs.moment.in_statement.Goals as goal

pub returns-then-not-has_place : goal.returns-then-not-has_place
returns-then-not-has_place c =
    let none : stands_in c.args.place c.args.statement.now ≡ false = first_of (cc, search rules, grind arith) in
    stands-nowhere c.args.moment.now.design.now (choice_in c.args.moment.now) c.args.place c.args.statement.now
    (begun (values_in c.args.moment.now))
    c.requires.fits none
