use Rattle.clause_form.proofs.MostSteps.{whole-clauses, whole-few}
use Rattle.clause_form.proofs.beginning.Beginning.most_clauses.Goals as goal

pub returns-in-Some : goal.returns-in-Some
returns-in-Some c =
    whole-clauses c.args.u.now c.args.self.now c.in-Some.ensures.kept c.requires.can c.in-Some.most c.in-Some.ensures.most

pub returns-in-None : goal.returns-in-None
returns-in-None c = whole-few c.args.u.now c.args.self.now c.in-None.ensures.kept c.requires.can c.requires.few
