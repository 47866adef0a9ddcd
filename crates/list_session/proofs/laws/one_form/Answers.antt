use Rattle.list_session.proofs.OneForm.{form-same, vars-same}
use Rattle.list_session.proofs.laws.one_form.Goals as goal

pub returns-clause-vars : goal.returns-clause-vars
returns-clause-vars g c = vars-same g.of.problem g.of.vars g.of.other_vars g.of.form g.of.other c.requires.0 c.requires.1

pub returns-clause-clauses : goal.returns-clause-clauses
returns-clause-clauses g c = form-same g.of.problem g.of.vars g.of.other_vars g.of.form g.of.other c.requires.0 c.requires.1
