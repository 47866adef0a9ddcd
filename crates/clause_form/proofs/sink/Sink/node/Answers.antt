use Rattle.std.proofs.Common.{ℕ, [], get_or, sym, ◌∙◌, ap}
use Rattle.clause_form.specs.Clauses.{node_clauses}
use Rattle.clause_form.specs.Fields.{after, sunk_of}
use Rattle.clause_form.proofs.SinkSteps.{after-none}
use Rattle.clause_form.proofs.sink.Sink.node.Goals as goal

pub returns-in-Input-clause-ok : goal.returns-in-Input-clause-ok
unfolding node_clauses
returns-in-Input-clause-ok c =
    let s = sunk_of c.args.self.now in
    sym (ap (λ n. after s (node_clauses s.base (λ (place : ℕ). get_or c.args.selectors.now place []) c.args.number n)) c.in-Input.is ∙ after-none s)

pub returns-in-State-clause-ok : goal.returns-in-State-clause-ok
unfolding node_clauses
returns-in-State-clause-ok c =
    let s = sunk_of c.args.self.now in
    sym (ap (λ n. after s (node_clauses s.base (λ (place : ℕ). get_or c.args.selectors.now place []) c.args.number n)) c.in-State.is ∙ after-none s)
