use Rattle.std.proofs.Common.{◌+◌, ◌<◌, ◌≤◌, ℕ, [], ◌∙◌, ap, get_or, drop, arith}
use Rattle.std.proofs.lemmas.Grind.{common_steps}
use Rattle.gate_base.specs.declared.node.Node.TheVariants.{Input}
use Rattle.clause_form.specs.Limits.{IsRefused}
use Rattle.clause_form.specs.Clauses.{node_clauses, nodes_clauses}
use Rattle.clause_form.specs.Fields.{after, sunk_of}
use Rattle.clause_form.proofs.WalkSteps.{refused-more, walk-step, walk-count, walk-end, fits-at, nodes-at, nodes-none}
use Rattle.clause_form.proofs.sink.Sink.nodes.Goals as goal

pub node-requires-clause-fits : goal.node-requires-clause-fits
node-requires-clause-fits c = fits-at c.args.first c.args.nodes.now c.loop-i.i c.requires.fits c.loop-i-test.true

pub loop-i-preserved : goal.loop-i-preserved
loop-i-preserved c =
    let selectors = λ (place : ℕ). get_or c.args.selectors.now place [] in
    let nodes = c.args.nodes.now in
    let first = c.args.first in
    let i = c.loop-i.i in
    record {
      base = ap (λ s. s.base) c.in_ok-node.ensures.ok ∙ c.loop-i.invariant.base;
      rest = walk-step (sunk_of c.args.self.now) (sunk_of c.loop-i.self) (nodes_clauses c.args.self.now.base selectors first nodes)
          (λ b. nodes_clauses b selectors (first + i) (drop i nodes)) (λ b. node_clauses b selectors (first + i) (get_or nodes i (Input 0 0)))
          (λ b. nodes_clauses b selectors (first + (i + 1)) (drop (i + 1) nodes)) c.loop-i.invariant.rest
          (nodes-at c.loop-i.self.base selectors nodes i first c.loop-i-test.true) (sunk_of c.node.new.self) c.in_ok-node.ensures.ok;
    }

pub returns-in_err-node-clause-err : goal.returns-in_err-node-clause-err
returns-in_err-node-clause-err c =
    let selectors = λ (place : ℕ). get_or c.args.selectors.now place [] in
    let nodes = c.args.nodes.now in
    let first = c.args.first in
    let i = c.loop-i.i in
    let clauses = nodes_clauses c.args.self.now.base selectors first nodes in
    let whole = (after (sunk_of c.args.self.now) clauses).count in
    let part = (after (sunk_of c.loop-i.self) (node_clauses c.loop-i.self.base selectors (first + i) (get_or nodes i (Input 0 0)))).count in
    let le : part ≤ whole = walk-count (sunk_of c.args.self.now) (sunk_of c.loop-i.self) clauses
    (λ b. nodes_clauses b selectors (first + i) (drop i nodes)) (λ b. node_clauses b selectors (first + i) (get_or nodes i (Input 0 0)))
    (λ b. nodes_clauses b selectors (first + (i + 1)) (drop (i + 1) nodes)) c.loop-i.invariant.rest
    (nodes-at c.loop-i.self.base selectors nodes i first c.loop-i-test.true) in
    let more : IsRefused c.in_err-node.field-0.0 (64000000 < whole) =
    refused-more c.in_err-node.field-0.0 part whole le c.in_err-node.ensures.err in
    grind (arith, common_steps, more)

pub returns-clause-ok : goal.returns-clause-ok
returns-clause-ok c =
    let selectors = λ (place : ℕ). get_or c.args.selectors.now place [] in
    walk-end (sunk_of c.args.self.now) (sunk_of c.loop-i.self) (nodes_clauses c.args.self.now.base selectors c.args.first c.args.nodes.now)
    (nodes_clauses c.loop-i.self.base selectors (c.args.first + c.loop-i.i) (drop c.loop-i.i c.args.nodes.now)) c.loop-i.invariant.rest
    (nodes-none c.loop-i.self.base selectors c.args.nodes.now c.loop-i.i c.args.first (omega arith))
