use Rattle.std.proofs.Common.{◌+◌, ◌<◌, ◌≤◌, ℕ, [], ◌∷◌, ◌∙◌, ap, length, get_or, drop, arith}
use Rattle.std.proofs.lemmas.Grind.{common_steps}
use Rattle.clause_form.specs.Limits.{IsRefused}
use Rattle.clause_form.specs.Clauses.{cycle_clauses, cycles_clauses}
use Rattle.clause_form.specs.Fields.{after, sunk_of}
use Rattle.clause_form.proofs.WalkSteps.{refused-more, walk-step, walk-count, walk-end, cycles-at, cycles-none}
use Rattle.clause_form.proofs.sink.Sink.cycles.Goals as goal

pub loop-t-preserved : goal.loop-t-preserved
loop-t-preserved c =
    let selectors = λ (place : ℕ). get_or c.args.selectors.now place [] in
    let u = c.args.u.now in
    let t = c.loop-t.t in
    let within : c.loop-t.t < length c.args.u.now.ends = omega (arith, ap length c.ends-t-end.ensures) in
    record {
      base = ap (λ s. s.base) c.in_ok-cycle.ensures.ok ∙ c.loop-t.invariant.base;
      rest = walk-step (sunk_of c.args.self.now) (sunk_of c.loop-t.self) (cycles_clauses u selectors 0 0 u.ends)
          (λ b. cycles_clauses u selectors t (get_or (0 ∷ u.ends) t 0) (drop t u.ends))
          (λ b. cycle_clauses u selectors t (get_or (0 ∷ u.ends) t 0) (get_or u.ends t 0))
          (λ b. cycles_clauses u selectors (t + 1) (get_or (0 ∷ u.ends) (t + 1) 0) (drop (t + 1) u.ends)) c.loop-t.invariant.rest
          (cycles-at u selectors t within) (sunk_of c.cycle.new.self) c.in_ok-cycle.ensures.ok;
    }

pub returns-in_err-cycle-clause-err : goal.returns-in_err-cycle-clause-err
returns-in_err-cycle-clause-err c =
    let selectors = λ (place : ℕ). get_or c.args.selectors.now place [] in
    let u = c.args.u.now in
    let t = c.loop-t.t in
    let within : c.loop-t.t < length c.args.u.now.ends = omega (arith, ap length c.ends-t-end.ensures) in
    let clauses = cycles_clauses u selectors 0 0 u.ends in
    let whole = (after (sunk_of c.args.self.now) clauses).count in
    let part = (after (sunk_of c.loop-t.self) (cycle_clauses u selectors t (get_or (0 ∷ u.ends) t 0) (get_or u.ends t 0))).count in
    let le : part ≤ whole = walk-count (sunk_of c.args.self.now) (sunk_of c.loop-t.self) clauses
    (λ b. cycles_clauses u selectors t (get_or (0 ∷ u.ends) t 0) (drop t u.ends))
    (λ b. cycle_clauses u selectors t (get_or (0 ∷ u.ends) t 0) (get_or u.ends t 0))
    (λ b. cycles_clauses u selectors (t + 1) (get_or (0 ∷ u.ends) (t + 1) 0) (drop (t + 1) u.ends)) c.loop-t.invariant.rest
    (cycles-at u selectors t within) in
    let more : IsRefused c.in_err-cycle.field-0.0 (64000000 < whole) =
    refused-more c.in_err-cycle.field-0.0 part whole le c.in_err-cycle.ensures.err in
    grind (arith, common_steps, more)

pub returns-clause-ok : goal.returns-clause-ok
returns-clause-ok c =
    let selectors = λ (place : ℕ). get_or c.args.selectors.now place [] in
    let u = c.args.u.now in
    walk-end (sunk_of c.args.self.now) (sunk_of c.loop-t.self) (cycles_clauses u selectors 0 0 u.ends)
    (cycles_clauses u selectors c.loop-t.t (get_or (0 ∷ u.ends) c.loop-t.t 0) (drop c.loop-t.t u.ends)) c.loop-t.invariant.rest
    (cycles-none u selectors c.loop-t.t (omega (arith, ap length c.ends-t-end.ensures)))
