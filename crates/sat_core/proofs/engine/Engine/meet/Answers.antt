use Rattle.std.proofs.Common.{◌≡◌, ◌∙◌, [], ap, sym, subst, arith}
use Rattle.std.proofs.lemmas.Result.{err_from_is_err_and}
use Rattle.trail_core.specs.TrailState.{TrailState}
use Rattle.sat_core.specs.Outcome.{Grows}
use Rattle.sat_core.specs.Searching.{form_of}
use Rattle.sat_core.proofs.Growing.{Grows-derived}
use Rattle.sat_core.proofs.SearchLemmas.{StaysFit-from, IsReady-derived, refuted_closed, Keeps-same, Keeps-learned, IsReady-kept, Grows-kept, clauses_kept, IsReady-learned, IsUnderWay-learned, Grows-learned_at, smaller_learned, closings_err}
use Rattle.sat_core.proofs.engine.Engine.meet.Goals as goal

pub returns-then-level-eq0-clause-ready : goal.returns-then-level-eq0-clause-ready
returns-then-level-eq0-clause-ready c =
    let s = StaysFit-from c.args.self.now c.close.new.self c.close.ensures.fit (ap (λ (t : TrailState). t.vars) c.close.ensures.trail) c.close.ensures.form_len c.close.ensures.preferred c.close.ensures.model in
    IsReady-derived c.args.self.now c.close.new.self [] c.args.log.now c.close.new.log c.args.assume.now c.requires.under_way s c.close.ensures.trail c.close.ensures.known c.in_ok-close.ensures.ok

pub returns-then-level-eq0-clause-keeps : goal.returns-then-level-eq0-clause-keeps
returns-then-level-eq0-clause-keeps c =
    let s = StaysFit-from c.args.self.now c.close.new.self c.close.ensures.fit (ap (λ (t : TrailState). t.vars) c.close.ensures.trail) c.close.ensures.form_len c.close.ensures.preferred c.close.ensures.model in
    Keeps-same c.args.self.now c.close.new.self c.args.log.now c.requires.under_way.ready s (ap (λ (t : TrailState). t.clauses) c.close.ensures.trail)

pub returns-then-level-eq0-clause-grows : goal.returns-then-level-eq0-clause-grows
returns-then-level-eq0-clause-grows c =
    Grows-derived (form_of c.args.self.now) c.args.log.now c.close.new.log c.in_ok-close.ensures.ok.literals c.in_ok-close.ensures.ok.chain c.args.budget.now c.in_ok-close.ensures.ok.step

pub returns-then-level-eq0-clause-gives : goal.returns-then-level-eq0-clause-gives
returns-then-level-eq0-clause-gives c = (
  c.requires.some,
  refuted_closed c.args.self.now.trail c.args.log.now c.close.new.log c.args.assume.now c.len.result c.requires.under_way.ready.fit.trail (sym c.level.ensures ∙ c.if-level-eq0.true) c.in_ok-close.ensures.ok c.len.ensures.value,
)

pub returns-in_err-learn-clause-ready : goal.returns-in_err-learn-clause-ready
returns-in_err-learn-clause-ready c =
    let s = StaysFit-from c.args.self.now c.learn.new.self c.learn.ensures.fit c.learn.ensures.vars c.learn.ensures.form_len c.learn.ensures.preferred c.learn.ensures.model in
    IsReady-kept c.args.self.now c.learn.new.self c.args.log.now c.learn.new.log c.args.assume.now c.args.budget.now c.learn.new.budget c.requires.under_way s c.in_err-learn.ensures.err

pub returns-in_err-learn-clause-keeps : goal.returns-in_err-learn-clause-keeps
returns-in_err-learn-clause-keeps c =
    let s = StaysFit-from c.args.self.now c.learn.new.self c.learn.ensures.fit c.learn.ensures.vars c.learn.ensures.form_len c.learn.ensures.preferred c.learn.ensures.model in
    Keeps-same c.args.self.now c.learn.new.self c.args.log.now c.requires.under_way.ready s (clauses_kept c.args.self.now c.learn.new.self c.args.log.now c.learn.new.log c.args.budget.now c.learn.new.budget c.in_err-learn.ensures.err)

pub returns-in_err-learn-clause-grows : goal.returns-in_err-learn-clause-grows
returns-in_err-learn-clause-grows c =
    let p = err_from_is_err_and c.from_residual-in_err-learn.result c.from_residual-in_err-learn.ensures.1 in
    subst (Grows (form_of c.args.self.now) c.args.log.now c.learn.new.log c.args.budget.now c.learn.new.budget) (sym (closings_err c.from_residual-in_err-learn.result p.0 p.1))
    (Grows-kept c.args.self.now c.learn.new.self c.args.log.now c.learn.new.log c.args.assume.now c.args.budget.now c.learn.new.budget c.requires.under_way c.in_err-learn.ensures.err)

pub returns-then-left-eq0-clause-ready : goal.returns-then-left-eq0-clause-ready
returns-then-left-eq0-clause-ready c =
    let s = StaysFit-from c.args.self.now c.learn.new.self c.learn.ensures.fit c.learn.ensures.vars c.learn.ensures.form_len c.learn.ensures.preferred c.learn.ensures.model in
    IsReady-learned c.args.self.now c.learn.new.self c.args.log.now c.learn.new.log c.args.assume.now c.requires.under_way s c.in_ok-learn.ensures.ok

pub returns-then-left-eq0-clause-keeps : goal.returns-then-left-eq0-clause-keeps
returns-then-left-eq0-clause-keeps c =
    let s = StaysFit-from c.args.self.now c.learn.new.self c.learn.ensures.fit c.learn.ensures.vars c.learn.ensures.form_len c.learn.ensures.preferred c.learn.ensures.model in
    Keeps-learned c.args.self.now c.learn.new.self c.args.log.now c.learn.new.log c.args.assume.now c.requires.under_way s c.in_ok-learn.ensures.ok

pub returns-then-left-eq0-clause-grows : goal.returns-then-left-eq0-clause-grows
returns-then-left-eq0-clause-grows c =
    Grows-learned_at c.args.self.now c.learn.new.self c.args.log.now c.learn.new.log c.args.assume.now c.args.budget.now c.learn.new.budget c.requires.under_way c.in_ok-learn.ensures.ok c.in_ok-learn.ensures.taken

pub returns-clause-ready : goal.returns-clause-ready
returns-clause-ready c =
    let s = StaysFit-from c.args.self.now c.learn.new.self c.learn.ensures.fit c.learn.ensures.vars c.learn.ensures.form_len c.learn.ensures.preferred c.learn.ensures.model in
    IsReady-learned c.args.self.now c.learn.new.self c.args.log.now c.learn.new.log c.args.assume.now c.requires.under_way s c.in_ok-learn.ensures.ok

pub returns-clause-keeps : goal.returns-clause-keeps
returns-clause-keeps c =
    let s = StaysFit-from c.args.self.now c.learn.new.self c.learn.ensures.fit c.learn.ensures.vars c.learn.ensures.form_len c.learn.ensures.preferred c.learn.ensures.model in
    Keeps-learned c.args.self.now c.learn.new.self c.args.log.now c.learn.new.log c.args.assume.now c.requires.under_way s c.in_ok-learn.ensures.ok

pub returns-clause-grows : goal.returns-clause-grows
returns-clause-grows c =
    Grows-learned_at c.args.self.now c.learn.new.self c.args.log.now c.learn.new.log c.args.assume.now c.args.budget.now c.learn.new.budget c.requires.under_way c.in_ok-learn.ensures.ok c.in_ok-learn.ensures.taken

pub returns-clause-gives : goal.returns-clause-gives
returns-clause-gives c =
    let s = StaysFit-from c.args.self.now c.learn.new.self c.learn.ensures.fit c.learn.ensures.vars c.learn.ensures.form_len c.learn.ensures.preferred c.learn.ensures.model in
    record {
      under_way = IsUnderWay-learned c.args.self.now c.learn.new.self c.args.log.now c.learn.new.log c.args.assume.now c.requires.under_way s c.in_ok-learn.ensures.ok;
      some = let n : (c.left.result ≡ 0) → ⊥ = c.if-left-eq0.false in omega (arith, c.left.ensures, n);
      smaller = smaller_learned c.args.self.now c.learn.new.self c.args.budget.now c.learn.new.budget c.learn.ensures.vars c.in_ok-learn.ensures.taken;
    }
