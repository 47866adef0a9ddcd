use Rattle.std.proofs.Common.{[], ◌∷◌, ◌++◌, ◌∙◌, ap, arith, length, refl}
use Rattle.clause_form.specs.Named.{named_from}
use Rattle.clause_form.proofs.NamedSteps.{named-begin, named-more}
use Rattle.clause_form.proofs.kept.Kept.push_all.Goals as goal

pub loop-place-init : goal.loop-place-init
loop-place-init c = record {
  clauses = named-begin c.args.self.now.named c.args.self.now.clauses c.args.clauses.now;
  named = refl;
}

pub loop-place-preserved : goal.loop-place-preserved
loop-place-preserved c =
    let before = c.loop-place.self.clauses in
    record {
      clauses = named-more c.args.self.now.named c.args.self.now.clauses before c.push.new.self.clauses c.args.clauses.now c.loop-place.place
          c.clause.result.now (omega arith) c.loop-place.invariant.clauses c.clause.ensures.value
          (c.in_ok-push.ensures.clauses
          ∙ ap (λ named. before ++ named_from named (length before) (c.clause.result.now ∷ [])) c.loop-place.invariant.named);
      named = c.push.ensures.named ∙ c.loop-place.invariant.named;
    }
