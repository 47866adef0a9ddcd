use Rattle.std.proofs.Common.{◌≤◌, ℕ, [], ap, get_or, length, subst, arith}
use Rattle.std.proofs.lemmas.Bool.{leb-true}
use Rattle.clause_form.proofs.MostSteps.{whole-literals}
use Rattle.clause_form.proofs.beginning.Beginning.is_small.Goals as goal

pub returns-in-Some : goal.returns-in-Some
returns-in-Some c = λ few.
    let b = c.args.self.now in
    let longest = c.longest-longest.result in
    let short = subst (λ rows. (place : ℕ) → length (get_or rows place []) ≤ longest) c.deref.ensures c.longest-longest.ensures in
    omega (
      arith,
      leb-true c.in-Some.most 64000000 few,
      whole-literals c.args.u.now b c.in-Some.ensures.kept c.requires c.max.result longest c.in-Some.most
          (omega (arith, c.max.ensures)) (omega (arith, c.max.ensures)) short c.in-Some.ensures.most,
    )
