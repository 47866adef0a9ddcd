use Rattle.std.proofs.Common.{arith, ◌≡◌, ◌∙◌, ℕ, ap, take}
use Rattle.std.proofs.lemmas.List.{take_all}
use Rattle.design_order.specs.Rows.{row, times}
use Rattle.design_order.proofs.Counting.{users-step, users-within}
use Rattle.design_order.proofs.users.users_of.Goals as goal

pub loop-i-preserved : goal.loop-i-preserved
loop-i-preserved c = (
  c.in_ok-add_user.ensures.long ∙ c.loop-i.invariant.0,
  λ i j.
      users-step c.args.needs.now c.loop-i.i i j _ _ c.row.result.now (omega (arith, c.loop-i-test.true, c.len-i-end.ensures)) c.row.ensures (c.loop-i.invariant.1 i j)
      (c.in_ok-add_user.ensures.times i j),
)

pub returns : goal.returns
returns c =
    let whole : take c.loop-i.i c.args.needs.now ≡ c.args.needs.now = take_all c.loop-i.i c.args.needs.now (omega (arith, c.loop-i-test.false, c.len-i-end.ensures)) in
    let same : (i j : ℕ) → times i (row c.loop-i.users.items j) ≡ times j (row c.args.needs.now i) =
    λ i j. c.loop-i.invariant.1 i j ∙ ap (λ n. times j (row n i)) whole in
    record {
      long = omega (arith, c.loop-i.invariant.0, c.loop-i.users.ok.0);
      within = λ j. users-within c.args.needs.now c.loop-i.users.items j same;
      times = same;
    }
