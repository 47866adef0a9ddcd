use denote.Param.Send.{param_sync, sendable}
use Rattle.std.proofs.Crossing.{crosses}
use Rattle.loc_base.proofs.items.Items.TheSendSync as items
use Rattle.parallel_replay.proofs.Crossing.{Design-sync, SetWithValues-sync, Trace-sync}
use Rattle.parallel_replay.proofs.set_search.search_all.Lts as lts
use Rattle.std.proofs.Common.{◌≡◌, ◌≤◌, ◌+◌, ◌*◌, ℕ, List, length, sym, subst, arith, rules, Option, Result}
use Rattle.std.specs.Prelude.{IfOk}
use Rattle.std.proofs.lemmas.Option.{slice_get_within, get_or_from_slice_get}
use Rattle.loc_base.specs.declared.memory.NoMemory.{NoMemory}
use Rattle.design_core.specs.declared.design.Design.{Design}
use Rattle.cycle_sim.specs.declared.miss.Miss.{Miss}
use Rattle.cycle_sim.specs.Simulated.{IsSimulable}
use Rattle.cycle_sim.specs.Misses.{FirstToMiss}
use Rattle.parallel_replay.proofs.SetLaws.{searched, one-found}
use Rattle.parallel_replay.proofs.set_search.search_all.Goals as goal

pub map_indices-requires-sync-F : goal.map_indices-requires-sync-F
map_indices-requires-sync-F g c κs within =
    let gate = c.type_bounds.sync-G in
    param_sync 3 (lts.arg-2-3 g.row.R g.row.G g.R.laws g.G.laws g.R.Threads-dict g.G.Gate-dict κs)
    (search (sendable, crosses, items.the_sync, Design-sync, Trace-sync, SetWithValues-sync) depth 50 fits 100000)

pub returns : goal.returns
returns g c =
    let answers : List (Result (Option (ℕ × Miss)) NoMemory) = c.in_ok-answers.answers.items in
    let count : length answers ≡ c.shared_out-pieces.result.count = search rules in
    let d : Design = c.args.trial.now.design.now in
    let n : ℕ = c.shared_out-pieces.result.many in
    searched d c.args.trial.now.traces.now c.args.sets.now n answers (IsSimulable d c.args.trial.now.order.now)
    (λ k answer at. subst (λ (a : Result (Option (ℕ × Miss)) NoMemory). IfOk a (λ found. IsSimulable d c.args.trial.now.order.now
    → FirstToMiss d c.args.trial.now.traces.now c.args.sets.now (k * n) (k * n + n) found)) (get_or_from_slice_get answers k answer answer at)
    (one-found c.from_ref-designs.result.now d c.args.trial.now.order.now c.args.trial.now.traces.now c.args.sets.now (k * n) (k * n + n) c.from_ref-designs.ensures.value _
    (c.in_ok-answers.ensures.each k answer (omega (arith, slice_get_within answers k answer at, count))).1.met))
    (subst (λ w. length c.args.sets.now ≤ w * n) (sym count) c.shared_out-pieces.ensures.cover)
    c.first_found.result (search rules)
