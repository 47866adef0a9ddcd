use Rattle.std.proofs.Common.{◌≤◌, ◌∙◌, ap, subst, arith, length}
use Rattle.std.specs.List.{list_any}
use Rattle.design_core.specs.Mentions.{driver_mentions}
use Rattle.v_binding.specs.Clocks.{driver_reads_clock}
use Rattle.bind_clocks.specs.Looks.{Reads}
use Rattle.bind_clocks.specs.Rooted.{is_read_in}
use Rattle.bind_clocks.proofs.ReadLaws.{reads-same}
use Rattle.bind_clocks.proofs.bound.Bound.driver_reads_clock.Goals as goal

pub returns-clause-reads : goal.returns-clause-reads
returns-clause-reads c =
    let set = c.look_at.new.self.set in
    let roots = c.self.inside.roots in
    let f = c.args.frame.now in
    let d = c.args.driver.now in
    let enough : c.reach.result ≤ length set = omega (arith, c.in_ok-fit.ensures.long, c.in_ok-look_at.ensures.long) in
    let reads = subst (λ signals. Reads set (λ s b. driver_mentions signals s b d)) c.signals.ensures c.in_ok-look_at.ensures.reads in
    c.carries_clock.ensures ∙ ap (λ k. list_any (is_read_in set k) roots) c.clock.ensures
    ∙ reads-same set roots f.clock (λ s b. driver_mentions f.signals s b d) c.reach.result reads c.reach.ensures enough
    ∙ ap (λ b. driver_reads_clock f.signals f.clock b.roots d) c.self.view_is
