use Rattle.std.proofs.Common.{◌≤◌, ◌∙◌, ap, subst, arith, length, false}
use Rattle.std.specs.Prelude.{◌&&◌, ◌||◌}
use Rattle.std.specs.Option.{option_map_or}
use Rattle.std.specs.List.{list_any}
use Rattle.design_core.specs.Mentions.{statement_mentions, reset_mentions, block_mentions}
use Rattle.v_binding.specs.Clocks.{carries, block_reads_clock}
use Rattle.bind_clocks.specs.Looks.{Reads}
use Rattle.bind_clocks.specs.Rooted.{is_read_in}
use Rattle.bind_clocks.proofs.ReadLaws.{reads-same, reads-body}
use Rattle.bind_clocks.proofs.bound.Bound.block_reads_clock.Goals as goal

pub returns-clause-reads : goal.returns-clause-reads
returns-clause-reads c =
    let set = c.look_in.new.self.set in
    let roots = c.self.inside.roots in
    let f = c.args.frame.now in
    let d = c.args.block.now in
    let enough : c.reach.result ≤ length set = omega (arith, c.in_ok-fit.ensures.long, c.in_ok-look_in.ensures.long) in
    let reads = subst (λ signals. Reads set (λ s b. block_mentions signals s b d)) c.signals.ensures c.in_ok-look_in.ensures.reads in
    c.carries_clock.ensures ∙ ap (λ k. list_any (is_read_in set k) roots) c.clock.ensures
    ∙ reads-same set roots f.clock (λ s b. block_mentions f.signals s b d) c.reach.result reads c.reach.ensures enough
    ∙ ap
    (λ o. list_any (λ r. carries f.clock r && (statement_mentions f.signals r.signal 0 d.body || option_map_or (reset_mentions f.signals r.signal 0) o false)) roots) c.requires
    ∙ reads-body roots f.clock (λ s b. statement_mentions f.signals s b d.body) ∙ ap (λ b. block_reads_clock f.signals f.clock b.roots d.body) c.self.view_is
