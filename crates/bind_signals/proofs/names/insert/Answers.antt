use Rattle.std.proofs.Common.{ap, ◌∙◌}
use Rattle.v_hierarchy.specs.Places.{place_in, with_place}
use Rattle.bind_signals.proofs.TableLaws.{put-one}
use Rattle.bind_signals.proofs.names.insert.Goals as goal

pub returns : goal.returns
returns c = λ q.
    put-one (place_in c.args.table.now) (place_in c.put.new.self) c.args.name.now q 0
    (c.in_ok-put.ensures.put q ∙ ap (λ b. with_place b 0 (place_in c.args.table.now) q) c.as_bytes.ensures.same)
