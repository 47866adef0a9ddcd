use Rattle.std.proofs.Common.{◌≡◌, true, Some, sym, ◌∙◌, ap}
use Rattle.vcd_traces.specs.declared.changes.Levels.{Levels}
use Rattle.vcd_reading.specs.Changes.{is_later}
use Rattle.vcd_traces.specs.Plan.{Holds}
use Rattle.vcd_traces.proofs.ChangeLaws.{does_by}
use Rattle.vcd_traces.proofs.HoldLaws.{holds_later, timed_later, later_some, later_none}
use Rattle.vcd_traces.proofs.reader.Reading.take_time.Goals as goal
use Rattle.vcd_traces.proofs.reader.Reading.take_time.Goals.{in-Some+else-time-last+else-time-last-2, in_default}

pub returns : goal.returns
returns c w cells past watches holds =
    let later : is_later past.time c.args.time ≡ true =
    elim c.match-self.branch [
      | in-Some+else-time-last+else-time-last-2 v ↦
          later_some past.time v.in-Some.last c.args.time (sym holds.levels.time ∙ v.in-Some.is) v.if-time-last.false v.if-time-last-2.false
      | in_default v ↦ later_none past.time c.args.time (sym holds.levels.time ∙ v.in_default.is)
    ] in
    does_by _ _ (Holds w cells) _ _ (timed_later past c.args.time c.args.at later)
    (holds_later w cells past c.args.watched.now c.args.self.now _ c.args.time watches holds later (ap {A = Levels} {B = Levels} (λ (l : Levels). record l { time = Some c.args.time }) c.in_ok-close.ensures.levels)
    c.in_ok-close.ensures.rows)
