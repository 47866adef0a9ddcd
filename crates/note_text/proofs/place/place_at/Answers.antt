use Rattle.std.proofs.Common.{arith}
use Rattle.note_text.proofs.Counting.{going-begins, going-on}
use Rattle.note_text.proofs.place.place_at.Goals as goal

pub loop-k-init : goal.loop-k-init
loop-k-init c = going-begins c.args.text.now

pub loop-k-preserved : goal.loop-k-preserved
loop-k-preserved c =
    going-on c.args.text.now c.loop-k.k c.loop-k.place c.after-place.result (omega (arith, c.loop-k-test.true, c.requires)) c.loop-k.invariant
    (record { at = c.after-place.ensures.at; line = c.after-place.ensures.line; start = c.after-place.ensures.start })
