use Rattle.std.proofs.Common.{subst, sym, arith, take}
use Rattle.std.specs.Io.KnownBytes.{Consumes}
use Rattle.io_ports.proofs.Transfers.{consumes_nothing, consumes_more, all_was_read, more_was_read}
use Rattle.io_ports.proofs.transfer.read_through.Goals as goal

pub loop-reader-init : goal.loop-reader-init
loop-reader-init g c =
    let known = g.R.Read.remaining c.args.reader.now in
    subst (Consumes known known) (sym c.new-text.ensures) (consumes_nothing known)

pub returns-then-count-eq0-clause-text : goal.returns-then-count-eq0-clause-text
returns-then-count-eq0-clause-text g c =
    let read = c.in-Ok.ensures.bytes in
    all_was_read _ _ _ c.loop-reader.text c.loop-reader.invariant
    (subst (λ n. Consumes (g.R.Read.remaining c.loop-reader.reader) (g.R.Read.remaining c.read.new.self) (take n c.read.new.buf)) c.if-count-eq0.true read.0)
    (read.1 c.if-count-eq0.true (omega (arith, c.requires, c.loop-reader.auto.buffer, c.read.auto.buf)))

pub loop-reader-preserved : goal.loop-reader-preserved
loop-reader-preserved g c =
    subst (Consumes (g.R.Read.remaining c.args.reader.now) (g.R.Read.remaining c.read.new.self)) (sym c.in_ok-append.ensures.ok)
    (consumes_more _ _ _ c.loop-reader.text _ c.loop-reader.invariant c.in-Ok.ensures.bytes.0)

pub returns-clause-too_big : goal.returns-clause-too_big
returns-clause-too_big g c = λ _. more_was_read _ _ c.loop-reader.text _ c.loop-reader.invariant (omega arith)
