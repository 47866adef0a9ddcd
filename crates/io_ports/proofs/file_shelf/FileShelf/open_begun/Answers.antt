use Rattle.std.proofs.Common.{false, arith}
use Rattle.io_ports.proofs.UseLaws.{keeps_one}
use Rattle.io_ports.proofs.file_shelf.FileShelf.open_begun.Goals as goal

pub returns-clause-kept : goal.returns-clause-kept
returns-clause-kept g c =
    keeps_one c.args.name.now (record { name = c.in_ok-kept.kept; file = c.of_open.result; was_loaded = false }) c.args.self.now.used.items _ _
    c.push.result c.reserve.ensures.items c.push.ensures.items (c.push.ensures.succeeds (omega (arith, c.in_ok-reserve.ensures.ok)))
    c.in_ok-kept.ensures.ok
