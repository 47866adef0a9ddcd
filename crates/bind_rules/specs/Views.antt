-- What stands beside a design, as definitions have it.
use Rattle.bind_rules.specs.declared.beside.Beside.{Beside}
use Rattle.bind_rules.specs.Beside as plain

abbrev pub beside_of : Beside → plain.Beside
beside_of b = record { homes = b.homes.now; spans = b.spans.now; initial = b.initial.now; clock_fault = b.clock_fault }
