use Rattle.std.proofs.Common.{◌≡◌, take}
use Rattle.v_binding.specs.Names.{find}
use Rattle.v_binding.specs.Held.{names_of}
use Rattle.v_binding.proofs.names.Names.search.Given as goal

abbrev pub invariant-loop-held : goal.invariant-loop-held
invariant-loop-held l = l.found ≡ find (names_of (take l.held-index l.held-items)) l.name
