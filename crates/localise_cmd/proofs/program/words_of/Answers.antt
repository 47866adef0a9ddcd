use Rattle.std.proofs.Common.{map, sym, ◌∙◌, ap}
use Rattle.std.specs.Prelude.{string_bytes}
use Rattle.std.proofs.lemmas.List.{drop-map}
use Rattle.localise_cmd.proofs.program.words_of.Goals as goal

pub returns-in-Ok : goal.returns-in-Ok
returns-in-Ok g c =
    rw c.in-Ok.is
    (ap (map string_bytes) c.behind_name.ensures ∙ sym (drop-map string_bytes 1 c.in-Ok.arguments.items))
