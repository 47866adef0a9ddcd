use Rattle.std.proofs.Common.{◌∙◌, ap, Some, None, if◌then◌else◌}
use Rattle.std.specs.Option.{option_or}
use Rattle.vcd_reading.specs.Paths.{is_all, rest_of}
use Rattle.vcd_reading.proofs.PathLaws.{met_more}
use Rattle.vcd_reading.proofs.paths.Met.add.Goals as goal

pub returns : goal.returns
returns c paths is =
    let old = c.args.self.now in
    met_more c.args.path.now paths c.args.scope.now old (record { rests = c.push.new.self; found = c.first-self.result }) c.rest-rest.result is
    (c.rest-rest.ensures paths is) c.in_ok-push.ensures.items
    (c.first-self.ensures ∙ ap (λ b. option_or old.found (if b then Some c.count.result else None)) c.is_all.ensures
    ∙ ap (λ n. option_or old.found (if is_all (rest_of c.rest-rest.result) then Some n else None)) c.count.ensures)
