use Rattle.std.proofs.Common.{◌≡◌, Some, ap, ◌∙◌, string_bytes}
use Rattle.std.proofs.lemmas.Result.{IfOk-at_ok}
use Rattle.io_ports.specs.Texts.{text_of}
use Rattle.io_ports.proofs.TextsLaws.{sets_from_key}
use Rattle.io_ports.proofs.texts.Texts.clear.Goals as goal

pub returns-clause-cleared : goal.returns-clause-cleared
returns-clause-cleared c =
    let same = IfOk-at_ok (λ key. string_bytes key ≡ c.args.name.now) c.in_ok-key.was c.from_str.ensures.ok in
    (sets_from_key c.in_ok-key.key c.args.name.now _ c.self.inside.entries c.insert.new.self same c.in_ok-insert.ensures.updates).here
    ∙ ap Some c.new.ensures

pub returns-clause-others : goal.returns-clause-others
returns-clause-others c = λ other differs.
    let same = IfOk-at_ok (λ key. string_bytes key ≡ c.args.name.now) c.in_ok-key.was c.from_str.ensures.ok in
    (sets_from_key c.in_ok-key.key c.args.name.now _ c.self.inside.entries c.insert.new.self same c.in_ok-insert.ensures.updates).others other differs
    ∙ ap (λ pairs. text_of pairs other) c.self.view_is
