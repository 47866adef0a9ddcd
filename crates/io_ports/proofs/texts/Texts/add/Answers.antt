use Rattle.std.proofs.Common.{◌≡◌, is_some, ap, sym, ◌∙◌, string_bytes}
use Rattle.std.proofs.lemmas.Result.{IfOk-at_ok}
use Rattle.io_ports.specs.Texts.{text_of}
use Rattle.io_ports.proofs.TextsLaws.{sets_from_key, text_of-model, kept_or_put, put_where_none}
use Rattle.io_ports.proofs.texts.Texts.add.Goals as goal

pub returns-then-contains_key-clause-added : goal.returns-then-contains_key-clause-added
returns-then-contains_key-clause-added c =
    let found = text_of-model c.self.inside.entries c.args.self.now c.args.name.now c.self.view_is in
    kept_or_put _ c.args.text (ap is_some found ∙ sym c.contains_key.ensures ∙ c.if-contains_key.true)

pub returns-clause-added : goal.returns-clause-added
returns-clause-added c =
    let same = IfOk-at_ok (λ key. string_bytes key ≡ c.args.name.now) c.in_ok-key.was c.from_str.ensures.ok in
    let found = text_of-model c.self.inside.entries c.args.self.now c.args.name.now c.self.view_is in
    (sets_from_key c.in_ok-key.key c.args.name.now _ c.self.inside.entries c.insert.new.self same c.in_ok-insert.ensures.updates).here
    ∙ put_where_none _ c.args.text (ap is_some found ∙ sym c.contains_key.ensures ∙ c.if-contains_key.false)

pub returns-clause-others : goal.returns-clause-others
returns-clause-others c = λ other differs.
    let same = IfOk-at_ok (λ key. string_bytes key ≡ c.args.name.now) c.in_ok-key.was c.from_str.ensures.ok in
    (sets_from_key c.in_ok-key.key c.args.name.now _ c.self.inside.entries c.insert.new.self same c.in_ok-insert.ensures.updates).others other differs
    ∙ ap (λ pairs. text_of pairs other) c.self.view_is
