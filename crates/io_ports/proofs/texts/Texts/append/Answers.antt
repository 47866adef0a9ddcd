use Rattle.std.proofs.Common.{Some, ap, sym, ◌∙◌, ◌++◌, [], unwrap_or}
use Rattle.io_ports.proofs.TextsLaws.{sets_through, text_of-model, absent_is_none, on_err}
use Rattle.io_ports.proofs.texts.Texts.append.Goals as goal

pub unreachable-requires : goal.unreachable-requires
unreachable-requires c =
    absent_is_none _ _ c.in-None.ensures.value (text_of-model c.self.inside.entries c.args.self.now c.args.name.now c.self.view_is) c.requires

pub returns-in_err-append-in-Some-clause-others : goal.returns-in_err-append-in-Some-clause-others
returns-in_err-append-in-Some-clause-others c =
    (sets_through c.self.inside.entries (c.get_mut.follows.lender c.append.new.self) c.args.self.now c.args.name.now _ c.append.new.self c.self.view_is c.in-Some.ensures.value (c.get_mut.follows.holds c.append.new.self)).others

pub returns-in_err-append-in-Some-clause-err : goal.returns-in_err-append-in-Some-clause-err
returns-in_err-append-in-Some-clause-err c =
    let found = text_of-model c.self.inside.entries c.args.self.now c.args.name.now c.self.view_is in
    on_err c.from_residual.result ((sets_through c.self.inside.entries (c.get_mut.follows.lender c.append.new.self) c.args.self.now c.args.name.now _ c.append.new.self c.self.view_is c.in-Some.ensures.value (c.get_mut.follows.holds c.append.new.self)).here
    ∙ ap Some c.in_err-append-in-Some.ensures.err
    ∙ c.in-Some.ensures.value
    ∙ sym found)

pub returns-clause-appended : goal.returns-clause-appended
returns-clause-appended c =
    let found = text_of-model c.self.inside.entries c.args.self.now c.args.name.now c.self.view_is in
    (sets_through c.self.inside.entries (c.get_mut.follows.lender c.append.new.self) c.args.self.now c.args.name.now _ c.append.new.self c.self.view_is c.in-Some.ensures.value (c.get_mut.follows.holds c.append.new.self)).here
    ∙ ap Some c.in_ok-append-in-Some.ensures.ok
    ∙ ap (λ old. Some (unwrap_or old [] ++ c.args.piece.now)) (c.in-Some.ensures.value ∙ sym found)

pub returns-clause-others : goal.returns-clause-others
returns-clause-others c =
    (sets_through c.self.inside.entries (c.get_mut.follows.lender c.append.new.self) c.args.self.now c.args.name.now _ c.append.new.self c.self.view_is c.in-Some.ensures.value (c.get_mut.follows.holds c.append.new.self)).others
