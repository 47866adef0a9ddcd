use Rattle.std.proofs.Common.{rules, sym}
use Rattle.std.proofs.lemmas.List.Sorted.{answers_always}
use Rattle.v_lexer.proofs.SpellingLaws.{spelled_here, spelled_nowhere}
use Rattle.v_lexer.proofs.terminals.spelled.Goals as goal

pub returns-in-Ok : goal.returns-in-Ok
returns-in-Ok c =
    let by_key = c.in-Ok.ensures.position (λ row. row.0) (answers_always _ _ _ (λ f a r g called. search rules)) in
    sym (spelled_here (λ row. row.0.now) (λ row. row.1) c.args.table.now c.args.text.now c.in-Ok.place _ c.requires c.in-Ok.ensures.bound (by_key _))

pub returns-in-Err : goal.returns-in-Err
returns-in-Err c =
    let by_key = c.in-Err.ensures.position (λ row. row.0) (answers_always _ _ _ (λ f a r g called. search rules)) in
    sym (spelled_nowhere (λ row. row.0.now) (λ row. row.1) c.args.table.now c.args.text.now c.in-Err.field-0 c.requires by_key)
