use Rattle.std.proofs.Common.{◌≡◌, ◌<◌, length, rules, sym, ap, ◌∙◌, subst, IsSome, IfSome, Some, true, false}
use Rattle.v_lexer.specs.Lexeme.{Lexeme}
use Rattle.v_lexer.specs.Text.{IsTokenText}
use Rattle.loc_base.specs.Name.{IsName}
use Rattle.v_syntax.specs.declared.token_kind.TokenKind.TheVariants as kind
use Rattle.v_tree.proofs.ClassLemmas.{class, name_inside, class_text, name_bytes, text_read}
use Rattle.v_tree.proofs.text.name_of.Goals as goal

pub offset_bounds-tokens-at : goal.offset_bounds-tokens-at
offset_bounds-tokens-at c = let inside : c.args.at < length c.args.tokens.now = name_inside _ _ c.requires in search (rules, inside)

pub bounds-tokens-at : goal.bounds-tokens-at
bounds-tokens-at c = name_inside _ _ c.requires

pub unreachable-requires : goal.unreachable-requires
unreachable-requires c =
    let inside = name_inside _ _ c.requires in
    let found = c.index-tokens-at in
    let sound : IsTokenText found.result.kind found.result.text = subst (λ (v : Lexeme). IsTokenText v.kind v.text) c.token.view_is c.token.invariant.0 in
    let named : IsName found.result.text = name_bytes _ (class_text c.args.tokens.now c.args.at found.result kind.Name (ap class c.requires) inside found.is sound) in
    let same : found.result.text ≡ c.as_slice.result.now = sym (c.as_slice.ensures ∙ ap (λ (v : Lexeme). v.text) c.token.view_is) in
    let some : IsSome c.in_ok-name.field-0 = c.in_ok-name.ensures.some.1 (subst IsName same named) in
    let none : false ≡ true = subst IsSome c.in-None.is some in
    cc

pub returns : goal.returns
returns c =
    let name : IfSome (Some c.in-Some.name) (λ n. n ≡ c.as_slice.result.now) = subst (λ o. IfSome o (λ n. n ≡ c.as_slice.result.now)) c.in-Some.is c.in_ok-name.ensures.same in
    name ∙ c.as_slice.ensures ∙ ap (λ (v : Lexeme). v.text) c.token.view_is ∙ text_read c.args.tokens.now c.args.at c.index-tokens-at.result (name_inside _ _ c.requires) c.index-tokens-at.is
