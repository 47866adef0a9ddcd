use Rattle.std.proofs.Common.{◌≡◌, ◌<◌, length, rules, sym, ap, ◌∙◌, subst}
use Rattle.v_lexer.specs.Lexeme.{Lexeme}
use Rattle.v_lexer.specs.Text.{IsTokenText}
use Rattle.v_lexer.proofs.TextRows.{wild_written}
use Rattle.v_syntax.specs.declared.token_kind.TokenKind.TheVariants as kind
use Rattle.v_tree.proofs.ClassLemmas.{class, wild_inside, class_text, text_read}
use Rattle.v_tree.proofs.text.wild_of.Goals as goal

pub offset_bounds-tokens-at : goal.offset_bounds-tokens-at
offset_bounds-tokens-at c = let inside : c.args.at < length c.args.tokens.now = wild_inside _ _ c.requires in search (rules, inside)

pub bounds-tokens-at : goal.bounds-tokens-at
bounds-tokens-at c = wild_inside _ _ c.requires

pub invariant_of-result : goal.invariant_of-result
invariant_of-result c =
    let inside = wild_inside _ _ c.requires in
    let found = c.index-tokens-at in
    let sound : IsTokenText found.result.kind found.result.text = subst (λ (v : Lexeme). IsTokenText v.kind v.text) c.token.view_is c.token.invariant.0 in
    let same : found.result.text ≡ c.in_ok-text.text = sym (c.in_ok-text.ensures ∙ c.as_slice.ensures ∙ ap (λ (v : Lexeme). v.text) c.token.view_is) in
    wild_written c.in_ok-text.text (subst (IsTokenText kind.Wild) same (class_text c.args.tokens.now c.args.at found.result kind.Wild (ap class c.requires) inside found.is sound))

pub returns : goal.returns
returns c = c.in_ok-text.ensures ∙ c.as_slice.ensures ∙ ap (λ (v : Lexeme). v.text) c.token.view_is ∙ text_read c.args.tokens.now c.args.at c.index-tokens-at.result (wild_inside _ _ c.requires) c.index-tokens-at.is
