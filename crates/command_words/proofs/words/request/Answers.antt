use Rattle.std.proofs.Common.{rules, ◌≡◌, ◌∙◌, ap, subst, map, Err}
use Rattle.std.specs.Prelude.{string_bytes}
use Rattle.command_words.specs.Help.{page_asked}
use Rattle.command_words.proofs.Commands.{IsOther, asked-other, page_as_asked}
use Rattle.command_words.proofs.words.request.Goals as goal

pub returns-in-Err-clause-gives : goal.returns-in-Err-clause-gives
returns-in-Err-clause-gives c =
    let page : page_asked (map string_bytes c.args.words.now) ≡ Err c.in-Err.usage = search rules in
    let asked = asked-other (map (λ w. w.now) c.args.known.now) string_bytes c.args.words.now c.in-Some.command.now
    c.in-Some.ensures.value
    (subst IsOther c.as_str.ensures.value (record {
      not_find = c.in_default-as_str.not-find;
      not_sim = c.in_default-as_str.not-sim;
      not_check = c.in_default-as_str.not-check;
      not_make = c.in_default-as_str.not-make;
    })) in
    asked ∙ ap page_as_asked page
