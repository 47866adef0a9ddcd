use Rattle.std.proofs.Common.{◌<◌, ◌≤◌, ◌^◌, ap, sym, ◌∙◌, subst}
use Rattle.loc_base.specs.Bits.{width_of, value_of}
use Rattle.design_core.specs.Words.{valuation_of}
use Rattle.design_core.specs.Valuation.{width_at}
use Rattle.design_core.specs.Value.{value}
use Rattle.plain_values.proofs.EvaluateWords.{words-length}
use Rattle.plain_list.specs.Trial.{choice_of}
use Rattle.design_core.specs.Explained.{number_for}
use Rattle.plain_list.proofs.Assigning.{Fits, fits-at, width-at, AreNumbersFor-length, number_for-range, word_set, step-some, step-none, step-comb}
use Rattle.plain_list.proofs.settle.carry_out.Goals as goal

pub assigned_word-requires-clause-most : goal.assigned_word-requires-clause-most
assigned_word-requires-clause-most c =
    let fits : Fits c.args.d.now c.in-Some.net c.in-Cont.computed c.in-Cont.place =
    fits-at c.args.d.now c.args.driver c.in-Some.net c.index.result.now c.in-Cont.target c.in-Cont.computed c.in-Cont.place c.in-Cont.span c.deref.result.now c.whole_of.result
    c.requires.well_formed c.requires.driver c.index.ensures c.in-Cont.is c.in-Some.is c.whole_of.ensures c.deref.ensures in
    subst (λ n. n ≤ width_of c.value-computed.result) (sym (width-at c.args.d.now.signals.items c.in-Some.net c.index-in-Some.result.now fits.signal c.index-in-Some.ensures))
    (subst (λ n. width_at c.args.d.now.signals.items c.in-Some.net ≤ n) (sym c.value-computed.ensures.width) fits.wide)

pub assigned_word-requires-clause-numbers : goal.assigned_word-requires-clause-numbers
assigned_word-requires-clause-numbers c = AreNumbersFor-length c.args.d.now c.args.places.now c.args.numbers.now c.requires.numbers

pub assigned_word-requires-clause-range : goal.assigned_word-requires-clause-range
assigned_word-requires-clause-range c p is one =
    let fits : Fits c.args.d.now c.in-Some.net c.in-Cont.computed c.in-Cont.place =
    fits-at c.args.d.now c.args.driver c.in-Some.net c.index.result.now c.in-Cont.target c.in-Cont.computed c.in-Cont.place c.in-Cont.span c.deref.result.now c.whole_of.result
    c.requires.well_formed c.requires.driver c.index.ensures c.in-Cont.is c.in-Some.is c.whole_of.ensures c.deref.ensures in
    subst (λ n. number_for c.args.places.now c.args.numbers.now p < 2 ^ n)
    (fits.of_place p is ∙ sym (width-at c.args.d.now.signals.items c.in-Some.net c.index-in-Some.result.now fits.signal c.index-in-Some.ensures))
    (number_for-range c.args.d.now c.args.places.now c.args.numbers.now p c.requires.numbers one)

pub bounds-words-net : goal.bounds-words-net
bounds-words-net c =
    let fits : Fits c.args.d.now c.in-Some.net c.in-Cont.computed c.in-Cont.place =
    fits-at c.args.d.now c.args.driver c.in-Some.net c.index.result.now c.in-Cont.target c.in-Cont.computed c.in-Cont.place c.in-Cont.span c.deref.result.now c.whole_of.result
    c.requires.well_formed c.requires.driver c.index.ensures c.in-Cont.is c.in-Some.is c.whole_of.ensures c.deref.ensures in
    subst (λ n. c.in-Some.net < n) (sym (words-length c.args.d.now.signals.items c.args.words.now c.requires.words)) fits.signal

pub returns-in-Some-clause-words : goal.returns-in-Some-clause-words
returns-in-Some-clause-words c =
    let fits : Fits c.args.d.now c.in-Some.net c.in-Cont.computed c.in-Cont.place =
    fits-at c.args.d.now c.args.driver c.in-Some.net c.index.result.now c.in-Cont.target c.in-Cont.computed c.in-Cont.place c.in-Cont.span c.deref.result.now c.whole_of.result
    c.requires.well_formed c.requires.driver c.index.ensures c.in-Cont.is c.in-Some.is c.whole_of.ensures c.deref.ensures in
    word_set c.args.d.now c.args.words.now c.in-Some.net c.in-Cont.computed c.in-Cont.place c.assigned_word.result c.index-in-Some.result.now c.requires.words fits c.index-in-Some.ensures c.assigned_word.ensures.width

pub returns-in-Some-clause-value : goal.returns-in-Some-clause-value
returns-in-Some-clause-value c =
    let fits : Fits c.args.d.now c.in-Some.net c.in-Cont.computed c.in-Cont.place =
    fits-at c.args.d.now c.args.driver c.in-Some.net c.index.result.now c.in-Cont.target c.in-Cont.computed c.in-Cont.place c.in-Cont.span c.deref.result.now c.whole_of.result
    c.requires.well_formed c.requires.driver c.index.ensures c.in-Cont.is c.in-Some.is c.whole_of.ensures c.deref.ensures in
    step-some c.args.d.now (choice_of c.args.places.now c.args.numbers.now) c.args.words.now c.args.driver c.in-Some.net c.index.result.now c.in-Cont.target c.in-Cont.computed c.in-Cont.place c.in-Cont.span
    c.deref.result.now c.whole_of.result c.assigned_word.result c.index-in-Some.result.now (value_of c.value-computed.result)
    c.requires.words fits c.requires.driver c.index.ensures c.in-Cont.is c.in-Some.is c.whole_of.ensures c.deref.ensures c.index-in-Some.ensures c.assigned_word.ensures.width
    (c.value-computed.ensures.value ∙ ap (λ xs. value xs (valuation_of c.args.words.now) c.in-Cont.computed) c.deref-in-Some.ensures.value) c.assigned_word.ensures.value

pub returns-in_default-clause-value : goal.returns-in_default-clause-value
returns-in_default-clause-value c =
    step-none c.args.d.now (choice_of c.args.places.now c.args.numbers.now) (valuation_of c.args.words.now) c.args.driver c.index.result.now c.in-Cont.target c.in-Cont.computed c.in-Cont.place c.in-Cont.span
    c.deref.result.now c.whole_of.result c.requires.driver c.index.ensures c.in-Cont.is c.in_default.is c.whole_of.ensures c.deref.ensures

pub returns-in-Comb-clause-value : goal.returns-in-Comb-clause-value
returns-in-Comb-clause-value c =
    step-comb c.args.d.now (choice_of c.args.places.now c.args.numbers.now) (valuation_of c.args.words.now) c.args.driver c.index.result.now c.in-Comb.body c.in-Comb.span
    c.requires.driver c.index.ensures c.in-Comb.is
