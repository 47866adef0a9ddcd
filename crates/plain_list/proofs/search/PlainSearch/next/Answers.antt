use Rattle.std.proofs.Common.{◌≤◌, ◌++◌, ◌∷◌, [], ◌∙◌, ap, subst, Ok}
use Rattle.plain_list.proofs.Searching.{search-front, search-list}
use Rattle.plain_list.proofs.search.PlainSearch.next.Goals as goal

pub returns-in_err-try_next-clause-front : goal.returns-in_err-try_next-clause-front
returns-in_err-try_next-clause-front c = search-front c.args.design.now c.args.traces.now c.try_next.new.self c.try_next.ensures.search

pub returns-then-branch-clause-more : goal.returns-then-branch-clause-more
returns-then-branch-clause-more c _ =
    let one : _ = c.in_ok-try_next.ensures.more (ap Ok c.if-branch.true) in
    (one.0, one.1 ∙ ap (λ found. found ++ one.0 ∷ []) c.loop-self.invariant.1)

pub returns-then-branch-clause-front : goal.returns-then-branch-clause-front
returns-then-branch-clause-front c = search-front c.args.design.now c.args.traces.now c.try_next.new.self c.try_next.ensures.search

pub returns-clause-list : goal.returns-clause-list
returns-clause-list c _ =
    search-list c.args.design.now c.args.traces.now c.loop-self.self c.loop-self.invariant.0
    (subst (λ n. n ≤ c.loop-self.self.at) (c.len.ensures ∙ c.loop-self.self.candidates.ok.0) c.loop-self-test.false)

pub returns-clause-front : goal.returns-clause-front
returns-clause-front c = search-front c.args.design.now c.args.traces.now c.loop-self.self c.loop-self.invariant.0
