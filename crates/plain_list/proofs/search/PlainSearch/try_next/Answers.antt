use Rattle.std.proofs.Common.{◌≡◌, ◌+◌, ◌<◌, length, sym, subst, refl, ap, get_or, Ok, List, ℕ}
use Rattle.plain_list.specs.declared.search.PlainSearch.{PlainSearch}
use Rattle.plain_list.specs.Search.{members_of, IsPassed, IsFresh}
use Rattle.plain_list.proofs.Searching.{IsNext, next-set, search-kept, search-passed, search-found}
use Rattle.plain_list.proofs.search.PlainSearch.try_next.Goals as goal

-- the candidate is the next one
is_next : (search : PlainSearch) (at set : List ℕ) → search.at < length search.candidates.items → at ≡ get_or search.candidates.items search.at at → set ≡ at → IsNext search set
is_next search at set h e s = (h, subst (λ x. get_or search.candidates.items search.at x ≡ x) (sym s) (sym e))

pub try_candidate-requires-clause-set : goal.try_candidate-requires-clause-set
try_candidate-requires-clause-set c =
    next-set c.args.design.now c.args.traces.now c.args.self.now c.as_slice-candidate.result.now c.requires.search
    (is_next c.args.self.now c.index.result.now c.as_slice-candidate.result.now c.requires.left c.index.ensures c.as_slice-candidate.ensures)

pub returns-in_err-push-in-Some-clause-search : goal.returns-in_err-push-in-Some-clause-search
returns-in_err-push-in-Some-clause-search c =
    search-kept c.args.design.now c.args.traces.now c.args.self.now
    (record { found = c.push.new.self; candidates = c.args.self.now.candidates; at = c.args.self.now.at; size = c.args.self.now.size })
    c.requires.search c.in_err-push-in-Some.ensures.items refl refl refl

pub returns-in-None-clause-search : goal.returns-in-None-clause-search
returns-in-None-clause-search c =
    search-passed c.args.design.now c.args.traces.now c.args.self.now
    (record { found = c.args.self.now.found; candidates = c.args.self.now.candidates; at = c.args.self.now.at + 1; size = c.args.self.now.size })
    c.as_slice-candidate.result.now c.requires.search
    (is_next c.args.self.now c.index.result.now c.as_slice-candidate.result.now c.requires.left c.index.ensures c.as_slice-candidate.ensures)
    (subst (λ found. IsPassed c.args.design.now c.args.traces.now (members_of found) c.as_slice-candidate.result.now) c.deref.ensures.value
    (c.in_ok-try_candidate.ensures.passed (ap Ok c.in-None.is)))
    refl refl refl refl

pub returns-in_ok-push-in-Some-clause-search : goal.returns-in_ok-push-in-Some-clause-search
returns-in_ok-push-in-Some-clause-search c =
    search-found c.args.design.now c.args.traces.now c.args.self.now
    (record { found = c.push.new.self; candidates = c.args.self.now.candidates; at = c.args.self.now.at + 1; size = c.args.self.now.size })
    c.as_slice-candidate.result.now c.in-Some.set c.requires.search
    (is_next c.args.self.now c.index.result.now c.as_slice-candidate.result.now c.requires.left c.index.ensures c.as_slice-candidate.ensures)
    (subst (λ found. IsFresh c.args.design.now c.args.traces.now (members_of found) c.as_slice-candidate.result.now c.in-Some.set) c.deref.ensures.value
    (rw c.in-Some.is at c.in_ok-try_candidate.ensures.fresh))
    c.in_ok-push-in-Some.ensures.items refl refl refl
