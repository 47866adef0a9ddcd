use Rattle.std.proofs.Common.{◌≡◌, ◌<◌, sym, ◌∙◌, length, get_or, None}
use Rattle.suspect_map.proofs.ChainLaws.{follows-begun, follows-on, follows-end, far-next, read-none, none-from}
use Rattle.suspect_map.proofs.chains.Chains.places_of.Goals as goal

pub loop-at-init : goal.loop-at-init
loop-at-init c =
    let start : c.index-at.result.now ≡ get_or c.args.self.now.heads.items c.args.first None =
    read-none c.args.self.now.heads.items c.args.first c.index-at.result.now c.requires.first c.index-at.ensures in
    record {
      within = λ q is. c.requires.heads c.args.first q (sym start ∙ is);
      follows = λ list runs. follows-begun c.args.self.now.next.items _ c.index-at.result.now c.new-places.result list c.new-places.ensures start runs;
    }

pub loop-at-smaller : goal.loop-at-smaller
loop-at-smaller c =
    let next = c.args.self.now.next.items in
    let place = c.in-Some.place in
    let within : place < length next = c.loop-at.invariant.within place c.in-Some.is in
    let goes : c.index-at-in-Some.result.now ≡ get_or next place None = read-none next place c.index-at-in-Some.result.now within c.index-at-in-Some.ensures in
    far-next (length next) c.loop-at.at c.index-at-in-Some.result.now place c.in-Some.is within (λ q is. (c.requires.forward place q (sym goes ∙ is)).0)

pub loop-at-preserved : goal.loop-at-preserved
loop-at-preserved c =
    let next = c.args.self.now.next.items in
    let place = c.in-Some.place in
    let within : place < length next = c.loop-at.invariant.within place c.in-Some.is in
    let goes : c.index-at-in-Some.result.now ≡ get_or next place None = read-none next place c.index-at-in-Some.result.now within c.index-at-in-Some.ensures in
    record {
      within = λ q is. (c.requires.forward place q (sym goes ∙ is)).1;
      follows = λ list runs. follows-on next _ c.loop-at.places c.push.new.self c.loop-at.at c.index-at-in-Some.result.now place list c.in-Some.is
          c.in_ok-push.ensures.ok goes (c.loop-at.invariant.follows list runs);
    }

pub returns : goal.returns
returns c = λ list runs. follows-end _ _ c.loop-at.places c.loop-at.at list (none-from c.loop-at.at c.in_default.not-Some) (c.loop-at.invariant.follows list runs)
