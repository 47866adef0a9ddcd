use Rattle.std.proofs.Common.{◌≡◌, ℕ, ◌<◌, List, length, get_or, sym, ◌∙◌, ap, subst, arith}
use Rattle.std.proofs.lemmas.List.{get_or_default}
use Rattle.design_core.specs.declared.signal.Signal.{Signal}
use Rattle.design_core.specs.Valuation.{width_at}
use Rattle.node_map.specs.declared.entry.Entry.{Entry}
use Rattle.word_net.specs.declared.node.WordNode.{WordNode}
use Rattle.synth_parts.specs.Store.{nodes_made}
use Rattle.synth_parts.specs.Rows.{entry_row}
use Rattle.synth_parts.proofs.Scenes.{width-here}
use Rattle.synth_parts.proofs.RowSteps.{entry-within, rows-next}
use Rattle.synth_parts.proofs.merge.merge.Goals as goal

pub loop-i-preserved : goal.loop-i-preserved
loop-i-preserved c =
    let S : List Signal = c.args.signals.now in
    let test : ℕ = c.args.test in
    let ones : List Entry = c.args.arm.now.current in
    let laters : List Entry = c.args.arm.now.later in
    let i : ℕ = c.loop-i.i in
    let none : Entry = record { signal = 0; node = 0 } in
    let one : Entry = get_or ones i none in
    let later : Entry = get_or laters i none in
    let within : i < length ones = omega (arith, c.loop-i-test.true, c.len-i-end.ensures) in
    let inside : i < length laters = omega (arith, within, c.requires.both) in
    let is : one ≡ get_or ones i one = get_or_default ones i none one within in
    let is_later : later ≡ get_or laters i later = get_or_default laters i none later inside in
    let nodes : List WordNode = c.loop-i.nodes in
    let mid : List WordNode = c.row.new.nodes in
    let now : List ℕ = c.loop-i.other.current.now in
    let past : List ℕ = c.loop-i.other.later.now in
    let shown : Entry = get_or c.deref.result.now i none in
    let s : ℕ = shown.signal in
    let same : s ≡ one.signal = ap (λ (es : List Entry). (get_or es i none).signal) c.deref.ensures in
    let signal : Signal = c.index-signals-one.result in
    let low : s < length S = subst (λ k. k < length S) (sym same) (entry-within (length S) ones i one c.requires.within within is) in
    let wide : (get_or S s signal).width ≡ width_at S one.signal =
    ap (λ (x : Signal). x.width) (sym c.index-signals-one.is) ∙ sym (width-here S s signal low c.index-signals-one.is) ∙ ap (width_at S) same in
    let a : nodes_made mid c.row.new.map.now ≡ entry_row nodes test (width_at S one.signal) one.signal one.node now =
    c.in_ok-row.ensures.ok
    ∙ ap (λ w. entry_row nodes test w s shown.node now) wide
    ∙ ap (λ k. entry_row nodes test (width_at S one.signal) k shown.node now) same
    ∙ ap (λ (es : List Entry). entry_row nodes test (width_at S one.signal) one.signal (get_or es i none).node now) c.deref.ensures in
    let b : nodes_made c.row-in-loop-i.new.nodes c.row-in-loop-i.new.map.now ≡ entry_row mid test (width_at S one.signal) one.signal later.node past =
    c.in_ok-row-2.ensures.ok
    ∙ ap (λ w. entry_row mid test w s (get_or c.deref-in-loop-i.result.now i none).node past) wide
    ∙ ap (λ k. entry_row mid test (width_at S one.signal) k (get_or c.deref-in-loop-i.result.now i none).node past) same
    ∙ ap (λ (es : List Entry). entry_row mid test (width_at S one.signal) one.signal (get_or es i none).node past) c.deref-in-loop-i.ensures in
    record {
      current = c.in_ok-row.ensures.each ∙ c.loop-i.invariant.current;
      later = c.in_ok-row-2.ensures.each ∙ c.loop-i.invariant.later;
      base = c.in_ok-row.ensures.base ∙ c.loop-i.invariant.base;
      base_later = c.in_ok-row-2.ensures.base ∙ c.loop-i.invariant.base_later;
      rest = c.loop-i.invariant.rest
          ∙ rows-next S test ones laters i one later nodes mid c.row-in-loop-i.new.nodes now past c.row.new.map.now c.row-in-loop-i.new.map.now within inside is is_later a b;
    }
