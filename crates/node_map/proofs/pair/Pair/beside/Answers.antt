use Rattle.std.proofs.Common.{◌≡◌, ℕ, ◌++◌, List, length, map, ap, ap₂, ◌∙◌}
use Rattle.node_map.specs.declared.pair.Pair.{Pair}
use Rattle.node_map.specs.Entries.{Tracked, put, entry_at, signals_of}
use Rattle.node_map.proofs.PairSteps.{AreKept, arms-kept, own-within, within-alike, more-within, arm-same, arm-back}
use Rattle.node_map.proofs.pair.Pair.beside.Goals as goal

pub changed-requires-clause-within : goal.changed-requires-clause-within
changed-requires-clause-within c =
    more-within (length c.args.self.now.current.now) c.new-more.result.items c.add_signals.new.signals.items c.add_signals-2.new.signals.items c.args.arm.now.current c.args.arm.now.later
    c.new-more.ensures.items
    (c.in_ok-add_signals.ensures ∙ ap (λ es. c.new-more.result.items ++ signals_of es) c.as_slice.ensures)
    (c.in_ok-add_signals-2.ensures ∙ ap (λ es. c.add_signals.new.signals.items ++ signals_of es) c.as_slice-2.ensures)
    c.requires.current (within-alike (length c.args.self.now.current.now) (length c.args.self.now.later.now) c.args.arm.now.later c.requires.alike c.requires.later)

long : (c : goal.After-own-2-1) → length c.put.new.self.current.now ≡ length c.args.self.now.current.now
long c = c.put.ensures.long ∙ ap (λ (m : Pair). length m.current.now) c.undo.ensures.new ∙ c.undo.ensures.long

long_later : (c : goal.After-own-2-1) → length c.put.new.self.later.now ≡ length c.args.self.now.later.now
long_later c = c.put.ensures.long_later ∙ ap (λ (m : Pair). length m.later.now) c.undo.ensures.new ∙ c.undo.ensures.long_later

pub put-requires-2-clause-current : goal.put-requires-2-clause-current
put-requires-2-clause-current c =
    own-within c.args.self.now.current.now c.in_ok-signals.signals c.as_slice-3.result.now c.in_ok-own.own.current (length c.put.new.self.current.now)
    c.in_ok-own.ensures.current c.as_slice-3.ensures c.in_ok-signals.ensures.current.within (long c)

pub put-requires-2-clause-later : goal.put-requires-2-clause-later
put-requires-2-clause-later c =
    own-within c.args.self.now.later.now c.in_ok-signals.signals c.as_slice-3.result.now c.in_ok-own.own.later (length c.put.new.self.later.now)
    c.in_ok-own.ensures.later c.as_slice-3.ensures c.in_ok-signals.ensures.later.within (long_later c)

kept : (c : goal.After-drop-signals-2) → AreKept c.args.arm.now.current c.args.arm.now.later c.in_ok-signals.signals
kept c =
    arms-kept c.new-more.result.items c.add_signals.new.signals.items c.add_signals-2.new.signals.items c.in_ok-signals.signals c.args.arm.now.current c.args.arm.now.later
    c.new-more.ensures.items
    (c.in_ok-add_signals.ensures ∙ ap (λ es. c.new-more.result.items ++ signals_of es) c.as_slice.ensures)
    (c.in_ok-add_signals-2.ensures ∙ ap (λ es. c.add_signals.new.signals.items ++ signals_of es) c.as_slice-2.ensures)
    c.in_ok-signals.ensures.keeps

arm : (c : goal.After-drop-signals-2) → c.put.new.self.current.now ≡ put c.args.arm.now.current c.args.self.now.current.base
arm c = ap (λ (m : Tracked). m.now) c.in_ok-put.ensures.current ∙ ap (λ (m : Pair). put c.args.arm.now.current m.current.now) c.undo.ensures.new

arm_later : (c : goal.After-drop-signals-2) → c.put.new.self.later.now ≡ put c.args.arm.now.later c.args.self.now.later.base
arm_later c = ap (λ (m : Tracked). m.now) c.in_ok-put.ensures.later ∙ ap (λ (m : Pair). put c.args.arm.now.later m.later.now) c.undo.ensures.new

pub returns-clause-kept : goal.returns-clause-kept
returns-clause-kept c = record {
  signals = c.in_ok-signals.signals;
  rises = c.in_ok-signals.ensures.rises;
  within = c.in_ok-signals.ensures.current.within;
  entries = record {
    current = c.in_ok-kept.ensures.current ∙ ap₂ (λ now signals. map (entry_at now) signals) (arm c) c.as_slice-4.ensures;
    later = c.in_ok-kept.ensures.later ∙ ap₂ (λ now signals. map (entry_at now) signals) (arm_later c) c.as_slice-4.ensures;
  };
  same_current = arm-same c.in_ok-signals.signals c.args.self.now.current c.args.arm.now.current c.in_ok-signals.ensures.current (kept c).one_kept;
  same_later = arm-same c.in_ok-signals.signals c.args.self.now.later c.args.arm.now.later c.in_ok-signals.ensures.later (kept c).other_kept;
}

abbrev tracked : List ℕ → List ℕ → Tracked
tracked now base = record { now = now; base = base }

abbrev pair : Tracked → Tracked → Pair
pair current past = record { current = current; later = past }

back : (c : goal.After-drop-signals-2) → c.put-2.new.self.current ≡ c.args.self.now.current
back c =
    c.in_ok-put-2.ensures.current
    ∙ ap₂ tracked (ap (put c.in_ok-own.own.current) (arm c)
    ∙ arm-back c.in_ok-signals.signals c.args.self.now.current c.args.arm.now.current c.in_ok-own.own.current c.in_ok-signals.ensures.current (kept c).one_kept c.undo.ensures.long
    (c.in_ok-own.ensures.current ∙ ap (map (entry_at c.args.self.now.current.now)) c.as_slice-3.ensures))
    (ap (λ (m : Tracked). m.base) c.in_ok-put.ensures.current ∙ ap (λ (m : Pair). m.current.base) c.undo.ensures.new)

back_later : (c : goal.After-drop-signals-2) → c.put-2.new.self.later ≡ c.args.self.now.later
back_later c =
    c.in_ok-put-2.ensures.later
    ∙ ap₂ tracked (ap (put c.in_ok-own.own.later) (arm_later c)
    ∙ arm-back c.in_ok-signals.signals c.args.self.now.later c.args.arm.now.later c.in_ok-own.own.later c.in_ok-signals.ensures.later (kept c).other_kept c.undo.ensures.long_later
    (c.in_ok-own.ensures.later ∙ ap (map (entry_at c.args.self.now.later.now)) c.as_slice-3.ensures))
    (ap (λ (m : Tracked). m.base) c.in_ok-put.ensures.later ∙ ap (λ (m : Pair). m.later.base) c.undo.ensures.new)

pub returns-clause-same : goal.returns-clause-same
returns-clause-same c = ap₂ pair (back c) (back_later c)
