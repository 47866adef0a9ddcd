-- Two arms become one: each signal is what the arm that is taken leaves.
use Rattle.std.proofs.Common.{◌≡◌, ℕ, zero, suc, ◌+◌, ◌<◌, ◌≢◌, Bool, true, false, List, [], length, get_or, set, refl, sym, ◌∙◌, ap, ap₂, subst, arith, ◌⊎◌, inl, inr}
use Rattle.std.specs.Prelude.{◌&&◌, ◌==◌, nat_lt, if◌then◌else◌}
use Rattle.std.specs.List.{list_all}
use Rattle.std.proofs.lemmas.Bool.{eqb-true, lt-ltb, le-ltb, cases_order}
use Rattle.design_core.specs.declared.signal.Signal.{Signal}
use Rattle.design_core.specs.Valuation.{Valuation, number, width_at}
use Rattle.design_core.specs.Operator.{is_true, one_if}
use Rattle.design_core.specs.After.{Updates}
use Rattle.design_core.specs.WellFormed.{is_width, signal_fits}
use Rattle.design_core.proofs.NumberLaws.{number-same}
use Rattle.word_net.specs.declared.node.Operation.TheVariants as operation
use Rattle.word_net.specs.declared.node.WordNode.{WordNode}
use Rattle.word_net.specs.Values.{Source, values}
use Rattle.word_net.specs.Build.{Made, made, pushed, Means, Grown, Gives}
use Rattle.word_net.proofs.Meaning.{keep, grown-then, grown-none, pushed-gives}
use Rattle.synth_parts.specs.Expression.{unsigned}
use Rattle.synth_parts.specs.Statement.{Maps, maps, chosen_made, row_made, merged}
use Rattle.synth_parts.specs.Meaning.{Shows, ShowsBoth, ShowsBothIn}
use Rattle.synth_parts.proofs.Base.{signal-at, true-one_if, keep-shows}
use Rattle.synth_parts.proofs.StoreLaws.{set-shows}

-- a map shows each valuation that is the same in the signals of the design
pub shows-same : {e : Source} {signals : List Signal} {nodes : List WordNode} {nodes_of : List ℕ} {V : Valuation} (W : Valuation)
    → ((s b : ℕ) → s < length signals → V s b ≡ W s b) → Shows e signals nodes nodes_of V → Shows e signals nodes nodes_of W
shows-same {e} {signals} {nodes} {nodes_of} {V} W same shows = record {
  each = shows.each;
  are = λ s within. subst (λ v. Means e nodes (get_or nodes_of s 0) (width_at signals s) v) (number-same (width_at signals s) (V s) (W s) (λ b low. same s b within)) (shows.are s within);
}

-- one of two words
pub chosen-law : {e : Source} {nodes : List WordNode} {test one other width a b : ℕ} (t : Bool) → is_width width ≡ true → Means e nodes test 1 (one_if t)
    → Means e nodes one width a → Means e nodes other width b → Gives e nodes (chosen_made nodes test width one other) width (if t then a else b)
unfolding chosen_made
chosen-law {e} {nodes} {test} {one} {other} {width} {a} {b} t wide mt ma mb = at (one == other) refl
  where
    same : one ≡ other → b ≡ (if t then a else b)
    same is = case t
      where
        values_same : a ≡ b
        values_same = sym ma.is ∙ ap (λ n. get_or (values e [] nodes) n 0) is ∙ mb.is

        case : (t : Bool) → b ≡ (if t then a else b)
        case true = sym values_same
        case false = refl

    at : (q : Bool) → (one == other) ≡ q → Gives e nodes (if q then made nodes other else pushed nodes width (operation.Choose (unsigned test 1) (unsigned one width) (unsigned other width))) width (if t then a else b)
    at true is = record { grown = grown-none nodes; means = subst (λ v. Means e nodes other width v) (same (eqb-true one other is)) mb }
    at false is =
        pushed-gives e nodes width (operation.Choose (unsigned test 1) (unsigned one width) (unsigned other width)) (if t then a else b) wide
        (record { there = mt.there; wide = refl }, record { there = ma.there; wide = refl }, record { there = mb.there; wide = refl })
        (ap (λ v. if is_true v then get_or (values e [] nodes) one 0 else get_or (values e [] nodes) other 0) mt.is
        ∙ ap (λ v. if v then get_or (values e [] nodes) one 0 else get_or (values e [] nodes) other 0) (true-one_if t)
        ∙ ap₂ (λ u v. if t then u else v) ma.is mb.is)

-- the signals below s are those of the arm where the condition holds
abbrev pub mixed : Bool → ℕ → Valuation → Valuation → Valuation
mixed t s Y N r b = if t && nat_lt r s then Y r b else N r b

mixed-start : (t : Bool) (Y N : Valuation) (r b : ℕ) → N r b ≡ mixed t 0 Y N r b
mixed-start true Y N r b = rw (le-ltb r 0 (omega arith)) refl
mixed-start false Y N r b = refl

mixed-here : (t : Bool) (s : ℕ) (Y N : Valuation) (b : ℕ) → mixed t s Y N s b ≡ N s b
mixed-here true s Y N b = rw (le-ltb s s (omega arith)) refl
mixed-here false s Y N b = refl

mixed-next : (t : Bool) (s : ℕ) (Y N : Valuation) (b : ℕ) → mixed t (s + 1) Y N s b ≡ (if t then Y s b else N s b)
mixed-next true s Y N b = rw (lt-ltb s (s + 1) (omega arith)) refl
mixed-next false s Y N b = refl

mixed-other : (t : Bool) (s : ℕ) (Y N : Valuation) (r b : ℕ) → r ≢ s → mixed t (s + 1) Y N r b ≡ mixed t s Y N r b
mixed-other false s Y N r b apart = refl
mixed-other true s Y N r b apart = at (cases_order r s)
  where
    at : (r ≡ s) ⊎ ((r < s) ⊎ (s < r)) → mixed true (s + 1) Y N r b ≡ mixed true s Y N r b
    at (inl same) = absurd (apart same)
    at (inr (inl low)) = rw (lt-ltb r s low, lt-ltb r (s + 1) (omega (arith, low))) refl
    at (inr (inr high)) = rw (le-ltb r s (omega (arith, high)), le-ltb r (s + 1) (omega (arith, high))) refl

-- one signal of one map
record RowShows (e : Source) (signals : List Signal) (nodes : List WordNode) (m : Made) (nodes_of : List ℕ) (V : Valuation) : Type 0 where
  grown : Grown nodes m.nodes
  shows : Shows e signals m.nodes nodes_of V

row-law : {e : Source} {signals : List Signal} {nodes : List WordNode} {test : ℕ} {arm nodes_of : List ℕ} (t : Bool) (s : ℕ) (Y N : Valuation) → list_all signal_fits signals ≡ true → s < length signals
    → Means e nodes test 1 (one_if t) → Shows e signals nodes arm Y → Shows e signals nodes nodes_of (mixed t s Y N)
    → RowShows e signals nodes (chosen_made nodes test (width_at signals s) (get_or arm s 0) (get_or nodes_of s 0))
    (set nodes_of s (chosen_made nodes test (width_at signals s) (get_or arm s 0) (get_or nodes_of s 0)).node) (mixed t (s + 1) Y N)
row-law {e} {signals} {nodes} {test} {arm} {nodes_of} t s Y N own there mt one_shows other_shows =
    let w : ℕ = width_at signals s in
    let g = chosen-law t (signal-at signals s own (lt-ltb s (length signals) there)).0 mt (one_shows.are s there) (other_shows.are s there) in
    let m : Made = chosen_made nodes test w (get_or arm s 0) (get_or nodes_of s 0) in
    record {
      grown = g.grown;
      shows = set-shows (mixed t (s + 1) Y N) s other_shows g.grown there (subst (λ v. Means e m.nodes m.node w v) (word t) g.means) (λ r b apart. mixed-other t s Y N r b apart);
    }
  where
    word : (t : Bool) → (if t then number (width_at signals s) (Y s) else number (width_at signals s) (mixed t s Y N s)) ≡ number (width_at signals s) (mixed t (s + 1) Y N s)
    word true = number-same (width_at signals s) (Y s) (mixed true (s + 1) Y N s) (λ b low. sym (mixed-next true s Y N b))
    word false = refl

merged-from : {e : Source} {signals : List Signal} {test : ℕ} (arm : Maps) (t : Bool) (y n : Updates) (more : ℕ) (s : ℕ) (m : Maps) → list_all signal_fits signals ≡ true
    → Means e m.nodes test 1 (one_if t) → Shows e signals m.nodes arm.now y.now → Shows e signals m.nodes arm.later y.later
    → Shows e signals m.nodes m.now (mixed t s y.now n.now) → Shows e signals m.nodes m.later (mixed t s y.later n.later) → s + more ≡ length signals
    → ShowsBothIn e signals m.nodes (merged signals test arm m s more) (if t then y else n)
unfolding merged row_made
merged-from {e} {signals} {test} arm t y n zero s m own mt ynow ylater now later all =
    record { grown = grown-none m.nodes; shows = taken t now later }
  where
    end : s ≡ length signals
    end = omega (arith, all)

    last : (Y N : Valuation) (r b : ℕ) → r < length signals → mixed true s Y N r b ≡ Y r b
    last Y N r b within = rw (lt-ltb r s (omega (arith, within, end))) refl

    taken : (t : Bool) → Shows e signals m.nodes m.now (mixed t s y.now n.now) → Shows e signals m.nodes m.later (mixed t s y.later n.later) → ShowsBoth e signals m (if t then y else n)
    taken true a b = record { now = shows-same y.now (last y.now n.now) a; later = shows-same y.later (last y.later n.later) b }
    taken false a b = record { now = a; later = b }
merged-from {e} {signals} {test} arm t y n (suc more) s m own mt ynow ylater now later all =
    let w : ℕ = width_at signals s in
    let there : s < length signals = omega (arith, all) in
    let a : Made = chosen_made m.nodes test w (get_or arm.now s 0) (get_or m.now s 0) in
    let one = row-law t s y.now n.now own there mt ynow now in
    let b : Made = chosen_made a.nodes test w (get_or arm.later s 0) (get_or m.later s 0) in
    let other = row-law t s y.later n.later own there (keep one.grown mt) (keep-shows one.grown ylater) (keep-shows one.grown later) in
    let grown = grown-then one.grown other.grown in
    let rest = merged-from arm t y n more (s + 1) (maps b.nodes (set m.now s a.node) (set m.later s b.node)) own (keep grown mt) (keep-shows grown ynow) (keep-shows grown ylater)
    (keep-shows other.grown one.shows) other.shows (omega (arith, all)) in
    record { grown = grown-then grown rest.grown; shows = rest.shows }

-- both maps of two arms
pub merged-law : {e : Source} {signals : List Signal} {test : ℕ} (arm m : Maps) (t : Bool) (y n : Updates) → list_all signal_fits signals ≡ true
    → Means e m.nodes test 1 (one_if t) → Shows e signals m.nodes arm.now y.now → Shows e signals m.nodes arm.later y.later → ShowsBoth e signals m n
    → ShowsBothIn e signals m.nodes (merged signals test arm m 0 (length signals)) (if t then y else n)
merged-law {e} {signals} {test} arm m t y n own mt ynow ylater both =
    merged-from arm t y n (length signals) 0 m own mt ynow ylater
    (shows-same (mixed t 0 y.now n.now) (λ s b within. mixed-start t y.now n.now s b) both.now)
    (shows-same (mixed t 0 y.later n.later) (λ s b within. mixed-start t y.later n.later s b) both.later) (omega arith)
