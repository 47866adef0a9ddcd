-- What clocked blocks leave for their registers, by their resets and by their bodies.
use Rattle.std.proofs.Common.{◌≡◌, ℕ, zero, suc, ◌+◌, ◌^◌, ◌<◌, ◌≤◌, ◌≢◌, Bool, true, false, not, List, [], ◌∷◌, length, get_or, Option, Some, None, refl, sym, ◌∙◌, ap, ap₂, subst, arith, ◌⊎◌, inl, inr}
use Rattle.std.specs.Prelude.{◌&&◌, ◌==◌, nat_lt, if◌then◌else◌, Contains}
use Rattle.std.specs.Option.{option_map_or}
use Rattle.std.specs.List.{list_all, list_any}
use Rattle.std.proofs.lemmas.Bool.{and_parts, lt-ltb, le-ltb, eqb-true, cases_order, cases_lt}
use Rattle.std.proofs.lemmas.Option.{slice_get_past}
use Rattle.loc_base.proofs.ShelfBools.{not-not}
use Rattle.design_core.specs.declared.signal.Signal.{Signal}
use Rattle.design_core.specs.declared.expression.UnaryOp.TheVariants as unary_op
use Rattle.design_core.specs.declared.statement.Stmt.{Stmt}
use Rattle.design_core.specs.declared.driver.Clocked.{Clocked}
use Rattle.design_core.specs.declared.driver.Reset.{Reset}
use Rattle.design_core.specs.declared.design.Design.{Design}
use Rattle.design_core.specs.Valuation.{Valuation, bit, number, width_at}
use Rattle.design_core.specs.Operator.{is_true, one_if}
use Rattle.design_core.specs.After.{after, Updates}
use Rattle.design_core.specs.Drives.{is_register_bit, block_drives, block_assigns_later}
use Rattle.design_core.specs.Cycle.{left, left_from}
use Rattle.design_core.specs.Steps.{with_reset, with_resets, with_body, with_bodies}
use Rattle.design_core.specs.WellFormed.{is_width, signal_fits, statement_fits, is_reset_values, reset_fits, clocked_fits}
use Rattle.design_core.proofs.NumberLaws.{number-zero, number-suc, number-below, number-same}
use Rattle.design_core.proofs.Lists.{Contains-first, Contains-later}
use Rattle.word_net.specs.declared.node.Operation.TheVariants as operation
use Rattle.word_net.specs.declared.node.WordNode.{WordNode}
use Rattle.word_net.specs.Values.{Source, values}
use Rattle.word_net.specs.Build.{Made, made, pushed, Means, Grown, Gives}
use Rattle.word_net.proofs.Meaning.{keep, grown-then, grown-none, pushed-gives}
use Rattle.v_synth.specs.declared.clocked.Turn.{Turn}
use Rattle.v_synth.specs.declared.clocked.Turn.TheVariants.{When, Unless, Always}
use Rattle.synth_parts.specs.Expression.{unsigned}
use Rattle.synth_parts.specs.Statement.{Maps, maps, statement_made}
use Rattle.v_synth.specs.Clocked.{own_mask, left_at, turned_made, own_made, owns_made, left_made, active_made, reset_made, resets_made, body_made, bodies_made}
use Rattle.synth_parts.specs.Meaning.{Shows, ShowsIn, ShowsBoth, word_of}
use Rattle.synth_parts.proofs.Base.{signal-at, bit-number, true-one_if, gives-then, gives-is, keep-shows}
use Rattle.synth_parts.proofs.StoreLaws.{set-shows}
use Rattle.synth_parts.proofs.MergeLaws.{shows-same}
use Rattle.synth_parts.proofs.StatementLaws.{statement-law}
use Rattle.v_synth.proofs.Begun.{no-bits}

-- ---- one signal of a block

-- t: what the block leaves counts
TurnMeans : Source → List WordNode → Turn → Bool → Type 0
TurnMeans e nodes (When test) t = Means e nodes test 1 (one_if t)
TurnMeans e nodes (Unless test) t = Means e nodes test 1 (one_if (not t))
TurnMeans e nodes Always t = t ≡ true

keep-turn : (e : Source) {before after : List WordNode} (turn : Turn) (t : Bool) → Grown before after → TurnMeans e before turn t → TurnMeans e after turn t
unfolding TurnMeans
keep-turn e (When test) t grown m = keep grown m
keep-turn e (Unless test) t grown m = keep grown m
keep-turn e Always t grown m = m

turned-law : {e : Source} {nodes : List WordNode} {width one other a b : ℕ} (turn : Turn) (t : Bool) → is_width width ≡ true → TurnMeans e nodes turn t → Means e nodes one width a → Means e nodes other width b
    → Gives e nodes (turned_made turn nodes width one other) width (if t then a else b)
unfolding turned_made TurnMeans
turned-law {e} {nodes} {width} {one} {other} {a} {b} (When test) t wide m ma mb =
    pushed-gives e nodes width (operation.Choose (unsigned test 1) (unsigned one width) (unsigned other width)) (if t then a else b) wide
    (record { there = m.there; wide = refl }, record { there = ma.there; wide = refl }, record { there = mb.there; wide = refl })
    (ap (λ v. if is_true v then get_or (values e [] nodes) one 0 else get_or (values e [] nodes) other 0) m.is
    ∙ ap (λ v. if v then get_or (values e [] nodes) one 0 else get_or (values e [] nodes) other 0) (true-one_if t)
    ∙ ap₂ (λ u v. if t then u else v) ma.is mb.is)
turned-law {e} {nodes} {width} {one} {other} {a} {b} (Unless test) t wide m ma mb =
    pushed-gives e nodes width (operation.Choose (unsigned test 1) (unsigned other width) (unsigned one width)) (if t then a else b) wide
    (record { there = m.there; wide = refl }, record { there = mb.there; wide = refl }, record { there = ma.there; wide = refl })
    (ap (λ v. if is_true v then get_or (values e [] nodes) other 0 else get_or (values e [] nodes) one 0) m.is
    ∙ ap (λ v. if v then get_or (values e [] nodes) other 0 else get_or (values e [] nodes) one 0) (true-one_if (not t))
    ∙ ap₂ (λ u v. if not t then v else u) ma.is mb.is ∙ turn_round t)
  where
    turn_round : (t : Bool) → (if not t then b else a) ≡ (if t then a else b)
    turn_round true = refl
    turn_round false = refl
turned-law {e} {nodes} {width} {one} {other} {a} {b} Always t wide m ma mb =
    record { grown = grown-none nodes; means = subst (λ v. Means e nodes one width v) (sym (ap (λ t. if t then a else b) m)) ma }

-- a block's own bits as it leaves them where that counts
abbrev pub own_bits : Design → Clocked → Bool → Valuation → Valuation → Valuation
own_bits d block t L W s b = if t && (is_register_bit d s b && block_drives d.signals.items s b block) then L s b else W s b

left-means : {e : Source} {signals : List Signal} {m : Maps} {u : Updates} (block : Clocked) (s : ℕ) → s < length signals → ShowsBoth e signals m u
    → Means e m.nodes (left_at block m s) (width_at signals s) (number (width_at signals s) (left block u s))
left-means {e} {signals} {m} {u} block s there both = at (block_assigns_later s block)
  where
    at : (t : Bool) → Means e m.nodes (if t then get_or m.later s 0 else get_or m.now s 0) (width_at signals s) (number (width_at signals s) (λ b. if t then u.later s b else u.now s b))
    at true = both.later.are s there
    at false = both.now.are s there

own-law : {e : Source} {nodes : List WordNode} {so_far : ℕ} (m : Maps) (d : Design) (block : Clocked) (turn : Turn) (t : Bool) (L W : Valuation) (s : ℕ) → is_width (width_at d.signals.items s) ≡ true
    → TurnMeans e nodes turn t → Means e nodes (left_at block m s) (width_at d.signals.items s) (word_of d.signals.items L s) → Means e nodes so_far (width_at d.signals.items s) (word_of d.signals.items W s)
    → Gives e nodes (own_made d block turn m nodes s so_far) (width_at d.signals.items s) (word_of d.signals.items (own_bits d block t L W) s)
unfolding own_made
own-law {e} {nodes} {so_far} m d block turn t L W s wide mt ml mw = at (own_mask d block s == 0) refl
  where
    w : ℕ
    w = width_at d.signals.items s

    own : ℕ → Bool
    own b = is_register_bit d s b && block_drives d.signals.items s b block

    blend : Made
    blend = pushed nodes w (operation.Blend (own_mask d block s) (unsigned (left_at block m s) w) (unsigned so_far w))

    left_or : ℕ
    left_or = number w (λ b. if own b then L s b else W s b)

    not_own : (t x a c : Bool) → x ≡ false → c ≡ (if t && x then a else c)
    not_own true x a c is = rw is refl
    not_own false x a c is = refl

    chosen : (t : Bool) → (if t then left_or else word_of d.signals.items W s) ≡ word_of d.signals.items (own_bits d block t L W) s
    chosen true = refl
    chosen false = refl

    at : (q : Bool) → (own_mask d block s == 0) ≡ q → Gives e nodes (if q then made nodes so_far else turned_made turn blend.nodes w blend.node so_far) w (word_of d.signals.items (own_bits d block t L W) s)
    at true none =
        record {
          grown = grown-none nodes;
          means = subst (λ v. Means e nodes so_far w v) (number-same w (W s) (own_bits d block t L W s) (λ b low. not_own t (own b) (L s b) (W s b) (no-bits w own b none low))) mw;
        }
    at false some =
        let b = pushed-gives e nodes w (operation.Blend (own_mask d block s) (unsigned (left_at block m s) w) (unsigned so_far w)) left_or wide
        (record { there = ml.there; wide = refl }, record { there = mw.there; wide = refl }, number-below w own)
        (ap₂ (λ x y. number w (λ b. if bit (own_mask d block s) b then bit x b else bit y b)) ml.is mw.is
        ∙ number-same w (λ b. if bit (own_mask d block s) b then bit (word_of d.signals.items L s) b else bit (word_of d.signals.items W s) b) (λ b. if own b then L s b else W s b)
        (λ b low. ap (λ t. if t then bit (word_of d.signals.items L s) b else bit (word_of d.signals.items W s) b) (bit-number w own b low)
        ∙ ap₂ (λ x y. if own b then x else y) (bit-number w (L s) b low) (bit-number w (W s) b low))) in
        gives-is (chosen t) (gives-then b.grown (turned-law turn t wide (keep-turn e turn t b.grown mt) b.means (keep b.grown mw)))

-- ---- all signals of a block

-- the signals below s are done
abbrev pub done_below : ℕ → Valuation → Valuation → Valuation
done_below s Z W r b = if nat_lt r s then Z r b else W r b

owns-law : {e : Source} (m : Maps) (d : Design) (block : Clocked) (turn : Turn) (t : Bool) (L W : Valuation) (more : ℕ) {nodes : List WordNode} {nodes_of : List ℕ} (s : ℕ)
    → list_all signal_fits d.signals.items ≡ true → s + more ≡ length d.signals.items → TurnMeans e nodes turn t
    → ((r : ℕ) → r < length d.signals.items → Means e nodes (left_at block m r) (width_at d.signals.items r) (word_of d.signals.items L r))
    → Shows e d.signals.items nodes nodes_of (done_below s (own_bits d block t L W) W)
    → ShowsIn e d.signals.items nodes (owns_made d block turn m nodes nodes_of s more) (own_bits d block t L W)
unfolding owns_made
owns-law {e} m d block turn t L W zero {nodes} s fit all mt ml shows =
    record { grown = grown-none nodes; shows = shows-same (own_bits d block t L W) (λ r b within. last r b within) shows }
  where
    last : (r b : ℕ) → r < length d.signals.items → done_below s (own_bits d block t L W) W r b ≡ own_bits d block t L W r b
    last r b within = rw (lt-ltb r s (omega (arith, within, all))) refl
owns-law {e} m d block turn t L W (suc more) {nodes} {nodes_of} s fit all mt ml shows =
    let there : s < length d.signals.items = omega (arith, all) in
    let Z : Valuation = own_bits d block t L W in
    let w : ℕ = width_at d.signals.items s in
    let old = subst (λ v. Means e nodes (get_or nodes_of s 0) w v) (number-same w (done_below s Z W s) (W s) (λ b low. here b)) (shows.are s there) in
    let g = own-law m d block turn t L W s (signal-at d.signals.items s fit (lt-ltb s (length d.signals.items) there)).0 mt (ml s there) old in
    let a : Made = own_made d block turn m nodes s (get_or nodes_of s 0) in
    let now = set-shows (done_below (s + 1) Z W) s shows g.grown there (subst (λ v. Means e a.nodes a.node w v) (number-same w (Z s) (done_below (s + 1) Z W s) (λ b low. next b)) g.means) (λ r b apart. other r b (cases_order r s) apart) in
    let rest = owns-law m d block turn t L W more (s + 1) fit (omega (arith, all)) (keep-turn e turn t g.grown mt) (λ r within. keep g.grown (ml r within)) now in
    record { grown = grown-then g.grown rest.grown; shows = rest.shows }
  where
    Y : Valuation
    Y = own_bits d block t L W

    here : (b : ℕ) → done_below s Y W s b ≡ W s b
    here b = rw (le-ltb s s (omega arith)) refl

    next : (b : ℕ) → Y s b ≡ done_below (s + 1) Y W s b
    next b = rw (lt-ltb s (s + 1) (omega arith)) refl

    other : (r b : ℕ) → (r ≡ s) ⊎ ((r < s) ⊎ (s < r)) → r ≢ s → done_below (s + 1) Y W r b ≡ done_below s Y W r b
    other r b (inl same) apart = absurd (apart same)
    other r b (inr (inl low)) apart = rw (lt-ltb r s low, lt-ltb r (s + 1) (omega (arith, low))) refl
    other r b (inr (inr high)) apart = rw (le-ltb r s (omega (arith, high)), le-ltb r (s + 1) (omega (arith, high))) refl

left-law : {e : Source} {nodes : List WordNode} {from nodes_of : List ℕ} {E W : Valuation} (d : Design) (block : Clocked) (turn : Turn) (t : Bool) (statement : Stmt) → list_all signal_fits d.signals.items ≡ true
    → statement_fits d.signals.items d.places.items statement ≡ true → TurnMeans e nodes turn t → Shows e d.signals.items nodes from E → Shows e d.signals.items nodes nodes_of W
    → ShowsIn e d.signals.items nodes (left_made d block turn statement nodes from nodes_of) (own_bits d block t (left_from d.signals.items e.choice block E statement) W)
unfolding left_made
left-law {e} {nodes} {from} {nodes_of} {E} {W} d block turn t statement fit fits mt start shows =
    let s = statement-law d.places.items statement (maps nodes from from) fit fits (record { now = start; later = start }) in
    let m : Maps = statement_made d.signals.items (maps nodes from from) statement in
    let L : Valuation = left_from d.signals.items e.choice block E statement in
    let all = owns-law m d block turn t L W (length d.signals.items) 0 fit (omega arith) (keep-turn e turn t s.grown mt) (λ r within. left-means block r within s.shows)
    (shows-same (done_below 0 (own_bits d block t L W) W) (λ r b within. none r b) (keep-shows s.grown shows)) in
    record { grown = grown-then s.grown all.grown; shows = all.shows }
  where
    none : (r b : ℕ) → W r b ≡ done_below 0 (own_bits d block t (left_from d.signals.items e.choice block E statement) W) W r b
    none r b = rw (le-ltb r 0 (omega arith)) refl

-- ---- resets

one-bit : (f : ℕ → Bool) → number 1 f ≡ one_if (f 0)
one-bit f = number-suc 0 f ∙ ap (λ n. n + (if f 0 then 2 ^ 0 else 0)) (number-zero f) ∙ at (f 0)
  where
    at : (t : Bool) → 0 + (if t then 2 ^ 0 else 0) ≡ one_if t
    at true = refl
    at false = refl

-- a signal of one bit is there
pub wide-there : (signals : List Signal) (s : ℕ) → width_at signals s ≡ 1 → s < length signals
wide-there signals s one = at (cases_lt s (length signals))
  where
    at : (s < length signals) ⊎ (length signals ≤ s) → s < length signals
    at (inl low) = low
    at (inr high) = let none : width_at signals s ≡ 0 = ap (λ o. option_map_or (λ s. s.width) o 0) (slice_get_past signals s high) in absurd (omega (arith, none, one))

-- whether a reset is active
abbrev reset_active : Valuation → Reset → Bool
reset_active E r = if r.level then E r.signal 0 else not (E r.signal 0)

active-law : {e : Source} {nodes : List WordNode} {from : List ℕ} {E : Valuation} (signals : List Signal) (r : Reset) → width_at signals r.signal ≡ 1 → Shows e signals nodes from E
    → Gives e nodes (active_made nodes from r) 1 (one_if (reset_active E r))
unfolding active_made
active-law {e} {nodes} {from} {E} signals r one shows = at r.level
  where
    word : ℕ
    word = get_or from r.signal 0

    means : Means e nodes word 1 (one_if (E r.signal 0))
    means =
        subst (λ v. Means e nodes word 1 v) (one-bit (E r.signal))
        (subst (λ w. Means e nodes word w (number w (E r.signal))) one (shows.are r.signal (wide-there signals r.signal one)))

    at : (level : Bool) → Gives e nodes (if level then made nodes word else pushed nodes 1 (operation.Unary unary_op.LogicalNot (unsigned word 1))) 1 (one_if (if level then E r.signal 0 else not (E r.signal 0)))
    at true = record { grown = grown-none nodes; means = means }
    at false =
        pushed-gives e nodes 1 (operation.Unary unary_op.LogicalNot (unsigned word 1)) (one_if (not (E r.signal 0))) refl (means.there, refl)
        (ap (λ v. one_if (not (is_true v))) means.is ∙ ap (λ t. one_if (not t)) (true-one_if (E r.signal 0)))

-- what a reset's signal and values are
pub reset-parts : (d : Design) (r : Reset) → reset_fits d r ≡ true → (width_at d.signals.items r.signal ≡ 1) × (statement_fits d.signals.items d.places.items r.values ≡ true)
reset-parts d r fits =
    let listed : Bool = list_any (λ input. input == r.signal) d.inputs.items in
    let one : Bool = width_at d.signals.items r.signal == 1 in
    let constant : Bool = is_reset_values r.values in
    let f = and_parts (listed && one && constant) (statement_fits d.signals.items d.places.items r.values) fits in
    let g = and_parts (listed && one) constant f.0 in
    (eqb-true (width_at d.signals.items r.signal) 1 (and_parts listed one g.0).1, f.1)

-- what fits in a block
pub block-parts : (d : Design) (block : Clocked) → clocked_fits d block ≡ true → (statement_fits d.signals.items d.places.items block.body ≡ true) × ((r : Reset) → block.reset ≡ Some r → reset_fits d r ≡ true)
block-parts d block fits =
    let f = and_parts (statement_fits d.signals.items d.places.items block.body) (option_map_or (reset_fits d) block.reset true) fits in
    (f.0, λ r is. sym (ap (λ o. option_map_or (reset_fits d) o true) is) ∙ f.1)

reset-law : {e : Source} {nodes : List WordNode} {from nodes_of : List ℕ} {E W : Valuation} (d : Design) (block : Clocked) (o : Option Reset) → block.reset ≡ o → list_all signal_fits d.signals.items ≡ true
    → clocked_fits d block ≡ true → Shows e d.signals.items nodes from E → Shows e d.signals.items nodes nodes_of W
    → ShowsIn e d.signals.items nodes (reset_made d from block o nodes nodes_of) (with_reset d e.choice E block W)
unfolding reset_made TurnMeans
reset-law {e} {nodes} {from} {nodes_of} {E} {W} d block None is fit fits start shows =
    record { grown = grown-none nodes; shows = shows-same (with_reset d e.choice E block W) (λ s b within. kept s b) shows }
  where
    kept : (s b : ℕ) → W s b ≡ with_reset d e.choice E block W s b
    kept s b = sym (ap (λ o. if option_map_or (λ r. if r.level then E r.signal 0 else not (E r.signal 0)) o false && (is_register_bit d s b && block_drives d.signals.items s b block)
        then option_map_or (λ r. left_from d.signals.items e.choice block E r.values s b) block.reset false else W s b) is)
reset-law {e} {nodes} {from} {nodes_of} {E} {W} d block (Some r) is fit fits start shows =
    let parts = reset-parts d r ((block-parts d block fits).1 r is) in
    let a = active-law d.signals.items r parts.0 start in
    let t : Made = active_made nodes from r in
    let all = left-law d block (When t.node) (reset_active E r) r.values fit parts.1 (turn t.nodes t.node a.means) (keep-shows a.grown start) (keep-shows a.grown shows) in
    record { grown = grown-then a.grown all.grown; shows = shows-same (with_reset d e.choice E block W) (λ s b within. same s b) all.shows }
  where
    turn : (after : List WordNode) (n : ℕ) → Means e after n 1 (one_if (reset_active E r)) → TurnMeans e after (When n) (reset_active E r)
    turn after n m = m

    same : (s b : ℕ) → own_bits d block (reset_active E r) (left_from d.signals.items e.choice block E r.values) W s b ≡ with_reset d e.choice E block W s b
    same s b = sym (ap (λ o. if option_map_or (λ r. if r.level then E r.signal 0 else not (E r.signal 0)) o false && (is_register_bit d s b && block_drives d.signals.items s b block)
        then option_map_or (λ r. left_from d.signals.items e.choice block E r.values s b) o false else W s b) is)

pub resets-law : {e : Source} {from : List ℕ} {E : Valuation} (d : Design) (blocks : List Clocked) {nodes : List WordNode} {nodes_of : List ℕ} {W : Valuation} → list_all signal_fits d.signals.items ≡ true
    → ((block : Clocked) → Contains blocks block → clocked_fits d block ≡ true) → Shows e d.signals.items nodes from E → Shows e d.signals.items nodes nodes_of W
    → ShowsIn e d.signals.items nodes (resets_made d from nodes nodes_of blocks) (with_resets d e.choice E blocks W)
unfolding resets_made
resets-law d [] {nodes} fit fits start shows = record { grown = grown-none nodes; shows = shows }
resets-law d (block ∷ blocks) fit fits start shows =
    let one = reset-law d block block.reset refl fit (fits block (Contains-first block blocks)) start shows in
    let rest = resets-law d blocks fit (λ other member. fits other (Contains-later block blocks other member)) (keep-shows one.grown start) one.shows in
    record { grown = grown-then one.grown rest.grown; shows = rest.shows }

-- ---- bodies
body-law : {e : Source} {nodes : List WordNode} {from nodes_of : List ℕ} {V N : Valuation} (d : Design) (block : Clocked) (o : Option Reset) → block.reset ≡ o → list_all signal_fits d.signals.items ≡ true
    → clocked_fits d block ≡ true → Shows e d.signals.items nodes from V → Shows e d.signals.items nodes nodes_of N
    → ShowsIn e d.signals.items nodes (body_made d from block o nodes nodes_of) (with_body d e.choice V block N)
unfolding body_made TurnMeans
body-law {e} {nodes} {from} {nodes_of} {V} {N} d block None is fit fits start shows =
    let all = left-law d block Always true block.body fit (block-parts d block fits).0 (turn nodes) start shows in
    record { grown = all.grown; shows = shows-same (with_body d e.choice V block N) (λ s b within. same s b) all.shows }
  where
    turn : (after : List WordNode) → TurnMeans e after Always true
    turn after = refl

    same : (s b : ℕ) → own_bits d block true (left_from d.signals.items e.choice block V block.body) N s b ≡ with_body d e.choice V block N s b
    same s b = sym (ap (λ o. if not (option_map_or (λ r. if r.level then V r.signal 0 else not (V r.signal 0)) o false) && (is_register_bit d s b && block_drives d.signals.items s b block)
        then left_from d.signals.items e.choice block V block.body s b else N s b) is)
body-law {e} {nodes} {from} {nodes_of} {V} {N} d block (Some r) is fit fits start shows =
    let both = block-parts d block fits in
    let parts = reset-parts d r (both.1 r is) in
    let a = active-law d.signals.items r parts.0 start in
    let t : Made = active_made nodes from r in
    let all = left-law d block (Unless t.node) (not (reset_active V r)) block.body fit both.0 (turn t.nodes t.node a.means) (keep-shows a.grown start) (keep-shows a.grown shows) in
    record { grown = grown-then a.grown all.grown; shows = shows-same (with_body d e.choice V block N) (λ s b within. same s b) all.shows }
  where
    turn : (after : List WordNode) (n : ℕ) → Means e after n 1 (one_if (reset_active V r)) → TurnMeans e after (Unless n) (not (reset_active V r))
    turn after n m = subst (λ t. Means e after n 1 (one_if t)) (sym (not-not (reset_active V r))) m

    same : (s b : ℕ) → own_bits d block (not (reset_active V r)) (left_from d.signals.items e.choice block V block.body) N s b ≡ with_body d e.choice V block N s b
    same s b = sym (ap (λ o. if not (option_map_or (λ r. if r.level then V r.signal 0 else not (V r.signal 0)) o false) && (is_register_bit d s b && block_drives d.signals.items s b block)
        then left_from d.signals.items e.choice block V block.body s b else N s b) is)

pub bodies-law : {e : Source} {from : List ℕ} {V : Valuation} (d : Design) (blocks : List Clocked) {nodes : List WordNode} {nodes_of : List ℕ} {N : Valuation} → list_all signal_fits d.signals.items ≡ true
    → ((block : Clocked) → Contains blocks block → clocked_fits d block ≡ true) → Shows e d.signals.items nodes from V → Shows e d.signals.items nodes nodes_of N
    → ShowsIn e d.signals.items nodes (bodies_made d from nodes nodes_of blocks) (with_bodies d e.choice V blocks N)
unfolding bodies_made
bodies-law d [] {nodes} fit fits start shows = record { grown = grown-none nodes; shows = shows }
bodies-law d (block ∷ blocks) fit fits start shows =
    let one = body-law d block block.reset refl fit (fits block (Contains-first block blocks)) start shows in
    let rest = bodies-law d blocks fit (λ other member. fits other (Contains-later block blocks other member)) (keep-shows one.grown start) one.shows in
    record { grown = grown-then one.grown rest.grown; shows = rest.shows }
